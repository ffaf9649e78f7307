-- The definition of what is read, on worked texts: each row computes. The moment is 2009-08-30 19:20:00 in UTC.
use Rattle.std.proofs.Common.{◌≡◌, refl, List, [], ◌∷◌, ◌++◌, ℕ, ℤ, pos, neg_ℤ, map, Option, Some, None, Result, Ok, Err}
use Prim.Native.String.{String}
use Rattle.std.specs.Prelude.{codes, unwrap_or}
use Rattle.gix_date.specs.declared.time.Time.{Time}
use Rattle.git_date.specs.Exact.Computing.{computing}
use Rattle.git_date.specs.Exact.Outcome.{date_at, date_in}
use Rattle.git_date.specs.Exact.Reading.{said_by}
use Rattle.git_date.specs.Tokens.Strings.{nul}
use Rattle.git_date.specs.declared.reader.ExactDate.{ExactDate}
use Rattle.git_date.proofs.Rows.RowMoment.{row_now}
use Rattle.git_date.specs.declared.error.DateError.{DateError}
use Rattle.git_date.specs.declared.error.DateError.TheVariants.{Unreadable, NumberTooLarge, YearRefused, Range}
use Rattle.git_date.specs.declared.reader.Said.{Said}

abbrev time_read : Result ExactDate DateError → Result Time DateError
time_read (Ok date) = Ok date.time
time_read (Err e) = Err e

-- the time of a date in UTC, where it says no offset
abbrev in_utc : Result Said DateError → Result Time DateError
in_utc (Ok said) = time_read (date_at said (unwrap_or said.offset (pos 0)))
in_utc (Err e) = Err e

abbrev at : ℕ → ℤ → Time
at seconds offset = record { seconds = pos seconds; offset = offset }

-- each row is a text and its time, or its refusal
abbrev Reads : List (String × Result Time DateError) → Type 0
Reads rows = map (λ row. in_utc (said_by row_now (codes row.0))) rows ≡ map (λ row. row.1) rows

groups :
    Reads
    (("2008.02.14 20:30:45 -0500", Ok (at 1203039045 (neg_ℤ (pos 18000))))
    ∷ ("2020-25-12 10:00 Z", Ok (at 1608890400 (pos 0)))
    ∷ ("05/06/2009 10:00 +0000", Ok (at 1241604000 (pos 0)))
    ∷ ("05.06.2009 10:00 +0000", Ok (at 1244196000 (pos 0)))
    ∷ ("12/25/08 10:00 +0000", Ok (at 1230199200 (pos 0)))
    ∷ ("25/12/08 10:00 +0000", Ok (at 1230199200 (pos 0)))
    ∷ ("12/31/2040 10:00 +0000", Ok (at 2240560800 (pos 0)))
    ∷ ("10:00 12/31/2040 +0000", Err Unreadable)
    ∷ ("1900-02-03 10:00 2009 +0000", Err (YearRefused 0))
    ∷ ("10:00 4294967301-01-02 +0000", Err (NumberTooLarge 6))
    ∷ ("Thu, 07 Apr 2005 22:13:13 +0200", Ok (at 1112904793 (pos 7200)))
    ∷ ("2005-04-07T22:13:13.019", Ok (at 1112911993 (pos 0)))
    ∷ ("20080214T203045.019-04:00", Ok (at 1203035445 (neg_ℤ (pos 14400))))
    ∷ ("2008-02-14", Err Unreadable) ∷ [])
unfolding computing
groups = refl

words_and_numbers :
    Reads
    (("1234567890 +0530", Ok (at 1234567890 (pos 19800)))
    ∷ ("99999999 +0000", Err Unreadable)
    ∷ ("@99999999 +0000", Ok (at 99999999 (pos 0)))
    ∷ ("@5", Err Unreadable)
    ∷ ("2008-02-14 20:30:45 EST PST", Ok (at 1203039045 (neg_ℤ (pos 18000))))
    ∷ ("2008-02-14 20:30:45 CST +0800", Ok (at 1202992245 (pos 28800)))
    ∷ ("2009-01-01 12:30 AM +0000", Ok (at 1230769800 (pos 0)))
    ∷ ("2009-01-01 PM 10:00 +0000", Ok (at 1230804000 (pos 0)))
    ∷ ("1 Apr 05 10:00 +0000", Ok (at 1112349600 (pos 0)))
    ∷ ("1 Apr 15 10:00 +0000", Err Unreadable)
    ∷ ("2009-01-01 10:00 1030", Ok (at 1230766200 (pos 37800)))
    ∷ ("2009-01-01 10:00 +05: 3", Ok (at 1230785820 (pos 18180)))
    ∷ ("2009-01-01 10:00 +05:-3", Ok (at 1230786180 (pos 17820)))
    ∷ ("2009-01-01 10:00 +2400", Ok (at 1230804000 (pos 0))) ∷ [])
unfolding computing
words_and_numbers = refl

others :
    Reads
    (("April 2005 10:00 +0000", Ok (at 1112176800 (pos 0)))
    ∷ ("2005-02-31 10:00 +0000", Ok (at 1109844000 (pos 0)))
    ∷ ("2099-12-31 24:59:60 +0000", Ok (at 4102448400 (pos 0)))
    ∷ ("2100-01-01 10:00 +0000", Err (YearRefused 0))
    ∷ ("1970-01-01 00:00 +0100", Err Range)
    ∷ ("2008-02-14 20:30:45 -0001", Ok (at 1203021045 (pos 0)))
    ∷ ("20:30:45.5 Feb 14 2008 +0000", Ok (at 1202243445 (pos 0)))
    ∷ ("20:30:45.500 Feb 14 2008 +0000", Ok (at 1203021045 (pos 0)))
    ∷ ("2008-02-14 20:30:45 IST", Ok (at 1203021045 (pos 0))) ∷ [])
unfolding computing
others = refl

-- at the bounds of the rules, on either side
bounds :
    Reads
    (("7 Apr 2005 10:00 +0000", Ok (at 1112868000 (pos 0)))
    ∷ ("7 Ap 2005 10:00 +0000", Err Unreadable)
    ∷ ("2009-01-01 10:00 1400", Ok (at 1230753600 (pos 50400)))
    ∷ ("2009-01-01 10:00 1401", Ok (at 1230804000 (pos 0)))
    ∷ ("1/2/37 10:00 +0000", Ok (at 2114503200 (pos 0)))
    ∷ ("1/2/38 10:00 +0000", Err Unreadable)
    ∷ ("71-1-2 10:00 +0000", Ok (at 31658400 (pos 0)))
    ∷ ("70-1-2 10:00 +0000", Err Unreadable)
    ∷ ("2009-01-01 10:00 PM +0000", Ok (at 1230847200 (pos 0)))
    ∷ ("2009-01-01 12:30 pm +0000", Ok (at 1230813000 (pos 0)))
    ∷ ("2009-01-01 10:00 +2359", Ok (at 1230717660 (pos 86340)))
    ∷ ("2009-01-01 10:00 +05:60", Ok (at 1230804000 (pos 0))) ∷ [])
unfolding computing
bounds = refl

-- an offset where one is known, years that Git does not know, halves of an unknown hour, a month by its number alone
seldom :
    Reads
    (("2009-01-01 10:00 +0100 0530", Ok (at 1230800400 (pos 3600)))
    ∷ ("2009-01-01 10:00 2100", Ok (at 1230804000 (pos 0)))
    ∷ ("2009-01-01 10:00 1900", Ok (at 1230804000 (pos 0)))
    ∷ ("PM 1234567890 +0000", Err Unreadable)
    ∷ ("AM 1234567890 +0000", Ok (at 1234567890 (pos 0)))
    ∷ ("00 April 10:00 +0000", Err Unreadable)
    ∷ ("31 12 2009 10:00 +0000", Ok (at 1262253600 (pos 0)))
    ∷ ("000010:30 2009-01-01 +0000", Ok (at 1230805800 (pos 0))) ∷ [])
unfolding computing
seldom = refl

abbrev said_ignored : Result Said DateError → Option ℕ
said_ignored (Ok said) = said.ignored
said_ignored (Err e) = None

-- what no rule used: numbers that are no year, and zones of two letters
not_used : map (λ text. said_ignored (said_by row_now (codes text)))
    ("2009-01-01 10:00 1900" ∷ "2009-01-01 10:00 2100" ∷ "2008-02-14 20:30:45 UT" ∷ [])
    ≡ Some 17 ∷ Some 17 ∷ Some 20 ∷ []
unfolding computing
not_used = refl

-- the zone's offset counts in whole minutes, toward zero
abbrev at_zone : ℤ → Result Said DateError → Result Time DateError
at_zone offset (Ok said) = time_read (date_in said (Some offset))
at_zone offset (Err e) = Err e

toward_zero : map (λ offset. at_zone offset (said_by row_now (codes "2009-01-01 10:00"))) (pos 3208 ∷ neg_ℤ (pos 3208) ∷ [])
    ≡ Ok (at 1230800820 (pos 3180)) ∷ Ok (at 1230807180 (neg_ℤ (pos 3180))) ∷ []
unfolding computing
toward_zero = refl

-- ten days after another moment, to the second
ten_days_after : map (λ text. in_utc (said_by (record { seconds = pos 1250191200 }) (codes text)))
    ("19:20:00 8/23/2009 +0000" ∷ "19:20:01 8/23/2009 +0000" ∷ [])
    ≡ Ok (at 1251055200 (pos 0)) ∷ Err Unreadable ∷ []
unfolding computing
ten_days_after = refl

-- each row is what stands before a NUL and after it, the time, and the place of what is ignored
abbrev CutRow : Type 0
CutRow = String × String × Result Time DateError × Option ℕ

abbrev said_of : CutRow → Result Said DateError
said_of row = said_by row_now (codes row.0 ++ (nul ∷ codes row.1))

abbrev read_cut : CutRow → Result Time DateError × Option ℕ
read_cut row = (in_utc (said_of row), said_ignored (said_of row))

abbrev due : CutRow → Result Time DateError × Option ℕ
due row = (row.2, row.3)

abbrev ReadsUpToNul : List CutRow → Type 0
ReadsUpToNul rows = map read_cut rows ≡ map due rows

cut_rows :
    ReadsUpToNul
    (("Thu, 14 Feb 2008 20:30:45 +0000", " +0500", Ok (at 1203021045 (pos 0)), Some 31)
    ∷ ("2008-02-14 20:30:45 -0500", "", Ok (at 1203039045 (neg_ℤ (pos 18000))), Some 25)
    ∷ ("2008-02-14 20:30:45 IST", " +0500", Ok (at 1203021045 (pos 0)), Some 20)
    ∷ ("@1203021045 +0200", "x", Ok (at 1203021045 (pos 7200)), Some 17)
    ∷ ("2008-02-14", " 20:30:45", Err Unreadable, None) ∷ [])
unfolding computing
cut_rows = refl
