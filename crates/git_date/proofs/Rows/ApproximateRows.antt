-- The definition of the approximate reader, on worked texts: each row computes. The moment is 2009-08-30 19:20:00 in UTC.
use Rattle.std.proofs.Common.{◌≡◌, refl, List, [], ◌∷◌, ◌++◌, ℕ, ℤ, pos, Bool, true, false, map, Option, Some, None, Result, Ok, Err}
use Prim.Native.String.{String}
use Rattle.std.specs.Prelude.{codes}
use Rattle.git_date.specs.Approximate.Reading.{guess}
use Rattle.git_date.specs.Approximate.Computing.{approximating}
use Rattle.git_date.specs.Approximate.Expiry.{fixed_expiry}
use Rattle.git_date.specs.Exact.Computing.{computing}
use Rattle.git_date.specs.Exact.Zones.{one_offset}
use Rattle.git_date.specs.Tokens.Strings.{nul, before_nul}
use Rattle.git_date.specs.declared.approximate.Approximate.{Approximate}
use Rattle.git_date.specs.declared.approximate.expiry.Expiry.TheVariants.{Never, All}
use Rattle.git_date.proofs.Rows.RowMoment.{row_now}
use Rattle.git_date.specs.declared.error.DateError.{DateError}
use Rattle.git_date.specs.declared.error.DateError.TheVariants.{BackTooFar}

-- the guess in UTC
abbrev guessed : String → Result Approximate DateError
guessed text = guess (one_offset (pos 0)) row_now (codes text)

-- its seconds, and whether anything was understood
abbrev told : Result Approximate DateError → Result (ℤ × Bool) DateError
told (Ok date) = Ok (date.time.seconds, date.understood)
told (Err e) = Err e

abbrev is : ℕ → Result (ℤ × Bool) DateError
is seconds = Ok (pos seconds, true)

-- nothing was understood
abbrev doubtful : ℕ → Result (ℤ × Bool) DateError
doubtful seconds = Ok (pos seconds, false)

-- each row is a text and its seconds, or its refusal
abbrev Guesses : List (String × Result (ℤ × Bool) DateError) → Type 0
Guesses rows = map (λ row. told (guessed row.0)) rows ≡ map (λ row. row.1) rows

abbrev place_ignored : Result Approximate DateError → Option ℕ
place_ignored (Ok date) = date.ignored
place_ignored (Err e) = None

-- each row is a text and the place of what it ignores
abbrev Ignores : List (String × Option ℕ) → Type 0
Ignores rows = map (λ row. place_ignored (guessed row.0)) rows ≡ map (λ row. row.1) rows

guess_rows :
    Guesses
    (("10/09/2009", is 1252610400)
    ∷ ("7/4", is 1246735200)
    ∷ ("2009-12-01", is 1259695200)
    ∷ ("24:00", is 1251676800)
    ∷ ("25:00", is 1251228000)
    ∷ ("noon yesterday", is 1251547200)
    ∷ ("10am noon", is 1251547200)
    ∷ ("last tuesday", is 1251228000)
    ∷ ("last sunday", is 1251055200)
    ∷ ("2 fridays ago", is 1250882400)
    ∷ ("friday", doubtful 1251660000)
    ∷ ("tea last saturday", is 1251565200)
    ∷ ("12:34:56.3.days.ago", is 1251376496)
    ∷ ("2.years.3.months.ago", is 1180552800)
    ∷ ("6pm yesterday", is 1251568800)
    ∷ ("12am", is 1251590400)
    ∷ ("0am", is 1251616800)
    ∷ ("july 5th", is 1246821600)
    ∷ ("3 oct 15", is 1443900000)
    ∷ ("sep 1", is 1220296800)
    ∷ ("aug 31", is 1251746400)
    ∷ ("feb 30", is 1236021600)
    ∷ ("31 august 6 months ago", is 1236108000)
    ∷ ("1 2 3", is 1044127200)
    ∷ ("32", is 1977506400)
    ∷ ("002 jan", is 1233343200)
    ∷ ("jan5", is 1249500000)
    ∷ ("never 5pm", is 61200)
    ∷ ("2007", is 1188501600)
    ∷ ("monday", doubtful 1251660000)
    ∷ ("today", doubtful 1251660000)
    ∷ ("2009-08-30", is 1251660000)
    ∷ ("1.5 hours ago", is 1241205600)
    ∷ ("5 mins ago", is 1249500000)
    ∷ ("1 day from now", is 1251573600)
    ∷ ("25000 days ago", Err (BackTooFar 0))
    ∷ ("200 years ago", Err (BackTooFar 0))
    ∷ ("mayor", doubtful 1251660000)
    ∷ ("10 thursday", is 1245957600)
    ∷ ("3 fortnights ago", is 1249327200)
    ∷ ("30 feb 2009 1 month ago", is 1233602400) ∷ [])
unfolding computing approximating
guess_rows = refl

-- what is ignored

ignored_rows :
    Ignores
    (("5 mins ago", Some 2)
    ∷ ("friday", Some 0)
    ∷ ("in 2 weeks", Some 0)
    ∷ ("1 day from now", Some 6)
    ∷ ("10am tomorrow", Some 5)
    ∷ ("5 yesterday", Some 0)
    ∷ ("last friday at noon", None)
    ∷ ("July 5th", None)
    ∷ ("2.weeks.ago", None)
    ∷ ("1 2 3 4", Some 6)
    ∷ ("002 jan", Some 0) ∷ [])
unfolding computing approximating
ignored_rows = refl

-- what expires: the words that are no dates

expiry_rows :
    map (λ text. fixed_expiry (codes text)) ("never" ∷ "false" ∷ "all" ∷ "now" ∷ "Never" ∷ "NOW" ∷ " now" ∷ "yesterday" ∷ "" ∷ [])
    ≡ Some Never ∷ Some Never ∷ Some All ∷ Some All ∷ None ∷ None ∷ None ∷ None ∷ None ∷ []
unfolding computing approximating
expiry_rows = refl

-- a NUL ends such a word, and a text
expiry_cut : map (λ (word : String × String). fixed_expiry (before_nul (codes word.0 ++ (nul ∷ codes word.1))))
    (("never", "x") ∷ ("nev", "er") ∷ ("all", "") ∷ [])
    ≡ Some Never ∷ None ∷ Some All ∷ []
unfolding computing approximating
expiry_cut = refl

abbrev CutRow : Type 0
CutRow = String × String × Result (ℤ × Bool) DateError × Option ℕ

abbrev guess_of : CutRow → Result Approximate DateError
guess_of row = guess (one_offset (pos 0)) row_now (codes row.0 ++ (nul ∷ codes row.1))

abbrev guessed_cut : CutRow → Result (ℤ × Bool) DateError × Option ℕ
guessed_cut row = (told (guess_of row), place_ignored (guess_of row))

abbrev due : CutRow → Result (ℤ × Bool) DateError × Option ℕ
due row = (row.2, row.3)

abbrev GuessesUpToNul : List CutRow → Type 0
GuessesUpToNul rows = map guessed_cut rows ≡ map due rows

cut_rows :
    GuessesUpToNul
    (("2 weeks ago", " yesterday", is 1250450400, Some 11)
    ∷ ("friday", " 2 weeks ago", doubtful 1251660000, Some 0)
    ∷ ("5 mins", " ago", is 1249500000, Some 2)
    ∷ ("", "yesterday", doubtful 1251660000, Some 0) ∷ [])
unfolding computing approximating
cut_rows = refl
