-- The definitions of formatted dates on worked texts: each row computes.
use Rattle.std.proofs.Common.{◌≡◌, refl, ℕ, ℤ, List, [], ◌∷◌, pos, Option, Some, map, ◌*◌}
use Prim.Native.String.{String}
use Rattle.std.specs.Prelude.{codes}
use Rattle.gix_date.proofs.Rows.Tables.{Reads, Refuses, time, date, clock, minus}
use Rattle.gix_date.specs.Computing.{computing}
use Rattle.gix_date.specs.Families.Answer.{FamilyAnswer, Absolute, OffsetAboveDay, NoInstant}
use Rattle.gix_date.specs.Fields.Layout.{LocalTime, Piece, DayName, Rfc2822DayName, MonthName, Day, Year, PlainDate, Clock, Rfc2822Clock}
use Rattle.gix_date.specs.Fields.Layout.{Spaces, LetterT, Offset, ColonOffset, Rfc2822Offset, nothing_read, layout_answer}
use Rattle.gix_date.specs.Fields.DateFields.{skip_spaces, read_month, read_plain_date, read_rfc2822_clock}
use Rattle.gix_date.specs.Fields.DateOffsets.{rfc2822_zone}
use Rattle.gix_date.specs.Families.Patterns.{short_answer, rfc2822_answer, iso8601_answer, iso8601_strict_answer, gitoxide_answer}
use Rattle.gix_date.specs.Families.Patterns.{default_answer}

-- Each piece, where it is the whole text: what a text tells, and texts that are no such piece.
abbrev alone : Piece → List ℕ → Option LocalTime
alone piece text = layout_answer (piece ∷ []) (λ (told : LocalTime). Some told) text

abbrev dated : ℕ → ℕ → ℕ → LocalTime
dated y m d = record nothing_read { date = date y m d }

abbrev clocked : ℕ → ℕ → ℕ → LocalTime
clocked h m s = record nothing_read { clock = clock h m s }

abbrev offset_by : ℤ → LocalTime
offset_by offset = record nothing_read { offset = offset }

names :
    Reads (alone DayName) (("tHu", nothing_read) ∷ ("SUN", nothing_read) ∷ [])
    × Refuses (alone DayName) ("" ∷ "Thx" ∷ "Thursday" ∷ " Thu" ∷ "Thu," ∷ [])
    × Reads (alone Rfc2822DayName) (("", nothing_read) ∷ ("mon,  ", nothing_read) ∷ [])
    × Refuses (alone Rfc2822DayName) ("Thu" ∷ "Thu," ∷ "Thu " ∷ "Thx, " ∷ [])
    × Reads (alone MonthName) (("jAN", dated 0 1 0) ∷ ("Dec", dated 0 12 0) ∷ [])
    × Refuses (alone MonthName) ("" ∷ "Aux" ∷ "August" ∷ "08" ∷ [])
unfolding computing
names = (refl, refl, refl, refl, refl, refl)

dates :
    Reads (alone Day) (("7", dated 0 0 7) ∷ ("07", dated 0 0 7) ∷ ("31", dated 0 0 31) ∷ [])
    × Refuses (alone Day) ("" ∷ "123" ∷ "+7" ∷ " 7" ∷ "7th" ∷ [])
    × Reads (alone Year) (("2022", dated 2022 0 0) ∷ ("0022", dated 22 0 0) ∷ [])
    × Refuses (alone Year) ("22" ∷ "122" ∷ "12022" ∷ "+2022" ∷ "-001" ∷ [])
    × Reads (alone PlainDate) (("2018-1-02", dated 2018 1 2) ∷ [])
    × Refuses (alone PlainDate)
    ("2018-12" ∷ "18-12-24" ∷ "2018/12/24" ∷ "20181224" ∷ "2018-12-024" ∷ "2018--12-24" ∷ [])
unfolding computing
dates = (refl, refl, refl, refl, refl, refl)

-- a second of 60 is told as 59, and one of 61 as itself: no day has that clock
clocks :
    Reads (alone Clock) (("4:5:06", clocked 4 5 6) ∷ ("12:45:60", clocked 12 45 59) ∷ ("12:45:61", clocked 12 45 61) ∷ [])
    × Refuses (alone Clock)
    ("12:45" ∷ "12" ∷ "12:45:" ∷ "12:45:006" ∷ "12.45.06" ∷ "12:45:06.5" ∷ "12:45:06 PM" ∷ [])
    × Reads (alone Rfc2822Clock) (("12:45", clocked 12 45 0) ∷ ("12:45:60", clocked 12 45 59) ∷ [])
    × Refuses (alone Rfc2822Clock) ("12" ∷ "12:45:" ∷ "12:45:006" ∷ "12.45" ∷ [])
unfolding computing
clocks = (refl, refl, refl, refl)

marks :
    Reads (alone Spaces) ((" ", nothing_read) ∷ ("   ", nothing_read) ∷ [])
    × Refuses (alone Spaces) ("" ∷ "_" ∷ "\t" ∷ " \t" ∷ "\n" ∷ "T" ∷ [])
    × Reads (alone LetterT) (("T", nothing_read) ∷ [])
    × Refuses (alone LetterT) ("" ∷ "t" ∷ " " ∷ "TT" ∷ [])
unfolding computing
marks = (refl, refl, refl, refl)

offsets :
    Reads (alone Offset) (("+2559", offset_by (pos 93540)) ∷ ("-010203", offset_by (minus 3723)) ∷ [])
    × Refuses (alone Offset)
    ("" ∷ "0800" ∷ "+08" ∷ "+08:00" ∷ "+0860" ∷ "+080060" ∷ "-2600" ∷ "+0800 " ∷ "GMT" ∷ "Z" ∷ [])
    × Reads (alone ColonOffset)
    (("-00:30", offset_by (minus 1800)) ∷ ("+00:00:01", offset_by (pos 1)) ∷ ("+25:59:59", offset_by (pos 93599)) ∷ [])
    × Refuses (alone ColonOffset)
    ("" ∷ "+0800" ∷ "+08" ∷ "+08:00:0" ∷ "+08:00:" ∷ "+08:60" ∷ "+26:00" ∷ "Z" ∷ "+08:00 " ∷ [])
    × Reads (alone Rfc2822Offset)
    (("+0800", offset_by (pos 28800)) ∷ ("pSt", offset_by (minus 28800)) ∷ ("-2559", offset_by (minus 93540)) ∷ [])
    × Refuses (alone Rfc2822Offset) ("" ∷ "+080000" ∷ "+08:00" ∷ "0800" ∷ "Z" ∷ "UTC" ∷ "GMT " ∷ [])
unfolding computing
offsets = (refl, refl, refl, refl, refl, refl)

-- each row is a zone's name and its hours behind UTC
abbrev Behind : List (String × ℕ) → Type 0
Behind rows = map (λ row. rfc2822_zone (codes row.0)) rows ≡ map (λ row. Some (minus (3600 * row.1))) rows

zone-names :
    Behind
    (("ut", 0) ∷ ("GMT", 0) ∷ ("EdT", 4) ∷ ("est", 5) ∷ ("CDT", 5) ∷ ("cst", 6) ∷ ("MDT", 6) ∷ ("mst", 7) ∷ ("pdt", 7)
    ∷ ("PST", 8) ∷ [])
unfolding computing
zone-names = refl

-- Fields at the front of a text, and what stands after them.
fronts :
    Reads read_plain_date (("2018-1-02x", (date 2018 1 2, codes "x")) ∷ ("2018-12-024", (date 2018 12 2, codes "4")) ∷ [])
    × Reads read_month (("August", (8, codes "ust")) ∷ [])
    × Reads skip_spaces (("  x ", codes "x ") ∷ [])
    × Reads read_rfc2822_clock (("12:45: +0000", (clock 12 45 0, codes ": +0000")) ∷ [])
unfolding computing
fronts = (refl, refl, refl, refl)

-- Whole dates, each by its family, and texts that are none.
abbrev at : ℤ → ℤ → FamilyAnswer
at seconds offset = Absolute (time seconds offset)

short :
    Reads short_answer (("2024-12-31", at (pos 1735603200) (pos 0)) ∷ ("9999-12-31", NoInstant) ∷ [])
    × Refuses short_answer
    ("2023-02-30" ∷ "2023-13-01" ∷ "2023-1-0" ∷ "2023-01-01 " ∷ " 2023-01-01" ∷ "01-01-2023" ∷ [])
unfolding computing
short = (refl, refl)

rfc2822 :
    Reads rfc2822_answer
    (("Thu, 8 Aug 2022 12:45:06 +0800", at (pos 1659933906) (pos 28800))
    ∷ ("Thu, 18 Aug 2022 12:45 GMT", at (pos 1660826700) (pos 0)) ∷ [])
    × Refuses rfc2822_answer
    ("Thu 18 Aug 2022 12:45 GMT" ∷ "Thu, Aug 18 2022 12:45 GMT" ∷ "Thu, 18 Aug 22 12:45 GMT"
    ∷ "Thu, 18 Aug 2022 12:45GMT" ∷ "Thu, 18 Aug 2022 12:45" ∷ "Thu, 18 2022 Aug 12:45 GMT"
    ∷ "Thu, 18 Aug 12:45 2022 GMT" ∷ "Thu, 18-Aug-2022 12:45 GMT" ∷ [])
unfolding computing
rfc2822 = (refl, refl)

iso8601 :
    Reads iso8601_answer (("2022-08-17 22:04:58 +0200", at (pos 1660766698) (pos 7200)) ∷ [])
    × Refuses iso8601_answer
    ("2022-08-17T22:04:58 +0200" ∷ "2022-08-17 22:04 +0200" ∷ "2022-08-17 22:04:58" ∷ "2022-08-17 22:04:58+0200"
    ∷ "2022-08-17 22:04:58 +02:00" ∷ "2022-08-17 22:04:61 +0200" ∷ "2022-08-17 24:00:00 +0200"
    ∷ "2022-02-30 22:04:58 +2400" ∷ "22:04:58 2022-08-17 +0200" ∷ "9999-12-30 22:00:01 +0000" ∷ [])
unfolding computing
iso8601 = (refl, refl)

strict :
    Reads iso8601_strict_answer
    (("2022-08-17T21:43:13+08:00", at (pos 1660743793) (pos 28800)) ∷ ("2022-08-17T21:43:13+24:00", OffsetAboveDay)
    ∷ ("2022-08-17T21:43:13-24:00", OffsetAboveDay) ∷ [])
    × Refuses iso8601_strict_answer
    ("2022-08-17 21:43:13+08:00" ∷ "2022-08-17t21:43:13+08:00" ∷ "2022-08-17T21:43+08:00" ∷ "2022-08-17T21:43:13 +08:00"
    ∷ "2022-08-17T21:43:13+0800" ∷ "2022-08-17T21:43:13Z" ∷ "2022-08-17T21:43:13" ∷ [])
unfolding computing
strict = (refl, refl)

gitoxide :
    Reads gitoxide_answer (("Mon Oct 27 2023 10:30:00 +0000", at (pos 1698402600) (pos 0)) ∷ [])
    × Refuses gitoxide_answer
    ("Mon Oct 27 10:30:00 2023 +0000" ∷ "Oct 27 2023 10:30:00 +0000" ∷ "Mon, Oct 27 2023 10:30:00 +0000"
    ∷ "Mon 27 Oct 2023 10:30:00 +0000" ∷ "Mon Oct 27 2023 10:30 +0000" ∷ "Mon Oct 27 2023 10:30:00 GMT"
    ∷ "Mon Oct 27 2023 10:30:00" ∷ [])
unfolding computing
gitoxide = (refl, refl)

by-default :
    Reads default_answer (("Mon Oct 27 10:30:00 2023 -0800", at (pos 1698431400) (minus 28800)) ∷ [])
    × Refuses default_answer
    ("Mon Oct 27 2023 10:30:00 -0800" ∷ "Oct 27 10:30:00 2023 -0800" ∷ "Mon, Oct 27 10:30:00 2023 -0800"
    ∷ "Mon 27 Oct 10:30:00 2023 -0800" ∷ "Mon Oct 27 10:30 2023 -0800" ∷ "Mon Oct 27 10:30:00 2023 GMT"
    ∷ "Mon Oct 27 10:30:00 2023" ∷ [])
unfolding computing
by-default = (refl, refl)
