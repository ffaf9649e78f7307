-- The definitions of relative texts, and the order of the families, on worked texts: each row computes.
use Rattle.std.proofs.Common.{◌≡◌, refl, ℕ, ℤ, List, [], ◌∷◌, pos, map, Some}
use Prim.Native.String.{String}
use Rattle.std.specs.Prelude.{codes}
use Rattle.gix_date.proofs.Rows.Tables.{Reads, Refuses, time, minus}
use Rattle.gix_date.specs.Families.Answer.{FamilyAnswer, Absolute, Relative}
use Rattle.gix_date.specs.Computing.{computing}
use Rattle.gix_date.specs.Families.Order.{first_family, first_family_by}
use Rattle.gix_date.specs.Families.Raw.{is_minute_offset}
use Rattle.gix_date.specs.Relative.Dates.{MinusSeconds, MinusPairs, relative_date}
use Rattle.gix_date.specs.declared.parsing.relative.words.TimeUnit.TheVariants.{Seconds, Months}

-- each row is a text of one pair, its count and the seconds of its unit
abbrev OnePair : List (String × ℕ × ℕ) → Type 0
OnePair rows = map (λ row. relative_date (codes row.0)) rows ≡ map (λ row. Some (MinusPairs ((pos row.1, Seconds (pos row.2)) ∷ []))) rows

one-pair :
    OnePair
    (("2 minutes ago", 2, 60) ∷ ("Ten minutes", 10, 60) ∷ ("last week", 1, 604_800)
    ∷ ("@5 days ago", 5, 86_400) ∷ ("1.hour.ago", 1, 3600)  -- `@` and dots say nothing
    ∷ ("1 hour from now", 1, 3600)  -- nor do these words
    ∷ ("2 3 days ago", 2, 1) ∷ ("one last ago", 1, 1)  -- a word of a count as a period
    ∷ ("3 fortnights ago", 3, 1) ∷ ("ago 3 fortnights", 3, 1)  -- an unknown period, and the flag before the pair
    ∷ ("2 dayss ago", 2, 1)  -- two final letters
    ∷ ("99999999999999999999 3 days", 3, 86_400)  -- a count past an `i64`
    ∷ ("2 days 3", 2, 86_400) ∷ [])  -- the last count is dropped
unfolding computing
one-pair = refl

two-pairs :
    Reads relative_date
    (("2 days 3 hours ago", MinusPairs ((pos 2, Seconds (pos 86_400)) ∷ (pos 3, Seconds (pos 3600)) ∷ []))
    ∷ ("1 month 2 days ago", MinusPairs ((pos 1, Months (pos 1)) ∷ (pos 2, Seconds (pos 86_400)) ∷ []))
    ∷ ("2018-12-24 days ago", MinusPairs ((pos 2018, Seconds (pos 1)) ∷ (pos 24, Seconds (pos 86_400)) ∷ [])) ∷ [])
unfolding computing
two-pairs = refl

names :
    Reads relative_date
    ((" NOW ", MinusSeconds (pos 0)) ∷ ("Today", MinusSeconds (pos 0)) ∷ ("YESTERDAY", MinusSeconds (pos 86_400)) ∷ [])
unfolding computing
names = refl

-- `ago` as a period, zero, an unknown period without the flag, no count, no words apart, a name and a word
not-relative :
    Refuses relative_date
    ("2 ago" ∷ "zero days ago" ∷ "3 fortnights" ∷ "days ago" ∷ "1month ago" ∷ "yesterday noon" ∷ "" ∷ [])
unfolding computing
not-relative = refl

abbrev at : ℕ → ℤ → FamilyAnswer
at seconds offset = Absolute (time (pos seconds) offset)

abbrev ago : ℕ → ℕ → FamilyAnswer
ago count seconds = Relative (MinusPairs ((pos count, Seconds (pos seconds)) ∷ []))

first :
    Reads first_family
    (("@0", at 0 (pos 0)) ∷ ("@ 5 +0530", at 5 (pos 19800)) ∷ ("100000000", at 100000000 (pos 0))
    ∷ ("5 -0130", at 5 (minus 5400)) ∷ ("5 seconds", ago 5 1) ∷ ("@5 days ago", ago 5 86_400) ∷ [])
    × Refuses first_family ("@ 5" ∷ "99999999" ∷ "-100000000" ∷ "@5 +0007" ∷ [])
unfolding computing
first = (refl, refl)

first-wide : Reads (first_family_by is_minute_offset) (("@5 +0007", at 5 (pos 420)) ∷ ("5 -2359", at 5 (minus 86340)) ∷ [])
unfolding computing
first-wide = refl

pub yesterday-alone : first_family (codes "yesterday") ≡ Some (Relative (MinusSeconds (pos 86_400)))
unfolding computing
yesterday-alone = refl
