-- The pairs of some words, as they are read from the left.
use Rattle.std.specs.Prelude.{ℕ, List, [], ◌∷◌, ℤ, Option, Some, None}
use Rattle.gix_date.specs.Relative.Words.{count_of, unit_or_seconds}
use Rattle.gix_date.specs.declared.parsing.relative.pairs.Pair.{Pair}
use Rattle.gix_date.specs.declared.parsing.relative.words.TimeUnit.{TimeUnit}

-- the count and the unit of a pair
abbrev pub pair_of : Pair → ℤ × TimeUnit
pair_of pair = (pair.count, pair.unit)

-- the pairs that are read where this count waits for its period, or none does
abbrev pub pairs_from : Option ℤ → List (List ℕ) → List (ℤ × TimeUnit)
pairs_from waiting [] = []
pairs_from None (word ∷ words) = pairs_from (count_of word) words
pairs_from (Some count) (period ∷ words) = (count, unit_or_seconds period) ∷ pairs_from None words

-- the pairs of some words
abbrev pub pairs_read : List (List ℕ) → List (ℤ × TimeUnit)
pairs_read words = pairs_from None words
