-- Which words of a text are counts and periods, and which texts are pairs of these.
use Rattle.std.specs.Prelude.{ℕ, Bool, true, false, not, ◌&&◌, ◌||◌, List, [], ◌∷◌, ℤ, if◌then◌else◌, Option, Some, None, is_some}
use Rattle.std.specs.Prelude.{filter_map}
use Rattle.std.specs.List.{fold, list_any, list_all}
use Rattle.gix_date.specs.Text.Front.{◌>>=◌}
use Rattle.gix_date.specs.Text.Places.{Place, places}
use Rattle.gix_date.specs.Relative.Words.{count_of, unit_of, unit_or_seconds, is_ago}
use Rattle.gix_date.specs.declared.parsing.relative.words.TimeUnit.{TimeUnit}

unfoldable pub is_count_word : List ℕ → Bool
is_count_word word = is_some (count_of word)

unfoldable pub has_unit : List ℕ → Bool
has_unit period = is_some (unit_of period)

-- The word after these is no period: it is one iff the last of these is a count. A count is a count word that is no
-- period.
unfoldable pub next_is_free : List (List ℕ) → Bool
next_is_free words = fold (λ free word. not (free && is_count_word word)) true words

-- a count stands here: a count word that is no period
abbrev pub is_count : Place → Bool
is_count p = next_is_free p.front && is_count_word p.word

abbrev pub has_next : List (List ℕ) → Bool
has_next [] = false
has_next (period ∷ back) = true

abbrev pub next_is_unit : List (List ℕ) → Bool
next_is_unit [] = true
next_is_unit (period ∷ back) = has_unit period

-- some `ago` is no period
unfoldable pub has_flag : List (List ℕ) → Bool
has_flag words = list_any (λ p. next_is_free p.front && is_ago p.word) (places words)

-- some count has a period
unfoldable pub has_pair : List (List ℕ) → Bool
has_pair words = list_any (λ p. is_count p && has_next p.back) (places words)

-- each period of a count is a unit
unfoldable pub all_units : List (List ℕ) → Bool
all_units words = list_all (λ p. not (is_count p) || next_is_unit p.back) (places words)

-- some count has a period; each period of a count is a unit, or some `ago` is no period
unfoldable pub are_pairs : List (List ℕ) → Bool
are_pairs words = has_pair words && (all_units words || has_flag words)

-- the pair of a count and the unit of the period that stands first in `back`: a period that is no unit counts seconds
abbrev pub pair_with : List (List ℕ) → ℤ → Option (ℤ × TimeUnit)
pair_with [] count = None
pair_with (period ∷ back) count = Some (count, unit_or_seconds period)

-- the pair of the count that stands here
abbrev pub pair_at : Place → Option (ℤ × TimeUnit)
pair_at p = if next_is_free p.front then count_of p.word >>= pair_with p.back else None

-- the pairs of counts and units, in order
unfoldable pub pairs : List (List ℕ) → List (ℤ × TimeUnit)
pairs words = filter_map pair_at (places words)
