-- Counts and pairs as facts, and the relative texts that are made of them.
use Rattle.std.specs.Prelude.{◌≡◌, ◌↔◌, ◌⊎◌, ℕ, zero, suc, Bool, true, not, List, ◌∷◌, ◌++◌, reverse, Some}
use Rattle.std.specs.List.{prefix_len}
use Rattle.std.specs.Str.{trim}
use Rattle.gix_date.specs.Relative.Dates.{RelativeDate, MinusPairs, date_names, relative_date}
use Rattle.gix_date.specs.Relative.Words.{relative_words, is_ago}
use Rattle.gix_date.specs.Relative.Roles.{is_count_word, has_unit, next_is_free, pairs}
use Rattle.gix_date.specs.Text.Names.{named_in}

-- a word after these words is a count
abbrev pub IsCount : List (List ℕ) → List ℕ → Type 0
IsCount front word = (next_is_free front ≡ true) × (is_count_word word ≡ true)

-- some `ago` is no period
abbrev pub HasFlag : List (List ℕ) → Type 0
HasFlag words =
    (front : List (List ℕ)) × (word : List ℕ) × (back : List (List ℕ)) × (words ≡ front ++ word ∷ back)
    × (next_is_free front ≡ true) × (is_ago word ≡ true)

-- some count has a period
abbrev pub HasPair : List (List ℕ) → Type 0
HasPair words =
    (front : List (List ℕ)) × (word : List ℕ) × (period : List ℕ) × (back : List (List ℕ))
    × (words ≡ front ++ word ∷ period ∷ back) × IsCount front word

-- each period of a count is a unit
abbrev pub AllUnits : List (List ℕ) → Type 0
AllUnits words =
    (front : List (List ℕ)) (word period : List ℕ) (back : List (List ℕ)) → words ≡ front ++ word ∷ period ∷ back
    → IsCount front word → has_unit period ≡ true

-- the words are pairs: a count has a period, and each period is a unit or some `ago` is no period
abbrev pub ArePairs : List (List ℕ) → Type 0
ArePairs words = HasPair words × (AllUnits words ⊎ HasFlag words)

-- the text writes this relative date: trimmed it is the date's name, in any letter case; or its words are pairs, and
-- the date subtracts these
abbrev pub IsRelativeText : List ℕ → RelativeDate → Type 0
IsRelativeText text date =
    (named_in date_names (trim text) ≡ Some date)
    ⊎ (ArePairs (relative_words text) × (date ≡ MinusPairs (pairs (relative_words text))))

-- both definitions of relative texts agree: `relative_date` gives the text a date iff `IsRelativeText` does
abbrev pub IsSpelledSo : List ℕ → Type 0
IsSpelledSo text = (date : RelativeDate) → (relative_date text ≡ Some date) ↔ IsRelativeText text date

abbrev pub is_even : ℕ → Bool
is_even zero = true
is_even (suc n) = not (is_even n)

-- a word is no period iff an even number of count words stands directly before it
abbrev pub AreFreeByParity : Type 0
AreFreeByParity =
    (front : List (List ℕ)) → next_is_free front ≡ is_even (prefix_len is_count_word (reverse front))
