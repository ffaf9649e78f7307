-- The places of some words.
use Rattle.std.specs.Prelude.{ℕ, List, [], ◌∷◌, ◌++◌}

-- a word, and the words that stand before it and after it
pub record Place : Type 0 where
  pub front : List (List ℕ)
  pub word : List ℕ
  pub back : List (List ℕ)

-- the places of the words that stand after these, in order
abbrev pub places_after : List (List ℕ) → List (List ℕ) → List Place
places_after front [] = []
places_after front (word ∷ back) =
    record { front = front; word = word; back = back } ∷ places_after (front ++ word ∷ []) back

-- the places of all words
abbrev pub places : List (List ℕ) → List Place
places words = places_after [] words
