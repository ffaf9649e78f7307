-- Cuts of a clock as facts.
use Rattle.std.specs.Prelude.{◌≡◌, ℕ, ◌<◌, Bool, true, false, List, [], ◌∷◌, ◌++◌, length, take, drop, ◌==◌, slice_index}
use Rattle.gix_date.specs.Text.Characters.{space, letter_z}
use Rattle.gix_date.specs.Git.ClockCut.{is_sign, has_offset_at, trimmed_after}

-- the test holds at k, and at no later place below n
pub record IsLastPlace (test : ℕ → Bool) (n k : ℕ) : Type 0 where
  pub within : k < n
  pub passes : test k ≡ true
  pub last : (i : ℕ) → k < i → i < n → test i ≡ false

-- the text ends in `Z`
abbrev pub EndsInZ : List ℕ → Type 0
EndsInZ text = (front : List ℕ) × (text ≡ front ++ letter_z ∷ [])

-- the last space stands at this place, above 5, and a sign is first after it, white space aside
abbrev pub CutsAtSpace : List ℕ → ℕ → Type 0
CutsAtSpace text k =
    IsLastPlace (λ place. slice_index text place == space) (length text) k
    × (5 < k) × (is_sign (slice_index (trimmed_after text k) 0) ≡ true)

-- the last sign directly before a digit stands at this place, of those of 2 or more
abbrev pub CutsAtSign : List ℕ → ℕ → Type 0
CutsAtSign text k = IsLastPlace (has_offset_at text) (length text) k

-- The text is cut into clock and offset: at a final `Z`; else at the last space, if it can begin an offset; else at the
-- last sign that can; else all is the clock.
pub data IsCut (text : List ℕ) : List ℕ → List ℕ → Type 0 where
  at_z : (clock : List ℕ) → text ≡ clock ++ letter_z ∷ [] → IsCut text clock (letter_z ∷ [])
  at_space : (k : ℕ) → ¬ (EndsInZ text) → CutsAtSpace text k → IsCut text (take k text) (trimmed_after text k)
  at_offset_sign : (k : ℕ) → ¬ (EndsInZ text) → ¬ ((j : ℕ) × CutsAtSpace text j) → CutsAtSign text k
      → IsCut text (take k text) (drop k text)
  whole : ¬ (EndsInZ text) → ¬ ((j : ℕ) × CutsAtSpace text j) → ¬ ((j : ℕ) × CutsAtSign text j)
      → IsCut text text []
