-- Readers of fields: each takes the front of a text, and gives a value and what stands after it.
use Rattle.std.specs.Prelude.{ℕ, List, [], ◌∷◌, ◌==◌, if◌then◌else◌, Option, Some, None, option_and_then, option_map}
use Rattle.std.specs.Borrow.{Bor}

-- a value and the rest of the text, where its front has the form
abbrev pub ReadFront : Type 0 → Type 0
ReadFront A = Option (A × List ℕ)

-- what a reader over slices gave, with the rest as a text
abbrev pub read_view : {A : Type 0} → Option (A × Bor (List ℕ)) → ReadFront A
read_view result = option_map (λ found. (found.0, found.1.now)) result

infixl 10 ◌>>=◌
-- to go on with what was found
abbrev pub ◌>>=◌ : {A B : Type 0} → Option A → (A → Option B) → Option B
found >>= next = option_and_then next found

-- what stands after this character, where it is the first
unfoldable pub skip_char : ℕ → List ℕ → Option (List ℕ)
skip_char mark [] = None
skip_char mark (c ∷ rest) = if c == mark then Some rest else None
