-- The lines of an input.
use Rattle.std.specs.Prelude.{◌≡◌, ◌≢◌, ◌⊎◌, ◌≤◌, ℕ, List, [], ◌∷◌, ◌++◌, length, Option, Some, None, All}
use Rattle.std.specs.List.{flat_map}
use Rattle.gix_date.specs.Text.Characters.{newline}
use Rattle.streams.specs.declared.lines.TheConstants.{MAX_LINE_LEN}

-- no newline
abbrev pub IsLine : List ℕ → Type 0
IsLine line = All (λ b. b ≢ newline) line

-- a line and its newline
abbrev pub with_newline : List ℕ → List ℕ
with_newline line = line ++ newline ∷ []

-- the input is these lines, with a newline after each, and then a rest with none
pub record Splits (input : List ℕ) (lines : List (List ℕ)) (rest : List ℕ) : Type 0 where
  pub whole : input ≡ flat_map with_newline lines ++ rest
  pub each : All IsLine lines
  pub rest_is_line : IsLine rest

-- there is one way to do so
unfoldable pub SplitsAreUnique : Type 0
SplitsAreUnique =
    (input : List ℕ) (lines others : List (List ℕ)) (rest other : List ℕ)
    → Splits input lines rest → Splits input others other → (lines ≡ others) × (rest ≡ other)

-- a rest is a last line where it has a byte
abbrev pub last_line : List ℕ → List (List ℕ)
last_line [] = []
last_line (b ∷ bs) = (b ∷ bs) ∷ []

-- the next byte is one of the same line
abbrev pub LineGoesOn : List ℕ → Type 0
LineGoesOn [] = ⊥
LineGoesOn (byte ∷ more) = byte ≢ newline

-- a front of the input, split into lines and a rest, and the bytes beyond it
pub record Part (input : List ℕ) : Type 0 where
  pub front : List ℕ
  pub beyond : List ℕ
  pub lines : List (List ℕ)
  pub rest : List ℕ
  pub whole : input ≡ front ++ beyond
  pub splits : Splits front lines rest

-- the lines of a part, its rest among them if that is a last line
abbrev pub with_last_line : {input : List ℕ} → Part input → List (List ℕ)
with_last_line part = part.lines ++ last_line part.rest

-- a line and the bytes after it: its newline stands between, or it is the last, with a byte and none after it
abbrev pub IsCutAfter : List ℕ → List ℕ × List ℕ → Type 0
IsCutAfter input (line, after) =
    IsLine line × ((input ≡ line ++ newline ∷ after) ⊎ ((input ≡ line) × (after ≡ []) × (line ≢ [])))

-- the first line of an input and the bytes after it, or that there is none
abbrev pub IsFirstLine : List ℕ → Option (List ℕ × List ℕ) → Type 0
IsFirstLine input None = input ≡ []
IsFirstLine input (Some cut) = IsCutAfter input cut

-- a line that is not too long
abbrev pub IsShort : List ℕ → Type 0
IsShort line = length line ≤ MAX_LINE_LEN

-- no line is too long, and there are at most so many
abbrev pub IsWithinLimits : ℕ → List (List ℕ) → Type 0
IsWithinLimits most lines = All IsShort lines × (length lines ≤ most)
