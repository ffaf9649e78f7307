-- Where a text ends: Git's dates are C strings, and each of these ends before its first NUL.
use Rattle.std.specs.Prelude.{ℕ, ◌==◌, not, nat_lt, if◌then◌else◌, List, length, take, Option, Some, None}
use Rattle.std.specs.List.{prefix_len}

abbrev pub nul : ℕ
nul = 0

-- how many bytes stand before the first NUL
abbrev pub string_len : List ℕ → ℕ
string_len text = prefix_len (λ byte. not (byte == nul)) text

-- the text before its first NUL, or all of it
unfoldable pub before_nul : List ℕ → List ℕ
before_nul text = take (string_len text) text

-- the place of the first NUL
unfoldable pub nul_place : List ℕ → Option ℕ
nul_place text = if nat_lt (string_len text) (length text) then Some (string_len text) else None
