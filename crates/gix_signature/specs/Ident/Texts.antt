-- Texts without what stands at their ends.
use Rattle.std.specs.Prelude.{◌≡◌, ◌≢◌, ℕ, ◌-◌, Bool, false, nat_lt, List, [], ◌∷◌, ◌++◌, length, take, drop, Option, Some, None}
use Rattle.std.specs.List.{prefix_len, suffix_len, position_or_len, before_first}
use Rattle.gix_signature.specs.Ident.Bytes.{ends_line}

-- the line at the front of a text: it ends before the first line feed or NUL
abbrev pub whole_line : List ℕ → List ℕ
whole_line text = before_first ends_line text

-- a text from its first such byte on
abbrev pub from_first : (ℕ → Bool) → List ℕ → List ℕ
from_first is text = drop (position_or_len is text) text

-- a text without all such bytes that it begins with
abbrev pub without_front : (ℕ → Bool) → List ℕ → List ℕ
without_front is text = drop (prefix_len is text) text

-- a text without all such bytes that it ends with
abbrev pub without_end : (ℕ → Bool) → List ℕ → List ℕ
without_end is text = take (length text - suffix_len is text) text

-- a text begins with such a byte
abbrev pub begins_with : (ℕ → Bool) → List ℕ → Bool
begins_with is [] = false
begins_with is (c ∷ rest) = is c

-- a text ends with such a byte
abbrev pub ends_with : (ℕ → Bool) → List ℕ → Bool
ends_with is text = nat_lt 0 (suffix_len is text)

-- what stands after a text at the front of another, or `None` where it does not stand there
abbrev pub CutsFront : List ℕ → List ℕ → Option (List ℕ) → Type 0
CutsFront front text (Some rest) = text ≡ front ++ rest
CutsFront front text None = (rest : List ℕ) → text ≢ front ++ rest
