-- What a signature line is.
use Rattle.std.specs.Prelude.{◌≡◌, ℕ, ◌==◌, Bool, true, ◌||◌, ◌&&◌, not, List, ◌++◌, length, codes}
use Rattle.std.specs.List.{list_all}
use Rattle.gix_signature.specs.declared.lines.SignatureRef.{SignatureRef}

-- `<`
abbrev pub opening : ℕ
opening = 60

-- `>`
abbrev pub closing : ℕ
closing = 62

-- `\n`
abbrev pub newline : ℕ
newline = 10

-- NUL
abbrev pub nul : ℕ
nul = 0

-- the byte may be in a part: not `<`, `>`, a newline or NUL
abbrev pub is_allowed : ℕ → Bool
is_allowed c = not (c == opening || c == closing || c == newline || c == nul)

-- the text may be a part: a name or an email, or a time if it is not empty
abbrev pub is_part : List ℕ → Bool
is_part text = list_all is_allowed text

-- the parts that a line is cut into
pub record Parts : Type 0 where
  pub name : List ℕ
  pub email : List ℕ
  pub time : List ℕ

-- the texts of the three slices
abbrev pub parts_of : SignatureRef → Parts
parts_of s = record { name = s.name.now; email = s.email.now; time = s.time.now }

-- the line of these parts
abbrev pub line_of : Parts → List ℕ
line_of p = p.name ++ (codes " <" ++ (p.email ++ (codes "> " ++ p.time)))

-- the parts are those of a line: no byte is `<`, `>`, a newline or NUL, and the time is not empty
abbrev pub are_parts : Parts → Bool
are_parts p = is_part p.name && is_part p.email && is_part p.time && not (length p.time == 0)

-- the line is cut into these parts: it is the name, ` <`, the email, `> ` and the time, and these may be its parts
pub record IsCut (line : List ℕ) (p : Parts) : Type 0 where
  pub whole : line ≡ line_of p
  pub allowed : are_parts p ≡ true

-- the line is no signature line: it has no cut
abbrev pub HasNoCut : List ℕ → Type 0
HasNoCut line = (p : Parts) → ¬ (IsCut line p)

-- the line has at most one cut
abbrev pub OneCut : List ℕ → Type 0
OneCut line = (p q : Parts) → IsCut line p → IsCut line q → p ≡ q
