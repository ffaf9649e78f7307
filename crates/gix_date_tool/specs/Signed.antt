-- What is written of a signature line's parts.
use Rattle.std.specs.Prelude.{◌≡◌, ℕ, List, true, Some, Ok}
use Rattle.std.specs.Str.{is_utf8}
use Rattle.gix_date.specs.Header.Canonical.{is_canonical_header}
use Rattle.gix_date.specs.Header.Reading.{header_time}
use Rattle.gix_date.specs.declared.time.Time.{Time}
use Rattle.gix_signature.specs.Signature.{Parts, IsCut}
use Rattle.gix_signature.specs.Writing.{line_due}

-- the text has a cut, a time is read from the last part, and of the name, the email and that time this line is due
pub record IsSigned (text line : List ℕ) : Type 0 where
  pub parts : Parts
  pub time : Time
  pub cut : IsCut text parts
  pub read : header_time parts.time ≡ Some time
  pub due : line_due parts.name parts.email time ≡ Ok line

-- no line is due: the text has no cut, no time is read from the last part, or that time has no header text
unfoldable pub IsUnsigned : List ℕ → Type 0
IsUnsigned text = (line : List ℕ) → ¬ (IsSigned text line)

-- a line as Git writes it: it is text, it has a cut, and its time is the header text of a time
pub record IsCanonicalLine (line : List ℕ) : Type 0 where
  pub is_text : is_utf8 line ≡ true
  pub parts : Parts
  pub cut : IsCut line parts
  pub canonical : is_canonical_header parts.time ≡ true
