-- The buffer for the text of a time.
use Rattle.std.specs.Prelude.{◌≡◌, ℕ, List, Some, None, Result, Ok, Err}
use Rattle.gix_date.specs.Header.Text.{header_text}
use Rattle.gix_date.specs.declared.error.Error.{Error}
use Rattle.gix_date.specs.declared.error.Error.TheVariants.{OffsetTooWide}
use Rattle.gix_date.specs.declared.parsing.TimeBuf.{TimeBuf}
use Rattle.gix_date.specs.declared.time.Time.{Time}

-- the text in a buffer
abbrev pub text_in : TimeBuf → List ℕ
text_in buf = buf.text.bytes

-- a buffer with the header text, or `OffsetTooWide` without one
abbrev pub HoldsText : Time → Result TimeBuf Error → Type 0
HoldsText t (Ok buf) = header_text t ≡ Some (text_in buf)
HoldsText t (Err OffsetTooWide) = header_text t ≡ None
HoldsText t (Err _) = ⊥
