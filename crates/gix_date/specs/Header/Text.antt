-- The text of a time in a commit header.
use Rattle.std.specs.Prelude.{◌≡◌, ℕ, List, [], ◌∷◌, ◌++◌, Bool, false, nat_lt, unsigned_abs, if◌then◌else◌, Option, Some, None, IsSomeAnd}
use Rattle.std.specs.Prelude.{Result, Ok, Err}
use Rattle.std.specs.Borrow.{Bor}
use Rattle.std.specs.Option.{option_map_or}
use Rattle.std.specs.Str.{bytes_eq}
use Rattle.gix_date.specs.Fields.Offsets.{compact_offset_text}
use Rattle.gix_date.specs.Text.Characters.{space}
use Rattle.gix_date.specs.Devices.StreamState.{StreamState, Takes, TakesProperPrefix, TakesNothing}
use Rattle.gix_date.specs.Text.Numbers.{decimal_text}
use Rattle.gix_date.specs.declared.error.Error.{Error}
use Rattle.gix_date.specs.declared.error.Error.TheVariants.{OffsetTooWide, Write}
use Rattle.gix_date.specs.declared.time.Time.{Time}
use Rattle.gix_date.specs.declared.time.TheConstants.{HUNDRED_HOURS}
use Rattle.gix_date.specs.declared.time.TheConstants.{MAX_TEXT_LEN}

-- the least offset without header text, 360000 seconds
abbrev pub hundred_hours : ℕ
hundred_hours = HUNDRED_HOURS

-- the longest header text, 26 bytes
abbrev pub max_text_len : ℕ
max_text_len = MAX_TEXT_LEN

-- A time's seconds in decimal, a space, and an offset below 100 hours as `+hhmm`. Of a wider offset it is no header
-- text.
abbrev pub written_text : Time → List ℕ
written_text t = decimal_text t.seconds ++ space ∷ compact_offset_text t.offset

-- the header text of a time; `None` if the offset is 100 hours or more either way
unfoldable pub header_text : Time → Option (List ℕ)
header_text t = if nat_lt (unsigned_abs t.offset) hundred_hours then Some (written_text t) else None

-- whether this is the time's header text
abbrev pub is_header_text_of : Time → List ℕ → Bool
is_header_text_of t text = option_map_or (λ written. bytes_eq written text) (header_text t) false

-- The result of writing a time: the writer took all of the header text; or there is none, `OffsetTooWide`, and it took
-- no byte; or it took a proper prefix and has that fault.
abbrev pub Writes : Time → StreamState → StreamState → Result Unit Error → Type 0
Writes t old new (Ok _) = IsSomeAnd (header_text t) (Takes old new)
Writes t old new (Err OffsetTooWide) = (header_text t ≡ None) × TakesNothing old new
Writes t old new (Err (Write kind)) = IsSomeAnd (header_text t) (TakesProperPrefix old new) × (new.fault ≡ Some kind)
Writes t old new (Err _) = ⊥

-- the header text, or `OffsetTooWide` if there is none
abbrev pub GivesText : Time → Result (Bor (List ℕ)) Error → Type 0
GivesText t (Ok text) = header_text t ≡ Some text.now
GivesText t (Err OffsetTooWide) = header_text t ≡ None
GivesText t (Err _) = ⊥

-- what stays in the buffer after `to_str`: the lent text, or nothing after a refusal
abbrev pub text_left : Result (Bor (List ℕ)) Error → List ℕ
text_left (Ok text) = text.now
text_left (Err _) = []
