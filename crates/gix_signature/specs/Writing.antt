-- What is written of a name, an email and a time.
use Rattle.std.specs.Prelude.{◌≡◌, ℕ, ◌%◌, List, unsigned_abs, if◌then◌else◌, ◌&&◌, Option, Some, Result, Ok, Err, ok_or, option_map}
use Rattle.std.specs.declared.io.ErrorKind.{ErrorKind}
use Rattle.gix_date.specs.Fields.ClockNumbers.{seconds_per_minute}
use Rattle.gix_date.specs.Header.Reading.{header_time}
use Rattle.gix_date.specs.Header.Text.{header_text}
use Rattle.gix_date.specs.Devices.StreamState.{StreamState, Takes, TakesProperPrefix, TakesNothing}
use Rattle.gix_date.specs.declared.time.Time.{Time}
use Rattle.gix_signature.specs.Signature.{Parts, IsCut, is_part, line_of}
use Rattle.gix_signature.specs.declared.error.SignatureError.{SignatureError}
use Rattle.gix_signature.specs.declared.error.SignatureError.TheVariants.{BadPart, OffsetTooWide, Write}

-- The result of writing a text: the sink took all of it, or a proper prefix and has that fault.
abbrev pub Puts : StreamState → StreamState → List ℕ → Result Unit ErrorKind → Type 0
Puts old new text (Ok _) = Takes old new text
Puts old new text (Err kind) = TakesProperPrefix old new text × (new.fault ≡ Some kind)

-- the parts of a line to write: of a name, an email and a time; `None` if the time has no header text
abbrev pub parts_due : List ℕ → List ℕ → Time → Option Parts
parts_due name email t = option_map (λ text. record { name = name; email = email; time = text }) (header_text t)

-- the line to write, or a refusal: of a name, an email and a time; `BadPart` if the name or the email may not be a
-- part, or else `OffsetTooWide` if the time has no header text
abbrev pub line_due : List ℕ → List ℕ → Time → Result (List ℕ) SignatureError
line_due name email t =
    if is_part name && is_part email
    then ok_or (option_map line_of (parts_due name email t)) OffsetTooWide else Err BadPart

-- The result of writing a line: the writer took all of it, or a proper prefix and has that fault. Without a line its
-- refusal is answered, and the writer took no byte.
abbrev pub WritesLine : Result (List ℕ) SignatureError → StreamState → StreamState → Result Unit SignatureError → Type 0
WritesLine (Ok line) old new (Ok _) = Takes old new line
WritesLine (Ok line) old new (Err (Write kind)) = TakesProperPrefix old new line × (new.fault ≡ Some kind)
WritesLine (Ok line) old new (Err _) = ⊥
WritesLine (Err refusal) old new (Ok _) = ⊥
WritesLine (Err refusal) old new (Err e) = (e ≡ refusal) × TakesNothing old new

-- a written line of these parts: it is cut into the name, the email and the header text of the time, which is read
-- again if its offset is whole minutes
pub record IsWritten (name email : List ℕ) (t : Time) (line : List ℕ) : Type 0 where
  pub text : List ℕ
  pub is_text : header_text t ≡ Some text
  pub cut : IsCut line (record { name = name; email = email; time = text })
  pub back : unsigned_abs t.offset % seconds_per_minute ≡ 0 → header_time text ≡ Some t
