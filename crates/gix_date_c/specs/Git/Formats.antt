-- Dates by Git's formats, as C says it.
use Rattle.std.specs.Prelude.{◌≡◌, ◌⊎◌, ℕ, if◌then◌else◌, Bool, List, Option, Some, None, IsSome, Result, Ok, Err, String, string_bytes}
use Rattle.std.specs.Global.{Global}
use Rattle.std.specs.Result.{result_map_both}
use Rattle.std.specs.Str.{is_utf8}
use Rattle.jiff.specs.Types.{TimeZone}
use Rattle.gix_date.specs.declared.time.Time.{Time}
use Rattle.git_date.specs.Formats.Format.{shown_by_format}
use Rattle.git_date.specs.Formats.Pieces.{checked}
use Rattle.git_date.specs.declared.format.error.FormatFault.{FormatFault}
use Rattle.git_date.specs.declared.format.error.FormatFault.TheVariants as faults
use Rattle.gix_date_c.specs.Git.Modes.{local_of}
use Rattle.gix_date_c.specs.Values.Refusals.{refused, refused_at}
use Rattle.gix_date_c.specs.declared.values.refusal.Refusal.{Refusal}
use Rattle.gix_date_c.specs.declared.values.status.Status.{Status}
use Rattle.gix_date_c.specs.declared.values.status.Status.TheVariants as statuses

-- what is asked: a time by the bytes of a format, and whether the clock is the zone's, by a `bool` of C
pub record Asked : Type 0 where
  pub time : Time
  pub format : List ℕ
  pub local : ℕ

-- the fault of a format
abbrev pub format_refusal : FormatFault → Refusal
format_refusal (faults.FlagRefused place) = refused_at statuses.FlagRefused place
format_refusal (faults.UnknownDirective place) = refused_at statuses.UnknownDirective place
format_refusal (faults.WidthTooLarge place) = refused_at statuses.WidthTooLarge place

-- the format of these bytes, or why there is none
abbrev pub checked_bytes : List ℕ → Result (List ℕ) Refusal
checked_bytes bytes =
    if is_utf8 bytes then result_map_both (λ format. format) format_refusal (checked bytes) else Err (refused statuses.NotText)

-- What is answered where a format shows this text, or none. There may be no memory for a text.
abbrev pub IsTextAnswer : Option (List ℕ) → Result (List ℕ) Refusal → Type 0
IsTextAnswer shown (Ok text) = shown ≡ Some text
IsTextAnswer shown (Err e) = ((shown ≡ None) × (e ≡ refused statuses.GitRange)) ⊎ (IsSome shown × (e ≡ refused statuses.Memory))

-- a time by a format that may be none, by an option that may be none
abbrev pub IsByFormat : Time → TimeZone → Option Bool → Result (List ℕ) Refusal → Result (List ℕ) Refusal → Type 0
IsByFormat t zone None format answer = answer ≡ Err (refused statuses.NoSuchOption)
IsByFormat t zone (Some local) (Err e) answer = answer ≡ Err e
IsByFormat t zone (Some local) (Ok format) answer = IsTextAnswer (shown_by_format zone local format t) answer

-- the same in a zone, or why there is none
abbrev pub IsByFormatAt : Asked → Result TimeZone Status → Result (List ℕ) Refusal → Type 0
IsByFormatAt a (Ok zone) answer = IsByFormat a.time zone (local_of a.local) (checked_bytes a.format) answer
IsByFormatAt a (Err status) answer = answer ≡ Err (refused status)

-- the same in a zone of which this is known
abbrev pub IsByFormatIn : Asked → (Result TimeZone Status → Type 0) → Result (List ℕ) Refusal → Type 0
IsByFormatIn a IsZone answer = (zone : Result TimeZone Status) × IsZone zone × IsByFormatAt a zone answer

-- the text of an answer, which has one of its own unless that is short
abbrev pub text_of : List ℕ → Option (String Global) → List ℕ
text_of short None = short
text_of short (Some text) = string_bytes text
