-- Dates, as they are parsed for C.
use Rattle.std.specs.Prelude.{◌≡◌, ◌≢◌, ℕ, ◌==◌, if◌then◌else◌, Bool, true, false, List, Option, Some, None, Result, Ok, Err}
use Rattle.std.specs.Result.{result_map_both}
use Rattle.std.specs.Str.{is_utf8}
use Rattle.jiff.specs.Types.{TimeZone}
use Rattle.jiff.specs.declared.zoned.Zoned.{Zoned}
use Rattle.gix_date.specs.Families.Order.{ParseNoAllocOutcome, first_family_by}
use Rattle.gix_date.specs.Families.Raw.{allows}
use Rattle.gix_date.specs.declared.error.ParseError.{ParseError}
use Rattle.gix_date.specs.declared.error.ParseError.TheVariants as refusals
use Rattle.gix_date.specs.declared.parsing.raw.RawOffsets.{RawOffsets}
use Rattle.gix_date.specs.declared.parsing.raw.RawOffsets.TheVariants.{Quarter, WholeMinutes}
use Rattle.gix_date.specs.declared.time.Time.{Time}
use Rattle.gix_date_c.specs.Moments.{IsPlaced, Place, place_of}
use Rattle.gix_date_c.specs.declared.moment.CInstant.{CInstant}
use Rattle.gix_date_c.specs.declared.values.status.Status.{Status}
use Rattle.gix_date_c.specs.declared.values.status.Status.TheVariants as statuses

-- the rule for raw offsets of this number
abbrev pub raw_rule : ℕ → Option RawOffsets
raw_rule n = if n == 0 then Some Quarter else if n == 1 then Some WholeMinutes else None

-- the status of a refusal to parse
abbrev pub refusal_status : ParseError → Status
refusal_status refusals.UnknownFormat = statuses.UnknownFormat
refusal_status refusals.DateConversion = statuses.DateConversion
refusal_status refusals.MissingNow = statuses.MissingNow
refusal_status refusals.Range = statuses.Range

-- what parsing a text by a rule comes to, at this moment or none, as the library says it
abbrev pub IsTextParsed : RawOffsets → Option Zoned → List ℕ → Result Time Status → Type 0
IsTextParsed rule now text answer =
    (outcome : Result Time ParseError) × ParseNoAllocOutcome (first_family_by (allows rule) text) now outcome
    × (answer ≡ result_map_both (λ t. t) refusal_status outcome)

-- `IsTextParsed` of bytes that need not be UTF-8
abbrev pub IsParsedIf : Bool → RawOffsets → Option Zoned → List ℕ → Result Time Status → Type 0
IsParsedIf true rule now text answer = IsTextParsed rule now text answer
IsParsedIf false rule now text answer = answer ≡ Err statuses.NotText

-- `IsParsedIf` by the number of a rule, which may be of none
abbrev pub IsParsedWithRule : Option RawOffsets → Option Zoned → List ℕ → Result Time Status → Type 0
IsParsedWithRule None now text answer = answer ≡ Err statuses.NoSuchOption
IsParsedWithRule (Some rule) now text answer = IsParsedIf (is_utf8 text) rule now text answer

-- what parsing comes to by the rule of this number for raw offsets
abbrev pub IsParsed : ℕ → Option Zoned → List ℕ → Result Time Status → Type 0
IsParsed raw_offsets = IsParsedWithRule (raw_rule raw_offsets)

-- what parsing comes to at a moment, or where there is none for this reason
abbrev pub IsParsedAt : ℕ → Result Zoned Status → List ℕ → Result Time Status → Type 0
IsParsedAt raw_offsets (Ok now) text answer = IsParsed raw_offsets (Some now) text answer
IsParsedAt raw_offsets (Err status) text answer = answer ≡ Err status

-- the moment of a place, or none where an answer does not miss it
abbrev pub IsMomentFor : Place → Result Time Status → Option Zoned → Type 0
IsMomentFor place answer (Some now) = place_of (Ok now) ≡ Ok place
IsMomentFor place answer None = answer ≢ Err statuses.MissingNow

-- what parsing comes to at a place
abbrev pub IsParsedThere : ℕ → Place → List ℕ → Result Time Status → Type 0
IsParsedThere raw_offsets place text answer =
    (now : Option Zoned) × IsMomentFor place answer now × IsParsed raw_offsets now text answer

-- the same, or where there is no place for this reason
abbrev pub IsParsedIfPlaced : ℕ → Result Place Status → List ℕ → Result Time Status → Type 0
IsParsedIfPlaced raw_offsets (Ok place) text answer = IsParsedThere raw_offsets place text answer
IsParsedIfPlaced raw_offsets (Err status) text answer = answer ≡ Err status

-- what parsing comes to at an instant in a zone of which this is known
abbrev pub IsParsedIn : ℕ → (Result TimeZone Status → Type 0) → CInstant → List ℕ → Result Time Status → Type 0
IsParsedIn raw_offsets IsZone instant text answer =
    (place : Result Place Status) × IsPlaced IsZone instant place × IsParsedIfPlaced raw_offsets place text answer
