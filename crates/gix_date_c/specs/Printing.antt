-- Times, as they are printed for C.
use Rattle.std.specs.Prelude.{◌≡◌, ◌⊎◌, ℕ, Bool, true, false, List, Some, None, Result, Err, String, string_bytes}
use Rattle.std.specs.Result.{result_map_both}
use Rattle.std.specs.Global.{Global}
use Rattle.gix_date.specs.Printing.NamedFormats.{format_numbered, printed_by}
use Rattle.gix_date.specs.Printing.Formats.{Prints, PrintsOrSeconds, PrintsPattern, PrintsPatternOrSeconds}
use Rattle.gix_date.specs.declared.error.Error.{Error}
use Rattle.gix_date.specs.declared.error.Error.TheVariants as errors
use Rattle.gix_date.specs.declared.time.Time.{Time}
use Rattle.gix_date.specs.declared.time.format.Format.{Format}
use Rattle.gix_date_c.specs.declared.values.status.Status.{Status}
use Rattle.gix_date_c.specs.declared.values.status.Status.TheVariants as statuses

-- the format of a number
abbrev pub IsFormat : ℕ → Format → Type 0
IsFormat number format = format_numbered number ≡ Some (printed_by format)

-- the status of a refusal to print
abbrev pub print_status : Error → Status
print_status errors.Conversion = statuses.Conversion
print_status errors.OffsetTooWide = statuses.OffsetTooWide
print_status errors.Memory = statuses.Memory
print_status _ = statuses.Pattern

-- what the library printed, as a text for a buffer
abbrev pub printed_text : Result (String Global) Error → Result (List ℕ) Status
printed_text = result_map_both string_bytes print_status

abbrev pub IsPrinted : (Result (String Global) Error → Type 0) → Result (List ℕ) Status → Type 0
IsPrinted Prints answer = (result : Result (String Global) Error) × Prints result × (answer ≡ printed_text result)

-- printing in a format, or else seconds if they are wanted
abbrev pub PrintsSo : Bool → Time → Format → Result (String Global) Error → Type 0
PrintsSo false = Prints
PrintsSo true = PrintsOrSeconds

-- the same by a pattern
abbrev pub PrintsPatternSo : Bool → Time → List ℕ → Result (String Global) Error → Type 0
PrintsPatternSo false = PrintsPattern
PrintsPatternSo true = PrintsPatternOrSeconds

-- printing in the format of a number, as the library does it in that format
abbrev pub IsFormatted : (Format → Result (String Global) Error → Type 0) → ℕ → Result (List ℕ) Status → Type 0
IsFormatted Prints number answer =
    ((format : Format) × IsFormat number format × IsPrinted (Prints format) answer)
    ⊎ ((format_numbered number ≡ None) × (answer ≡ Err statuses.NoSuchOption))

-- printing by a pattern, which is text or not
abbrev pub IsPatternPrinted : (Result (String Global) Error → Type 0) → Bool → Result (List ℕ) Status → Type 0
IsPatternPrinted Prints true answer = IsPrinted Prints answer
IsPatternPrinted Prints false answer = answer ≡ Err statuses.NotText
