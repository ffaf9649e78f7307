-- What a time is printed as by a pattern whose text is known.
use Rattle.std.specs.Prelude.{◌≡◌, ◌⊎◌, ℕ, List, Result, Ok, Err, String, string_bytes}
use Rattle.std.specs.Global.{Global}
use Rattle.gix_date.specs.Fields.Layout.{LocalTime}
use Rattle.gix_date.specs.Printing.LocalClocks.{clock_of, HasFourDigitFields}
use Rattle.gix_date.specs.Printing.Formats.{PrintsPattern}
use Rattle.gix_date.specs.Fields.Zoned.{IsConvertible}
use Rattle.gix_date.specs.declared.error.Error.{Error}
use Rattle.gix_date.specs.declared.error.Error.TheVariants as errors
use Rattle.gix_date.specs.declared.time.Time.{Time}

-- the clock's text, or a fault: the text of what the time's own clock shows; or `Memory`; or `Conversion`, if the time
-- does not convert
abbrev pub PrintsText : (LocalTime → List ℕ) → Time → Result (String Global) Error → Type 0
PrintsText text t (Ok s) = string_bytes s ≡ text (clock_of t)
PrintsText text t (Err e) = (e ≡ errors.Memory) ⊎ ((e ≡ errors.Conversion) × (IsConvertible t → ⊥))

-- if the time `HasFourDigitFields`, the pattern prints it as this text, by `PrintsText`
abbrev pub IsPrintedAs : List ℕ → (LocalTime → List ℕ) → Time → Type 0
IsPrintedAs pattern text t =
    HasFourDigitFields t → (result : Result (String Global) Error) → PrintsPattern t pattern result → PrintsText text t result
