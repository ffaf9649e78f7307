-- What a time is printed as.
use Rattle.std.specs.Prelude.{◌≡◌, ◌⊎◌, ℕ, List, Some, None, Result, Ok, Err, false, string_bytes, String, IsSome, MatchResult}
use Rattle.std.specs.Str.{IsUtf8}
use Rattle.std.specs.Global.{Global}
use Rattle.jiff.specs.Types.{PlainZoned}
use Rattle.jiff.specs.Words.{plain_zoned}
use Rattle.jiff.specs.ZonedText.{IsZonedParts}
use Rattle.jiff.specs.declared.zoned.Zoned.{Zoned}
use Rattle.jiff_core.specs.Date.{weekday_of}
use Rattle.jiff_core.specs.declared.error.Error.{Error as JiffError}
use Rattle.jiff_strtime.specs.Show.{Shown, IsShownAs}
use Rattle.jiff_strtime.specs.Text.{Parts, parts_of}
use Rattle.jiff_strtime.specs.declared.directive.Config.{Config}
use Rattle.jiff_strtime.specs.declared.directive.Locale.TheVariants.{Default}
use Rattle.jiff_strtime.specs.declared.tm.BrokenDownTime.{BrokenDownTime}
use Rattle.gix_date.specs.Header.Text.{header_text}
use Rattle.gix_date.specs.Text.Numbers.{decimal_text}
use Rattle.gix_date.specs.Fields.Zoned.{IsConvertible, IsMoment}
use Rattle.gix_date.specs.declared.error.Error.{Error}
use Rattle.gix_date.specs.declared.error.Error.TheVariants as errors
use Rattle.gix_date.specs.declared.time.Time.{Time}
use Rattle.gix_date.specs.declared.time.format.Format.{Format}
use Rattle.gix_date.specs.declared.time.format.Format.TheVariants.{Custom, Unix, Raw}

-- the parts of a zoned value that `jiff` prints, and the day of the week
pub record ArePrinted (z : PlainZoned) (filled : Parts) : Type 0 where
  pub parts : Parts
  pub are_parts : IsZonedParts z parts
  pub is_filled : filled ≡ record parts { weekday = Some (weekday_of z.datetime.date) }

-- there are parts of a zoned value that are printed
abbrev pub HasParts : PlainZoned → Type 0
HasParts z = (filled : BrokenDownTime) × ArePrinted z (parts_of filled)

-- what `jiff` prints by a pattern: what its strict printer shows of a zoned value
pub record IsShown (pattern : List ℕ) (z : PlainZoned) (shown : Shown) : Type 0 where
  pub config : Config
  pub locale : config.locale ≡ Default
  pub strict : config.lenient ≡ false
  pub filled : BrokenDownTime
  pub are_printed : ArePrinted z (parts_of filled)
  pub is_shown : IsShownAs config pattern filled shown

-- the printer refuses the pattern, or what it shows is no text
abbrev pub IsUnprinted : List ℕ → PlainZoned → Type 0
IsUnprinted pattern z =
    ((e : JiffError) × IsShown pattern z (Err e))
    ⊎ ((shown : List ℕ) × IsShown pattern z (Ok shown) × (IsUtf8 shown → ⊥))

-- the time has a zoned value of which `Has` holds
abbrev pub AtMoment : Time → (PlainZoned → Type 0) → Type 0
AtMoment t Has = (z : Zoned) × IsMoment t z × Has (plain_zoned z)

-- the text of a time by a pattern: what is shown of a moment of the time
abbrev pub IsPatternText : Time → List ℕ → List ℕ → Type 0
IsPatternText t pattern text = AtMoment t (λ z. IsShown pattern z (Ok text))

-- the text of a time in a format: decimal seconds, the header text, or the text by the pattern
abbrev pub IsTextOf : Time → Format → List ℕ → Type 0
IsTextOf t Unix text = text ≡ decimal_text t.seconds
IsTextOf t Raw text = header_text t ≡ Some text
IsTextOf t (Custom format) text = IsPatternText t format.pattern.now text

-- the result is decimal seconds, or `Memory`
abbrev pub PrintsSeconds : Time → Result (String Global) Error → Type 0
PrintsSeconds t (Ok text) = string_bytes text ≡ decimal_text t.seconds
PrintsSeconds t (Err e) = e ≡ errors.Memory

-- the header text, or a fault: `Memory` for the text, or `OffsetTooWide` if there is none
abbrev pub PrintsHeader : Time → Result (String Global) Error → Type 0
PrintsHeader t (Ok text) = header_text t ≡ Some (string_bytes text)
PrintsHeader t (Err e) =
    ((e ≡ errors.OffsetTooWide) × (header_text t ≡ None)) ⊎ ((e ≡ errors.Memory) × IsSome (header_text t))

-- The result of printing by a pattern: `Conversion` if the time does not convert; else the text that `IsShown`,
-- `Pattern` if `jiff` refuses the pattern or shows no UTF-8, or `Memory`.
abbrev pub PrintsPattern : Time → List ℕ → Result (String Global) Error → Type 0
PrintsPattern t pattern (Ok text) = AtMoment t (λ z. IsShown pattern z (Ok (string_bytes text)))
PrintsPattern t pattern (Err e) =
    ((e ≡ errors.Conversion) × (IsConvertible t → ⊥)) ⊎ ((e ≡ errors.Memory) × IsConvertible t)
    ⊎ ((e ≡ errors.Pattern) × AtMoment t (IsUnprinted pattern))

-- the result of printing in a format: `PrintsSeconds`, `PrintsHeader`, or `PrintsPattern` its pattern
abbrev pub Prints : Time → Format → Result (String Global) Error → Type 0
Prints t Unix result = PrintsSeconds t result
Prints t Raw result = PrintsHeader t result
Prints t (Custom format) result = PrintsPattern t format.pattern.now result

-- the time has no text by the pattern: it does not convert, or the printer refuses or shows no UTF-8
abbrev pub HasNoPatternText : Time → List ℕ → Type 0
HasNoPatternText t pattern = (IsConvertible t → ⊥) ⊎ AtMoment t (IsUnprinted pattern)

-- printing by a pattern, or else seconds: in decimal, for a time that has no text by it
abbrev pub PrintsPatternOrSeconds : Time → List ℕ → Result (String Global) Error → Type 0
PrintsPatternOrSeconds t pattern (Ok text) =
    PrintsPattern t pattern (Ok text) ⊎ (HasNoPatternText t pattern × PrintsSeconds t (Ok text))
PrintsPatternOrSeconds t pattern (Err e) = e ≡ errors.Memory

-- the time has no text in the format
abbrev pub HasNoText : Time → Format → Type 0
HasNoText t Unix = ⊥
HasNoText t Raw = header_text t ≡ None
HasNoText t (Custom format) = HasNoPatternText t format.pattern.now

-- printing in a format, or else seconds: in decimal, for a time that has no text in it
abbrev pub PrintsOrSeconds : Time → Format → Result (String Global) Error → Type 0
PrintsOrSeconds t format (Ok text) = Prints t format (Ok text) ⊎ (HasNoText t format × PrintsSeconds t (Ok text))
PrintsOrSeconds t format (Err e) = e ≡ errors.Memory

-- what printing a zoned value by a pattern comes to
abbrev pub PrintsAt : List ℕ → PlainZoned → Result (String Global) Error → Type 0
PrintsAt pattern z result =
    MatchResult result (λ text. IsShown pattern z (Ok (string_bytes text)))
    (λ e. (e ≡ errors.Memory) ⊎ ((e ≡ errors.Pattern) × IsUnprinted pattern z))
