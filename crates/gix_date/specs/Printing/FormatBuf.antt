-- Which times have a text in a format that is written without memory.
use Rattle.std.specs.Prelude.{◌≡◌, ◌⊎◌, ℕ, List, IsSome, ⊤}
use Rattle.gix_date.specs.Header.Text.{header_text}
use Rattle.gix_date.specs.Fields.Zoned.{IsConvertible}
use Rattle.gix_date.specs.Printing.LocalClocks.{HasFourDigitFields}
use Rattle.gix_date.specs.Printing.NamedTexts.{short_pattern}
use Rattle.gix_date.specs.Printing.ReadingBack.{HasClock}
use Rattle.gix_date.specs.declared.time.Time.{Time}
use Rattle.gix_date.specs.declared.time.format.Format.{Format}
use Rattle.gix_date.specs.declared.time.format.Format.TheVariants.{Custom, Unix, Raw}

-- one of the seven named patterns
abbrev pub IsNamedPattern : List ℕ → Type 0
IsNamedPattern pattern = (pattern ≡ short_pattern) ⊎ HasClock pattern

-- the pattern is a named one, and the time converts and has four-digit fields
pub record HasNamedText (t : Time) (pattern : List ℕ) : Type 0 where
  pub named : IsNamedPattern pattern
  pub converts : IsConvertible t
  pub four_digits : HasFourDigitFields t

-- the format has a text in a buffer: seconds always, a header if the time has its text, a pattern if it `HasNamedText`
abbrev pub HasBufText : Time → Format → Type 0
HasBufText t Unix = ⊤
HasBufText t Raw = IsSome (header_text t)
HasBufText t (Custom format) = HasNamedText t format.pattern.now
