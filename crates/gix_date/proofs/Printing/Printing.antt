-- What printing comes to.
use Rattle.std.proofs.Common.{arith}
use Rattle.std.proofs.Common.{◌≡◌, ◌∙◌, ℕ, false, List, Some, Option, Ok, Err, Result, refl, ap, inl, inr, ◌⊎◌, String, Global}
use Rattle.jiff.specs.Types.{PlainZoned}
use Rattle.jiff.specs.Words.{plain_zoned}
use Rattle.jiff.specs.ZonedText.{zoned_parts}
use Rattle.jiff.specs.declared.zoned.Zoned.{Zoned}
use Rattle.jiff_core.specs.Date.{weekday_of}
use Rattle.jiff_core.specs.declared.error.Error.{Error as JiffError}
use Rattle.jiff_core.specs.declared.error.Error.TheVariants.{OutOfMemory}
use Rattle.jiff_strtime.specs.Show.{Shown, IsShownAs, IsBadText}
use Rattle.jiff_strtime.specs.Text.{Parts, parts_of}
use Rattle.jiff_strtime.specs.declared.directive.Config.{Config}
use Rattle.jiff_strtime.specs.declared.directive.Locale.TheVariants.{Default}
use Rattle.jiff_strtime.specs.declared.tm.BrokenDownTime.{BrokenDownTime}
use Rattle.jiff_tz.specs.Abbreviation.{abbreviation_text}
use Rattle.jiff_tz.specs.Zone.{zone_name, IsInfoAt}
use Rattle.jiff_tz.specs.declared.info.OffsetInfo.{OffsetInfo}
use Rattle.gix_date.specs.Printing.Formats.{ArePrinted, IsShown, IsUnprinted, PrintsPattern, PrintsAt}
use Rattle.gix_date.specs.Fields.Zoned.{IsConvertible, IsMoment}
use Rattle.gix_date.specs.declared.error.Error.{Error}
use Rattle.gix_date.specs.declared.error.Error.TheVariants as errors
use Rattle.gix_date.specs.declared.time.Time.{Time}

-- the parts that are printed, with the names of the zone
abbrev pub filled_parts : PlainZoned → List ℕ → Option (List ℕ) → Parts
filled_parts z abbreviation name =
    record (zoned_parts z.datetime z.offset z.timestamp abbreviation name) { weekday = Some (weekday_of z.datetime.date) }

pub are-printed : (z : PlainZoned) (info : OffsetInfo) (abbreviation : List ℕ) (name : Option (List ℕ)) (filled : Parts)
    → IsInfoAt z.time_zone z.timestamp.nanosecond info → abbreviation ≡ abbreviation_text info.abbreviation → name ≡ zone_name z.time_zone
    → filled ≡ filled_parts z abbreviation name → ArePrinted z filled
are-printed z info abbreviation name filled h a n f =
    record {
      parts = zoned_parts z.datetime z.offset z.timestamp (abbreviation_text info.abbreviation) (zone_name z.time_zone);
      are_parts = (info, h, refl);
      is_filled = f ∙ ap (λ (t : List ℕ). filled_parts z t name) a
          ∙ ap (λ (t : Option (List ℕ)). filled_parts z (abbreviation_text info.abbreviation) t) n;
    }

-- what the printer shows, and what it refuses
pub shown-by : (pattern : List ℕ) (z : PlainZoned) (config : Config) (filled : BrokenDownTime) (shown : Shown)
    → config.locale ≡ Default → config.lenient ≡ false → ArePrinted z (parts_of filled) → IsShownAs config pattern filled shown
    → IsShown pattern z shown
shown-by pattern z config filled shown l s a h = grind (arith)

pub refused-by : (pattern : List ℕ) (z : PlainZoned) (config : Config) (filled : BrokenDownTime) (e : JiffError) (fault : Error)
    → config.locale ≡ Default → config.lenient ≡ false → ArePrinted z (parts_of filled)
    → ((e ≡ OutOfMemory) × (fault ≡ errors.Memory)) ⊎ ((e ≡ OutOfMemory → ⊥) × (fault ≡ errors.Pattern))
    → (e ≡ OutOfMemory) ⊎ IsBadText e config pattern filled ⊎ IsShownAs config pattern filled (Err e)
    → (fault ≡ errors.Memory) ⊎ ((fault ≡ errors.Pattern) × IsUnprinted pattern z)
refused-by pattern z config filled e fault l s a (inl memory) h = inl memory.1
refused-by pattern z config filled e fault l s a (inr other) (inl memory) = absurd (other.0 memory)
refused-by pattern z config filled e fault l s a (inr other) (inr (inl bad)) = grind (arith, shown-by)
refused-by pattern z config filled e fault l s a (inr other) (inr (inr h)) = grind (arith, shown-by)

pub at-moment : (t : Time) (pattern : List ℕ) (z : Zoned) (r : Result (String Global) Error) → IsMoment t z → IsConvertible t
    → PrintsAt pattern (plain_zoned z) r → PrintsPattern t pattern r
at-moment t pattern z (Ok text) m c h = (z, m, h)
at-moment t pattern z (Err e) m c (inl memory) = inr (inl (memory, c))
at-moment t pattern z (Err e) m c (inr refused) = inr (inr (refused.0, (z, m, refused.1)))
