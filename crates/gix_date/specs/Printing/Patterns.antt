-- Patterns of usual letters and of marks, which the printer shows one by one.
use Rattle.std.specs.Prelude.{◌≡◌, ℕ, suc, ℤ, ◌<◌, List, ◌∷◌, Option, Some, Result, length, false, nat_lt, [], ◌+◌, if◌then◌else◌}
use Rattle.jiff.specs.Types.{PlainZoned}
use Rattle.jiff.specs.ZonedText.{zoned_parts}
use Rattle.jiff_core.specs.Date.{weekday_of}
use Rattle.jiff_core.specs.declared.civil.date.Date.{Date}
use Rattle.jiff_core.specs.declared.civil.iso_week_date.ISOWeekDate.{ISOWeekDate}
use Rattle.jiff_core.specs.declared.error.Error.{Error}
use Rattle.jiff_strtime.specs.Show.{Context, show_steps}
use Rattle.jiff_strtime.specs.declared.directive.Config.{Config}
use Rattle.jiff_strtime.specs.declared.directive.Locale.TheVariants.{Default}
use Rattle.gix_date.specs.Fields.Layout.{LocalTime}
use Rattle.gix_date.specs.Text.Characters.{digit_zero, space}
use Rattle.gix_date.specs.Text.Numbers.{two_digits}
use Rattle.gix_date.specs.Printing.NamedTexts.{local_time, ShowsFourDigitFields}

-- the two places of a day, of which the first may be a space
abbrev pub spaced_day : ℕ → List ℕ
spaced_day day = if nat_lt day 10 then space ∷ (digit_zero + day) ∷ [] else two_digits day

-- what usual letters do not show of a context
pub record Unseen : Type 0 where
  pub abbreviation : List ℕ
  pub name : Option (List ℕ)
  pub date : Result Date Error
  pub iso : Result ISOWeekDate Error
  pub second : Result ℤ Error

-- the strict printer's context of a zoned value
abbrev pub context_of : PlainZoned → Unseen → Context
context_of z unseen = record {
  parts = record (zoned_parts z.datetime z.offset z.timestamp unseen.abbreviation unseen.name)
      { weekday = Some (weekday_of z.datetime.date) };
  date = unseen.date;
  iso = unseen.iso;
  second = unseen.second;
}

abbrev pub strict : Config
strict = record { locale = Default; lenient = false }

-- of each zoned value with this clock one step of the printer leaves this of a pattern, and the text grows so
abbrev pub StepShows : LocalTime → List ℕ → List ℕ → List ℕ → List ℕ → Type 0
StepShows t pattern rest old new =
    (z : PlainZoned) → ShowsFourDigitFields z → local_time z ≡ t → (unseen : Unseen) (fuel : ℕ)
    → show_steps (suc fuel) strict pattern (context_of z unseen) old ≡ show_steps fuel strict rest (context_of z unseen) new

-- by a letter after its percent sign
unfoldable pub ShowsLetter : LocalTime → ℕ → List ℕ → List ℕ → Type 0
ShowsLetter t letter old new = (rest : List ℕ) → StepShows t (37 ∷ letter ∷ rest) rest old new

-- by what comes first in a pattern
pub record ShowsFront (t : LocalTime) (pattern rest old new : List ℕ) : Type 0 where
  pub shorter : length rest < length pattern
  pub step : StepShows t pattern rest old new
