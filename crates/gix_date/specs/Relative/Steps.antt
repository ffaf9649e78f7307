-- What takes an instant back in a zone, in jiff's words.
use Rattle.std.specs.Prelude.{◌≡◌, ◌+◌, ℤ, pos, ◌+ℤ◌, ◌-ℤ◌, ◌*ℤ◌, unsigned_abs, FitsSigned, List, [], ◌∷◌, Option, Some, None}
use Rattle.std.specs.Int.{w64, int_div_euclid, int_rem_euclid}
use Rattle.jiff.specs.Words.{plain_zoned, offset_at, picked_instant, civil_nanos, nanos_of_seconds, time_nanos, epoch_day, month_number}
use Rattle.jiff.specs.Words.{IsTimestampNanos, IsYear, zoned_nanos}
use Rattle.jiff.specs.Types.{TimeZone, DateTime, Date, Time as TimeOfDay}
use Rattle.jiff.specs.declared.zoned.Zoned.{Zoned}
use Rattle.jiff_core.specs.Calendar.{days_from_civil}
use Rattle.gix_date.specs.declared.parsing.relative.words.TimeUnit.{TimeUnit}
use Rattle.gix_date.specs.declared.parsing.relative.words.TimeUnit.TheVariants.{Seconds, Months}

-- the zone of a moment
abbrev pub zone_of : Zoned → TimeZone
zone_of moment = (plain_zoned moment).time_zone

-- the zone's clock shows this datetime at the instant
abbrev pub IsLocal : TimeZone → ℤ → DateTime → Type 0
IsLocal tz instant shown = civil_nanos shown ≡ instant +ℤ nanos_of_seconds (offset_at tz instant)

-- nanoseconds of a day and a time of day
abbrev pub civil_of : ℤ → TimeOfDay → ℤ
civil_of day time = day *ℤ pos 86_400_000_000_000 +ℤ pos (time_nanos time)

-- the zone resolves the date and clock that `civil` counts in nanoseconds to `instant`
pub record IsPicked (tz : TimeZone) (civil instant : ℤ) : Type 0 where
  pub shown : DateTime
  pub civil_is : civil_nanos shown ≡ civil
  pub is_choice : instant ≡ picked_instant tz shown
  pub in_range : IsTimestampNanos instant

-- the zone resolves `instant`'s local time to `after`
pub record Resolves (tz : TimeZone) (instant after : ℤ) : Type 0 where
  pub local : DateTime
  pub local_is : IsLocal tz instant local
  pub picked : IsPicked tz (civil_nanos local) after

-- `after` is `seconds` before `instant`, resolved by the zone
pub record SecondsStep (tz : TimeZone) (seconds instant after : ℤ) : Type 0 where
  pub in_range : IsTimestampNanos (instant -ℤ nanos_of_seconds seconds)
  pub resolves : Resolves tz (instant -ℤ nanos_of_seconds seconds) after

-- the day number of the first of a month, which counts from January of the year 0
abbrev pub month_start : ℤ → ℤ
month_start number =
    days_from_civil (int_div_euclid number (pos 12)) (unsigned_abs (int_rem_euclid number (pos 12)) + 1) 1

-- the day number of a day of that month, which may lie past its end
abbrev pub rolled_day : ℤ → Date → ℤ
rolled_day number date = month_start number +ℤ (pos date.day -ℤ pos 1)

-- the number of the month so many months before that of a date
abbrev pub month_before : Date → ℤ → ℤ
month_before date months = month_number date -ℤ months

-- `before` is the date so many months before a date: its day of that month, which may lie past its end
pub record IsMonthsBefore (date : Date) (months : ℤ) (before : Date) : Type 0 where
  pub fits : FitsSigned w64 (month_before date months)
  pub year_in : IsYear (int_div_euclid (month_before date months) (pos 12))
  pub day_is : epoch_day before ≡ rolled_day (month_before date months) date

-- such a date, or `None` if there is none
abbrev pub IsMonthsBeforeIfAny : Date → ℤ → Option Date → Type 0
IsMonthsBeforeIfAny date months None = (before : Date) → ¬ (IsMonthsBefore date months before)
IsMonthsBeforeIfAny date months (Some before) = IsMonthsBefore date months before

-- `after` is `months` before `instant`, resolved by the zone: at the day and clock that the zone shows at `instant`
pub record MonthsStep (tz : TimeZone) (months instant after : ℤ) : Type 0 where
  pub local : DateTime
  pub local_is : IsLocal tz instant local
  pub fits : FitsSigned w64 (month_before local.date months)
  pub year_in : IsYear (int_div_euclid (month_before local.date months) (pos 12))
  pub picked : IsPicked tz (civil_of (rolled_day (month_before local.date months) local.date) local.time) after

-- one pair of count and unit leads from `instant` back to `after`
abbrev pub PairStep : TimeZone → ℤ × TimeUnit → ℤ → ℤ → Type 0
PairStep tz (count, Seconds size) instant after =
    FitsSigned w64 (count *ℤ size) × SecondsStep tz (count *ℤ size) instant after
PairStep tz (count, Months size) instant after =
    FitsSigned w64 (count *ℤ size) × MonthsStep tz (count *ℤ size) instant after

-- the pairs lead from `instant` back to `after`, one after the other
abbrev pub Chain : TimeZone → List (ℤ × TimeUnit) → ℤ → ℤ → Type 0
Chain tz [] instant after = after ≡ instant
Chain tz (pair ∷ more) instant after = (between : ℤ) × PairStep tz pair instant between × Chain tz more between after

-- the moment is at such an instant, or there is no such instant
abbrev pub IsAt : (ℤ → Type 0) → Option Zoned → Type 0
IsAt Such None = (instant : ℤ) → ¬ (Such instant)
IsAt Such (Some moment) = Such (zoned_nanos moment)

-- two zones have equal offsets, and resolve local times alike
pub record ChooseAlike (a b : TimeZone) : Type 0 where
  pub offset : (instant : ℤ) → offset_at a instant ≡ offset_at b instant
  pub picks : (shown : DateTime) → picked_instant a shown ≡ picked_instant b shown
