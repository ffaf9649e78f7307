-- When a POSIX rule's daylight saving time begins and ends in a year, by seconds.
use Rattle.std.specs.Prelude.{◌≡◌, ℤ, pos, ◌+ℤ◌, ◌-ℤ◌, ◌*ℤ◌, Bool}
use Rattle.std.specs.Int.{int_div_euclid}
use Rattle.jiff_core.specs.declared.Offset.{Offset}
use Rattle.jiff_tz.specs.declared.posix.Day.TheVariants.{WeekdayOfMonth}
use Rattle.jiff_tz.specs.declared.posix.DayTime.{DayTime}
use Rattle.jiff_tz.specs.declared.posix.Dst.{Dst}
use Rattle.jiff_tz.specs.PosixRule.{weekday_of_month, in_window, utc_window}
use Rattle.jiff_tz.specs.Year.{year_of_nanos}
use Rattle.gix_date.specs.Fields.ClockNumbers.{seconds_per_day}
use Rattle.git_date.specs.declared.zones.changes.Change.{Change}

-- the second of an instant
abbrev pub whole_second : ℤ → ℤ
whole_second n = int_div_euclid n (pos 1_000_000_000)

-- a change is when a clock of this offset shows a rule's moment
pub record IsChange (at : DayTime) (clock : Offset) (change : Change) : Type 0 where
  pub day : at.date ≡ WeekdayOfMonth change.month change.week change.weekday
  pub second : change.second ≡ at.time -ℤ clock.seconds

-- the second in which a change comes in a year
abbrev pub change_second : ℤ → Change → ℤ
change_second y change = weekday_of_month y change.month change.week change.weekday *ℤ pos seconds_per_day +ℤ change.second

-- whether daylight saving time is in force at each instant of a second
unfoldable pub IsDaylight : Dst → Offset → ℤ → Bool → Type 0
IsDaylight dst standard seconds there =
    (n : ℤ) → whole_second n ≡ seconds → there ≡ in_window (utc_window dst (year_of_nanos n) standard) n
