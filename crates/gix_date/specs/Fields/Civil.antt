-- Dates of the calendar and times of the clock, and the instants that they are at an offset.
use Rattle.std.specs.Prelude.{ℕ, ◌+◌, ◌*◌, Bool, ◌&&◌, List, ℤ, pos, ◌+ℤ◌, ◌-ℤ◌, ◌*ℤ◌, nat_le, if◌then◌else◌, Option, Some, None, ◌≤◌}
use Rattle.jiff_core.specs.Calendar.{days_from_civil, days_in_month}
use Rattle.gix_date.specs.Fields.ClockNumbers.{max_hour, max_minute, max_second, seconds_per_minute, seconds_per_hour, seconds_per_day}
use Rattle.gix_date.specs.Text.Front.{ReadFront, ◌>>=◌}
use Rattle.gix_date.specs.Text.Numbers.{read_year}
use Rattle.gix_date.specs.Fields.Zoned.{is_instant}
use Rattle.gix_date.specs.declared.clock.DateFields.{DateFields}
use Rattle.gix_date.specs.declared.clock.ClockFields.{ClockFields}

-- a year of four digits, a month and a day at the front, the last two as `field` reads them and each after what `gap`
-- takes
abbrev pub read_date : (List ℕ → ReadFront ℕ) → (List ℕ → Option (List ℕ)) → List ℕ → ReadFront DateFields
read_date field gap text = do
  year ← read_year text
  rest ← gap year.1
  month ← field rest
  rest ← gap month.1
  day ← field rest
  Some (record { year = year.0; month = month.0; day = day.0 }, day.1)

-- the calendar has this day
abbrev pub is_date : DateFields → Bool
is_date d = nat_le 1 d.month && nat_le d.month 12 && nat_le 1 d.day && nat_le d.day (days_in_month (pos d.year) d.month)

-- the day has this hour, minute and second
abbrev pub is_clock : ClockFields → Bool
is_clock c = nat_le c.hour max_hour && nat_le c.minute max_minute && nat_le c.second max_second

-- seconds since midnight
abbrev pub clock_seconds : ClockFields → ℕ
clock_seconds c = seconds_per_hour * c.hour + seconds_per_minute * c.minute + c.second

-- seconds since 1970-01-01 00:00:00 UTC of that clock on that day, at an offset from UTC
abbrev pub civil_seconds : DateFields → ClockFields → ℤ → ℤ
civil_seconds d c offset =
    pos seconds_per_day *ℤ days_from_civil (pos d.year) d.month d.day +ℤ pos (clock_seconds c) -ℤ offset

-- the instant of a day and a clock at an offset, where there are such
unfoldable pub civil_instant : DateFields → ClockFields → ℤ → Option ℤ
civil_instant d c offset =
    if is_date d && is_clock c && is_instant (civil_seconds d c offset) then Some (civil_seconds d c offset) else None

-- the fields have at most four, two and two digits
pub record DateFits (d : DateFields) : Type 0 where
  pub year : d.year ≤ 9999
  pub month : d.month ≤ 99
  pub day : d.day ≤ 99

-- the fields have at most two digits each
pub record ClockFits (c : ClockFields) : Type 0 where
  pub hour : c.hour ≤ 99
  pub minute : c.minute ≤ 99
  pub second : c.second ≤ 99
