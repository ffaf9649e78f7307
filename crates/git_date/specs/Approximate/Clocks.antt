-- What a clock shows from 1900 on, and the seconds that fields come to whose date is not all said.
use Rattle.std.specs.Prelude.{ℕ, ◌-◌, Bool, ◌&&◌, ℤ, pos, nat_le, nat_lt, if◌then◌else◌, Option, Some, None, unwrap_or}
use Rattle.std.specs.Int.Signed.{le_z}
use Rattle.gix_date.specs.Families.Epoch.{utc_time}
use Rattle.gix_date.specs.Families.Patterns.{midnight}
use Rattle.gix_date.specs.Fields.Civil.{civil_seconds}
use Rattle.gix_date.specs.Text.Front.{◌>>=◌}
use Rattle.gix_date.specs.Printing.LocalClocks.{clock_of, last_of_year_9999}
use Rattle.git_date.specs.Rules.Clocks.{first_of_year_1900}
use Rattle.git_date.specs.Rules.Dates.{first_of, seconds_after}
use Rattle.git_date.specs.declared.fields.Fields.{Fields}
use Rattle.gix_date.specs.Fields.Layout.{LocalTime}

-- seconds of the years from 1900 to 9999 by a clock
abbrev pub is_shown : ℤ → Bool
is_shown seconds = le_z first_of_year_1900 seconds && le_z seconds last_of_year_9999

-- what a clock shows that has counted so many seconds since 1970-01-01 00:00:00
unfoldable pub clock_shown_at : ℤ → Option LocalTime
clock_shown_at seconds = if is_shown seconds then Some (clock_of (utc_time seconds)) else None

-- a month of the years from 1900 to 9999
abbrev pub is_shown_month : ℕ → ℕ → Bool
is_shown_month year month = nat_le 1900 year && nat_le year 9999 && nat_le 1 month && nat_le month 12

-- the first second of such a month by a clock
unfoldable pub first_second : ℕ → ℕ → Option ℤ
first_second year month =
    if is_shown_month year month then Some (civil_seconds (first_of year month) midnight (pos 0)) else None

-- the year where none is said: a month later than today's is one of last year
abbrev pub year_of_month : LocalTime → ℕ → ℕ
year_of_month today month = if nat_lt today.date.month month then today.date.year - 1 else today.date.year

abbrev pub filled_month : LocalTime → Fields → ℕ
filled_month today f = unwrap_or f.month today.date.month

abbrev pub filled_year : LocalTime → Fields → ℕ
filled_year today f = unwrap_or f.year (year_of_month today (filled_month today f))

-- The seconds that a clock has counted when it shows these fields, where the date is today's as far as it is not said. Days
-- past the month's end go on into the next.
unfoldable pub filled_seconds : LocalTime → Fields → Option ℤ
filled_seconds today f = do
  hour ← f.hour
  minute ← f.minute
  second ← f.second
  start ← first_second (filled_year today f) (filled_month today f)
  Some (seconds_after start (Some (unwrap_or f.day today.date.day)) hour minute second)
