-- The numbers that a clock shows.
use Rattle.std.specs.Prelude.{ℕ, ◌+◌, ◌-◌, ◌/◌, ◌%◌, Bool, true, false, nat_lt, nat_le, pos, if◌then◌else◌}
use Rattle.jiff_core.specs.Calendar.{day_of_year, days_in_year}
use Rattle.gix_date.specs.Fields.Layout.{LocalTime}
use Rattle.git_date.specs.declared.format.numbers.Number.{Number}
use Rattle.git_date.specs.declared.format.numbers.Number.TheVariants.{Century, YearOfCentury, Year, Month, Day, SpacedDay, DayOfYear, Hour}
use Rattle.git_date.specs.declared.format.numbers.Number.TheVariants.{SpacedHour, HourOfHalf, SpacedHourOfHalf, Minute, Second}
use Rattle.git_date.specs.declared.format.numbers.Number.TheVariants.{DayFromMonday, DayFromSunday, WeekFromSunday, WeekFromMonday, IsoWeek}
use Rattle.git_date.specs.declared.format.numbers.Number.TheVariants.{IsoYear, IsoYearOfCentury}
use Rattle.git_date.specs.declared.format.numbers.IsoDay.{IsoDay as TheIsoDay}

abbrev pub year_days : ℕ → ℕ
year_days year = days_in_year (pos year)

-- the day of the year, from 1
unfoldable pub year_day : LocalTime → ℕ
year_day t = day_of_year (pos t.date.year) t.date.month t.date.day

-- the day of the week from 1 for Monday, and from 0 for Sunday
abbrev pub monday_day : LocalTime → ℕ
monday_day t = t.weekday + 1

abbrev pub sunday_day : LocalTime → ℕ
sunday_day t = monday_day t % 7

-- the hour from 1 to 12: that before 1 is 12
abbrev pub hour_of_half : ℕ → ℕ
hour_of_half hour = (hour + 11) % 12 + 1

-- a day of a year
abbrev pub IsoDay : Type 0
IsoDay = TheIsoDay

abbrev pub day_in : ℕ → ℕ → IsoDay
day_in year day = record { year = year; day = day }

-- An ISO week begins with Monday and lies in the year of its Thursday: which day of which year that is. It may be of the year before
-- or of the next.
unfoldable pub iso_day : LocalTime → IsoDay
iso_day t =
    if nat_le (year_day t + 4) (monday_day t)
    then day_in (t.date.year - 1) (year_day t + 4 + year_days (t.date.year - 1) - monday_day t)
    else (if nat_lt (year_days t.date.year) (year_day t + 4 - monday_day t)
    then day_in (t.date.year + 1) (year_day t + 4 - monday_day t - year_days t.date.year)
    else day_in t.date.year (year_day t + 4 - monday_day t))

-- the week of that Thursday, from 1
abbrev pub iso_week : LocalTime → ℕ
iso_week t = ((iso_day t).day + 6) / 7

abbrev pub number_value : Number → LocalTime → ℕ
number_value Century t = t.date.year / 100
number_value YearOfCentury t = t.date.year % 100
number_value Year t = t.date.year
number_value Month t = t.date.month
number_value Day t = t.date.day
number_value SpacedDay t = t.date.day
number_value DayOfYear t = year_day t
number_value Hour t = t.clock.hour
number_value SpacedHour t = t.clock.hour
number_value HourOfHalf t = hour_of_half t.clock.hour
number_value SpacedHourOfHalf t = hour_of_half t.clock.hour
number_value Minute t = t.clock.minute
number_value Second t = t.clock.second
number_value DayFromMonday t = monday_day t
number_value DayFromSunday t = sunday_day t
number_value WeekFromSunday t = (year_day t + 6 - sunday_day t) / 7
number_value WeekFromMonday t = (year_day t + 7 - monday_day t) / 7
number_value IsoWeek t = iso_week t
number_value IsoYear t = (iso_day t).year
number_value IsoYearOfCentury t = (iso_day t).year % 100

-- the least width to which a number is filled
abbrev pub number_least : Number → ℕ
number_least Year = 4
number_least IsoYear = 4
number_least DayOfYear = 3
number_least DayFromMonday = 1
number_least DayFromSunday = 1
number_least _ = 2

-- a number that is filled with spaces, where no flag says otherwise
abbrev pub is_spaced : Number → Bool
is_spaced SpacedDay = true
is_spaced SpacedHour = true
is_spaced SpacedHourOfHalf = true
is_spaced _ = false
