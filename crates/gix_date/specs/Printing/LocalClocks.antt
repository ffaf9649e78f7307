-- What the clock of a time shows at its offset, from its seconds.
use Rattle.std.specs.Prelude.{◌≡◌, ℕ, ◌+◌, ◌-◌, ◌*◌, ◌/◌, ◌%◌, ◌<◌, ◌≤◌, nat_lt, if◌then◌else◌, ℤ, pos, neg_ℤ, ◌+ℤ◌, ◌-ℤ◌, unsigned_abs}
use Rattle.std.specs.Int.{int_div_euclid, int_rem_euclid, IsInRange}
use Rattle.jiff_core.specs.Calendar.{IsBetween, weekday_number}
use Rattle.gix_date.specs.Fields.ClockNumbers.{seconds_per_minute, seconds_per_day, hours_in, minutes_in}
use Rattle.gix_date.specs.Fields.Layout.{LocalTime}
use Rattle.gix_date.specs.Header.Text.{hundred_hours}
use Rattle.gix_date.specs.declared.time.Time.{Time}

-- Years that begin on 1 March, so that a leap day comes last, count from the year -10000, and days from its 1 March. Of
-- quarters of a day such a year has 1461 and a century 146097, taken over four of them.
abbrev pub century_of : ℕ → ℕ
century_of days = (4 * days + 3) / 146_097

abbrev pub day_of_century : ℕ → ℕ
day_of_century days = (4 * days + 3) % 146_097 / 4

-- the year in which a day lies, and how many of its days come before
abbrev pub march_year : ℕ → ℕ × ℕ
march_year days =
    (100 * century_of days + (4 * day_of_century days + 3) / 1461, (4 * day_of_century days + 3) % 1461 / 4)

-- The month, from 3 to 14, and the day of it, by how many days of such a year come before: five months have 153.
abbrev pub march_month : ℕ → ℕ
march_month before = (5 * before + 461) / 153

abbrev pub march_day : ℕ → ℕ
march_day before = (5 * before + 461) % 153 / 5 + 1

-- the date by the calendar: months 13 and 14 are January and February of the next year
abbrev pub january_date : ℕ × ℕ → ℤ × ℕ × ℕ
january_date (year, before) =
    if nat_lt 12 (march_month before) then (pos (year + 1) -ℤ pos 10_000, march_month before - 12, march_day before)
    else (pos year -ℤ pos 10_000, march_month before, march_day before)

-- the year, month and day of a day number: 4371953 days lie from 1 January of the year -10000 to that of 1970, and 60
-- to its 1 March
unfoldable pub date_of_day : ℤ → ℤ × ℕ × ℕ
date_of_day day = january_date (march_year (unsigned_abs (day +ℤ pos 4_371_953) - 60))

-- the seconds that a time's own clock has counted since 1970-01-01 00:00:00
abbrev pub local_seconds : Time → ℤ
local_seconds t = t.seconds +ℤ t.offset

-- the day number by the time's own clock, from 0 for 1970-01-01
abbrev pub local_day : Time → ℤ
local_day t = int_div_euclid (local_seconds t) (pos seconds_per_day)

-- the seconds since midnight by the time's own clock
abbrev pub second_of_day : Time → ℕ
second_of_day t = unsigned_abs (int_rem_euclid (local_seconds t) (pos seconds_per_day))

-- what a time's own clock shows
unfoldable pub clock_of : Time → LocalTime
clock_of t =
    let (year, month, day) = date_of_day (local_day t) in
    let second = second_of_day t in
    record {
      weekday = weekday_number (local_day t);
      date = record { year = unsigned_abs year; month = month; day = day };
      clock = record { hour = hours_in second; minute = minutes_in second; second = second % seconds_per_minute };
      offset = t.offset;
    }

-- the first second of the year 1000 by a clock
abbrev pub first_of_year_1000 : ℤ
first_of_year_1000 = neg_ℤ (pos 30_610_224_000)

-- the last second of the year 9999 by a clock
abbrev pub last_of_year_9999 : ℤ
last_of_year_9999 = pos 253_402_300_799

-- local year 1000 to 9999, and offset in whole minutes
pub record HasFourDigitFields (t : Time) : Type 0 where
  pub in_years : IsBetween first_of_year_1000 last_of_year_9999 (local_seconds t)
  pub minutes : unsigned_abs t.offset % seconds_per_minute ≡ 0

-- a clock is shown: local year 1000 to 9999, and offset below 100 hours
pub record IsShowable (t : Time) : Type 0 where
  pub in_years : IsBetween first_of_year_1000 last_of_year_9999 (local_seconds t)
  pub offset : unsigned_abs t.offset < hundred_hours

-- each field of a shown clock has its digits or its name
pub record HasFields (t : LocalTime) : Type 0 where
  pub weekday : t.weekday < 7
  pub year : t.date.year ≤ 9999
  pub month : IsInRange 1 12 t.date.month
  pub day : IsInRange 1 31 t.date.day
  pub hour : t.clock.hour < 24
  pub minute : t.clock.minute < 60
  pub second : t.clock.second < 60
  pub offset : unsigned_abs t.offset < hundred_hours
