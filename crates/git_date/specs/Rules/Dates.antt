-- Dates: their years, the seconds that fields come to, and dates of three numbers or of two.
use Rattle.std.specs.Prelude.{ℕ, ◌+◌, ◌-◌, ◌*◌, ◌^◌, Bool, false, ◌&&◌, ℤ, pos, negsuc, neg_ℤ, ◌+ℤ◌, ◌-ℤ◌, ◌*ℤ◌, nat_le, nat_lt}
use Rattle.std.specs.Prelude.{if◌then◌else◌, Option, Some, None}
use Rattle.std.specs.Option.{option_map_or}
use Rattle.std.specs.Int.Signed.{lt_z}
use Rattle.jiff.specs.Words.{zoned_nanos}
use Rattle.jiff.specs.declared.zoned.Zoned.{Zoned}
use Rattle.jiff_core.specs.Calendar.{IsBetween}
use Rattle.gix_date.specs.Fields.Civil.{civil_seconds}
use Rattle.gix_date.specs.Fields.Layout.{LocalDate}
use Rattle.gix_date.specs.Families.Patterns.{midnight}
use Rattle.gix_date.specs.Fields.ClockNumbers.{seconds_per_minute, seconds_per_hour, seconds_per_day}
use Rattle.gix_date.specs.Text.Front.{◌>>=◌}
use Rattle.gix_date.specs.Fields.Zoned.{whole_seconds}
use Rattle.git_date.specs.Rules.Clocks.{utc_year}
use Rattle.git_date.specs.Rules.Fields.{with_date}
use Rattle.git_date.specs.Tokens.Numbers.{numbers_of_32_bits}
use Rattle.git_date.specs.declared.fields.Fields.{Fields}
use Rattle.git_date.specs.declared.fields.dates.Now.{Now}
use Rattle.git_date.specs.declared.fields.dates.Dated.{Dated}
use Rattle.git_date.specs.declared.fields.dates.Dated.TheVariants.{Taken, Refused, YearRefused}

-- the first and the last year that Git knows
abbrev pub first_year : ℕ
first_year = 1970

abbrev pub last_year : ℕ
last_year = 2099

-- the first second by UTC of the year after them
abbrev pub first_of_year_2100 : ℕ
first_of_year_2100 = 4_102_444_800

-- The year that a number says in a date: one that Git knows, one of the 1900s from 71, or one of the 2000s below 38. A
-- number below 0, of the upper half of 32 bits, says one before 2000.
unfoldable pub year_said : ℕ → Option ℕ
year_said n =
    if nat_le first_year n && nat_le n last_year then Some n
    else (if nat_le 71 n && nat_le n 99 then Some (1900 + n)
    else (if nat_lt n 38 then Some (2000 + n)
    else (if nat_le 2_147_483_648 n then Some (2000 - (numbers_of_32_bits - n)) else None)))

abbrev pub is_day_of_month : ℕ → ℕ → Bool
is_day_of_month month day = nat_le 1 month && nat_le month 12 && nat_le 1 day && nat_le day 31

-- a month of the years that Git knows
abbrev pub is_month : ℕ → ℕ → Bool
is_month year month = nat_le first_year year && nat_le year last_year && nat_le 1 month && nat_le month 12

abbrev pub first_of : ℕ → ℕ → LocalDate
first_of year month = record { year = year; month = month; day = 1 }

-- the first second of such a month, by a clock
unfoldable pub month_start : ℕ → ℕ → Option ℤ
month_start year month =
    if is_month year month then Some (civil_seconds (first_of year month) midnight (pos 0)) else None

-- the days since the first of a month: an unknown day is two days before the first
abbrev pub days_after_first : Option ℕ → ℤ
days_after_first (Some day) = pos day -ℤ pos 1
days_after_first None = negsuc 1

abbrev pub seconds_of_day : ℕ → ℕ → ℕ → ℕ
seconds_of_day hour minute second = seconds_per_hour * hour + seconds_per_minute * minute + second

-- the seconds of a day and a clock in a month that starts so
abbrev pub seconds_after : ℤ → Option ℕ → ℕ → ℕ → ℕ → ℤ
seconds_after start day hour minute second =
    start +ℤ (pos seconds_per_day *ℤ days_after_first day +ℤ pos (seconds_of_day hour minute second))

-- seconds of the years that Git knows
abbrev pub IsSmall : ℤ → Type 0
IsSmall seconds = IsBetween (neg_ℤ (pos (10 ^ 15))) (pos (10 ^ 15)) seconds

-- The seconds that a clock has counted when it shows these fields: all but the day have to be known, and days past the
-- month's end go on into the next.
unfoldable pub exact_seconds : Fields → Option ℤ
exact_seconds f = do
  year ← f.year
  month ← f.month
  hour ← f.hour
  minute ← f.minute
  second ← f.second
  start ← month_start year month
  Some (seconds_after start f.day hour minute second)

-- the seconds of an instant, which the rules use
abbrev pub now_at : ℤ → Now
now_at nanos = record { seconds = whole_seconds nanos }

-- those of a moment
abbrev pub now_of : Zoned → Now
now_of moment = now_at (zoned_nanos moment)

-- ten days, after which a date is ahead
abbrev pub ten_days : ℤ
ten_days = pos 864_000

-- The date is ahead: more than ten days after now, with the clock that was read before it. Without a clock it is not.
abbrev pub is_ahead : Now → Fields → Bool
is_ahead now f = option_map_or (λ seconds. lt_z now.seconds (seconds -ℤ ten_days)) (exact_seconds f) false

-- a date that is not ahead
abbrev pub unless_ahead : Now → Fields → Option Fields → Option Fields
unless_ahead now dated next = if is_ahead now dated then None else next

-- a month, a day and perhaps a year: without one the year stays, and now's is that of the date
unfoldable pub recent_date : Now → Fields → ℕ → ℕ → Option ℕ → Option Fields
recent_date now f month day (Some third) =
    if is_day_of_month month day
    then year_said third >>= (λ year. unless_ahead now (with_date f year month day) (Some (with_date f year month day)))
    else None
recent_date now f month day None =
    if is_day_of_month month day
    then unless_ahead now (with_date f (utc_year now.seconds) month day) (Some (record f { month = Some month; day = Some day })) else None

-- a date that is taken by its year, or whose year is refused
abbrev pub by_year : Fields → ℕ → ℕ → Option ℕ → Dated
by_year f month day (Some year) = Taken (with_date f year month day)
by_year f month day None = YearRefused

-- a year, a month and a day, which may be ahead
unfoldable pub year_date : Fields → ℕ → ℕ → ℕ → Dated
year_date f year month day = if is_day_of_month month day then by_year f month day (year_said year) else Refused
