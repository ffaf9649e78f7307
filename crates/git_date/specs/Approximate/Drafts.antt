-- What an approximate text says so far, and its number that waits for a word to say what it counts.
use Rattle.std.specs.Prelude.{ℕ, ℤ, pos, ◌+◌, ◌-◌, ◌*◌, ◌/◌, ◌%◌, Bool, false, ◌&&◌, max, min, nat_le, nat_lt, if◌then◌else◌, Option, Some}
use Rattle.std.specs.Prelude.{None, is_none, option_map}
use Rattle.std.specs.Option.{option_map_or}
use Rattle.gix_date.specs.Fields.ClockNumbers.{seconds_per_day}
use Rattle.gix_date.specs.Text.Front.{◌>>=◌}
use Rattle.git_date.specs.Rules.Dates.{first_year, last_year}
use Rattle.git_date.specs.Rules.Fields.{unknown}
use Rattle.git_date.specs.Tokens.Numbers.{max_number}
use Rattle.git_date.specs.declared.approximate.drafts.Draft.{Draft}
use Rattle.git_date.specs.declared.approximate.drafts.LastShown.{LastShown}
use Rattle.git_date.specs.declared.approximate.zone.ZoneClock.{ZoneClock}
use Rattle.git_date.specs.declared.fields.Fields.{Fields}
use Rattle.git_date.specs.declared.fields.groups.Number.{Number}
use Rattle.gix_date.specs.Fields.Layout.{LocalTime}

-- the fields of a clock that is shown, without its date and with it
abbrev pub clock_fields : LocalTime → Fields
clock_fields s = record unknown { hour = Some s.clock.hour; minute = Some s.clock.minute; second = Some s.clock.second }

abbrev pub all_fields : LocalTime → Fields
all_fields s = record unknown {
  year = Some s.date.year;
  month = Some s.date.month;
  day = Some s.date.day;
  hour = Some s.clock.hour;
  minute = Some s.clock.minute;
  second = Some s.clock.second;
}

-- what the rules use of the clock that was shown last
abbrev pub last_of : ℤ → ZoneClock → LastShown
last_of guess s = record { weekday = s.clock.weekday; daylight = s.daylight; guess = guess }

-- before the first token: today's clock, no date, and no search that was made
abbrev pub first_draft : ZoneClock → Draft
first_draft today = record {
  fields = clock_fields today.clock;
  last = last_of (pos 0) today;
  waiting = None;
  understood = false;
  ignored = None;
}

-- all that a clock shows
abbrev pub with_shown : Draft → ℤ → ZoneClock → Draft
with_shown d guess s = record d { fields = all_fields s.clock; last = last_of guess s }

-- what is ignored first: places are told by how many bytes are left from there on
abbrev pub earlier : ℕ → Option ℕ → ℕ
earlier left (Some other) = max left other
earlier left None = left

abbrev pub ignore : Draft → ℕ → Draft
ignore d left = record d { ignored = Some (earlier left d.ignored) }

-- the year that a number says alone: one that Git knows, one of the 1900s from 70, or one of the 2000s below 38
abbrev pub lone_year : ℕ → Option ℕ
lone_year n =
    if nat_le first_year n && nat_le n last_year then Some n
    else (if nat_le 70 n && nat_le n 99 then Some (1900 + n) else (if nat_lt n 38 then Some (2000 + n) else None))

-- the field that a number says alone: the day, or else the month, or else the year, the first that it can be and that is
-- unknown
abbrev pub with_number : Fields → ℕ → Option Fields
with_number f n =
    if nat_lt n 32 && is_none f.day then Some (record f { day = Some n })
    else (if nat_lt n 13 && is_none f.month then Some (record f { month = Some n })
    else (if is_none f.year then option_map (λ year. record f { year = Some year }) (lone_year n) else None))

-- no number waits
abbrev pub without_number : Draft → Draft
without_number d = record d { waiting = None }

abbrev pub settle_number : Draft → Number → Draft
settle_number d n = option_map_or (λ f. record d { fields = f }) (with_number d.fields n.value) (ignore d n.left)

-- the number that waits says a field, or is ignored
unfoldable pub settle : Draft → Draft
settle d = option_map_or (settle_number (without_number d)) d.waiting d

-- the number that waits is ignored
abbrev pub dropped : Draft → Draft
dropped d = option_map_or (λ n. ignore (without_number d) n.left) d.waiting d

-- a whole hour
abbrev pub with_hour : Draft → ℕ → Draft
with_hour d hour = record d { fields = record d.fields { hour = Some hour; minute = Some 0; second = Some 0 } }

-- the hour is before this one
abbrev pub is_before : Option ℕ → ℕ → Bool
is_before (Some shown) hour = nat_lt shown hour
is_before None hour = false

-- the hour of a clock in the half of a day that begins with hour 0 or 12
abbrev pub with_half : Draft → ℕ → Draft
with_half d first = record d { fields = record d.fields { hour = option_map (λ hour. hour % 12 + first) d.fields.hour } }

-- an hour of such a half: the number that waits, or else the clock's
abbrev pub half : Draft → ℕ → Draft
half d first = option_map_or (λ n. with_hour (without_number d) (n.value % 12 + first)) d.waiting (with_half d first)

-- so many units of so much, or else the greatest number that is told from others
abbrev pub units : ℕ → ℕ → ℕ
units n size = min (n * size) max_number

-- the days from 1 to 7 back to the day of the week that is named
abbrev pub days_back : ℕ → ℕ → ℕ
days_back weekday named = (weekday + 6 - named) % 7 + 1

-- the seconds back to the day of the week that is named, at the count of such days
abbrev pub weekday_seconds : ℕ → ℕ → ℕ → ℕ
weekday_seconds weekday named n = min (units (n - 1) (7 * seconds_per_day) + seconds_per_day * days_back weekday named) max_number

-- The month so many months earlier, told by how many months come before it from the year 0 on. It is in the years from 1900 to
-- 9999, and the day stays.
abbrev pub less_months : Fields → ℕ → Option Fields
less_months f months = do
  year ← f.year
  month ← f.month
  let before = 12 * year + (month - 1) - months in
      if nat_le 1900 (before / 12) && nat_le (before / 12) 9999
      then Some (record f { year = Some (before / 12); month = Some (before % 12 + 1) }) else None
