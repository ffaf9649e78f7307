-- What was read of a date so far.
use Rattle.std.specs.Prelude.{ℕ, Bool, false, ◌&&◌, ◌==◌, nat_le, if◌then◌else◌, Option, Some, None, is_some, is_none}
use Rattle.std.specs.Option.{option_map_or}
use Rattle.git_date.specs.declared.fields.Fields.{Fields}

-- nothing is known
abbrev pub unknown : Fields
unknown = record {
  year = None;
  month = None;
  day = None;
  hour = None;
  minute = None;
  second = None;
  offset = None;
  epoch = false;
}

-- neither a part of the date nor one of the clock is known
abbrev pub knows_nothing : Fields → Bool
knows_nothing f =
    is_none f.year && is_none f.month && is_none f.day && is_none f.hour && is_none f.minute && is_none f.second

-- the date is known
abbrev pub knows_date : Fields → Bool
knows_date f = is_some f.year && is_some f.month && is_some f.day

-- the second is the one after 59
abbrev pub is_leap : Fields → Bool
is_leap f = option_map_or (λ second. second == 60) f.second false

-- a clock: hours to 24, minutes to 59, seconds to 60
unfoldable pub with_clock : Fields → ℕ → ℕ → ℕ → Option Fields
with_clock f hour minute second =
    if nat_le hour 24 && nat_le minute 59 && nat_le second 60
    then Some (record f { hour = Some hour; minute = Some minute; second = Some second }) else None

-- a year, a month and a day
abbrev pub with_date : Fields → ℕ → ℕ → ℕ → Fields
with_date f year month day = record f { year = Some year; month = Some month; day = Some day }
