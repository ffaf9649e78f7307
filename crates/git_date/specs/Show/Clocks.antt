-- The clocks by which times are shown: the time's own, or that of a zone.
use Rattle.std.specs.Prelude.{◌%◌, ◌==◌, Bool, ◌&&◌, nat_lt, nat_le, ℤ, pos, ◌*ℤ◌, int_div, unsigned_abs, if◌then◌else◌, Option, Some, None}
use Rattle.std.specs.Int.Signed.{le_z}
use Rattle.jiff.specs.Types.{TimeZone}
use Rattle.jiff.specs.Words.{offset_at, nanos_of_seconds, zoned_nanos}
use Rattle.jiff.specs.declared.zoned.Zoned.{Zoned}
use Rattle.gix_date.specs.Fields.ClockNumbers.{seconds_per_minute}
use Rattle.gix_date.specs.Fields.Layout.{LocalTime}
use Rattle.gix_date.specs.Header.Text.{hundred_hours}
use Rattle.gix_date.specs.Printing.LocalClocks.{clock_of, local_seconds, last_of_year_9999}
use Rattle.gix_date.specs.Fields.Zoned.{last_second, whole_seconds}
use Rattle.gix_date.specs.Relative.Steps.{zone_of}
use Rattle.gix_date.specs.declared.time.Time.{Time}
use Rattle.git_date.specs.Rules.Dates.{first_year, last_year}

-- the moment at which dates are shown: its zone, and its whole seconds
pub record Moment : Type 0 where
  pub zone : TimeZone
  pub seconds : ℤ

-- an instant in nanoseconds since 1970, in a zone
abbrev pub moment_at : ℤ → TimeZone → Moment
moment_at nanos zone = record { zone = zone; seconds = whole_seconds nanos }

-- the zone and the seconds of a moment, which shown dates use
abbrev pub moment_of : Zoned → Moment
moment_of moment = moment_at (zoned_nanos moment) (zone_of moment)

-- An offset that is shown: whole minutes, as Git's are, and below 100 hours. (Git shows more hours.)
abbrev pub is_written_offset : ℤ → Bool
is_written_offset offset = nat_lt (unsigned_abs offset) hundred_hours && (unsigned_abs offset % seconds_per_minute == 0)

-- seconds from 1970 on, of a year of four digits
abbrev pub is_dated : ℤ → Bool
is_dated seconds = le_z (pos 0) seconds && le_z seconds last_of_year_9999

abbrev pub has_own_clock : Time → Bool
has_own_clock t = is_written_offset t.offset && is_dated t.seconds && is_dated (local_seconds t)

-- What the time's own clock shows, if its offset can be shown, and both the time and what its clock shows are dated. Git refuses a
-- clock before 1970, and shows years above 9999.
unfoldable pub own_clock : Time → Option LocalTime
own_clock t = if has_own_clock t then Some (clock_of t) else None

-- the time of an instant, with the zone's offset
abbrev pub time_at : TimeZone → ℤ → Time
time_at zone seconds = record { seconds = seconds; offset = offset_at zone (nanos_of_seconds seconds) }

-- the whole minutes of an offset, toward zero
abbrev pub whole_minutes : ℤ → ℤ
whole_minutes offset = pos seconds_per_minute *ℤ int_div offset (pos seconds_per_minute)

-- Git knows the offset of a zone only in the years that it can read
abbrev pub known_offset : LocalTime → ℤ
known_offset t =
    if nat_le first_year t.date.year && nat_le t.date.year last_year then whole_minutes t.offset else pos 0

abbrev pub with_known_offset : LocalTime → LocalTime
with_known_offset t = record t { offset = known_offset t }

-- an instant of `jiff` from 1970 on
abbrev pub has_zone_clock : ℤ → Bool
has_zone_clock seconds = le_z (pos 0) seconds && le_z seconds last_second

-- What a zone's clock shows at an instant: also a clock before 1970, as Git does.
unfoldable pub zone_clock : TimeZone → ℤ → Option LocalTime
zone_clock zone seconds =
    if has_zone_clock seconds then Some (with_known_offset (clock_of (time_at zone seconds))) else None
