-- What a format shows of a time: its clock, and what Git writes itself.
use Rattle.std.specs.Prelude.{ℕ, List, [], codes, Bool, ◌&&◌, nat_le, ℤ, ◌+ℤ◌, ◌-ℤ◌, if◌then◌else◌, Option, Some, None, option_map}
use Rattle.jiff.specs.Types.{TimeZone, UTC, Unknown, Fixed, Posix, Tzif}
use Rattle.jiff.specs.Words.{offset_at, nanos_of_seconds}
use Rattle.jiff.specs.ZoneView.{plain_info}
use Rattle.jiff.specs.declared.tz.transitions.TimeZoneOffsetInfo.{TimeZoneOffsetInfo}
use Rattle.jiff_tz.specs.Abbreviation.{abbreviation_text, offset_text}
use Rattle.jiff_tz.specs.PosixRule as PosixRule
use Rattle.jiff_tz.specs.Tzif as Table
use Rattle.gix_date.specs.Fields.Layout.{LocalTime}
use Rattle.gix_date.specs.declared.time.Time.{Time}
use Rattle.git_date.specs.Rules.Dates.{first_year, last_year}
use Rattle.git_date.specs.Show.Clocks.{own_clock, zone_clock}
use Rattle.git_date.specs.declared.format.shown.Shown.{Shown as TheShown}

-- a clock with its offset, the seconds that Git writes, in the years that it knows, and the zone's abbreviation
pub record Shown : Type 0 where
  pub clock : LocalTime
  pub seconds : Option ℤ
  pub abbreviation : List ℕ

-- the seconds that a clock with its offset says, which Git can write of years that it knows
abbrev pub seconds_said : LocalTime → ℤ → Option ℤ
seconds_said clock seconds =
    if nat_le first_year clock.date.year && nat_le clock.date.year last_year then Some seconds else None

-- A zone's abbreviation at an instant in nanoseconds. That of a fixed offset is `jiff`'s: `+02`.
abbrev pub zone_abbreviation : TimeZone → ℤ → List ℕ
zone_abbreviation UTC n = codes "UTC"
zone_abbreviation Unknown n = codes "UTC"
zone_abbreviation (Fixed offset) n = offset_text offset.seconds
zone_abbreviation (Posix rule) n = abbreviation_text (PosixRule.info_at rule n).abbreviation
zone_abbreviation (Tzif table) n = abbreviation_text (Table.info_at table.now n).abbreviation

-- the time's own clock has no abbreviation
abbrev pub own_shown_by : Time → LocalTime → Shown
own_shown_by t clock = record { clock = clock; seconds = seconds_said clock t.seconds; abbreviation = [] }

unfoldable pub own_shown : Time → Option Shown
own_shown t = option_map (own_shown_by t) (own_clock t)

-- Of a zone's clock the seconds count by its whole minutes, which are the offset that is shown.
abbrev pub zone_seconds : TimeZone → ℤ → LocalTime → ℤ
zone_seconds zone seconds clock = seconds +ℤ (offset_at zone (nanos_of_seconds seconds) -ℤ clock.offset)

abbrev pub zone_shown_by : TimeZone → ℤ → LocalTime → Shown
zone_shown_by zone seconds clock = record {
  clock = clock;
  seconds = seconds_said clock (zone_seconds zone seconds clock);
  abbreviation = zone_abbreviation zone (nanos_of_seconds seconds);
}

unfoldable pub zone_shown : TimeZone → ℤ → Option Shown
zone_shown zone seconds = option_map (zone_shown_by zone seconds) (zone_clock zone seconds)

abbrev pub shown_at : TimeZone → Bool → Time → Option Shown
shown_at zone local t = if local then zone_shown zone t.seconds else own_shown t

-- what the code holds
abbrev pub abbreviation_held : Option TimeZoneOffsetInfo → List ℕ
abbreviation_held None = []
abbreviation_held (Some info) = abbreviation_text (plain_info info).abbreviation

abbrev pub shown_of : TheShown → Shown
shown_of s = record { clock = s.clock; seconds = s.seconds; abbreviation = abbreviation_held s.info }
