-- What a zone's clock shows, which instants Git finds by it, and how dates are filled in from there.
use Rattle.std.specs.Prelude.{ℕ, ℤ, pos, ◌+ℤ◌, ◌-ℤ◌, Bool, Option, Some, option_map, option_and_then, ok_or, Result}
use Rattle.gix_date.specs.Fields.Layout.{LocalTime}
use Rattle.gix_date.specs.declared.time.Time.{Time}
use Rattle.git_date.specs.Approximate.Clocks.{clock_shown_at, filled_seconds}
use Rattle.git_date.specs.Approximate.Drafts.{with_shown}
use Rattle.git_date.specs.Exact.Zones.{States, before_leap, found_offset}
use Rattle.git_date.specs.Rules.Fields.{is_leap}
use Rattle.git_date.specs.Tokens.Steps.{◌>>=◌}
use Rattle.git_date.specs.declared.approximate.drafts.Draft.{Draft}
use Rattle.git_date.specs.declared.approximate.drafts.LastShown.{LastShown}
use Rattle.git_date.specs.declared.approximate.zone.ZoneClock.{ZoneClock}
use Rattle.git_date.specs.declared.approximate.zone.Found.{Found}
use Rattle.git_date.specs.declared.error.Fault.{Fault}
use Rattle.git_date.specs.declared.error.Fault.TheVariants.{BackTooFar, Range}
use Rattle.git_date.specs.declared.fields.Fields.{Fields}
use Rattle.git_date.specs.declared.zones.ZoneState.{ZoneState}

-- a clock at an offset, with the flag there
abbrev pub clock_at : ZoneState → LocalTime → ZoneClock
clock_at there shown = record { clock = record shown { offset = there.offset }; daylight = there.daylight }

-- what the zone's clock shows at an instant, with its offset and its flag there
unfoldable pub shown_in : States → ℤ → Option ZoneClock
shown_in zone instant =
    option_and_then (λ (there : ZoneState). option_map (clock_at there) (clock_shown_at (instant +ℤ there.offset))) (zone instant)

-- the instant that is found by an offset, from which the next search begins
abbrev pub found_by : ℤ → ℤ → Found
found_by local offset = record { instant = local -ℤ offset; guess = offset }

-- the instant of a clock, by the flag of the last one and from where the last search ended
unfoldable pub found_at : States → LastShown → Bool → ℤ → Option Found
found_at zone last leap local =
    option_map (found_by local) (found_offset zone (record { clock = before_leap leap local; daylight = Some last.daylight }) last.guess)

-- the instant at which the zone's clock shows these fields
unfoldable pub filled_instant : States → LocalTime → LastShown → Fields → Option Found
filled_instant zone today last f = option_and_then (found_at zone last (is_leap f)) (filled_seconds today f)

-- the fields become the zone's clock at an instant; Git knows no year before 1900
unfoldable pub moved_to : States → Draft → ℕ → Found → Result Draft Fault
moved_to zone d left found = ok_or (option_map (with_shown d found.guess) (shown_in zone found.instant)) (BackTooFar left)

-- so many seconds before an instant
abbrev pub before : Found → ℕ → Found
before found back = record found { instant = found.instant -ℤ pos back }

-- Filled in, and so many seconds back: the fields become the zone's clock so many seconds before it shows them.
unfoldable pub fill : States → LocalTime → Draft → ℕ → ℕ → Result Draft Fault
fill zone today d back left = do
  found ← ok_or (filled_instant zone today d.last d.fields) Range
  moved_to zone d left (before found back)

-- the time of an instant in the zone
abbrev pub time_of : ℤ → ZoneState → Time
time_of instant there = record { seconds = instant; offset = there.offset }

-- the time at which the zone's clock shows these fields, or that is found in its place
unfoldable pub filled_time : States → LocalTime → LastShown → Fields → Option Time
filled_time zone today last f =
    option_and_then (λ (found : Found). option_map (time_of found.instant) (zone found.instant)) (filled_instant zone today last f)
