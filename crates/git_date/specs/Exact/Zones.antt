-- What a zone says of an instant, and Git's search for the instant at which its clock shows a time.
use Rattle.std.specs.Prelude.{ℕ, zero, suc, ℤ, pos, ◌+ℤ◌, ◌-ℤ◌, ◌*ℤ◌, Bool, true, false, not, ◌||◌, ◌&&◌, if◌then◌else◌, Option, Some, None}
use Rattle.std.specs.Prelude.{option_map, unwrap_or}
use Rattle.std.specs.Ordering.{int_eq}
use Rattle.std.specs.Option.{option_or}
use Rattle.jiff.specs.Types.{TimeZone, UTC, Unknown, Fixed, Posix, Tzif}
use Rattle.jiff.specs.Words.{offset_at, nanos_of_seconds}
use Rattle.jiff_tz.specs.Flag.{is_dst}
use Rattle.jiff_tz.specs.PosixRule as rule
use Rattle.jiff_tz.specs.Tzif as table
use Rattle.gix_date.specs.Fields.Zoned.{is_instant}
use Rattle.gix_date.specs.Text.Front.{◌>>=◌}
use Rattle.git_date.specs.declared.zones.Asked.{Asked}
use Rattle.git_date.specs.declared.zones.Trail.{Trail}
use Rattle.git_date.specs.declared.zones.ZoneState.{ZoneState}

-- a zone: its offset and its daylight flag at so many seconds after 1970, where these are an instant's
abbrev pub States : Type 0
States = ℤ → Option ZoneState

-- whether a zone of `jiff` has daylight saving time at an instant
unfoldable pub daylight_at : TimeZone → ℤ → Bool
daylight_at UTC instant = false
daylight_at Unknown instant = false
daylight_at (Fixed offset) instant = false
daylight_at (Posix tz) instant = is_dst (rule.info_at tz instant).dst
daylight_at (Tzif z) instant = is_dst (table.info_at z.now instant).dst

abbrev pub state_there : TimeZone → ℤ → ZoneState
state_there tz instant = record { offset = offset_at tz instant; daylight = daylight_at tz instant }

-- what a zone of `jiff` says
abbrev pub states_of : TimeZone → States
states_of tz seconds = if is_instant seconds then Some (state_there tz (nanos_of_seconds seconds)) else None

-- a zone that always has this offset
abbrev pub one_offset : ℤ → States
one_offset offset seconds = if is_instant seconds then Some (record { offset = offset; daylight = false }) else None

-- what the zone says where its clock would show these seconds at this offset
abbrev pub state_by : States → ℤ → ℤ → Option ZoneState
state_by zone clock offset = zone (clock -ℤ offset)

abbrev pub is_same : ℤ → Option ℤ → Bool
is_same offset (Some other) = int_eq offset other
is_same offset None = false

abbrev pub same_flag : Bool → Bool → Bool
same_flag true other = other
same_flag false other = not other

-- the offset that a zone has, if it has this flag there
abbrev pub flagged : Bool → Option ZoneState → Option ℤ
flagged flag (Some there) = if same_flag flag there.daylight then Some there.offset else None
flagged flag None = None

-- steps of 6 days and 23 hours, and how many are taken
abbrev pub flag_step : ℤ
flag_step = pos 601_200

abbrev pub flag_steps : ℕ
flag_steps = 381

-- the offset of a time with this flag at a distance from an instant: that before the instant comes first
unfoldable pub flagged_at : States → Bool → ℤ → ℤ → Option ℤ
flagged_at zone flag instant distance = option_or (flagged flag (zone (instant -ℤ distance))) (flagged flag (zone (instant +ℤ distance)))

-- the offset of the nearest time with this flag, within so many steps
unfoldable pub nearest : ℕ → States → Bool → ℤ → Option ℤ
nearest zero zone flag instant = None
nearest (suc n) zone flag instant = option_or (nearest n zone flag instant) (flagged_at zone flag instant (flag_step *ℤ pos (suc n)))

-- where no time near has this flag: an hour before the instant for daylight saving time, or an hour after it
abbrev pub hour_off : Bool → ℤ → ℤ
hour_off flag offset = if flag then offset +ℤ pos 3600 else offset -ℤ pos 3600

-- The clock is shown there. With another flag than is asked it is read by the nearest offset that has the flag: so it is not
-- the clock that the zone shows then.
abbrev pub by_flag : States → Asked → Option Bool → ZoneState → ℤ
by_flag zone asked None there = there.offset
by_flag zone asked (Some flag) there =
    if same_flag flag there.daylight then there.offset
    else unwrap_or (nearest flag_steps zone flag (asked.clock -ℤ there.offset)) (hour_off flag there.offset)

-- where a search begins, and where it goes from an offset: to the one that the zone has there
abbrev pub first_trail : ℤ → Trail
first_trail guess = record { here = guess; last = None; before = None }

abbrev pub moved : Trail → ZoneState → Trail
moved trail there = record {
  here = there.offset;
  last = Some (record { offset = trail.here; daylight = there.daylight });
  before = option_map (λ last. last.offset) trail.last;
}

-- Where the clock skips the time, the search goes to and fro. It stops where the zone has another flag than is asked. If none is
-- asked, it stops in daylight saving time, or at once if both sides are alike.
abbrev pub stops : Option Bool → Option ZoneState → Bool → Bool
stops (Some flag) last here = not (same_flag flag here)
stops None (Some last) here = not last.daylight || here
stops None None here = false

abbrev pub is_back : Trail → Option Bool → Bool → Bool
is_back trail flag here = is_same trail.here trail.before && stops flag trail.last here

-- a search of so many moves
unfoldable pub searched : ℕ → States → Asked → Trail → Option ℤ
searched zero zone asked trail = None
searched (suc n) zone asked trail = do
  there ← state_by zone asked.clock trail.here
  if int_eq there.offset trail.here then Some (by_flag zone asked asked.daylight there)
      else if is_back trail asked.daylight there.daylight then Some trail.here
      else searched n zone asked (moved trail there)

-- second 60 is the second after 59, which is looked for
abbrev pub before_leap : Bool → ℤ → ℤ
before_leap is_leap clock = if is_leap then clock -ℤ pos 1 else clock

abbrev pub most_moves : ℕ
most_moves = 6

-- Git's search: the offset by which a clock is read, from the one that the last search found
unfoldable pub found_offset : States → Asked → ℤ → Option ℤ
found_offset zone asked guess = if is_instant asked.clock then searched most_moves zone asked (first_trail guess) else None
