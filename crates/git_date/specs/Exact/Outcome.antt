-- What a text comes to in a zone.
use Rattle.std.specs.Prelude.{◌≡◌, ◌<◌, ℕ, ℤ, List, length, IsCharBoundary, pos, ◌-ℤ◌, ◌*ℤ◌, true, if◌then◌else◌, Option, Some, None}
use Rattle.std.specs.Prelude.{IfSome, Result, Ok, Err, int_div}
use Rattle.std.specs.Int.Signed.{le_z}
use Rattle.std.specs.Option.{is_some}
use Rattle.jiff.specs.Types.{TimeZone}
use Rattle.jiff.specs.Words.{zoned_nanos}
use Rattle.jiff.specs.declared.zoned.Zoned.{Zoned}
use Rattle.jiff_core.specs.Calendar.{IsWithin}
use Rattle.gix_date.specs.Fields.Zoned.{is_instant}
use Rattle.gix_date.specs.Relative.Steps.{zone_of}
use Rattle.git_date.specs.Rules.Dates.{now_at}
use Rattle.git_date.specs.Exact.Reading.{said_by}
use Rattle.git_date.specs.Exact.Zones.{States, states_of, before_leap, found_offset}
use Rattle.git_date.specs.declared.reader.Said.{Said}
use Rattle.git_date.specs.declared.reader.ExactDate.{ExactDate}
use Rattle.git_date.specs.declared.error.DateError.{DateError}
use Rattle.git_date.specs.declared.error.DateError.TheVariants.{Unreadable, NumberTooLarge, BackTooFar, YearRefused, Range}

-- the seconds of what a text says are those of an instant
abbrev pub SaidIsInstant : Said → Type 0
SaidIsInstant said = is_instant said.seconds ≡ true

-- minutes whose seconds fit 32 bits, as those of an offset do
abbrev pub IsMinutes : ℤ → Type 0
IsMinutes minutes = IsWithin 35_791_394 minutes

-- the seconds since 1970 of what a text says, at an offset in minutes: those of an epoch are the instant's already
abbrev pub instant_seconds : Said → ℤ → ℤ
instant_seconds said minutes = if said.epoch then said.seconds else said.seconds -ℤ pos 60 *ℤ minutes

-- the date at an offset in minutes; Git has none before 1970
unfoldable pub date_at : Said → ℤ → Result ExactDate DateError
date_at said minutes =
    if le_z (pos 0) (instant_seconds said minutes)
    then Ok (record {
      time = record { seconds = instant_seconds said minutes; offset = pos 60 *ℤ minutes };
      has_offset = is_some said.offset;
      ignored = said.ignored;
    })
    else Err Range

-- the date where the zone's clock shows it, if the zone has an offset there: in whole minutes, toward zero
abbrev pub date_in : Said → Option ℤ → Result ExactDate DateError
date_in said (Some offset) = date_at said (int_div offset (pos 60))
date_in said None = Err Range

-- the clock is looked for by no flag, and from UTC's
abbrev pub said_in : States → Said → Option ℤ
said_in zone said = found_offset zone (record { clock = before_leap said.leap said.seconds; daylight = None }) (pos 0)

-- the date at the offset that the text says, or at that of the zone where its clock shows these seconds
abbrev pub at_offset : TimeZone → Said → Option ℤ → Result ExactDate DateError
at_offset tz said (Some minutes) = date_at said minutes
at_offset tz said None = date_in said (said_in (states_of tz) said)

-- the date that what a text says comes to in a zone
abbrev pub date_of : TimeZone → Result Said DateError → Result ExactDate DateError
date_of tz (Ok said) = at_offset tz said said.offset
date_of tz (Err e) = Err e

-- what the exact reader makes of a text, at an instant in a zone
abbrev pub read_at : ℤ → TimeZone → List ℕ → Result ExactDate DateError
read_at nanos tz text = date_of tz (said_by (now_at nanos) text)

-- the result of `parse_date_at`
abbrev pub DateOutcomeAt : ℤ → TimeZone → List ℕ → Result ExactDate DateError → Type 0
DateOutcomeAt nanos tz text result = result ≡ read_at nanos tz text

-- the result of `parse_date`
abbrev pub DateOutcome : Zoned → List ℕ → Result ExactDate DateError → Type 0
DateOutcome moment text result = DateOutcomeAt (zoned_nanos moment) (zone_of moment) text result

-- the minutes of the offset that a text says, if it says one
abbrev pub said_offset : Result Said DateError → Option ℤ
said_offset (Ok said) = said.offset
said_offset (Err e) = None

-- a character of the text begins at this place
abbrev pub IsPlaceIn : List ℕ → ℕ → Type 0
IsPlaceIn text place = IsCharBoundary text place × (place < length text)

-- the place of a refusal is in the text
abbrev pub IsErrorIn : List ℕ → DateError → Type 0
IsErrorIn text (NumberTooLarge place) = IsPlaceIn text place
IsErrorIn text (BackTooFar place) = IsPlaceIn text place
IsErrorIn text (YearRefused place) = IsPlaceIn text place
IsErrorIn text Unreadable = Unit {0}
IsErrorIn text Range = Unit {0}

-- places are in the text: that of what was ignored, or that of a refusal
abbrev pub HasPlacesIn : List ℕ → Result ExactDate DateError → Type 0
HasPlacesIn text (Ok date) = IfSome date.ignored (IsPlaceIn text)
HasPlacesIn text (Err e) = IsErrorIn text e
