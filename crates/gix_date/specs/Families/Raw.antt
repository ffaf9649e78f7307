-- Raw texts: seconds and an offset, by a rule for the offset's fields.
use Rattle.std.specs.Prelude.{ℕ, Bool, ◌&&◌, ◌||◌, List, ℤ, ◌==◌, nat_le, Option, Some, unwrap_or}
use Rattle.gix_date.specs.Text.Front.{◌>>=◌}
use Rattle.gix_date.specs.Text.Numbers.{int_value}
use Rattle.gix_date.specs.Fields.Offsets.{offset_fields, offset_by}
use Rattle.gix_date.specs.Text.SpaceWords.{space_words, first_words}
use Rattle.gix_date.specs.declared.parsing.offset.OffsetFields.{OffsetFields}
use Rattle.gix_date.specs.declared.parsing.raw.RawOffsets.{RawOffsets}
use Rattle.gix_date.specs.declared.parsing.raw.RawOffsets.TheVariants.{Quarter, WholeMinutes}
use Rattle.gix_date.specs.declared.parsing.raw.TheConstants.{MAX_HOURS, MAX_WIDE_HOURS, MAX_MINUTES}
use Rattle.gix_date.specs.declared.time.Time.{Time}

-- the most hours of a raw offset, 14
abbrev pub max_raw_hours : ℕ
max_raw_hours = MAX_HOURS

-- the most hours by the wider rule, 23
abbrev pub max_wide_hours : ℕ
max_wide_hours = MAX_WIDE_HOURS

-- the most minutes by the wider rule, 59
abbrev pub max_wide_minutes : ℕ
max_wide_minutes = MAX_MINUTES

-- a rule for the fields of a raw text's offset
abbrev pub OffsetRule : Type 0
OffsetRule = OffsetFields → Bool

-- quarters of an hour, to 14:45: hours are at most 14, minutes 00, 15, 30 or 45, and seconds, if any, 00
abbrev pub is_quarter_offset : OffsetRule
is_quarter_offset f =
    nat_le f.hours max_raw_hours && (f.minutes == 0 || f.minutes == 15 || f.minutes == 30 || f.minutes == 45)
    && unwrap_or f.seconds 0 == 0

-- whole minutes, to 23:59: hours are at most 23, minutes at most 59, and seconds, if any, 00
abbrev pub is_minute_offset : OffsetRule
is_minute_offset f = nat_le f.hours max_wide_hours && nat_le f.minutes max_wide_minutes && unwrap_or f.seconds 0 == 0

-- the rule of this name
abbrev pub allows : RawOffsets → OffsetRule
allows Quarter = is_quarter_offset
allows WholeMinutes = is_minute_offset

-- the offset that a word writes, if the rule allows its fields
unfoldable pub raw_offset_by : OffsetRule → List ℕ → Option ℤ
raw_offset_by rule word = offset_fields word >>= offset_by rule

-- the time of a raw text, by a rule: exactly two words, an int text and an offset that the rule allows
unfoldable pub raw_time_by : OffsetRule → List ℕ → Option Time
raw_time_by rule text = do
  words ← first_words (space_words text)
  second ← words.1
  seconds ← int_value words.0
  offset ← raw_offset_by rule second
  Some (record { seconds = seconds; offset = offset })

-- the time of a raw text, by quarters: its offset is quarters of an hour, as gix-date has them
abbrev pub raw_time : List ℕ → Option Time
raw_time = raw_time_by is_quarter_offset
