-- What the laws of reading back say of a time.
use Rattle.std.specs.Prelude.{◌≡◌, ◌⊎◌, ◌≤◌, ◌<◌, ◌%◌, ◌≤ℤ◌, if◌then◌else◌, ℕ, ℤ, pos, ◌*ℤ◌, List, Some, IsSomeAnd, Result, MatchResult}
use Rattle.std.specs.Prelude.{String, string_bytes, unsigned_abs}
use Rattle.std.specs.Global.{Global}
use Rattle.gix_date.specs.Fields.ClockNumbers.{seconds_per_minute, seconds_per_day}
use Rattle.gix_date.specs.Families.Answer.{FamilyAnswer, Absolute, NoInstant}
use Rattle.gix_date.specs.Families.Epoch.{utc_time, min_bare_epoch}
use Rattle.gix_date.specs.Families.Order.{first_family_by}
use Rattle.gix_date.specs.Fields.Layout.{LocalTime}
use Rattle.gix_date.specs.Header.Text.{header_text}
use Rattle.gix_date.specs.Text.Numbers.{decimal_text}
use Rattle.gix_date.specs.Printing.LocalClocks.{clock_of, local_day, HasFourDigitFields}
use Rattle.gix_date.specs.Printing.NamedTexts.{short_text, rfc2822_pattern, rfc2822_text, git_rfc2822_pattern, git_rfc2822_text}
use Rattle.gix_date.specs.Printing.NamedTexts.{iso8601_pattern, iso8601_text, iso8601_strict_pattern, iso8601_strict_text, gitoxide_pattern}
use Rattle.gix_date.specs.Printing.NamedTexts.{gitoxide_text, default_pattern, default_text}
use Rattle.gix_date.specs.Families.Patterns.{max_date_offset}
use Rattle.gix_date.specs.Printing.Formats.{PrintsPattern}
use Rattle.gix_date.specs.Printing.PrintedTimes.{IsPrintedAs}
use Rattle.gix_date.specs.Families.Raw.{OffsetRule, allows}
use Rattle.gix_date.specs.Fields.Zoned.{IsConvertible, is_instant}
use Rattle.gix_date.specs.declared.error.Error.{Error}
use Rattle.gix_date.specs.declared.error.Error.TheVariants.{Memory}
use Rattle.gix_date.specs.declared.parsing.raw.RawOffsets.{RawOffsets}
use Rattle.gix_date.specs.declared.parsing.raw.RawOffsets.TheVariants.{Quarter, WholeMinutes}
use Rattle.gix_date.specs.declared.time.Time.{Time}

-- The time converts, has four-digit fields and an offset within 23:59. Then each named format with a clock is parsed
-- back.
pub record RoundTrips (t : Time) : Type 0 where
  pub converts : IsConvertible t
  pub four_digits : HasFourDigitFields t
  pub within : unsigned_abs t.offset ≤ max_date_offset

-- the pattern's text is parsed back: the pattern prints this text of what the time's own clock shows, and the text is
-- parsed back to the time by the rule
pub record RoundTripsBy (rule : OffsetRule) (pattern : List ℕ) (text : LocalTime → List ℕ) (t : Time) : Type 0 where
  pub printed : IsPrintedAs pattern text t
  pub parsed : first_family_by rule (text (clock_of t)) ≡ Some (Absolute t)

-- the time is read back from each of the six named formats that have a clock
pub record RoundTripsByEach (rule : OffsetRule) (t : Time) : Type 0 where
  pub iso8601 : RoundTripsBy rule iso8601_pattern iso8601_text t
  pub iso8601_strict : RoundTripsBy rule iso8601_strict_pattern iso8601_strict_text t
  pub rfc2822 : RoundTripsBy rule rfc2822_pattern rfc2822_text t
  pub git_rfc2822 : RoundTripsBy rule git_rfc2822_pattern git_rfc2822_text t
  pub gitoxide : RoundTripsBy rule gitoxide_pattern gitoxide_text t
  pub default : RoundTripsBy rule default_pattern default_text t

-- each time of which `RoundTrips` holds is read back from each of the six named formats that have a clock
abbrev pub TimesRoundTrip : OffsetRule → Type 0
TimesRoundTrip rule = (t : Time) → RoundTrips t → RoundTripsByEach rule t

-- one of six named patterns with a clock
abbrev pub HasClock : List ℕ → Type 0
HasClock pattern =
    (pattern ≡ iso8601_pattern) ⊎ (pattern ≡ iso8601_strict_pattern) ⊎ (pattern ≡ rfc2822_pattern)
    ⊎ (pattern ≡ git_rfc2822_pattern) ⊎ (pattern ≡ gitoxide_pattern) ⊎ (pattern ≡ default_pattern)

-- the result is a text that is parsed back to the time, or `Memory`
abbrev pub RoundTripsAs : OffsetRule → Time → Result (String Global) Error → Type 0
RoundTripsAs rule t result =
    MatchResult result (λ text. first_family_by rule (string_bytes text) ≡ Some (Absolute t)) (λ e. e ≡ Memory)

-- by each pattern that `HasClock` the time `RoundTripsAs`
abbrev pub RoundTripsByPattern : OffsetRule → Time → Type 0
RoundTripsByPattern rule t =
    (pattern : List ℕ) (result : Result (String Global) Error) → HasClock pattern → PrintsPattern t pattern result
    → RoundTripsAs rule t result

-- an offset of whole quarters of an hour, under 15 hours either way
pub record IsQuarterOffset (offset : ℤ) : Type 0 where
  pub quarters : unsigned_abs offset % 900 ≡ 0
  pub short : unsigned_abs offset < 54_000

-- an offset of whole minutes, under 24 hours either way
pub record IsMinuteOffset (offset : ℤ) : Type 0 where
  pub minutes : unsigned_abs offset % seconds_per_minute ≡ 0
  pub short : unsigned_abs offset < seconds_per_day

-- the rule of this name allows a raw text this offset
abbrev pub IsRuleOffset : RawOffsets → ℤ → Type 0
IsRuleOffset Quarter = IsQuarterOffset
IsRuleOffset WholeMinutes = IsMinuteOffset

-- the midnight in UTC of the day that the time's own clock shows
abbrev pub midnight_of : Time → ℤ
midnight_of t = pos seconds_per_day *ℤ local_day t

-- the answer for the shown day: the midnight in UTC of the day that the time's own clock shows, or `NoInstant` without
-- an instant, as for 9999-12-31
abbrev pub day_read_back : Time → FamilyAnswer
day_read_back t = if is_instant (midnight_of t) then Absolute (utc_time (midnight_of t)) else NoInstant

-- if the rule allows the offset, the header text is parsed back to the time
abbrev pub HeaderRoundTrips : RawOffsets → Time → Type 0
HeaderRoundTrips raw t =
    IsRuleOffset raw t.offset
    → IsSomeAnd (header_text t) (λ text. first_family_by (allows raw) text ≡ Some (Absolute t))

-- seconds from 100000000 on are parsed back from their decimal text
abbrev pub SecondsRoundTrip : RawOffsets → ℤ → Type 0
SecondsRoundTrip raw seconds =
    min_bare_epoch ≤ℤ seconds
    → first_family_by (allows raw) (decimal_text seconds) ≡ Some (Absolute (utc_time seconds))

-- the text by `SHORT` of the time's own clock is answered by `day_read_back`
abbrev pub ShortReadsAsMidnight : OffsetRule → Time → Type 0
ShortReadsAsMidnight rule t = first_family_by rule (short_text (clock_of t)) ≡ Some (day_read_back t)
