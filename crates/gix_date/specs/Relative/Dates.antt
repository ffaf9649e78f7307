-- Relative texts, and the times that they name from a moment.
use Rattle.std.specs.Prelude.{◌≡◌, ℕ, ℤ, pos, ◌-ℤ◌, List, [], ◌∷◌, if◌then◌else◌, Option, Some, None, Result, Ok, Err, codes}
use Rattle.std.specs.Option.{option_or}
use Rattle.std.specs.Str.{trim}
use Rattle.jiff.specs.Words.{zoned_nanos, offset_at, nanos_of_seconds, IsTimestampNanos}
use Rattle.jiff.specs.Types.{TimeZone}
use Rattle.jiff.specs.declared.zoned.Zoned.{Zoned}
use Rattle.gix_date.specs.Fields.ClockNumbers.{seconds_per_day}
use Rattle.gix_date.specs.Relative.Steps.{zone_of, Resolves, Chain}
use Rattle.gix_date.specs.Relative.Words.{relative_words}
use Rattle.gix_date.specs.Text.Names.{named_in}
use Rattle.gix_date.specs.Relative.Roles.{are_pairs, pairs}
use Rattle.gix_date.specs.Fields.Zoned.{whole_seconds}
use Rattle.gix_date.specs.declared.error.ParseError.{ParseError}
use Rattle.gix_date.specs.declared.error.ParseError.TheVariants.{MissingNow, Range}
use Rattle.gix_date.specs.declared.parsing.relative.words.TimeUnit.{TimeUnit}
use Rattle.gix_date.specs.declared.time.Time.{Time}
use Rattle.gix_date.specs.declared.parsing.relative.Relative.{Relative as RelativeText}
use Rattle.gix_date.specs.declared.parsing.relative.Relative.TheVariants as text

-- what a relative text asks for
pub data RelativeDate : Type 0 where
  -- so many seconds before the moment
  MinusSeconds : ℤ → RelativeDate
  -- pairs of count and unit, subtracted from the moment in turn
  MinusPairs : List (ℤ × TimeUnit) → RelativeDate

-- what a relative text asks for: the pairs are those of its words
abbrev pub relative_date_of : RelativeText → RelativeDate
relative_date_of (text.MinusSeconds seconds) = MinusSeconds seconds
relative_date_of (text.MinusPairs found) = MinusPairs (pairs (relative_words found.now))

-- the relative dates by their names
abbrev pub date_names : List (List ℕ × RelativeDate)
date_names =
    (codes "now", MinusSeconds (pos 0)) ∷ (codes "today", MinusSeconds (pos 0))
    ∷ (codes "yesterday", MinusSeconds (pos seconds_per_day)) ∷ []

-- `now`, `today` or `yesterday`, alone
unfoldable pub named_date : List ℕ → Option RelativeDate
named_date name = named_in date_names name

-- pairs of counts and periods
unfoldable pub pairs_date : List ℕ → Option RelativeDate
pairs_date text = if are_pairs (relative_words text) then Some (MinusPairs (pairs (relative_words text))) else None

-- the relative date of a text: `None` if it is not relative
unfoldable pub relative_date : List ℕ → Option RelativeDate
relative_date text = option_or (named_date (trim text)) (pairs_date text)

-- the date names this instant in the zone, counted from the instant `moment`, both in nanoseconds
abbrev pub Reaches : RelativeDate → TimeZone → ℤ → ℤ → Type 0
Reaches (MinusSeconds seconds) tz moment instant = (instant ≡ moment -ℤ nanos_of_seconds seconds) × IsTimestampNanos instant
Reaches (MinusPairs list) tz moment instant = (start : ℤ) × Resolves tz moment start × Chain tz list start instant

-- the date names this time from the moment: whole seconds, and the offset of the moment's zone there
pub record IsNamed (date : RelativeDate) (moment : Zoned) (t : Time) : Type 0 where
  pub instant : ℤ
  pub reaches : Reaches date (zone_of moment) (zoned_nanos moment) instant
  pub seconds_is : t.seconds ≡ whole_seconds instant
  pub offset_is : t.offset ≡ offset_at (zone_of moment) instant

-- the time that the date names from the moment, or `None` where it names no time
abbrev pub IsNamedIfAny : RelativeDate → Zoned → Option Time → Type 0
IsNamedIfAny date moment None = (t : Time) → ¬ (IsNamed date moment t)
IsNamedIfAny date moment (Some t) = IsNamed date moment t

-- the result for a relative date: a time that `IsNamed`; `Range` if there is none; `MissingNow` without a moment
abbrev pub RelativeOutcome : RelativeDate → Option Zoned → Result Time ParseError → Type 0
RelativeOutcome date None result = result ≡ Err MissingNow
RelativeOutcome date (Some moment) (Ok t) = IsNamed date moment t
RelativeOutcome date (Some moment) (Err e) = (e ≡ Range) × ((t : Time) → ¬ (IsNamed date moment t))

-- a relative date names at most one time from a moment
abbrev pub AreNamedOnce : Type 0
AreNamedOnce =
    (date : RelativeDate) (moment : Zoned) (a b : Time) → IsNamed date moment a → IsNamed date moment b → a ≡ b
