-- The instant that NOW says.
use Rattle.std.specs.Prelude.{◌≡◌, ℕ, List, ℤ, pos, ◌*ℤ◌, Option, Some, None, Result, Ok, Err}
use Rattle.jiff.specs.Types.{TimeZone}
use Rattle.jiff.specs.Words.{IsTimestampNanos}
use Rattle.gix_date.specs.declared.time.Time.{Time}
use Rattle.streams.specs.Moments.{moment_or_why}
use Rattle.streams.specs.declared.program.NoMoment.{NoMoment}
use Rattle.streams.specs.declared.program.NoMoment.TheVariants.{Conversion}
use Rattle.git_date.specs.Exact.Outcome.{DateOutcomeAt}
use Rattle.git_date.specs.declared.reader.ExactDate.{ExactDate}
use Rattle.git_date.specs.declared.error.DateError.{DateError}

-- the last instant, in nanoseconds since 1970: no date is ahead of it
abbrev pub last_instant : ℤ
last_instant = pos 253_402_207_200_999_999_999

-- the instant of these seconds since 1970, in nanoseconds, where there is one
abbrev pub IsInstantAt : ℤ → Result ℤ NoMoment → Type 0
IsInstantAt seconds (Ok nanos) = nanos ≡ seconds *ℤ pos 1_000_000_000
IsInstantAt seconds (Err why) = (why ≡ Conversion) × (IsTimestampNanos (seconds *ℤ pos 1_000_000_000) → ⊥)

-- the instant of a moment of gix-date, or why there is none
abbrev pub IsInstantOfMoment : Result Time NoMoment → Result ℤ NoMoment → Type 0
IsInstantOfMoment (Ok t) nanos = IsInstantAt t.seconds nanos
IsInstantOfMoment (Err why) nanos = nanos ≡ Err why

-- the instant of a date of which nothing is ignored, and else that of a moment of gix-date
abbrev pub IsInstantOfDate : Time → Option ℕ → List ℕ → Result ℤ NoMoment → Type 0
IsInstantOfDate t None text nanos = IsInstantAt t.seconds nanos
IsInstantOfDate t (Some place) text nanos = IsInstantOfMoment (moment_or_why text) nanos

-- the instant of an exact date, and of a text that is none that of a moment of gix-date
abbrev pub IsInstantBy : Result ExactDate DateError → List ℕ → Result ℤ NoMoment → Type 0
IsInstantBy (Ok date) text nanos = IsInstantOfDate date.time date.ignored text nanos
IsInstantBy (Err e) text nanos = IsInstantOfMoment (moment_or_why text) nanos

-- the instant of NOW: of an exact date of Git, in this zone if it names no offset, or else of a moment of gix-date
abbrev pub IsInstantOf : TimeZone → List ℕ → Result ℤ NoMoment → Type 0
IsInstantOf zone text nanos =
    (exact : Result ExactDate DateError) × DateOutcomeAt last_instant zone text exact × IsInstantBy exact text nanos
