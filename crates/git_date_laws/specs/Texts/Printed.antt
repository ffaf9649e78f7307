-- What printed times come to.
use Rattle.std.specs.Prelude.{◌≡◌, ◌≤◌, ◌≤ℤ◌, pos, neg_ℤ, true, List, ℕ, None, Ok}
use Rattle.jiff.specs.Types.{TimeZone}
use Rattle.gix_date.specs.Fields.Layout.{LocalTime}
use Rattle.gix_date.specs.Printing.LocalClocks.{clock_of}
use Rattle.gix_date.specs.Printing.NamedTexts.{git_rfc2822_text, iso8601_text, iso8601_strict_text, default_text}
use Rattle.gix_date.specs.Printing.ReadingBack.{RoundTrips}
use Rattle.gix_date.specs.declared.time.Time.{Time}
use Rattle.git_date.specs.Exact.Outcome.{date_of}
use Rattle.git_date.specs.Exact.Reading.{said_by}
use Rattle.git_date.specs.Types.Names.{Now}

-- A time that Git's dates can say: it is printed so that `gix_date` reads it back, it is not before 1970, its own clock shows
-- a year from 1970 to 2099, and it is not one minute behind UTC.
pub record IsGitTime (t : Time) : Type 0 where
  pub round_trips : RoundTrips t
  pub since_1970 : pos 0 ≤ℤ t.seconds
  pub first : 1970 ≤ (clock_of t).date.year
  pub last : (clock_of t).date.year ≤ 2099
  pub known : t.offset ≡ neg_ℤ (pos 60) → ⊥

-- this text of what the time's own clock shows is read as the time, and nothing of it is ignored
abbrev pub IsReadBack : Now → Time → (LocalTime → List ℕ) → Type 0
IsReadBack now t text =
    (tz : TimeZone) → date_of tz (said_by now (text (clock_of t))) ≡ Ok (record { time = t; has_offset = true; ignored = None })

-- the time is read back from each text of a date, a clock and an offset that Git shows
pub record AreReadBack (now : Now) (t : Time) : Type 0 where
  pub iso8601 : IsReadBack now t iso8601_text
  pub iso8601_strict : IsReadBack now t iso8601_strict_text
  pub git_rfc2822 : IsReadBack now t git_rfc2822_text
  pub default : IsReadBack now t default_text
