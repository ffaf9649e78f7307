-- What a date has to say to be read carefully; and dates without an offset, and what they name in a zone.
use Rattle.std.specs.Prelude.{◌≡◌, ℕ, ℤ, pos, Bool, true, false, not, ◌||◌, ◌==◌, List, [], ◌∷◌, if◌then◌else◌, Option, Some, None, is_some}
use Rattle.std.specs.Prelude.{option_map, unwrap_or}
use Rattle.std.specs.Int.Signed.{le_z}
use Rattle.std.specs.List.{position}
use Rattle.std.specs.Option.{option_or}
use Rattle.std.specs.Str.{trim}
use Rattle.jiff.specs.Words.{nanos_of_seconds}
use Rattle.jiff.specs.Types.{TimeZone}
use Rattle.jiff_core.specs.Calendar.{weekday_number}
use Rattle.gix_date.specs.Careful.Fronts.{skip_git_clock}
use Rattle.gix_date.specs.Families.Epoch.{min_bare_epoch, utc_time}
use Rattle.gix_date.specs.Families.Patterns.{midnight}
use Rattle.gix_date.specs.Families.Raw.{OffsetRule, raw_time_by}
use Rattle.gix_date.specs.Fields.Civil.{civil_instant}
use Rattle.gix_date.specs.Fields.DateFields.{read_plain_date}
use Rattle.gix_date.specs.Text.Front.{◌>>=◌}
use Rattle.gix_date.specs.Git.ClockCut.{clock_cut}
use Rattle.gix_date.specs.Git.Forms.{git_front, time_of_cut}
use Rattle.gix_date.specs.Printing.LocalClocks.{last_of_year_9999, local_day}
use Rattle.gix_date.specs.Fields.Zoned.{time_in}
use Rattle.gix_date.specs.Relative.Steps.{IsPicked}
use Rattle.gix_date.specs.Text.Names.{is_name, day_names}
use Rattle.gix_date.specs.Text.Numbers.{int_value}
use Rattle.gix_date.specs.Text.SpaceWords.{is_nonempty}
use Rattle.gix_date.specs.declared.time.Time.{Time}

-- nothing is left after a part
abbrev pub takes_all : Option (List ℕ) → Bool
takes_all None = false
takes_all (Some rest) = not (is_nonempty rest)

-- a clock drops no character: it is digits, `h:m`, `h:m:s`, `h:m:s.digits` or `HHMMSS.digits`
unfoldable pub is_whole_clock : List ℕ → Bool
is_whole_clock clock = takes_all (skip_git_clock (trim clock))

-- the text has the front of a Git form, and its clock drops no character
unfoldable pub is_whole_git : List ℕ → Bool
is_whole_git text =
    unwrap_or (option_map (λ front. is_whole_clock (clock_cut (trim front.1)).0) (git_front (trim text))) false

-- the day of the week of this name, in any letter case, from 0 for Monday
unfoldable pub day_named : List ℕ → Option ℕ
day_named name = position (is_name name) day_names

-- the day of the week first named: by the first three letters
unfoldable pub first_day : List ℕ → Option ℕ
first_day (a ∷ b ∷ c ∷ rest) = day_named (a ∷ b ∷ c ∷ [])
first_day _ = None

-- the text begins with no day of the week, or with that of the time's own clock
unfoldable pub names_its_day : List ℕ → Time → Bool
names_its_day text t = unwrap_or (option_map (λ day. day == weekday_number (local_day t)) (first_day text)) true

-- the text is a number of seconds, alone or before an offset: no `@` is before it
unfoldable pub is_number : OffsetRule → List ℕ → Bool
is_number rule text = is_some (raw_time_by rule text) || is_some (int_value text)

-- The time has 100000000 seconds at least, or the text is no number of seconds. A lesser number could be a date.
unfoldable pub is_large_if_number : OffsetRule → List ℕ → Time → Bool
is_large_if_number rule text t = le_z min_bare_epoch t.seconds || not (is_number rule text)

-- The time is of the year 9999 at the latest, by UTC, or the text is no number of seconds. A larger number could be
-- milliseconds, or a date and a clock in digits alone.
unfoldable pub is_in_years_if_number : OffsetRule → List ℕ → Time → Bool
is_in_years_if_number rule text t = le_z t.seconds last_of_year_9999 || not (is_number rule text)

-- the midnight in UTC of a day alone, `YYYY-M-D`
unfoldable pub unzoned_day : List ℕ → Option Time
unzoned_day text = do
  day ← read_plain_date text
  if is_nonempty day.1 then None else option_map utc_time (civil_instant day.0 midnight (pos 0))

-- the time in UTC of a Git form without an offset
unfoldable pub unzoned_git_time : List ℕ → Option Time
unzoned_git_time text = do
  front ← git_front (trim text)
  if is_nonempty (clock_cut (trim front.1)).1 then None else time_of_cut front.0 (clock_cut (trim front.1))

-- the time in UTC of a date without an offset
unfoldable pub unzoned_time : List ℕ → Option Time
unzoned_time text = option_or (unzoned_day text) (unzoned_git_time text)

-- `r` is the time that the zone chooses for what UTC's clock shows at `t`, as in `jiff`
pub record IsLocalTime (tz : TimeZone) (t r : Time) : Type 0 where
  pub instant : ℤ
  pub picked : IsPicked tz (nanos_of_seconds t.seconds) instant
  pub is : r ≡ time_in tz instant

-- the time in the zone, or `None` where the zone has no instant for it
abbrev pub IsLocalIfAny : TimeZone → Time → Option Time → Type 0
IsLocalIfAny tz t None = (r : Time) → ¬ (IsLocalTime tz t r)
IsLocalIfAny tz t (Some r) = IsLocalTime tz t r
