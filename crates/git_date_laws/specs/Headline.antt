-- The whole promise of Git's dates.
use Rattle.std.specs.Prelude.{◌≡◌, ◌≤ℤ◌, ◌<ℤ◌, ℕ, ℤ, pos, Bool, true, false, not, if◌then◌else◌, List, Some, None, Ok}
use Rattle.jiff.specs.Types.{TimeZone}
use Rattle.jiff.specs.Words.{zoned_nanos}
use Rattle.jiff.specs.declared.zoned.Zoned.{Zoned}
use Rattle.gix_date.specs.declared.time.Time.{Time}
use Rattle.git_date.specs.Approximate.Reading.{ApproximateOutcome}
use Rattle.git_date.specs.Approximate.Expiry.{ExpiryOutcome}
use Rattle.git_date.specs.Rules.Dates.{first_of_year_2100}
use Rattle.git_date.specs.Rules.Digits.{min_epoch}
use Rattle.git_date.specs.Exact.Outcome.{DateOutcome, read_at}
use Rattle.git_date_laws.specs.Texts.Printed.{IsGitTime}
use Rattle.git_date.specs.Show.Dates.{shown}
use Rattle.git_date.specs.Show.Clocks.{Moment, time_at}
use Rattle.git_date.specs.declared.reader.ExactDate.{ExactDate}
use Rattle.git_date.specs.declared.mode.DateKind.{DateKind}
use Rattle.git_date.specs.declared.mode.DateKind.TheVariants.{Iso8601Strict, Iso8601, Rfc2822, Default, Raw, Unix}
use Rattle.git_date_laws.specs.ApproximateLaws.{HasExactAnswer, HasAnswerInAnyCase, IsNowIfFound}
use Rattle.git_date_laws.specs.Laws.{IgnoresCase, ReadsRawBack}

-- one value is so, and no other
abbrev pub HasOne : {A : Type 0} → (A → Type 0) → Type 0
HasOne {A} Is = (one : A) × Is one × ((other : A) → Is other → other ≡ one)

-- a mode of this kind, by the zone's clock or the own, shows a date, a clock and an offset
abbrev pub shows_all : Bool → DateKind → Bool
shows_all local Iso8601Strict = true
shows_all local Iso8601 = true
shows_all local Rfc2822 = true
shows_all local Default = not local
shows_all local kind = false

-- the time whose own clock is shown: of `-local` modes at the zone's offset
abbrev pub shown_time : Moment → Bool → Time → Time
shown_time at local t = if local then time_at at.zone t.seconds else t

-- this is read as a time in every zone, it says its offset, and nothing is ignored
abbrev pub IsReadAs : Zoned → List ℕ → Time → Type 0
IsReadAs moment text t = (tz : TimeZone)
    → read_at (zoned_nanos moment) tz text ≡ Ok (record { time = t; has_offset = true; ignored = None })

-- what such a mode shows of a time of Git's is read as that time
abbrev pub IsReadAsShown : Zoned → Time → Type 0
IsReadAsShown moment t =
    (kind : DateKind) (local : Bool) (at : Moment) (text : List ℕ) → shows_all local kind ≡ true → IsGitTime (shown_time at local t)
    → shown at (record { kind = kind; local = local }) t ≡ Some text → IsReadAs moment text (shown_time at local t)

-- seconds that are read alone, without `@`: from 100000000 to the end of 2099
abbrev pub IsEpoch : ℤ → Type 0
IsEpoch seconds = (pos min_epoch ≤ℤ seconds) × (seconds <ℤ pos first_of_year_2100)

-- what `raw` and `raw-local` show of such seconds is read so
abbrev pub IsReadAsRaw : Zoned → Time → Type 0
IsReadAsRaw moment t =
    (local : Bool) (at : Moment) (text : List ℕ) → IsEpoch t.seconds → IsGitTime (shown_time at local t)
    → shown at (record { kind = Raw; local = local }) t ≡ Some text → IsReadAs moment text (shown_time at local t)

-- what `unix` shows of such seconds is read as these seconds, wherever the zone has an offset there
abbrev pub IsReadAsUnix : Zoned → Time → Type 0
IsReadAsUnix moment t =
    (local : Bool) (at : Moment) (tz : TimeZone) (text : List ℕ) (date : ExactDate) → IsEpoch t.seconds
    → shown at (record { kind = Unix; local = local }) t ≡ Some text → read_at (zoned_nanos moment) tz text ≡ Ok date
    → (date.time.seconds ≡ t.seconds) × (date.ignored ≡ None)

-- For every text, time and moment, in every zone: each reader has one result, by the rules that are written; `approxidate` has
-- that of `parse_date` where this reads; letter case changes neither; `now` is now; and what is shown is read back.
pub record Promise (moment : Zoned) (text : List ℕ) (t : Time) : Type 0 where
  pub exact : HasOne (DateOutcome moment text)
  pub approximate : HasOne (ApproximateOutcome moment text)
  pub expiry : HasOne (ExpiryOutcome moment text)
  pub follows : HasExactAnswer moment text
  pub exact_case : IgnoresCase moment text
  pub approximate_case : HasAnswerInAnyCase moment text
  pub now : IsNowIfFound moment
  pub read_back : IsReadAsShown moment t
  pub raw_alone : IsReadAsRaw moment t
  pub unix_alone : IsReadAsUnix moment t
  pub raw_read_back : ReadsRawBack moment t

-- the whole promise holds of them
unfoldable pub IsHeadline : Zoned → List ℕ → Time → Type 0
IsHeadline moment text t = Promise moment text t
