-- Laws of dates as Git reads them.
use Rattle.std.specs.Prelude.{◌≡◌, ◌↔◌, ◌⊎◌, ◌-ℤ◌, ℕ, ℤ, Bool, true, false, List, [], ◌∷◌, ◌++◌, Some, None, option_map, IfSome, Result, Ok}
use Rattle.jiff.specs.Types.{TimeZone, Posix}
use Rattle.jiff.specs.Words.{zoned_nanos, IsOffsetSeconds}
use Rattle.jiff.specs.declared.zoned.Zoned.{Zoned}
use Rattle.jiff_tz.specs.declared.posix.TimeZone.{TimeZone as Rule}
use Rattle.gix_date.specs.Fields.Zoned.{is_instant}
use Rattle.gix_date.specs.Text.Characters.{newline, at_sign}
use Rattle.gix_date.specs.Text.Names.{is_name}
use Rattle.gix_date.specs.declared.time.Time.{Time}
use Rattle.git_date.specs.Rules.Dates.{now_of}
use Rattle.git_date_laws.specs.Texts.Lines.{AreComplete}
use Rattle.git_date.specs.Show.Modes.{own}
use Rattle.git_date_laws.specs.Texts.Moments.{has_day_month, HasNoDayMonth}
use Rattle.git_date.specs.Show.Dates.{shown}
use Rattle.git_date.specs.Show.Clocks.{Moment}
use Rattle.git_date.specs.Tokens.Strings.{before_nul, nul_place}
use Rattle.git_date.specs.Tokens.Tokens.{Token, Letters, Digits, tokens}
use Rattle.git_date.specs.Exact.Reading.{said_up_to, said_by}
use Rattle.git_date.specs.Exact.Outcome.{DateOutcome, DateOutcomeAt, said_offset}
use Rattle.git_date.specs.Exact.Zones.{States, states_of, state_by, is_same, found_offset}
use Rattle.git_date.specs.Types.Names.{ZoneState}
use Rattle.git_date.specs.declared.reader.ExactDate.{ExactDate}
use Rattle.git_date.specs.declared.error.DateError.{DateError}
use Rattle.git_date.specs.declared.mode.DateKind.TheVariants.{Raw}

-- a token before others: they do not begin with another run of the same kind
abbrev pub IsApart : Token → List Token → Type 0
IsApart (Letters run) (Letters other ∷ more) = ⊥
IsApart (Digits run) (Digits other ∷ more) = ⊥
IsApart t more = Unit {0}

-- no two neighbours are both letters or both digits
abbrev pub AreApart : List Token → Type 0
AreApart [] = Unit {0}
AreApart (t ∷ more) = IsApart t more × AreApart more

-- a text that says its offset has the same answer in every zone
abbrev pub IgnoresZone : Zoned → List ℕ → Type 0
IgnoresZone moment text =
    (tz other : TimeZone) (minutes : ℤ) (result : Result ExactDate DateError)
    → said_offset (said_by (now_of moment) text) ≡ Some minutes
    → DateOutcomeAt (zoned_nanos moment) tz text result ↔ DateOutcomeAt (zoned_nanos moment) other text result

-- a date that has its own offset is read so in every zone
abbrev pub IsOfEveryZone : Zoned → List ℕ → Type 0
IsOfEveryZone moment text =
    (tz other : TimeZone) (date : ExactDate) → date.has_offset ≡ true
    → DateOutcomeAt (zoned_nanos moment) tz text (Ok date) → DateOutcomeAt (zoned_nanos moment) other text (Ok date)

-- a text says the same in any letter case
abbrev pub IgnoresCase : Zoned → List ℕ → Type 0
IgnoresCase moment text =
    (other : List ℕ) → is_name text other ≡ true → said_by (now_of moment) text ≡ said_by (now_of moment) other

-- Neither a line feed nor what follows it changes what a text says, where no offset takes the line feed. What begins at a NUL
-- there is ignored.
abbrev pub IgnoresLines : Zoned → List ℕ → Type 0
IgnoresLines moment text =
    (lines : List ℕ) → AreComplete (tokens text)
    → said_by (now_of moment) (text ++ newline ∷ lines) ≡ said_up_to (nul_place (text ++ newline ∷ lines)) (said_by (now_of moment) text)

-- a text in which the reader comes to no such date says the same at every moment
abbrev pub IgnoresInstant : Zoned → List ℕ → Type 0
IgnoresInstant moment text =
    (other : Zoned) → HasNoDayMonth (now_of moment) text → said_by (now_of moment) text ≡ said_by (now_of other) text

-- a text in which no such date begins anywhere is such a text at every moment
abbrev pub IsWithoutDayMonth : Zoned → List ℕ → Type 0
IsWithoutDayMonth moment text = has_day_month (tokens (before_nul text)) ≡ false → HasNoDayMonth (now_of moment) text

-- what `raw` shows of an instant is read after `@` as that time, and nothing of it is ignored
abbrev pub ReadsRawBack : Zoned → Time → Type 0
ReadsRawBack moment t =
    (now : Moment) (text : List ℕ) (result : Result ExactDate DateError) → is_instant t.seconds ≡ true → shown now (own Raw) t ≡ Some text
    → DateOutcome moment (at_sign ∷ text) result → result ≡ Ok (record { time = t; has_offset = true; ignored = None })

-- the zone's clock shows these seconds at an offset
abbrev pub shows : States → ℤ → ℤ → Bool
shows zone clock offset = is_same offset (option_map (λ (there : ZoneState). there.offset) (state_by zone clock offset))

-- within 26 hours of where a clock would be UTC's, the zone has one of two offsets
abbrev pub HasTwoOffsets : States → ℤ → ℤ → ℤ → Type 0
HasTwoOffsets zone clock a b =
    (offset : ℤ) → IsOffsetSeconds offset → IfSome (state_by zone clock offset) (λ there. (there.offset ≡ a) ⊎ (there.offset ≡ b))

-- where the zone's clock ever shows these seconds, the offset that is found shows them, if no flag is asked
abbrev pub IsReadIfShown : States → ℤ → Type 0
IsReadIfShown zone clock =
    (guess offset : ℤ) → IsOffsetSeconds guess → shows zone clock offset ≡ true
    → IfSome (found_offset zone (record { clock = clock; daylight = None }) guess) (λ found. shows zone clock found ≡ true)

-- the offset that the zone has where its clock shows these seconds is found by them and by the flag there
abbrev pub IsFoundAgain : States → ℤ → ℤ → ℤ → Type 0
IsFoundAgain zone guess clock offset =
    found_offset zone (record { clock = clock; daylight = option_map (λ (there : ZoneState). there.daylight) (state_by zone clock offset) })
    guess
    ≡ Some offset

-- no other offset shows these seconds
abbrev pub IsShownOnce : States → ℤ → ℤ → Type 0
IsShownOnce zone clock offset =
    (shows zone clock offset ≡ true) × ((other : ℤ) → shows zone clock other ≡ true → other ≡ offset)

-- within 26 hours of where a clock would be UTC's, there are instants
abbrev pub HasInstants : ℤ → Type 0
HasInstants clock = (offset : ℤ) → IsOffsetSeconds offset → is_instant (clock -ℤ offset) ≡ true

-- where its clock shows them once, that is found from any guess
abbrev pub IsFoundIfOnce : States → ℤ → Type 0
IsFoundIfOnce zone clock =
    (guess offset : ℤ) → IsOffsetSeconds guess → HasInstants clock → IsShownOnce zone clock offset → IsFoundAgain zone guess clock offset

-- a clock is read where it is shown, and found again where it is shown once
pub record IsRead (zone : States) (clock : ℤ) : Type 0 where
  pub shown : IsReadIfShown zone clock
  pub once : IsFoundIfOnce zone clock

-- so it is where a zone has two offsets, and in each zone of a rule, whatever its days are
pub record IsClockRead (tz : TimeZone) : Type 0 where
  pub two : (a b clock : ℤ) → HasTwoOffsets (states_of tz) clock a b → IsRead (states_of tz) clock
  pub rule : (rule : Rule) (clock : ℤ) → tz ≡ Posix rule → IsRead (states_of tz) clock
