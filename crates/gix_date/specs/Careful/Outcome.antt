-- What a text says to a caller that must not guess, by its options, and what a call results in.
use Rattle.std.specs.Prelude.{◌≡◌, ◌&&◌, ◌||◌, ℕ, Bool, true, false, IsCharBoundary, List, Option, Some, None, is_none, Result, Ok, Err}
use Rattle.std.specs.Prelude.{not, take, IfSome, option_map}
use Rattle.std.specs.Char.{is_ascii_alphanumeric}
use Rattle.std.specs.List.{list_any}
use Rattle.std.specs.Result.{result_map_both}
use Rattle.jiff.specs.declared.zoned.Zoned.{Zoned}
use Rattle.gix_date.specs.Careful.Dates.{is_in_years_if_number, is_large_if_number, is_whole_git, names_its_day, unzoned_day}
use Rattle.gix_date.specs.Careful.Dates.{unzoned_git_time, unzoned_time, IsLocalTime}
use Rattle.gix_date.specs.Careful.Fronts.{longest_front}
use Rattle.gix_date.specs.Careful.Texts.{unclear_place}
use Rattle.gix_date.specs.Families.Answer.{FamilyAnswer, Absolute, NoInstant, OffsetAboveDay, Relative, answer_of, HasJiffOffset}
use Rattle.gix_date.specs.Families.Order.{first_family_by, ParseNoAllocOutcome}
use Rattle.gix_date.specs.Families.Raw.{OffsetRule, allows}
use Rattle.gix_date.specs.Git.Forms.{git_time}
use Rattle.gix_date.specs.Relative.Dates.{MinusPairs, MinusSeconds}
use Rattle.gix_date.specs.Relative.Roles.{pairs}
use Rattle.gix_date.specs.Relative.Steps.{zone_of}
use Rattle.gix_date.specs.Relative.Words.{relative_words}
use Rattle.gix_date.specs.declared.error.CarefulError.{CarefulError}
use Rattle.gix_date.specs.declared.error.CarefulError.TheVariants as errors
use Rattle.gix_date.specs.declared.error.ParseError.{ParseError}
use Rattle.gix_date.specs.declared.error.ParseError.TheVariants.{MissingNow, Range}
use Rattle.gix_date.specs.declared.parsing.careful.CarefulOptions.{CarefulOptions}
use Rattle.gix_date.specs.declared.parsing.raw.RawOffsets.TheVariants.{Quarter}
use Rattle.gix_date.specs.declared.parsing.careful.Texts.{Texts}
use Rattle.gix_date.specs.declared.parsing.careful.Texts.TheVariants as texts
use Rattle.gix_date.specs.declared.parsing.careful.WithoutOffset.{WithoutOffset}
use Rattle.gix_date.specs.declared.parsing.careful.WithoutOffset.TheVariants as zone
use Rattle.gix_date.specs.declared.time.Time.{Time}
use Rattle.gix_date.specs.Fields.Zoned.{is_instant}
use Rattle.gix_date.specs.declared.parsing.careful.Reading.{Reading as TextReading}
use Rattle.gix_date.specs.declared.parsing.careful.Reading.TheVariants as reading

-- what a text says by the options
pub data Reading : Type 0 where
  -- a date of the moment's zone: its clock shows there what the clock of UTC shows at this time
  Local : Time → Reading
  -- a text that is not careful: it stops being so at this place
  Unclear : ℕ → Reading
  -- a number of seconds that are after the year 9999
  AfterYear9999 : Reading
  -- what the first family answers
  First : Option FamilyAnswer → Reading

-- what a text says
abbrev pub reading_of : TextReading → Reading
reading_of (reading.Local t) = Local t
reading_of (reading.Unclear place) = Unclear place
reading_of reading.AfterYear9999 = AfterYear9999
reading_of (reading.First answer) = First (option_map answer_of answer)

-- a date of the moment's zone is an instant, a text may be cut where it is unclear, and offsets are those of zones
abbrev pub IsReadingOf : List ℕ → TextReading → Type 0
IsReadingOf text (reading.Local t) = is_instant t.seconds ≡ true
IsReadingOf text (reading.Unclear place) = IsCharBoundary text place
IsReadingOf text reading.AfterYear9999 = Unit {0}
IsReadingOf text (reading.First answer) = IfSome answer HasJiffOffset

-- the text as a date of the moment's zone
abbrev pub local_date : WithoutOffset → List ℕ → Option Time
local_date zone.Utc text = None
local_date zone.MomentsZone text = unzoned_time text

-- a date without an offset, by its time in UTC: in UTC, or in the moment's zone
abbrev pub unzoned_reading : WithoutOffset → Time → Reading
unzoned_reading zone.Utc t = First (Some (Absolute t))
unzoned_reading zone.MomentsZone t = Local t

-- a date without an offset, or else this
abbrev pub unzoned_or : WithoutOffset → Option Time → Reading → Reading
unzoned_or zone None reading = reading
unzoned_or zone (Some t) reading = unzoned_reading zone t

-- the date of the moment's zone, where the text is one, or else this
abbrev pub local_or : Option Time → Reading → Reading
local_or None reading = reading
local_or (Some t) reading = Local t

-- a reading where the text is careful, and else the place where it stops being so
abbrev pub clear_or : Bool → Reading → ℕ → Reading
clear_or true reading place = reading
clear_or false reading place = Unclear place

-- a date that names a day of the week names its own
abbrev pub names_no_other_day : List ℕ → Option FamilyAnswer → Bool
names_no_other_day text (Some (Absolute t)) = names_its_day text t
names_no_other_day text _ = true

-- a number of seconds is of the year 9999 at the latest
abbrev pub is_in_years : OffsetRule → List ℕ → Option FamilyAnswer → Bool
is_in_years rule text (Some (Absolute t)) = is_in_years_if_number rule text t
is_in_years rule text _ = true

-- a reading where the seconds of a number are in these years
abbrev pub in_years_or_late : Bool → Reading → Reading
in_years_or_late true reading = reading
in_years_or_late false reading = AfterYear9999

-- an answer says all of its text: a number has many seconds, and careful pairs come before
abbrev pub is_clear_answer : OffsetRule → List ℕ → Option FamilyAnswer → Bool
is_clear_answer rule text (Some (Absolute t)) = is_large_if_number rule text t
is_clear_answer rule text (Some (Relative (MinusPairs pairs))) = false
is_clear_answer rule text (Some (Relative (MinusSeconds seconds))) = true
is_clear_answer rule text (Some OffsetAboveDay) = true
is_clear_answer rule text (Some NoInstant) = true
is_clear_answer rule text None = false

-- a letter or digit of ASCII stands before the place
unfoldable pub has_word_before : List ℕ → ℕ → Bool
has_word_before text place = list_any is_ascii_alphanumeric (take place text)

-- What the first answer says: of a text that is neither careful pairs nor a Git form. A wrong day of the week is unclear
-- where it stands, at the front. Seconds after the year 9999 are refused as such. A text of no family is unclear only if
-- it begins as some form.
abbrev pub date_reading : OffsetRule → List ℕ → ℕ → Option FamilyAnswer → Reading
date_reading rule text place answer =
    clear_or (names_no_other_day text answer)
    (in_years_or_late (is_in_years rule text answer)
    (clear_or (is_clear_answer rule text answer || (is_none answer && not (has_word_before text place))) (First answer) place)) 0

-- what a text says that is no careful pairs: a Git form of this time drops no character
abbrev pub git_or : CarefulOptions → List ℕ → ℕ → Option Time → Reading
git_or options text place (Some t) =
    clear_or (is_whole_git text)
    (unzoned_or options.without_offset (unzoned_git_time text) (First (Some (Absolute t)))) place
git_or options text place None =
    unzoned_or options.without_offset (unzoned_day text)
    (date_reading (allows options.raw) text place (first_family_by (allows options.raw) text))

-- what a text says: it stops being careful pairs there, or is such pairs
abbrev pub pairs_or : CarefulOptions → List ℕ → Option ℕ → Reading
pairs_or options text None = First (Some (Relative (MinusPairs (pairs (relative_words text)))))
pairs_or options text (Some place) = git_or options text (longest_front text place) (git_time text)

-- what a text says by these texts: careful ones alone, or all that `parse_with` reads
abbrev pub reading_of_texts : Texts → CarefulOptions → List ℕ → Reading
reading_of_texts texts.Careful options text = pairs_or options text (unclear_place text)
reading_of_texts texts.All options text =
    local_or (local_date options.without_offset text) (First (first_family_by (allows options.raw) text))

-- The default options: raw offsets by quarters, dates without an offset in UTC, careful texts. `CarefulOptions` has
-- them by `Default`.
abbrev pub default_options : CarefulOptions
default_options = record { raw = Quarter; without_offset = zone.Utc; texts = texts.Careful }

-- what a text says by the options
unfoldable pub careful_reading : CarefulOptions → List ℕ → Reading
careful_reading options text = reading_of_texts options.texts options text

-- The result of `parse_carefully`: what the text says and the moment determine it. A date of the moment's zone needs a
-- moment, and is refused by `Range` where the zone has no instant for it.
abbrev pub CarefulOutcome : Reading → Option Zoned → Result Time CarefulError → Type 0
CarefulOutcome (Local t) None result = result ≡ Err (errors.Refused MissingNow)
CarefulOutcome (Local t) (Some moment) (Ok r) = IsLocalTime (zone_of moment) t r
CarefulOutcome (Local t) (Some moment) (Err e) =
    (e ≡ errors.Refused Range) × ((r : Time) → ¬ (IsLocalTime (zone_of moment) t r))
CarefulOutcome (Unclear place) now result = result ≡ Err (errors.Unclear place)
CarefulOutcome AfterYear9999 now result = result ≡ Err errors.AfterYear9999
CarefulOutcome (First answer) now result =
    (plain : Result Time ParseError) × ParseNoAllocOutcome answer now plain × (result ≡ result_map_both (λ t. t) errors.Refused plain)

-- the text may be cut at the place of a refusal
abbrev pub IsPlaceIn : List ℕ → CarefulError → Type 0
IsPlaceIn text (errors.Unclear place) = IsCharBoundary text place
IsPlaceIn text errors.AfterYear9999 = Unit {0}
IsPlaceIn text (errors.Refused refusal) = Unit {0}
