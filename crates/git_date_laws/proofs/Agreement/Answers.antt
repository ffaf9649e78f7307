-- The time of a date that was read whole and with its offset, where the steps over its text fit a time.
use Rattle.std.proofs.Common.{◌≡◌, ◌∙◌, ℕ, ℤ, pos, ◌*ℤ◌, Bool, true, false, cond, List, length, Option, Some, None, Result, Ok, Err, refl}
use Rattle.std.proofs.Common.{ap, sym}
use Rattle.std.specs.Prelude.{option_map}
use Rattle.std.specs.Int.Signed.{le_z}
use Rattle.std.specs.Option.{is_some, option_or}
use Rattle.jiff.specs.Types.{TimeZone}
use Rattle.gix_date.specs.Fields.Zoned.{is_instant}
use Rattle.gix_date.specs.declared.time.Time.{Time}
use Rattle.git_date.specs.Rules.Dates.{exact_seconds}
use Rattle.git_date.specs.Rules.Fields.{is_leap, unknown}
use Rattle.git_date.specs.Rules.Offsets.{at_text}
use Rattle.git_date.specs.Exact.Outcome.{at_offset, date_at, date_of, instant_seconds}
use Rattle.git_date.specs.Exact.Reading.{place_in, at_said, by_seconds, fields_said, reading_of, at_or_fields, said_up_to, string_said}
use Rattle.git_date.specs.Exact.Reading.{said_by}
use Rattle.git_date.specs.Tokens.Strings.{nul_place}
use Rattle.git_date.specs.Tokens.Tokens.{tokens}
use Rattle.git_date.specs.Types.Names.{Fault, Now, Reading, Said}
use Rattle.git_date.specs.declared.reader.ExactDate.{ExactDate}
use Rattle.git_date.specs.declared.error.DateError.{DateError}
use Rattle.git_date.specs.declared.error.DateError.TheVariants.{Range}
use Rattle.git_date.proofs.Rules.EnoughSteps.{fewer}
use Rattle.git_date.proofs.Text.StringEnds.{whole-said}
use Rattle.git_date_laws.proofs.Agreement.Steps.{Fits, Goes}
use Rattle.git_date_laws.proofs.Back.Zones.{told}
use Rattle.git_date_laws.proofs.Whole.Guesses.{whole-text}

abbrev time_said : Said → ℤ → Time
time_said said minutes = record { seconds = instant_seconds said minutes; offset = pos 60 *ℤ minutes }

-- what such a date was said by
record IsSaid (date : ExactDate) (read : Result Said DateError) : Type 0 where
  said : Said
  minutes : ℤ
  is : read ≡ Ok said
  offset : said.offset ≡ Some minutes
  time : date.time ≡ time_said said minutes
  ignored : said.ignored ≡ None

from-ok : {A : Type 0} (b : Bool) (x y : A) → Ok y ≡ cond b (Ok x) (Err Range) → y ≡ x
from-ok true x y e = cc
from-ok false x y e = absurd cc

date-is : (said : Said) (minutes : ℤ) (date : ExactDate) → Ok date ≡ date_at said minutes
    → date ≡ record { time = time_said said minutes; has_offset = is_some said.offset; ignored = said.ignored }
unfolding date_at
date-is said minutes date e = from-ok (le_z (pos 0) (instant_seconds said minutes)) _ date e

said-by : (tz : TimeZone) (read : Result Said DateError) (date : ExactDate) → Ok date ≡ date_of tz read → date.has_offset ≡ true
    → date.ignored ≡ None → IsSaid date read
said-by tz (Err e) date h has none = absurd cc
said-by tz (Ok said) date h has none = by said.offset refl h (sym (told tz (Ok said) date h) ∙ has)
  where
    by : (offset : Option ℤ) → said.offset ≡ offset → Ok date ≡ at_offset tz said offset → is_some said.offset ≡ true
        → IsSaid date (Ok said)
    by (Some minutes) e h some =
        let same = date-is said minutes date h in
        record {
          said = said;
          minutes = minutes;
          is = refl;
          offset = e;
          time = ap (λ (d : ExactDate). d.time) same;
          ignored =
              sym (ap (λ (d : ExactDate). d.ignored) same) ∙ none;
        }
    by None e h some = absurd (let clash = sym some ∙ ap is_some e in cc)

-- nothing begins at a NUL
or-some : (i : Option ℕ) (place : ℕ) → option_or i (Some place) ≡ None → ⊥
or-some (Some left) place e = cc
or-some None place e = cc

no_place : (place : Option ℕ) (read : Result Said DateError) (said : Said) → said_up_to place read ≡ Ok said → said.ignored ≡ None
    → place ≡ None
no_place None read said e none = refl
no_place (Some place) (Err x) said e none = absurd cc
no_place (Some place) (Ok x) said e none = absurd (or-some x.ignored place
    (let same : record x { ignored = option_or x.ignored (Some place) } ≡ said = cc in ap (λ (s : Said). s.ignored) same ∙ none))

none-left : (place : ℕ → ℕ) (i : Option ℕ) → option_map place i ≡ None → i ≡ None
none-left place None e = refl
none-left place (Some left) e = absurd cc

-- what `@` says is the time
abbrev pub FitsAt : Time → Option (ℕ × ℤ) → Type 0
FitsAt t None = Unit {0}
FitsAt t (Some found) = t ≡ record { seconds = pos found.0; offset = pos 60 *ℤ found.1 }

module _ (now : Now) (t : Time) (text : List ℕ) (said : Said) (minutes : ℤ) (offset : said.offset ≡ Some minutes)
    (none : said.ignored ≡ None) where
  by-fields : (r : Reading) (seconds : Option ℤ) → Fits now t (Ok r) → exact_seconds r.fields ≡ seconds
      → Ok said ≡ by_seconds text r seconds → time_said said minutes ≡ t
  by-fields r None fits e h = absurd cc
  by-fields r (Some s) fits e h =
      let same = from-ok (is_instant s) (record {
        seconds = s;
        offset = r.fields.offset;
        epoch = r.fields.epoch;
        leap =
            is_leap r.fields;
        ignored = option_map (place_in text) r.ignored;
      }) said h in
      ap (λ (x : Said). time_said x minutes) same
      ∙ sym (fits s minutes (none-left (place_in text) r.ignored (sym (ap (λ (x : Said). x.ignored) same) ∙ none))
      (sym (ap (λ (x : Said). x.offset) same) ∙ offset) e)

  by-reading : (read : Result Reading Fault) → Fits now t read → Ok said ≡ fields_said text read → time_said said minutes ≡ t
  unfolding fields_said
  by-reading (Ok r) fits h = by-fields r (exact_seconds r.fields) fits refl h
  by-reading (Err e) fits h = absurd cc

  by-at : (found : Option (ℕ × ℤ)) → FitsAt t found → Goes now t unknown (tokens text) → Ok said ≡ at_or_fields now text found
      → time_said said minutes ≡ t
  unfolding at_said reading_of
  by-at None fits goes h = by-reading (reading_of now text) (goes (length text) (fewer text)) h
  by-at (Some found) fits goes h =
      let same = from-ok (is_instant (pos found.0))
      (record { seconds = pos found.0; offset = Some found.1; epoch = true; leap = false; ignored = None }) said h in
      let known : Some found.1 ≡ Some minutes = sym (ap (λ (x : Said). x.offset) same) ∙ offset in
      let equal : found.1 ≡ minutes = cc in
      ap (λ (x : Said). time_said x minutes) same ∙ ap (λ (m : ℤ). record { seconds = pos found.0; offset = pos 60 *ℤ m }) (sym equal)
      ∙ sym fits

pub time-is : (now : Now) (tz : TimeZone) (t : Time) (text : List ℕ) (date : ExactDate) → Goes now t unknown (tokens text)
    → FitsAt t (at_text (tokens text))
    → Ok date ≡ date_of tz (said_by now text) → date.has_offset ≡ true → date.ignored ≡ None → date.time ≡ t
unfolding said_by string_said
time-is now tz t text date goes fits h has none =
    let s = said-by tz (said_by now text) date h has none in
    let whole = whole-text text (no_place (nul_place text) _ s.said s.is s.ignored) in
    s.time ∙ by-at now t text s.said s.minutes s.offset s.ignored (at_text (tokens text)) fits goes (sym s.is ∙ whole-said now text whole)
