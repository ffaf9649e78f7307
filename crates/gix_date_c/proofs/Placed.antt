-- What parsing comes to at a place, case by case.
use Rattle.std.proofs.Common.{◌≡◌, ℕ, true, false, List, Some, None, Result, Ok, Err, refl}
use Rattle.std.specs.Result.{result_map_both}
use Rattle.std.specs.Str.{is_utf8}
use Rattle.jiff.specs.declared.zoned.Zoned.{Zoned}
use Rattle.gix_date.specs.Families.Order.{ParseNoAllocOutcome, first_family_by}
use Rattle.gix_date.specs.Families.Answer.FamilyAnswer.{Absolute}
use Rattle.gix_date.specs.Families.Raw.{allows}
use Rattle.gix_date.specs.declared.error.ParseError.{ParseError}
use Rattle.gix_date.specs.declared.parsing.raw.RawOffsets.{RawOffsets}
use Rattle.gix_date.specs.declared.time.Time.{Time}
use Rattle.gix_date_c.specs.Moments.{Place, has_instant, nanos_in, nanos_of, place_of}
use Rattle.gix_date_c.specs.Parsing.{raw_rule, refusal_status, IsParsedIn, IsParsedThere}
use Rattle.gix_date_c.specs.Zones.{HasZone, IsShown}
use Rattle.gix_date_c.specs.declared.handle.ShownZone.{ShownZone}
use Rattle.gix_date_c.specs.declared.moment.CInstant.{CInstant}
use Rattle.gix_date_c.specs.declared.values.status.Status.{Status}
use Rattle.gix_date_c.specs.declared.values.status.Status.TheVariants.{NoSuchOption, NotText}

pub no_rule : (raw : ℕ) (place : Place) (text : List ℕ) → raw_rule raw ≡ None → IsParsedThere raw place text (Err NoSuchOption)
no_rule raw place text e = (None, (λ missing. absurd cc), rw e refl)

pub no_text : (raw : ℕ) (place : Place) (text : List ℕ) (rule : RawOffsets) → raw_rule raw ≡ Some rule → is_utf8 text ≡ false
    → IsParsedThere raw place text (Err NotText)
no_text raw place text rule e none = (None, (λ missing. absurd cc), rw (e, none) refl)

pub usual : (raw : ℕ) (zone : ShownZone) (now : CInstant) (text : List ℕ) (rule : RawOffsets) (t : Time) → HasZone zone
    → has_instant now ≡ true → raw_rule raw ≡ Some rule → is_utf8 text ≡ true → first_family_by (allows rule) text ≡ Some (Absolute t)
    → IsParsedIn raw (IsShown zone) now text (Ok t)
unfolding nanos_of HasZone
usual raw zone now text rule t has there e is first =
    (Ok (nanos_in now, has.0), (Ok has.0, has.1, rw there refl), (None, (λ missing. absurd cc), rw (e, is) (Ok t, rw first refl, refl)))

pub at_moment : (raw : ℕ) (text : List ℕ) (rule : RawOffsets) (now : Zoned) (place : Place) (said : Result Time ParseError)
    (answer : Result Time Status) → raw_rule raw ≡ Some rule → is_utf8 text ≡ true → place_of (Ok now) ≡ Ok place
    → ParseNoAllocOutcome (first_family_by (allows rule) text) (Some now) said → answer ≡ result_map_both (λ t. t) refusal_status said
    → IsParsedThere raw place text answer
at_moment raw text rule now place said answer e is same outcome shown = (Some now, same, rw (e, is) (said, outcome, shown))

pub ruleset cases = (
  no_rule,
  no_text,
  at_moment,
)
