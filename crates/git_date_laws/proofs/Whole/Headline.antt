-- The whole promise of Git's dates.
use Rattle.std.proofs.Common.{arith, ◌≡◌, ◌∙◌, Bool, true, false, ℕ, List, Option, Some, None, option_map, pos, refl, sym, ap}
use Rattle.jiff.specs.Words.{zoned_nanos}
use Rattle.jiff.specs.declared.zoned.Zoned.{Zoned}
use Rattle.std.specs.Int.Signed.{lt_z}
use Rattle.gix_date.specs.Fields.Layout.{LocalTime}
use Rattle.gix_date.specs.Printing.LocalClocks.{clock_of}
use Rattle.gix_date.specs.Printing.NamedTexts.{iso8601_text, iso8601_strict_text, git_rfc2822_text, default_text}
use Rattle.gix_date.specs.Relative.Steps.{zone_of}
use Rattle.gix_date.specs.declared.time.Time.{Time}
use Rattle.git_date.specs.Approximate.Reading.{approximate}
use Rattle.git_date.specs.Approximate.Expiry.{expiry_by, fixed_expiry}
use Rattle.git_date.specs.Rules.Dates.{now_of}
use Rattle.git_date.specs.Exact.Outcome.{read_at}
use Rattle.git_date_laws.specs.Texts.Printed.{IsGitTime, IsReadBack}
use Rattle.git_date.specs.Show.Dates.{shown, shown_clock}
use Rattle.git_date.specs.Show.Clocks.{Moment, own_clock}
use Rattle.git_date.specs.Tokens.Strings.{before_nul}
use Rattle.git_date.specs.declared.mode.DateKind.{DateKind}
use Rattle.git_date.specs.declared.mode.DateKind.TheVariants.{Iso8601Strict, Iso8601, Rfc2822, Default}
use Rattle.git_date_laws.proofs.Whole.EveryZone.{now-in-every-zone}
use Rattle.git_date_laws.proofs.Whole.Guesses.{exact_answers, same_in_any_case}
use Rattle.git_date_laws.proofs.Printing.PrintedBack.{read-back, zone-is}
use Rattle.git_date_laws.proofs.Printing.RawBack.{raw_back}
use Rattle.git_date_laws.proofs.Printing.SecondsAlone.{raw-alone, unix-alone}
use Rattle.git_date_laws.proofs.Printing.ShownLaws.{default-mapped, when-shown}
use Rattle.git_date_laws.proofs.Alike.Cases.{any_case}
use Rattle.git_date_laws.specs.Headline.{HasOne, IsReadAs, IsHeadline, shows_all, shown_time}

the-one : {A : Type 0} (x : A) → HasOne (λ (y : A). y ≡ x)
the-one x = (x, refl, λ y h. h)

-- a shown clock is that of the time whose own clock is shown
own-is : (t : Time) (clock : LocalTime) → own_clock t ≡ Some clock → clock ≡ clock_of t
unfolding own_clock
own-is t clock e = grind (arith)

shown-is : (at : Moment) (local : Bool) (t : Time) (clock : LocalTime) → IsGitTime (shown_time at local t)
    → shown_clock at local t ≡ Some clock
    → clock ≡ clock_of (shown_time at local t)
shown-is at false t clock h e = own-is t clock e
shown-is at true t clock h e = zone-is at.zone t.seconds clock h e

module _ (moment : Zoned) (at : Moment) (t : Time) (text : List ℕ) where
  by-clock : (local : Bool) (show : LocalTime → List ℕ) (clock : Option LocalTime) → shown_clock at local t ≡ clock
      → IsGitTime (shown_time at local t)
      → IsReadBack (now_of moment) (shown_time at local t) show → option_map show clock ≡ Some text
      → IsReadAs moment text (shown_time at local t)
  by-clock local show (Some clock) is h back e tz =
      let same = shown-is at local t clock h is in
      let shows : show clock ≡ text = cc in
      ap (λ (shown : List ℕ). read_at (zoned_nanos moment) tz shown) (sym shows ∙ ap show same) ∙ back tz
  by-clock local show None is h back e tz = absurd cc

  read-shown : (kind : DateKind) (local : Bool) → shows_all local kind ≡ true → IsGitTime (shown_time at local t)
      → shown at (record { kind = kind; local = local }) t ≡ Some text → IsReadAs moment text (shown_time at local t)
  unfolding shown
  read-shown Iso8601 local all h e =
      by-clock local iso8601_text _ refl h (read-back (now_of moment) (shown_time at local t) h).iso8601
      (when-shown (lt_z t.seconds (pos 0)) _ text e).1
  read-shown Iso8601Strict local all h e =
      by-clock local iso8601_strict_text _ refl h (read-back (now_of moment) (shown_time at local t) h).iso8601_strict
      (when-shown (lt_z t.seconds (pos 0)) _ text e).1
  read-shown Rfc2822 local all h e =
      by-clock local git_rfc2822_text _ refl h (read-back (now_of moment) (shown_time at local t) h).git_rfc2822
      (when-shown (lt_z t.seconds (pos 0)) _ text e).1
  read-shown Default false all h e =
      by-clock false default_text _ refl h (read-back (now_of moment) t h).default
      (default-mapped t text (λ same. h.known same) (when-shown (lt_z t.seconds (pos 0)) _ text e).1)
  read-shown Default true all h e = absurd cc
  read-shown x local all h e = absurd cc

pub headline_holds : (moment : Zoned) (text : List ℕ) (t : Time) → IsHeadline moment text t
unfolding IsHeadline
headline_holds moment text t = record {
  exact = the-one (read_at (zoned_nanos moment) (zone_of moment) text);
  approximate = the-one (approximate moment text);
  expiry = the-one (expiry_by moment text (fixed_expiry (before_nul text)));
  follows = exact_answers moment text;
  exact_case = any_case moment text;
  approximate_case = same_in_any_case moment text;
  now = now-in-every-zone moment;
  read_back = λ kind local at shown all h e. read-shown moment at t shown kind local all h e;
  raw_alone = λ local at shown epoch h e. raw-alone moment at local t shown epoch h e;
  unix_alone = λ local at tz shown date epoch e read. unix-alone (now_of moment) at local tz t shown date epoch e read;
  raw_read_back = λ at shown result. raw_back (zone_of moment) (now_of moment) at t shown result;
}
