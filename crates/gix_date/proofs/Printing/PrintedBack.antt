-- What is printed of a time is parsed back, from what is printed of a zoned value.
use Rattle.std.proofs.Common.{arith}
use Rattle.std.proofs.Common.{rules}
use Rattle.std.proofs.Common.{◌≡◌, ◌∙◌, ◌<◌, ℕ, List, Option, None, Some, String, Global, Result, Ok, Err, inl, inr, ap, sym, get_or}
use Rattle.std.specs.Fmt.{decimal}
use Rattle.gix_date.specs.Families.Answer.{FamilyAnswer, Absolute}
use Rattle.gix_date.specs.Families.Order.{first_family_by, answers_before_git}
use Rattle.gix_date.specs.Fields.FieldTexts.{IsField}
use Rattle.gix_date.specs.Fields.Layout.{LocalTime, Piece, print_pieces}
use Rattle.gix_date.specs.Printing.LocalClocks.{clock_of}
use Rattle.gix_date.specs.Printing.NamedTexts.{ShowsText, local_time, rfc2822_pattern, git_rfc2822_pattern, iso8601_pattern}
use Rattle.gix_date.specs.Printing.NamedTexts.{iso8601_strict_pattern, gitoxide_pattern, default_pattern, rfc2822_text, git_rfc2822_text}
use Rattle.gix_date.specs.Printing.NamedTexts.{iso8601_text, iso8601_strict_text, gitoxide_text, default_text}
use Rattle.gix_date.specs.Text.Numbers.{two_digits}
use Rattle.gix_date.specs.Families.Patterns.{rfc2822_layout, iso8601_layout, iso8601_strict_layout, gitoxide_layout, default_layout}
use Rattle.gix_date.specs.Families.Patterns.{time_answer, rfc2822_answer, iso8601_answer, iso8601_strict_answer, gitoxide_answer}
use Rattle.gix_date.specs.Families.Patterns.{default_answer, IsMeaning, Accepts}
use Rattle.gix_date.specs.Printing.Formats.{PrintsPattern}
use Rattle.gix_date.specs.Printing.PrintedTimes.{PrintsText}
use Rattle.gix_date.specs.Families.Raw.{OffsetRule, is_minute_offset, is_quarter_offset}
use Rattle.gix_date.specs.Printing.ReadingBack.{RoundTrips, RoundTripsBy, RoundTripsByEach, RoundTripsAs, RoundTripsByPattern}
use Rattle.gix_date.specs.declared.error.Error.{Error}
use Rattle.gix_date.specs.declared.time.Time.{Time}
use Rattle.gix_date.proofs.Fields.Layouts.{dates_spelled}
use Rattle.gix_date.proofs.Printing.LocalClocks.{clock_is_shown, four-digits-from, shown-by}
use Rattle.gix_date.proofs.Printing.NamedTexts.{formats_printed}
use Rattle.gix_date.proofs.Printing.PrintedTimes.{printed_as}
use Rattle.gix_date.proofs.Printing.ReadBack.{IsShownPlain, two-is, bare-is, back, first-at}

-- the family stands at this place of the list, by whatever rule for raw offsets
abbrev StandsAt : ℕ → (List ℕ → Option FamilyAnswer) → Type 0
StandsAt place family =
    (rule : OffsetRule) (text : List ℕ) (x : FamilyAnswer) → family text ≡ Some x
    → get_or (answers_before_git rule text) place None ≡ Some x

-- what a layout prints of a time, with the day of the month so, is read by its family, which is the first that holds it
parsed-back : (rule : OffsetRule) (place : ℕ) (family : List ℕ → Option FamilyAnswer) (layout : List Piece) (day : ℕ → List ℕ)
    → StandsAt place family
    → Accepts family (IsMeaning layout time_answer) → ((n : ℕ) → n < 100 → IsField (day n) n)
    → (t : Time) → RoundTrips t → first_family_by rule (print_pieces day layout (clock_of t)) ≡ Some (Absolute t)
parsed-back rule place family layout day stands spells field t h =
    let found = shown-by t h.converts in
    let z = found.0 in
    let shows = found.1 in
    let plain : IsShownPlain z t = record {
      four_digits = four-digits-from z t shows h.four_digits;
      instant = shows.instant;
      offset_is = shows.offset_is;
      within = h.within;
    } in
    let text = print_pieces day layout (local_time z) in
    ap (λ (l : LocalTime). first_family_by rule (print_pieces day layout l)) (sym (clock_is_shown z t shows))
    ∙ first-at rule place text (Absolute t) (stands rule text (Absolute t) (back family layout day spells field z t plain))

read-back : (rule : OffsetRule) (pattern : List ℕ) (place : ℕ) (family : List ℕ → Option FamilyAnswer) (layout : List Piece)
    (day : ℕ → List ℕ)
    → ShowsText pattern (λ l. print_pieces day layout l) → StandsAt place family → Accepts family (IsMeaning layout time_answer)
    → ((n : ℕ) → n < 100 → IsField (day n) n)
    → (t : Time) → RoundTrips t → RoundTripsBy rule pattern (λ l. print_pieces day layout l) t
read-back rule pattern place family layout day shows stands spells field t h = search (rules, printed_as, parsed-back)

-- by each of the six formats
pub round_trips_by_each : (rule : OffsetRule) (t : Time) → RoundTrips t → RoundTripsByEach rule t
round_trips_by_each rule t h = record {
  iso8601 = read-back rule iso8601_pattern 3 iso8601_answer iso8601_layout two_digits formats_printed.iso8601.only (λ rule text x e. e)
      dates_spelled.iso8601 two-is t h;
  iso8601_strict = read-back rule iso8601_strict_pattern 4 iso8601_strict_answer iso8601_strict_layout two_digits
      formats_printed.iso8601_strict.only (λ rule text x e. e) dates_spelled.iso8601_strict two-is t h;
  rfc2822 = read-back rule rfc2822_pattern 2 rfc2822_answer rfc2822_layout two_digits formats_printed.rfc2822.only (λ rule text x e. e)
      dates_spelled.rfc2822 two-is t h;
  git_rfc2822 = read-back rule git_rfc2822_pattern 2 rfc2822_answer rfc2822_layout decimal formats_printed.git_rfc2822.only
      (λ rule text x e. e) dates_spelled.rfc2822 bare-is t h;
  gitoxide = read-back rule gitoxide_pattern 5 gitoxide_answer gitoxide_layout two_digits formats_printed.gitoxide.only (λ rule text x e. e)
      dates_spelled.gitoxide two-is t h;
  default = read-back rule default_pattern 6 default_answer default_layout decimal formats_printed.default.only (λ rule text x e. e)
      dates_spelled.default bare-is t h;
}

text-back : (rule : OffsetRule) (pattern : List ℕ) (text : LocalTime → List ℕ) (t : Time) (r : Result (String Global) Error) → RoundTrips t
    → RoundTripsBy rule pattern text t → PrintsText text t r → RoundTripsAs rule t r
text-back rule pattern text t (Ok s) plain back h = ap (first_family_by rule) h ∙ back.parsed
text-back rule pattern text t (Err e) plain back (inl memory) = memory
text-back rule pattern text t (Err e) plain back (inr conversion) = absurd (conversion.1 plain.converts)

by-pattern : (rule : OffsetRule) (pattern own : List ℕ) (text : LocalTime → List ℕ) (t : Time) (r : Result (String Global) Error)
    → RoundTrips t
    → RoundTripsBy rule pattern text t → own ≡ pattern → PrintsPattern t own r → RoundTripsAs rule t r
by-pattern rule pattern own text t r plain back e h = grind (arith, text-back, back)

pub quarters_by_each : (t : Time) → RoundTrips t → RoundTripsByEach is_quarter_offset t
quarters_by_each = round_trips_by_each is_quarter_offset

pub minutes_by_each : (t : Time) → RoundTrips t → RoundTripsByEach is_minute_offset t
minutes_by_each = round_trips_by_each is_minute_offset

-- by whichever of their patterns
pub round_trips_by_pattern : (rule : OffsetRule) (t : Time) → RoundTrips t → RoundTripsByPattern rule t
round_trips_by_pattern rule t plain own r clock h =
    let all = round_trips_by_each rule t plain in
    elim clock [
      | inl e ↦ by-pattern rule iso8601_pattern own iso8601_text t r plain all.iso8601 e h
      | inr (inl e) ↦ by-pattern rule iso8601_strict_pattern own iso8601_strict_text t r plain all.iso8601_strict e h
      | inr (inr (inl e)) ↦ by-pattern rule rfc2822_pattern own rfc2822_text t r plain all.rfc2822 e h
      | inr (inr (inr (inl e))) ↦ by-pattern rule git_rfc2822_pattern own git_rfc2822_text t r plain all.git_rfc2822 e h
      | inr (inr (inr (inr (inl e)))) ↦ by-pattern rule gitoxide_pattern own gitoxide_text t r plain all.gitoxide e h
      | inr (inr (inr (inr (inr e)))) ↦ by-pattern rule default_pattern own default_text t r plain all.default e h
    ]
