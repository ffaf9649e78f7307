-- What is printed: the day that is printed alone is parsed as its midnight in UTC, and the least time has the longest header text.
use Rattle.std.proofs.Common.{◌≡◌, ◌∙◌, ℤ, pos, neg_ℤ, true, cond, [], length, refl, sym, ap, arith, Some, None, IfSome}
use Rattle.std.specs.Fmt.{digits}
use Rattle.jiff.specs.Types.{PlainZoned}
use Rattle.jiff.specs.Words.{epoch_day}
use Rattle.jiff_core.proofs.SignedLemmas.{signed_arith}
use Rattle.jiff_core.specs.Calendar.{days_from_civil}
use Rattle.gix_date.specs.Families.Answer.{FamilyAnswer, Absolute, NoInstant}
use Rattle.gix_date.specs.Families.Epoch.{utc_time}
use Rattle.gix_date.specs.Families.Order.{first_family_by}
use Rattle.gix_date.specs.Families.Patterns.{real_day_answer, day_answer, midnight}
use Rattle.gix_date.specs.Families.Raw.{OffsetRule}
use Rattle.gix_date.specs.Fields.Civil.{is_date, civil_seconds, civil_instant}
use Rattle.gix_date.specs.Fields.FieldTexts.{date_text}
use Rattle.gix_date.specs.Fields.Layout.{LocalTime, LocalDate}
use Rattle.gix_date.specs.Printing.LocalClocks.{clock_of, local_day, HasFourDigitFields}
use Rattle.gix_date.specs.Printing.NamedTexts.{local_time, short_text, ShowsFourDigitFields}
use Rattle.gix_date.specs.Printing.ReadingBack.{midnight_of, day_read_back}
use Rattle.gix_date.specs.Fields.Zoned.{IsConvertible, is_instant}
use Rattle.gix_date.specs.Header.Text.{header_text, max_text_len}
use Rattle.gix_date.specs.declared.time.Time.{Time}
use Rattle.gix_date.proofs.Fields.Instants.{date_from}
use Rattle.gix_date.proofs.Fields.Layouts.{dates_spelled}
use Rattle.gix_date.proofs.Printing.LocalClocks.{Shows, clock_is_shown, four-digits-from, shown-by, local-is}
use Rattle.gix_date.proofs.Printing.ReadBack.{date-is, date-of, local-ymd, first-at}
use Rattle.gix_date.proofs.Printing.ShownPieces.{in-range}

-- the midnight of the day that is shown
its-midnight : (z : PlainZoned) (t : Time) → Shows z t → ShowsFourDigitFields z
    → civil_seconds (local_time z).date midnight (pos 0) ≡ midnight_of t
its-midnight z t shows o =
    let date = z.datetime.date in
    let year : date.year ≡ pos (local_time z).date.year = (local-ymd z o).0 in
    let day : days_from_civil (pos (local_time z).date.year) date.month date.day ≡ epoch_day date =
    ap (λ (y : ℤ). days_from_civil y date.month date.day) (sym year) in
    let local = local-is z t shows in
    let same : epoch_day date ≡ local_day t = omega (arith, signed_arith, local) in
    omega (arith, signed_arith, day, same)

of-midnight : (d : LocalDate) (n : ℤ) → is_date d ≡ true → civil_seconds d midnight (pos 0) ≡ n
    → day_answer d ≡ cond (is_instant n) (Absolute (utc_time n)) NoInstant
unfolding civil_instant
of-midnight d n real e = grind (arith)

pub short_back : (rule : OffsetRule) (t : Time) → IsConvertible t → HasFourDigitFields t
    → first_family_by rule (short_text (clock_of t)) ≡ Some (day_read_back t)
short_back rule t converts four_digits =
    let found = shown-by t converts in
    let z = found.0 in
    let shows = found.1 in
    let o = four-digits-from z t shows four_digits in
    let l = local_time z in
    let text = short_text l in
    let range = in-range z o in
    let real : is_date l.date ≡ true = date_from l.date (date-of z o) in
    let answer = day_read_back t in
    let comes : real_day_answer l ≡ Some answer =
    ap (λ b. cond b (Some (day_answer l.date)) None) real
    ∙ ap (λ (a : FamilyAnswer). Some a) (of-midnight l.date (midnight_of t) real (its-midnight z t shows o)) in
    let held = (dates_spelled.short text answer).1 (record {
      time = l;
      are = record { front = date_text l.date; rest = []; whole = refl; is = date-is l.date range.high range.month range.day; more = refl };
      comes = comes;
    }) in
    ap (λ (k : LocalTime). first_family_by rule (short_text k)) (sym (clock_is_shown z t shows)) ∙ first-at rule 1 text answer held

-- the header text of the least time
pub record LeastText : Type 0 where
  pub is_longest : IfSome (header_text (record { seconds = neg_ℤ (pos 9_223_372_036_854_775_808); offset = neg_ℤ (pos 359_999) }))
      (λ text. length text ≡ max_text_len)

pub least_text : LeastText
unfolding digits header_text
least_text = record { is_longest = refl }
