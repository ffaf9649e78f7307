-- Formats that show what modes show.
use Rattle.std.proofs.Common.{◌≡◌, ◌∙◌, ◌<◌, ◌≤◌, ℕ, Bool, true, false, cond, int_le, decimal, List, refl, ap, sym, subst, arith, ℤ, pos}
use Rattle.std.proofs.Common.{neg_ℤ, ◌≤ℤ◌, unsigned_abs, Option, Some, None, option_map, codes}
use Rattle.std.proofs.lemmas.Bool.{and_parts}
use Rattle.std.proofs.lemmas.Int.{ints, by_lt_z}
use Rattle.std.specs.Int.{int_rem_euclid}
use Rattle.std.specs.Int.Signed.{lt_z}
use Rattle.jiff.specs.Types.{Date, TimeZone}
use Rattle.jiff.specs.Words.{nanos_of_seconds}
use Rattle.jiff_core.proofs.CalendarLemmas.{days_in_month_bounds}
use Rattle.jiff_core.proofs.DateTimeLemmas.{civil_nanos-parts, time_nanos_bound}
use Rattle.jiff_core.proofs.SignedLemmas.{signed_arith, one_part}
use Rattle.jiff_core.specs.Calendar.{IsBetween}
use Rattle.jiff_core.specs.Date.{epoch_day}
use Rattle.gix_date.proofs.Fields.DateTimes.{datetime_exists}
use Rattle.gix_date.proofs.Printing.LocalClocks.{date-of-day}
use Rattle.gix_date.proofs.Printing.ShownPieces.{number, number-two, number-four}
use Rattle.gix_date.specs.Fields.FieldTexts.{four_digits}
use Rattle.gix_date.specs.Fields.Layout.{LocalTime, LocalDate, LocalClock}
use Rattle.gix_date.specs.Printing.LocalClocks.{clock_of, date_of_day, local_day, local_seconds, last_of_year_9999}
use Rattle.gix_date.specs.Printing.NamedTexts.{iso8601_pattern, iso8601_text, short_text}
use Rattle.gix_date.specs.Text.Front.{◌>>=◌}
use Rattle.gix_date.specs.Text.Numbers.{two_digits}
use Rattle.gix_date.specs.declared.time.Time.{Time}
use Rattle.git_date.proofs.Exact.ZoneOffsets.{offset-near}
use Rattle.git_date.proofs.Printing.ShownClocks.{dated, zone_dated}
use Rattle.git_date.proofs.Rules.ClocksBack.{before-1900}
use Rattle.git_date.specs.Show.Clocks.{own_clock, has_own_clock, zone_clock, has_zone_clock, time_at, with_known_offset}
use Rattle.git_date.specs.Show.Dates.{shown}
use Rattle.git_date.specs.Tokens.Numbers.{number as digits_number}
use Rattle.git_date.specs.Formats.Flags.{filled}
use Rattle.git_date.specs.Formats.Format.{asks_seconds, shown_by_format, shown_pieces, pieces_text}
use Rattle.git_date.specs.Formats.Pieces.{Piece, next_piece, pieces, pieces_in, pieces_or_none, made_at}
use Rattle.git_date.specs.Formats.Shown.{Shown, own_shown, own_shown_by, zone_shown, zone_shown_by}
use Rattle.git_date_laws.specs.Formats.{ShowsModes}
use Rattle.git_date_laws.proofs.Printing.FormatLaws.{and-false}

-- numbers that are filled with zeros
two_filled : (n : ℕ) → n < 100 → filled true 2 (decimal n) ≡ two_digits n
two_filled n h =
    let e : int_le (pos 0) (pos n) ≡ true = grind (arith, ints) in
    let is : number 2 (pos n) ≡ filled true 2 (decimal n) = rw e refl in
    sym is ∙ number-two n h

four_filled : (n : ℕ) → 1000 ≤ n → n ≤ 9999 → filled true 4 (decimal n) ≡ four_digits n
four_filled n low high =
    let e : int_le (pos 0) (pos n) ≡ true = grind (arith, ints) in
    let is : number 4 (pos n) ≡ filled true 4 (decimal n) = rw e refl in
    sym is ∙ number-four n low high

-- each field of a clock has its digits
record HasDigits (date : LocalDate) (clock : LocalClock) : Type 0 where
  low : 1000 ≤ date.year
  high : date.year ≤ 9999
  month : date.month < 100
  day : date.day < 100
  hour : clock.hour < 100
  minute : clock.minute < 100
  second : clock.second < 100

abbrev AreDigits : ℤ × ℕ × ℕ → Type 0
AreDigits date = (1000 ≤ unsigned_abs date.0) × (unsigned_abs date.0 ≤ 9999) × (date.1 < 100) × (date.2 < 100)

date-digits : (date : Date) → neg_ℤ (pos 25_567) ≤ℤ epoch_day date → AreDigits (date.year, date.month, date.day)
date-digits date h =
    let low : pos 1900 ≤ℤ date.year =
    by_lt_z date.year (pos 1900) (λ lt. absurd (omega (arith, signed_arith, before-1900 date lt, h))) (λ ge. ge) in
    let some = one_part date.year in
    let year_in = date.year_in in
    let long = days_in_month_bounds date.year date.month in (
      omega (arith, signed_arith, low, some),
      omega (arith, signed_arith, low, some, year_in),
      omega (arith, date.month_in),
      omega (arith, date.day_in, long),
    )

shown-date : (date : Date) (day : ℤ) → epoch_day date ≡ day → (date.year, date.month, date.day) ≡ date_of_day day
shown-date date day e = sym (date-of-day date) ∙ ap (λ (d : ℤ). date_of_day d) e

digits-of : (t : Time) → IsBetween (neg_ℤ (pos 93_599)) last_of_year_9999 (local_seconds t) → HasDigits (clock_of t).date (clock_of t).clock
unfolding clock_of
digits-of t h =
    let found = datetime_exists (nanos_of_seconds (local_seconds t)) (omega (arith, signed_arith, h), omega (arith, signed_arith, h)) in
    let date = found.0.date in
    let day : epoch_day date ≡ local_day t =
    omega (arith, signed_arith, found.1, civil_nanos-parts found.0, time_nanos_bound found.0.time) in
    let digits = subst AreDigits (shown-date date (local_day t) day) (date-digits date (omega (arith, signed_arith, h, day))) in
    let rem = one_part (int_rem_euclid (local_seconds t) (pos 86_400)) in
    record {
      low = digits.0;
      high = digits.1;
      month = digits.2;
      day = digits.3;
      hour = omega (arith, signed_arith, rem);
      minute = omega arith;
      second = omega arith;
    }

-- a clock that is shown has its digits, and is not of seconds before 1970
abbrev IsShownClock : ℤ → LocalTime → Type 0
IsShownClock seconds clock = (lt_z seconds (pos 0) ≡ false) × HasDigits clock.date clock.clock

not-before : (s : ℤ) → pos 0 ≤ℤ s → lt_z s (pos 0) ≡ false
not-before s h = grind (arith, ints)

own-dated : (t : Time) → has_own_clock t ≡ true → IsShownClock t.seconds (clock_of t)
own-dated t h = grind (arith, and_parts, dated, not-before, digits-of, signed_arith)

own-shown-clock : (t : Time) (clock : LocalTime) → own_clock t ≡ Some clock → IsShownClock t.seconds clock
unfolding own_clock
own-shown-clock t clock e = by (has_own_clock t) refl e
  where
    by : (b : Bool) → has_own_clock t ≡ b → cond b (Some (clock_of t)) None ≡ Some clock → IsShownClock t.seconds clock
    by true h e = let is : clock_of t ≡ clock = cc in subst (IsShownClock t.seconds) is (own-dated t h)
    by false h e = absurd cc

zone-dated-clock : (zone : TimeZone) (s : ℤ) → has_zone_clock s ≡ true → IsShownClock s (with_known_offset (clock_of (time_at zone s)))
zone-dated-clock zone s h =
    let within = zone_dated s h in
    let near = offset-near zone (nanos_of_seconds s) in (
      not-before s within.0,
      digits-of (time_at zone s) (omega (arith, signed_arith, within, near), omega (arith, signed_arith, within, near)),
    )

zone-shown-clock : (zone : TimeZone) (s : ℤ) (clock : LocalTime) → zone_clock zone s ≡ Some clock → IsShownClock s clock
unfolding zone_clock
zone-shown-clock zone s clock e = grind (arith, zone-dated-clock)

-- what pieces without seconds show of each clock, which the mode's text is
alike : (past : Bool) (found : Option LocalTime) (show : LocalTime → Shown) (ps : List Piece) (text : LocalTime → List ℕ)
    → asks_seconds ps ≡ false
    → ((clock : LocalTime) → found ≡ Some clock → (past ≡ false) × (pieces_text (show clock) ps ≡ text clock))
    → (option_map show found >>= shown_pieces ps) ≡ cond past None (option_map text found)
alike true None show ps text none is = refl
alike false None show ps text none is = refl
alike past (Some clock) show ps text none is = grind (arith, and-false)

-- the texts of both patterns
iso8601-texts : (seen : Shown) → HasDigits seen.clock.date seen.clock.clock
    → pieces_text seen (pieces_or_none iso8601_pattern) ≡ iso8601_text seen.clock
unfolding pieces pieces_in next_piece made_at digits_number
iso8601-texts seen has = grind (arith, four_filled, two_filled)

short-texts : (seen : Shown) → HasDigits seen.clock.date seen.clock.clock
    → pieces_text seen (pieces_or_none (codes "%F")) ≡ short_text seen.clock
unfolding pieces pieces_in next_piece made_at digits_number
short-texts seen has = grind (arith, four_filled, two_filled)

module _ (pattern : List ℕ) (text : LocalTime → List ℕ) (none : asks_seconds (pieces_or_none pattern) ≡ false)
    (is : (seen : Shown) → HasDigits seen.clock.date seen.clock.clock → pieces_text seen (pieces_or_none pattern) ≡ text seen.clock)
    (zone : TimeZone) (t : Time) where
  by-clock : (local : Bool) → shown_by_format zone local pattern t
      ≡ cond (lt_z t.seconds (pos 0)) None (option_map text (cond local (zone_clock zone t.seconds) (own_clock t)))
  unfolding shown_by_format own_shown zone_shown
  by-clock true =
      alike (lt_z t.seconds (pos 0)) (zone_clock zone t.seconds) (zone_shown_by zone t.seconds) (pieces_or_none pattern) text none
      (λ clock e. let so = zone-shown-clock zone t.seconds clock e in (so.0, is (zone_shown_by zone t.seconds clock) so.1))
  by-clock false =
      alike (lt_z t.seconds (pos 0)) (own_clock t) (own_shown_by t) (pieces_or_none pattern) text none
      (λ clock e. let so = own-shown-clock t clock e in (so.0, is (own_shown_by t clock) so.1))

iso8601-none : asks_seconds (pieces_or_none iso8601_pattern) ≡ false
unfolding pieces pieces_in next_piece made_at digits_number
iso8601-none = refl

short-none : asks_seconds (pieces_or_none (codes "%F")) ≡ false
unfolding pieces pieces_in next_piece made_at digits_number
short-none = refl

pub shows_modes : (zone : TimeZone) (t : Time) → ShowsModes zone t
unfolding shown ShowsModes
shows_modes zone t seconds = (
  λ local. by-clock iso8601_pattern iso8601_text iso8601-none iso8601-texts zone t local,
  λ local. by-clock (codes "%F") short_text short-none short-texts zone t local,
)
