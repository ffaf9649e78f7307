-- The texts of the named formats are parsed back.
use Rattle.std.proofs.lemmas.Grind.{common_steps}
use Rattle.std.proofs.Common.{◌≡◌, ◌∙◌, ◌/◌, ◌%◌, ◌<◌, ◌≤◌, ℕ, ℤ, pos, ◌*ℤ◌, ◌+ℤ◌, true, false, List, [], ◌∷◌, ◌++◌, filter, length, refl}
use Rattle.std.proofs.Common.{ap, sym, subst, arith, Some, None, Option, is_some, inl, inr, unsigned_abs, zero, suc, get_or, drop}
use Rattle.std.proofs.lemmas.Bool.Decides.{nat_tests}
use Rattle.std.proofs.lemmas.Bool.{cases_order}
use Rattle.std.proofs.lemmas.Fmt.{decimal_digit}
use Rattle.std.specs.Fmt.{decimal}
use Rattle.gix_date.specs.Families.Patterns.{time_answer, IsMeaning, Accepts, date_answer}
use Rattle.std.specs.Prelude.{◌==◌}
use Rattle.jiff.specs.Types.{PlainZoned}
use Rattle.jiff_core.proofs.DateTimeLemmas.{civil_nanos-parts}
use Rattle.jiff_core.proofs.SignedLemmas.{signed_arith, one_part}
use Rattle.std.specs.Int.{int_rem_euclid}
use Rattle.jiff_core.specs.Calendar.{IsDate, weekday_number}
use Rattle.jiff_core.specs.Date.{IsYmd, weekday_of, epoch_day}
use Rattle.jiff_core.specs.Time.{IsTime, IsHms}
use Rattle.jiff_core.specs.Timestamp.{IsTimestampNanos, nanos_of_seconds}
use Rattle.gix_date.specs.Families.Answer.{FamilyAnswer, Absolute}
use Rattle.gix_date.specs.Text.Characters.{space}
use Rattle.gix_date.specs.Fields.Civil.{civil_instant, civil_seconds}
use Rattle.gix_date.specs.Families.Order.{first_answer_of, family_answers, answers_before_git, first_family_by}
use Rattle.gix_date.specs.Fields.FieldTexts.{IsField, IsYear, AreSpaces, IsDayName, IsMonthName, IsPlainDate, IsClock, four_digits}
use Rattle.gix_date.specs.Fields.FieldTexts.{date_text, clock_text}
use Rattle.gix_date.specs.Fields.Layout.{LocalTime, Piece, DayName, Rfc2822DayName, MonthName, Day, Year, PlainDate, Clock, Rfc2822Clock}
use Rattle.gix_date.specs.Fields.Layout.{Spaces, LetterT, Offset, ColonOffset, Rfc2822Offset, IsPiece, ArePieces, print_piece, print_pieces}
use Rattle.gix_date.specs.Text.Names.{day_name, month_name}
use Rattle.gix_date.specs.Fields.DateOffsets.{strict_offset_text, compact_offset, strict_offset, rfc2822_zone, rfc2822_offset}
use Rattle.gix_date.specs.Fields.DateOffsets.{is_jiff_offset, jiff_offset, last_colon_pair}
use Rattle.gix_date.specs.Printing.NamedTexts.{local_time, ShowsFourDigitFields}
use Rattle.gix_date.specs.Fields.Offsets.{compact_offset_text}
use Rattle.gix_date.specs.Text.Numbers.{two_digits}
use Rattle.gix_date.specs.Fields.DateFields.{without_leap_second, is_weekday, month_named}
use Rattle.gix_date.specs.Text.Front.{skip_char}
use Rattle.gix_date.specs.Families.Raw.{OffsetRule}
use Rattle.jiff_core.specs.declared.civil.date.Date.{Date}
use Rattle.gix_date.specs.declared.clock.ClockFields.{ClockFields}
use Rattle.gix_date.specs.declared.clock.DateFields.{DateFields}
use Rattle.gix_date.specs.declared.time.Time.{Time}
use Rattle.gix_date.proofs.Families.Apart.{before-git-apart}
use Rattle.gix_date.proofs.Header.HeaderLaws.{zone-read, back-to, written_fields, is-digit, sign-read, two-read}
use Rattle.gix_date.proofs.Fields.Instants.{local_nanos, an_instant, instant_range}
use Rattle.gix_date.proofs.Printing.ShownPieces.{decimal-two, InRange, in-range}

-- The clock and the date that a zone shows, at its offset, are the instant again.
pub local-ymd : (z : PlainZoned) → ShowsFourDigitFields z
    → IsYmd (pos (local_time z).date.year) (pos (local_time z).date.month) (pos (local_time z).date.day) z.datetime.date
local-ymd z o = (o.year_is ∙ ap (λ (v : ℤ). pos (unsigned_abs v)) (sym o.year_is), refl, refl)

pub date-of : (z : PlainZoned) → ShowsFourDigitFields z
    → IsDate (pos (local_time z).date.year) (pos (local_time z).date.month) (pos (local_time z).date.day)
date-of z o = grind (arith, local-ymd, signed_arith)

clock-of : (z : PlainZoned)
    → IsTime (pos (local_time z).clock.hour) (pos (local_time z).clock.minute) (pos (local_time z).clock.second) (pos 0)
clock-of z = grind (arith, nat_tests, common_steps, signed_arith)

whole-clock : (z : PlainZoned) (seconds : ℤ) → z.timestamp.nanosecond ≡ nanos_of_seconds seconds
    → z.datetime.time.subsec_nanosecond ≡ 0
whole-clock z seconds e =
    omega (arith, signed_arith, civil_nanos-parts z.datetime, z.shows, e, z.datetime.time.subsec_in)

pub local-instant : (z : PlainZoned) (seconds : ℤ) → ShowsFourDigitFields z → z.timestamp.nanosecond ≡ nanos_of_seconds seconds
    → civil_instant (local_time z).date (local_time z).clock z.offset.seconds ≡ Some seconds
local-instant z seconds o e =
    let t = local_time z in
    let ymd = local-ymd z o in
    let day = z.datetime.date in
    let time = z.datetime.time in
    let whole : pos time.subsec_nanosecond ≡ pos 0 = ap pos (whole-clock z seconds e) in
    let hms : IsHms (pos t.clock.hour) (pos t.clock.minute) (pos t.clock.second) (pos 0) time =
    (refl, refl, refl, whole) in
    let nanos = local_nanos z.datetime t.date t.clock z.offset.seconds ymd hms in
    let same : nanos_of_seconds seconds ≡ civil_seconds t.date t.clock z.offset.seconds *ℤ pos 1_000_000_000 =
    omega (arith, signed_arith, nanos, z.shows, e) in
    let is : seconds ≡ civil_seconds t.date t.clock z.offset.seconds = omega (arith, signed_arith, same) in
    let range : IsTimestampNanos (nanos_of_seconds seconds) = subst IsTimestampNanos e z.timestamp.in_range in
    let date : IsDate (pos t.date.year) (pos t.date.month) (pos t.date.day) = date-of z o in
    let clock : IsTime (pos t.clock.hour) (pos t.clock.minute) (pos t.clock.second) (pos 0) = clock-of z in
    sym (an_instant t.date t.clock z.offset.seconds seconds date clock ((instant_range (nanos_of_seconds seconds) _ same).0 range) is)

-- Fields as they are printed.
pub two-is : (n : ℕ) → n < 100 → IsField (two_digits n) n
two-is n h = (is-digit (n / 10) (omega arith), is-digit (n % 10) (omega arith), omega arith)

pub bare-is : (n : ℕ) → n < 100 → IsField (decimal n) n
bare-is n h = grind (arith, cases_order, decimal_digit, is-digit, decimal-two, two-is)

pub year-is-four : (n : ℕ) → n ≤ 9999 → IsYear (four_digits n) n
year-is-four n h = grind (arith, is-digit)

pub date-is : (d : DateFields) → d.year ≤ 9999 → d.month < 100 → d.day < 100 → IsPlainDate (date_text d) d
date-is d y m e = record {
  year = four_digits d.year;
  month = two_digits d.month;
  day = two_digits d.day;
  whole = refl;
  is_year =
      year-is-four d.year y;
  is_month = two-is d.month m;
  is_day = two-is d.day e;
}

pub no-leap : (n : ℕ) → n < 60 → without_leap_second n ≡ n
no-leap n h = let other : (n == 60) ≡ false = grind (arith, nat_tests) in rw other refl

pub clock-is : (c : ClockFields) → c.hour < 100 → c.minute < 100 → c.second < 60 → IsClock (clock_text c) c
clock-is c h m s = record {
  hour = two_digits c.hour;
  minute = two_digits c.minute;
  second = two_digits c.second;
  seconds =
      c.second;
  whole = refl;
  is_hour = two-is c.hour h;
  is_minute = two-is c.minute m;
  is_second =
      two-is c.second (omega arith);
  without_leap = sym (no-leap c.second s);
}

-- an offset as it is printed
zone-tests : (o : ℤ) → unsigned_abs o ≤ 86340 → is_jiff_offset (written_fields o) ≡ true
zone-tests o h = grind (arith, nat_tests)

zone-is-offset : (o : ℤ) → unsigned_abs o ≤ 86340 → unsigned_abs o % 60 ≡ 0 → jiff_offset (written_fields o) ≡ Some o
zone-is-offset o h m = rw (zone-tests o h) (ap (λ (z : ℤ). Some z) (back-to o m))

pub compact-is : (o : ℤ) → unsigned_abs o ≤ 86340 → unsigned_abs o % 60 ≡ 0 → compact_offset (compact_offset_text o) ≡ Some o
unfolding compact_offset
compact-is o h m = rw (zone-read o (omega arith)) (zone-is-offset o h m)

pub rfc2822-zone-is : (o : ℤ) → unsigned_abs o ≤ 86340 → unsigned_abs o % 60 ≡ 0 → rfc2822_zone (compact_offset_text o) ≡ Some o
unfolding rfc2822_zone rfc2822_offset
rfc2822-zone-is o h m = rw (zone-read o (omega arith), zone-is-offset o h m) refl

-- the answer
pub answer_is : (t : Time) (date : DateFields) (clock : ClockFields)
    → civil_instant date clock t.offset ≡ Some t.seconds → unsigned_abs t.offset ≤ 86340
    → date_answer date clock t.offset ≡ Some (Absolute t)
unfolding date_answer
answer_is t date clock e h = grind (arith, nat_tests)

-- Of families that are apart, one that answers is the first.
pub some-counts : (i : ℕ) (answers : List (Option FamilyAnswer)) (x : FamilyAnswer) → get_or answers i None ≡ Some x
    → 1 ≤ length (filter is_some answers)
some-counts zero (Some y ∷ rest) x e = omega arith
some-counts (suc i) (None ∷ rest) x e = some-counts i rest x e
some-counts (suc i) (Some y ∷ rest) x e = omega arith
some-counts i answers x e = absurd cc

alone-is-first : (i : ℕ) (answers more : List (Option FamilyAnswer)) (x : FamilyAnswer) → get_or answers i None ≡ Some x
    → length (filter is_some answers) ≤ 1 → first_answer_of (answers ++ more) ≡ Some x
alone-is-first zero (Some y ∷ rest) more x e h = e
alone-is-first (suc i) (None ∷ rest) more x e h = alone-is-first i rest more x e h
alone-is-first (suc i) (Some y ∷ rest) more x e h = absurd (omega (arith, h, some-counts i rest x e))
alone-is-first i answers more x e h = absurd cc

pub first-at : (rule : OffsetRule) (i : ℕ) (text : List ℕ) (x : FamilyAnswer)
    → get_or (answers_before_git rule text) i None ≡ Some x → first_family_by rule text ≡ Some x
unfolding first_family_by
first-at rule i text x e =
    alone-is-first i (answers_before_git rule text) (drop 8 (family_answers rule text)) x e (before-git-apart rule text)

one-space : AreSpaces (space ∷ [])
one-space = (refl, refl)

-- an offset with a colon
pub strict-is : (o : ℤ) → unsigned_abs o ≤ 86340 → unsigned_abs o % 60 ≡ 0 → strict_offset (strict_offset_text o) ≡ Some o
unfolding strict_offset last_colon_pair skip_char
strict-is o h m = grind (arith, sign-read, two-read, zone-is-offset)

-- names of days and months
pub weekday-small : (d : Date) → weekday_of d < 7
unfolding weekday_number
weekday-small d = omega (arith, signed_arith, one_part (int_rem_euclid (epoch_day d +ℤ pos 3) (pos 7)))

pub day_is_named : (n : ℕ) → n < 7 → IsDayName (day_name n)
unfolding is_weekday
day_is_named (suc (suc (suc (suc (suc (suc (suc n))))))) h = absurd (omega arith)
day_is_named n h = (refl, refl)

pub month-is : (n : ℕ) → 1 ≤ n → n ≤ 12 → IsMonthName (month_name n) n
unfolding month_named
month-is zero l h = absurd (omega arith)
month-is (suc (suc (suc (suc (suc (suc (suc (suc (suc (suc (suc (suc (suc n))))))))))))) l h = absurd (omega arith)
month-is n l h = (refl, refl)

-- A time that can be printed so that it is read back.
pub record IsPrintable (t : LocalTime) : Type 0 where
  pub range : InRange t
  pub weekday : t.weekday < 7
  pub first_month : 1 ≤ t.date.month
  pub last_month : t.date.month ≤ 12
  pub second : t.clock.second < 60
  pub within : unsigned_abs t.offset ≤ 86340

-- what is printed for a piece is such a piece, and so for any layout
piece-is : (day : ℕ → List ℕ) → ((n : ℕ) → n < 100 → IsField (day n) n) → (p : Piece) (t : LocalTime) → IsPrintable t
    → IsPiece p t (print_piece day p t)
piece-is day field DayName t h = day_is_named t.weekday h.weekday
piece-is day field Rfc2822DayName t h =
    inr (record
    { name = day_name t.weekday; gap = space ∷ []; whole = refl; is_name = day_is_named t.weekday h.weekday; are_spaces = one-space })
piece-is day field MonthName t h = month-is t.date.month h.first_month h.last_month
piece-is day field Day t h = field t.date.day h.range.day
piece-is day field Year t h = year-is-four t.date.year h.range.high
piece-is day field PlainDate t h = date-is t.date h.range.high h.range.month h.range.day
piece-is day field Clock t h = clock-is t.clock h.range.hour h.range.minute h.second
piece-is day field Rfc2822Clock t h = inl (clock-is t.clock h.range.hour h.range.minute h.second)
piece-is day field Spaces t h = one-space
piece-is day field LetterT t h = refl
piece-is day field Offset t h = compact-is t.offset h.within h.range.whole
piece-is day field ColonOffset t h = strict-is t.offset h.within h.range.whole
piece-is day field Rfc2822Offset t h = rfc2822-zone-is t.offset h.within h.range.whole

pub pieces-are : (day : ℕ → List ℕ) → ((n : ℕ) → n < 100 → IsField (day n) n) → (ps : List Piece) (t : LocalTime)
    → IsPrintable t → ArePieces ps t (print_pieces day ps t)
pieces-are day field [] t h = refl
pieces-are day field (p ∷ ps) t h =
    record {
      front = print_piece day p t;
      rest = print_pieces day ps t;
      whole = refl;
      is = piece-is day field p t h;
      more =
          pieces-are day field ps t h;
    }

pub record IsShownPlain (z : PlainZoned) (t : Time) : Type 0 where
  pub four_digits : ShowsFourDigitFields z
  pub instant : z.timestamp.nanosecond ≡ nanos_of_seconds t.seconds
  pub offset_is : z.offset.seconds ≡ t.offset
  pub within : unsigned_abs t.offset ≤ 86340

printable : (z : PlainZoned) (t : Time) → IsShownPlain z t → IsPrintable (local_time z)
printable z t h = grind (arith, in-range, weekday-small)

-- a layout that is read where a text is its pieces reads what is printed by it
pub back : (family : List ℕ → Option FamilyAnswer) (layout : List Piece) (day : ℕ → List ℕ)
    → Accepts family (IsMeaning layout time_answer) → ((n : ℕ) → n < 100 → IsField (day n) n)
    → (z : PlainZoned) (t : Time) → IsShownPlain z t
    → family (print_pieces day layout (local_time z)) ≡ Some (Absolute t)
back family layout day spells field z t h =
    let l = local_time z in
    let civil : civil_instant l.date l.clock t.offset ≡ Some t.seconds = subst (λ (o : ℤ). civil_instant l.date l.clock o ≡ Some t.seconds)
    h.offset_is (local-instant z t.seconds h.four_digits h.instant) in
    let comes =
    subst (λ (o : ℤ). date_answer l.date l.clock o ≡ Some (Absolute t)) (sym h.offset_is) (answer_is t l.date l.clock civil h.within) in
    (spells (print_pieces day layout l) (Absolute t)).1 (record {
      time =
          l;
      are = pieces-are day field layout l (printable z t h);
      comes = comes;
    })
