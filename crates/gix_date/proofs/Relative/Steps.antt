-- Steps that take a moment back, from what jiff's calls say.
use Rattle.std.proofs.Common.{rules}
use Rattle.std.proofs.Common.{◌≡◌, ◌∙◌, ◌↔◌, ◌+◌, ℤ, pos, ◌+ℤ◌, ◌-ℤ◌, unsigned_abs, FitsSigned, w64, refl, sym, ap, subst, arith, Option}
use Rattle.std.proofs.Common.{None, Some}
use Rattle.std.specs.Int.{int_div_euclid, int_rem_euclid}
use Rattle.std.specs.Prelude.{IsSome, IfSome}
use Rattle.jiff.specs.Words.{picked_instant, civil_nanos, nanos_of_seconds, epoch_day, month_number, zoned_nanos, IsTimestampNanos}
use Rattle.jiff.specs.Words.{IsEpochDay, IsYear, IsBetween, IsDate, IsYmd}
use Rattle.jiff.specs.Types.{TimeZone, DateTime, Date, Time as TimeOfDay, PlainZoned}
use Rattle.jiff.specs.declared.zoned.Zoned.{Zoned}
use Rattle.jiff_core.proofs.CalendarLemmas.{days_in_month_bounds}
use Rattle.jiff_core.proofs.DateLemmas.{days_from_civil-day, epoch_day_range}
use Rattle.jiff_core.proofs.DateTimeLemmas.{civil_nanos-parts, time_nanos_bound}
use Rattle.jiff_core.proofs.SignedLemmas.{signed_arith, one_part}
use Rattle.jiff_core.specs.Calendar.{days_from_civil}
use Rattle.jiff_zoned.proofs.SameLemmas.{same_datetime}
use Rattle.gix_date.specs.Relative.Steps.{IsLocal, IsPicked, Resolves, MonthsStep, IsMonthsBefore, IsMonthsBeforeIfAny, civil_of}
use Rattle.gix_date.specs.Relative.Steps.{month_before, month_start, rolled_day, IsAt}

-- What a zone chooses.

pub civil-of : (dt : DateTime) (date : Date) (time : TimeOfDay) → dt.date ≡ date → dt.time ≡ time
    → civil_nanos dt ≡ civil_of (epoch_day date) time
civil-of dt date time d t = civil_nanos-parts dt ∙ rw (d, t) refl

pub picked-is : (tz : TimeZone) (date : Date) (time : TimeOfDay) (dt : DateTime) (j : ℤ) → dt.date ≡ date → dt.time ≡ time
    → j ≡ picked_instant tz dt → IsTimestampNanos j → IsPicked tz (civil_of (epoch_day date) time) j
picked-is tz date time dt j d t is range = record { shown = dt; civil_is = civil-of dt date time d t; is_choice = is; in_range = range }

-- two datetimes with the same nanoseconds are one, so the choice is one
picked-of : (tz : TimeZone) (dt : DateTime) (j : ℤ) → IsPicked tz (civil_nanos dt) j → j ≡ picked_instant tz dt
picked-of tz dt j h = h.is_choice ∙ ap (λ (x : DateTime). picked_instant tz x) (same_datetime h.shown dt h.civil_is)

pub picked-none : (tz : TimeZone) (date : Date) (time : TimeOfDay) (dt : DateTime) (j : ℤ) → dt.date ≡ date → dt.time ≡ time
    → ¬ (IsTimestampNanos (picked_instant tz dt)) → IsPicked tz (civil_of (epoch_day date) time) j → ⊥
picked-none tz date time dt j d t beyond h =
    let here : IsPicked tz (civil_nanos dt) j = rw (civil-of dt date time d t) h in
    beyond (subst IsTimestampNanos (picked-of tz dt j here) h.in_range)

-- the day of what is picked is that of a date
picked-day : (tz : TimeZone) (day : ℤ) (time : TimeOfDay) (j : ℤ) → (h : IsPicked tz (civil_of day time) j) → epoch_day h.shown.date ≡ day
picked-day tz day time j h = grind (arith, signed_arith, civil_nanos-parts, time_nanos_bound)

-- Months and days.

pub month_pos : (z : ℤ) → int_rem_euclid z (pos 12) +ℤ pos 1 ≡ pos (unsigned_abs (int_rem_euclid z (pos 12)) + 1)
month_pos z = omega (arith, signed_arith)

pub first-exists : (y m : ℤ) → IsYear y → IsBetween (pos 1) (pos 12) m → IsDate y m (pos 1)
first-exists y m year month = grind (arith, days_in_month_bounds, signed_arith)

-- the first of a month
pub first-is : (number : ℤ) (first : Date) → IsYmd (int_div_euclid number (pos 12)) (int_rem_euclid number (pos 12) +ℤ pos 1) (pos 1) first
    → epoch_day first ≡ month_start number
first-is number first ymd = grind (arith, month_pos)

pub year_of : (d : Date) → int_div_euclid (month_number d) (pos 12) ≡ d.year
year_of d = search (rules, signed_arith)

month_of : (d : Date) → unsigned_abs (int_rem_euclid (month_number d) (pos 12)) + 1 ≡ d.month
month_of d = grind (arith, signed_arith, one_part)

-- a date is its day of its month
pub day_of : (d : Date) → rolled_day (month_number d) d ≡ epoch_day d
day_of d =
    let start : month_start (month_number d) ≡ days_from_civil d.year d.month 1 = rw (year_of d, month_of d) refl in
    omega (arith, signed_arith, start, days_from_civil-day d.year d.month 1 d.day (omega arith) d.day_in.0)

-- the day of a month, counted from the first of that month
pub before-from : (date : Date) (months : ℤ) (first : Date) (before : Option Date) → FitsSigned w64 (month_before date months)
    → IsYear (int_div_euclid (month_before date months) (pos 12)) → epoch_day first ≡ month_start (month_before date months)
    → (IsSome before ↔ IsEpochDay (epoch_day first +ℤ (pos date.day -ℤ pos 1)))
    → IfSome before (λ d. epoch_day d ≡ epoch_day first +ℤ (pos date.day -ℤ pos 1))
    → IsMonthsBeforeIfAny date months before
before-from date months first None fits year start some day = grind (arith, epoch_day_range)
before-from date months first (Some before) fits year start some day = grind (arith)

-- Steps.

-- the clock that a zoned value shows
pub shows-local : (z : PlainZoned) → IsLocal z.time_zone z.timestamp.nanosecond z.datetime
shows-local z = z.shows ∙ ap (λ (s : ℤ). z.timestamp.nanosecond +ℤ nanos_of_seconds s) z.offset_is

pub resolves-is : (tz : TimeZone) (i j : ℤ) (shown : DateTime) → IsLocal tz i shown → j ≡ picked_instant tz shown → IsTimestampNanos j
    → Resolves tz i j
resolves-is tz i j shown l is range = search (rules)

pub resolves-none : (tz : TimeZone) (i j : ℤ) (shown : DateTime) → IsLocal tz i shown → ¬ (IsTimestampNanos (picked_instant tz shown))
    → Resolves tz i j → ⊥
resolves-none tz i j shown l beyond h =
    let same : h.local ≡ shown = same_datetime h.local shown (h.local_is ∙ sym l) in
    let picked : IsPicked tz (civil_nanos shown) j = subst (λ (d : DateTime). IsPicked tz (civil_nanos d) j) same h.picked in
    beyond (subst IsTimestampNanos (picked-of tz shown j picked) picked.in_range)

abbrev pub MonthsFrom : TimeZone → ℤ → ℤ → DateTime → Type 0
MonthsFrom tz n j local =
    FitsSigned w64 (month_number local.date -ℤ n) × IsYear (int_div_euclid (month_number local.date -ℤ n) (pos 12))
    × IsPicked tz (civil_of (rolled_day (month_number local.date -ℤ n) local.date) local.time) j

-- a zone shows one datetime at an instant
pub months-from : (tz : TimeZone) (n i j : ℤ) (shown : DateTime) → IsLocal tz i shown → MonthsStep tz n i j → MonthsFrom tz n j shown
months-from tz n i j shown l g =
    let same : g.local ≡ shown = same_datetime g.local shown (g.local_is ∙ sym l) in
    subst (MonthsFrom tz n j) same (g.fits, g.year_in, g.picked)

pub months-step : (tz : TimeZone) (n i j : ℤ) (shown : DateTime) (date : Date) → IsLocal tz i shown → IsMonthsBefore shown.date n date
    → IsPicked tz (civil_of (epoch_day date) shown.time) j → MonthsStep tz n i j
months-step tz n i j shown date l h p = record {
  local = shown;
  local_is = l;
  fits = h.fits;
  year_in = h.year_in;
  picked = subst (λ (d : ℤ). IsPicked tz (civil_of d shown.time) j) h.day_is p;
}

pub months-back : (tz : TimeZone) (n i j : ℤ) (shown : DateTime) (date : Date) → IsLocal tz i shown → IsMonthsBefore shown.date n date
    → MonthsStep tz n i j → IsPicked tz (civil_of (epoch_day date) shown.time) j
months-back tz n i j shown date l h g =
    subst (λ (d : ℤ). IsPicked tz (civil_of d shown.time) j) (sym h.day_is) (months-from tz n i j shown l g).2

pub months-none : (tz : TimeZone) (n i j : ℤ) (shown : DateTime) → IsLocal tz i shown → IsMonthsBeforeIfAny shown.date n None
    → MonthsStep tz n i j → ⊥
months-none tz n i j shown l none g =
    let from = months-from tz n i j shown l g in
    none from.2.shown.date (record { fits = from.0; year_in = from.1; day_is = picked-day tz _ shown.time j from.2 })

-- the same instants, said otherwise
pub at_same : (moment : Option Zoned) (Such Same : ℤ → Type 0) → ((j : ℤ) → Such j → Same j) → ((j : ℤ) → Same j → Such j)
    → IsAt Such moment → IsAt Same moment
at_same None Such Same f g h = λ j s. h j (g j s)
at_same (Some moment) Such Same f g h = f (zoned_nanos moment) h

-- Each step leads to one instant.

pub picked-once : (tz : TimeZone) (civil a b : ℤ) → IsPicked tz civil a → IsPicked tz civil b → a ≡ b
picked-once tz civil a b h g = picked-of tz g.shown a (rw g.civil_is h) ∙ sym g.is_choice

pub resolves-once : (tz : TimeZone) (i a b : ℤ) → Resolves tz i a → Resolves tz i b → a ≡ b
resolves-once tz i a b h g =
    let same : h.local ≡ g.local = same_datetime h.local g.local (h.local_is ∙ sym g.local_is) in
    picked-once tz (civil_nanos g.local) a b (subst (λ (d : DateTime). IsPicked tz (civil_nanos d) a) same h.picked) g.picked

pub months-once : (tz : TimeZone) (n i a b : ℤ) → MonthsStep tz n i a → MonthsStep tz n i b → a ≡ b
months-once tz n i a b h g =
    let same : h.local ≡ g.local = same_datetime h.local g.local (h.local_is ∙ sym g.local_is) in
    picked-once tz _ a b (subst (MonthsFrom tz n a) same (h.fits, h.year_in, h.picked)).2 g.picked
