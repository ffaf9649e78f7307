-- Each civil nanosecond has its datetime, and each day number its date.
use Rattle.std.proofs.Common.{◌≡◌, ◌∙◌, ℕ, zero, suc, ◌+◌, ◌/◌, ◌%◌, ◌<◌, ◌≤◌, inl, inr, ℤ, pos, neg_ℤ, ◌+ℤ◌, ◌-ℤ◌, ◌<ℤ◌, unsigned_abs}
use Rattle.std.proofs.Common.{refl, sym, ap, subst, arith, rules}
use Rattle.std.proofs.lemmas.Bool.{cases_order}
use Rattle.std.proofs.lemmas.Int.{by_lt_z}
use Rattle.std.specs.Int.{int_div_euclid, int_rem_euclid}
use Rattle.jiff.specs.Types.{DateTime, Date, Time as TimeOfDay}
use Rattle.jiff.specs.Words.{epoch_day, civil_nanos, time_nanos, IsEpochDay, IsCivilNanos, days_in_month}
use Rattle.jiff_core.specs.Calendar.{days_from_civil, IsCivilDate}
use Rattle.jiff_core.proofs.CalendarLemmas.{days_in_month_bounds}
use Rattle.jiff_core.proofs.DateLemmas.{days_from_civil-day, days_from_civil-next_month, days_from_civil-next_year, days_from_civil-min}
use Rattle.jiff_core.proofs.DateLemmas.{days_from_civil-max}
use Rattle.jiff_core.proofs.DateTimeLemmas.{civil_nanos-parts}
use Rattle.jiff_core.proofs.SignedLemmas.{signed_arith, one_part}

abbrev IsDayOf : ℤ → Type 0
IsDayOf n = (d : Date) × (epoch_day d ≡ n)

abbrev date_of : (y : ℤ) (m d : ℕ) → IsCivilDate y m d → Date
date_of y m d h = record { year = y; month = m; day = d; year_in = h.0; month_in = h.1; day_in = h.2 }

after_year : (d : Date) → epoch_day d <ℤ pos 2_932_896 → d.month ≡ 12 → d.day ≡ 31 → IsDayOf (epoch_day d +ℤ pos 1)
after_year d more month day =
    let year_in = d.year_in in
    let here : epoch_day d ≡ days_from_civil d.year 12 31 = rw (month, day) refl in
    by_lt_z d.year (pos 9999)
    (λ lt. let long = days_in_month_bounds (d.year +ℤ pos 1) 1 in (
      date_of (d.year +ℤ pos 1) 1 1
          ((omega (arith, signed_arith), omega (arith, signed_arith)), (omega arith, omega arith), (omega arith, omega (arith, long))),
      days_from_civil-next_year d.year (d.year +ℤ pos 1) (omega (arith, signed_arith)) refl ∙ ap (λ (z : ℤ). z +ℤ pos 1) (sym here),
    ))
    (λ ge. let last : d.year ≡ pos 9999 = omega (arith, signed_arith) in
    let end : epoch_day d ≡ pos 2_932_896 = here ∙ ap (λ (y : ℤ). days_from_civil y 12 31) last ∙ days_from_civil-max in
    absurd (omega (arith, signed_arith, end, more)))

after_month : (d : Date) → epoch_day d <ℤ pos 2_932_896 → d.day ≡ days_in_month d.year d.month
    → IsDayOf (epoch_day d +ℤ pos 1)
after_month d more last =
    elim (cases_order d.month 12) [
      | inr (inl early) ↦
          let long = days_in_month_bounds d.year (d.month + 1) in (
            date_of d.year (d.month + 1) 1 (d.year_in, (omega arith, omega arith), (omega arith, omega (arith, long))),
            days_from_civil-next_month d.year d.month d.day d.month_in.0 last,
          )
      | inr (inr past) ↦ absurd (omega arith)
      | inl december ↦ after_year d more december (rw december at last)
    ]

next_day : (d : Date) → epoch_day d <ℤ pos 2_932_896 → IsDayOf (epoch_day d +ℤ pos 1)
next_day d more =
    let long = days_in_month_bounds d.year d.month in
    let month_in = d.month_in in
    let day_in = d.day_in in
    elim (cases_order d.day (days_in_month d.year d.month)) [
      | inr (inl within) ↦ (
        date_of d.year d.month (d.day + 1) (d.year_in, d.month_in, (omega arith, omega arith)),
        omega (arith, signed_arith, days_from_civil-day d.year d.month d.day (d.day + 1) day_in.0 (omega arith)),
      )
      | inr (inr past) ↦ absurd (omega arith)
      | inl last ↦ after_month d more last
    ]

day_from : (k : ℕ) → k ≤ 7_304_483 → IsDayOf (pos k -ℤ pos 4_371_587)
day_from zero h = (
  record { year = neg_ℤ (pos 9999); month = 1; day = 1; year_in = search rules; month_in = search rules; day_in = search rules },
  days_from_civil-min,
)
day_from (suc k) h =
    let before = day_from k (omega arith) in
    let next = next_day before.0 (omega (arith, signed_arith, before.1)) in
    (next.0, omega (arith, signed_arith, next.1, before.1))

-- each day number has its date
pub day_exists : (n : ℤ) → IsEpochDay n → IsDayOf n
day_exists n h =
    let k = unsigned_abs (n +ℤ pos 4_371_587) in
    let e : pos k -ℤ pos 4_371_587 ≡ n = omega (arith, signed_arith, one_part (n +ℤ pos 4_371_587)) in
    subst IsDayOf e (day_from k (omega (arith, signed_arith, one_part (n +ℤ pos 4_371_587))))

abbrev IsClockOf : ℕ → Type 0
IsClockOf n = (t : TimeOfDay) × (time_nanos t ≡ n)

clock_exists : (n : ℕ) → n < 86_400_000_000_000 → IsClockOf n
clock_exists n h = (
  record {
    hour = n / 3_600_000_000_000;
    minute = n / 60_000_000_000 % 60;
    second = n / 1_000_000_000 % 60;
    subsec_nanosecond = n % 1_000_000_000;
    hour_in = omega arith;
    minute_in = omega arith;
    second_in = omega arith;
    subsec_in = omega arith;
  },
  omega arith,
)

abbrev IsDateTimeOf : ℤ → Type 0
IsDateTimeOf n = (dt : DateTime) × (civil_nanos dt ≡ n)

datetime_of : (n : ℤ) → IsDayOf (int_div_euclid n (pos 86_400_000_000_000))
    → IsClockOf (unsigned_abs (int_rem_euclid n (pos 86_400_000_000_000))) → IsDateTimeOf n
datetime_of n (date, day) (time, clock) =
    let dt : DateTime = record { date = date; time = time } in
    (dt, omega (arith, signed_arith, civil_nanos-parts dt, day, clock))

-- and each civil nanosecond its datetime
pub datetime_exists : (n : ℤ) → IsCivilNanos n → IsDateTimeOf n
datetime_exists n h = grind (arith, datetime_of, day_exists, signed_arith, clock_exists)
