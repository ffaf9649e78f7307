-- What a time's own clock shows is what each moment of it shows.
use Rattle.std.proofs.Common.{rules}
use Rattle.std.proofs.Common.{◌≡◌, ◌∙◌, ◌≤◌, ◌<◌, ◌+◌, ◌-◌, ◌*◌, ◌/◌, ◌%◌, ℕ, Bool, true, false, nat_lt, if◌then◌else◌, ℤ, pos, neg_ℤ, ◌+ℤ◌}
use Rattle.std.proofs.Common.{◌-ℤ◌, ◌*ℤ◌, ◌≤ℤ◌, ◌<ℤ◌, unsigned_abs, refl, sym, ap, subst, arith}
use Rattle.std.proofs.lemmas.Bool.Decides.{nat_tests}
use Rattle.std.proofs.lemmas.Int.{by_lt_z}
use Rattle.std.specs.Int.{int_rem_euclid}
use Rattle.jiff.specs.Types.{Date, Offset, PlainZoned}
use Rattle.jiff.proofs.ZoneFacts.{offset_at-fixed_zone}
use Rattle.jiff.specs.Words.{plain_zoned, nanos_of_seconds, fixed_zone, IsTimestampNanos, IsCivilNanos}
use Rattle.gix_date.proofs.Fields.DateTimes.{datetime_exists}
use Rattle.jiff_core.specs.Calendar.{IsCivilDate, day_count, weekday_number}
use Rattle.jiff_core.specs.Date.{epoch_day}
use Rattle.jiff_core.specs.March.{march_days}
use Rattle.jiff_core.proofs.CalendarLemmas.{days_from_civil-day_count, day_count-later_year, day_count-day_of_year, day_of_year_bound}
use Rattle.jiff_core.proofs.DateLemmas.{epoch_day_range, epoch_day_injective}
use Rattle.jiff_core.proofs.DateTimeLemmas.{civil_nanos-parts, time_nanos_bound}
use Rattle.jiff_core.proofs.MarchLemmas.{leap_day, leap_day-shift, march_days-suc, day_count-early, day_count-late, month_and_day}
use Rattle.jiff_core.proofs.MarchLemmas.{day_in_month, day_in_early_month}
use Rattle.jiff_core.proofs.SignedLemmas.{signed_arith, one_part}
use Rattle.gix_date.specs.Fields.ClockNumbers.{hours_in, minutes_in}
use Rattle.gix_date.specs.Fields.Layout.{LocalTime}
use Rattle.gix_date.specs.declared.clock.ClockFields.{ClockFields}
use Rattle.gix_date.specs.Printing.LocalClocks.{march_year, march_month, march_day, january_date, date_of_day, local_seconds, local_day}
use Rattle.gix_date.specs.Printing.LocalClocks.{second_of_day, clock_of, HasFourDigitFields}
use Rattle.gix_date.specs.Printing.NamedTexts.{local_time, ShowsFourDigitFields}
use Rattle.gix_date.specs.Fields.Zoned.{IsMoment, IsConvertible}
use Rattle.gix_date.specs.declared.time.Time.{Time}
use Rattle.jiff.specs.declared.zoned.Zoned.{Zoned}

-- years that begin in March
march-value : (days : ℕ) → march_days (march_year days).0 + (march_year days).1 ≡ days
march-value days = omega arith

march-within : (days : ℕ) → days < march_days ((march_year days).0 + 1)
march-within days = omega arith

-- the date has the day count, and the calendar has it
abbrev IsDateAt : ℕ → ℤ × ℕ × ℕ → Type 0
IsDateAt n (y, m, d) = IsCivilDate y m d × (day_count y m d ≡ n)

date-late : (year before n : ℕ) → march_days year + before + 60 ≡ n → before < 366 → n ≤ 7_304_849 → 366 ≤ n
    → march_month before ≤ 12 → IsDateAt n (pos year -ℤ pos 10_000, march_month before, march_day before)
date-late year before n e short last first month = grind (arith, day_count-late, signed_arith, day_in_month, month_and_day)

date-early : (year before n : ℕ) → march_days year + before + 60 ≡ n → before < 366 → n < march_days (year + 1) + 60
    → n ≤ 7_304_849 → 366 ≤ n → 12 < march_month before
    → IsDateAt n (pos (year + 1) -ℤ pos 10_000, march_month before - 12, march_day before)
date-early year before n e short within last first month =
    grind (arith, signed_arith, day_count-early, leap_day, march_days-suc, leap_day-shift, day_in_early_month, month_and_day)

date-by : (year before n : ℕ) (b : Bool) → nat_lt 12 (march_month before) ≡ b → march_days year + before + 60 ≡ n
    → before < 366 → n < march_days (year + 1) + 60 → n ≤ 7_304_849 → 366 ≤ n
    → IsDateAt n (if b then (pos (year + 1) -ℤ pos 10_000, march_month before - 12, march_day before) else
    (pos year -ℤ pos 10_000, march_month before, march_day before))
date-by year before n true test e short within last first = search (rules, date-early, nat_tests)
date-by year before n false test e short within last first = search (rules, date-late, nat_tests)

date-at : (n : ℕ) → 366 ≤ n → n ≤ 7_304_849 → IsDateAt n (january_date (march_year (n - 60)))
date-at n first last =
    let days = n - 60 in
    date-by (march_year days).0 (march_year days).1 n _ refl (omega (arith, march-value days)) (omega arith)
    (omega (arith, march-within days)) last first

-- a date is the one of its day number
pub date-of-day : (date : Date) → date_of_day (epoch_day date) ≡ (date.year, date.month, date.day)
unfolding date_of_day
date-of-day date =
    let range = epoch_day_range date in
    let some = one_part (epoch_day date +ℤ pos 4_371_953) in
    let n = unsigned_abs (epoch_day date +ℤ pos 4_371_953) in
    let at : IsDateAt n (date_of_day (epoch_day date)) =
    date-at n (omega (arith, signed_arith, range, some)) (omega (arith, signed_arith, range, some)) in
    let r = date_of_day (epoch_day date) in
    let found : Date =
    record { year = r.0; month = r.1; day = r.2; year_in = at.0.0; month_in = at.0.1; day_in = at.0.2 } in
    let same : epoch_day found ≡ epoch_day date =
    omega (arith, signed_arith, at.1, days_from_civil-day_count r.0 r.1 r.2, range, some) in
    let p = epoch_day_injective found date same in
    λ i. (p.0 i, p.1 i, p.2 i)

-- a zoned value that is at the time, at its offset
pub record Shows (z : PlainZoned) (t : Time) : Type 0 where
  pub instant : z.timestamp.nanosecond ≡ nanos_of_seconds t.seconds
  pub offset_is : z.offset.seconds ≡ t.offset

pub day_shown : (z : PlainZoned) (t : Time) → Shows z t → local_day t ≡ epoch_day z.datetime.date
day_shown z t h =
    omega (arith, signed_arith, z.shows, h.instant, h.offset_is, civil_nanos-parts z.datetime, time_nanos_bound z.datetime.time)

second-shown : (z : PlainZoned) (t : Time) → Shows z t
    → second_of_day t ≡ z.datetime.time.hour * 3600 + z.datetime.time.minute * 60 + z.datetime.time.second
second-shown z t h =
    let subsec = z.datetime.time.subsec_in in
    omega (
      arith,
      signed_arith,
      z.shows,
      h.instant,
      h.offset_is,
      civil_nanos-parts z.datetime,
      time_nanos_bound z.datetime.time,
      one_part (int_rem_euclid (local_seconds t) (pos 86_400)),
      subsec,
    )

pub clock_is_shown : (z : PlainZoned) (t : Time) → Shows z t → local_time z ≡ clock_of t
unfolding clock_of
clock_is_shown z t h =
    let day = day_shown z t h in
    let second = second-shown z t h in
    let hour_in = z.datetime.time.hour_in in
    let minute_in = z.datetime.time.minute_in in
    let second_in = z.datetime.time.second_in in
    let date = sym (ap (λ (n : ℤ). date_of_day n) day ∙ date-of-day z.datetime.date) in
    let hour : z.datetime.time.hour ≡ second_of_day t / 3600 = omega (arith, second) in
    let minute : z.datetime.time.minute ≡ second_of_day t % 3600 / 60 = omega (arith, second) in
    let last : z.datetime.time.second ≡ second_of_day t % 60 = omega (arith, second) in
    λ i. record {
      weekday = weekday_number (sym day i);
      date = record { year = unsigned_abs (date i).0; month = (date i).1; day = (date i).2 };
      clock = record { hour = hour i; minute = minute i; second = last i };
      offset = h.offset_is i;
    }

-- years and seconds
thousand : day_count (pos 1000) 1 1 ≡ 4_017_668
thousand = day_count-early (pos 1000) 10_999 1 1 refl (omega arith) (omega arith) (omega arith)

year-before : (date : Date) → date.year <ℤ pos 1000 → epoch_day date <ℤ neg_ℤ (pos 354_285)
year-before date lt =
    let day_in = date.day_in in
    let year_in = date.year_in in
    let here = day_count-day_of_year date.year date.month date.day day_in.0 in
    let within = day_of_year_bound date.year date.month date.day (date.year_in, date.month_in, date.day_in) in
    omega (
      arith,
      signed_arith,
      here,
      within,
      day_count-later_year date.year (pos 1000) (omega (arith, signed_arith, year_in)) lt,
      days_from_civil-day_count date.year date.month date.day,
      thousand,
    )

pub local-is : (z : PlainZoned) (t : Time) → Shows z t
    → ((epoch_day z.datetime.date *ℤ pos 86_400) ≤ℤ local_seconds t)
    × (local_seconds t <ℤ (epoch_day z.datetime.date *ℤ pos 86_400 +ℤ pos 86_400))
local-is z t h =
    let parts = civil_nanos-parts z.datetime in
    let bound = time_nanos_bound z.datetime.time in (
      omega (arith, signed_arith, z.shows, h.instant, h.offset_is, parts, bound),
      omega (arith, signed_arith, z.shows, h.instant, h.offset_is, parts, bound),
    )

four-digits-year : (z : PlainZoned) (t : Time) → Shows z t → HasFourDigitFields t → pos 1000 ≤ℤ z.datetime.date.year
four-digits-year z t h o =
    by_lt_z z.datetime.date.year (pos 1000)
    (λ lt. absurd (omega (arith, signed_arith, year-before z.datetime.date lt, local-is z t h, o.in_years)))
    (λ ge. ge)

pub four-digits-from : (z : PlainZoned) (t : Time) → Shows z t → HasFourDigitFields t → ShowsFourDigitFields z
four-digits-from z t h o =
    let low = four-digits-year z t h o in
    let some = one_part z.datetime.date.year in
    record {
      year = unsigned_abs z.datetime.date.year;
      year_is = omega (arith, signed_arith, low, some);
      low = omega (arith, signed_arith, low, some);
      high = omega (arith, signed_arith, low, some, z.datetime.date.year_in);
      minutes = subst (λ (s : ℤ). unsigned_abs s % 60 ≡ 0) (sym h.offset_is) o.minutes;
    }

pub moment-shows : (t : Time) (z : Zoned) → IsMoment t z → Shows (plain_zoned z) t
moment-shows t z h = record { instant = h.instant; offset_is = h.offset_is }

-- each time that converts has such a value
pub moment-of : (t : Time) → IsConvertible t → (z : Zoned) × IsMoment t z
moment-of t h =
    let o : Offset = record { seconds = t.offset; in_range = h.0 } in
    let n = nanos_of_seconds t.seconds in
    let range : IsTimestampNanos n = (omega (arith, signed_arith, h.1), omega (arith, signed_arith, h.1)) in
    let clock : IsCivilNanos (n +ℤ nanos_of_seconds t.offset) =
    (omega (arith, signed_arith, h.0, h.1), omega (arith, signed_arith, h.0, h.1)) in
    let found = datetime_exists (n +ℤ nanos_of_seconds t.offset) clock in
    let z : PlainZoned = record {
      timestamp = record { nanosecond = n; in_range = range };
      datetime = found.0;
      offset = o;
      time_zone = fixed_zone o;
      shows = found.1;
      offset_is = sym (offset_at-fixed_zone o n);
    } in
    (record { inner = z }, record { instant = refl; offset_is = refl; zone = (o, refl, refl) })

abbrev IsShownBy : Time → Type 0
IsShownBy t = (z : PlainZoned) × Shows z t

pub shown-by : (t : Time) → IsConvertible t → IsShownBy t
shown-by t h =
    let m = moment-of t h in
    (plain_zoned m.0, moment-shows t m.0 m.1)

-- what a clock shows is its date by the day number, and its time by the second of the day
pub clock-by : (t : Time) (day : ℤ) (date : Date) (year second weekday : ℕ) (clock : ClockFields) → day ≡ local_day t
    → epoch_day date ≡ day → year ≡ unsigned_abs date.year → second ≡ second_of_day t → weekday ≡ weekday_number day
    → clock.hour ≡ hours_in second → clock.minute ≡ minutes_in second → clock.second ≡ second % 60
    → ◌≡◌ {A = LocalTime}
    (record { weekday = weekday; date = record { year = year; month = date.month; day = date.day }; clock = clock; offset = t.offset })
    (clock_of t)
unfolding clock_of
clock-by t day date year second weekday clock is_day at is_year is_second is_weekday hour minute last = grind (arith, date-of-day)
