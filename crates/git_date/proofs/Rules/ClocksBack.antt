-- The fields that a clock shows come to the seconds at which it shows them.
use Rattle.std.proofs.Common.{◌≡◌, ◌∙◌, ◌<◌, ◌≤◌, ℕ, nat_lt, Bool, true, false, cond, ℤ, pos, neg_ℤ, ◌+ℤ◌, ◌-ℤ◌, ◌≤ℤ◌, ◌<ℤ◌, unsigned_abs}
use Rattle.std.proofs.Common.{Some, None, refl, ap, subst, arith}
use Rattle.std.specs.Prelude.{◌&&◌, ◌==◌}
use Rattle.std.proofs.lemmas.Bool.{and_from as join}
use Rattle.std.proofs.lemmas.Bool.Decides.{nat_tests}
use Rattle.std.proofs.lemmas.Int.{by_lt_z}
use Rattle.jiff.specs.Types.{PlainZoned}
use Rattle.jiff_core.proofs.CalendarLemmas.{days_from_civil-day_count, day_count-later_year, day_count-day_of_year, day_of_year_bound}
use Rattle.jiff_core.proofs.SignedLemmas.{signed_arith, one_part}
use Rattle.jiff_core.specs.Calendar.{IsBetween, day_count, days_of_years, days_of_months, days_from_civil}
use Rattle.jiff_core.specs.Date.{epoch_day}
use Rattle.jiff_core.specs.declared.civil.date.Date.{Date}
use Rattle.gix_date.proofs.Fields.Instants.{z_holds}
use Rattle.gix_date.proofs.Printing.LocalClocks.{Shows, clock_is_shown, local-is, four-digits-from, shown-by}
use Rattle.gix_date.proofs.Printing.ReadBack.{local-instant}
use Rattle.gix_date.specs.Families.Epoch.{utc_time}
use Rattle.gix_date.specs.Families.Patterns.{midnight}
use Rattle.gix_date.specs.Fields.Civil.{civil_seconds, civil_instant, is_date, is_clock}
use Rattle.gix_date.specs.Fields.Layout.{LocalTime, LocalDate, LocalClock}
use Rattle.gix_date.specs.Fields.Zoned.{is_instant, last_second}
use Rattle.gix_date.specs.Printing.LocalClocks.{clock_of, last_of_year_9999}
use Rattle.gix_date.specs.Printing.NamedTexts.{local_time}
use Rattle.git_date.specs.Approximate.Clocks.{is_shown, is_shown_month, clock_shown_at, first_second, filled_seconds}
use Rattle.git_date.specs.Rules.Clocks.{first_of_year_1900}
use Rattle.git_date.specs.Approximate.Drafts.{clock_fields, all_fields}
use Rattle.git_date.specs.Rules.Dates.{first_of, is_month, seconds_after}

-- seconds from 1900 to the last of an instant
abbrev pub IsClockBack : ℤ → Type 0
IsClockBack x = IsBetween first_of_year_1900 last_second x

abbrev pub shown_of : ℤ → LocalTime
shown_of x = (clock_of (utc_time x))

-- the first day of a year bounds its dates, and those of the years before
pub before-year : (date : Date) (y first : ℕ) → y ≤ 9999 → day_count (pos y) 1 1 ≡ first → date.year <ℤ pos y
    → epoch_day date <ℤ (pos first -ℤ pos 4_371_953)
before-year date y first small e lt =
    let day_in = date.day_in in
    let year_in = date.year_in in
    let here = day_count-day_of_year date.year date.month date.day day_in.0 in
    let within = day_of_year_bound date.year date.month date.day (date.year_in, date.month_in, date.day_in) in
    omega (
      arith,
      signed_arith,
      here,
      within,
      day_count-later_year date.year (pos y) (omega (arith, signed_arith, year_in)) lt,
      days_from_civil-day_count date.year date.month date.day,
      e,
    )

from-first : (date : Date) (first : ℕ) → first ≤ day_count date.year 1 1 → (pos first -ℤ pos 4_371_953) ≤ℤ epoch_day date
from-first date first h =
    let day_in = date.day_in in
    let here = day_count-day_of_year date.year date.month date.day day_in.0 in
    omega (arith, signed_arith, here, h, day_in.0, days_from_civil-day_count date.year date.month date.day)

pub from-year : (date : Date) (y first : ℕ) → day_count (pos y) 1 1 ≡ first → pos y ≤ℤ date.year
    → (pos first -ℤ pos 4_371_953) ≤ℤ epoch_day date
from-year date y first e ge =
    by_lt_z (pos y) date.year
    (λ lt. from-first date first (omega (arith, signed_arith, e, day_count-later_year (pos y) date.year (omega (arith, signed_arith)) lt)))
    (λ le. let is : date.year ≡ pos y = omega (arith, signed_arith, ge, le) in
    from-first date first (omega (arith, e, ap (λ (year : ℤ). day_count year 1 1) is)))

pub nineteen : day_count (pos 1900) 1 1 ≡ 4_346_386
unfolding day_count days_of_years days_of_months
nineteen = refl

pub before-1900 : (date : Date) → date.year <ℤ pos 1900 → epoch_day date <ℤ neg_ℤ (pos 25_567)
before-1900 date lt = before-year date 1900 4_346_386 (omega arith) nineteen lt

seventy : day_count (pos 1970) 1 1 ≡ 4_371_953
unfolding day_count days_of_years days_of_months
seventy = refl

next : day_count (pos 2100) 1 1 ≡ 4_419_435
unfolding day_count days_of_years days_of_months
next = refl

pub later-day : (y : ℤ) (m d : ℕ) → 1 ≤ d → days_from_civil y m d ≡ days_from_civil y m 1 +ℤ (pos d -ℤ pos 1)
unfolding days_from_civil day_count
later-day y m d h = omega (arith, signed_arith)

from-cond : (b : Bool) (x y : ℤ) → cond b (Some x) None ≡ Some y → x ≡ y
from-cond true x y e = cc
from-cond false x y e = absurd cc

seconds-from : (d : LocalDate) (c : LocalClock) (o s : ℤ) → civil_instant d c o ≡ Some s → civil_seconds d c o ≡ s
unfolding civil_instant
seconds-from d c o s e = from-cond (is_date d && is_clock c && is_instant (civil_seconds d c o)) (civil_seconds d c o) s e

module _ (x : ℤ) (h : IsClockBack x) (z : PlainZoned) (shows : Shows z (utc_time x)) where
  year-from : pos 1900 ≤ℤ z.datetime.date.year
  year-from =
      by_lt_z z.datetime.date.year (pos 1900)
      (λ lt. absurd (let local = local-is z (utc_time x) shows in omega (arith, signed_arith, before-1900 z.datetime.date lt, local, h.0)))
      (λ ge. ge)

  shown-month : is_shown_month (unsigned_abs z.datetime.date.year) z.datetime.date.month ≡ true
  shown-month =
      let year_in = z.datetime.date.year_in in
      let month_in = z.datetime.date.month_in in
      let some = one_part z.datetime.date.year in
      let from = year-from in
      let low : 1900 ≤ unsigned_abs z.datetime.date.year = omega (arith, signed_arith, some, from) in
      let high : unsigned_abs z.datetime.date.year ≤ 9999 = omega (arith, signed_arith, some, from, year_in) in
      let first : 1 ≤ z.datetime.date.month = month_in.0 in
      let last : z.datetime.date.month ≤ 12 = month_in.1 in
      grind (arith, nat_tests)

  -- a year that Git knows
  git-month : pos 0 ≤ℤ x → x <ℤ pos 4_102_444_800 → is_month (unsigned_abs z.datetime.date.year) z.datetime.date.month ≡ true
  git-month low high =
      let date = z.datetime.date in
      let local = local-is z (utc_time x) shows in
      let from : pos 1970 ≤ℤ date.year =
      by_lt_z date.year (pos 1970)
      (λ lt. absurd (omega (arith, signed_arith, before-year date 1970 4_371_953 (omega arith) seventy lt, local, low))) (λ ge. ge) in
      let to : date.year <ℤ pos 2100 =
      by_lt_z date.year (pos 2100) (λ lt. lt)
      (λ ge. absurd (omega (arith, signed_arith, from-year date 2100 4_419_435 next ge, local, high))) in
      let some = one_part date.year in
      let month_in = date.month_in in
      let first_year : 1970 ≤ unsigned_abs date.year = omega (arith, signed_arith, some, from) in
      let last_year : unsigned_abs date.year ≤ 2099 = omega (arith, signed_arith, some, from, to) in
      let first : 1 ≤ date.month = month_in.0 in
      let last : date.month ≤ 12 = month_in.1 in
      grind (arith, nat_tests)

  civil : civil_seconds (local_time z).date (local_time z).clock (pos 0) ≡ x
  civil =
      seconds-from (local_time z).date (local_time z).clock (pos 0) x
      (subst (λ (o : ℤ). civil_instant (local_time z).date (local_time z).clock o ≡ Some x) shows.offset_is
      (local-instant z x (four-digits-from z (utc_time x) shows
      (record { in_years = (omega (arith, signed_arith, h.0), omega (arith, signed_arith, h.1)); minutes = refl })) shows.instant))

  whole :
      seconds_after (civil_seconds (first_of (unsigned_abs z.datetime.date.year) z.datetime.date.month) midnight (pos 0))
      (Some z.datetime.date.day) z.datetime.time.hour z.datetime.time.minute z.datetime.time.second ≡ x
  whole =
      let is = civil in
      let day_in = z.datetime.date.day_in in
      let later = later-day (pos (unsigned_abs z.datetime.date.year)) z.datetime.date.month z.datetime.date.day day_in.0 in
      omega (arith, signed_arith, later, is)

  filled : (today : LocalTime) → filled_seconds today (all_fields (local_time z)) ≡ Some x
  unfolding filled_seconds first_second
  filled today = rw shown-month (ap (λ (s : ℤ). Some s) whole)

  filled-of : (today : LocalTime) → filled_seconds today (all_fields (shown_of x)) ≡ Some x
  filled-of today =
      subst (λ (l : LocalTime). filled_seconds today (all_fields l) ≡ Some x) (clock_is_shown z (utc_time x) shows) (filled today)

-- what a clock shows at these seconds: a month from 1900 on, and a date and a clock that come to them
pub record IsClockOf (x : ℤ) (c : LocalTime) : Type 0 where
  pub month : is_shown_month c.date.year c.date.month ≡ true
  pub seconds : seconds_after (civil_seconds (first_of c.date.year c.date.month) midnight (pos 0)) (Some c.date.day) c.clock.hour
      c.clock.minute c.clock.second ≡ x

pub clock-is : (x : ℤ) → IsClockBack x → IsClockOf x (shown_of x)
clock-is x h =
    let found =
    shown-by (utc_time x) ((omega (arith, signed_arith), omega (arith, signed_arith)), (omega (arith, signed_arith, h.0), h.1)) in
    subst (λ (l : LocalTime). IsClockOf x l) (clock_is_shown found.0 (utc_time x) found.1)
    (record { month = shown-month x h found.0 found.1; seconds = whole x h found.0 found.1 })

-- all that a clock shows comes to its seconds, whatever today is
pub filled-back : (x : ℤ) (today : LocalTime) → IsClockBack x → filled_seconds today (all_fields (shown_of x)) ≡ Some x
filled-back x today h =
    let found =
    shown-by (utc_time x) ((omega (arith, signed_arith), omega (arith, signed_arith)), (omega (arith, signed_arith, h.0), h.1)) in
    filled-of x h found.0 found.1 today

not-before : (m : ℕ) → nat_lt m m ≡ false
not-before m = grind (arith, nat_tests)

same-fields : (c : LocalTime) → filled_seconds c (clock_fields c) ≡ filled_seconds c (all_fields c)
unfolding filled_seconds
same-fields c = rw (not-before c.date.month) refl

-- and so does its clock, where the date is today's
pub filled-today : (x : ℤ) → IsClockBack x → filled_seconds (shown_of x) (clock_fields (shown_of x)) ≡ Some x
filled-today x h = same-fields (shown_of x) ∙ filled-back x (shown_of x) h

pub shown-back : (x : ℤ) → IsClockBack x → clock_shown_at x ≡ Some (shown_of x)
unfolding clock_shown_at
shown-back x h =
    let is : is_shown x ≡ true =
    join _ _ (z_holds first_of_year_1900 x h.0) (z_holds x last_of_year_9999 (omega (arith, signed_arith, h.1))) in
    ap (λ (b : Bool). cond b (Some (shown_of x)) None) is

-- no clock of UTC shows second 60
pub no-leap : (x : ℤ) → ((shown_of x).clock.second == 60) ≡ false
unfolding clock_of
no-leap x =
    let small : (shown_of x).clock.second < 60 = omega arith in
    grind (arith, nat_tests)

-- from 1970 to 2099
pub known-month : (x : ℤ) → pos 0 ≤ℤ x → x <ℤ pos 4_102_444_800 → is_month (shown_of x).date.year (shown_of x).date.month ≡ true
known-month x low high =
    let h : IsClockBack x = (omega (arith, signed_arith, low), omega (arith, signed_arith, high)) in
    let found =
    shown-by (utc_time x) ((omega (arith, signed_arith), omega (arith, signed_arith)), (omega (arith, signed_arith, h.0), h.1)) in
    subst (λ (l : LocalTime). is_month l.date.year l.date.month ≡ true) (clock_is_shown found.0 (utc_time x) found.1)
    (git-month x h found.0 found.1 low high)
