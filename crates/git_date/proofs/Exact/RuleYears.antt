-- When a POSIX rule's daylight saving time is in force, by months and seconds.
use Rattle.std.proofs.Common.{◌≡◌, ◌∙◌, ℕ, zero, suc, inl, inr, ◌+◌, ◌-◌, ◌*◌, ◌%◌, ◌≤◌, ◌<◌, ℤ, Option, None, pos}
use Rattle.std.proofs.Common.{◌+ℤ◌, ◌-ℤ◌, ◌*ℤ◌, ◌≤ℤ◌, ◌<ℤ◌, Bool, true, false, not, ◌&&◌, Some, refl, sym, ap, arith}
use Rattle.std.proofs.lemmas.Bool.{false_from_ne_true}
use Rattle.std.proofs.lemmas.Bool.Decides.{eqb_tells}
use Rattle.std.specs.Int.{int_div_euclid, int_rem_euclid}
use Rattle.std.specs.Int.Signed.{le_z, lt_z, lt_z_yes}
use Rattle.std.proofs.lemmas.Float.{T_from_true}
use Rattle.jiff_core.proofs.SignedLemmas.{signed_arith}
use Rattle.jiff_core.proofs.CalendarLemmas.{days_in_month_bounds, days_of_months-zero, days_of_months_more, days_of_months_all}
use Rattle.jiff_core.proofs.CalendarLemmas.{days_of_months_mono, day_count-day_of_year, days_from_civil-day_count}
use Rattle.jiff_core.specs.Calendar.{days_in_year, days_in_month, days_of_months, days_from_civil, weekday_number, IsBetween}
use Rattle.jiff_core.specs.Timestamp.{nanos_of_seconds}
use Rattle.jiff_core.specs.declared.Offset.{Offset}
use Rattle.jiff.specs.Types.{TimeZone, Posix}
use Rattle.jiff.specs.Words.{offset_at}
use Rattle.jiff_tz.specs.declared.posix.DayTime.{DayTime}
use Rattle.jiff_tz.specs.declared.posix.TimeZone.{TimeZone as RuleZone}
use Rattle.jiff_tz.specs.declared.posix.Dst.{Dst}
use Rattle.jiff_tz.specs.PosixRule.{first_day, first_nanosecond, last_nanosecond, nanos_per_day, rule_nanos, clamp_to, in_window}
use Rattle.jiff_tz.specs.PosixRule.{utc_window, match_some, dst_at, dst_at_by, rule_day, weekday_of_month}
use Rattle.jiff_tz.specs.PosixRule.{sunday_number, std_info, dst_info}
use Rattle.jiff_tz.proofs.YearLemmas.{year_of_day-date}
use Rattle.jiff_core.proofs.DateLemmas.{civil, days_from_civil-day}
use Rattle.jiff_core.specs.Date.{epoch_day}
use Rattle.jiff_core.specs.declared.civil.date.Date.{Date}
use Rattle.std.specs.Prelude.{if◌then◌else◌}
use Rattle.jiff_tz.specs.Flag.{is_dst}
use Rattle.jiff_tz.specs.Year.{year_of_day, year_of_nanos}
use Rattle.gix_date.proofs.Fields.Instants.{z_test, z_holds}
use Rattle.git_date.specs.Exact.Zones.{state_there, daylight_at}
use Rattle.git_date.specs.declared.zones.ZoneState.{ZoneState}
use Rattle.git_date.specs.Exact.RuleYears.{whole_second, IsChange, change_second, IsDaylight}
use Rattle.git_date.specs.declared.zones.changes.Change.{Change}

not-lt : (a b : ℤ) → b ≤ℤ a → lt_z a b ≡ false
not-lt a b h = false_from_ne_true (lt_z a b) (λ t. let less : a <ℤ b = lt_z_yes (T_from_true (lt_z a b) t) in omega (arith, signed_arith))

not-le : (a b : ℤ) → b <ℤ a → le_z a b ≡ false
not-le a b h = false_from_ne_true (le_z a b) (λ t. let less = z_test a b t in omega (arith, signed_arith))

-- months lie 28 days apart where one or more lie between
apart : (y : ℤ) (a b slack : ℕ) → slack ≤ 1 → a + slack < b → days_of_months y a + 28 * slack ≤ days_of_months y (b - 1)
apart y a b zero few h = omega (arith, days_of_months_mono y a (b - 1) (omega arith))
apart y a b (suc slack) few h =
    let back : a + 1 - 1 ≡ a = omega arith in
    let more = rw back at (days_of_months_more y (a + 1) (omega arith)) in
    omega (arith, more, days_in_month_bounds y (a + 1), days_of_months_mono y (a + 1) (b - 1) (omega arith))

-- a day lies in a month of a year
abbrev InMonth : ℤ → ℕ → ℤ → Type 0
InMonth y m day = ((first_day y +ℤ pos (days_of_months y (m - 1))) ≤ℤ day) × (day <ℤ (first_day y +ℤ pos (days_of_months y m)))

in_month : (y : ℤ) (m d : ℕ) → 1 ≤ m → 1 ≤ d → d ≤ days_in_month y m → InMonth y m (days_from_civil y m d)
in_month y m d low from to =
    let place = day_count-day_of_year y m d from in
    let more = days_of_months_more y m low in
    (omega (arith, signed_arith, days_from_civil-day_count), omega (arith, signed_arith, days_from_civil-day_count))

today_in : (d : Date) → InMonth d.year d.month (epoch_day d)
today_in d = let date = civil d in in_month d.year d.month d.day date.1.0 date.2.0 date.2.1

change_in : (y : ℤ) (c : Change) → InMonth y c.month (weekday_of_month y c.month c.week c.weekday)
change_in y c =
    let long = days_in_month_bounds y c.month in
    let from = in_month y c.month 1 (omega arith) (omega arith) (omega arith) in
    let to = in_month y c.month (days_in_month y c.month) (omega arith) (omega arith) (omega arith) in
    let span = days_from_civil-day y c.month 1 (days_in_month y c.month) (omega arith) (omega arith) in
    elim (eqb_tells c.week 5) [
      | inl last ↦ rw last.0 (omega (arith, signed_arith), omega (arith, signed_arith))
      | inr nth ↦ rw nth.0 (omega (arith, signed_arith), omega (arith, signed_arith))
    ]

-- a change comes in its month, or some days from it
near : (y : ℤ) (c : Change) (slack : ℕ) → (slack ≡ 0 → IsBetween (pos 0) (pos 86_399) c.second)
    → (((first_day y +ℤ pos (days_of_months y (c.month - 1))) *ℤ pos 86_400 -ℤ pos (698_398 * slack)) ≤ℤ change_second y c)
    × (change_second y c <ℤ ((first_day y +ℤ pos (days_of_months y c.month)) *ℤ pos 86_400 +ℤ pos (698_398 * slack)))
near y c zero own = (omega (arith, signed_arith, change_in y c, own refl), omega (arith, signed_arith, change_in y c, own refl))
near y c (suc slack) own =
    (omega (arith, signed_arith, change_in y c, c.second_in), omega (arith, signed_arith, change_in y c, c.second_in))

pub come_before : (c : Change) (today : Date) (s : ℤ) (slack : ℕ) → (slack ≡ 0 → IsBetween (pos 0) (pos 86_399) c.second) → slack ≤ 1
    → epoch_day today ≡ int_div_euclid s (pos 86_400) → c.month + slack < today.month → true ≡ le_z (change_second today.year c) s
come_before c today s slack own few day h =
    let there = near today.year c slack own in
    let far = apart today.year c.month today.month slack few h in
    sym (z_holds (change_second today.year c) s (omega (arith, signed_arith, today_in today)))

pub to_come : (c : Change) (today : Date) (s : ℤ) (slack : ℕ) → (slack ≡ 0 → IsBetween (pos 0) (pos 86_399) c.second) → slack ≤ 1
    → epoch_day today ≡ int_div_euclid s (pos 86_400) → today.month + slack < c.month → false ≡ le_z (change_second today.year c) s
to_come c today s slack own few day h =
    let there = near today.year c slack own in
    let far = apart today.year today.month c.month slack few h in
    sym (not-le (change_second today.year c) s (omega (arith, signed_arith, today_in today)))

-- within a year changes keep the order of months far apart
in_order : (y : ℤ) (a b : Change) → a.month + 1 < b.month → change_second y a <ℤ change_second y b
in_order y a b h =
    let first = near y a 1 (λ e. absurd cc) in
    let next = near y b 1 (λ e. absurd cc) in
    omega (arith, signed_arith, apart y a.month b.month 1 (omega arith) h)

pub first_told : (a b : Change) (y : ℤ) → a.month + 1 < b.month → true ≡ le_z (change_second y a) (change_second y b)
first_told a b y h = sym (z_holds (change_second y a) (change_second y b) (omega (arith, signed_arith, in_order y a b h)))

pub last_told : (a b : Change) (y : ℤ) → b.month + 1 < a.month → false ≡ le_z (change_second y a) (change_second y b)
last_told a b y h = sym (not-le (change_second y a) (change_second y b) (in_order y b a h))

-- and they stay within the year
within : (y : ℤ) (c : Change) → ((first_day y *ℤ pos 86_400) <ℤ change_second y c)
    × (change_second y c <ℤ ((first_day y +ℤ pos (days_in_year y)) *ℤ pos 86_400))
within y c =
    let there = near y c 1 (λ e. absurd cc) in
    let from = apart y 0 c.month 1 (omega arith) (omega arith) in
    let to = apart y c.month 13 1 (omega arith) (omega arith) in
    (omega (arith, signed_arith, days_of_months-zero y), omega (arith, signed_arith, days_of_months_all y))

stays : (low high n m : ℤ) → n ≡ m → low ≤ℤ m → m ≤ℤ high → clamp_to low high n ≡ m
stays low high n m e a b = rw e (rw (not-lt m low a) (rw (not-lt high m b) refl))

moment : (y : ℤ) (at : DayTime) (clock : Offset) (c : Change) → IsChange at clock c
    → rule_nanos y at clock.seconds ≡ nanos_of_seconds (change_second y c)
unfolding rule_nanos rule_day
moment y at clock c is =
    let year = within y c in
    let second = is.second in
    let n : ℤ = weekday_of_month y c.month c.week c.weekday *ℤ nanos_per_day +ℤ nanos_of_seconds (at.time -ℤ clock.seconds) in
    rw is.day (stays (first_nanosecond y) (last_nanosecond y) n (nanos_of_seconds (change_second y c)) (omega (arith, signed_arith))
    (omega (arith, signed_arith)) (omega (arith, signed_arith)))

year-window : (dst : Dst) (standard : Offset) (y : ℤ) (start end : Change) → IsChange dst.rule.start standard start
    → IsChange dst.rule.end dst.offset end
    → utc_window dst y standard ≡ (nanos_of_seconds (change_second y start), nanos_of_seconds (change_second y end))
unfolding utc_window
year-window dst standard y start end begins ends =
    let year = (within y start).0 in
    rw (moment y dst.rule.start standard start begins, moment y dst.rule.end dst.offset end ends)
    (rw (not-le (nanos_of_seconds (change_second y start)) (first_nanosecond y) (omega (arith, signed_arith))) refl)

-- an instant and a second compare as the instant's second does
at-or-after : (n s e : ℤ) → whole_second n ≡ s → le_z (nanos_of_seconds e) n ≡ le_z e s
at-or-after n s e at = grind (arith, signed_arith, z_test, z_holds, not-le)

before : (n s e : ℤ) → whole_second n ≡ s → lt_z n (nanos_of_seconds e) ≡ not (le_z e s)
before n s e at = grind (arith, signed_arith, z_test, z_holds, not-le, not-lt)

window-told : (start end s n : ℤ) → whole_second n ≡ s
    → (if le_z start end then le_z start s && not (le_z end s) else not (le_z end s && not (le_z start s)))
    ≡ in_window (nanos_of_seconds start, nanos_of_seconds end) n
window-told start end s n at =
    let second : whole_second (nanos_of_seconds end) ≡ end = omega (arith, signed_arith) in
    rw (at-or-after (nanos_of_seconds end) end start second) (rw (at-or-after n s start at) (rw (at-or-after n s end at)
    (rw (before n s start at) (rw (before n s end at) refl))))

pub daylight_told : (dst : Dst) (standard : Offset) (start end : Change) (today : Date) (s : ℤ) (first started ended there : Bool)
    → IsChange dst.rule.start standard start → IsChange dst.rule.end dst.offset end → epoch_day today ≡ int_div_euclid s (pos 86_400)
    → ((y : ℤ) → first ≡ le_z (change_second y start) (change_second y end)) → started ≡ le_z (change_second today.year start) s
    → ended ≡ le_z (change_second today.year end) s → there ≡ (if first then started && not ended else not (ended && not started))
    → IsDaylight dst standard s there
unfolding IsDaylight
daylight_told dst standard start end today s first started ended there begins ends day order is-started is-ended is n at =
    let y = today.year in
    let days : epoch_day today ≡ int_div_euclid n (pos 86_400_000_000_000) = omega (arith, signed_arith) in
    let year : y ≡ year_of_nanos n = sym (year_of_day-date today) ∙ ap year_of_day days in
    (rw (order y, is-started, is-ended) at is) ∙ window-told (change_second y start) (change_second y end) s n at
    ∙ ap (λ w. in_window w n) (sym (year-window dst standard y start end begins ends) ∙ ap (λ k. utc_window dst k standard) year)

-- what a zone of a rule says
abbrev view : RuleZone → Option Dst → ZoneState
view rule o = record {
  offset = (match_some o rule.std_offset (λ d. d.offset)).seconds;
  daylight = is_dst (match_some o (std_info rule) dst_info).dst;
}

told : (zone : TimeZone) (rule : RuleZone) (n : ℤ) (o : Option Dst) → zone ≡ Posix rule → dst_at rule n ≡ o
    → view rule o ≡ state_there zone n
unfolding offset_at daylight_at
told zone rule n o is e = ap (view rule) (sym e) ∙ ap (λ z. state_there z n) (sym is)

pub standard_always : (zone : TimeZone) (rule : RuleZone) (n : ℤ) → zone ≡ Posix rule → rule.dst ≡ None
    → record { offset = rule.std_offset.seconds; daylight = false } ≡ state_there zone n
standard_always zone rule n is none = told zone rule n None is (ap (λ o. dst_at_by rule.std_offset o n) none)

-- with daylight saving time, where that is in force
module _ (zone : TimeZone) (rule : RuleZone) (dst : Dst) (seconds n : ℤ) (there : Bool) (is : zone ≡ Posix rule)
    (some : rule.dst ≡ Some dst) (when : IsDaylight dst rule.std_offset seconds there) where
  by-window : (b : Bool) → there ≡ b → whole_second n ≡ seconds → view rule (if b then Some dst else None) ≡ state_there zone n
  unfolding IsDaylight
  by-window b e at = told zone rule n (if b then Some dst else None) is
      (ap (λ o. dst_at_by rule.std_offset o n) some ∙ ap (λ b. if b then Some dst else None) (sym (when n at) ∙ e))

  pub standard_there : there ≡ false → whole_second n ≡ seconds
      → record { offset = rule.std_offset.seconds; daylight = false } ≡ state_there zone n
  standard_there = by-window false

  pub daylight_there : there ≡ true → whole_second n ≡ seconds
      → record { offset = dst.offset.seconds; daylight = true } ≡ state_there zone n
  daylight_there = by-window true

-- the weekdays of a month
pub back_is : (day : ℤ) (weekday : ℕ) (n : ℤ) → weekday ≤ 6 → n ≡ int_rem_euclid ((day +ℤ pos 4) -ℤ pos weekday) (pos 7)
    → n ≡ pos ((sunday_number day + 7 - weekday) % 7)
unfolding weekday_number
back_is day weekday n small is = omega (arith, signed_arith)

pub ahead_is : (day : ℤ) (weekday : ℕ) (n : ℤ) → weekday ≤ 6 → n ≡ int_rem_euclid ((pos weekday -ℤ day) -ℤ pos 4) (pos 7)
    → n ≡ pos ((weekday + 7 - sunday_number day) % 7)
unfolding weekday_number
ahead_is day weekday n small is = omega (arith, signed_arith)
