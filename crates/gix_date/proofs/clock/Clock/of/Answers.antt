use Rattle.std.proofs.Common.{rules, ◌≡◌, ◌∙◌, ap, arith, ℤ, pos, unsigned_abs, FitsSigned, w64, w16, w32}
use Rattle.std.proofs.lemmas.Int.{to_z-of_z}
use Rattle.std.specs.Int.{int_div_euclid, int_rem_euclid}
use Rattle.jiff_core.proofs.CalendarLemmas.{days_in_month_bounds, weekday_number_bound}
use Rattle.jiff_core.proofs.SignedLemmas.{signed_arith, one_part}
use Rattle.gix_date.specs.Printing.LocalClocks.{local_day, second_of_day}
use Rattle.gix_date.proofs.Printing.LocalClocks.{clock-by}
use Rattle.gix_date.proofs.clock.Clock.of.Goals as goal

pub invariant_of-result : goal.invariant_of-result
invariant_of-result c =
    let date = c.in-Ok.date in
    let offset_fits : FitsSigned w32 c.args.time.offset = search rules in
    let day_fits : FitsSigned w64 c.day_and_second-day.result.0 = search rules in
    let year_fits : FitsSigned w16 date.year = search rules in
    let weekday = simp to_z-of_z at c.weekday_of.ensures in
    let year = simp to_z-of_z at c.unsigned_abs.ensures.value in
    let year_in = date.year_in in
    let day_in = date.day_in in
    let small = c.clock_at.ensures.small in
    simp to_z-of_z (record {
      weekday = omega (arith, weekday, weekday_number_bound c.day_and_second-day.result.0);
      year = omega (arith, signed_arith, one_part date.year, year, year_in);
      month = date.month_in;
      day = (day_in.0, omega (arith, day_in, days_in_month_bounds date.year date.month));
      hour = small.0;
      minute = small.1;
      second = small.2;
      offset = c.requires.offset;
    })

pub returns : goal.returns
returns c =
    let t = c.args.time in
    let date = c.in-Ok.date in
    let local_fits : FitsSigned w64 c.local_seconds.result = search rules in
    let offset_fits : FitsSigned w32 t.offset = search rules in
    let a = c.local_seconds.ensures in
    let day_fits : FitsSigned w64 c.day_and_second-day.result.0 = search rules in
    let year_fits : FitsSigned w16 date.year = search rules in
    let div = simp to_z-of_z at c.day_and_second-day.ensures.day in
    let day : c.day_and_second-day.result.0 ≡ local_day t = div ∙ ap (λ (n : ℤ). int_div_euclid n (pos 86_400)) a in
    let at = simp to_z-of_z at c.in-Ok.ensures.value in
    let r = simp to_z-of_z at c.day_and_second-day.ensures.second in
    let second : c.day_and_second-day.result.1 ≡ second_of_day t = r ∙ ap (λ (n : ℤ). unsigned_abs (int_rem_euclid n (pos 86_400))) a in
    let weekday = simp to_z-of_z at c.weekday_of.ensures in
    let year = simp to_z-of_z at c.unsigned_abs.ensures.value in
    let k = c.clock_at.ensures in
    let hour = k.hour in
    let minute = k.minute in
    let last = k.second in
    simp to_z-of_z (clock-by t c.day_and_second-day.result.0 date c.unsigned_abs.result c.day_and_second-day.result.1 c.weekday_of.result
    c.clock_at.result day at year second weekday hour minute last)
