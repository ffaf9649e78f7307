use Rattle.std.proofs.Common.{rules, refl, arith, sym, ap, ◌∙◌, subst, ℤ, pos, ◌-ℤ◌, FitsSigned, w8, w64}
use Rattle.std.proofs.lemmas.Int.{to_z-of_z}
use Rattle.std.specs.Int.{int_div_euclid}
use Rattle.jiff.specs.Words.{IsYear}
use Rattle.jiff_core.proofs.CalendarLemmas.{days_in_month_bounds}
use Rattle.jiff_core.proofs.SignedLemmas.{signed_arith}
use Rattle.gix_date.specs.Relative.Steps.{month_start}
use Rattle.gix_date.proofs.Relative.Steps.{first-is, before-from}
use Rattle.gix_date.proofs.parsing.relative.steps.months_before.Goals as goal

pub day_from-requires : goal.day_from-requires
day_from-requires c =
    let date = c.args.date in
    let day_in = date.day_in in
    let long = days_in_month_bounds date.year date.month in
    let fd : FitsSigned w8 c.day.result = search rules in
    simp to_z-of_z (omega (arith, signed_arith, c.day.ensures, day_in, long), omega (arith, signed_arith, c.day.ensures, day_in, long))

pub returns-in_err-number : goal.returns-in_err-number
returns-in_err-number c =
    let fm : FitsSigned w64 c.args.months = c.ranges.months in
    let ff : FitsSigned w64 c.month_number.result = search rules in
    let none = simp to_z-of_z at c.in_err-number.ensures in
    rw c.from_residual.ensures
    (λ before h. absurd (none (subst (λ (m : ℤ). FitsSigned w64 (m -ℤ c.args.months)) (sym c.month_number.ensures) h.fits)))

pub returns-in_err-first : goal.returns-in_err-first
returns-in_err-first c =
    let fm : FitsSigned w64 c.args.months = c.ranges.months in
    let ff : FitsSigned w64 c.month_number.result = search rules in
    let made = simp to_z-of_z at c.in_ok-number.ensures in
    let fn : FitsSigned w64 c.in_ok-number.number = rw made.1 made.0 in
    let number = made.1 ∙ ap (λ (m : ℤ). m -ℤ c.args.months) c.month_number.ensures in
    let some = simp to_z-of_z at c.in_err-first.ensures.some in
    rw c.from_residual-in_err-first.ensures (λ before h.
    let not = some.1 (subst (λ (m : ℤ). IsYear (int_div_euclid m (pos 12))) (sym number) h.year_in) in absurd cc)

pub returns : goal.returns
returns c =
    let fm : FitsSigned w64 c.args.months = c.ranges.months in
    let ff : FitsSigned w64 c.month_number.result = search rules in
    let fd : FitsSigned w8 c.day.result = search rules in
    let made = simp to_z-of_z at c.in_ok-number.ensures in
    let fn : FitsSigned w64 c.in_ok-number.number = rw made.1 made.0 in
    let number = made.1 ∙ ap (λ (m : ℤ). m -ℤ c.args.months) c.month_number.ensures in
    let fits = subst (λ (m : ℤ). FitsSigned w64 (m -ℤ c.args.months)) c.month_number.ensures made.0 in
    let year = subst (λ (m : ℤ). IsYear (int_div_euclid m (pos 12))) number ((simp to_z-of_z at c.in_ok-first.ensures.some).0 refl) in
    let ymd = simp to_z-of_z at c.in_ok-first.ensures.value in
    let start = first-is c.in_ok-number.number c.in_ok-first.first ymd ∙ ap (λ (m : ℤ). month_start m) number in
    let some = rw c.day.ensures at (simp to_z-of_z at c.day_from.ensures.some) in
    let day = rw c.day.ensures at (simp to_z-of_z at c.day_from.ensures.value) in
    before-from c.args.date c.args.months c.in_ok-first.first c.day_from.result fits year start some day
