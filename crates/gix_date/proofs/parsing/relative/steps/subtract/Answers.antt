use Rattle.std.proofs.Common.{rules, FitsSigned, w64}
use Rattle.std.proofs.lemmas.Int.{to_z-of_z}
use Rattle.gix_date.proofs.Relative.Steps.{at_same}
use Rattle.gix_date.proofs.parsing.relative.steps.subtract.Goals as goal

pub returns-in_err-checked_mul-in-Seconds-clause-step : goal.returns-in_err-checked_mul-in-Seconds-clause-step
returns-in_err-checked_mul-in-Seconds-clause-step c =
    let fc : FitsSigned w64 c.args.pair.count = search rules in
    let fs : FitsSigned w64 c.in-Seconds.size = search rules in
    let none = simp to_z-of_z at c.in_err-checked_mul-in-Seconds.ensures in
    rw (c.from_residual.ensures, c.in-Seconds.is) (λ j h. absurd (none h.0))

pub returns-in_err-checked_mul-in-Months-clause-step : goal.returns-in_err-checked_mul-in-Months-clause-step
returns-in_err-checked_mul-in-Months-clause-step c =
    let fc : FitsSigned w64 c.args.pair.count = search rules in
    let fs : FitsSigned w64 c.in-Months.size = search rules in
    let none = simp to_z-of_z at c.in_err-checked_mul-in-Months.ensures in
    rw (c.from_residual-in_err-checked_mul-in-Months.ensures, c.in-Months.is) (λ j h. absurd (none h.0))

pub returns-in_ok-checked_mul-in-Seconds-clause-step : goal.returns-in_ok-checked_mul-in-Seconds-clause-step
returns-in_ok-checked_mul-in-Seconds-clause-step c =
    let fc : FitsSigned w64 c.args.pair.count = search rules in
    let fs : FitsSigned w64 c.in-Seconds.size = search rules in
    let made = simp to_z-of_z at c.in_ok-checked_mul-in-Seconds.ensures in
    let fn : FitsSigned w64 c.in_ok-checked_mul-in-Seconds.field-0 = rw made.1 made.0 in
    let step = rw made.1 at (simp to_z-of_z at c.subtract_seconds.ensures.step) in
    rw c.in-Seconds.is (at_same c.subtract_seconds.result _ _ (λ j h. (made.0, h)) (λ j h. h.1) step)

pub returns-in_ok-checked_mul-in-Months-clause-step : goal.returns-in_ok-checked_mul-in-Months-clause-step
returns-in_ok-checked_mul-in-Months-clause-step c =
    let fc : FitsSigned w64 c.args.pair.count = search rules in
    let fs : FitsSigned w64 c.in-Months.size = search rules in
    let made = simp to_z-of_z at c.in_ok-checked_mul-in-Months.ensures in
    let fn : FitsSigned w64 c.in_ok-checked_mul-in-Months.field-0 = rw made.1 made.0 in
    let step = rw made.1 at (simp to_z-of_z at c.subtract_months.ensures.step) in
    rw c.in-Months.is (at_same c.subtract_months.result _ _ (λ j h. (made.0, h)) (λ j h. h.1) step)
