use Rattle.std.proofs.Common.{◌∙◌, ap, arith, ℤ, pos, ◌+ℤ◌, FitsSigned, w8, w16, w64}
use Rattle.std.proofs.lemmas.Int.{to_z-of_z}
use Rattle.jiff_core.proofs.SignedLemmas.{signed_arith}
use Rattle.gix_date.proofs.Relative.Steps.{first-exists}
use Rattle.gix_date.proofs.parsing.relative.steps.first_day_of.Goals as goal

pub returns-in-Ok-new-clause-value : goal.returns-in-Ok-new-clause-value
returns-in-Ok-new-clause-value c =
    let fn : FitsSigned w64 c.args.month_number = c.ranges.month_number in
    let fq : FitsSigned w64 c.div_euclid.result = omega (arith, signed_arith, c.div_euclid.type_inv) in
    let fr : FitsSigned w64 c.rem_euclid.result =
    omega (arith, signed_arith, c.rem_euclid.ensures.lower_bound, c.rem_euclid.ensures.upper_bound) in
    let fs : FitsSigned w64 (c.rem_euclid.result +ℤ pos 1) =
    omega (arith, signed_arith, c.rem_euclid.ensures.lower_bound, c.rem_euclid.ensures.upper_bound) in
    let fm : FitsSigned w8 (c.rem_euclid.result +ℤ pos 1) =
    omega (arith, signed_arith, c.rem_euclid.ensures.lower_bound, c.rem_euclid.ensures.upper_bound) in
    let quotient = simp to_z-of_z at c.div_euclid.ensures in
    let year = simp to_z-of_z at c.in-Ok.ensures in
    let fy : FitsSigned w16 c.in-Ok.year = rw year.1 year.0 in
    let rem = simp to_z-of_z at c.rem_euclid.ensures.value in
    let ymd = simp to_z-of_z at c.in-Ok-new.ensures.value in
    (ymd.0 ∙ year.1 ∙ quotient, ymd.1 ∙ ap (λ (z : ℤ). z +ℤ pos 1) rem, ymd.2)

pub returns-in-Err-clause-some : goal.returns-in-Err-clause-some
returns-in-Err-clause-some c =
    let fn : FitsSigned w64 c.args.month_number = c.ranges.month_number in
    let fq : FitsSigned w64 c.div_euclid.result = omega (arith, signed_arith, c.div_euclid.type_inv) in
    let fr : FitsSigned w64 c.rem_euclid.result =
    omega (arith, signed_arith, c.rem_euclid.ensures.lower_bound, c.rem_euclid.ensures.upper_bound) in
    let fs : FitsSigned w64 (c.rem_euclid.result +ℤ pos 1) =
    omega (arith, signed_arith, c.rem_euclid.ensures.lower_bound, c.rem_euclid.ensures.upper_bound) in
    let fm : FitsSigned w8 (c.rem_euclid.result +ℤ pos 1) =
    omega (arith, signed_arith, c.rem_euclid.ensures.lower_bound, c.rem_euclid.ensures.upper_bound) in
    let quotient = simp to_z-of_z at c.div_euclid.ensures in
    let year = simp to_z-of_z at c.in-Ok.ensures in
    let fy : FitsSigned w16 c.in-Ok.year = rw year.1 year.0 in
    let made = simp to_z-of_z at c.in-Err.ensures.succeeds in
    let year_is = year.1 ∙ quotient in (
      λ h. absurd cc,
      λ h. made.1 (first-exists c.in-Ok.year (c.rem_euclid.result +ℤ pos 1) (rw year_is h)
          (omega (arith, signed_arith, c.rem_euclid.ensures.lower_bound, c.rem_euclid.ensures.upper_bound))),
    )
