use Rattle.std.proofs.Common.{refl, arith, FitsSigned, w8}
use Rattle.jiff_core.proofs.SignedLemmas.{signed_arith}
use Rattle.gix_date.proofs.parsing.relative.steps.day_from.Goals as goal

pub returns-in-Ok-clause-some : goal.returns-in-Ok-clause-some
returns-in-Ok-clause-some c =
    let fd : FitsSigned w8 c.args.day = c.ranges.day in
    let can = c.in-Ok.ensures.succeeds.0 refl in
    (λ h. omega (arith, signed_arith, can, c.from_secs-beyond.ensures, c.requires), λ h. refl)

pub returns-in-Err-clause-some : goal.returns-in-Err-clause-some
returns-in-Err-clause-some c =
    let fd : FitsSigned w8 c.args.day = c.ranges.day in
    (λ h. absurd cc, λ h. c.in-Err.ensures.succeeds.1 (omega (arith, signed_arith, h, c.from_secs-beyond.ensures, c.requires)))
