use Rattle.std.proofs.Common.{◌≡◌, ◌<◌, arith, length}
use Rattle.std.proofs.lemmas.Bool.Decides.{nat_tests}
use Rattle.gix_date.proofs.Printing.Patterns.{so-far-all, so-far-next, so-far-end}
use Rattle.gix_date.proofs.time.patterns.push_pattern.Goals as goal

pub fronts-init : goal.fronts-init
fronts-init c = so-far-all c.args.t c.args.pattern.now c.args.out.now.bytes c.requires

pub fronts-preserved : goal.fronts-preserved
fronts-preserved c =
    let some : 0 < length c.fronts.rest.now = grind (arith, nat_tests) in
    so-far-next c.args.t c.args.pattern.now c.fronts.rest.now _ _ _ c.fronts.invariant some c.in-Some.ensures

pub returns : goal.returns
returns c =
    let none : length c.fronts.rest.now ≡ 0 = grind (arith, nat_tests) in
    λ yes. so-far-end c.args.t c.args.pattern.now c.fronts.rest.now _ c.fronts.invariant none
