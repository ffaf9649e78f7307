use Rattle.std.proofs.Common.{rules, ◌≡◌, ◌∙◌, ◌+◌, ◌-◌, ◌*ℤ◌, ◌≤◌, ℤ, pos, None, sym, ap, arith, FitsSigned, w64, w32}
use Rattle.std.proofs.lemmas.Int.{to_z-of_z}
use Rattle.jiff.specs.Words.{plain_zone}
use Rattle.jiff_core.proofs.SignedLemmas.{signed_arith}
use Rattle.git_date.specs.Exact.Zones.{states_of, flag_step, flag_steps, flagged_at, nearest}
use Rattle.git_date.proofs.Exact.Searches.{none-yet, at-step, found-by}
use Rattle.git_date.proofs.zones.nearest.Goals.{After-flagged_at}
use Rattle.git_date.proofs.zones.nearest.Goals as goal

pub steps-init : goal.steps-init
steps-init c = none-yet (states_of (plain_zone c.args.zone.now)) c.args.flag _

-- all steps come to what this one comes to, as none before it finds one
here : (c : After-flagged_at)
    → nearest c.steps.steps (states_of (plain_zone c.args.zone.now)) c.args.flag c.args.instant ≡ c.flagged_at.result
here c =
    let zone = states_of (plain_zone c.args.zone.now) in
    let instant = c.args.instant in
    let steps = c.steps.steps in
    let fits : FitsSigned w64 instant = search rules in
    let from : c.from.result ≡ pos steps = c.from.ensures in
    let from_fits : FitsSigned w64 c.from.result = search rules in
    let few : steps ≤ flag_steps = omega arith in
    let some : 1 ≤ steps = omega arith in
    let distance_fits : FitsSigned w64 (flag_step *ℤ c.from.result) = omega (arith, signed_arith, from, few) in
    let there : c.flagged_at.result ≡ flagged_at zone c.args.flag instant (flag_step *ℤ c.from.result) =
    simp to_z-of_z at c.flagged_at.ensures.value in
    let before : nearest (steps - 1) zone c.args.flag instant ≡ None = simp to_z-of_z at c.steps.invariant in
    at-step zone c.args.flag instant steps some before
    ∙ sym (there ∙ ap (λ (steps : ℤ). flagged_at zone c.args.flag instant (flag_step *ℤ steps)) from)

pub returns-in-Some-clause-value : goal.returns-in-Some-clause-value
returns-in-Some-clause-value c =
    let few : c.steps.steps ≤ flag_steps = omega arith in
    let offset_fits : FitsSigned w32 c.in-Some.offset = search rules in
    simp to_z-of_z
    (sym (found-by (states_of (plain_zone c.args.zone.now)) c.args.flag c.args.instant c.steps.steps flag_steps c.in-Some.offset few
    (here (goal.at.returns-in-Some-clause-value c).After-flagged_at ∙ c.in-Some.is)))

pub steps-preserved : goal.steps-preserved
steps-preserved c =
    let fits : FitsSigned w64 c.args.instant = search rules in
    let same : c.steps.steps + 1 - 1 ≡ c.steps.steps = omega arith in
    simp to_z-of_z (rw same (here (goal.at.steps-preserved c).After-flagged_at ∙ c.in_default.is))
