use Rattle.std.proofs.Common.{◌≡◌, ◌∙◌, refl, sym, ap, subst, ℤ}
use Rattle.std.proofs.lemmas.Cmp.{int_ranked}
use Rattle.std.specs.Cmp.{ranked_equal}
use Rattle.jiff.specs.Words.{plain_zoned, picked_instant}
use Rattle.jiff.specs.Types.{Timestamp}
use Rattle.gix_date.specs.Relative.Steps.{Resolves}
use Rattle.gix_date.proofs.Relative.Steps.{shows-local, resolves-is, resolves-none}
use Rattle.gix_date.proofs.parsing.relative.steps.resolve.Goals as goal

pub returns-in_default-clause-step : goal.returns-in_default-clause-step
returns-in_default-clause-step c =
    let z = plain_zoned c.args.moment in
    let succeeds = rw (c.time_zone-zone.ensures, c.datetime.ensures) at c.in_default.ensures.succeeds in
    λ j h. resolves-none z.time_zone z.timestamp.nanosecond j z.datetime (shows-local z) (λ range. let ok = succeeds.1 range in absurd cc) h

pub returns-then-eq-clause-step : goal.returns-then-eq-clause-step
returns-then-eq-clause-step c =
    let z = plain_zoned c.args.moment in
    let value = rw (c.time_zone-zone.ensures, c.datetime.ensures) at c.in-Ok.ensures.value in
    let first = c.in-Ok.instant.nanosecond in
    let same = (ranked_equal first c.timestamp.result.nanosecond _ (int_ranked first c.timestamp.result.nanosecond _ refl)).0
    (sym c.eq.ensures ∙ c.if-eq.true) in
    let here : z.timestamp.nanosecond ≡ picked_instant z.time_zone z.datetime =
    sym (same ∙ ap (λ (t : Timestamp). t.nanosecond) c.timestamp.ensures) ∙ value in
    resolves-is z.time_zone z.timestamp.nanosecond z.timestamp.nanosecond z.datetime (shows-local z) here z.timestamp.in_range

pub returns-clause-step : goal.returns-clause-step
returns-clause-step c =
    let z = plain_zoned c.args.moment in
    let value = rw (c.time_zone-zone.ensures, c.datetime.ensures) at c.in-Ok.ensures.value in
    let there = ap (λ (t : Timestamp). t.nanosecond) c.to_zoned.ensures.instant in
    subst (λ (j : ℤ). Resolves z.time_zone z.timestamp.nanosecond j) (sym there) (resolves-is z.time_zone z.timestamp.nanosecond
    c.in-Ok.instant.nanosecond z.datetime (shows-local z) value c.in-Ok.instant.in_range)
