use Rattle.std.proofs.Common.{Some, None, ap, ◌∙◌, sym, arith}
use Rattle.std.proofs.lemmas.Grind.{common_steps}
use Rattle.std.proofs.lemmas.Str.{IsCharBoundary-after_ascii}
use Rattle.std.specs.Str.{trim}
use Rattle.gix_date.proofs.Git.ClockCuts.{space_none, space_low, space_unsigned, space_found}
use Rattle.gix_date.proofs.Text.LastPlaces.{by_rfind}
use Rattle.gix_date.proofs.parsing.git.cut.cut_at_space.Goals as goal

pub returns-in_err-place : goal.returns-in_err-place
returns-in_err-place c =
    rw c.from_residual.ensures (sym (space_none c.args.text.now (by_rfind c.args.text.now None c.in_err-place.ensures.cases).0))

pub returns-then-place-le5 : goal.returns-then-place-le5
returns-then-place-le5 c =
    let last = by_rfind c.args.text.now (Some c.in_ok-place.place) c.in_ok-place.ensures.cases in
    sym (space_low c.args.text.now c.in_ok-place.place last.0 (omega arith))

pub range_from-requires : goal.range_from-requires
range_from-requires c =
    let last = by_rfind c.args.text.now (Some c.in_ok-place.place) c.in_ok-place.ensures.cases in
    λ long. IsCharBoundary-after_ascii c.args.text.now c.in_ok-place.place c.utf8.text last.1.0 (omega (arith, last.1.1))

pub returns-then-not-begins_with_sign : goal.returns-then-not-begins_with_sign
returns-then-not-begins_with_sign c =
    let last = by_rfind c.args.text.now (Some c.in_ok-place.place) c.in_ok-place.ensures.cases in
    sym (space_unsigned c.args.text.now c.trimmed-offset.result.now c.in_ok-place.place last.0
    (c.trimmed-offset.ensures ∙ ap trim c.range_from.ensures.value) (sym c.begins_with_sign.ensures ∙ c.if-not-begins_with_sign.true))

pub returns : goal.returns
returns c =
    let last = by_rfind c.args.text.now (Some c.in_ok-place.place) c.in_ok-place.ensures.cases in
    sym (space_found c.args.text.now c.trimmed-offset.result.now c.range.result.now c.in_ok-place.place last.0
    (c.trimmed-offset.ensures ∙ ap trim c.range_from.ensures.value)
    (grind (arith, common_steps, c.range.ensures.value))
    (omega arith)
    (sym c.begins_with_sign.ensures ∙ c.if-not-begins_with_sign.false))
