use Rattle.std.proofs.Common.{rules, ◌≡◌, ◌∙◌, sym, ap, false, refl}
use Rattle.git_date.specs.Formats.Format.{asks_seconds}
use Rattle.git_date.proofs.Formats.Walks.{left-all, left-next, left-fault, left-end, asked, none-more, not-whole, pieces-are, some-left}
use Rattle.git_date.proofs.Formats.Walks.{none-left}
use Rattle.git_date.proofs.format.walks.asks_seconds.Goals as goal

pub pieces-init : goal.pieces-init
pieces-init c = (search rules, left-all c.args.text.now (λ done. asks_seconds done ≡ false) refl)

pub unreachable-requires : goal.unreachable-requires
unreachable-requires c =
    not-whole c.args.text.now c.in_default.field-0 c.requires
    (left-fault c.args.text.now c.pieces.rest.now _ c.in_default.field-0 c.pieces.invariant.1
    (some-left c.pieces.rest.now c.pieces-test.ensures) c.in_default.ensures.value)

pub returns-then-is_seconds : goal.returns-then-is_seconds
returns-then-is_seconds c =
    asked c.args.text.now c.pieces.rest.now c.in-Ok.left.now _ _ c.pieces.invariant.1 (some-left c.pieces.rest.now c.pieces-test.ensures)
    c.in-Ok.ensures.value c.in-Ok.ensures.shorter c.requires (sym c.is_seconds.ensures ∙ c.if-is_seconds.true)

pub pieces-preserved : goal.pieces-preserved
pieces-preserved c = (
  search rules,
  left-next c.args.text.now c.pieces.rest.now c.in-Ok.left.now _ (λ done. asks_seconds done ≡ false) _ c.pieces.invariant.1
      (some-left c.pieces.rest.now c.pieces-test.ensures) c.in-Ok.ensures.value c.in-Ok.ensures.shorter
      (λ done p. none-more done _ (sym c.is_seconds.ensures ∙ c.if-is_seconds.false) p),
)

pub returns : goal.returns
returns c =
    let left = c.pieces.invariant.1 in
    sym left.so_far
    ∙ ap asks_seconds (pieces-are c.args.text.now left.done
    (left-end c.args.text.now c.pieces.rest.now _ left (none-left c.pieces.rest.now c.pieces-test.ensures)))
