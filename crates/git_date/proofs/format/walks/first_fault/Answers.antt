use Rattle.std.proofs.Common.{rules, ◌∙◌, ap, Option, Some}
use Rattle.git_date.specs.declared.format.error.FormatFault.{FormatFault}
use Rattle.git_date.proofs.Formats.Walks.{left-all, left-next, left-fault, left-end, fault-of, no-fault, some-left, none-left}
use Rattle.git_date.proofs.format.walks.first_fault.Goals as goal

pub pieces-init : goal.pieces-init
pieces-init c = (search rules, left-all c.args.text.now (λ done. Unit {0}) tt)

pub pieces-preserved : goal.pieces-preserved
pieces-preserved c = (
  search rules,
  left-next c.args.text.now c.pieces.rest.now c.in-Ok.left.now _ (λ done. Unit {0}) _ c.pieces.invariant.1
      (some-left c.pieces.rest.now c.pieces-test.ensures) c.in-Ok.ensures.value c.in-Ok.ensures.shorter (λ done p. tt),
)

pub returns-in-Err : goal.returns-in-Err
returns-in-Err c =
    ap (λ (f : FormatFault). let r : Option FormatFault = Some f in r) c.placed.ensures
    ∙ fault-of c.args.text.now c.in-Err.fault
    (left-fault c.args.text.now c.pieces.rest.now _ c.in-Err.fault c.pieces.invariant.1
    (some-left c.pieces.rest.now c.pieces-test.ensures) c.in-Err.ensures.value)

pub returns : goal.returns
returns c =
    no-fault c.args.text.now _
    (left-end c.args.text.now c.pieces.rest.now _ c.pieces.invariant.1 (none-left c.pieces.rest.now c.pieces-test.ensures))
