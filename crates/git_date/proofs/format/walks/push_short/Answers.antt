use Rattle.std.proofs.Common.{rules, arith, ◌≡◌, ◌∙◌, ◌++◌, sym, ap, List, append-nil}
use Rattle.git_date.specs.Formats.Format.{pieces_text}
use Rattle.git_date.specs.Formats.Pieces.{Piece}
use Rattle.git_date.specs.Formats.Shown.{shown_of}
use Rattle.git_date.proofs.Formats.Short.{left-passed}
use Rattle.git_date.proofs.Formats.Walks.{left-all, left-end, pieces-are, none-left, is-format}
use Rattle.git_date.proofs.format.walks.push_short.Goals as goal

pub pieces-init : goal.pieces-init
pieces-init g c = (
  search rules,
  left-all c.args.text.now (λ done. c.args.out.now.bytes ≡ c.args.out.now.bytes ++ pieces_text (shown_of c.args.shown.now) done)
      (sym (append-nil c.args.out.now.bytes)),
)

pub pieces-preserved : goal.pieces-preserved
pieces-preserved g c = (
  search rules,
  left-passed (shown_of c.args.shown.now) c.args.text.now c.pieces.rest.now _ c.args.out.now.bytes _ _ c.pieces.invariant.1
      (omega (arith, c.in-Some.ensures.passes.shorter)) c.in-Some.ensures.passes,
)

pub returns-clause-whole : goal.returns-clause-whole
returns-clause-whole g c =
    λ yes. is-format c.args.text.now _
    (left-end c.args.text.now c.pieces.rest.now _ c.pieces.invariant.1 (none-left c.pieces.rest.now c.pieces-test.ensures))

pub returns-clause-shown : goal.returns-clause-shown
returns-clause-shown g c =
    let left = c.pieces.invariant.1 in
    let all = pieces-are c.args.text.now left.done
    (left-end c.args.text.now c.pieces.rest.now _ left (none-left c.pieces.rest.now c.pieces-test.ensures)) in
    λ yes. left.so_far ∙ ap (λ (ps : List Piece). c.args.out.now.bytes ++ pieces_text (shown_of c.args.shown.now) ps) all
