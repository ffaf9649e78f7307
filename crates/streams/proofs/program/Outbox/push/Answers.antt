use Rattle.std.proofs.Common.{rules}
use Rattle.streams.specs.Outbox.{output}
use Rattle.streams.proofs.Sending.{Puts-nil, Puts-piece, PutsProperPrefix-piece}
use Rattle.streams.proofs.program.Outbox.push.Goals as goal

pub loop-piece-init : goal.loop-piece-init
loop-piece-init g c = Puts-nil (output c.args.self.now (g.W.Sink.known c.args.out.now))

pub returns-in_err-push_piece : goal.returns-in_err-push_piece
returns-in_err-push_piece g c =
    let cut = PutsProperPrefix-piece c.args.pieces.now c.loop-piece.piece-index _ c.loop-piece-test.true c.loop-piece.invariant
    c.in_err-push_piece.ensures in
    search (rules, cut)

pub loop-piece-preserved : goal.loop-piece-preserved
loop-piece-preserved g c =
    Puts-piece c.args.pieces.now c.loop-piece.piece-index _ c.loop-piece-test.true c.loop-piece.invariant c.in_ok-push_piece.ensures
