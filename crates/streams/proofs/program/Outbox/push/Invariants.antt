use Rattle.std.proofs.Common.{take}
use Rattle.streams.specs.Outbox.{Puts, output, pieces_text}
use Rattle.streams.proofs.program.Outbox.push.Given as goal

-- the pieces so far were put
abbrev pub invariant-loop-piece : goal.invariant-loop-piece
invariant-loop-piece g l = Puts (output l.initial.self (g.W.Sink.known l.initial.out)) (output l.self (g.W.Sink.known l.out))
    (pieces_text (take l.piece-index l.pieces))
