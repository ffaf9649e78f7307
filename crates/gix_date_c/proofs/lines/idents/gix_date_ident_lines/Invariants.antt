use Rattle.std.proofs.Common.{length}
use Rattle.gix_date_c.proofs.Blocks.Idents.{Telling, columns}
use Rattle.gix_date_c.proofs.lines.idents.gix_date_ident_lines.Given as goal

-- so many lines of the block are told of
abbrev pub invariant-lines : goal.invariant-lines
invariant-lines l =
    Telling l.initial.left
    (columns l.initial.parts l.initial.seconds l.initial.offsets l.initial.messages l.initial.statuses)
    (columns l.parts l.seconds l.offsets l.messages l.statuses) (l.left, l.done)

abbrev pub decreases-lines : goal.decreases-lines
decreases-lines l = length l.left
