use Rattle.std.proofs.Common.{length}
use Rattle.gix_date_c.specs.Lines.Readers.{IsLineRead}
use Rattle.gix_date_c.proofs.Blocks.Steps.{Reading}
use Rattle.gix_date_c.proofs.lines.read_lines.Given as goal

-- so many lines of the block are read
abbrev pub invariant-lines : goal.invariant-lines
invariant-lines l =
    Reading (IsLineRead l.initial.reader) l.initial.left
    (record { seconds = l.initial.seconds; offsets = l.initial.offsets; statuses = l.initial.statuses })
    (record { seconds = l.seconds; offsets = l.offsets; statuses = l.statuses }) (l.left, l.done)

abbrev pub decreases-lines : goal.decreases-lines
decreases-lines l = length l.left
