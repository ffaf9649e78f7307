use Rattle.std.proofs.Common.{length}
use Rattle.gix_date_c.proofs.Blocks.Steps.{Checking}
use Rattle.gix_date_c.proofs.lines.gix_date_check_lines.Given as goal

-- so many lines of the block are checked
abbrev pub invariant-lines : goal.invariant-lines
invariant-lines l = Checking l.initial.left l.initial.canonical l.canonical (l.left, l.done)

abbrev pub decreases-lines : goal.decreases-lines
decreases-lines l = length l.left
