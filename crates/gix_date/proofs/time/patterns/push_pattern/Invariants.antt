use Rattle.std.proofs.Common.{length}
use Rattle.gix_date.proofs.Printing.Patterns.{SoFar}
use Rattle.gix_date.proofs.time.patterns.push_pattern.Given as goal

abbrev pub invariant-fronts : goal.invariant-fronts
invariant-fronts l = SoFar l.t l.pattern l.rest l.out.bytes

abbrev pub decreases-fronts : goal.decreases-fronts
decreases-fronts l = length l.rest
