use Rattle.std.proofs.Common.{length, option_map}
use Rattle.gix_signature.proofs.Headers.{SoFar}
use Rattle.gix_signature.proofs.object.named.Given as goal

abbrev pub invariant-lines : goal.invariant-lines
invariant-lines l = SoFar l.role l.contents l.left (option_map (λ n. n.first.now) l.found) (option_map (λ n. n.last.now) l.found)

abbrev pub decreases-lines : goal.decreases-lines
decreases-lines l = length l.left
