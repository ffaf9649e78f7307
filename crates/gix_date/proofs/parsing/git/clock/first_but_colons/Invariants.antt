use Rattle.std.proofs.Common.{◌≡◌, length}
use Rattle.gix_date.specs.Git.Forms.{without_colons}
use Rattle.gix_date.proofs.parsing.git.clock.first_but_colons.Given as goal

-- only colons were passed
abbrev pub invariant-loop-rest : goal.invariant-loop-rest
invariant-loop-rest l = without_colons l.rest ≡ without_colons l.text

abbrev pub decreases-loop-rest : goal.decreases-loop-rest
decreases-loop-rest l = length l.rest
