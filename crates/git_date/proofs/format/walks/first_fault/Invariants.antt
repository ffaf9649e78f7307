use denote.Shadow.{shadow}
use denote.Text.{Utf8}
use Rattle.std.proofs.Common.{length}
use Rattle.git_date.proofs.Formats.Walks.{Left}
use Rattle.git_date.proofs.format.walks.first_fault.Given as goal

abbrev pub invariant-pieces : goal.invariant-pieces
invariant-pieces l =
    shadow (Utf8 l.rest) × Left l.text l.rest (λ done. Unit {0})

abbrev pub decreases-pieces : goal.decreases-pieces
decreases-pieces l = length l.rest
