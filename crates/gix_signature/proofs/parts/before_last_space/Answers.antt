use Rattle.gix_signature.proofs.Runs.{no_last, none_last}
use Rattle.gix_signature.proofs.parts.before_last_space.Goals as goal

pub returns-in_err-last : goal.returns-in_err-last
returns-in_err-last c = rw c.from_residual.ensures (λ name. none_last c.args.text.now name 32 c.in_err-last.ensures.cases)

pub returns-else-last-eq32 : goal.returns-else-last-eq32
returns-else-last-eq32 c =
    λ name. no_last c.args.text.now name c.in_ok-last.name.now c.in_ok-last.last.now 32 c.in_ok-last.ensures.cases c.if-last-eq32.false
