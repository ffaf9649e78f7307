use Rattle.gix_date.proofs.Relative.FixedTimes.{seconds-earlier, names-earlier}
use Rattle.gix_date.proofs.Relative.FixedZones.{all-loss}
use Rattle.gix_date.specs.Relative.Dates.{MinusSeconds}
use Rattle.std.proofs.Common.{pos}
use Rattle.gix_date_laws.proofs.relative.earlier.Goals as goal

pub returns-clause-yesterday : goal.returns-clause-yesterday
returns-clause-yesterday c = names-earlier (MinusSeconds (pos 86_400)) c.args.time (pos 86_400) (λ z m j. (λ h. h, λ h. h))

pub returns-clause-pairs : goal.returns-clause-pairs
returns-clause-pairs c = seconds-earlier c.args.time c.args.pairs.now (all-loss c.args.pairs.now c.requires)
