use Rattle.std.proofs.Common.{refl}
use Rattle.jiff.specs.Words.{plain_zone, zoned_nanos}
use Rattle.gix_date.proofs.Relative.Steps.{picked-is, picked-none}
use Rattle.gix_date.proofs.parsing.relative.steps.to_instant.Goals as goal

pub returns-in-Ok-clause-instant : goal.returns-in-Ok-clause-instant
returns-in-Ok-clause-instant c =
    picked-is (plain_zone c.args.zone) c.args.date c.args.time c.to_datetime.result (zoned_nanos c.in-Ok.moment)
    c.to_datetime.ensures.date c.to_datetime.ensures.time c.in-Ok.ensures.value (rw c.in-Ok.ensures.value (c.in-Ok.ensures.succeeds.0 refl))

pub returns-in-Err-clause-instant : goal.returns-in-Err-clause-instant
returns-in-Err-clause-instant c =
    λ j h. picked-none (plain_zone c.args.zone) c.args.date c.args.time c.to_datetime.result j
    c.to_datetime.ensures.date c.to_datetime.ensures.time (λ range. let ok = c.in-Err.ensures.succeeds.1 range in absurd cc) h
