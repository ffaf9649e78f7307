use Rattle.jiff.specs.Words.{plain_zoned, zoned_nanos}
use Rattle.gix_date.specs.Relative.Words.{relative_words}
use Rattle.gix_date.proofs.Relative.Chains.{reaches-is, reaches-back}
use Rattle.gix_date.proofs.Relative.Steps.{at_same}
use Rattle.gix_date.proofs.parsing.relative.instant_of.Goals as goal

pub returns-in_err-resolve-in-MinusPairs-clause-reaches : goal.returns-in_err-resolve-in-MinusPairs-clause-reaches
returns-in_err-resolve-in-MinusPairs-clause-reaches c =
    rw (c.from_residual.ensures, c.in-MinusPairs.is) (λ j h. c.in_err-resolve-in-MinusPairs.ensures.step h.0 h.1)

pub returns-in_ok-resolve-in-MinusPairs-clause-reaches : goal.returns-in_ok-resolve-in-MinusPairs-clause-reaches
returns-in_ok-resolve-in-MinusPairs-clause-reaches c =
    let tz = (plain_zoned c.args.moment).time_zone in
    let words = relative_words c.in-MinusPairs.text.now in
    let start = c.in_ok-resolve-in-MinusPairs.field-0 in
    let resolves = c.in_ok-resolve-in-MinusPairs.ensures.step in
    let chain = rw c.in_ok-resolve-in-MinusPairs.ensures.zone at c.subtract_pairs.ensures.chain in
    rw c.in-MinusPairs.is (at_same c.subtract_pairs.result _ _
    (λ j h. reaches-is tz words (zoned_nanos c.args.moment) (zoned_nanos start) j resolves h)
    (λ j h. reaches-back tz words (zoned_nanos c.args.moment) (zoned_nanos start) j resolves h)
    chain)
