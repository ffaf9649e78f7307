use Rattle.std.proofs.Common.{rules, ◌∙◌, subst}
use Rattle.jiff.specs.Words.{plain_zoned, zoned_nanos}
use Rattle.jiff.specs.Types.{TimeZone}
use Rattle.gix_date.specs.Relative.PairsRead.{pair_of, pairs_read}
use Rattle.gix_date.specs.Relative.Steps.{PairStep}
use Rattle.gix_date.specs.Relative.Words.{relative_words}
use Rattle.gix_date.proofs.Relative.Chains.{left-next}
use Rattle.gix_date.proofs.parsing.relative.subtract_pairs.Goals as goal

pub loop-pair-preserved : goal.loop-pair-preserved
loop-pair-preserved c =
    let kept = c.loop-pair.invariant.1 in
    let there : PairStep (plain_zoned c.loop-pair.moment).time_zone (pair_of c.in-Some.pair) (zoned_nanos c.loop-pair.moment)
    (zoned_nanos c.in_ok-moment.moment) = c.in_ok-moment.ensures.step in
    let step = subst
    (λ (tz : TimeZone). PairStep tz (pair_of c.in-Some.pair) (zoned_nanos c.loop-pair.moment) (zoned_nanos c.in_ok-moment.moment)) kept
    there in (
      search rules,
      c.in_ok-moment.ensures.zone ∙ kept,
      left-next (plain_zoned c.args.start).time_zone (pair_of c.in-Some.pair) (pairs_read (relative_words c.loop-pair.rest.now))
          (pairs_read (relative_words c.in-Some.after.now)) (pairs_read (relative_words c.args.text.now))
          (zoned_nanos c.loop-pair.moment) (zoned_nanos c.in_ok-moment.moment) (zoned_nanos c.args.start) c.in-Some.ensures.pairs step
          c.loop-pair.invariant.2,
    )
