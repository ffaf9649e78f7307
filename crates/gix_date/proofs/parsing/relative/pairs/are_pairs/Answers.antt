use Rattle.gix_date.specs.Relative.Words.{relative_words}
use Rattle.gix_date.proofs.Relative.RelativeScans.{verdict_at_end}
use Rattle.gix_date.proofs.Relative.RolePlaces.{meant_by}
use Rattle.gix_date.proofs.parsing.relative.pairs.are_pairs.Goals as goal

pub returns-clause-value : goal.returns-clause-value
returns-clause-value c = verdict_at_end (relative_words c.args.text.now) _ c.loop-word.scan c.verdict.result c.loop-word.invariant.1
    c.in_default.ensures.words c.verdict.ensures

pub returns-clause-meaning : goal.returns-clause-meaning
returns-clause-meaning c =
    meant_by (relative_words c.args.text.now) c.verdict.result (verdict_at_end (relative_words c.args.text.now) _ c.loop-word.scan
    c.verdict.result c.loop-word.invariant.1 c.in_default.ensures.words c.verdict.ensures)
