use Rattle.std.proofs.Common.{refl}
use Rattle.gix_date.proofs.Printing.Patterns.{mark-goes, letter-goes, tail-is}
use Rattle.gix_date.proofs.time.patterns.push_front.Goals as goal

pub returns-then-first-ne37 : goal.returns-then-first-ne37
returns-then-first-ne37 c =
    mark-goes c.args.t c.args.pattern.now _ c.args.out.now.bytes _ c.requires c.if-first-ne37.true c.if-first-ge128.false
    (tail-is 1 c.args.pattern.now) c.push_ascii.ensures.bytes

pub returns : goal.returns
returns c =
    letter-goes c.args.t c.args.pattern.now _ c.args.out.now.bytes _ c.if-pattern-lt2.false c.if-first-ne37.false
    (tail-is 2 c.args.pattern.now) (c.if-not-push_letter.ensures refl)
