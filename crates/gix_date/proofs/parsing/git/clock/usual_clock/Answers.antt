use Rattle.std.proofs.Common.{refl, arith, ◌∙◌}
use Rattle.gix_date.proofs.Git.UsualClocks.{short_clock, long_clock}
use Rattle.gix_date.proofs.parsing.git.clock.usual_clock.Goals as goal

pub returns-else-minute-gt-MAX_MINUTE-clause-value : goal.returns-else-minute-gt-MAX_MINUTE-clause-value
returns-else-minute-gt-MAX_MINUTE-clause-value c =
    short_clock c.args.text.now _ c.requires c.in-len5.len_at_least (omega (arith, c.in-len5.len_below)) c.in_ok-hour-in-len5.ensures.value
    c.if-colon-eq58.true c.in_ok-minute-in-len5.ensures.value refl (omega arith) (omega arith)

pub returns-else-second-gt-MAX_SECOND-clause-value : goal.returns-else-second-gt-MAX_SECOND-clause-value
returns-else-second-gt-MAX_SECOND-clause-value c =
    long_clock c.args.text.now _ c.requires c.in-len8.len_at_least (omega (arith, c.in-len8.len_below)) c.in_ok-hour-in-len8.ensures.value
    c.if-colon-eq58-2.true c.in_ok-minute-in-len8.ensures.value c.if-again-eq58.true c.in_ok-second-in-len8.ensures.value (omega arith)
    (omega arith) (omega arith)
