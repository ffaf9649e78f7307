use Rattle.std.proofs.Common.{refl}
use Rattle.gix_date.proofs.Printing.Printing.{at-moment}
use Rattle.gix_date.proofs.time.Time.format_by_jiff.Goals as goal

pub returns : goal.returns
returns c = at-moment c.args.self.now c.args.pattern.now c.in_ok-to_zoned.field-0 c.pattern_text.result c.in_ok-to_zoned.ensures.value
    (c.in_ok-to_zoned.ensures.succeeds.0 refl) c.pattern_text.ensures
