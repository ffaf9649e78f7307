use Rattle.std.proofs.Common.{arith, rules, ℕ, List, IsUtf8, Ok, sym, subst}
use Rattle.gix_date.specs.Printing.Formats.{IsPatternText}
use Rattle.gix_date_c.specs.Printing.{PrintsPatternSo}
use Rattle.gix_date_c.proofs.Printed.{pattern-prints, text-printed}
use Rattle.gix_date_c.proofs.print.put_unnamed.Goals as goal

pub returns-then-format_by_pattern_short : goal.returns-then-format_by_pattern_short
returns-then-format_by_pattern_short c =
    let t = c.args.time in
    let pattern = c.args.pattern.now in
    let text = c.as_str.result.now in
    let is_text : IsUtf8 text = search rules in
    let shown = c.format_by_pattern_short.ensures.text c.if-format_by_pattern_short.true in
    let is = subst (λ (text : List ℕ). IsPatternText t pattern text) (sym c.as_str.ensures.value) shown in
    let printed = text-printed (PrintsPatternSo c.args.or_unix t pattern) c.args.alloc text (omega (arith, c.as_str.ensures.fits)) is_text
    (λ s bytes. pattern-prints c.args.or_unix t pattern text s is bytes) in
    (Ok text, printed, c.store_text.ensures)
