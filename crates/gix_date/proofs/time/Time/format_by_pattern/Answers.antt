use Rattle.std.proofs.Common.{List, ℕ, refl, subst, sym}
use Rattle.gix_date.specs.Printing.Formats.{IsPatternText}
use Rattle.gix_date.proofs.Printing.ShownTexts.{copy-prints}
use Rattle.gix_date.proofs.time.Time.format_by_pattern.Goals as goal

pub returns-in-Some : goal.returns-in-Some
returns-in-Some c =
    let t = c.args.self.now in
    let h = c.in-Some.ensures in
    let lent = subst (λ (text : List ℕ). IsPatternText t c.args.pattern.now text) (sym c.as_str.ensures.value) h.text in
    copy-prints c.args.pattern.now t c.as_str.result.now c.copy_text.result (h.succeeds.0 refl).converts lent c.copy_text.ensures.text
    c.copy_text.ensures.memory

pub returns-then-format_by_pattern_short : goal.returns-then-format_by_pattern_short
returns-then-format_by_pattern_short c =
    let t = c.args.self.now in
    let h = c.format_by_pattern_short.ensures in
    let lent = subst (λ (text : List ℕ). IsPatternText t c.args.pattern.now text) (sym c.as_str-then-format_by_pattern_short.ensures.value)
    (h.text c.if-format_by_pattern_short.true) in
    copy-prints c.args.pattern.now t c.as_str-then-format_by_pattern_short.result.now c.copy_text-then-format_by_pattern_short.result
    (h.converts c.if-format_by_pattern_short.true) lent c.copy_text-then-format_by_pattern_short.ensures.text
    c.copy_text-then-format_by_pattern_short.ensures.memory
