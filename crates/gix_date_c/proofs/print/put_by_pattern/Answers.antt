use Rattle.std.proofs.Common.{◌≡◌, arith, rules, ℕ, List, IsUtf8, Ok, Err, Some, IfSome, sym, subst}
use Rattle.gix_date.specs.Printing.Formats.{IsPatternText}
use Rattle.gix_date.specs.declared.time.Time.{Time}
use Rattle.gix_date_c.specs.Printing.{IsPrinted, PrintsPatternSo}
use Rattle.gix_date_c.specs.Values.Times.{load_time}
use Rattle.gix_date_c.proofs.Printed.{not_text-refused, pattern-prints, text-printed, text-by_pattern}
use Rattle.gix_date_c.proofs.print.put_by_pattern.Goals as goal

pub returns-in-Err : goal.returns-in-Err
returns-in-Err c = (Err c.in-Err.status, not_text-refused _ _ c.in-Err.status c.in-Err.ensures, c.store_text.ensures)

pub returns-in-Some : goal.returns-in-Some
returns-in-Some c =
    let t = load_time c.args.time.now in
    let pattern = c.args.pattern.now in
    let text = c.as_str.result.now in
    let is_text : IsUtf8 text = search rules in
    let is_some : c.format_by_pattern_to_buf-printed.result ≡ Some c.in-Some.text = c.in-Some.is in
    let of_printed = subst (λ o. IfSome o (λ text. IsPatternText c.load_time-time.result c.in-Ok.pattern.now text.bytes)) is_some
    c.format_by_pattern_to_buf-printed.ensures.text in
    let of_time = subst (λ (t : Time). IsPatternText t c.in-Ok.pattern.now c.in-Some.text.bytes) c.load_time-time.ensures of_printed in
    let of_pattern = subst (λ (p : List ℕ). IsPatternText t p c.in-Some.text.bytes) c.in-Ok.ensures.0 of_time in
    let is = subst (λ (text : List ℕ). IsPatternText t pattern text) (sym c.as_str.ensures.value) of_pattern in
    let printed = text-printed (PrintsPatternSo c.args.or_unix t pattern) c.args.alloc text (omega (arith, c.as_str.ensures.fits)) is_text
    (λ s bytes. pattern-prints c.args.or_unix t pattern text s is bytes) in (
      Ok text,
      text-by_pattern (PrintsPatternSo c.args.or_unix t pattern) _ (Ok text) c.in-Ok.ensures.1 printed,
      c.store_text-in-Some.ensures,
    )

pub returns-in-None : goal.returns-in-None
returns-in-None c =
    let t = load_time c.args.time.now in
    let put = c.put_unnamed-in-None.ensures in
    let of_time =
    subst (λ (t : Time). IsPrinted (PrintsPatternSo c.args.or_unix t c.in-Ok.pattern.now) put.0) c.load_time-time.ensures put.1 in
    let of_pattern = subst (λ (p : List ℕ). IsPrinted (PrintsPatternSo c.args.or_unix t p) put.0) c.in-Ok.ensures.0 of_time in
    (put.0, text-by_pattern (PrintsPatternSo c.args.or_unix t c.args.pattern.now) _ put.0 c.in-Ok.ensures.1 of_pattern, put.2)

pub returns-then-not-may_be_named : goal.returns-then-not-may_be_named
returns-then-not-may_be_named c =
    let t = load_time c.args.time.now in
    let put = c.put_unnamed.ensures in
    let of_time =
    subst (λ (t : Time). IsPrinted (PrintsPatternSo c.args.or_unix t c.in-Ok.pattern.now) put.0) c.load_time-time.ensures put.1 in
    let of_pattern = subst (λ (p : List ℕ). IsPrinted (PrintsPatternSo c.args.or_unix t p) put.0) c.in-Ok.ensures.0 of_time in
    (put.0, text-by_pattern (PrintsPatternSo c.args.or_unix t c.args.pattern.now) _ put.0 c.in-Ok.ensures.1 of_pattern, put.2)
