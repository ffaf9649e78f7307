use Rattle.std.proofs.Common.{◌≡◌, arith, rules, ℕ, List, IsUtf8, Ok, Some, IfSome, sym, subst}
use Rattle.gix_date.specs.Printing.Formats.{IsTextOf}
use Rattle.gix_date.specs.declared.time.Time.{Time}
use Rattle.gix_date_c.specs.Printing.{PrintsSo}
use Rattle.gix_date_c.specs.Values.Times.{load_time}
use Rattle.gix_date_c.proofs.Printed.{text-printed, text-prints}
use Rattle.gix_date_c.proofs.print.put_in_format.Goals as goal

pub returns-in-Some : goal.returns-in-Some
returns-in-Some c =
    let t = load_time c.args.time.now in
    let format = c.args.format in
    let text = c.as_str.result.now in
    let is_text : IsUtf8 text = search rules in
    let is_some : c.format_to_buf-printed.result ≡ Some c.in-Some.text = c.in-Some.is in
    let of_printed =
    subst (λ o. IfSome o (λ text. IsTextOf c.load_time.result format text.bytes)) is_some c.format_to_buf-printed.ensures.text in
    let of_time = subst (λ (t : Time). IsTextOf t format c.in-Some.text.bytes) c.load_time.ensures of_printed in
    let is = subst (λ (text : List ℕ). IsTextOf t format text) (sym c.as_str.ensures.value) of_time in
    let printed = text-printed (PrintsSo c.args.or_unix t format) c.args.alloc text (omega (arith, c.as_str.ensures.fits)) is_text
    (λ s bytes. text-prints c.args.or_unix t format text s is bytes) in
    (Ok text, printed, c.store_text.ensures)
