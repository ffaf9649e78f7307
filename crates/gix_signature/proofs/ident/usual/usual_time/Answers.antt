use Rattle.std.proofs.Common.{◌∙◌, ap, arith, Some, w64}
use Rattle.std.proofs.lemmas.Int.{to_z_pos}
use Rattle.std.specs.Str.Parse.{signed_digits_value}
use Rattle.gix_signature.specs.Ident.Bytes.{is_minus}
use Rattle.gix_signature.specs.Ident.Parts.{date_text_of}
use Rattle.gix_signature.specs.Ident.Texts.{begins_with}
use Rattle.gix_signature.specs.Ident.Times.{git_time_at}
use Rattle.gix_signature.proofs.Idents.UsualDates.{time_is}
use Rattle.gix_signature.proofs.ident.usual.usual_time.Goals as goal

pub returns : goal.returns
returns c =
    let zone = c.args.parts.offset.now in
    let n = c.small_number-seconds in
    let is_small = n.ensures.small in
    c.time_of.ensures
    ∙ ap (λ z. git_time_at (Some z) (begins_with is_minus zone) (signed_digits_value 10 zone))
    (to_z_pos w64 n.result (omega (arith, is_small)))
    ∙ time_is (date_text_of c.args.parts) n.result n.ensures.value is_small
