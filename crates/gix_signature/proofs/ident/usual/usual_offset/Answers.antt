use Rattle.std.proofs.Common.{◌∙◌, sym}
use Rattle.gix_signature.proofs.Idents.UsualDates.{east_is, west_is}
use Rattle.gix_signature.proofs.ident.usual.usual_offset.Goals as goal

pub returns-then-begins_with : goal.returns-then-begins_with
returns-then-begins_with c =
    let size = c.zone_number-size in
    west_is c.args.text.now size.result c.requires (sym c.begins_with.ensures ∙ c.if-begins_with.true) size.ensures

pub returns-else-begins_with : goal.returns-else-begins_with
returns-else-begins_with c =
    let size = c.zone_number-size in
    east_is c.args.text.now size.result c.requires (sym c.begins_with.ensures ∙ c.if-begins_with.false) size.ensures
