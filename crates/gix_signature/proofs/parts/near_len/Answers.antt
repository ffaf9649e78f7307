use Rattle.std.proofs.Common.{ap}
use Rattle.gix_signature.proofs.Idents.Near.{near, one_near, place_of}
use Rattle.gix_signature.proofs.parts.near_len.Goals as goal

pub returns-then-places-eq0 : goal.returns-then-places-eq0
returns-then-places-eq0 c = near c.args.text.now 16 c.requires (ap place_of c.if-places-eq0.true)

pub returns : goal.returns
returns c = near c.args.text.now _ c.requires (one_near _ c.if-places-eq0.false)
