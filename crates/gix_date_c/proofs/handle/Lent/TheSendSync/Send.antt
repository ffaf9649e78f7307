-- What C shows crosses with the zone, since threads may read a zone at once.
use base.Shift.{Keyless}
use base.Fml.{Lft}
use denote.RawPtr.{Ptr}
use denote.Struct.Owning.{shape, fields, to}
use denote.Struct.Struct.{Struct}
use denote.Param.Send.{IsSend, AllSend, owning_send, struct_send, sendable}
use Rattle.std.specs.Prelude.{Option, None, Some}
use Rattle.std_alloc.proofs.SendSync.{quiet, seen}
use Rattle.gix_date_c.specs.Handles.{held_shown}
use Rattle.gix_date_c.specs.contracts.zone.held.Held as zone
use Rattle.gix_date_c.proofs.zone.held.Held.TheSendSync.{the_sync}
use Rattle.gix_date_c.specs.contracts.handle.Lent.{the_row, the_type}

words_cross : AllSend (fields the_type)
words_cross = (search sendable, tt)

pub shown_crosses : (κ : Lft) (at : Ptr) (held : Option zone.the_row.Denot) → Keyless (held_shown κ at held)
shown_crosses κ at None = tt
shown_crosses κ at (Some value) = ((λ q. tt), seen zone.the_row the_sync at value κ)

pub send : IsSend the_row
send = owning_send the_type words_cross (λ d. shown_crosses d.life d.at d.held)
    (λ k. quiet (to the_type) ((Struct (shape the_type)).exit k) ((struct_send (shape the_type) words_cross).leaving k))
