-- A handle crosses with the zone that it holds, for a zone crosses, and a block can be freed on any thread.
use mir.Raw.{raw}
use base.Shift.{Keyless}
use denote.Memory.{lone}
use denote.RawPtr.{Ptr}
use denote.Struct.Owning.{shape, fields, to}
use denote.Struct.Struct.{Struct}
use denote.Param.Send.{IsSend, AllSend, owning_send, struct_send, sendable}
use Rattle.std.specs.Prelude.{Option, None, Some}
use Rattle.std.specs.Global.{Global}
use Rattle.std.proofs.Crossing as crossing
use Rattle.std_alloc.proofs.SendSync.{quiet, lies}
use Rattle.std_heap.proofs.Global.TheSendSync as global
use Rattle.gix_date_c.specs.Handles.{held_owns}
use Rattle.gix_date_c.specs.contracts.zone.held.Held as zone
use Rattle.gix_date_c.proofs.zone.held.Held.TheSendSync.{the_send as zone_crosses}
use Rattle.gix_date_c.specs.contracts.handle.Handle.{the_row, the_type}

words_cross : AllSend (fields the_type)
words_cross = (search sendable, (global.the_field_send, tt))

held_crosses : (alloc : Global) (at : Ptr) (held : Option zone.the_row.Denot) → Keyless (held_owns alloc at held)
held_crosses alloc at None = tt
held_crosses alloc at (Some value) = (lies zone.the_row zone_crosses at value, crossing.frees.frees alloc (raw (lone zone.the_row.mir)) at)

pub send : IsSend the_row
send = owning_send the_type words_cross (λ h. held_crosses h.alloc h.at h.held)
    (λ k. quiet (to the_type) ((Struct (shape the_type)).exit k) ((struct_send (shape the_type) words_cross).leaving k))
