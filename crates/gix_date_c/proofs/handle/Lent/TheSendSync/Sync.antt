-- Threads may look at what C shows at once, since what it owns is the same for each.
use denote.Param.Send.{IsSync, part_keyless}
use Rattle.gix_date_c.specs.contracts.handle.Lent.{the_row}
use Rattle.gix_date_c.proofs.handle.Lent.TheSendSync.Send.{send}

pub sync : IsSync the_row
sync = record { shared = λ d b o κ q. part_keyless the_row send q d b o }
