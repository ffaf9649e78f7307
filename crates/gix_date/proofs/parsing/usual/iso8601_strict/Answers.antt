use Rattle.std.proofs.Common.{FitsSigned, w32, rules}
use Rattle.std.proofs.lemmas.Int.{to_z-of_z}
use Rattle.gix_date.proofs.Fast.UsualPieces.{iso8601_strict_says}
use Rattle.gix_date.proofs.parsing.usual.iso8601_strict.Goals as goal

pub time_within-requires-clause-says : goal.time_within-requires-clause-says
time_within-requires-clause-says c = λ w.
    let fits : FitsSigned w32 c.in_ok-offset.offset = search rules in
    simp to_z-of_z (iso8601_strict_says c.args.text.now c.in_ok-date.date c.in_ok-clock.clock c.in_ok-offset.offset c.requires
    c.in_ok-date.ensures c.in_ok-clock.ensures c.in_ok-offset.ensures w)
