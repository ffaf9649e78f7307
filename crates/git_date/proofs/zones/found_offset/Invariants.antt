use Rattle.std.proofs.Common.{◌≡◌, ◌-◌}
use Rattle.jiff.specs.Words.{plain_zone}
use Rattle.git_date.specs.Exact.Zones.{states_of, most_moves, searched, found_offset}
use Rattle.git_date.proofs.zones.found_offset.Given as goal

abbrev pub invariant-moves : goal.invariant-moves
invariant-moves l =
    searched (most_moves - l._move) (states_of (plain_zone l.zone)) l.asked l.trail
    ≡ found_offset (states_of (plain_zone l.zone)) l.asked l.guess
