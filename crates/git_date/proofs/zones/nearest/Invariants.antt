use Rattle.std.proofs.Common.{◌≡◌, ◌-◌, None}
use Rattle.jiff.specs.Words.{plain_zone}
use Rattle.git_date.specs.Exact.Zones.{states_of, nearest}
use Rattle.git_date.proofs.zones.nearest.Given as goal

abbrev pub invariant-steps : goal.invariant-steps
invariant-steps l = nearest (l.steps - 1) (states_of (plain_zone l.zone)) l.flag l.instant ≡ None
