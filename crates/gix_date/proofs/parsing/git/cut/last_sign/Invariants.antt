use Rattle.std.proofs.Common.{◌≡◌, ◌≤◌, length}
use Rattle.gix_date.specs.Git.ClockCut.{last_place, has_offset_at, last_sign}
use Rattle.gix_date.proofs.parsing.git.cut.last_sign.Given as goal

-- no place from here on passes
abbrev pub invariant-loop-end : goal.invariant-loop-end
invariant-loop-end l = record {
  bytes : l.bytes ≡ l.text;
  within : l.end ≤ length l.text;
  last : last_place (has_offset_at l.text) l.end ≡ last_sign l.text;
}

abbrev pub decreases-loop-end : goal.decreases-loop-end
decreases-loop-end l = l.end
