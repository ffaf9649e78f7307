use Rattle.std.proofs.Common.{◌≡◌, ◌-◌, length, option_copied}
use Rattle.gix_date.proofs.Careful.WholeWords.{Walked}
use Rattle.gix_date.proofs.parsing.relative.pairs.unclear_place.Given as goal

abbrev pub invariant-loop-place : goal.invariant-loop-place
invariant-loop-place l = record {
  bytes : l.bytes ≡ l.text;
  walked : Walked l.text l.place (option_copied l.before);
}

abbrev pub decreases-loop-place : goal.decreases-loop-place
decreases-loop-place l = length l.bytes - l.place
