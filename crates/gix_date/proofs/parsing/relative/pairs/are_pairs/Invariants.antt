use Rattle.std.proofs.Common.{◌≡◌, true, false, length}
use denote.Text.{Utf8}
use denote.Shadow.{shadow}
use Rattle.std.specs.List.{fold}
use Rattle.gix_date.specs.Relative.Words.{relative_words}
use Rattle.gix_date.specs.Relative.Scan.{step}
use Rattle.gix_date.proofs.Relative.RelativeScans.{scan}
use Rattle.gix_date.proofs.parsing.relative.pairs.are_pairs.Given as goal

abbrev pub invariant-loop-word : goal.invariant-loop-word
invariant-loop-word l = shadow (Utf8 l.rest)
    × (fold step l.scan (relative_words l.rest) ≡ fold step (scan false false true false) (relative_words l.text))

abbrev pub decreases-loop-word : goal.decreases-loop-word
decreases-loop-word l = length l.rest
