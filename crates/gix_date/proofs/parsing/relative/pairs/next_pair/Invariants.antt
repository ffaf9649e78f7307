use Rattle.std.proofs.Common.{◌≡◌, ◌≤◌, length}
use denote.Text.{Utf8}
use denote.Shadow.{shadow}
use Rattle.gix_date.specs.Relative.PairsRead.{pairs_read}
use Rattle.gix_date.specs.Relative.Words.{relative_words}
use Rattle.gix_date.proofs.parsing.relative.pairs.next_pair.Given as goal

abbrev pub invariant-loop-word : goal.invariant-loop-word
invariant-loop-word l = shadow (Utf8 l.rest) × (length l.rest ≤ length l.text)
    × (pairs_read (relative_words l.rest) ≡ pairs_read (relative_words l.text))

abbrev pub decreases-loop-word : goal.decreases-loop-word
decreases-loop-word l = length l.rest
