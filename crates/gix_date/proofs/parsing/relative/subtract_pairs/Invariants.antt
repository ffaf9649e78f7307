use Rattle.std.proofs.Common.{length}
use denote.Text.{Utf8}
use denote.Shadow.{shadow}
use Rattle.jiff.specs.Words.{plain_zoned, zoned_nanos, KeepsZone}
use Rattle.gix_date.specs.Relative.PairsRead.{pairs_read}
use Rattle.gix_date.specs.Relative.Words.{relative_words}
use Rattle.gix_date.proofs.Relative.Chains.{Left}
use Rattle.gix_date.proofs.parsing.relative.subtract_pairs.Given as goal

abbrev pub invariant-loop-pair : goal.invariant-loop-pair
invariant-loop-pair l =
    shadow (Utf8 l.rest) × KeepsZone l.start l.moment
    × Left (plain_zoned l.start).time_zone (pairs_read (relative_words l.rest)) (zoned_nanos l.moment) (pairs_read (relative_words l.text))
    (zoned_nanos l.start)

abbrev pub decreases-loop-pair : goal.decreases-loop-pair
decreases-loop-pair l = length l.rest
