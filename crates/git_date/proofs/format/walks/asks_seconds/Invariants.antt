use denote.Shadow.{shadow}
use denote.Text.{Utf8}
use Rattle.std.proofs.Common.{◌≡◌, false, length}
use Rattle.git_date.specs.Formats.Format.{asks_seconds}
use Rattle.git_date.proofs.Formats.Walks.{Left}
use Rattle.git_date.proofs.format.walks.asks_seconds.Given as goal

abbrev pub invariant-pieces : goal.invariant-pieces
invariant-pieces l =
    shadow (Utf8 l.rest) × Left l.text l.rest (λ done. asks_seconds done ≡ false)

abbrev pub decreases-pieces : goal.decreases-pieces
decreases-pieces l = length l.rest
