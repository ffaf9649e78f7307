use denote.Shadow.{shadow}
use denote.Text.{Utf8}
use Rattle.std.proofs.Common.{length}
use Rattle.gix_date.specs.Devices.StreamState.{Takes}
use Rattle.git_date.specs.Formats.Format.{pieces_text}
use Rattle.git_date.specs.Formats.Shown.{shown_of}
use Rattle.git_date.proofs.Formats.Walks.{Left}
use Rattle.git_date.proofs.format.walks.put_pieces.Given as goal

abbrev pub invariant-pieces : goal.invariant-pieces
invariant-pieces g l =
    shadow (Utf8 l.rest)
    × Left l.text l.rest (λ done. Takes (g.W.Sink.known l.initial.out) (g.W.Sink.known l.out) (pieces_text (shown_of l.shown) done))

abbrev pub decreases-pieces : goal.decreases-pieces
decreases-pieces g l = length l.rest
