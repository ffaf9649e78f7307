use denote.Shadow.{shadow}
use denote.Text.{Utf8}
use Rattle.std.proofs.Common.{◌≡◌, ◌++◌, length}
use Rattle.git_date.specs.Formats.Format.{pieces_text}
use Rattle.git_date.specs.Formats.Shown.{shown_of}
use Rattle.git_date.proofs.Formats.Walks.{Left}
use Rattle.git_date.proofs.format.walks.push_short.Given as goal

abbrev pub invariant-pieces : goal.invariant-pieces
invariant-pieces g l =
    shadow (Utf8 l.rest) × Left l.text l.rest (λ done. l.out.bytes ≡ l.initial.out.bytes ++ pieces_text (shown_of l.shown) done)

abbrev pub decreases-pieces : goal.decreases-pieces
decreases-pieces g l = length l.rest
