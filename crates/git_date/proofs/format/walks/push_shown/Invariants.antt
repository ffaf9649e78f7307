use denote.Shadow.{shadow}
use denote.Text.{Utf8}
use Rattle.std.proofs.Common.{◌≡◌, ◌++◌, length, string_bytes}
use Rattle.git_date.specs.Formats.Format.{pieces_text}
use Rattle.git_date.specs.Formats.Shown.{shown_of}
use Rattle.git_date.proofs.Formats.Walks.{Left}
use Rattle.git_date.proofs.format.walks.push_shown.Given as goal

abbrev pub invariant-pieces : goal.invariant-pieces
invariant-pieces l =
    shadow (Utf8 l.rest)
    × Left l.text l.rest (λ done. string_bytes l.out ++ l.part.bytes ≡ string_bytes l.initial.out ++ pieces_text (shown_of l.shown) done)

abbrev pub decreases-pieces : goal.decreases-pieces
decreases-pieces l = length l.rest
