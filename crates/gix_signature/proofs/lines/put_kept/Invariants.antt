use Rattle.std.proofs.Common.{◌≡◌, ℕ, List, ◌++◌, length}
use Rattle.std.specs.List.{filter}
use Rattle.gix_date.specs.Devices.StreamState.{Takes}
use Rattle.gix_signature.specs.Ident.Bytes.{is_kept}
use Rattle.gix_signature.proofs.lines.put_kept.Given as goal

abbrev pub invariant-loop-rest : goal.invariant-loop-rest
invariant-loop-rest g l =
    (written : List ℕ) × (filter is_kept l.text ≡ written ++ filter is_kept l.rest)
    × Takes (g.W.Sink.known l.fn.out) (g.W.Sink.known l.out) written

abbrev pub decreases-loop-rest : goal.decreases-loop-rest
decreases-loop-rest g l = length l.rest
