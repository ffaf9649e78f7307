use Rattle.std.proofs.Common.{◌≡◌, ◌+◌, length}
use Rattle.std.specs.List.{prefix_len}
use Rattle.gix_signature.specs.Signature.{is_allowed}
use Rattle.gix_signature.proofs.parts.part_len.Given as goal

abbrev pub invariant-loop-rest : goal.invariant-loop-rest
invariant-loop-rest l =
    (prefix_len is_allowed l.text ≡ l.len + prefix_len is_allowed l.rest) × (length l.text ≡ l.len + length l.rest)

abbrev pub decreases-loop-rest : goal.decreases-loop-rest
decreases-loop-rest l = length l.rest
