use Rattle.std.proofs.Common.{◌≡◌, ◌+◌, ◌++◌, length, take, drop, filter}
use Rattle.gix_signature.specs.Ident.Bytes.{is_kept}
use Rattle.gix_date_c.proofs.signature.put_part.Given as goal

abbrev pub invariant-loop-byte : goal.invariant-loop-byte
invariant-loop-byte l =
    (l.place ≡ l.at + length (filter is_kept (take l.byte-index l.part)))
    × (l.out ≡ take l.at l.fn.out ++ (filter is_kept (take l.byte-index l.part) ++ drop l.place l.fn.out))
