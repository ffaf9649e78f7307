use Rattle.std.proofs.Common.{◌≡◌, ◌+◌, ◌++◌, replicate}
use Rattle.arrayvec.specs.ArrayString.{array_string_len}
use Rattle.git_date.proofs.format.texts.push_filled.Given as goal

abbrev pub invariant-fills : goal.invariant-fills
invariant-fills g l =
    (l.part.bytes ≡ l.initial.part.bytes ++ replicate l._done l.fill)
    × (array_string_len l.part ≡ array_string_len l.initial.part + l._done)
