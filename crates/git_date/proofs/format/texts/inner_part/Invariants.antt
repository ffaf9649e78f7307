use Rattle.std.proofs.Common.{◌≡◌, ◌*◌, ◌≤◌, take}
use Rattle.arrayvec.specs.ArrayString.{array_string_len}
use Rattle.git_date.specs.Formats.Flags.{inner_flags}
use Rattle.git_date.specs.Formats.Texts.{inner_texts}
use Rattle.git_date.proofs.format.texts.inner_part.Given as goal

abbrev pub invariant-pieces : goal.invariant-pieces
invariant-pieces l =
    (l.part.bytes ≡ inner_texts (inner_flags l.flags) l.t (take l.inner-index l.inner-items))
    × (array_string_len l.part ≤ 9 * l.inner-index)
