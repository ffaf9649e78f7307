use Rattle.std.proofs.Common.{◌≡◌, take}
use Rattle.arrayvec.specs.ArrayString.{array_string_len}
use Rattle.git_date.specs.Formats.Names.{cased}
use Rattle.git_date.proofs.format.texts.cased.Given as goal

abbrev pub invariant-letters : goal.invariant-letters
invariant-letters l =
    (l.text.bytes ≡ cased l.case (take l.letter-index l.letter-items)) × (array_string_len l.text ≡ l.letter-index)
