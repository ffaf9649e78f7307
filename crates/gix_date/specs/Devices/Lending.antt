-- What a buffer holds once the text that was lent out of it is given back.
use Rattle.std.specs.Prelude.{◌≡◌, ℕ, List}
use Rattle.std.specs.Borrow.{MutBor, Fml}
use Rattle.std.specs.Io.BufRead.{Rests}
use Rattle.gix_date.specs.declared.parsing.TimeBuf.{TimeBuf}
use Rattle.gix_date.specs.contracts.parsing.TimeBuf.{the_row}

-- the buffer holds this text when the loan has ended
abbrev pub LeavesText : MutBor TimeBuf → List ℕ → Fml
LeavesText buf text = Rests the_row buf (λ left. left.text.bytes ≡ text)
