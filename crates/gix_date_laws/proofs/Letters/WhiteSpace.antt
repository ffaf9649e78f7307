-- std's white space is the list of Unicode.
use Rattle.std.proofs.Common.{arith}
use Rattle.std.proofs.lemmas.Bool.Decides.{nat_tests}
use Rattle.gix_date.specs.Text.SpaceWords.{StdWhiteSpaceIsUnicodes}

pub is_whitespace_listed : StdWhiteSpaceIsUnicodes
is_whitespace_listed c = grind (arith, nat_tests)
