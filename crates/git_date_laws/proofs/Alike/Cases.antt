-- Letter case, and later lines.
use Rattle.std.proofs.Common.{ℕ, List}
use Rattle.jiff.specs.declared.zoned.Zoned.{Zoned}
use Rattle.git_date.specs.Rules.Dates.{now_of}
use Rattle.git_date_laws.proofs.Alike.Texts.{same-case, same-lines}
use Rattle.git_date_laws.specs.Laws.{IgnoresCase, IgnoresLines}

pub any_case : (moment : Zoned) (text : List ℕ) → IgnoresCase moment text
any_case moment text other same = same-case (now_of moment) text other same

pub any_lines : (moment : Zoned) (text : List ℕ) → IgnoresLines moment text
any_lines moment text lines complete = same-lines (now_of moment) text lines complete
