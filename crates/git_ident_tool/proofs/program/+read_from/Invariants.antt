use Rattle.std.proofs.Common.{length}
use Rattle.git_ident_tool.proofs.program.+read_from.Given as goal

abbrev pub decreases-read_from : goal.decreases-read_from
decreases-read_from l = length l.words.now
