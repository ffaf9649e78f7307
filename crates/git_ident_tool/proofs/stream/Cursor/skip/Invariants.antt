use Rattle.std.proofs.Common.{◌+◌, ◌-◌}
use Rattle.git_ident_tool.specs.Cursor.{input}
use Rattle.git_ident_tool.proofs.Taking.{Skipped}
use Rattle.git_ident_tool.proofs.stream.Cursor.skip.Given as goal

-- all bytes but those that are left were skipped
abbrev pub invariant-skips : goal.invariant-skips
invariant-skips g l =
    Skipped l.count (input l.initial.self (g.R.Source.known l.initial.reader)) (input l.self (g.R.Source.known l.reader)) l.left

-- each read but the first leaves a byte less
abbrev pub decreases-skips : goal.decreases-skips
decreases-skips g l = l.left + l.left + (1 - (l.self.to - l.self.from))
