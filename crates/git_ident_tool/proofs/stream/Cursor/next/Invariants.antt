use Rattle.std.proofs.Common.{◌+◌, ◌-◌, ◌<◌, length}
use Rattle.git_ident_tool.specs.Cursor.{input}
use Rattle.git_ident_tool.proofs.Taking.{Begun}
use Rattle.git_ident_tool.proofs.stream.Cursor.next.Given as goal

-- the line has begun, and has room
abbrev pub invariant-reads : goal.invariant-reads
invariant-reads g l = record {
  begun : Begun l.most (input l.initial.self (g.R.Source.known l.initial.reader)) (input l.self (g.R.Source.known l.reader)) l.line.items;
  room : 0 < l.most → length l.line.items < l.most;
}

-- each read but the first adds a byte to the line
abbrev pub decreases-reads : goal.decreases-reads
decreases-reads g l = (l.most - length l.line.items) + (l.most - length l.line.items) + (1 - (l.self.to - l.self.from))
