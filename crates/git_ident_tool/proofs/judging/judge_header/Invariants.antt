use Rattle.streams.specs.Changes.{change}
use Rattle.git_ident_tool.specs.Cursor.{input}
use Rattle.git_ident_tool.specs.Judging.{flow}
use Rattle.git_ident_tool.proofs.Judged.{LinesSoFar}
use Rattle.git_ident_tool.proofs.judging.judge_header.Given as goal

-- the lines so far were judged
abbrev pub invariant-lines : goal.invariant-lines
invariant-lines g l =
    LinesSoFar l.judge.telling l.id l.said
    (flow (change (input l.initial.cursor (g.R.Source.known l.initial.reader)) (input l.cursor (g.R.Source.known l.reader)))
    (change (g.W.Sink.known l.initial.writer) (g.W.Sink.known l.writer))) (l.clean, l.left)

abbrev pub decreases-lines : goal.decreases-lines
decreases-lines g l = l.left
