use Rattle.std.proofs.Common.{◌≤◌, ◌-◌}
use Rattle.streams.specs.Changes.{change}
use Rattle.git_ident_tool.specs.Cursor.{input}
use Rattle.git_ident_tool.specs.Judging.{flow}
use Rattle.git_ident_tool.specs.declared.judging.TheConstants.{MAX_OBJECTS}
use Rattle.git_ident_tool.proofs.Judged.{ObjectsSoFar}
use Rattle.git_ident_tool.proofs.judging.Judge.judge_objects.Given as goal

-- the objects so far were judged
abbrev pub invariant-objects : goal.invariant-objects
invariant-objects g l = record {
  far : ObjectsSoFar l.self.telling
      (flow (change (g.R.Source.known l.initial.reader) (input l.cursor (g.R.Source.known l.reader)))
      (change (g.W.Sink.known l.initial.writer) (g.W.Sink.known l.writer))) l.clean l.count;
  few : l.count ≤ MAX_OBJECTS;
}

abbrev pub decreases-objects : goal.decreases-objects
decreases-objects g l = MAX_OBJECTS - l.count
