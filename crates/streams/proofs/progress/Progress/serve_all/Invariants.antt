use Rattle.std.proofs.Common.{◌+◌, ◌-◌, ◌*◌, length}
use Rattle.streams.specs.declared.lines.TheConstants.{MAX_LINE_LEN}
use Rattle.streams.specs.Changes.{change}
use Rattle.streams.specs.Progress.{first_held, held_of, stage}
use Rattle.streams.specs.Serving.{service}
use Rattle.streams.proofs.Running.{HasRead}
use Rattle.streams.proofs.progress.Progress.serve_all.Given as goal

-- what was read so far was taken in
abbrev pub invariant-pieces : goal.invariant-pieces
invariant-pieces g l =
    let first = service l.initial.server (g.W.Sink.known l.initial.writer) (g.M.Sink.known l.initial.messages) in
    let now = service l.server (g.W.Sink.known l.writer) (g.M.Sink.known l.messages) in
    HasRead g.S.Server.serves (stage (first_held l.initial.self.most) first) (stage (held_of l.self) now)
    (change (g.R.Source.known l.initial.reader) (g.R.Source.known l.reader))

-- how many bytes may still come within the limits, each newline with its line
abbrev pub decreases-pieces : goal.decreases-pieces
decreases-pieces g l = (l.initial.self.most + 1) * (MAX_LINE_LEN + 1) - (l.self.ended * (MAX_LINE_LEN + 1) + length l.self.line.items)
