use Rattle.std.proofs.Common.{take, map, string_bytes, Ok}
use Rattle.streams.specs.Serving.{service}
use Rattle.git_date_tool.specs.Runs.{AnswersTo}
use Rattle.git_date_tool.proofs.runs.run_over.Given as goal

-- the texts so far were answered
abbrev pub invariant-loop-text : goal.invariant-loop-text
invariant-loop-text g l =
    let first = service l.initial.answering (g.W.Sink.known l.initial.writer) (g.M.Sink.known l.initial.messages) in
    let now = service l.answering (g.W.Sink.known l.writer) (g.M.Sink.known l.messages) in
    AnswersTo first now (map string_bytes (take l.text-index l.texts)) (Ok tt)
