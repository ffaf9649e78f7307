use Rattle.std.proofs.Common.{inr, sym}
use Rattle.git_ident_tool.specs.Cursor.{input}
use Rattle.git_ident_tool.proofs.Streams.{breaks_lines, breaks_rest, judges_object}
use Rattle.git_ident_tool.proofs.judging.Judge.judge_object.Goals as goal

pub returns-in-Err-judge_contents : goal.returns-in-Err-judge_contents
returns-in-Err-judge_contents g c =
    inr (breaks_lines c.args.self.telling c.args.header.now c.id_of.result.now c.in-Ok.said
    (input c.args.cursor.now (g.R.Source.known c.args.reader.now))
    (input c.judge_contents.new.cursor (g.R.Source.known c.judge_contents.new.reader)) (g.W.Sink.known c.args.writer.now)
    (g.W.Sink.known c.judge_contents.new.writer)
    c.in-Err-judge_contents.fault c.id_of.ensures (sym c.in-Ok.ensures) c.in-Err-judge_contents.ensures)

pub returns-in-Ok-end_object : goal.returns-in-Ok-end_object
returns-in-Ok-end_object g c =
    judges_object c.args.self.telling c.args.header.now c.id_of.result.now c.in-Ok.said
    (input c.args.cursor.now (g.R.Source.known c.args.reader.now))
    (input c.judge_contents.new.cursor (g.R.Source.known c.judge_contents.new.reader))
    (input c.end_object.new.cursor (g.R.Source.known c.end_object.new.reader))
    (g.W.Sink.known c.args.writer.now) (g.W.Sink.known c.judge_contents.new.writer)
    c.in-Ok-judge_contents.judged c.id_of.ensures (sym c.in-Ok.ensures) c.in-Ok-judge_contents.ensures c.in-Ok-end_object.ensures

pub returns-in-Err-end_object : goal.returns-in-Err-end_object
returns-in-Err-end_object g c =
    inr (breaks_rest c.args.self.telling c.args.header.now c.id_of.result.now c.in-Ok.said
    (input c.args.cursor.now (g.R.Source.known c.args.reader.now))
    (input c.judge_contents.new.cursor (g.R.Source.known c.judge_contents.new.reader))
    (input c.end_object.new.cursor (g.R.Source.known c.end_object.new.reader))
    (g.W.Sink.known c.args.writer.now) (g.W.Sink.known c.judge_contents.new.writer)
    c.in-Ok-judge_contents.judged c.in-Err-end_object.fault c.id_of.ensures (sym c.in-Ok.ensures) c.in-Ok-judge_contents.ensures
    c.in-Err-end_object.ensures)
