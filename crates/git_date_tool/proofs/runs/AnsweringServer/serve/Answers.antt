use Rattle.git_date_tool.proofs.Answering.{refused_before, unanswered, unwritten}
use Rattle.git_date_tool.proofs.runs.AnsweringServer.serve.Goals as goal

pub returns-in-Err : goal.returns-in-Err
returns-in-Err g c =
    let told = g.M.Sink.known c.args.messages.now in
    refused_before c.args.self.now c.settle.new.self (g.W.Sink.known c.args.out.now) (g.W.Sink.known c.settle.new.out) told c.args.line.now
    c.in-Err.fault (c.in-Err.ensures.serves told)

pub returns-in_default : goal.returns-in_default
returns-in_default g c =
    let told = g.M.Sink.known c.args.messages.now in
    unanswered c.args.self.now c.settle.new.self (g.W.Sink.known c.args.out.now) (g.W.Sink.known c.settle.new.out) told c.args.line.now
    (c.in_default-settle.ensures.serves told) c.in_default-settle.ensures.settled

pub returns-in-Err-put : goal.returns-in-Err-put
returns-in-Err-put g c =
    unwritten c.args.self.now c.put.new.outbox (g.W.Sink.known c.args.out.now) (g.W.Sink.known c.put.new.out)
    (g.M.Sink.known c.args.messages.now) c.args.line.now c.in-Ok.answer c.in-Err-put.kind c.in-Ok.ensures c.in-Err-put.ensures.sends
