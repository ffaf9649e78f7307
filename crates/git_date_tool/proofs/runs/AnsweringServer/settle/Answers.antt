use Rattle.git_date_tool.proofs.Answering.{unsettled}
use Rattle.git_date_tool.proofs.runs.AnsweringServer.settle.Goals as goal

pub returns-in-Err-clause-serves : goal.returns-in-Err-clause-serves
returns-in-Err-clause-serves g c = λ told.
    unsettled c.args.self.now c.send.new.self (g.W.Sink.known c.args.out.now) (g.W.Sink.known c.send.new.out) told c.in-Err.kind
    c.in-Err.ensures.sends
