use Rattle.git_ident_tool.proofs.Reported.{said}
use Rattle.git_ident_tool.proofs.program.say.Goals as goal

pub returns : goal.returns
returns g c =
    said (g.M.Sink.known c.args.messages.now) (g.M.Sink.known c.write_message.new.messages) c.args.words.now c.args.more.now
    c.write_message.ensures
