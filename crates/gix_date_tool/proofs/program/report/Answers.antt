use Rattle.std.proofs.Common.{sym, subst}
use Rattle.gix_date_tool.specs.Messages.{message_of, program}
use Rattle.streams.specs.Changes.{change}
use Rattle.streams.specs.Messages.{Reports, WritesMessage, message}
use Rattle.gix_date_tool.proofs.program.report.Goals as goal

pub returns-in-Shown : goal.returns-in-Shown
returns-in-Shown g c =
    let telling = change (g.M.Sink.known c.args.messages.now) (g.M.Sink.known c.write_message.new.messages) in
    subst (λ outcome. Reports telling (message_of outcome)) (sym c.in-Shown.is)
    (subst (λ words. WritesMessage telling (message program words)) c.text.ensures c.write_message.ensures)
