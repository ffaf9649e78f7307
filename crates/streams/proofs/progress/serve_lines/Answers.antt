use Rattle.std.proofs.Common.{◌∙◌, sym, subst}
use Rattle.streams.specs.Changes.{change}
use Rattle.streams.specs.Serving.{Ran, service}
use Rattle.streams.proofs.Running.{Ran-cut, Ran-refused, Ran-settled}
use Rattle.streams.proofs.progress.serve_lines.Goals as goal

pub returns-then-is_refused : goal.returns-then-is_refused
returns-then-is_refused g c =
    let first = service c.args.server.now (g.W.Sink.known c.args.writer.now) (g.M.Sink.known c.args.messages.now) in
    let then = service c.serve_all-ended.new.server (g.W.Sink.known c.serve_all-ended.new.writer)
    (g.M.Sink.known c.serve_all-ended.new.messages) in
    let reading = change (g.R.Source.known c.args.reader.now) (g.R.Source.known c.serve_all-ended.new.reader) in
    let ran = subst (λ most. Ran (g.S.Server.serves first then) (Unit {0}) most reading c.serve_all-ended.result)
    c.new-progress.ensures.most c.serve_all-ended.ensures in
    Ran-refused _ _ _ _ _ (sym c.is_refused.ensures ∙ c.if-is_refused.true) ran

pub returns-in-Err : goal.returns-in-Err
returns-in-Err g c =
    let first = service c.args.server.now (g.W.Sink.known c.args.writer.now) (g.M.Sink.known c.args.messages.now) in
    let then = service c.serve_all-ended.new.server (g.W.Sink.known c.serve_all-ended.new.writer)
    (g.M.Sink.known c.serve_all-ended.new.messages) in
    let last = service c.settle.new.self (g.W.Sink.known c.settle.new.out) (g.M.Sink.known c.serve_all-ended.new.messages) in
    let reading = change (g.R.Source.known c.args.reader.now) (g.R.Source.known c.serve_all-ended.new.reader) in
    let ran = subst (λ most. Ran (g.S.Server.serves first then) (Unit {0}) most reading c.serve_all-ended.result)
    c.new-progress.ensures.most c.serve_all-ended.ensures in
    Ran-cut _ _ first then last _ _ c.in-Err.refused g.met.S.Server.joins (sym c.is_refused.ensures ∙ c.if-is_refused.false) ran
    (c.in-Err.ensures.serves _)

pub returns : goal.returns
returns g c =
    let first = service c.args.server.now (g.W.Sink.known c.args.writer.now) (g.M.Sink.known c.args.messages.now) in
    let then = service c.serve_all-ended.new.server (g.W.Sink.known c.serve_all-ended.new.writer)
    (g.M.Sink.known c.serve_all-ended.new.messages) in
    let last = service c.settle.new.self (g.W.Sink.known c.settle.new.out) (g.M.Sink.known c.serve_all-ended.new.messages) in
    let reading = change (g.R.Source.known c.args.reader.now) (g.R.Source.known c.serve_all-ended.new.reader) in
    let ran = subst (λ most. Ran (g.S.Server.serves first then) (Unit {0}) most reading c.serve_all-ended.result)
    c.new-progress.ensures.most c.serve_all-ended.ensures in
    Ran-settled _ _ first then last _ _ g.met.S.Server.joins (sym c.is_refused.ensures ∙ c.if-is_refused.false) ran
    (c.in_default.ensures.serves _) c.in_default.ensures.settled
