use Rattle.std.proofs.Common.{[], ◌∷◌, ◌∙◌, sym, subst, append_assoc, Ok, Err}
use Rattle.gix_date.specs.Text.Characters.{newline}
use Rattle.streams.specs.Lines.{with_newline}
use Rattle.streams.specs.Progress.{IsReady, Stage, TakesIn, held_of, stage}
use Rattle.streams.specs.Serving.{service}
use Rattle.streams.proofs.Taking.{TakesIn-beyond, some_line}
use Rattle.streams.proofs.progress.Progress.next_line.Goals as goal

pub returns-in-Ok-Some : goal.returns-in-Ok-Some
returns-in-Ok-Some g c = rw c.in-Ok-Some.field-0-is at c.in-Ok-Some.ensures

pub returns-in_default : goal.returns-in_default
returns-in_default g c = (c.in_default.ensures, rw c.in-Ok-None.field-0-is at c.in-Ok-None.ensures)

pub end_line-requires-clause-ready : goal.end_line-requires-clause-ready
end_line-requires-clause-ready g c =
    let same = rw c.in-Ok-None.field-0-is at c.in-Ok-None.ensures in
    subst (λ (s : Stage _). IsReady s.held) (sym same) c.requires

pub returns-in-Ok : goal.returns-in-Ok
returns-in-Ok g c =
    let part = c.in-Some.part.now in
    let last = stage (held_of c.end_line.new.self)
    (service c.end_line.new.server (g.W.Sink.known c.end_line.new.writer) (g.M.Sink.known c.end_line.new.messages)) in
    let same = rw c.in-Ok-None.field-0-is at c.in-Ok-None.ensures in
    record {
      front = with_newline part;
      cut = c.in-Some.ensures.1 ∙ sym (append_assoc part (newline ∷ []) c.in-Some.after.now);
      some = some_line part;
      took = subst (λ s. TakesIn g.S.Server.serves s last (with_newline part) (Ok tt)) same c.in-Ok.ensures;
    }

pub returns-in-Err-end_line : goal.returns-in-Err-end_line
returns-in-Err-end_line g c =
    let part = c.in-Some.part.now in
    let after = c.in-Some.after.now in
    let first = stage (held_of c.args.self.now)
    (service c.args.server.now (g.W.Sink.known c.args.writer.now) (g.M.Sink.known c.args.messages.now)) in
    let last = stage (held_of c.end_line.new.self)
    (service c.end_line.new.server (g.W.Sink.known c.end_line.new.writer) (g.M.Sink.known c.end_line.new.messages)) in
    let same = rw c.in-Ok-None.field-0-is at c.in-Ok-None.ensures in
    let whole = c.in-Some.ensures.1 ∙ sym (append_assoc part (newline ∷ []) after) in
    let stop = c.in-Err-end_line.stop in
    let took = subst (λ s. TakesIn g.S.Server.serves s last (with_newline part) (Err stop)) same c.in-Err-end_line.ensures in
    subst (λ bytes. TakesIn g.S.Server.serves first last bytes (Err stop)) (sym whole)
    (TakesIn-beyond first last (with_newline part) after stop took)
