use Rattle.std.proofs.Common.{rules, arith, ◌≡◌, ◌+◌, [], ◌∷◌, sym, ap, ◌∙◌, subst, length-append, Ok, Err}
use Rattle.gix_date.specs.Text.Characters.{newline}
use Rattle.streams.specs.declared.error.ToolError.TheVariants as errors
use Rattle.streams.specs.declared.serving.Stop.TheVariants.{Reading, Serving}
use Rattle.streams.specs.Lines.{with_newline}
use Rattle.streams.specs.Progress.{TakesIn, held_of, stage}
use Rattle.streams.specs.Serving.{service}
use Rattle.streams.proofs.Taking.{Extends-too_many, Extends-too_long, TakesIn-beyond, TakesIn-extended, TakesIn-newline, TakesIn-then}
use Rattle.streams.proofs.Taking.{TakesIn-whole, no_byte, some_line}
use Rattle.streams.proofs.progress.Progress.end_line.Goals as goal

pub returns-in_err-check_count : goal.returns-in_err-check_count
returns-in_err-check_count g c =
    let held = held_of c.args.self.now in
    let v = service c.args.server.now (g.W.Sink.known c.args.writer.now) (g.M.Sink.known c.args.messages.now) in
    let line = c.args.part.now in
    let none = c.in_err-check_count.ensures.none in
    let is : c.from_residual.result ≡ Err c.in_err-check_count.field-0.0 = search rules in
    subst (λ r. TakesIn g.S.Server.serves (stage held v) (stage held v) (with_newline line) r) (sym (is ∙ ap Err none.0))
    (TakesIn-extended held v (with_newline line) _ g.met.S.Server.stays
    (Extends-too_many (with_newline line) c.requires.ready none.1 (some_line line)))

pub returns-then-part-gt-MAX_LINE_LEN : goal.returns-then-part-gt-MAX_LINE_LEN
returns-then-part-gt-MAX_LINE_LEN g c =
    let held = held_of c.args.self.now in
    let v = service c.args.server.now (g.W.Sink.known c.args.writer.now) (g.M.Sink.known c.args.messages.now) in
    let line = c.args.part.now in
    let long = Extends-too_long line c.requires.ready c.requires.is_line c.in_ok-check_count.ensures.room
    (omega (arith, length-append held.line line)) in
    TakesIn-beyond (stage held v) (stage held v) line (newline ∷ []) (Reading errors.LineTooLong)
    (TakesIn-extended held v line _ g.met.S.Server.stays long)

pub returns-in-Err : goal.returns-in-Err
returns-in-Err g c =
    TakesIn-whole c.args.part.now (Err c.in-Err.fault) g.met.S.Server.stays g.met.S.Server.joins
    (no_byte _ _ c.is_between_lines.ensures c.if-is_between_lines.true) c.requires.ready c.in_ok-check_count.ensures.room
    c.requires.is_line (omega arith) tt c.in-Err.ensures

pub returns-then-is_between_lines : goal.returns-then-is_between_lines
returns-then-is_between_lines g c =
    let none = no_byte _ _ c.is_between_lines.ensures c.if-is_between_lines.true in
    let same = ap (λ line. record (held_of c.args.self.now) { line = line; ended = c.args.self.now.ended + 1 }) none in
    TakesIn-whole c.args.part.now (Ok tt) g.met.S.Server.stays g.met.S.Server.joins none c.requires.ready c.in_ok-check_count.ensures.room
    c.requires.is_line (omega arith) same c.in_default.ensures

pub returns-in_err-extend : goal.returns-in_err-extend
returns-in_err-extend g c =
    let v = service c.args.server.now (g.W.Sink.known c.args.writer.now) (g.M.Sink.known c.args.messages.now) in
    let s = stage (held_of c.args.self.now) v in
    let s' = stage (held_of c.extend.new.self) v in
    let stop = c.in_err-extend.field-0.0 in
    let is : c.from_residual-in_err-extend.result ≡ Err stop = search rules in
    subst (λ r. TakesIn g.S.Server.serves s s' (with_newline c.args.part.now) r) (sym is)
    (TakesIn-beyond s s' c.args.part.now (newline ∷ []) stop
    (TakesIn-extended s'.held v c.args.part.now (Err stop) g.met.S.Server.stays c.in_err-extend.ensures))

pub returns-in_err-check_count-2 : goal.returns-in_err-check_count-2
returns-in_err-check_count-2 g c =
    let v = service c.args.server.now (g.W.Sink.known c.args.writer.now) (g.M.Sink.known c.args.messages.now) in
    let s = stage (held_of c.args.self.now) v in
    let s' = stage (held_of c.extend.new.self) v in
    let took = TakesIn-extended s'.held v c.args.part.now (Ok tt) g.met.S.Server.stays c.in_ok-extend.ensures in
    let none = c.in_err-check_count-2.ensures.none in
    let many = TakesIn-extended s'.held v (newline ∷ []) _ g.met.S.Server.stays
    (Extends-too_many (newline ∷ []) took.takes.to.ready none.1 (omega arith)) in
    let is : c.from_residual-in_err-check_count-2.result ≡ Err c.in_err-check_count-2.field-0.0 = search rules in
    subst (λ r. TakesIn g.S.Server.serves s s' (with_newline c.args.part.now) r) (sym (is ∙ ap Err none.0))
    (TakesIn-then s' (newline ∷ []) _ g.met.S.Server.joins took many)

pub returns-in-Err-serve : goal.returns-in-Err-serve
returns-in-Err-serve g c =
    let v = service c.args.server.now (g.W.Sink.known c.args.writer.now) (g.M.Sink.known c.args.messages.now) in
    let took = TakesIn-extended (held_of c.extend.new.self) v c.args.part.now (Ok tt) g.met.S.Server.stays c.in_ok-extend.ensures in
    let last = stage (held_of c.extend.new.self)
    (service c.serve-2.new.self (g.W.Sink.known c.serve-2.new.out) (g.M.Sink.known c.serve-2.new.messages)) in
    let served = subst (λ line. g.S.Server.serves v last.service (line ∷ []) (Err c.in-Err-serve.fault)) c.as_slice.ensures.value
    c.in-Err-serve.ensures in
    TakesIn-then last (newline ∷ []) (Err (Serving c.in-Err-serve.fault)) g.met.S.Server.joins took
    (TakesIn-newline (Err c.in-Err-serve.fault) took.takes.to.ready c.in_ok-check_count-2.ensures.room tt served)

pub returns : goal.returns
returns g c =
    let v = service c.args.server.now (g.W.Sink.known c.args.writer.now) (g.M.Sink.known c.args.messages.now) in
    let took = TakesIn-extended (held_of c.extend.new.self) v c.args.part.now (Ok tt) g.met.S.Server.stays c.in_ok-extend.ensures in
    let next = service c.serve-2.new.self (g.W.Sink.known c.serve-2.new.out) (g.M.Sink.known c.serve-2.new.messages) in
    let held = record (held_of c.extend.new.self) { line = c.clear.new.self.items; ended = c.extend.new.self.ended + 1 } in
    let same = ap (λ line. record (held_of c.extend.new.self) { line = line; ended = c.extend.new.self.ended + 1 }) c.clear.ensures.items in
    let served = subst (λ line. g.S.Server.serves v next (line ∷ []) (Ok tt)) c.as_slice.ensures.value c.in_default-serve.ensures in
    TakesIn-then (stage held next) (newline ∷ []) (Ok tt) g.met.S.Server.joins took
    (TakesIn-newline (Ok tt) took.takes.to.ready c.in_ok-check_count-2.ensures.room same served)
