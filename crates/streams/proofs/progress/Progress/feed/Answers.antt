use Rattle.std.proofs.Common.{rules, arith, ◌≡◌, [], ◌++◌, ◌∙◌, length, sym, ap, refl, subst, append_assoc, length-append, Ok, Err}
use Rattle.streams.specs.Progress.{IsReady, Stage, TakesIn, held_of, stage}
use Rattle.streams.specs.Serving.{service}
use Rattle.streams.proofs.Taking.{Extends-nil, TakesIn-extended, TakesIn-then}
use Rattle.streams.proofs.progress.Progress.feed.Goals as goal

pub lines-init : goal.lines-init
lines-init g c =
    let first = service c.args.server.now (g.W.Sink.known c.args.writer.now) (g.M.Sink.known c.args.messages.now) in
    record {
      front = [];
      cut = refl;
      took =
          TakesIn-extended (held_of c.args.self.now) first [] (Ok tt) g.met.S.Server.stays (Extends-nil c.requires);
    }

pub returns-in_err-after : goal.returns-in_err-after
returns-in_err-after g c =
    let far = c.lines.invariant in
    let stop = c.in_err-after.field-0.0 in
    let first = stage (held_of c.args.self.now)
    (service c.args.server.now (g.W.Sink.known c.args.writer.now) (g.M.Sink.known c.args.messages.now)) in
    let last = stage (held_of c.next_line.new.self)
    (service c.next_line.new.server (g.W.Sink.known c.next_line.new.writer) (g.M.Sink.known c.next_line.new.messages)) in
    let taken = TakesIn-then last c.lines.rest.now (Err stop) g.met.S.Server.joins far.took c.in_err-after.ensures in
    let is : c.from_residual.result ≡ Err stop = search rules in
    subst (λ r. TakesIn g.S.Server.serves first last c.args.bytes.now r) (sym is)
    (subst (λ bytes. TakesIn g.S.Server.serves first last bytes (Err stop)) (sym far.cut) taken)

pub lines-preserved : goal.lines-preserved
lines-preserved g c =
    let far = c.lines.invariant in
    let next = rw c.in-Some.is at c.in_ok-after.ensures in
    let last = stage (held_of c.next_line.new.self)
    (service c.next_line.new.server (g.W.Sink.known c.next_line.new.writer) (g.M.Sink.known c.next_line.new.messages)) in
    record {
      front = far.front ++ next.front;
      cut = far.cut ∙ ap (λ xs. far.front ++ xs) next.cut ∙ sym (append_assoc far.front next.front c.in-Some.after.now);
      took = TakesIn-then last next.front (Ok tt) g.met.S.Server.joins far.took next.took;
    }

pub lines-smaller : goal.lines-smaller
lines-smaller g c =
    let next = rw c.in-Some.is at c.in_ok-after.ensures in
    omega (arith, next.some, ap length next.cut, length-append next.front c.in-Some.after.now)

pub next_line-requires : goal.next_line-requires
next_line-requires g c = c.lines.invariant.took.takes.to.ready

pub extend-requires-clause-is_line : goal.extend-requires-clause-is_line
extend-requires-clause-is_line g c = let none = rw c.in_default.is at c.in_ok-after.ensures in none.0

pub extend-requires-clause-ready : goal.extend-requires-clause-ready
extend-requires-clause-ready g c =
    let none = rw c.in_default.is at c.in_ok-after.ensures in
    subst (λ (s : Stage _). IsReady s.held) (sym none.1) c.lines.invariant.took.takes.to.ready

pub returns : goal.returns
returns g c =
    let far = c.lines.invariant in
    let rest = c.lines.rest.now in
    let now = service c.next_line.new.server (g.W.Sink.known c.next_line.new.writer) (g.M.Sink.known c.next_line.new.messages) in
    let first = stage (held_of c.args.self.now)
    (service c.args.server.now (g.W.Sink.known c.args.writer.now) (g.M.Sink.known c.args.messages.now)) in
    let last = stage (held_of c.extend.new.self) now in
    let none = rw c.in_default.is at c.in_ok-after.ensures in
    let took = subst (λ s. TakesIn g.S.Server.serves first s far.front (Ok tt)) (sym none.1) far.took in
    let more = TakesIn-extended (held_of c.extend.new.self) now rest c.extend.result g.met.S.Server.stays c.extend.ensures in
    subst (λ bytes. TakesIn g.S.Server.serves first last bytes c.extend.result) (sym far.cut)
    (TakesIn-then last rest c.extend.result g.met.S.Server.joins took more)
