use Rattle.std.proofs.Common.{rules, ◌≡◌, ◌<◌, ℕ, List, [], length, take, refl, sym, subst, Err}
use Rattle.gix_date.specs.Devices.StreamState.{StreamState, Gives}
use Rattle.streams.specs.Changes.{change}
use Rattle.streams.specs.Progress.{first_held, held_of, stage}
use Rattle.streams.specs.Serving.{service}
use Rattle.streams.proofs.Running.{RanBut, HasRead-first, HasRead-settled, HasRead-taken, Ran-unsettled, Ran-unread, Ran-ended}
use Rattle.streams.proofs.Running.{Ran-ended-unserved, Ran-stopped}
use Rattle.streams.proofs.progress.Progress.serve_all.Goals as goal

pub pieces-init : goal.pieces-init
pieces-init g c =
    let first = service c.args.server.now (g.W.Sink.known c.args.writer.now) (g.M.Sink.known c.args.messages.now) in
    HasRead-first c.args.self.now.most (held_of c.args.self.now) first (g.R.Source.known c.args.reader.now) (g.met.S.Server.stays first)
    c.requires

pub returns-in-Err : goal.returns-in-Err
returns-in-Err g c =
    let settled = service c.settle.new.self (g.W.Sink.known c.settle.new.out) (g.M.Sink.known c.pieces.messages) in
    Ran-unsettled settled c.in-Err.fault g.met.S.Server.joins c.pieces.invariant
    (c.in-Err.ensures.serves (g.M.Sink.known c.pieces.messages))

pub returns-in-Err-read : goal.returns-in-Err-read
returns-in-Err-read g c =
    let settled = service c.settle.new.self (g.W.Sink.known c.settle.new.out) (g.M.Sink.known c.pieces.messages) in
    let far =
    HasRead-settled settled g.met.S.Server.joins c.pieces.invariant (c.in_default.ensures.serves (g.M.Sink.known c.pieces.messages)) in
    Ran-unread (g.R.Source.known c.read.new.reader) far c.in-Err-read.ensures.bytes c.in-Err-read.ensures.fault

-- of no byte nothing was read
none-read : (before after : StreamState) (count : ℕ) (piece : List ℕ) → count ≡ 0 → Gives before after (take count piece)
    → Gives before after []
none-read before after count piece is given = subst (λ n. Gives before after (take n piece)) is given

pub returns-in-Ok-end_input : goal.returns-in-Ok-end_input
returns-in-Ok-end_input g c =
    let after = g.R.Source.known c.read.new.reader in
    let piece : 0 < length c.read.new.piece = search rules in
    let read = none-read (g.R.Source.known c.pieces.reader) after _ _ c.if-count-eq0.true c.in-Ok.ensures.bytes.0 in
    let settled = service c.settle.new.self (g.W.Sink.known c.settle.new.out) (g.M.Sink.known c.pieces.messages) in
    let far =
    HasRead-settled settled g.met.S.Server.joins c.pieces.invariant (c.in_default.ensures.serves (g.M.Sink.known c.pieces.messages)) in
    let last = stage (held_of c.end_input.new.self)
    (service c.end_input.new.server (g.W.Sink.known c.end_input.new.writer) (g.M.Sink.known c.end_input.new.messages)) in
    Ran-ended last after c.end_input.new.self.ended g.met.S.Server.joins far read (c.in-Ok.ensures.bytes.1 c.if-count-eq0.true piece)
    c.in-Ok.ensures.fault
    c.in-Ok-end_input.ensures refl

pub returns-in-Err-end_input : goal.returns-in-Err-end_input
returns-in-Err-end_input g c =
    let after = g.R.Source.known c.read.new.reader in
    let piece : 0 < length c.read.new.piece = search rules in
    let read = none-read (g.R.Source.known c.pieces.reader) after _ _ c.if-count-eq0.true c.in-Ok.ensures.bytes.0 in
    let settled = service c.settle.new.self (g.W.Sink.known c.settle.new.out) (g.M.Sink.known c.pieces.messages) in
    let far =
    HasRead-settled settled g.met.S.Server.joins c.pieces.invariant (c.in_default.ensures.serves (g.M.Sink.known c.pieces.messages)) in
    let last = stage (held_of c.end_input.new.self)
    (service c.end_input.new.server (g.W.Sink.known c.end_input.new.writer) (g.M.Sink.known c.end_input.new.messages)) in
    Ran-ended-unserved last after c.in-Err-end_input.fault g.met.S.Server.joins far read (c.in-Ok.ensures.bytes.1 c.if-count-eq0.true piece)
    c.in-Err-end_input.ensures

pub pieces-preserved : goal.pieces-preserved
pieces-preserved g c =
    let settled = service c.settle.new.self (g.W.Sink.known c.settle.new.out) (g.M.Sink.known c.pieces.messages) in
    let far =
    HasRead-settled settled g.met.S.Server.joins c.pieces.invariant (c.in_default.ensures.serves (g.M.Sink.known c.pieces.messages)) in
    let last = stage (held_of c.feed.new.self)
    (service c.feed.new.server (g.W.Sink.known c.feed.new.writer) (g.M.Sink.known c.feed.new.messages)) in
    HasRead-taken {s' = last} (g.R.Source.known c.read.new.reader) g.met.S.Server.joins far c.in-Ok.ensures.bytes.0 c.in_ok-feed.ensures

pub returns-in_err-feed : goal.returns-in_err-feed
returns-in_err-feed g c =
    let after = g.R.Source.known c.read.new.reader in
    let stop = c.in_err-feed.field-0.0 in
    let first = service c.args.server.now (g.W.Sink.known c.args.writer.now) (g.M.Sink.known c.args.messages.now) in
    let settled = service c.settle.new.self (g.W.Sink.known c.settle.new.out) (g.M.Sink.known c.pieces.messages) in
    let last = stage (held_of c.feed.new.self)
    (service c.feed.new.server (g.W.Sink.known c.feed.new.writer) (g.M.Sink.known c.feed.new.messages)) in
    let far =
    HasRead-settled settled g.met.S.Server.joins c.pieces.invariant (c.in_default.ensures.serves (g.M.Sink.known c.pieces.messages)) in
    let is : c.from_residual.result ≡ Err stop = search rules in
    subst (RanBut g.S.Server.serves (stage (first_held c.args.self.now.most) first) last.service
    (change (g.R.Source.known c.args.reader.now) after)) (sym is)
    (Ran-stopped last after (take c.in-Ok.count c.read.new.piece) stop g.met.S.Server.joins far c.in-Ok.ensures.bytes.0
    c.in_err-feed.ensures)

pub read-requires-clause-settled : goal.read-requires-clause-settled
read-requires-clause-settled g c = c.in_default.ensures.settled

pub end_input-requires : goal.end_input-requires
end_input-requires g c = c.pieces.invariant.took.takes.to.ready

pub feed-requires : goal.feed-requires
feed-requires g c = c.pieces.invariant.took.takes.to.ready
