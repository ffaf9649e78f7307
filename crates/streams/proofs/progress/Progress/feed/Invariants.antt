use Rattle.std.proofs.Common.{◌≡◌, ◌++◌, List, ℕ, length, Ok}
use Rattle.streams.specs.Progress.{TakesIn, held_of, stage}
use Rattle.streams.specs.Serving.{service}
use Rattle.streams.proofs.progress.Progress.feed.Given as goal

-- a front of the bytes was taken in
abbrev pub invariant-lines : goal.invariant-lines
invariant-lines g l =
    let first =
    stage (held_of l.initial.self) (service l.initial.server (g.W.Sink.known l.initial.writer) (g.M.Sink.known l.initial.messages)) in
    let now = stage (held_of l.self) (service l.server (g.W.Sink.known l.writer) (g.M.Sink.known l.messages)) in
    record {
      front : List ℕ;
      cut : l.initial.rest ≡ front ++ l.rest;
      took : TakesIn g.S.Server.serves first now front (Ok tt);
    }

abbrev pub decreases-lines : goal.decreases-lines
decreases-lines g l = length l.rest
