use Rattle.std.proofs.Common.{arith, ◌≡◌, ◌<◌, ◌+◌, [], ap, Ok}
use Rattle.streams.specs.Lines.{with_newline}
use Rattle.streams.specs.Progress.{held_of, stage}
use Rattle.streams.proofs.Taking.{TakesIn-front, TakesIn-whole, no_byte, some_line}
use Rattle.streams.proofs.progress.Progress.next_known.Goals as goal

pub returns-in-Ok-Some : goal.returns-in-Ok-Some
returns-in-Ok-Some g c =
    let none : c.args.self.now.line.items ≡ [] = no_byte _ _ c.is_between_lines.ensures c.if-not-is_between_lines.false in
    let room : c.args.self.now.ended < c.args.self.now.most = omega (arith, c.requires.few, c.if-self.false) in
    let found = rw c.in-Ok-Some.field-0-is at c.in-Ok-Some.ensures in
    let same = ap (λ line. record (held_of c.args.self.now) { line = line; ended = c.args.self.now.ended + 1 }) none in
    record {
      front = with_newline found.0.line;
      cut = found.0.whole;
      some = some_line found.0.line;
      took = TakesIn-whole found.0.line (Ok tt) g.met.S.Server.stays g.met.S.Server.joins none c.requires room found.0.is_line
          found.0.is_short same found.1;
    }

pub returns-in-Ok-None : goal.returns-in-Ok-None
returns-in-Ok-None g c = let same = rw c.in-Ok-None.field-0-is at c.in-Ok-None.ensures in ap (stage (held_of c.args.self.now)) same

pub returns-in-Err : goal.returns-in-Err
returns-in-Err g c =
    let none : c.args.self.now.line.items ≡ [] = no_byte _ _ c.is_between_lines.ensures c.if-not-is_between_lines.false in
    let room : c.args.self.now.ended < c.args.self.now.most = omega (arith, c.requires.few, c.if-self.false) in
    let found = c.in-Err.ensures in
    TakesIn-front c.args.bytes.now found.0 found.1 c.in-Err.fault g.met.S.Server.stays g.met.S.Server.joins none c.requires room found.2
