use Rattle.std.proofs.Common.{◌-◌, ◌<◌, drop, take, arith}
use Rattle.git_ident_tool.specs.Cursor.{input, unread}
use Rattle.git_ident_tool.proofs.Taking.{at, Skipped-kept, skips-fault, skips-last, skips-on, skips-out, unread-length}
use Rattle.git_ident_tool.proofs.stream.Cursor.skip.Goals as goal

pub skips-preserved : goal.skips-preserved
skips-preserved g c =
    let self = c.skips.self in
    let first = input c.args.self.now (g.R.Source.known c.args.reader.now) in
    let source = g.R.Source.known c.skips.reader in
    Skipped-kept c.args.count first (at (take (self.to - self.to) (drop self.to self.bytes)) source)
    (input c.refill.new.self (g.R.Source.known c.refill.new.reader)) _
    (skips-on c.args.count first source self.bytes self.from self.to c.skips.left self.within.0 self.within.1 c.skips-test.true
    c.skips.invariant) c.in-Ok-true.ensures.kept

pub returns-in-Ok-false : goal.returns-in-Ok-false
returns-in-Ok-false g c =
    let self = c.skips.self in
    let first = input c.args.self.now (g.R.Source.known c.args.reader.now) in
    let source = g.R.Source.known c.skips.reader in
    let some : 0 < c.skips.left - (self.to - self.from) = omega (arith, c.skips-test.true) in
    skips-out c.args.count first (at (take (self.to - self.to) (drop self.to self.bytes)) source)
    (input c.refill.new.self (g.R.Source.known c.refill.new.reader)) (unread c.refill.new.self) _
    c.in-Ok-false.field-0 c.in-Ok-false.field-0-test some
    (skips-on c.args.count first source self.bytes self.from self.to c.skips.left self.within.0 self.within.1 c.skips-test.true
    c.skips.invariant) c.in-Ok-false.ensures

pub returns-in-Err : goal.returns-in-Err
returns-in-Err g c =
    let self = c.skips.self in
    let first = input c.args.self.now (g.R.Source.known c.args.reader.now) in
    let source = g.R.Source.known c.skips.reader in
    let some : 0 < c.skips.left - (self.to - self.from) = omega (arith, c.skips-test.true) in
    skips-fault c.args.count first (at (take (self.to - self.to) (drop self.to self.bytes)) source)
    (input c.refill.new.self (g.R.Source.known c.refill.new.reader)) (unread c.refill.new.self) _
    c.in-Err.kind some
    (skips-on c.args.count first source self.bytes self.from self.to c.skips.left self.within.0 self.within.1 c.skips-test.true
    c.skips.invariant) c.in-Err.ensures

pub advance-requires : goal.advance-requires
advance-requires g c =
    let self = c.skips.self in
    omega (arith, c.skips-test.false, unread-length self.bytes self.from self.to self.within.0 self.within.1)

pub returns : goal.returns
returns g c =
    let self = c.skips.self in
    skips-last c.args.count (input c.args.self.now (g.R.Source.known c.args.reader.now)) (g.R.Source.known c.skips.reader) (unread self)
    (unread c.advance.new.self) c.skips.left
    (omega (arith, c.skips-test.false, unread-length self.bytes self.from self.to self.within.0 self.within.1)) c.advance.ensures
    c.skips.invariant
