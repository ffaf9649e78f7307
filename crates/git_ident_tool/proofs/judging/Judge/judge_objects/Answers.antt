use Rattle.std.proofs.Common.{◌<◌, ◌+◌, ◌≡◌, Bool, List, ℕ, length, sym, subst, arith, Ok, Err}
use Rattle.streams.specs.Changes.{change}
use Rattle.streams.specs.declared.lines.TheConstants.{MAX_LINE_LEN}
use Rattle.git_ident_tool.specs.Cursor.{input, unread, ReadsLine}
use Rattle.git_ident_tool.specs.Judging.{flow, JudgesObject}
use Rattle.git_ident_tool.specs.declared.error.Fault.TheVariants.{Refused, Stream}
use Rattle.git_ident_tool.specs.declared.error.HeaderFault.TheVariants.{BadHeader}
use Rattle.git_ident_tool.specs.declared.error.StreamFault.TheVariants.{EarlyEnd}
use Rattle.git_ident_tool.specs.declared.judging.TheConstants.{MAX_OBJECTS}
use Rattle.git_ident_tool.specs.declared.stream.LineEnd.{LineEnd}
use Rattle.git_ident_tool.proofs.Judged.{ObjectsSoFar}
use Rattle.git_ident_tool.proofs.Streams.{next-object, stops-full, stops-header, stops-object, stops-reading-header}
use Rattle.git_ident_tool.proofs.judging.Judge.judge_objects.Goals as goal

pub returns-in-Ok-Full : goal.returns-in-Ok-Full
returns-in-Ok-Full g c =
    let b = input c.objects.cursor (g.R.Source.known c.objects.reader) in
    let source = g.R.Source.known c.next.new.reader in
    let line = c.next.new.line.items in
    let read = subst (λ (end : LineEnd). ReadsLine MAX_LINE_LEN b (input c.next.new.self source) line (Ok end)) c.in-Ok-Full.field-0-is
    c.in-Ok-Full.ensures in
    stops-header c.args.self.telling (g.R.Source.known c.args.reader.now) b source (g.W.Sink.known c.args.writer.now)
    (g.W.Sink.known c.objects.writer)
    (unread c.next.new.self) line c.objects.clean c.objects.count (Refused BadHeader) c.objects.invariant.far read.ends.0 read.is_line
    read.ends.1 tt tt

pub returns-in-Ok-Input : goal.returns-in-Ok-Input
returns-in-Ok-Input g c =
    let b = input c.objects.cursor (g.R.Source.known c.objects.reader) in
    let source = g.R.Source.known c.next.new.reader in
    let line = c.next.new.line.items in
    let read = subst (λ (end : LineEnd). ReadsLine MAX_LINE_LEN b (input c.next.new.self source) line (Ok end)) c.in-Ok-Input.field-0-is
    c.in-Ok-Input.ensures in
    let some : 0 < length line = grind (arith, c.if-is_empty.false, c.if-is_empty.ensures, c.next.new.line.ok.0) in
    stops-header c.args.self.telling (g.R.Source.known c.args.reader.now) b source (g.W.Sink.known c.args.writer.now)
    (g.W.Sink.known c.objects.writer)
    (unread c.next.new.self) line c.objects.clean c.objects.count (Stream EarlyEnd) c.objects.invariant.far read.ends.0 read.is_line some tt
    read.ends.2

pub returns-in-Err : goal.returns-in-Err
returns-in-Err g c =
    stops-reading-header c.args.self.telling (g.R.Source.known c.args.reader.now)
    (input c.objects.cursor (g.R.Source.known c.objects.reader)) (g.R.Source.known c.next.new.reader)
    (g.W.Sink.known c.args.writer.now) (g.W.Sink.known c.objects.writer) (unread c.next.new.self) c.next.new.line.items c.objects.clean
    c.objects.count c.in-Err.fault
    c.objects.invariant.far c.in-Err.ensures

pub returns-in-Err-judge_object : goal.returns-in-Err-judge_object
returns-in-Err-judge_object g c =
    let telling = c.args.self.telling in
    let b = input c.objects.cursor (g.R.Source.known c.objects.reader) in
    let d = input c.next.new.self (g.R.Source.known c.next.new.reader) in
    let header = c.next.new.line.items in
    let y = g.W.Sink.known c.objects.writer in
    let z = g.W.Sink.known c.judge_object.new.writer in
    let source = g.R.Source.known c.judge_object.new.reader in
    let fault = c.in-Err-judge_object.fault in
    stops-object telling (g.R.Source.known c.args.reader.now) b d source (g.W.Sink.known c.args.writer.now) y z
    (unread c.judge_object.new.cursor) header c.objects.clean c.objects.count fault
    c.objects.invariant.far
    (subst (λ (end : LineEnd). ReadsLine MAX_LINE_LEN b d header (Ok end)) c.in-Ok-Newline.field-0-is c.in-Ok-Newline.ensures)
    (subst (λ (h : List ℕ). JudgesObject telling h (flow (change d (input c.judge_object.new.cursor source)) (change y z)) (Err fault))
    c.as_slice.ensures.value c.in-Err-judge_object.ensures)

pub objects-preserved : goal.objects-preserved
objects-preserved g c =
    let telling = c.args.self.telling in
    let a = g.R.Source.known c.args.reader.now in
    let b = input c.objects.cursor (g.R.Source.known c.objects.reader) in
    let d = input c.next.new.self (g.R.Source.known c.next.new.reader) in
    let last = input c.judge_object.new.cursor (g.R.Source.known c.judge_object.new.reader) in
    let header = c.next.new.line.items in
    let x = g.W.Sink.known c.args.writer.now in
    let y = g.W.Sink.known c.objects.writer in
    let z = g.W.Sink.known c.judge_object.new.writer in
    record {
      far = subst (λ (clean : Bool). ObjectsSoFar telling (flow (change a last) (change x z)) clean (c.objects.count + 1))
          (sym c.both-clean.ensures)
          (next-object telling a b d last x y z header c.objects.clean c.in-Ok.one c.objects.count c.objects.invariant.far
          (subst (λ (end : LineEnd). ReadsLine MAX_LINE_LEN b d header (Ok end)) c.in-Ok-Newline.field-0-is c.in-Ok-Newline.ensures)
          (subst (λ (h : List ℕ). JudgesObject telling h (flow (change d last) (change y z)) (Ok c.in-Ok.one)) c.as_slice.ensures.value
          c.in-Ok.ensures));
      few = omega arith;
    }

pub returns : goal.returns
returns g c =
    stops-full c.args.self.telling (g.R.Source.known c.args.reader.now) (g.R.Source.known c.objects.reader)
    (g.W.Sink.known c.args.writer.now) (g.W.Sink.known c.objects.writer)
    (unread c.objects.cursor) c.objects.clean c.objects.count c.objects.invariant.far
    (let full : c.objects.count ≡ MAX_OBJECTS = omega (arith, c.objects-test.false, c.objects.invariant.few) in full)
