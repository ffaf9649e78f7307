use Rattle.std.proofs.Common.{◌∷◌, length-append, ◌+◌, ◌-◌, ◌<◌, ◌≡◌, Bool, List, ℕ, [], length, sym, subst, arith, Ok, Err}
use Rattle.std.proofs.lemmas.List.{nil_from_length}
use Rattle.gix_date.specs.Text.Characters.{newline}
use Rattle.streams.specs.Lines.{with_newline}
use Rattle.streams.specs.Changes.{change}
use Rattle.git_ident_tool.specs.Cursor.{input, ReadsLine}
use Rattle.git_ident_tool.specs.Judging.{flow, JudgesAll}
use Rattle.git_ident_tool.specs.Verdicts.{Tells, is_clean_in, line_due}
use Rattle.git_ident_tool.specs.declared.stream.LineEnd.{LineEnd}
use Rattle.git_ident_tool.proofs.Judged.{LinesSoFar, ends-header, ends-object, first-lines, next-line, own-with, own-without, stops-early}
use Rattle.git_ident_tool.proofs.Judged.{stops-reading, stops-telling}
use Rattle.git_ident_tool.proofs.judging.judge_header.Goals as goal

pub lines-init : goal.lines-init
lines-init g c =
    first-lines c.args.judge.telling c.args.id.now c.args.said (input c.args.cursor.now (g.R.Source.known c.args.reader.now))
    (g.W.Sink.known c.args.writer.now)

pub returns-in-Ok : goal.returns-in-Ok
returns-in-Ok g c =
    let telling = c.args.judge.telling in
    let id = c.args.id.now in
    let said = c.args.said in
    let line = c.next.new.line.items in
    let a = input c.args.cursor.now (g.R.Source.known c.args.reader.now) in
    let b = input c.lines.cursor (g.R.Source.known c.lines.reader) in
    let d = input c.next.new.self (g.R.Source.known c.next.new.reader) in
    let x = g.W.Sink.known c.args.writer.now in
    let y = g.W.Sink.known c.lines.writer in
    let z = g.W.Sink.known c.judge_line.new.writer in
    subst (λ (clean : Bool). JudgesAll telling id said (flow (change a d) (change x z)) (clean, 0)) (sym c.both.ensures)
    (ends-object telling id said a b d x y z line c.lines.clean c.in-Ok.one c.lines.left c.requires c.lines.invariant
    (subst (λ (end : LineEnd). ReadsLine c.lines.left b d line (Ok end)) c.in-Ok-Full.field-0-is c.in-Ok-Full.ensures)
    (subst (λ (l : List ℕ). Tells (line_due telling id said.kind l) (is_clean_in said.kind l) (change y z) (Ok c.in-Ok.one))
    c.as_slice.ensures.value c.in-Ok.ensures))

pub returns-in-Err-judge_line : goal.returns-in-Err-judge_line
returns-in-Err-judge_line g c =
    let telling = c.args.judge.telling in
    let id = c.args.id.now in
    let said = c.args.said in
    let line = c.next.new.line.items in
    let a = input c.args.cursor.now (g.R.Source.known c.args.reader.now) in
    let b = input c.lines.cursor (g.R.Source.known c.lines.reader) in
    let d = input c.next.new.self (g.R.Source.known c.next.new.reader) in
    let x = g.W.Sink.known c.args.writer.now in
    let y = g.W.Sink.known c.lines.writer in
    let z = g.W.Sink.known c.judge_line.new.writer in
    let read = subst (λ (end : LineEnd). ReadsLine c.lines.left b d line (Ok end)) c.in-Ok-Full.field-0-is c.in-Ok-Full.ensures in
    stops-telling telling id said a b d x y z line line (c.lines.clean, c.lines.left) c.in-Err-judge_line.fault c.lines.invariant
    read.ends.0 (omega (arith, read.ends.1))
    (own-without line read.is_line)
    (subst (λ (l : List ℕ). Tells (line_due telling id said.kind l) (is_clean_in said.kind l) (change y z) (Err c.in-Err-judge_line.fault))
    c.as_slice.ensures.value c.in-Err-judge_line.ensures)

pub returns-in-Ok-Input : goal.returns-in-Ok-Input
returns-in-Ok-Input g c =
    let b = input c.lines.cursor (g.R.Source.known c.lines.reader) in
    let d = input c.next.new.self (g.R.Source.known c.next.new.reader) in
    let line = c.next.new.line.items in
    stops-early c.args.judge.telling c.args.id.now c.args.said (input c.args.cursor.now (g.R.Source.known c.args.reader.now)) b d
    (g.W.Sink.known c.args.writer.now) (g.W.Sink.known c.lines.writer) line (c.lines.clean, c.lines.left) c.lines.invariant
    (subst (λ (end : LineEnd). ReadsLine c.lines.left b d line (Ok end)) c.in-Ok-Input.field-0-is c.in-Ok-Input.ensures)

pub returns-in-Err : goal.returns-in-Err
returns-in-Err g c =
    stops-reading c.args.judge.telling c.args.id.now c.args.said (input c.args.cursor.now (g.R.Source.known c.args.reader.now))
    (input c.lines.cursor (g.R.Source.known c.lines.reader))
    (input c.next.new.self (g.R.Source.known c.next.new.reader))
    (g.W.Sink.known c.args.writer.now) (g.W.Sink.known c.lines.writer) c.next.new.line.items (c.lines.clean, c.lines.left) c.in-Err.fault
    c.lines.invariant c.in-Err.ensures

pub returns-then-is_empty : goal.returns-then-is_empty
returns-then-is_empty g c =
    let b = input c.lines.cursor (g.R.Source.known c.lines.reader) in
    let d = input c.next.new.self (g.R.Source.known c.next.new.reader) in
    let line = c.next.new.line.items in
    let read = subst (λ (end : LineEnd). ReadsLine c.lines.left b d line (Ok end)) c.in-Ok-Newline.field-0-is c.in-Ok-Newline.ensures in
    let none : length line ≡ 0 = grind (arith, c.if-is_empty.true, c.if-is_empty.ensures, c.next.new.line.ok.0) in
    let less : (c.lines.left - (c.len.result + 1)) + (length line + 1) ≡ c.lines.left =
    omega (arith, c.len.ensures, c.next.new.line.ok.0, read.ends.1) in
    ends-header c.args.judge.telling c.args.id.now c.args.said (input c.args.cursor.now (g.R.Source.known c.args.reader.now)) b d
    (g.W.Sink.known c.args.writer.now) (g.W.Sink.known c.lines.writer) line c.lines.clean c.lines.left _ c.requires c.lines.invariant read
    (nil_from_length line none) less

pub lines-preserved : goal.lines-preserved
lines-preserved g c =
    let telling = c.args.judge.telling in
    let id = c.args.id.now in
    let said = c.args.said in
    let line = c.next.new.line.items in
    let a = input c.args.cursor.now (g.R.Source.known c.args.reader.now) in
    let b = input c.lines.cursor (g.R.Source.known c.lines.reader) in
    let d = input c.next.new.self (g.R.Source.known c.next.new.reader) in
    let x = g.W.Sink.known c.args.writer.now in
    let y = g.W.Sink.known c.lines.writer in
    let z = g.W.Sink.known c.judge_line-in-lines.new.writer in
    let read = subst (λ (end : LineEnd). ReadsLine c.lines.left b d line (Ok end)) c.in-Ok-Newline.field-0-is c.in-Ok-Newline.ensures in
    let some : 0 < length line = grind (arith, c.if-is_empty.false, c.if-is_empty.ensures, c.next.new.line.ok.0) in
    let less : (c.lines.left - (c.len.result + 1)) + (length line + 1) ≡ c.lines.left =
    omega (arith, c.len.ensures, c.next.new.line.ok.0, read.ends.1) in
    subst (λ (clean : Bool). LinesSoFar telling id said (flow (change a d) (change x z)) (clean, c.lines.left - (c.len.result + 1)))
    (sym c.both-clean.ensures)
    (next-line telling id said a b d x y z line c.lines.clean c.in-Ok-judge_line.one c.lines.left _ c.lines.invariant read some less
    (subst (λ (l : List ℕ). Tells (line_due telling id said.kind l) (is_clean_in said.kind l) (change y z) (Ok c.in-Ok-judge_line.one))
    c.as_slice-in-lines.ensures.value c.in-Ok-judge_line.ensures))

pub returns-in-Err-judge_line-2 : goal.returns-in-Err-judge_line-2
returns-in-Err-judge_line-2 g c =
    let telling = c.args.judge.telling in
    let id = c.args.id.now in
    let said = c.args.said in
    let line = c.next.new.line.items in
    let a = input c.args.cursor.now (g.R.Source.known c.args.reader.now) in
    let b = input c.lines.cursor (g.R.Source.known c.lines.reader) in
    let d = input c.next.new.self (g.R.Source.known c.next.new.reader) in
    let x = g.W.Sink.known c.args.writer.now in
    let y = g.W.Sink.known c.lines.writer in
    let z = g.W.Sink.known c.judge_line-in-lines.new.writer in
    let read = subst (λ (end : LineEnd). ReadsLine c.lines.left b d line (Ok end)) c.in-Ok-Newline.field-0-is c.in-Ok-Newline.ensures in
    let some : 0 < length line = grind (arith, c.if-is_empty.false, c.if-is_empty.ensures, c.next.new.line.ok.0) in
    stops-telling telling id said a b d x y z line (with_newline line) (c.lines.clean, c.lines.left) c.in-Err-judge_line-2.fault
    c.lines.invariant read.ends.0
    (omega (arith, length-append line (newline ∷ []), read.ends.1))
    (own-with line (read.is_line, some))
    (subst
    (λ (l : List ℕ). Tells (line_due telling id said.kind l) (is_clean_in said.kind l) (change y z) (Err c.in-Err-judge_line-2.fault))
    c.as_slice-in-lines.ensures.value c.in-Err-judge_line-2.ensures)
