use Rattle.std.proofs.Common.{rules, ◌≡◌, ◌≤◌, ℕ, List, length, length-append, arith, sym, ap, ◌∙◌, subst, Ok, Err}
use Rattle.streams.specs.declared.error.ToolError.TheVariants as errors
use Rattle.streams.specs.declared.serving.Stop.TheVariants.{Reading}
use Rattle.streams.specs.declared.lines.TheConstants.{MAX_LINE_LEN}
use Rattle.streams.specs.Progress.{Extends, Held, held_of}
use Rattle.streams.proofs.Taking.{some_byte, no_byte, Extends-nil, Extends-bytes, Extends-too_many, Extends-no_memory, Extends-too_long}
use Rattle.streams.proofs.progress.Progress.extend.Goals as goal

-- the same with another line
abbrev with_line : Held → List ℕ → Held
with_line o line = record o { line = line }

pub returns-then-is_empty : goal.returns-then-is_empty
returns-then-is_empty c =
    let o = held_of c.args.self.now in
    let empty = no_byte c.args.part.now c.is_empty.result c.is_empty.ensures c.if-is_empty.true in
    subst (λ bytes. Extends o o bytes (Ok tt)) (sym empty) (Extends-nil c.requires.ready)

pub returns-in_err-check_count : goal.returns-in_err-check_count
returns-in_err-check_count c =
    let o = held_of c.args.self.now in
    let part = c.args.part.now in
    let byte = some_byte part c.is_empty.result c.is_empty.ensures c.if-is_empty.false in
    let none = c.in_err-check_count.ensures.none in
    let is : c.from_residual.result ≡ Err c.in_err-check_count.field-0.0 = search rules in
    subst (λ r. Extends o o part r) (sym (is ∙ ap Err none.0)) (Extends-too_many part c.requires.ready none.1 byte)

pub overflow_sub-len : goal.overflow_sub-len
overflow_sub-len c =
    let short : length c.args.self.now.line.items ≤ MAX_LINE_LEN = c.requires.ready.is_short in
    omega (arith, short)

pub returns-then-part-len : goal.returns-then-part-len
returns-then-part-len c =
    Extends-too_long c.args.part.now c.requires.ready c.requires.is_line c.in_ok-check_count.ensures.room
    (omega (arith, length-append c.args.self.now.line.items c.args.part.now))

pub returns-in-Err : goal.returns-in-Err
returns-in-Err c =
    let part = c.args.part.now in
    let line = c.args.self.now.line.items in
    let o = held_of c.args.self.now in
    let short : length line ≤ MAX_LINE_LEN = c.requires.ready.is_short in
    let byte = some_byte part c.is_empty.result c.is_empty.ensures c.if-is_empty.false in
    subst (λ o'. Extends o o' part (Err (Reading errors.Memory))) (ap (with_line o) (sym c.in-Err.ensures.items))
    (Extends-no_memory part c.requires.ready c.requires.is_line c.in_ok-check_count.ensures.room byte
    (omega (arith, length-append line part, short)))

pub returns : goal.returns
returns c =
    let part = c.args.part.now in
    let line = c.args.self.now.line.items in
    let short : length line ≤ MAX_LINE_LEN = c.requires.ready.is_short in
    Extends-bytes part c.requires.ready c.requires.is_line (omega (arith, length-append line part, short)) c.in_ok-check_count.ensures.room
    (ap (with_line (held_of c.args.self.now)) c.in_default.ensures.items)
