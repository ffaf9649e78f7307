use Rattle.std.proofs.Common.{◌≡◌, ◌⊎◌, ◌<◌, ◌^◌, ℕ, [], length, refl, subst, rules}
use Rattle.gix_date_c.specs.Idents.{ident_answer}
use Rattle.gix_date_c.proofs.Blocks.Idents.{Telling-all, Telling-next, Telling-none, columns, fits}
use Rattle.gix_date_c.proofs.lines.idents.gix_date_ident_lines.Goals as goal

pub lines-init : goal.lines-init
lines-init c =
    let old = columns c.args.parts.now c.args.seconds.now c.args.offsets.now c.args.messages.now c.args.statuses.now in
    Telling-none c.args.block.now old

pub tell_line-requires : goal.tell_line-requires
tell_line-requires c =
    let size : length c.args.block.now < 2 ^ 63 = search rules in
    fits c.args.block.now c.lines.left.now c.in-Some.line.now c.in-Some.after.now c.lines.invariant.lines (ident_answer c.in-Some.line.now)
    c.lines.invariant.so_far c.in-Some.ensures.1 size refl

pub lines-preserved : goal.lines-preserved
lines-preserved c =
    let old = columns c.args.parts.now c.args.seconds.now c.args.offsets.now c.args.messages.now c.args.statuses.now in
    let new = columns c.lines.parts c.lines.seconds c.lines.offsets c.lines.messages c.lines.statuses in
    let stored = c.tell_line.new in
    let newer = columns stored.parts stored.seconds stored.offsets stored.messages stored.statuses in
    let room = subst (λ (n : ℕ). c.lines.done < n) c.ident_room-room.ensures c.in-Some.ensures.0 in
    Telling-next c.args.block.now old new newer c.lines.left.now c.in-Some.line.now c.in-Some.after.now c.lines.done c.lines.invariant room
    c.in-Some.ensures.1 c.tell_line.ensures

pub returns : goal.returns
returns c =
    let old = columns c.args.parts.now c.args.seconds.now c.args.offsets.now c.args.messages.now c.args.statuses.now in
    let new = columns c.lines.parts c.lines.seconds c.lines.offsets c.lines.messages c.lines.statuses in
    let end = subst (λ (n : ℕ). (c.lines.left.now ≡ []) ⊎ (c.lines.done ≡ n)) c.ident_room-room.ensures c.in_default.ensures in
    Telling-all c.args.block.now old new c.lines.left.now c.lines.done c.lines.invariant end
