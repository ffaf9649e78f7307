use Rattle.std.proofs.Common.{◌≡◌, ◌⊎◌, ◌<◌, ℕ, [], subst}
use Rattle.gix_date_c.specs.Lines.Columns.{Columns}
use Rattle.gix_date_c.specs.Lines.Readers.{IsLineRead}
use Rattle.gix_date_c.proofs.Blocks.Steps.{Reading-all, Reading-next, Reading-none}
use Rattle.gix_date_c.proofs.lines.read_lines.Goals as goal

pub lines-init : goal.lines-init
lines-init c =
    let old : Columns = record { seconds = c.args.seconds.now; offsets = c.args.offsets.now; statuses = c.args.statuses.now } in
    Reading-none (IsLineRead c.args.reader.now) c.args.block.now old

pub lines-preserved : goal.lines-preserved
lines-preserved c =
    let old : Columns = record { seconds = c.args.seconds.now; offsets = c.args.offsets.now; statuses = c.args.statuses.now } in
    let new : Columns = record { seconds = c.lines.seconds; offsets = c.lines.offsets; statuses = c.lines.statuses } in
    let stored = c.store_answer.new in
    let newer : Columns = record { seconds = stored.seconds; offsets = stored.offsets; statuses = stored.statuses } in
    let room = subst (λ (n : ℕ). c.lines.done < n) c.room-room.ensures c.in-Some.ensures.0 in
    let read = c.in-Some.ensures.1 in
    Reading-next (IsLineRead c.args.reader.now) c.args.block.now old new newer c.lines.left.now read.line c.in-Some.after.now c.lines.done
    c.in-Some.answer c.lines.invariant room read.cut read.reads c.store_answer.ensures

pub returns : goal.returns
returns c =
    let old : Columns = record { seconds = c.args.seconds.now; offsets = c.args.offsets.now; statuses = c.args.statuses.now } in
    let new : Columns = record { seconds = c.lines.seconds; offsets = c.lines.offsets; statuses = c.lines.statuses } in
    let end = subst (λ (n : ℕ). (c.lines.left.now ≡ []) ⊎ (c.lines.done ≡ n)) c.room-room.ensures c.in_default.ensures in
    Reading-all (IsLineRead c.args.reader.now) c.args.block.now old new c.lines.left.now c.lines.done c.lines.invariant end
