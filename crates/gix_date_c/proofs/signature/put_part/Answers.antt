use Rattle.std.proofs.Common.{◌≡◌, ◌∙◌, ◌≤◌, ◌<◌, length, get_or, true, arith, sym, rules}
use Rattle.gix_signature.specs.Ident.Bytes.{is_kept}
use Rattle.gix_date_c.proofs.Kept.{step-yes, step-no, step-fits}
use Rattle.gix_date_c.proofs.signature.put_part.Goals as goal
use Rattle.gix_date_c.proofs.signature.put_part.Goals.{then-is_kept, else-is_kept}

pub put_bytes_at-place-requires : goal.put_bytes_at-place-requires
put_bytes_at-place-requires c =
    let part = c.args.part.now in
    let i = c.loop-byte.byte-index in
    let inside : i < length part = search rules in
    let room = rw c.if-is_whole.false at c.requires.room in
    let is : is_kept (get_or part i 0) ≡ true = sym c.is_kept.ensures ∙ c.if-is_kept.true in
    let same : length c.loop-byte.out ≡ length c.args.out.now = search rules in
    let fits = step-fits is_kept part c.args.at c.loop-byte.place i (length c.args.out.now) inside is c.loop-byte.invariant.0 room in
    omega (arith, fits, same)

pub loop-byte-preserved : goal.loop-byte-preserved
loop-byte-preserved c =
    let part = c.args.part.now in
    let old = c.args.out.now in
    let cur = c.loop-byte.out in
    let i = c.loop-byte.byte-index in
    let inside : i < length part = search rules in
    let room = rw c.if-is_whole.false at c.requires.room in
    let within : c.args.at ≤ length old = omega (arith, room) in
    elim c.if-is_kept.branch [
      | then-is_kept w ↦
          rw (w.place-is, w.out-is)
          (step-yes is_kept part old cur w.put_bytes_at-place.new.out c.args.at c.loop-byte.place w.put_bytes_at-place.result i within
          inside
          (sym c.is_kept.ensures ∙ w.if-is_kept.true) c.loop-byte.invariant.0 c.loop-byte.invariant.1 w.put_bytes_at-place.ensures.after
          w.put_bytes_at-place.ensures.bytes)
      | else-is_kept w ↦
          rw (w.place-is, w.out-is)
          (step-no is_kept part old cur c.args.at c.loop-byte.place i inside (sym c.is_kept.ensures ∙ w.if-is_kept.false)
          c.loop-byte.invariant.0 c.loop-byte.invariant.1)
    ]
