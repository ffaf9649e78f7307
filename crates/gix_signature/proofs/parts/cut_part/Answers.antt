use Rattle.gix_signature.proofs.Runs.{cut_none}
use Rattle.gix_signature.proofs.parts.cut_part.Goals as goal

pub returns-in_err-more : goal.returns-in_err-more
returns-in_err-more c =
    rw c.from_residual.ensures
    (cut_none c.args.text.now c.split_at.result.1.now c.part_len.result c.args.byte c.part_len.ensures.value c.split_at.ensures.back
    c.requires c.in_err-more.ensures)
