use Rattle.gix_signature.proofs.Runs.{all_passed}
use Rattle.gix_signature.proofs.parts.is_part.Goals as goal

pub returns : goal.returns
returns c = all_passed c.args.text.now c.part_len.result c.part_len.ensures.value
