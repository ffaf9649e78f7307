use Rattle.std.proofs.lemmas.Bool.{and_parts}
use Rattle.gix_date.proofs.Text.AsciiBlocks.{ends-are-ascii}
use Rattle.gix_date.proofs.bytes.ends_are_ascii.Goals as goal

pub returns : goal.returns
returns g c h =
    let both = and_parts c.is_ascii.result c.is_ascii-2.result h in
    ends-are-ascii c.args.bytes.now g.row.N c.requires.2 c.requires.3 (c.is_ascii.ensures both.0) (c.is_ascii-2.ensures both.1)
