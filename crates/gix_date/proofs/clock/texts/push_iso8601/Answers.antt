use Rattle.std.proofs.Common.{◌∙◌, ◌∷◌, append_assoc}
use Rattle.gix_date.specs.Text.Characters.{space}
use Rattle.gix_date.specs.Fields.FieldTexts.{clock_text}
use Rattle.gix_date.specs.Fields.Offsets.{compact_offset_text}
use Rattle.gix_date.proofs.Printing.Appended.{appended}
use Rattle.gix_date.proofs.clock.texts.push_iso8601.Goals as goal

pub returns-clause-bytes : goal.returns-clause-bytes
returns-clause-bytes g c = appended _ _ _ _ _ c.push_date.ensures.bytes (c.push_clock_and_offset.ensures.bytes
    ∙ append_assoc c.push_date.new.text.bytes (space ∷ clock_text c.args.t.clock) (space ∷ compact_offset_text c.args.t.offset))
