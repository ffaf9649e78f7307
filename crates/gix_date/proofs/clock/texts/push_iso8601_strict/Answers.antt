use Rattle.std.proofs.Common.{[], ◌∷◌, ◌++◌, lit<}
use Rattle.gix_date.specs.Text.Characters.{letter_t}
use Rattle.gix_date.specs.Fields.DateOffsets.{strict_offset_text}
use Rattle.gix_date.specs.Fields.FieldTexts.{clock_text, date_text}
use Rattle.gix_date.proofs.Printing.Appended.{appended}
use Rattle.gix_date.proofs.clock.texts.push_iso8601_strict.Goals as goal

pub returns-clause-bytes : goal.returns-clause-bytes
returns-clause-bytes g c =
    let t = c.args.t in
    let old = c.args.text.now.bytes in
    let front = date_text t.date ++ (letter_t ∷ []) in
    let gap = appended old c.push_date.new.text.bytes c.push.new.self.bytes (date_text t.date) (letter_t ∷ []) c.push_date.ensures.bytes
    (c.push.ensures.ascii (lit< tt)) in
    let clock = appended old c.push.new.self.bytes c.push_clock.new.text.bytes front (clock_text t.clock) gap c.push_clock.ensures.bytes in
    appended old c.push_clock.new.text.bytes c.push_colon_offset.new.text.bytes (front ++ clock_text t.clock) (strict_offset_text t.offset)
    clock c.push_colon_offset.ensures.bytes
