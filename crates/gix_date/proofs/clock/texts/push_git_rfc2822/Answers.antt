use Rattle.std.proofs.Common.{◌∙◌, ◌∷◌, ◌++◌, [], append_assoc, decimal}
use Rattle.gix_date.specs.Text.Characters.{comma, space}
use Rattle.gix_date.specs.Text.Names.{day_name, month_name}
use Rattle.gix_date.specs.Fields.FieldTexts.{four_digits, clock_text}
use Rattle.gix_date.specs.Fields.Offsets.{compact_offset_text}
use Rattle.gix_date.proofs.Printing.Appended.{appended, joined_so, four-joined}
use Rattle.gix_date.proofs.clock.texts.push_git_rfc2822.Goals as goal

pub returns-clause-bytes : goal.returns-clause-bytes
returns-clause-bytes g c =
    let t = c.args.t in
    let name = day_name t.weekday ++ (comma ∷ space ∷ []) in
    let rest = space ∷ (month_name t.date.month
    ++ (space ∷ (four_digits t.date.year ++ (space ∷ (clock_text t.clock ++ (space ∷ compact_offset_text t.offset)))))) in
    let more = c.push_from_month.ensures.bytes ∙ four-joined c.push_day.new.text.bytes (space ∷ month_name t.date.month)
    (space ∷ four_digits t.date.year) (space ∷ clock_text t.clock) (space ∷ compact_offset_text t.offset) in
    joined_so _ _ _ _
    (appended _ _ _ _ rest (appended _ _ _ name (decimal t.date.day) c.push_rfc2822_name.ensures.bytes c.push_day.ensures.bytes) more)
    (append_assoc name (decimal t.date.day) rest)
