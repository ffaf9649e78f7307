use Rattle.std.proofs.Common.{◌∙◌, ◌∷◌, ◌++◌, [], ℕ, ap, append_assoc}
use Rattle.gix_date.specs.Text.Characters.{comma, space}
use Rattle.gix_date.specs.Text.Names.{day_name, month_name}
use Rattle.gix_date.specs.Text.Numbers.{two_digits}
use Rattle.gix_date.specs.Fields.FieldTexts.{four_digits, clock_text}
use Rattle.gix_date.specs.Fields.Offsets.{compact_offset_text}
use Rattle.gix_date.proofs.Printing.Appended.{appended, joined_so, four-joined}
use Rattle.gix_date.proofs.clock.texts.push_rfc2822.Goals as goal

pub returns-clause-bytes : goal.returns-clause-bytes
returns-clause-bytes g c =
    let t = c.args.t in
    let name = day_name t.weekday ++ (comma ∷ space ∷ []) in
    let rest = space ∷ (month_name t.date.month
    ++ (space ∷ (four_digits t.date.year ++ (space ∷ (clock_text t.clock ++ (space ∷ compact_offset_text t.offset)))))) in
    let day = c.push_pair.ensures.bytes ∙ ap (λ (n : ℕ). c.push_rfc2822_name.new.text.bytes ++ two_digits n) c.day.ensures.value in
    let more = c.push_from_month.ensures.bytes ∙ four-joined c.push_pair.new.text.bytes (space ∷ month_name t.date.month)
    (space ∷ four_digits t.date.year) (space ∷ clock_text t.clock) (space ∷ compact_offset_text t.offset) in
    joined_so _ _ _ _ (appended _ _ _ _ rest (appended _ _ _ name (two_digits t.date.day) c.push_rfc2822_name.ensures.bytes day) more)
    (append_assoc name (two_digits t.date.day) rest)
