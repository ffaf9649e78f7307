use Rattle.std.proofs.Common.{◌∙◌, ◌∷◌, ◌++◌, ℕ, ap}
use Rattle.gix_date.specs.Text.Characters.{space}
use Rattle.gix_date.specs.Text.Names.{day_name, month_name}
use Rattle.gix_date.specs.Text.Numbers.{two_digits}
use Rattle.gix_date.specs.Fields.FieldTexts.{four_digits, clock_text}
use Rattle.gix_date.specs.Fields.Offsets.{compact_offset_text}
use Rattle.gix_date.proofs.Printing.Appended.{appended, joined_so, three-joined, names-joined}
use Rattle.gix_date.proofs.clock.texts.push_gitoxide.Goals as goal

pub returns-clause-bytes : goal.returns-clause-bytes
returns-clause-bytes g c =
    let t = c.args.t in
    let rest = space ∷ (four_digits t.date.year ++ (space ∷ (clock_text t.clock ++ (space ∷ compact_offset_text t.offset)))) in
    let month = appended _ _ _ _ _ c.push_weekday.ensures.bytes c.push_month.ensures.bytes in
    let day = c.push_pair.ensures.bytes ∙ ap (λ (n : ℕ). c.push_month.new.text.bytes ++ two_digits n) c.day.ensures.value in
    let more = c.push_from_year.ensures.bytes ∙ three-joined c.push_pair.new.text.bytes (space ∷ four_digits t.date.year)
    (space ∷ clock_text t.clock) (space ∷ compact_offset_text t.offset) in
    joined_so _ _ _ _ (appended _ _ _ _ rest (appended _ _ _ _ (two_digits t.date.day) month day) more)
    (names-joined (day_name t.weekday) (month_name t.date.month) (two_digits t.date.day) rest)
