use Rattle.std.proofs.Common.{◌∙◌, ◌∷◌, ◌++◌, [], ℕ, List, ap, lit<, decimal}
use Rattle.gix_date.specs.Text.Characters.{space}
use Rattle.gix_date.specs.Text.Names.{day_name, month_name}
use Rattle.gix_date.specs.Fields.FieldTexts.{four_digits, clock_text}
use Rattle.gix_date.proofs.Printing.Appended.{appended, joined_so, four-joined, names-joined}
use Rattle.gix_date.proofs.clock.texts.push_bare_default.Goals as goal

pub returns-clause-bytes : goal.returns-clause-bytes
returns-clause-bytes g c =
    let t = c.args.t in
    let month = appended _ _ _ _ _ c.push_weekday.ensures.bytes c.push_month.ensures.bytes in
    let day = appended _ _ _ _ _ month c.push_day.ensures.bytes in
    let clock = c.push_year.ensures.bytes ∙ ap (λ (b : List ℕ). b ++ four_digits t.date.year) (c.push-2.ensures.ascii (lit< tt) ∙ ap
    (λ (b : List ℕ). b ++ (space ∷ []))
    (c.push_clock.ensures.bytes ∙ ap (λ (b : List ℕ). b ++ clock_text t.clock) (c.push.ensures.ascii (lit< tt)))) in
    let rest = space ∷ (clock_text t.clock ++ (space ∷ four_digits t.date.year)) in
    joined_so _ _ _ _ (appended _ _ _ _ rest day
    (clock ∙ four-joined c.push_day.new.text.bytes (space ∷ []) (clock_text t.clock) (space ∷ []) (four_digits t.date.year)))
    (names-joined (day_name t.weekday) (month_name t.date.month) (decimal t.date.day) rest)
