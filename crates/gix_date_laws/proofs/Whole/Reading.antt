-- Careful reading beside `parse_with`, and dates in which no offset is written.
use Rattle.std.proofs.Common.{arith}
use Rattle.std.proofs.Common.{◌≡◌, ◌∙◌, ℕ, pos, Bool, true, false, cond, List, [], ◌∷◌, refl, ap, sym, Option, Some, None, Ok, inl, inr}
use Rattle.std.proofs.lemmas.Option.{same_Some as same_some}
use Rattle.std.specs.Option.{option_map, option_or}
use Rattle.std.specs.Prelude.{is_some}
use Rattle.jiff.specs.declared.zoned.Zoned.{Zoned}
use Rattle.std.specs.Str.{IsUtf8}
use Rattle.gix_date.specs.Careful.Dates.{unzoned_day, unzoned_git_time, unzoned_time}
use Rattle.gix_date.specs.Careful.Outcome.{First, CarefulOutcome}
use Rattle.gix_date.specs.Families.Answer.{FamilyAnswer, Absolute}
use Rattle.gix_date.specs.Families.Epoch.{utc_time}
use Rattle.gix_date.specs.Families.Order.{first_family_by, ParseNoAllocOutcome, Short}
use Rattle.gix_date.specs.Families.Patterns.{midnight, real_day_answer, short_answer}
use Rattle.gix_date.specs.Families.AfterDay.{answer_after}
use Rattle.gix_date.specs.Families.Raw.{OffsetRule, is_quarter_offset}
use Rattle.gix_date.specs.Fields.Civil.{civil_instant}
use Rattle.gix_date.specs.Fields.DateFields.{read_plain_date}
use Rattle.gix_date.specs.Fields.Layout.{LocalDate}
use Rattle.gix_date.specs.Git.Forms.{git_form, git_time}
use Rattle.gix_date.specs.Text.SpaceWords.{is_nonempty}
use Rattle.gix_date.specs.declared.time.Time.{Time}
use Rattle.gix_date.proofs.Fields.AfterDay.{day_with_instant}
use Rattle.gix_date.proofs.Fields.FieldsTaken.{went, first-or}
use Rattle.gix_date_laws.proofs.Shared.Agreement.{comes_first}

pub plain_time : (answer : Option FamilyAnswer) (now : Option Zoned) (t : Time) → CarefulOutcome (First answer) now (Ok t)
    → ParseNoAllocOutcome answer now (Ok t)
plain_time answer now t (plain, outcome, e) = grind (arith)

-- Dates in which no offset is written.

unless-some : (b : Bool) (a : Option Time) (t : Time) → cond b None a ≡ Some t → (b ≡ false) × (a ≡ Some t)
unless-some true a t e = absurd cc
unless-some false a t e = (refl, e)

git-is : (text : List ℕ) (t : Time) → unzoned_git_time text ≡ Some t → git_time text ≡ Some t
unfolding unzoned_git_time git_time git_form
git-is text t e = grind (arith, went, unless-some)

short-of : (text : List ℕ) (date : LocalDate) → read_plain_date text ≡ Some (date, [])
    → short_answer text ≡ answer_after [] real_day_answer date []
unfolding short_answer
short-of text date e = rw e refl

day_of_letters : (text : List ℕ) (date : LocalDate) (rest : List ℕ) (t : Time) → read_plain_date text ≡ Some (date, rest)
    → is_nonempty rest ≡ false → option_map utc_time (civil_instant date midnight (pos 0)) ≡ Some t
    → short_answer text ≡ Some (Absolute t)
day_of_letters text date (c ∷ cs) t e n k = absurd cc
day_of_letters text date [] t e n k = grind (arith, short-of, day_with_instant, same_some)

day_is_named : (text : List ℕ) (t : Time) → unzoned_day text ≡ Some t → short_answer text ≡ Some (Absolute t)
unfolding unzoned_day
day_is_named text t e = grind (arith, went, unless-some, day_of_letters)

pub answers : (rule : OffsetRule) (text : List ℕ) (t : Time) → IsUtf8 text → unzoned_time text ≡ Some t
    → first_family_by rule text ≡ Some (Absolute t)
unfolding unzoned_time
answers rule text t u e =
    let first = comes_first rule text u in
    elim (first-or (unzoned_day text) (unzoned_git_time text) t e) [
      | inl h ↦ (let d = day_is_named text t h in first.alone Short (λ q. cc) (λ q. cc) (ap is_some d) ∙ d)
      | inr h ↦ (let g = git-is text t h in first.git (ap (λ o. is_some (option_map Absolute o)) g) ∙ ap (option_map Absolute) g)
    ]

pub unzoned-by-day : (text : List ℕ) (t : Time) → unzoned_day text ≡ Some t → unzoned_time text ≡ Some t
unfolding unzoned_time
unzoned-by-day text t e = rw e refl

same-answer : (a b : Time) → (λ (z : Time). Some (Absolute z)) a ≡ Some (Absolute b) → a ≡ b
same-answer a b e = cc

pub unzoned-by-git : (text : List ℕ) (t : Time) → IsUtf8 text → unzoned_git_time text ≡ Some t → unzoned_time text ≡ Some t
unfolding unzoned_time
unzoned-by-git text t u e = by (unzoned_day text) refl
  where
    git : first_family_by is_quarter_offset text ≡ Some (Absolute t)
    git = let g = git-is text t e in (comes_first is_quarter_offset text u).git (ap (λ o. is_some (option_map Absolute o)) g)
        ∙ ap (option_map Absolute) g

    by : (d : Option Time) → unzoned_day text ≡ d → option_or d (unzoned_git_time text) ≡ Some t
    by None f = e
    by (Some k) f = ap (λ (z : Time). Some z) (same-answer k t (sym (answers is_quarter_offset text k u (unzoned-by-day text k f)) ∙ git))
