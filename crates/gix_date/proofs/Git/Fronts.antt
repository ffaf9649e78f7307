-- What the front of a Git text takes: a date, and the gap after it.
use Rattle.std.proofs.Common.{arith}
use Rattle.std.proofs.Common.{◌≡◌, ◌∙◌, ℕ, List, [], ◌∷◌, ◌++◌, refl, ap, sym, subst, Some, Option, inl, inr, append_assoc}
use Rattle.std.proofs.lemmas.Option.{same_Some as same_some}
use Rattle.std.specs.Option.{option_or}
use Rattle.gix_date.specs.Fields.Civil.{read_date}
use Rattle.gix_date.specs.Text.Front.{ReadFront, skip_char, ◌>>=◌}
use Rattle.gix_date.specs.Git.Forms.{read_marked_date, read_compact_date, read_then_gap, dotted_front, compact_front, flexible_front}
use Rattle.gix_date.specs.Git.Forms.{git_front}
use Rattle.gix_date.specs.Git.Grammar.{IsGitDate, IsGitFront}
use Rattle.gix_date.specs.Text.Characters.{space, dot, minus, letter_t}
use Rattle.gix_date.specs.Text.Numbers.{read_two_digits, read_year}
use Rattle.gix_date.specs.declared.clock.DateFields.{DateFields}
use Rattle.gix_date.proofs.Fields.FieldsTaken.{TookFront, went, first-or, year-taken, two-taken, after-taken, date_at}

-- what stands after a mark or a gap
abbrev pub Gap : Type 0
Gap = List ℕ → Option (List ℕ)

-- what the gap takes is the mark
abbrev Takes : Gap → List ℕ → Type 0
Takes gap mark = (x rest : List ℕ) → gap x ≡ Some rest → x ≡ mark ++ rest

pub joined : (a b c d e : List ℕ) → (a ++ (b ++ (c ++ (b ++ d)))) ++ e ≡ a ++ (b ++ (c ++ (b ++ (d ++ e))))
joined a b c d e = simp append_assoc

date-is : (gap : Gap) (mark : List ℕ) → Takes gap mark → (x : List ℕ) (date : DateFields) (rest : List ℕ)
    → read_date read_two_digits gap x ≡ Some (date, rest)
    → TookFront (λ text. IsGitDate mark text date) x rest
date-is gap mark takes x date rest e =
    let year = went (read_year x) (λ year. gap year.1 >>= λ r. read_two_digits r >>= λ month. gap month.1 >>= λ s. read_two_digits s
    >>= λ day. Some (date_at year.0 month.0 day.0 day.1)) (date, rest) e in
    let next = went (gap year.0.1)
    (λ r. read_two_digits r >>= λ month. gap month.1 >>= λ s. read_two_digits s >>= λ day. Some (date_at year.0.0 month.0 day.0 day.1))
    (date, rest) year.2 in
    let month = went (read_two_digits next.0)
    (λ month. gap month.1 >>= λ s. read_two_digits s >>= λ day. Some (date_at year.0.0 month.0 day.0 day.1)) (date, rest) next.2 in
    let last =
    went (gap month.0.1) (λ s. read_two_digits s >>= λ day. Some (date_at year.0.0 month.0.0 day.0 day.1)) (date, rest) month.2 in
    let day = went (read_two_digits last.0) (λ day. Some (date_at year.0.0 month.0.0 day.0 day.1)) (date, rest) last.2 in
    let y = year-taken x year.0.0 year.0.1 year.1 in
    let m = two-taken next.0 month.0.0 month.0.1 month.1 in
    let d = two-taken last.0 day.0.0 day.0.1 day.1 in
    let months = m.tens ∷ m.ones ∷ [] in
    let days = d.tens ∷ d.ones ∷ [] in
    let found = same_some (date_at year.0.0 month.0.0 day.0.0 day.0.1) (date, rest) day.2 in
    let after_m : month.0.1 ≡ mark ++ (days ++ day.0.1) = takes month.0.1 last.0 last.1 ∙ ap (λ (t : List ℕ). mark ++ t) d.whole in
    let after_y : year.0.1 ≡ mark ++ (months ++ (mark ++ (days ++ day.0.1))) = takes year.0.1 next.0 next.1
    ∙ ap (λ (t : List ℕ). mark ++ t) (m.whole ∙ ap (λ (t : List ℕ). months ++ t) after_m) in
    let split : x ≡ y.text ++ (mark ++ (months ++ (mark ++ (days ++ day.0.1)))) = y.whole ∙ ap (λ (t : List ℕ). y.text ++ t) after_y in
    let text = y.text ++ (mark ++ (months ++ (mark ++ days))) in
    subst (λ (p : DateFields × List ℕ). TookFront (λ text. IsGitDate mark text p.0) x p.1) found (record {
      text = text;
      is = record {
        year = y.text;
        month = months;
        day = days;
        whole = refl;
        is_year = y.is;
        is_month =
            (m.is_tens, m.is_ones, m.value);
        is_day = (d.is_tens, d.is_ones, d.value);
      };
      whole = split ∙ sym (joined y.text mark months days day.0.1);
    })

-- a date and its gap at the front of a text, and the rest
pub record IsFront (x : List ℕ) (date : DateFields) (rest : List ℕ) : Type 0 where
  pub day : List ℕ
  pub gap : List ℕ
  pub whole : x ≡ day ++ (gap ++ rest)
  pub is : IsGitFront day gap date

skips : (c : ℕ) → Takes (skip_char c) (c ∷ [])
skips c x rest e = after-taken c x rest e

keeps : Takes (λ (x : List ℕ). Some x) []
keeps x rest e = same_some x rest e

pub gap-taken : (read : List ℕ → ReadFront DateFields) (gap : Gap) (x : List ℕ) (date : DateFields) (rest : List ℕ)
    → read_then_gap read gap x ≡ Some (date, rest) → (left : List ℕ) × (read x ≡ Some (date, left)) × (gap left ≡ Some rest)
gap-taken read gap x date rest e = grind (arith, went, same_some)

abbrev IsForm : List ℕ → List ℕ → DateFields → Type 0
IsForm mark gap date = (day : List ℕ) → IsGitDate mark day date → IsGitFront day gap date

by-form : (mark gap : List ℕ) (read : Gap) (x : List ℕ) (date : DateFields) (left rest : List ℕ) → Takes read mark
    → read_date read_two_digits read x ≡ Some (date, left) → left ≡ gap ++ rest → IsForm mark gap date → IsFront x date rest
by-form mark gap read x date left rest takes e s form =
    let d = date-is read mark takes x date left e in
    record { day = d.text; gap = gap; whole = d.whole ∙ ap (λ (r : List ℕ). d.text ++ r) s; is = form d.text d.is }

pub front-taken : (x : List ℕ) (date : DateFields) (rest : List ℕ) → git_front x ≡ Some (date, rest) → IsFront x date rest
unfolding git_front dotted_front compact_front flexible_front read_marked_date read_compact_date
front-taken x date rest e =
    elim (first-or (dotted_front x) (option_or (compact_front x) (flexible_front x)) (date, rest) e) [
      | inl h ↦
          let f = gap-taken (read_marked_date dot) (skip_char space) x date rest h in
          by-form (dot ∷ []) (space ∷ []) (skip_char dot) x date f.0 rest (skips dot) f.1 (after-taken space f.0 rest f.2)
          (λ day k. inl (k, refl))
      | inr h ↦ elim (first-or (compact_front x) (flexible_front x) (date, rest) h) [
        | inl k ↦
            let f = gap-taken read_compact_date (skip_char letter_t) x date rest k in
            by-form [] (letter_t ∷ []) (λ (y : List ℕ). Some y) x date f.0 rest keeps f.1 (after-taken letter_t f.0 rest f.2)
            (λ day g. inr (inl (g, refl)))
        | inr k ↦
            let f = gap-taken (read_marked_date minus) (λ left. option_or (skip_char letter_t left) (skip_char space left)) x date rest k in
            elim (first-or (skip_char letter_t f.0) (skip_char space f.0) rest f.2) [
              | inl g ↦ by-form (minus ∷ []) (letter_t ∷ []) (skip_char minus) x date f.0 rest (skips minus) f.1
                  (after-taken letter_t f.0 rest g) (λ day d. inr (inr (d, inl refl)))
              | inr g ↦ by-form (minus ∷ []) (space ∷ []) (skip_char minus) x date f.0 rest (skips minus) f.1 (after-taken space f.0 rest g)
                  (λ day d. inr (inr (d, inr refl)))
            ]
      ]
    ]
