use Rattle.std.proofs.Common.{◌≡◌, ◌∙◌, ℕ, ◌+◌, ◌*◌, ◌≤◌, true, List, ◌∷◌, length, get_or, drop, Option, Some, None, refl, ap, sym, subst}
use Rattle.std.proofs.Common.{arith}
use Rattle.std.proofs.lemmas.Bool.Decides.{nat_tests}
use Rattle.std.specs.Prelude.{◌==◌}
use Rattle.gix_date.specs.Git.Forms.{read_marked_date}
use Rattle.gix_date.specs.Text.Front.{ReadFront, skip_char}
use Rattle.gix_date.specs.Text.Numbers.{two_digit_value, read_two_digits, read_year}
use Rattle.gix_date.specs.declared.clock.DateFields.{DateFields}
use Rattle.gix_date.proofs.Text.AsciiCuts.{cut_pair}
use Rattle.gix_date.proofs.parsing.fields.read_marked_date.Goals as goal

-- the date of four pairs of digits, and the rest
abbrev date_of : Option ℕ → Option ℕ → Option ℕ → Option ℕ → List ℕ → ReadFront DateFields
date_of (Some century) (Some year) (Some month) (Some day) rest =
    Some (record { year = 100 * century + year; month = month; day = day }, rest)
date_of _ _ _ _ _ = None

same-mark : (mark : ℕ) → (mark == mark) ≡ true
same-mark mark = grind (arith, nat_tests)

of-pairs : (mark a b c d e f g h : ℕ) (rest : List ℕ) (x y z w : Option ℕ) → two_digit_value a b ≡ x → two_digit_value c d ≡ y
    → two_digit_value e f ≡ z → two_digit_value g h ≡ w
    → read_marked_date mark (a ∷ b ∷ c ∷ d ∷ mark ∷ e ∷ f ∷ mark ∷ g ∷ h ∷ rest) ≡ date_of x y z w rest
unfolding read_marked_date read_year read_two_digits skip_char
of-pairs mark a b c d e f g h rest None y z w p q r s = rw p refl
of-pairs mark a b c d e f g h rest (Some century) None z w p q r s = rw (p, q) refl
of-pairs mark a b c d e f g h rest (Some century) (Some year) None w p q r s = rw (p, q, same-mark mark, r) refl
of-pairs mark a b c d e f g h rest (Some century) (Some year) (Some month) None p q r s =
    rw (p, q, same-mark mark, r, same-mark mark, s) refl
of-pairs mark a b c d e f g h rest (Some century) (Some year) (Some month) (Some day) p q r s =
    rw (p, q, same-mark mark, r, same-mark mark, s) refl

ten-bytes : (t : List ℕ) → 10 ≤ length t
    → t ≡ get_or t 0 0 ∷ get_or t 1 0 ∷ get_or t 2 0 ∷ get_or t 3 0 ∷ get_or t 4 0 ∷ get_or t 5 0 ∷ get_or t 6 0 ∷ get_or t 7 0 ∷ get_or t 8
    0 ∷ get_or t 9 0 ∷ drop 10 t
ten-bytes (a ∷ b ∷ c ∷ d ∷ first ∷ e ∷ f ∷ second ∷ g ∷ h ∷ rest) n = refl
ten-bytes t n = absurd (omega arith)

-- the pair of digits at a place
abbrev pair_at : List ℕ → ℕ → Option ℕ
pair_at bytes n = two_digit_value (get_or bytes n 0) (get_or bytes (n + 1) 0)

of-bytes : (mark : ℕ) (bytes text : List ℕ) (x y z w : Option ℕ) → bytes ≡ text → 10 ≤ length bytes → get_or bytes 4 0 ≡ mark
    → get_or bytes 7 0 ≡ mark
    → x ≡ pair_at bytes 0 → y ≡ pair_at bytes 2 → z ≡ pair_at bytes 5 → w ≡ pair_at bytes 8
    → date_of x y z w (drop 10 text) ≡ read_marked_date mark text
of-bytes mark bytes text x y z w t n first second p q r s =
    let found = of-pairs mark (get_or bytes 0 0) (get_or bytes 1 0) (get_or bytes 2 0) (get_or bytes 3 0) (get_or bytes 5 0)
    (get_or bytes 6 0) (get_or bytes 8 0) (get_or bytes 9 0) (drop 10 bytes) x y z w (sym p) (sym q) (sym r) (sym s) in
    let whole = rw (first, second) at (ten-bytes bytes n) in
    subst (λ (u : List ℕ). date_of x y z w (drop 10 u) ≡ read_marked_date mark u) t
    (sym found ∙ ap (λ (u : List ℕ). read_marked_date mark u) (sym whole))

pub range_from-requires : goal.range_from-requires
range_from-requires c = λ _.
    cut_pair c.as_bytes.result.now c.args.text.now 9 c.in_ok-day.day c.as_bytes.ensures.value c.utf8.text
    (omega (arith, c.in-len10-up.len_at_least)) c.in_ok-day.ensures.value

pub returns-in_err-century-clause-value : goal.returns-in_err-century-clause-value
returns-in_err-century-clause-value c = rw c.from_residual.ensures (of-bytes c.args.mark c.as_bytes.result.now c.args.text.now None _ _ _
    c.as_bytes.ensures.value c.in-len10-up.len_at_least (sym c.from.ensures ∙ c.if-from-mark.false)
    (sym c.from-else-from-mark.ensures ∙ c.if-from-mark-2.false)
    c.in_err-century.ensures.value refl refl refl)

pub returns-in_err-year-clause-value : goal.returns-in_err-year-clause-value
returns-in_err-year-clause-value c = rw c.from_residual-in_err-year.ensures
    (of-bytes c.args.mark c.as_bytes.result.now c.args.text.now (Some c.in_ok-century.century) None _ _
    c.as_bytes.ensures.value c.in-len10-up.len_at_least (sym c.from.ensures ∙ c.if-from-mark.false)
    (sym c.from-else-from-mark.ensures ∙ c.if-from-mark-2.false)
    c.in_ok-century.ensures.value c.in_err-year.ensures.value refl refl)

pub returns-in_err-month-clause-value : goal.returns-in_err-month-clause-value
returns-in_err-month-clause-value c = rw c.from_residual-in_err-month.ensures
    (of-bytes c.args.mark c.as_bytes.result.now c.args.text.now (Some c.in_ok-century.century) (Some c.in_ok-year.year) None _
    c.as_bytes.ensures.value c.in-len10-up.len_at_least (sym c.from.ensures ∙ c.if-from-mark.false)
    (sym c.from-else-from-mark.ensures ∙ c.if-from-mark-2.false)
    c.in_ok-century.ensures.value c.in_ok-year.ensures.value c.in_err-month.ensures.value refl)

pub returns-in_err-day-clause-value : goal.returns-in_err-day-clause-value
returns-in_err-day-clause-value c = rw c.from_residual-in_err-day.ensures (of-bytes c.args.mark c.as_bytes.result.now c.args.text.now
    (Some c.in_ok-century.century) (Some c.in_ok-year.year) (Some c.in_ok-month.month) None
    c.as_bytes.ensures.value c.in-len10-up.len_at_least (sym c.from.ensures ∙ c.if-from-mark.false)
    (sym c.from-else-from-mark.ensures ∙ c.if-from-mark-2.false)
    c.in_ok-century.ensures.value c.in_ok-year.ensures.value c.in_ok-month.ensures.value c.in_err-day.ensures.value)

pub returns-clause-value : goal.returns-clause-value
returns-clause-value c = rw c.range_from.ensures.value (of-bytes c.args.mark c.as_bytes.result.now c.args.text.now (Some c.from-2.result)
    (Some c.from-3.result) (Some c.in_ok-month.month) (Some c.in_ok-day.day)
    c.as_bytes.ensures.value c.in-len10-up.len_at_least (sym c.from.ensures ∙ c.if-from-mark.false)
    (sym c.from-else-from-mark.ensures ∙ c.if-from-mark-2.false)
    (ap (λ (n : ℕ). Some n) c.from-2.ensures ∙ c.in_ok-century.ensures.value)
    (ap (λ (n : ℕ). Some n) c.from-3.ensures ∙ c.in_ok-year.ensures.value) c.in_ok-month.ensures.value c.in_ok-day.ensures.value)
