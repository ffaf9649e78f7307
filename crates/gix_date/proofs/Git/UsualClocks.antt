-- Clocks as most texts have them: two digits of hours, of minutes, and perhaps of seconds.
use Rattle.std.proofs.Common.{◌≡◌, ◌∙◌, ℕ, ◌≤◌, ◌<◌, ◌+◌, ◌*◌, ◌-◌, true, false, List, [], ◌∷◌, length, get_or, refl, ap, sym, arith}
use Rattle.std.proofs.Common.{Some, IsUtf8, subst}
use Rattle.std.proofs.Common.{ap₂}
use Rattle.std.proofs.lemmas.Bool.{and_parts as both}
use Rattle.std.proofs.lemmas.Bool.Decides.{nat_tests}
use Rattle.std.proofs.lemmas.Option.{cond_some}
use Rattle.std.specs.Char.{is_ascii, is_ascii_digit, is_ascii_graphic}
use Rattle.std.specs.List.{before_first}
use Rattle.std.specs.Prelude.{◌==◌}
use Rattle.std.specs.Str.{trim}
use Rattle.gix_date.specs.Git.Clock.{git_clock, trimmed_clock, clock_with_colons, digits_at_most}
use Rattle.gix_date.specs.Text.Characters.{is_dot}
use Rattle.gix_date.specs.Text.Numbers.{two_digit_value}
use Rattle.gix_date.specs.declared.clock.ClockFields.{ClockFields}
use Rattle.gix_date.proofs.Text.Trimmed.{trim_ends}

-- a digit is no mark of a clock, and visible
abbrev ClockDigit : ℕ → Type 0
ClockDigit c = ((c == 46) ≡ false) × ((c == 58) ≡ false) × (is_ascii c ≡ true) × (is_ascii_graphic c ≡ true)

one : (c : ℕ) → is_ascii_digit c ≡ true → ClockDigit c
one c h = (grind (arith, nat_tests, h), grind (arith, nat_tests, h), grind (arith, nat_tests, h), grind (arith, nat_tests, h))

at_most : (a b most n : ℕ) → is_ascii_digit a ≡ true → is_ascii_digit b ≡ true → 10 * (a - 48) + (b - 48) ≡ n → n ≤ most
    → digits_at_most most (a ∷ b ∷ []) ≡ Some n
unfolding digits_at_most
at_most a b most n p q e small = grind (arith, nat_tests)

pair : (a b most n : ℕ) → Some n ≡ two_digit_value a b → n ≤ most
    → ClockDigit a × ClockDigit b × (digits_at_most most (a ∷ b ∷ []) ≡ Some n)
pair a b most n e small =
    let v : (10 * (a - 48) + (b - 48) ≡ n) × (is_ascii_digit a ≡ true) × (is_ascii_digit b ≡ true) =
    grind (arith, cond_some, both, nat_tests) in
    (one a v.1, one b v.2, at_most a b most n v.1 v.2 v.0 small)

pub short_clock : (t : List ℕ) (k : ClockFields) → IsUtf8 t → 5 ≤ length t → length t < 6
    → Some k.hour ≡ two_digit_value (get_or t 0 0) (get_or t 1 0) → get_or t 2 0 ≡ 58
    → Some k.minute ≡ two_digit_value (get_or t 3 0) (get_or t 4 0) → k.second ≡ 0 → k.hour ≤ 23 → k.minute ≤ 59 → git_clock t ≡ Some k
unfolding git_clock trimmed_clock clock_with_colons
short_clock (a ∷ b ∷ x ∷ c ∷ d ∷ []) k u n long first mark second zero hours minutes =
    let t = a ∷ b ∷ 58 ∷ c ∷ d ∷ [] in
    let p = pair a b 23 k.hour first hours in
    let q = pair c d 59 k.minute second minutes in
    let utf8 = subst IsUtf8 (ap (λ x. a ∷ b ∷ x ∷ c ∷ d ∷ []) mark) u in
    let shown : trim (before_first is_dot (a ∷ b ∷ 58 ∷ c ∷ d ∷ [])) ≡ a ∷ b ∷ 58 ∷ c ∷ d ∷ [] =
    rw (p.0.0, p.1.0, q.0.0, q.1.0) (trim_ends t utf8 (omega arith) p.0.3 q.1.3) in
    ap (λ x. git_clock (a ∷ b ∷ x ∷ c ∷ d ∷ [])) mark ∙ ap trimmed_clock shown
    ∙ rw (p.0.2, p.1.2, q.0.2, q.1.2, p.0.1, p.1.1, q.0.1, q.1.1, p.2, q.2)
    (ap (λ s. Some (record { hour = k.hour; minute = k.minute; second = s })) (sym zero))
short_clock t k u n long first mark second zero hours minutes = absurd (omega (arith, n, long))

pub long_clock : (t : List ℕ) (k : ClockFields) → IsUtf8 t → 8 ≤ length t → length t < 9
    → Some k.hour ≡ two_digit_value (get_or t 0 0) (get_or t 1 0) → get_or t 2 0 ≡ 58
    → Some k.minute ≡ two_digit_value (get_or t 3 0) (get_or t 4 0) → get_or t 5 0 ≡ 58
    → Some k.second ≡ two_digit_value (get_or t 6 0) (get_or t 7 0) → k.hour ≤ 23 → k.minute ≤ 59 → k.second ≤ 59 → git_clock t ≡ Some k
unfolding git_clock trimmed_clock clock_with_colons
long_clock (a ∷ b ∷ x ∷ c ∷ d ∷ y ∷ e ∷ f ∷ []) k u n long first mark second again third hours minutes seconds =
    let t = a ∷ b ∷ 58 ∷ c ∷ d ∷ 58 ∷ e ∷ f ∷ [] in
    let p = pair a b 23 k.hour first hours in
    let q = pair c d 59 k.minute second minutes in
    let r = pair e f 59 k.second third seconds in
    let utf8 = subst IsUtf8 (ap₂ (λ x y. a ∷ b ∷ x ∷ c ∷ d ∷ y ∷ e ∷ f ∷ []) mark again) u in
    let shown : trim (before_first is_dot (a ∷ b ∷ 58 ∷ c ∷ d ∷ 58 ∷ e ∷ f ∷ [])) ≡ a ∷ b ∷ 58 ∷ c ∷ d ∷ 58 ∷ e ∷ f ∷ [] =
    rw (p.0.0, p.1.0, q.0.0, q.1.0, r.0.0, r.1.0) (trim_ends t utf8 (omega arith) p.0.3 r.1.3) in
    ap₂ (λ x y. git_clock (a ∷ b ∷ x ∷ c ∷ d ∷ y ∷ e ∷ f ∷ [])) mark again ∙ ap trimmed_clock shown
    ∙ rw (p.0.2, p.1.2, q.0.2, q.1.2, r.0.2, r.1.2, p.0.1, p.1.1, q.0.1, q.1.1, r.0.1, r.1.1, p.2, q.2, r.2) refl
long_clock t k u n long first mark second again third hours minutes seconds = absurd (omega (arith, n, long))
