-- Steps as many as tokens are enough, and a text has no more tokens than bytes.
use Rattle.std.proofs.Common.{◌≡◌, ◌≤◌, ◌+◌, ℕ, zero, suc, Bool, true, false, cond, List, [], ◌∷◌, length, refl, ap, arith, Result, Ok, Err}
use Rattle.std.specs.Char.{is_ascii_alphabetic, is_ascii_digit}
use Rattle.git_date.specs.Tokens.Tokens.{Token, Letters, Digits, Mark, letter_before, digit_before, tokens, bytes_left, is_end, walked}
use Rattle.git_date.specs.Rules.Digits.{Stepped}
use Rattle.git_date.specs.Exact.Reading.{read_on, rule, steps}
use Rattle.git_date.specs.declared.fields.dates.Now.{Now}
use Rattle.git_date.specs.declared.error.Fault.{Fault}
use Rattle.git_date.specs.declared.fields.Fields.{Fields}
use Rattle.git_date.specs.declared.reader.Reading.{Reading}
use Rattle.git_date.proofs.Rules.Kept.{IsKept, Leaves, IsTokenAt, rule-left}
use Rattle.git_date.specs.Tokens.Steps.{and_then}

-- steps enough are as good as more
pub short-kept : (n : ℕ) → IsKept (λ ts. length ts ≤ n) (λ left. Unit {0})
short-kept n = record {
  next = λ t more h. omega arith;
  at_letters = λ run more h. tt;
  at_digits = λ run more h. tt;
  at_mark = λ byte more below h. tt;
}

pub any-token : (n : ℕ) (t : Token) (more : List Token) → IsTokenAt (λ ts. length ts ≤ n) (λ left. Unit {0}) (short-kept n) t more
any-token n (Letters run) more = tt
any-token n (Digits run) more = tt
any-token n (Mark byte) more = tt

pub rule-short : (now : Now) (n : ℕ) (f : Fields) (t : Token) (more : List Token) → length more ≤ n
    → Leaves (λ ts. length ts ≤ n) (λ left. Unit {0}) (rule now f t more)
rule-short now n f t more h = rule-left (λ ts. length ts ≤ n) (λ left. Unit {0}) (short-kept n) now f t more (any-token n t more) h

enough-then : (now : Now) (n m : ℕ) (r : Reading) (left : ℕ) (step : Stepped) → Leaves (λ ts. length ts ≤ n) (λ place. Unit {0}) step
    → Leaves (λ ts. length ts ≤ m) (λ place. Unit {0}) step
    → ((other : Reading) (rest : List Token) → length rest ≤ n → length rest ≤ m → steps now n other rest ≡ steps now m other rest)
    → and_then step (λ next. steps now n (read_on r left next.0) next.1)
    ≡ and_then step (λ next. steps now m (read_on r left next.0) next.1)
enough-then now n m r left (Err e) h g same = refl
enough-then now n m r left (Ok found) h g same = same (read_on r left found.0) found.1 h g

pub enough : (now : Now) (n m : ℕ) (r : Reading) (ts : List Token) → length ts ≤ n → length ts ≤ m → steps now n r ts ≡ steps now m r ts
unfolding walked
enough now zero zero r [] h g = refl
enough now zero (suc m) r [] h g = refl
enough now (suc n) zero r [] h g = refl
enough now (suc n) (suc m) r [] h g = refl
enough now zero m r (t ∷ more) h g = absurd (omega arith)
enough now (suc n) zero r (t ∷ more) h g = absurd (omega arith)
enough now (suc n) (suc m) r (t ∷ more) h g =
    ap (λ (later : Result Reading Fault). cond (is_end t) (Ok r) later)
    (enough-then now n m r (bytes_left (t ∷ more)) (rule now r.fields t more)
    (rule-short now n r.fields t more (omega arith))
    (rule-short now m r.fields t more (omega arith))
    (λ other rest. enough now n m other rest))

-- a text has no more tokens than bytes
fewer-letters : (c : ℕ) (ts : List Token) → length (letter_before c ts) ≤ 1 + length ts
fewer-letters c (Letters run ∷ more) = omega arith
fewer-letters c ts = omega arith

fewer-digits : (c : ℕ) (ts : List Token) → length (digit_before c ts) ≤ 1 + length ts
fewer-digits c (Letters run ∷ more) = omega arith
fewer-digits c ts = omega arith

fewer-byte : (letter digit : Bool) (c : ℕ) (ts : List Token) (n : ℕ) → length ts ≤ n
    → length (cond letter (letter_before c ts) (cond digit (digit_before c ts) (Mark c ∷ ts))) ≤ 1 + n
fewer-byte true digit c ts n h = omega (arith, fewer-letters c ts)
fewer-byte false true c ts n h = omega (arith, fewer-digits c ts)
fewer-byte false false c ts n h = omega arith

pub fewer : (text : List ℕ) → length (tokens text) ≤ length text
unfolding tokens
fewer [] = omega arith
fewer (c ∷ text) = omega (arith, fewer-byte (is_ascii_alphabetic c) (is_ascii_digit c) c (tokens text) (length text) (fewer text))
