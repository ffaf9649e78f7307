-- The text of a line's time: how long it is, and what its digits write.
use Rattle.std.proofs.Common.{◌≡◌, ◌∙◌, ℕ, ◌+◌, ◌*◌, ◌/◌, ◌%◌, ◌^◌, ◌<◌, ◌≤◌, Bool, true, false, cond, List, [], ◌∷◌, ◌++◌, length, ℤ}
use Rattle.std.proofs.Common.{unsigned_abs, nat_lt, if◌then◌else◌, decimal, refl, ap, sym, subst, arith, length-append}
use Rattle.std.proofs.Common.{append_assoc}
use Rattle.std.proofs.lemmas.Bool.{and_from, and_parts}
use Rattle.std.proofs.lemmas.Bool.Decides.{nat_tests}
use Rattle.std.proofs.lemmas.Fmt.{length-decimal-le, decimal_is_IsNumeral}
use Rattle.std.proofs.lemmas.Int.Digits.{digits_value_push}
use Rattle.std.proofs.lemmas.List.{append-nil}
use Rattle.std.specs.Char.{is_ascii_digit}
use Rattle.std.specs.List.{list_all}
use Rattle.std.specs.Str.Parse.{digits_value}
use Rattle.gix_date.proofs.Text.AsciiCuts.{all-append}
use Rattle.gix_date.specs.Text.Numbers.{two_digits}
use Rattle.gix_signature.specs.Ident.Texts.{begins_with}
use Rattle.gix_signature.specs.Ident.Times.{hours_written, minutes_written, digits_from_two, offset_digits}
use Rattle.gix_signature.proofs.DateTexts.{AreDecimal, are-decimal, pair-digits, digit-value}

chosen : (b : Bool) (n k : ℕ) → 2 ≤ k → length (decimal n) ≤ k → length (if b then two_digits n else decimal n) ≤ k
chosen b n k h d = grind (arith, h, d)

pub digits_short : (n k : ℕ) → 2 ≤ k → n < 10 ^ k → n < 2 ^ 64 → length (digits_from_two n) ≤ k
digits_short n k h small fits = chosen (nat_lt n 100) n k h (length-decimal-le k n (omega (arith, h)) small fits)

whole : (mark : List ℕ) (o : ℤ) (k : ℕ) → length (digits_from_two (hours_written o)) ≤ k
    → length (offset_digits mark o) ≤ k + length mark + 2
whole mark o k h =
    omega (
      arith,
      h,
      length-append (digits_from_two (hours_written o) ++ mark) (two_digits (minutes_written o)),
      length-append (digits_from_two (hours_written o)) mark,
    )

-- the digits of an offset that a clock has, and of any
pub short_offset : (mark : List ℕ) (o : ℤ) → unsigned_abs o < 100_000_000 → length (offset_digits mark o) ≤ 8 + length mark
short_offset mark o h = omega (arith, whole mark o 6 (digits_short (hours_written o) 6 (omega arith) (omega (arith, h)) (omega (arith, h))))

pub any_offset : (mark : List ℕ) (o : ℤ) → unsigned_abs o < 2 ^ 32 → length (offset_digits mark o) ≤ 10 + length mark
any_offset mark o h = omega (arith, whole mark o 8 (digits_short (hours_written o) 8 (omega arith) (omega (arith, h)) (omega (arith, h))))

-- digits of a number, at least one
pub record AreDigits (n : ℕ) (text : List ℕ) : Type 0 where
  pub all : list_all is_ascii_digit text ≡ true
  pub some : begins_with is_ascii_digit text ≡ true
  pub value : digits_value 10 text ≡ n

pair-value : (n : ℕ) → n < 100 → digits_value 10 (two_digits n) ≡ n
pair-value n h = grind (arith, digit-value)

two-are : (n : ℕ) → n < 100 → AreDigits n (two_digits n)
two-are n h =
    record {
      all = pair-digits n h;
      some = (and_parts (is_ascii_digit (48 + n / 10)) _ (pair-digits n h)).0;
      value = pair-value n h;
    }

begins-so : (text : List ℕ) (n : ℕ) → AreDecimal n text → (list_all is_ascii_digit text ≡ true) × (begins_with is_ascii_digit text ≡ true)
begins-so text n k = (
  ap (λ xs. list_all is_ascii_digit xs) k.whole ∙ and_from (is_ascii_digit k.first) (list_all is_ascii_digit k.rest) k.digit k.digits,
  ap (λ xs. begins_with is_ascii_digit xs) k.whole ∙ k.digit,
)

many-are : (n : ℕ) → n < 2 ^ 64 → AreDigits n (decimal n)
many-are n h =
    let k = begins-so (decimal n) n (are-decimal n h) in
    record { all = k.0; some = k.1; value = (decimal_is_IsNumeral n h).1 }

from-two : (b : Bool) (n : ℕ) → nat_lt n 100 ≡ b → n < 2 ^ 64 → AreDigits n (cond b (two_digits n) (decimal n))
from-two true n e h = two-are n (grind (arith, nat_tests, e))
from-two false n e h = many-are n h

begins-on : (p : ℕ → Bool) (xs ys : List ℕ) → begins_with p xs ≡ true → begins_with p (xs ++ ys) ≡ true
begins-on p [] ys h = absurd cc
begins-on p (x ∷ xs) ys h = h

-- two digits more
pair-after : (xs : List ℕ) (m : ℕ) → m < 100 → digits_value 10 (xs ++ two_digits m) ≡ 100 * digits_value 10 xs + m
pair-after xs m h =
    let tens : List ℕ = (48 + m / 10) ∷ [] in
    let a = digits_value_push 10 xs (48 + m / 10) in
    let b = digits_value_push 10 (xs ++ tens) (48 + m % 10) in
    let c = digit-value (m / 10) (omega (arith, h)) in
    let d = digit-value (m % 10) (omega arith) in
    ap (λ ds. digits_value 10 ds) (sym (append_assoc xs tens ((48 + m % 10) ∷ []))) ∙ omega (arith, a, b, c, d)

pub offset-digits-are : (o : ℤ) → unsigned_abs o < 2 ^ 32 → AreDigits (unsigned_abs o) (offset_digits [] o)
offset-digits-are o h =
    let n = unsigned_abs o in
    let k = from-two (nat_lt (n / 100) 100) (n / 100) refl (omega (arith, h)) in
    let hours = digits_from_two (n / 100) in
    let minutes = two_digits (n % 100) in
    let same : offset_digits [] o ≡ hours ++ minutes = ap (λ l. l ++ minutes) (append-nil hours) in
    subst (λ l. AreDigits n l) (sym same) (record {
      all = all-append is_ascii_digit hours minutes k.all (pair-digits (n % 100) (omega arith));
      some = begins-on is_ascii_digit hours minutes k.some;
      value = pair-after hours (n % 100) (omega arith) ∙ ap (λ v. 100 * v + n % 100) k.value ∙ omega arith;
    })
