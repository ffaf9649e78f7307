-- A few digits, read one after the other.
use Rattle.std.proofs.Common.{◌≡◌, ℕ, ◌+◌, ◌-◌, ◌*◌, ◌<◌, ◌≤◌, ◌^◌, true, false, List, [], ◌∷◌, length, get_or, take, drop, arith}
use Rattle.std.proofs.Common.{length-take-le, pos, neg_ℤ, Some, FitsSigned, w64}
use Rattle.std.proofs.lemmas.Bool.{and_parts as both}
use Rattle.std.proofs.lemmas.Bool.Decides.{nat_tests}
use Rattle.std.proofs.lemmas.Int.Digits.{digits_value_more, digits_more}
use Rattle.std.proofs.lemmas.Str.Parse.{digits_value_short}
use Rattle.std.specs.Char.{is_ascii_digit, digit_value}
use Rattle.std.specs.Str.{all_ascii_digits}
use Rattle.std.specs.Prelude.{◌==◌}
use Rattle.std.specs.Str.Parse.{digits_value, IsNumeral}
use Rattle.gix_date.specs.Text.Numbers.{int_value}
use Rattle.gix_date.proofs.Text.Ints.{own, int_value_from}
use Rattle.std.proofs.lemmas.Int.{ints}
use Rattle.std.proofs.Math.Seq.{take-length}

pub digit_is : (c : ℕ) → is_ascii_digit c ≡ true → digit_value c ≡ c - 48
digit_is c h = grind (arith, nat_tests, h)

-- the number so far
pub so_far-small : (ds : List ℕ) (i k : ℕ) → all_ascii_digits (take i ds) ≡ true → i ≤ k → i ≤ length ds
    → digits_value 10 (take i ds) < 10 ^ k
so_far-small ds i k h short within = digits_value_short own (take i ds) k h (omega (arith, length-take-le i ds within))

-- one digit more
pub value-more : (ds : List ℕ) (i : ℕ) → i < length ds → is_ascii_digit (get_or ds i 0) ≡ true
    → digits_value 10 (take (i + 1) ds) ≡ 10 * digits_value 10 (take i ds) + (get_or ds i 0 - 48)
value-more ds i within h = grind (arith, digits_value_more, digit_is)

pub digits-more : (ds : List ℕ) (i : ℕ) → i < length ds → all_ascii_digits (take i ds) ≡ true → is_ascii_digit (get_or ds i 0) ≡ true
    → all_ascii_digits (take (i + 1) ds) ≡ true
digits-more ds i within h d = own.from (take (i + 1) ds) (digits_more 10 ds i within (own.to (take i ds) h) (grind (arith, nat_tests, d)))

no-minus : (c : ℕ) → is_ascii_digit c ≡ true → (c == 45) ≡ false
no-minus c h = grind (arith, nat_tests, h)

no-plus : (c : ℕ) → is_ascii_digit c ≡ true → (c == 43) ≡ false
no-plus c h = grind (arith, nat_tests, h)

fits-pos : (n : ℕ) → n < 10 ^ 18 → FitsSigned w64 (pos n)
fits-pos n h = record { sfits = omega (arith, h) }

fits-neg : (n : ℕ) → n < 10 ^ 18 → FitsSigned w64 (neg_ℤ (pos n))
fits-neg n h = record { sfits = omega (arith, ints, h) }

numeral : (ds : List ℕ) → 0 < length ds → all_ascii_digits ds ≡ true → IsNumeral 10 ds
numeral ds some h = (some, own.to ds h)

-- digits alone
pub bare_int : (ds : List ℕ) (n : ℕ) → 0 < length ds → all_ascii_digits ds ≡ true → n ≡ digits_value 10 ds → n < 10 ^ 18
    → int_value ds ≡ Some (pos n)
bare_int [] n some h e small = absurd (omega arith)
bare_int (c ∷ t) n some h e small = grind (arith, both, no-minus, no-plus, int_value_from, numeral, fits-pos)

-- a minus and digits
pub minus-int : (text : List ℕ) (n : ℕ) → get_or text 0 0 ≡ 45 → 0 < length (drop 1 text) → all_ascii_digits (drop 1 text) ≡ true
    → n ≡ digits_value 10 (drop 1 text) → n < 10 ^ 18 → int_value text ≡ Some (neg_ℤ (pos n))
minus-int [] n m some h e small = absurd (omega arith)
minus-int (c ∷ ds) n m some h e small = grind (arith, int_value_from, numeral, fits-neg)

all-of : (ds : List ℕ) (n : ℕ) → n ≡ length ds → take n ds ≡ ds
all-of ds n e = rw e (take-length ds)

-- the same, as a pattern of a slice gives its rest
pub minus_rest : (text : List ℕ) (n : ℕ) → get_or text 0 0 ≡ 45 → 0 < length (take (length text - 1) (drop 1 text))
    → all_ascii_digits (take (length text - 1) (drop 1 text)) ≡ true → n ≡ digits_value 10 (take (length text - 1) (drop 1 text))
    → n < 10 ^ 18
    → int_value text ≡ Some (neg_ℤ (pos n))
minus_rest [] n m some h e small = absurd (omega arith)
minus_rest (c ∷ ds) n m some h e small = grind (arith, all-of, minus-int)
