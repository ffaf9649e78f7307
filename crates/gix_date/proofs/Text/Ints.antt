-- What `parse` of an i64 gives, as a function of the text.
use Rattle.std.proofs.Common.{◌≡◌, ℕ, Bool, true, false, cond, List, refl, sym, ap, ◌∙◌, arith, ℤ, pos, negsuc, Result, Ok, Err, Some, None}
use Rattle.std.proofs.Common.{FitsSigned, w64}
use Rattle.std.proofs.lemmas.Bool.Decides.{nat_tests}
use Rattle.std.proofs.lemmas.Str.Parse.{IsNumeralModel, numerals_by_value, tells_all_ascii_digits}
use Rattle.std.specs.Prelude.{◌&&◌}
use Rattle.std.specs.Result.{result_ok}
use Rattle.std.specs.Str.{all_ascii_digits}
use Rattle.std.specs.Str.Parse.{ParsesSigned, IsNumeral, digits_value, without_leading_sign, signed_digits_value}
use Rattle.gix_date.specs.Text.Numbers.{fits_i64, is_int_text, int_value}
use Rattle.std.proofs.lemmas.Bool.{false_from_ne_true}
use Rattle.std.proofs.lemmas.Int.{to_z-of_z}

-- a number that a signed type holds is the same there
pub ruleset held = (to_z-of_z)

pub own : IsNumeralModel (λ ds. all_ascii_digits ds ≡ true) (digits_value 10)
own = numerals_by_value _ tells_all_ascii_digits

pub fits_true : (z : ℤ) → FitsSigned w64 z → fits_i64 z ≡ true
fits_true (pos n) h = grind (arith, nat_tests, h)
fits_true (negsuc n) h = grind (arith, nat_tests, h)

pub fits_from : (z : ℤ) → fits_i64 z ≡ true → FitsSigned w64 z
fits_from (pos n) h = record { sfits = grind (arith, nat_tests, h) }
fits_from (negsuc n) h = record { sfits = grind (arith, nat_tests, h) }

pub all_of : (a b d : Bool) → a ≡ true → b ≡ true → d ≡ true → (a && b && d) ≡ true
all_of true true true p q r = refl
all_of false b d p q r = p
all_of true false d p q r = q
all_of true true false p q r = r

pub each_of : (a b d : Bool) → (a && b && d) ≡ true → (a ≡ true) × (b ≡ true) × (d ≡ true)
each_of true true true h = (refl, refl, refl)
each_of a b d h = cc

ReadsInt : List ℕ → Type 0
ReadsInt w = IsNumeral 10 (without_leading_sign w) × FitsSigned w64 (signed_digits_value 10 w)

holds : (w : List ℕ) → ReadsInt w → is_int_text w ≡ true
unfolding ReadsInt
holds w h = grind (arith, all_of, nat_tests, own, fits_true)

from_holds : (w : List ℕ) → is_int_text w ≡ true → ReadsInt w
unfolding ReadsInt
from_holds w h = grind (arith, each_of, nat_tests, own, fits_from)

pub int_value_lem : {E : Type 0} (w : List ℕ) (r : Result ℤ E) → ParsesSigned w64 10 w r → result_ok r ≡ int_value w
unfolding int_value ReadsInt
int_value_lem w (Ok z) h = ap Some h.1 ∙ sym (ap (λ (b : Bool). cond b (Some (signed_digits_value 10 w)) None) (holds w h.0))
int_value_lem w (Err e) h = grind (arith, false_from_ne_true, from_holds)

-- an int text of this value
pub int_value_from : (w : List ℕ) (z : ℤ) → IsNumeral 10 (without_leading_sign w) → signed_digits_value 10 w ≡ z → FitsSigned w64 z
    → int_value w ≡ Some z
unfolding ReadsInt
int_value_from w z n e f = sym (int_value_lem {E = ℕ} w (Ok z) ((n, rw e f), sym e))
