-- Digits, signs and pairs of digits are read where they are so written.
use Rattle.std.proofs.Common.{◌≡◌, ℕ, ℤ, pos, List, [], ◌∷◌, ◌++◌, refl, ap, sym, arith, Some, inl, inr, FitsSigned, w64}
use Rattle.std.proofs.lemmas.Bool.{and_parts as both}
use Rattle.gix_date.specs.Fields.FieldTexts.{AreDigits, IsPair, IsSign}
use Rattle.gix_date.specs.Text.Front.{skip_char}
use Rattle.gix_date.specs.Fields.Offsets.{read_sign, OffsetSign}
use Rattle.gix_date.specs.Text.Numbers.{int_value, read_two_digits}
use Rattle.gix_date.proofs.Text.Ints.{own, int_value_from}
use Rattle.gix_date.proofs.Families.Apart.{digit-no-minus as not-minus, digit-no-plus as not-plus}

pub bare_int : (digits : List ℕ) (number : ℕ) (n : ℤ) → AreDigits digits number → n ≡ pos number → FitsSigned w64 n
    → int_value digits ≡ Some n
bare_int [] number n a v f = absurd (omega (arith, a.0))
bare_int (c ∷ t) number n a v f = grind (arith, both, not-minus, not-plus, int_value_from, own)

pub sign-of : (mark : ℕ) (sign : OffsetSign) (t : List ℕ) → IsSign mark sign → read_sign (mark ∷ t) ≡ Some (sign, t)
unfolding read_sign skip_char
sign-of mark sign t (inl p) = rw (p.0, p.1) refl
sign-of mark sign t (inr p) = rw (p.0, p.1) refl

pub pair-of : (x : List ℕ) (n : ℕ) (t : List ℕ) → IsPair x n → read_two_digits (x ++ t) ≡ Some (n, t)
unfolding read_two_digits
pair-of (a ∷ b ∷ []) n t h = rw (h.0, h.1) (ap (λ (k : ℕ). Some (k, t)) (sym h.2))
pair-of x n t h = absurd h
