-- The table of pairs of digits.
use Rattle.std.proofs.Common.{◌≡◌, ◌∙◌, ℕ, zero, suc, ◌+◌, ◌*◌, ◌/◌, ◌%◌, ◌<◌, ◌≤◌, Bool, true, ◌&&◌, List, [], ◌∷◌, length, get_or, refl}
use Rattle.std.proofs.Common.{ap, ap₂, arith}
use Rattle.std.proofs.lemmas.Bool.{and_parts, eqb-true}
use Rattle.std.specs.Prelude.{◌==◌}
use Rattle.gix_date.specs.Text.Numbers.{two_digits}
use Rattle.gix_date.specs.declared.clock.pieces.TheConstants.{PAIRS}

-- a table has the digits of each number from this one on
abbrev are_pairs : ℕ → List ℕ → Bool
are_pairs n [] = true
are_pairs n (tens ∷ []) = true
are_pairs n (tens ∷ ones ∷ rest) = tens == 48 + n / 10 && (ones == 48 + n % 10 && are_pairs (suc n) rest)

pair-from : (first n : ℕ) (table : List ℕ) → are_pairs first table ≡ true → 2 * n + 2 ≤ length table
    → get_or table (2 * n) 0 ∷ get_or table (2 * n + 1) 0 ∷ [] ≡ two_digits (first + n)
pair-from first n [] are within = absurd (omega (arith, within))
pair-from first n (tens ∷ []) are within = absurd (omega (arith, within))
pair-from first zero (tens ∷ ones ∷ rest) are within = grind (arith, and_parts, eqb-true)
pair-from first (suc n) (tens ∷ ones ∷ rest) are within =
    let ten = tens == 48 + first / 10 in
    let one = ones == 48 + first % 10 in
    let more = are_pairs (suc first) rest in
    let rest_are = (and_parts one more (and_parts ten (one && more) are).1).1 in
    let at : 2 * suc n ≡ suc (suc (2 * n)) = omega arith in
    let after : 2 * suc n + 1 ≡ suc (suc (2 * n + 1)) = omega arith in
    let same : suc first + n ≡ first + suc n = omega arith in
    ap₂ (λ (j k : ℕ). get_or (tens ∷ ones ∷ rest) j 0 ∷ get_or (tens ∷ ones ∷ rest) k 0 ∷ []) at after
    ∙ pair-from (suc first) n rest rest_are (omega (arith, within)) ∙ ap (λ (n : ℕ). two_digits n) same

pub pair_of_digits : (n : ℕ) → n < 100 → get_or PAIRS.now (2 * n) 0 ∷ get_or PAIRS.now (2 * n + 1) 0 ∷ [] ≡ two_digits n
pair_of_digits n small =
    let same : 0 + n ≡ n = omega arith in
    pair-from 0 n PAIRS.now refl (omega arith) ∙ ap (λ (n : ℕ). two_digits n) same
