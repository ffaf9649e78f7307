-- How long the decimal text of a number is.
use Rattle.std.proofs.Common.{arith, zero, suc, ◌∙◌, ◌+◌, ◌*◌, ◌/◌, length, length-append, ap, ◌≡◌, ◌<◌, ◌≤◌, ℕ, ◌^◌}
use Rattle.std.proofs.lemmas.Fmt.{decimal_step, length-decimal-le, decimal_nonempty}
use Rattle.std.specs.Fmt.{decimal}

-- a tenth of a number has one digit less
pub length_decimal_step : (n : ℕ) → 10 ≤ n → n < 2 ^ 64 → length (decimal n) ≡ length (decimal (n / 10)) + 1
length_decimal_step n more small = simp length-append at (ap length (decimal_step n more small))

pub length_decimal_digit : (n : ℕ) → n < 10 → length (decimal n) ≡ 1
length_decimal_digit n h = omega (arith, length-decimal-le 1 n (omega arith) (omega arith) (omega arith), decimal_nonempty n (omega arith))

-- by the power of ten that is in it
pub length_decimal_power : (k n : ℕ) → 10 ^ k ≤ n → n < 10 * 10 ^ k → n < 2 ^ 64 → length (decimal n) ≡ k + 1
length_decimal_power zero n low high small = length_decimal_digit n (omega arith)
length_decimal_power (suc k) n low high small =
    let some : 1 ≤ 10 ^ k = omega arith in
    length_decimal_step n (omega (arith, low, some)) small
    ∙ ap (λ (m : ℕ). m + 1) (length_decimal_power k (n / 10) (omega (arith, low)) (omega (arith, high)) (omega (arith, small)))
    ∙ omega arith

-- as far from 0 as an i64 can be
pub length_decimal_i64 : (n : ℕ) → n ≤ 2 ^ 63 → length (decimal n) ≤ 19
length_decimal_i64 n small = length-decimal-le 19 n (omega arith) (omega arith) (omega arith)
