-- Numbers that 64 bits hold or do not.
use Rattle.std.proofs.Common.{◌≡◌, ◌∙◌, ℕ, ◌+◌, ◌*◌, ◌<◌, ◌≤◌, List, length, take, get_or, Some, None, ap, arith}
use Rattle.std.proofs.lemmas.Bool.Decides.{nat_tests}
use Rattle.std.proofs.lemmas.Int.Digits.{digits_value_more}
use Rattle.std.proofs.lemmas.List.{take_all}
use Rattle.std.proofs.lemmas.Str.Parse.{digits_value-take-le}
use Rattle.std.specs.Char.{digit_value}
use Rattle.std.specs.Str.Parse.{digits_value}
use Rattle.gix_signature.specs.Ident.Times.{held_number, numbers_of_64_bits}

none-from : (n : ℕ) → numbers_of_64_bits ≤ n → None ≡ held_number n
none-from n h = grind (arith, nat_tests, h)

-- ten times the number so far is too many
pub too_many : (ds : List ℕ) (i v : ℕ) → i < length ds → v ≡ digits_value 10 (take i ds) → numbers_of_64_bits ≤ v * 10
    → None ≡ held_number (digits_value 10 ds)
too_many ds i v within at h =
    let next = digits_value_more 10 ds i within in
    let all = digits_value-take-le 10 ds (i + 1) (omega arith) in
    none-from (digits_value 10 ds) (omega (arith, at, h, next, all))

-- so with one digit more
pub one_too_many : (ds : List ℕ) (i v d : ℕ) → i < length ds → v ≡ digits_value 10 (take i ds) → d ≡ digit_value (get_or ds i 0)
    → numbers_of_64_bits ≤ v * 10 + d → None ≡ held_number (digits_value 10 ds)
one_too_many ds i v d within at digit h =
    let next = digits_value_more 10 ds i within in
    let all = digits_value-take-le 10 ds (i + 1) (omega arith) in
    none-from (digits_value 10 ds) (omega (arith, at, digit, h, next, all))

same-held : (a b : ℕ) → a ≡ b → a < numbers_of_64_bits → Some a ≡ held_number b
same-held a b e k = grind (arith, nat_tests, e, k)

-- all digits are read
pub held : (ds : List ℕ) (i v : ℕ) → length ds ≤ i → v ≡ digits_value 10 (take i ds) → v < numbers_of_64_bits
    → Some v ≡ held_number (digits_value 10 ds)
held ds i v all at h = same-held v (digits_value 10 ds) (at ∙ ap (λ l. digits_value 10 l) (take_all i ds all)) h
