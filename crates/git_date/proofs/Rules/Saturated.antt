-- Numbers that stop at the greatest.
use Rattle.std.proofs.Common.{◌≡◌, ◌∙◌, ◌<◌, ◌^◌, ℕ, true, List, [], ◌∷◌, min, refl, sym, ap, arith}
use Rattle.std.proofs.lemmas.Bool.{and_parts}
use Rattle.std.proofs.lemmas.Bool.Decides.{nat_tests}
use Rattle.std.specs.Char.{is_ascii_digit}
use Rattle.std.specs.List.{fold}
use Rattle.std.specs.Str.{all_ascii_digits}
use Rattle.std.specs.Str.Parse.{digits_value, digits_value_after}
use Rattle.git_date.specs.Tokens.Numbers.{number, digit_more, max_number}
use Rattle.git_date.specs.Rules.Views.{saturated, digit_at_most}

-- one digit more, of a number that stopped or not
more-at-most : (n m byte : ℕ) → m ≡ min n max_number → digit_at_most m byte ≡ min (digit_more n byte) max_number
more-at-most n m byte e = omega (arith, e)

after : (digits : List ℕ) (n m : ℕ) → m ≡ min n max_number → fold digit_at_most m digits ≡ min (fold digit_more n digits) max_number
after [] n m e = e
after (byte ∷ digits) n m e = after digits (digit_more n byte) (digit_at_most m byte) (more-at-most n m byte e)

pub saturated_is : (digits : List ℕ) → saturated digits ≡ number digits
unfolding number saturated
saturated_is digits = after digits 0 0 refl

-- the value that std reads of digits
folded : (v : ℕ) (run : List ℕ) → all_ascii_digits run ≡ true → fold digit_more v run ≡ digits_value_after 10 v run
folded v [] h = refl
folded v (c ∷ run) h =
    let both = and_parts (is_ascii_digit c) (all_ascii_digits run) h in
    folded (digit_more v c) run both.1 ∙ ap (λ (k : ℕ). digits_value_after 10 k run) (grind (arith, nat_tests, both.0))

pub number-is : (run : List ℕ) → all_ascii_digits run ≡ true → digits_value 10 run < 2 ^ 63 → number run ≡ digits_value 10 run
unfolding number
number-is run h short = let whole = folded 0 run h in omega arith

pub short_is : (digits : List ℕ) (n : ℕ) → all_ascii_digits digits ≡ true → n ≡ digits_value 10 digits → n < 10 ^ 18 → n ≡ number digits
short_is digits n h e small = e ∙ sym (number-is digits h (omega (arith, e, small)))
