-- Numbers, as Git keeps them.
use Rattle.std.specs.Prelude.{ℕ, ◌+◌, ◌-◌, ◌*◌, ◌%◌, Bool, List, min, nat_lt}
use Rattle.std.specs.List.{fold}
use Rattle.gix_date.specs.Text.Characters.{digit_zero}

-- the greatest number that is told from others: 64 bits hold no more
abbrev pub max_number : ℕ
max_number = 18_446_744_073_709_551_615

-- the greatest number that 32 bits hold with a sign
abbrev pub max_small : ℕ
max_small = 2_147_483_647

-- the greatest number after a mark of a group: 64 bits with a sign hold no more
abbrev pub max_grouped : ℕ
max_grouped = 9_223_372_036_854_775_807

-- how many numbers 32 bits hold
abbrev pub numbers_of_32_bits : ℕ
numbers_of_32_bits = 4_294_967_296

-- one digit more
abbrev pub digit_more : ℕ → ℕ → ℕ
digit_more value byte = value * 10 + (byte - digit_zero)

-- the number that digits write, or else the greatest
unfoldable pub number : List ℕ → ℕ
number digits = min (fold digit_more 0 digits) max_number

-- more than 32 bits hold with a sign
abbrev pub is_too_large : ℕ → Bool
is_too_large n = nat_lt max_small n

-- The number that Git's 32 bits hold of one: those of its upper half are below 0.
unfoldable pub narrow : ℕ → ℕ
narrow n = min n max_grouped % numbers_of_32_bits
