-- Numbers as texts.
use Rattle.std.specs.Prelude.{◌≡◌, ◌<◌, get_or, ℕ, ◌+◌, ◌-◌, ◌*◌, ◌/◌, ◌%◌, ◌^◌, Bool, ◌&&◌, List, [], ◌∷◌, length, ℤ, pos, negsuc, nat_lt}
use Rattle.std.specs.Prelude.{if◌then◌else◌, Option, Some, None, option_map}
use Rattle.std.specs.Char.{is_ascii_digit}
use Rattle.std.specs.Fmt.{signed_decimal}
use Rattle.std.specs.Option.{option_or}
use Rattle.std.specs.Str.{all_ascii_digits}
use Rattle.std.specs.Str.Parse.{without_leading_sign, signed_digits_value}
use Rattle.gix_date.specs.Text.Characters.{digit_zero}
use Rattle.gix_date.specs.Text.Front.{ReadFront, ◌>>=◌}

-- the decimal text of a number: no plus, no leading zero, no `-0`
abbrev pub decimal_text : ℤ → List ℕ
decimal_text n = signed_decimal n

-- the two digits of a number below 100
abbrev pub two_digits : ℕ → List ℕ
two_digits n = (digit_zero + n / 10) ∷ (digit_zero + n % 10) ∷ []

-- a number that an i64 holds
abbrev pub fits_i64 : ℤ → Bool
fits_i64 (pos n) = nat_lt n (2 ^ 63)
fits_i64 (negsuc n) = nat_lt n (2 ^ 63)

-- at most one sign, and then one or more digits, whose value an i64 holds
abbrev pub is_int_text : List ℕ → Bool
is_int_text text =
    nat_lt 0 (length (without_leading_sign text)) && all_ascii_digits (without_leading_sign text)
    && fits_i64 (signed_digits_value 10 text)

-- the value of an int text
unfoldable pub int_value : List ℕ → Option ℤ
int_value text = if is_int_text text then Some (signed_digits_value 10 text) else None

-- the number that two digits write
abbrev pub two_digit_value : ℕ → ℕ → Option ℕ
two_digit_value tens ones =
    if is_ascii_digit tens && is_ascii_digit ones then Some (10 * (tens - digit_zero) + (ones - digit_zero)) else None

-- the pair k of the bytes is two digits, of the number k
abbrev pub IsPairAt : List ℕ → List ℕ → ℕ → Type 0
IsPairAt text numbers k = two_digit_value (get_or text (2 * k) 0) (get_or text (2 * k + 1) 0) ≡ Some (get_or numbers k 0)

-- the first n pairs of the bytes are two digits each, of these numbers
abbrev pub AreDigitPairs : ℕ → List ℕ → List ℕ → Type 0
AreDigitPairs n text numbers = (k : ℕ) → k < n → IsPairAt text numbers k

-- the number that two digits at the front write
unfoldable pub read_two_digits : List ℕ → ReadFront ℕ
read_two_digits (tens ∷ ones ∷ rest) = option_map (λ n. (n, rest)) (two_digit_value tens ones)
read_two_digits _ = None

-- the number that one digit at the front writes
unfoldable pub read_digit : List ℕ → ReadFront ℕ
read_digit [] = None
read_digit (c ∷ rest) = if is_ascii_digit c then Some (c - digit_zero, rest) else None

-- the number that two digits at the front write, or else one
unfoldable pub read_field : List ℕ → ReadFront ℕ
read_field text = option_or (read_two_digits text) (read_digit text)

-- the number that four digits at the front write
unfoldable pub read_year : List ℕ → ReadFront ℕ
read_year text = do
  century ← read_two_digits text
  year ← read_two_digits century.1
  Some (100 * century.0 + year.0, year.1)
