-- Canonical headers as nearly all are, by their bytes.
use Rattle.std.specs.Prelude.{ℕ, Bool, false, ◌&&◌, ◌||◌, ◌==◌, ◌+◌, not, nat_lt, List, [], ◌∷◌, length}
use Rattle.std.specs.Char.{is_ascii_digit}
use Rattle.std.specs.List.{list_all}
use Rattle.gix_date.specs.Text.Characters.{space, plus, minus, digit_zero}
use Rattle.gix_date.specs.declared.parsing.numbers.TheConstants.{MAX_DIGITS}

-- at most 18 digits, the first no zero
unfoldable pub are_usual_seconds : List ℕ → Bool
are_usual_seconds [] = false
are_usual_seconds (first ∷ rest) =
    is_ascii_digit first && not (first == digit_zero) && nat_lt (length rest) MAX_DIGITS && list_all is_ascii_digit rest

-- two digits of hours, and two of minutes below 60
abbrev pub are_hours_and_minutes : ℕ → ℕ → ℕ → ℕ → Bool
are_hours_and_minutes a b c d =
    is_ascii_digit a && is_ascii_digit b && is_ascii_digit c && nat_lt c (digit_zero + 6) && is_ascii_digit d

-- a space, a sign, hours and minutes, and after a minus not `00` hours
unfoldable pub is_usual_offset : List ℕ → Bool
is_usual_offset (blank ∷ sign ∷ a ∷ b ∷ c ∷ d ∷ []) =
    (blank == space) && are_hours_and_minutes a b c d
    && ((sign == plus) || (sign == minus) && not ((a == digit_zero) && (b == digit_zero)))
is_usual_offset _ = false
