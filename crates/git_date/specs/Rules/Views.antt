-- What the code's readers give, with the rest of the text as tokens.
use Rattle.std.specs.Prelude.{ℕ, ◌+◌, ◌-◌, ◌*◌, min, ℤ, pos, neg_ℤ, ◌≤ℤ◌, List, Option, Result, Ok, Err, option_map}
use Rattle.std.specs.Borrow.{Bor}
use Rattle.std.specs.List.{fold}
use Rattle.git_date.specs.Tokens.Tokens.{Token, tokens}
use Rattle.git_date.specs.Rules.Groups.{ReadTokens}
use Rattle.git_date.specs.Tokens.Numbers.{max_number}
use Rattle.git_date.specs.declared.error.Fault.{Fault}

abbrev pub rest_view : {A : Type 0} → A × Bor (List ℕ) → A × List Token
rest_view found = (found.0, tokens found.1.now)

abbrev pub read_view : {A : Type 0} → Option (A × Bor (List ℕ)) → ReadTokens A
read_view result = option_map rest_view result

abbrev pub step_view : {A : Type 0} → Result (A × Bor (List ℕ)) Fault → Result (A × List Token) Fault
step_view (Ok found) = Ok (rest_view found)
step_view (Err e) = Err e

abbrev pub said_view : {A : Type 0} → Result (Option (A × Bor (List ℕ))) Fault → Result (Option (A × List Token)) Fault
said_view (Ok found) = Ok (read_view found)
said_view (Err e) = Err e

-- the minutes of an offset within 25 hours
abbrev pub IsOffset : ℤ → Type 0
IsOffset minutes = (neg_ℤ (pos 1500) ≤ℤ minutes) × (minutes ≤ℤ pos 1500)

-- one digit more, where no number goes beyond the greatest
abbrev pub digit_at_most : ℕ → ℕ → ℕ
digit_at_most value byte = min (min (value * 10) max_number + (byte - 48)) max_number

-- the number of digits, by numbers that stop at the greatest
unfoldable pub saturated : List ℕ → ℕ
saturated digits = fold digit_at_most 0 digits
