-- Steps, each of which gives a value or ends by a fault.
use Rattle.std.specs.Prelude.{Result, Ok, Err}

-- to go on after a step
abbrev pub and_then : {A B E : Type 0} → Result A E → (A → Result B E) → Result B E
and_then (Ok found) next = next found
and_then (Err e) next = Err e

infixl 10 ◌>>=◌
abbrev pub ◌>>=◌ : {A B E : Type 0} → Result A E → (A → Result B E) → Result B E
found >>= next = and_then found next
