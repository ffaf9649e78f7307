-- A period without its final `s`, as the code takes it off.
use Rattle.std.proofs.Common.{arith}
use Rattle.std.proofs.Common.{◌≡◌, ℕ, Bool, true, false, cond, List, length, sym, ap, ◌∙◌}
use Rattle.std.specs.Prelude.{◌||◌, ◌==◌, ◌-◌, slice_index, take}
use Rattle.gix_date.specs.Text.Characters.{small_s, letter_s}
use Rattle.gix_date.specs.Relative.Words.{singular}

pub without_small : (w t : List ℕ) (r : Bool) → r ≡ true → r ≡ (slice_index w (length w - 1) == small_s) → t ≡ take (length w - 1) w
    → t ≡ singular w
unfolding singular
without_small w t r yes_ e h = h ∙ ap (λ b. cond (b || (slice_index w (length w - 1) == letter_s)) (take (length w - 1) w) w) (sym yes_ ∙ e)

pub without_other : (w t : List ℕ) (a b : Bool) → a ≡ false → a ≡ (slice_index w (length w - 1) == small_s)
    → b ≡ (slice_index w (length w - 1) == letter_s) → t ≡ cond b (take (length w - 1) w) w → t ≡ singular w
unfolding singular
without_other w t a b not_ e f h = grind (arith)
