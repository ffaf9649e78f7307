-- The first second of a month.
use Rattle.std.proofs.Common.{◌≡◌, ℕ, true, false, None, refl, arith}
use Rattle.std.proofs.lemmas.Bool.Decides.{nat_tests}
use Rattle.git_date.proofs.Rules.Conditions.{none-where}
use Rattle.git_date.specs.Approximate.Clocks.{first_second, is_shown_month}
use Rattle.git_date.specs.Rules.Dates.{is_month, month_start}

pub no_month : (y m : ℕ) → is_month y m ≡ false → None ≡ month_start y m
unfolding month_start
no_month y m e = none-where (is_month y m) _ e

is-shown : (y m : ℕ) → is_month y m ≡ true → is_shown_month y m ≡ true
is-shown y m h = grind (arith, nat_tests, h)

pub a_month : (y m : ℕ) → is_month y m ≡ true → first_second y m ≡ month_start y m
unfolding month_start first_second
a_month y m e = let shown = is-shown y m e in rw (e, shown) refl
