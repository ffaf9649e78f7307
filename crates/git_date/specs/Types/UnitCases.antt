-- The variants of `Unit`.
use Rattle.std.specs.Prelude.{ℕ}
use Rattle.git_date.specs.Types.Names.{Unit}
use Rattle.git_date.specs.declared.approximate.meanings.Unit.TheVariants as variant

pattern abbrev pub Seconds : ℕ → Unit
Seconds a = variant.Seconds a

pattern abbrev pub Weekday : ℕ → Unit
Weekday a = variant.Weekday a

pattern abbrev pub Months : ℕ → Unit
Months a = variant.Months a
