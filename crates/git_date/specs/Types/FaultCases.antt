-- The variants of `Fault`.
use Rattle.std.specs.Prelude.{ℕ}
use Rattle.git_date.specs.Types.Names.{Fault}
use Rattle.git_date.specs.declared.error.Fault.TheVariants as variant

pattern abbrev pub NumberTooLarge : ℕ → Fault
NumberTooLarge a = variant.NumberTooLarge a

pattern abbrev pub BackTooFar : ℕ → Fault
BackTooFar a = variant.BackTooFar a

pattern abbrev pub YearRefused : ℕ → Fault
YearRefused a = variant.YearRefused a

pattern abbrev pub Range : Fault
Range = variant.Range
