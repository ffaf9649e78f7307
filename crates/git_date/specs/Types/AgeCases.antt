-- The variants of `Age`.
use Rattle.std.specs.Prelude.{ℕ}
use Rattle.git_date.specs.Types.Names.{Age}
use Rattle.git_date.specs.declared.show.ages.Age.TheVariants as variant

pattern abbrev pub Seconds : ℕ → Age
Seconds a = variant.Seconds a

pattern abbrev pub Minutes : ℕ → Age
Minutes a = variant.Minutes a

pattern abbrev pub Hours : ℕ → Age
Hours a = variant.Hours a

pattern abbrev pub Days : ℕ → Age
Days a = variant.Days a

pattern abbrev pub Weeks : ℕ → Age
Weeks a = variant.Weeks a

pattern abbrev pub Months : ℕ → Age
Months a = variant.Months a

pattern abbrev pub Years : ℕ → ℕ → Age
Years a b = variant.Years a b
