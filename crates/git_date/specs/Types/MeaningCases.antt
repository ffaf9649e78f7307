-- The variants of `Meaning`.
use Rattle.std.specs.Prelude.{ℕ}
use Rattle.git_date.specs.Types.Names.{Meaning, Unit as TheUnit}
use Rattle.git_date.specs.declared.approximate.meanings.Meaning.TheVariants as variant

pattern abbrev pub Month : ℕ → Meaning
Month a = variant.Month a

pattern abbrev pub Back : ℕ → Meaning
Back a = variant.Back a

pattern abbrev pub Never : Meaning
Never = variant.Never

pattern abbrev pub Hour : ℕ → Meaning
Hour a = variant.Hour a

pattern abbrev pub Morning : Meaning
Morning = variant.Morning

pattern abbrev pub Afternoon : Meaning
Afternoon = variant.Afternoon

pattern abbrev pub Count : ℕ → Meaning
Count a = variant.Count a

pattern abbrev pub Unit : TheUnit → Meaning
Unit a = variant.Unit a
