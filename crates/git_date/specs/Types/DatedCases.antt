-- The variants of `Dated`.
use Rattle.git_date.specs.Types.Names.{Dated, Fields}
use Rattle.git_date.specs.declared.fields.dates.Dated.TheVariants as variant

pattern abbrev pub Taken : Fields → Dated
Taken a = variant.Taken a

pattern abbrev pub Refused : Dated
Refused = variant.Refused

pattern abbrev pub YearRefused : Dated
YearRefused = variant.YearRefused
