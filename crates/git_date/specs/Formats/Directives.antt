-- What the letters after a percent sign stand for.
use Rattle.std.specs.Prelude.{ℕ, List, [], ◌∷◌, codes, if◌then◌else◌, Option, Some, None, option_map}
use Rattle.std.specs.Option.{option_or}
use Rattle.std.specs.Str.{bytes_eq}
use Rattle.git_date.specs.declared.format.directives.Name.{Name}
use Rattle.git_date.specs.declared.format.directives.Name.TheVariants.{ShortDay, LongDay, ShortMonth, LongMonth, HalfDay, SmallHalfDay}
use Rattle.git_date.specs.declared.format.directives.Name.TheVariants.{LineFeed, Tab}
use Rattle.git_date.specs.declared.format.numbers.Number.{Number}
use Rattle.git_date.specs.declared.format.numbers.Number.TheVariants.{Century, YearOfCentury, Year, Month, Day, SpacedDay, DayOfYear, Hour}
use Rattle.git_date.specs.declared.format.numbers.Number.TheVariants.{SpacedHour, HourOfHalf, SpacedHourOfHalf, Minute, Second}
use Rattle.git_date.specs.declared.format.numbers.Number.TheVariants.{DayFromMonday, DayFromSunday, WeekFromSunday, WeekFromMonday, IsoWeek}
use Rattle.git_date.specs.declared.format.numbers.Number.TheVariants.{IsoYear, IsoYearOfCentury}
use Rattle.git_date.specs.declared.format.directives.Composite.{Composite}
use Rattle.git_date.specs.declared.format.directives.Composite.TheVariants.{DateAndClock, SlashedDate, IsoDate, ClockOfHalf, ShortClock}
use Rattle.git_date.specs.declared.format.directives.Composite.TheVariants.{Clock}
use Rattle.git_date.specs.declared.format.directives.Directive.{Directive}
use Rattle.git_date.specs.declared.format.directives.Directive.TheVariants as directive
use Rattle.git_date.specs.declared.format.directives.Plain.{Plain}
use Rattle.git_date.specs.declared.format.directives.Plain.TheVariants.{Percent, Seconds, Offset, Abbreviation}

-- what stands in a table beside a letter
abbrev pub lettered : {A : Type 0} → List (List ℕ × A) → ℕ → Option A
lettered [] letter = None
lettered (row ∷ rows) letter = if bytes_eq (letter ∷ []) row.0 then Some row.1 else lettered rows letter

-- the letters of names
abbrev pub name_rows : List (List ℕ × Name)
name_rows =
    (codes "a", ShortDay) ∷ (codes "A", LongDay) ∷ (codes "b", ShortMonth) ∷ (codes "h", ShortMonth)
    ∷ (codes "B", LongMonth) ∷ (codes "p", HalfDay) ∷ (codes "P", SmallHalfDay) ∷ (codes "n", LineFeed)
    ∷ (codes "t", Tab) ∷ []

-- the letters of numbers
abbrev pub number_rows : List (List ℕ × Number)
number_rows =
    (codes "C", Century) ∷ (codes "y", YearOfCentury) ∷ (codes "Y", Year) ∷ (codes "m", Month) ∷ (codes "d", Day)
    ∷ (codes "e", SpacedDay) ∷ (codes "j", DayOfYear) ∷ (codes "H", Hour) ∷ (codes "k", SpacedHour)
    ∷ (codes "I", HourOfHalf) ∷ (codes "l", SpacedHourOfHalf) ∷ (codes "M", Minute) ∷ (codes "S", Second)
    ∷ (codes "u", DayFromMonday) ∷ (codes "w", DayFromSunday) ∷ (codes "U", WeekFromSunday) ∷ (codes "W", WeekFromMonday)
    ∷ (codes "V", IsoWeek) ∷ (codes "G", IsoYear) ∷ (codes "g", IsoYearOfCentury) ∷ []

-- the letters of composites
abbrev pub composite_rows : List (List ℕ × Composite)
composite_rows =
    (codes "c", DateAndClock) ∷ (codes "D", SlashedDate) ∷ (codes "x", SlashedDate) ∷ (codes "F", IsoDate)
    ∷ (codes "r", ClockOfHalf) ∷ (codes "R", ShortClock) ∷ (codes "T", Clock) ∷ (codes "X", Clock) ∷ []

-- the letters that take no flags
abbrev pub plain_rows : List (List ℕ × Plain)
plain_rows = (codes "%", Percent) ∷ (codes "s", Seconds) ∷ (codes "z", Offset) ∷ (codes "Z", Abbreviation) ∷ []

abbrev pub name_lettered : ℕ → Option Name
name_lettered letter = lettered name_rows letter

abbrev pub number_lettered : ℕ → Option Number
number_lettered letter = lettered number_rows letter

abbrev pub composite_lettered : ℕ → Option Composite
composite_lettered letter = lettered composite_rows letter

abbrev pub plain_lettered : ℕ → Option Plain
plain_lettered letter = lettered plain_rows letter

-- what a letter stands for that takes flags: a number, a name or a composite
abbrev pub directive_lettered : ℕ → Option Directive
directive_lettered letter =
    option_or (option_map (λ number. directive.Number number) (number_lettered letter))
    (option_or (option_map (λ name. directive.Name name) (name_lettered letter))
    (option_map (λ composite. directive.Composite composite) (composite_lettered letter)))
