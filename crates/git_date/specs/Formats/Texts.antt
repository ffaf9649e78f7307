-- The texts of directives.
use Rattle.std.specs.Prelude.{ℕ, max, Bool, true, false, not, List, [], ◌∷◌, ◌++◌, decimal}
use Rattle.gix_date.specs.Fields.Layout.{LocalTime}
use Rattle.gix_date.specs.Text.Characters.{space, colon, minus}
use Rattle.git_date.specs.Rules.Groups.{slash}
use Rattle.git_date.specs.declared.format.directives.Name.{Name}
use Rattle.git_date.specs.declared.format.directives.Name.TheVariants.{ShortDay, ShortMonth, HalfDay}
use Rattle.git_date.specs.declared.format.numbers.Number.{Number}
use Rattle.git_date.specs.declared.format.numbers.Number.TheVariants.{YearOfCentury, Year, Month, Day, SpacedDay, Hour, HourOfHalf, Minute}
use Rattle.git_date.specs.declared.format.numbers.Number.TheVariants.{Second}
use Rattle.git_date.specs.declared.format.directives.Composite.{Composite}
use Rattle.git_date.specs.declared.format.directives.Composite.TheVariants as composite
use Rattle.git_date.specs.declared.format.directives.Directive.{Directive}
use Rattle.git_date.specs.declared.format.directives.Directive.TheVariants as directive
use Rattle.git_date.specs.declared.format.flags.Flags.{Flags}
use Rattle.git_date.specs.declared.format.flags.Pad.{Pad}
use Rattle.git_date.specs.declared.format.flags.Pad.TheVariants.{Unsaid, Bare, Spaces, Zeros}
use Rattle.git_date.specs.declared.format.texts.Inner.{Inner}
use Rattle.git_date.specs.declared.format.texts.Inner.TheVariants as inner
use Rattle.git_date.specs.declared.format.texts.Mark.{Mark}
use Rattle.git_date.specs.declared.format.texts.Mark.TheVariants as mark
use Rattle.git_date.specs.Formats.Flags.{filled, fill_of, inner_flags}
use Rattle.git_date.specs.Formats.Names.{name_text, case_of, cased}
use Rattle.git_date.specs.Formats.Numbers.{number_value, number_least, is_spaced}

-- the name rule: a name in its letter case, filled to the width
abbrev pub name_said : Name → Flags → LocalTime → List ℕ
name_said name flags t = filled (fill_of flags.pad) flags.width (cased (case_of name flags) (name_text name t))

-- The number rule: its digits, filled to the greater of its least width and that which is said, and with `-` to the latter alone.
abbrev pub width_by : Pad → ℕ → ℕ → ℕ
width_by Bare least width = width
width_by _ least width = max least width

abbrev pub number_width : Number → Flags → ℕ
number_width number_inner flags = width_by flags.pad (number_least number_inner) flags.width

-- with zeros, but spaces for `_` and `-`, and by itself for the letters that are spaced
abbrev pub zeros_by : Pad → Bool → Bool
zeros_by Bare spaced = false
zeros_by Spaces spaced = false
zeros_by Zeros spaced = true
zeros_by Unsaid spaced = not spaced

abbrev pub number_zeros : Number → Flags → Bool
number_zeros number_inner flags = zeros_by flags.pad (is_spaced number_inner)

abbrev pub number_text : Number → Flags → LocalTime → List ℕ
number_text number_inner flags t =
    filled (number_zeros number_inner flags) (number_width number_inner flags) (decimal (number_value number_inner t))

-- the marks of composites
abbrev pub mark_code : Mark → ℕ
mark_code mark.Space = space
mark_code mark.Colon = colon
mark_code mark.Minus = minus
mark_code mark.Slash = slash

abbrev pub number_inner : Number → Inner
number_inner n = inner.Number n

abbrev pub name : Name → Inner
name n = inner.Name n

abbrev pub then_space : List Inner → List Inner
then_space more = inner.Mark mark.Space ∷ more

abbrev pub then_colon : List Inner → List Inner
then_colon more = inner.Mark mark.Colon ∷ more

abbrev pub then_minus : List Inner → List Inner
then_minus more = inner.Mark mark.Minus ∷ more

abbrev pub then_slash : List Inner → List Inner
then_slash more = inner.Mark mark.Slash ∷ more

-- `%M:%S` and what follows
abbrev pub minute_and_second : List Inner → List Inner
minute_and_second more = number_inner Minute ∷ then_colon (number_inner Second ∷ more)

-- the pieces of composites
abbrev pub inner_of : Composite → List Inner
-- `%a %b %e %H:%M:%S %Y`
inner_of composite.DateAndClock =
    name ShortDay ∷ then_space (name ShortMonth ∷ then_space (number_inner SpacedDay ∷ then_space
    (number_inner Hour ∷ then_colon (minute_and_second (then_space (number_inner Year ∷ []))))))
-- `%m/%d/%y`
inner_of composite.SlashedDate = number_inner Month ∷ then_slash (number_inner Day ∷ then_slash (number_inner YearOfCentury ∷ []))
-- `%Y-%m-%d`
inner_of composite.IsoDate = number_inner Year ∷ then_minus (number_inner Month ∷ then_minus (number_inner Day ∷ []))
-- `%I:%M:%S %p`
inner_of composite.ClockOfHalf = number_inner HourOfHalf ∷ then_colon (minute_and_second (then_space (name HalfDay ∷ [])))
-- `%H:%M`
inner_of composite.ShortClock = number_inner Hour ∷ then_colon (number_inner Minute ∷ [])
-- `%H:%M:%S`
inner_of composite.Clock = number_inner Hour ∷ then_colon (minute_and_second [])

abbrev pub inner_text : Flags → LocalTime → Inner → List ℕ
inner_text flags t (inner.Name n) = name_said n flags t
inner_text flags t (inner.Number n) = number_text n flags t
inner_text flags t (inner.Mark m) = mark_code m ∷ []

-- one after the other
abbrev pub inner_texts : Flags → LocalTime → List Inner → List ℕ
inner_texts flags t [] = []
inner_texts flags t (piece ∷ more) = inner_text flags t piece ++ inner_texts flags t more

-- a composite is a name: its pieces without flags, but for its upper case, filled to the width
abbrev pub composite_text : Composite → Flags → LocalTime → List ℕ
composite_text c flags t = filled (fill_of flags.pad) flags.width (inner_texts (inner_flags flags) t (inner_of c))

-- what a clock shows by a directive
abbrev pub directive_text : Directive → Flags → LocalTime → List ℕ
directive_text (directive.Name n) flags t = name_said n flags t
directive_text (directive.Number n) flags t = number_text n flags t
directive_text (directive.Composite c) flags t = composite_text c flags t
