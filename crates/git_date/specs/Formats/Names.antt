-- The names that a clock shows, and their letter case.
use Rattle.std.specs.Prelude.{ℕ, nat_lt, List, [], ◌∷◌, map, codes, if◌then◌else◌}
use Rattle.std.specs.Char.{to_ascii_uppercase, to_ascii_lowercase}
use Rattle.gix_date.specs.Fields.Layout.{LocalTime}
use Rattle.gix_date.specs.Text.Characters.{newline}
use Rattle.gix_date.specs.Text.Names.{day_name, month_name, whole_day_name, whole_month_name}
use Rattle.git_date.specs.declared.format.directives.Name.{Name}
use Rattle.git_date.specs.declared.format.directives.Name.TheVariants.{ShortDay, LongDay, ShortMonth, LongMonth, HalfDay, SmallHalfDay}
use Rattle.git_date.specs.declared.format.directives.Name.TheVariants.{LineFeed, Tab}
use Rattle.git_date.specs.declared.format.names.Case.{Case}
use Rattle.git_date.specs.declared.format.names.Case.TheVariants.{Kept, Upper, Lower}
use Rattle.git_date.specs.declared.format.flags.Flags.{Flags}

-- the half of the day, of which the second begins at noon
abbrev pub half_day : ℕ → List ℕ
half_day hour = if nat_lt hour 12 then codes "AM" else codes "PM"

abbrev pub small_half_day : ℕ → List ℕ
small_half_day hour = if nat_lt hour 12 then codes "am" else codes "pm"

-- a tab
abbrev pub tab : ℕ
tab = 9

-- what a clock shows by a name
abbrev pub name_text : Name → LocalTime → List ℕ
name_text ShortDay t = day_name t.weekday
name_text LongDay t = whole_day_name t.weekday
name_text ShortMonth t = month_name t.date.month
name_text LongMonth t = whole_month_name t.date.month
name_text HalfDay t = half_day t.clock.hour
name_text SmallHalfDay t = small_half_day t.clock.hour
name_text LineFeed t = newline ∷ []
name_text Tab t = tab ∷ []

-- both flags of letter case make names of days and months upper
abbrev pub raised : Flags → Case
raised flags = if flags.upper then Upper else (if flags.swap then Upper else Kept)

-- the letter case of a name by flags: `#` makes `AM` lower
abbrev pub case_of : Name → Flags → Case
case_of ShortDay flags = raised flags
case_of LongDay flags = raised flags
case_of ShortMonth flags = raised flags
case_of LongMonth flags = raised flags
case_of HalfDay flags = if flags.swap then Lower else Kept
case_of _ flags = Kept

-- a letter, a text in a letter case
abbrev pub cased_letter : Case → ℕ → ℕ
cased_letter Kept c = c
cased_letter Upper c = to_ascii_uppercase c
cased_letter Lower c = to_ascii_lowercase c

abbrev pub cased : Case → List ℕ → List ℕ
cased case text = map (cased_letter case) text
