-- Names, and those of days, months and numbers.
use Rattle.std.specs.Prelude.{ℕ, ◌-◌, Bool, get_or, List, [], ◌∷◌, codes, if◌then◌else◌, Option, Some, None, option_map}
use Rattle.std.specs.Borrow.{Bor}
use Rattle.std.specs.List.{find}
use Rattle.std.specs.Str.{bytes_eq, str_eq_ignore_ascii_case}

-- a word is this name, in any letter case
abbrev pub is_name : List ℕ → List ℕ → Bool
is_name word name = str_eq_ignore_ascii_case word name

-- what stands in a table beside the first name that a word is
abbrev pub named_in : {A : Type 0} → List (List ℕ × A) → List ℕ → Option A
named_in [] word = None
named_in ((name, said) ∷ rows) word = if is_name word name then Some said else named_in rows word

-- what stands beside the first name that a word is, in the same letter case
abbrev pub value_named : {A : Type 0} → List (List ℕ × A) → List ℕ → Option A
value_named {A} rows word = option_map (λ (row : List ℕ × A). row.1) (find (λ (row : List ℕ × A). bytes_eq word row.0) rows)

-- a row of the code's table
abbrev pub name_row : {A : Type 0} → Bor (List ℕ) × A → List ℕ × A
name_row row = (row.0.now, row.1)

abbrev pub day_names : List (List ℕ)
day_names = codes "Mon" ∷ codes "Tue" ∷ codes "Wed" ∷ codes "Thu" ∷ codes "Fri" ∷ codes "Sat" ∷ codes "Sun" ∷ []

abbrev pub month_names : List (List ℕ)
month_names =
    codes "Jan" ∷ codes "Feb" ∷ codes "Mar" ∷ codes "Apr" ∷ codes "May" ∷ codes "Jun" ∷ codes "Jul" ∷ codes "Aug"
    ∷ codes "Sep" ∷ codes "Oct" ∷ codes "Nov" ∷ codes "Dec" ∷ []

-- the name of a day of the week, from 0 for Monday
abbrev pub day_name : ℕ → List ℕ
day_name weekday = get_or day_names weekday []

-- the name of a month, from 1 for January
abbrev pub month_name : ℕ → List ℕ
month_name month = get_or month_names (month - 1) []

-- the whole names of days, from Monday, and of months
abbrev pub whole_day_names : List (List ℕ)
whole_day_names =
    codes "Monday" ∷ codes "Tuesday" ∷ codes "Wednesday" ∷ codes "Thursday" ∷ codes "Friday" ∷ codes "Saturday"
    ∷ codes "Sunday" ∷ []

abbrev pub whole_month_names : List (List ℕ)
whole_month_names =
    codes "January" ∷ codes "February" ∷ codes "March" ∷ codes "April" ∷ codes "May" ∷ codes "June" ∷ codes "July"
    ∷ codes "August" ∷ codes "September" ∷ codes "October" ∷ codes "November" ∷ codes "December" ∷ []

-- the whole name of a day of the week, from 0 for Monday
abbrev pub whole_day_name : ℕ → List ℕ
whole_day_name weekday = get_or whole_day_names weekday []

-- the whole name of a month, from 1 for January
abbrev pub whole_month_name : ℕ → List ℕ
whole_month_name month = get_or whole_month_names (month - 1) []

abbrev pub number_names : List (List ℕ)
number_names =
    codes "one" ∷ codes "two" ∷ codes "three" ∷ codes "four" ∷ codes "five" ∷ codes "six" ∷ codes "seven"
    ∷ codes "eight" ∷ codes "nine" ∷ codes "ten" ∷ []
