-- Groups: two numbers or three, with the same mark between them.
use Rattle.std.specs.Prelude.{ℕ, Bool, ◌||◌, ◌&&◌, List, ◌∷◌, ◌==◌, nat_lt, if◌then◌else◌, Option, Some, None, option_map}
use Rattle.std.specs.Option.{option_or, option_map_or}
use Rattle.gix_date.specs.Text.Front.{◌>>=◌}
use Rattle.gix_date.specs.Text.Characters.{minus, dot, colon}
use Rattle.git_date.specs.Tokens.Tokens.{Token, Digits, Mark, bytes_left}
use Rattle.git_date.specs.Tokens.Numbers.{number, is_too_large, narrow}
use Rattle.git_date.specs.Rules.Fields.{with_clock, knows_date}
use Rattle.git_date.specs.Rules.Dates.{recent_date, year_date}
use Rattle.git_date.specs.declared.fields.Fields.{Fields}
use Rattle.git_date.specs.declared.fields.dates.Now.{Now}
use Rattle.git_date.specs.declared.fields.dates.Dated.{Dated}
use Rattle.git_date.specs.declared.fields.dates.Dated.TheVariants.{Taken, Refused}
use Rattle.git_date.specs.declared.fields.groups.Number.{Number}
use Rattle.git_date.specs.declared.fields.groups.Group.{Group}

-- `/`
abbrev pub slash : ℕ
slash = 47

-- what was read of the tokens that stand first, and the others
abbrev pub ReadTokens : Type 0 → Type 0
ReadTokens A = Option (A × List Token)

-- a number, and how many bytes are left from it on
abbrev pub number_at : List ℕ → List Token → Number
number_at run more = record { value = number run; left = bytes_left (Digits run ∷ more) }

-- a mark and the number after it
unfoldable pub marked_number : List Token → ReadTokens (ℕ × Number)
marked_number (Mark byte ∷ Digits run ∷ more) = Some ((byte, number_at run more), more)
marked_number _ = None

abbrev pub is_group_mark : ℕ → Bool
is_group_mark byte = byte == colon || byte == dot || byte == slash || byte == minus

-- the rest of a group, after two numbers: a third, where the mark is the same
abbrev pub third_or_none : ℕ → ℕ → Number → List Token → ReadTokens (ℕ × Number) → Group × List Token
third_or_none mark first second more (Some found) =
    if found.0.0 == mark then (record { mark = mark; first = first; second = second; third = Some found.0.1 }, found.1)
    else (record { mark = mark; first = first; second = second; third = None }, more)
third_or_none mark first second more None =
    (record { mark = mark; first = first; second = second; third = None }, more)

-- the group that begins with a number, whose first mark stands here
unfoldable pub group_of : ℕ → List Token → ReadTokens Group
group_of first more = do
  found ← marked_number more
  if is_group_mark found.0.0
      then Some (third_or_none found.0.0 first found.0.1 found.1 (marked_number found.1)) else None

-- the numbers after the first as Git's dates keep them
abbrev pub second_of : Group → ℕ
second_of g = narrow g.second.value

abbrev pub third_of : Group → Option ℕ
third_of g = option_map (λ n. narrow n.value) g.third

abbrev pub taken_or_refused : Option Fields → Dated
taken_or_refused found = option_map_or Taken found Refused

-- a clock: a missing second is 0
abbrev pub clock_group : Fields → Group → Dated
clock_group f g = taken_or_refused (with_clock f g.first g.second.value (option_map_or (λ n. n.value) g.third 0))

-- the first of two that is not refused
abbrev pub or_else : Dated → Dated → Dated
or_else Refused other = other
or_else found other = found

-- a date that begins with its year: year, month, day, or else year, day, month
abbrev pub year_first_group : Fields → Group → Dated
year_first_group f g =
    let second = second_of g in
    option_map_or (λ third. or_else (year_date f g.first second third) (year_date f g.first third second)) (third_of g) Refused

-- another date: day, month, year by dots, or else month, day, year; by other marks the reverse
unfoldable pub day_month_group : Now → Fields → Group → Dated
day_month_group now f g =
    let month_first = recent_date now f g.first (second_of g) (third_of g) in
    let day_first = recent_date now f (second_of g) g.first (third_of g) in
    taken_or_refused (if g.mark == dot then option_or day_first month_first else option_or month_first day_first)

-- what a group says: a clock, a date that begins with its year, where the first number is above 70, or another date
unfoldable pub group_rule : Now → Fields → Group → Dated
group_rule now f g =
    if g.mark == colon then clock_group f g
    else (if nat_lt 70 g.first then or_else (year_first_group f g) (day_month_group now f g) else day_month_group now f g)

-- the place of the first number of a group that is too large
abbrev pub large_number : Number → Option ℕ
large_number n = if is_too_large n.value then Some n.left else None

abbrev pub large_in : Group → Option ℕ
large_in g = option_or (large_number g.second) (g.third >>= large_number)

-- what stands after a dot and digits, or else all
unfoldable pub without_fraction : List Token → List Token
without_fraction (Mark byte ∷ Digits run ∷ more) = if byte == dot then more else Mark byte ∷ Digits run ∷ more
without_fraction more = more

-- what stands after a group: a fraction after a clock, where the date is known, is taken too
abbrev pub after_group : Fields → Group → List Token → List Token
after_group next g more = if g.mark == colon && knows_date next then without_fraction more else more
