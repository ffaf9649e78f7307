-- What words say to the approximate reader.
use Rattle.std.specs.Prelude.{ℕ, ◌+◌, ◌*◌, Bool, ◌&&◌, ◌||◌, List, [], ◌∷◌, length, ◌==◌, codes, if◌then◌else◌, Option, Some, option_map}
use Rattle.std.specs.List.{position, find}
use Rattle.std.specs.Option.{option_or}
use Rattle.gix_date.specs.Fields.ClockNumbers.{seconds_per_minute, seconds_per_hour, seconds_per_day}
use Rattle.gix_date.specs.Text.Names.{is_name, named_in, number_names}
use Rattle.gix_date.specs.Text.LongNames.{begins, month_of_word, weekday_of_word}
use Rattle.git_date.specs.declared.approximate.meanings.Meaning.{Meaning}
use Rattle.git_date.specs.declared.approximate.meanings.Meaning.TheVariants.{Month, Back, Never, Hour, Morning, Afternoon, Count}
use Rattle.git_date.specs.declared.approximate.meanings.Meaning.TheVariants as meaning
use Rattle.git_date.specs.declared.approximate.meanings.Unit.{Unit}
use Rattle.git_date.specs.declared.approximate.meanings.Unit.TheVariants.{Seconds, Weekday, Months}

-- the words of moments: so many seconds back, the first instant of 1970, a whole hour, and the halves of a day
abbrev pub moment_names : List (List ℕ × Meaning)
moment_names =
    (codes "now", Back 0) ∷ (codes "yesterday", Back seconds_per_day) ∷ (codes "never", Never) ∷ (codes "midnight", Hour 0)
    ∷ (codes "noon", Hour 12) ∷ (codes "tea", Hour 17) ∷ (codes "AM", Morning) ∷ (codes "PM", Afternoon) ∷ []

unfoldable pub moment_named : List ℕ → Option Meaning
moment_named word = named_in moment_names word

-- `one` to `ten`, and `last`, which is one
unfoldable pub count_named : List ℕ → Option ℕ
count_named word =
    if is_name word (codes "last") then Some 1 else option_map (λ place. place + 1) (position (is_name word) number_names)

-- a unit's name, or that without its last letter
abbrev pub is_unit : List ℕ → List ℕ → Bool
is_unit word name = is_name word name || (length word + 1 == length name && begins word name)

abbrev pub unit_names : List (List ℕ × Unit)
unit_names =
    (codes "seconds", Seconds 1) ∷ (codes "minutes", Seconds seconds_per_minute) ∷ (codes "hours", Seconds seconds_per_hour)
    ∷ (codes "days", Seconds seconds_per_day) ∷ (codes "weeks", Seconds (7 * seconds_per_day)) ∷ (codes "months", Months 1)
    ∷ (codes "years", Months 12) ∷ []

unfoldable pub unit_named : List ℕ → Option Unit
unit_named word = option_map (λ row. row.1) (find (λ row. is_unit word row.0) unit_names)

-- what a word says, if it is known; no word is in two of these tables
unfoldable pub meaning_of : List ℕ → Option Meaning
meaning_of word =
    let weekday_or_unit =
    option_or (option_map (λ day. meaning.Unit (Weekday day)) (weekday_of_word word)) (option_map meaning.Unit (unit_named word)) in
    let counted = option_or (option_map Count (count_named word)) weekday_or_unit in
    option_or (option_map Month (month_of_word word)) (option_or (moment_named word) counted)
