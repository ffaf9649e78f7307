-- The words of a relative text: what each counts, and which unit it names.
use Rattle.std.specs.Prelude.{ℕ, ◌+◌, ◌-◌, ◌*◌, Bool, ◌||◌, not, List, [], ◌∷◌, length, take, filter, ℤ, pos, ◌==◌, if◌then◌else◌, Option}
use Rattle.std.specs.Prelude.{Some, unwrap_or, slice_index, codes}
use Rattle.std.specs.Option.{option_map}
use Rattle.std.specs.Char.{is_ascii_alphanumeric, is_ascii_digit}
use Rattle.std.specs.List.{slice_split, list_all, position}
use Rattle.gix_date.specs.Fields.ClockNumbers.{seconds_per_minute, seconds_per_hour, seconds_per_day}
use Rattle.gix_date.specs.Text.Characters.{small_s, letter_s}
use Rattle.gix_date.specs.Text.Names.{is_name, named_in, number_names}
use Rattle.gix_date.specs.Text.Numbers.{int_value}
use Rattle.gix_date.specs.Text.SpaceWords.{is_nonempty}
use Rattle.gix_date.specs.declared.parsing.relative.words.TimeUnit.{TimeUnit}
use Rattle.gix_date.specs.declared.parsing.relative.words.TimeUnit.TheVariants.{Seconds, Months}

-- a byte of no word
abbrev pub is_gap : ℕ → Bool
is_gap b = not (is_ascii_alphanumeric b)

-- the longest runs of ASCII letters and digits
unfoldable pub relative_words : List ℕ → List (List ℕ)
relative_words text = filter is_nonempty (slice_split is_gap text)

-- the number from 1 to 10 of this name
unfoldable pub number_named : List ℕ → Option ℤ
number_named word = option_map (λ place. pos (place + 1)) (position (is_name word) number_names)

-- what `last` counts, and `one` to `ten`
unfoldable pub named_count : List ℕ → Option ℤ
named_count word = if is_name word (codes "last") then Some (pos 1) else number_named word

-- what a count word counts: digits alone their number, where an i64 holds it
unfoldable pub count_of : List ℕ → Option ℤ
count_of word = if list_all is_ascii_digit word then int_value word else named_count word

-- a period without one final `s` or `S`
unfoldable pub singular : List ℕ → List ℕ
singular period =
    let last = slice_index period (length period - 1) in
    if last == small_s || last == letter_s then take (length period - 1) period else period

-- the units by their names
abbrev pub unit_names : List (List ℕ × TimeUnit)
unit_names =
    (codes "second", Seconds (pos 1)) ∷ (codes "minute", Seconds (pos seconds_per_minute))
    ∷ (codes "hour", Seconds (pos seconds_per_hour)) ∷ (codes "day", Seconds (pos seconds_per_day))
    ∷ (codes "week", Seconds (pos (7 * seconds_per_day))) ∷ (codes "month", Months (pos 1))
    ∷ (codes "year", Months (pos 12)) ∷ []

-- the unit of this name
unfoldable pub named_unit : List ℕ → Option TimeUnit
named_unit name = named_in unit_names name

-- the unit that a period names
unfoldable pub unit_of : List ℕ → Option TimeUnit
unit_of period = named_unit (singular period)

-- the unit that a period names, or else a second
abbrev pub unit_or_seconds : List ℕ → TimeUnit
unit_or_seconds period = unwrap_or (unit_of period) (Seconds (pos 1))

-- the word that makes any period count as seconds
abbrev pub is_ago : List ℕ → Bool
is_ago word = is_name word (codes "ago")

-- the unit of a period: a number of seconds or of months
abbrev pub PeriodUnit : Type 0
PeriodUnit = TimeUnit
