-- How the fields of formatted dates are read off the front of a text.
use Rattle.std.specs.Prelude.{ℕ, ◌+◌, Bool, ◌&&◌, List, [], ◌∷◌, drop, ◌==◌, nat_lt, if◌then◌else◌, Option, Some, None, unwrap_or}
use Rattle.std.specs.Char.{is_ascii_alphabetic}
use Rattle.std.specs.List.{prefix_len, list_any, position}
use Rattle.std.specs.Option.{option_map}
use Rattle.gix_date.specs.Fields.ClockNumbers.{max_second}
use Rattle.gix_date.specs.Text.Characters.{is_space, comma, minus, colon}
use Rattle.gix_date.specs.Fields.Civil.{read_date}
use Rattle.gix_date.specs.Text.Front.{ReadFront, skip_char, ◌>>=◌}
use Rattle.gix_date.specs.Text.Numbers.{read_two_digits, read_field}
use Rattle.gix_date.specs.Text.Names.{is_name, day_names, month_names}
use Rattle.gix_date.specs.declared.clock.ClockFields.{ClockFields}
use Rattle.gix_date.specs.declared.clock.DateFields.{DateFields}

-- what stands after one space or more
unfoldable pub skip_spaces : List ℕ → Option (List ℕ)
skip_spaces text =
    if nat_lt 0 (prefix_len is_space text) then Some (drop (prefix_len is_space text) text) else None

-- three letters at the front
unfoldable pub read_name : List ℕ → ReadFront (List ℕ)
read_name (a ∷ b ∷ c ∷ rest) =
    if is_ascii_alphabetic a && is_ascii_alphabetic b && is_ascii_alphabetic c
    then Some (a ∷ b ∷ c ∷ [], rest) else None
read_name _ = None

-- the month of this name, in any letter case
unfoldable pub month_named : List ℕ → Option ℕ
month_named name = option_map (λ place. place + 1) (position (is_name name) month_names)

-- a day of the week has this name, in any letter case
unfoldable pub is_weekday : List ℕ → Bool
is_weekday name = list_any (is_name name) day_names

-- a month's name at the front
unfoldable pub read_month : List ℕ → ReadFront ℕ
read_month text = do
  name ← read_name text
  month ← month_named name.0
  Some (month, name.1)

-- what stands after the name of a day of the week, whichever it is
unfoldable pub skip_weekday : List ℕ → Option (List ℕ)
skip_weekday text = do
  name ← read_name text
  if is_weekday name.0 then Some name.1 else None

-- what stands after `Www, `
unfoldable pub skip_day_name : List ℕ → Option (List ℕ)
skip_day_name text = do
  rest ← skip_weekday text
  rest ← skip_char comma rest
  skip_spaces rest

-- `YYYY-M-D`
unfoldable pub read_plain_date : List ℕ → ReadFront DateFields
read_plain_date text = read_date read_field (skip_char minus) text

-- `HH:MM:SS`, two digits each
unfoldable pub read_colon_clock : List ℕ → ReadFront ClockFields
read_colon_clock text = do
  hour ← read_two_digits text
  rest ← skip_char colon hour.1
  minute ← read_two_digits rest
  rest ← skip_char colon minute.1
  second ← read_two_digits rest
  Some (record { hour = hour.0; minute = minute.0; second = second.0 }, second.1)

-- a second of 60 is read as 59
abbrev pub without_leap_second : ℕ → ℕ
without_leap_second second = if second == 60 then max_second else second

-- `h:m`
unfoldable pub read_minutes : List ℕ → ReadFront ClockFields
read_minutes text = do
  hour ← read_field text
  rest ← skip_char colon hour.1
  minute ← read_field rest
  Some (record { hour = hour.0; minute = minute.0; second = 0 }, minute.1)

-- `:s` after such a clock
unfoldable pub read_second : ClockFields → List ℕ → ReadFront ClockFields
read_second clock text = do
  rest ← skip_char colon text
  second ← read_field rest
  Some (record clock { second = without_leap_second second.0 }, second.1)

-- `h:m:s`
unfoldable pub read_clock : List ℕ → ReadFront ClockFields
read_clock text = do
  clock ← read_minutes text
  read_second clock.0 clock.1

-- `h:m:s`, or else `h:m`
unfoldable pub read_rfc2822_clock : List ℕ → ReadFront ClockFields
read_rfc2822_clock text = do
  clock ← read_minutes text
  Some (unwrap_or (read_second clock.0 clock.1) clock)
