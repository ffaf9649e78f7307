-- The clock of a Git text.
use Rattle.std.specs.Prelude.{ℕ, List, [], ◌∷◌, ◌&&◌, nat_lt, if◌then◌else◌, Option, Some, None}
use Rattle.std.specs.Char.{is_ascii, is_ascii_digit}
use Rattle.std.specs.List.{list_all, slice_split, before_first}
use Rattle.std.specs.Str.{trim}
use Rattle.std.specs.Str.Parse.{digits_value}
use Rattle.gix_date.specs.Fields.ClockNumbers.{max_hour, max_minute, max_second}
use Rattle.gix_date.specs.Text.Characters.{is_colon, is_dot, has_colon}
use Rattle.gix_date.specs.Text.Front.{ReadFront, ◌>>=◌}
use Rattle.gix_date.specs.Text.Numbers.{read_two_digits}
use Rattle.gix_date.specs.Text.SpaceWords.{is_nonempty}
use Rattle.gix_date.specs.declared.clock.ClockFields.{ClockFields}

abbrev pub at_most : ℕ → ℕ → Option ℕ
at_most most n = if nat_lt most n then None else Some n

-- digits alone, of any width, whose number is at most this
unfoldable pub digits_at_most : ℕ → List ℕ → Option ℕ
digits_at_most most text =
    if is_nonempty text && list_all is_ascii_digit text then at_most most (digits_value 10 text) else None

-- the clock of these fields, where there are all
abbrev pub clock_of_fields : Option ℕ → Option ℕ → Option ℕ → Option ClockFields
clock_of_fields (Some h) (Some m) (Some s) = Some (record { hour = h; minute = m; second = s })
clock_of_fields (Some h) (Some m) None = None
clock_of_fields (Some h) None s = None
clock_of_fields None m s = None

-- hours, minutes and seconds; a part that is not there is 0, and those after the third are ignored
abbrev pub clock_of_parts : List (List ℕ) → Option ClockFields
clock_of_parts [] = None
clock_of_parts (h ∷ []) = clock_of_fields (digits_at_most max_hour h) (Some 0) (Some 0)
clock_of_parts (h ∷ m ∷ []) = clock_of_fields (digits_at_most max_hour h) (digits_at_most max_minute m) (Some 0)
clock_of_parts (h ∷ m ∷ s ∷ more) =
    clock_of_fields (digits_at_most max_hour h) (digits_at_most max_minute m) (digits_at_most max_second s)

-- a clock with colons between its parts
unfoldable pub clock_with_colons : List ℕ → Option ClockFields
clock_with_colons text = clock_of_parts (slice_split is_colon text)

-- two digits, or 0 where nothing is left
unfoldable pub read_pair_or_end : List ℕ → ReadFront ℕ
read_pair_or_end [] = Some (0, [])
read_pair_or_end (c ∷ rest) = read_two_digits (c ∷ rest)

-- a clock of two, four or six digits: HH, HHMM or HHMMSS
unfoldable pub clock_without_colons : List ℕ → Option ClockFields
clock_without_colons text = do
  hour ← read_two_digits text
  minute ← read_pair_or_end hour.1
  second ← read_pair_or_end minute.1
  if is_nonempty second.1 then None else Some (record { hour = hour.0; minute = minute.0; second = second.0 })

-- a clock, already trimmed: ASCII alone
unfoldable pub trimmed_clock : List ℕ → Option ClockFields
trimmed_clock text =
    if list_all is_ascii text then (if has_colon text then clock_with_colons text else clock_without_colons text)
    else None

-- what a clock's slice says; it ends at its first dot, if there is one
unfoldable pub git_clock : List ℕ → Option ClockFields
git_clock text = trimmed_clock (trim (before_first is_dot text))
