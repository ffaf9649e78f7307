-- Offsets after a sign, and `@` with its seconds and offset.
use Rattle.std.specs.Prelude.{ℕ, ◌+◌, ◌*◌, ◌/◌, ◌%◌, Bool, true, false, not, ◌&&◌, ◌||◌, List, [], ◌∷◌, length, ℤ, pos, neg_ℤ, ◌+ℤ◌, negsuc}
use Rattle.std.specs.Prelude.{◌==◌, nat_le, nat_lt, if◌then◌else◌, Option, Some, None, Result, Ok, Err, option_map}
use Rattle.std.specs.Option.{option_map_or}
use Rattle.std.specs.Ordering.{int_eq}
use Rattle.git_date.specs.Tokens.Steps.{and_then}
use Rattle.gix_date.specs.Text.Characters.{space, plus, minus, colon, at_sign}
use Rattle.gix_date.specs.Text.Front.{◌>>=◌}
use Rattle.git_date.specs.Tokens.Tokens.{Token, Digits, Mark, bytes_left, is_end}
use Rattle.git_date.specs.Tokens.Numbers.{number, is_too_large}
use Rattle.git_date.specs.Rules.Groups.{ReadTokens}
use Rattle.git_date.specs.Rules.Digits.{Stepped}
use Rattle.git_date.specs.declared.fields.Fields.{Fields}
use Rattle.git_date.specs.declared.error.Fault.{Fault}
use Rattle.git_date.specs.declared.error.Fault.TheVariants.{NumberTooLarge}
use Rattle.git_date.specs.declared.fields.offsets.Padded.{Padded}

-- white space: a space, a tab, a line feed, a vertical tab, a form feed, a carriage return
abbrev pub is_white : Token → Bool
is_white (Mark byte) = byte == space || (nat_le 9 byte && nat_le byte 13)
is_white _ = false

abbrev pub is_sign : ℕ → Bool
is_sign byte = byte == plus || byte == minus

-- how much white space stands first, and what stands after it
unfoldable pub white : List Token → ℕ
white [] = 0
white (t ∷ more) = if is_white t then 1 + white more else 0

unfoldable pub without_white : List Token → List Token
without_white [] = []
without_white (t ∷ more) = if is_white t then without_white more else t ∷ more

-- A number after white space and perhaps a sign: whether it is below 0, how many bytes all of it has, and how many are
-- left from its digits on.
abbrev pub padded_by : Bool → ℕ → List ℕ → List Token → Padded × List Token
padded_by negative before run more = (
  record {
    negative = negative;
    value = number run;
    width = before + length run;
    left = bytes_left (Digits run ∷ more);
  },
  more,
)

abbrev pub padded_after : ℕ → List Token → ReadTokens Padded
padded_after before (Digits run ∷ more) = Some (padded_by false before run more)
padded_after before (Mark mark ∷ Digits run ∷ more) =
    if mark == plus then Some (padded_by false (1 + before) run more)
    else (if mark == minus then Some (padded_by true (1 + before) run more) else None)
padded_after before _ = None

unfoldable pub padded_number : List Token → ReadTokens Padded
padded_number all = padded_after (white all) (without_white all)

-- so many minutes, or so many below 0
abbrev pub signed_minutes : Bool → ℕ → ℤ
signed_minutes negative minutes = if negative then neg_ℤ (pos minutes) else pos minutes

-- the minutes of an offset: hours below 24, and minutes below 60
unfoldable pub offset_minutes : ℕ → Bool → ℕ → Option ℤ
offset_minutes hours negative minutes =
    if nat_lt hours 24 && nat_lt minutes 60 then Some (pos (60 * hours) +ℤ signed_minutes negative minutes) else None

-- what was read of an offset: its minutes, or `None` if it is refused, and the tokens after it
abbrev pub SaidOffset : Type 0
SaidOffset = Result (Option ℤ × List Token) Fault

-- the minutes after the colon of an offset, as a number says them: two bytes, with white space and sign
abbrev pub minutes_said : ℕ → Padded × List Token → SaidOffset
minutes_said hours (n, more) =
    if is_too_large n.value then Err (NumberTooLarge n.left)
    else Ok (if n.width == 2 then offset_minutes hours n.negative n.value else None, more)

unfoldable pub colon_minutes : ℕ → List Token → SaidOffset
colon_minutes hours all = option_map_or (minutes_said hours) (padded_number all) (Ok (None, all))

-- two digits: hours, and minutes after a colon
unfoldable pub two_digit_offset : ℕ → List Token → SaidOffset
two_digit_offset hours (Mark byte ∷ more) =
    if byte == colon then colon_minutes hours more else Ok (offset_minutes hours false 0, Mark byte ∷ more)
two_digit_offset hours more = Ok (offset_minutes hours false 0, more)

-- the offset after a sign: two digits with perhaps minutes after a colon, or four digits
unfoldable pub offset_said : List ℕ → List Token → SaidOffset
offset_said run more =
    if is_too_large (number run) then Err (NumberTooLarge (bytes_left (Digits run ∷ more)))
    else (if length run == 2 then two_digit_offset (number run) more
    else Ok (if length run == 4 then offset_minutes (number run / 100) false (number run % 100) else None, more))

-- the offset that is known then: one minute behind UTC is none
abbrev pub known_minutes : ℤ → Option ℤ
known_minutes minutes = if int_eq minutes (negsuc 0) then None else Some minutes

abbrev pub with_offset : Fields → Bool → ℤ → Fields
with_offset f behind minutes = record f { offset = known_minutes (if behind then neg_ℤ minutes else minutes) }

-- a sign directly before digits
abbrev pub offset_rule : Fields → Bool → List ℕ → List Token → Stepped
offset_rule f behind run more =
    and_then (offset_said run more) (λ said. Ok (option_map (with_offset f behind) said.0, said.1))

-- what ends a text: nothing more, or a line feed
abbrev pub ends : List Token → Bool
ends [] = true
ends (t ∷ more) = is_end t

-- the minutes of four bytes after a sign: hours by hundreds, without a limit; four bytes hold no more
abbrev pub wide_minutes : Bool → Padded → List Token → Option ℤ
wide_minutes behind n more =
    if n.width == 4 && nat_lt n.value 10_000 && ends more
    then Some (signed_minutes (if n.negative then not behind else behind) (60 * (n.value / 100) + n.value % 100)) else None

abbrev pub by_sign : ℕ → List Token → Option ℤ
by_sign mark more =
    if mark == plus then padded_number more >>= (λ found. wide_minutes false found.0 found.1)
    else (if mark == minus then padded_number more >>= (λ found. wide_minutes true found.0 found.1) else None)

-- `@`, seconds, one space, and an offset of a sign and four bytes: the seconds, and the minutes of the offset
unfoldable pub at_text : List Token → Option (ℕ × ℤ)
at_text (Mark at ∷ Digits run ∷ Mark gap ∷ Mark sign ∷ more) =
    if at == at_sign && gap == space then option_map (λ minutes. (number run, minutes)) (by_sign sign more) else None
at_text _ = None
