-- The time that Git makes of a date's texts, and numbers as C reads them.
use Rattle.std.specs.Prelude.{ℕ, ◌+◌, ◌-◌, ◌*◌, ◌/◌, ◌%◌, Bool, ◌||◌, nat_lt, int_lt, if◌then◌else◌, List, [], drop, take_while, ℤ, pos}
use Rattle.std.specs.Prelude.{negsuc}
use Rattle.std.specs.Prelude.{◌∷◌, ◌++◌, ◌&&◌, false, neg_ℤ, unsigned_abs, Option, Some, None, Result, Ok, Err}
use Rattle.std.specs.Char.{is_ascii_digit}
use Rattle.std.specs.Fmt.{decimal}
use Rattle.std.specs.Ordering.{int_eq}
use Rattle.std.specs.Str.Parse.{digits_value, signed_digits_value}
use Rattle.gix_date.specs.Text.Characters.{space, minus}
use Rattle.gix_date.specs.Text.Front.{ReadFront}
use Rattle.gix_date.specs.Text.Numbers.{two_digits, decimal_text}
use Rattle.gix_date.specs.Fields.ClockNumbers.{seconds_per_minute}
use Rattle.gix_date.specs.Fields.Offsets.{offset_sign}
use Rattle.gix_date.specs.declared.time.Time.{Time}
use Rattle.gix_signature.specs.Ident.Bytes.{is_white, is_sign, is_minus}
use Rattle.gix_signature.specs.Ident.Texts.{without_front, begins_with}
use Rattle.gix_signature.specs.Ident.Parts.{DateText}
use Rattle.gix_signature.specs.declared.error.IdentFault.{IdentFault}
use Rattle.gix_signature.specs.declared.error.IdentFault.TheVariants.{OffsetTooWide}
use Rattle.gix_signature.specs.declared.ident.GitTime.{GitTime}

-- how many seconds Git does not show: 2^63
abbrev pub too_many_seconds : ℕ
too_many_seconds = 9_223_372_036_854_775_808

-- the least number of an offset
abbrev pub least_offset : ℤ
least_offset = negsuc 2_147_483_646

-- the greatest number of an offset
abbrev pub greatest_offset : ℤ
greatest_offset = pos 2_147_483_646

-- the number of an offset, as Git keeps it: outside its range it is 0
abbrev pub kept_offset : ℤ → ℤ
kept_offset n = if int_lt n least_offset || int_lt greatest_offset n then pos 0 else n

-- the seconds that Git shows, below 2^63
abbrev pub seconds_shown : ℕ → Option ℤ
seconds_shown n = if nat_lt n too_many_seconds then Some (pos n) else None

-- a minus stands before an offset that is kept as 0
abbrev pub is_minus_zero : Bool → ℤ → Bool
is_minus_zero has_minus kept = has_minus && int_eq kept (pos 0)

-- the time of seconds, and of an offset's minus and number; without seconds all is 0
abbrev pub git_time_at : Option ℤ → Bool → ℤ → GitTime
git_time_at (Some seconds) has_minus n =
    record { seconds = seconds; offset = kept_offset n; minus_zero = is_minus_zero has_minus (kept_offset n) }
git_time_at None has_minus n = record { seconds = pos 0; offset = pos 0; minus_zero = false }

-- the time that Git shows: the seconds, and the offset as one decimal number; from 2^63 seconds all is 0
unfoldable pub git_time : DateText → GitTime
git_time date =
    git_time_at (seconds_shown (digits_value 10 date.seconds)) (begins_with is_minus date.offset) (signed_digits_value 10 date.offset)

-- the hours and the minutes of an offset's decimal number; minutes may be 60 and more
abbrev pub hours_written : ℤ → ℕ
hours_written offset = unsigned_abs offset / 100

abbrev pub minutes_written : ℤ → ℕ
minutes_written offset = unsigned_abs offset % 100

-- a number in two digits or more
abbrev pub digits_from_two : ℕ → List ℕ
digits_from_two n = if nat_lt n 100 then two_digits n else decimal n

-- the digits of an offset's number, with nothing or a colon before the minutes: `0060`, `51800`, `518:00`
abbrev pub offset_digits : List ℕ → ℤ → List ℕ
offset_digits mark offset = digits_from_two (hours_written offset) ++ mark ++ two_digits (minutes_written offset)

-- the sign of a written offset; that of 0 is kept
abbrev pub offset_mark : GitTime → ℕ
offset_mark t = if t.minus_zero && int_eq t.offset (pos 0) then minus else offset_sign t.offset

-- a time as a line has it: the seconds in decimal, a space, and a sign with at least four digits
abbrev pub git_time_text : GitTime → List ℕ
git_time_text t = decimal_text t.seconds ++ space ∷ offset_mark t ∷ offset_digits [] t.offset

-- the widest offset, in minutes, whose seconds 32 bits hold with a sign
abbrev pub widest_minutes : ℕ
widest_minutes = 35_791_394

-- the minutes that an offset's decimal number says: its last two digits are minutes, and those before them hours
abbrev pub minutes_told : ℕ → ℕ
minutes_told n = n / 100 * 60 + n % 100

-- a number of seconds, with the sign of an offset
abbrev pub with_sign_of : ℤ → ℕ → ℤ
with_sign_of offset n = if int_lt offset (pos 0) then neg_ℤ (pos n) else pos n

-- the time of Git's seconds and decimal offset, or `OffsetTooWide` above the widest offset
unfoldable pub time_of_git : GitTime → Result Time IdentFault
time_of_git t =
    if nat_lt widest_minutes (minutes_told (unsigned_abs t.offset)) then Err OffsetTooWide
    else Ok (record { seconds = t.seconds; offset = with_sign_of t.offset (seconds_per_minute * minutes_told (unsigned_abs t.offset)) })

-- how many numbers 64 bits hold: 2^64
abbrev pub numbers_of_64_bits : ℕ
numbers_of_64_bits = 18_446_744_073_709_551_616

-- a number that 64 bits hold
abbrev pub held_number : ℕ → Option ℕ
held_number n = if nat_lt n numbers_of_64_bits then Some n else None

-- the number that 64 bits keep of digits, after a minus or not: from 2^64 the greatest, and else negated after a minus
abbrev pub c_value : Bool → ℕ → ℕ
c_value is_negated n =
    if nat_lt n numbers_of_64_bits
    then (if is_negated then (numbers_of_64_bits - n) % numbers_of_64_bits else n) else numbers_of_64_bits - 1

-- a text without a sign at its front
abbrev pub without_sign : List ℕ → List ℕ
without_sign text = if begins_with is_sign text then drop 1 text else text

-- a number from its sign on, and what stands after its digits
abbrev pub number_at_front : List ℕ → ReadFront ℕ
number_at_front text =
    if begins_with is_ascii_digit (without_sign text)
    then Some (
      c_value (begins_with is_minus text) (digits_value 10 (take_while is_ascii_digit (without_sign text))),
      without_front is_ascii_digit (without_sign text),
    )
    else None

-- the number that C reads at the front of a text, after white bytes, and what stands after it
unfoldable pub c_number : List ℕ → ReadFront ℕ
c_number text = number_at_front (without_front is_white text)
