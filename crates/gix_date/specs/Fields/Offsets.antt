-- The fields of an offset from UTC: a sign, and pairs of digits.
use Rattle.std.specs.Prelude.{ℕ, ◌+◌, ◌*◌, Bool, List, [], ◌∷◌, ℤ, pos, neg_ℤ, if◌then◌else◌, Option, Some, None, option_map, unwrap_or}
use Rattle.std.specs.Prelude.{◌++◌, int_lt, unsigned_abs}
use Rattle.std.specs.Option.{option_or}
use Rattle.gix_date.specs.Fields.ClockNumbers.{seconds_per_minute, seconds_per_hour, hours_in, minutes_in}
use Rattle.gix_date.specs.Text.Characters.{plus, minus}
use Rattle.gix_date.specs.Text.Front.{ReadFront, skip_char, ◌>>=◌}
use Rattle.gix_date.specs.Text.Numbers.{two_digit_value, read_two_digits, two_digits}
use Rattle.gix_date.specs.declared.parsing.offset.Sign.{Sign}
use Rattle.gix_date.specs.declared.parsing.offset.Sign.TheVariants.{Plus, Minus}
use Rattle.gix_date.specs.declared.parsing.offset.OffsetFields.{OffsetFields}

-- a sign at the front
unfoldable pub read_sign : List ℕ → ReadFront Sign
read_sign text =
    option_or (option_map (λ rest. (Plus, rest)) (skip_char plus text))
    (option_map (λ rest. (Minus, rest)) (skip_char minus text))

-- nothing more, or two digits more
unfoldable pub last_pair : List ℕ → Option (Option ℕ)
last_pair [] = Some None
last_pair (tens ∷ ones ∷ []) = option_map Some (two_digit_value tens ones)
last_pair _ = None

-- the whole text is a sign, two digits of hours, two of minutes, and perhaps two of seconds
unfoldable pub offset_fields : List ℕ → Option OffsetFields
offset_fields text = do
  sign ← read_sign text
  hours ← read_two_digits sign.1
  minutes ← read_two_digits hours.1
  seconds ← last_pair minutes.1
  Some (record { sign = sign.0; hours = hours.0; minutes = minutes.0; seconds = seconds })

-- that many seconds ahead of UTC for a plus, and behind it for a minus
abbrev pub signed : Sign → ℕ → ℤ
signed Plus n = pos n
signed Minus n = neg_ℤ (pos n)

-- the offset that the fields say, in seconds east of UTC
abbrev pub offset_of : OffsetFields → ℤ
offset_of f =
    signed f.sign (seconds_per_hour * f.hours + seconds_per_minute * f.minutes + unwrap_or f.seconds 0)

-- the offset that fields say, if a rule allows them
abbrev pub offset_by : (OffsetFields → Bool) → OffsetFields → Option ℤ
offset_by rule f = if rule f then Some (offset_of f) else None

-- `-` where the offset is below 0, else `+`
abbrev pub offset_sign : ℤ → ℕ
offset_sign offset = if int_lt offset (pos 0) then minus else plus

-- two digits of whole hours, and two of the whole minutes that remain
abbrev pub hours_and_minutes : ℕ → List ℕ
hours_and_minutes seconds = two_digits (hours_in seconds) ++ two_digits (minutes_in seconds)

-- an offset as `+hhmm`
abbrev pub compact_offset_text : ℤ → List ℕ
compact_offset_text offset = offset_sign offset ∷ hours_and_minutes (unsigned_abs offset)

-- the sign and the two numbers of an offset
abbrev pub SignedPairs : Type 0
SignedPairs = OffsetFields

-- the sign of an offset
abbrev pub OffsetSign : Type 0
OffsetSign = Sign
