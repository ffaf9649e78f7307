-- The offset of a zone, as people write it.
use Rattle.std.specs.Prelude.{ℕ, ◌+◌, ◌*◌, ◌==◌, ◌||◌, nat_lt, List, [], ◌∷◌, ℤ, pos, neg_ℤ, if◌then◌else◌, Option, Some, None}
use Rattle.jiff_core.specs.Calendar.{IsBetween}
use Rattle.gix_date.specs.Fields.ClockNumbers.{seconds_per_minute, seconds_per_hour}
use Rattle.gix_date.specs.Text.Characters.{plus, minus, colon}
use Rattle.gix_date.specs.Text.Front.{◌>>=◌}
use Rattle.gix_date.specs.Text.Numbers.{two_digit_value}
use Rattle.git_date.specs.declared.zone_texts.TheConstants.{MAX_HOURS, MAX_MINUTES}

-- hours and minutes in seconds
abbrev pub distance : ℕ → ℕ → ℕ
distance hours minutes = seconds_per_hour * hours + seconds_per_minute * minutes

-- no further from UTC than the most hours and minutes
abbrev pub IsNear : ℤ → Type 0
IsNear seconds = IsBetween (neg_ℤ (pos (distance MAX_HOURS MAX_MINUTES))) (pos (distance MAX_HOURS MAX_MINUTES)) seconds

-- so far east of UTC after a plus, west after a minus; below 26 hours, as zones of `jiff` are
abbrev pub signed : ℕ → ℕ → ℕ → Option ℤ
signed sign hours minutes =
    if nat_lt MAX_HOURS hours || nat_lt MAX_MINUTES minutes then None
    else if sign == plus then Some (pos (distance hours minutes))
    else if sign == minus then Some (neg_ℤ (pos (distance hours minutes)))
    else None

-- the seconds of a sign and two digits of hours
abbrev pub signed_hours : ℕ → ℕ → ℕ → Option ℤ
signed_hours sign tens ones = two_digit_value tens ones >>= λ hours. signed sign hours 0

-- the seconds of a sign, two digits of hours and two of minutes
abbrev pub signed_clock : ℕ → ℕ → ℕ → ℕ → ℕ → Option ℤ
signed_clock sign a b c d = two_digit_value a b >>= λ hours. two_digit_value c d >>= λ minutes. signed sign hours minutes

-- The seconds of an offset: a sign, two digits of hours, and perhaps two of minutes. A colon may stand before the minutes.
unfoldable pub zone_offset : List ℕ → Option ℤ
zone_offset (sign ∷ a ∷ b ∷ []) = signed_hours sign a b
zone_offset (sign ∷ a ∷ b ∷ c ∷ d ∷ []) = signed_clock sign a b c d
zone_offset (sign ∷ a ∷ b ∷ mark ∷ c ∷ d ∷ []) = if mark == colon then signed_clock sign a b c d else None
zone_offset _ = None
