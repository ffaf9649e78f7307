-- Offsets as Git's own code has them: a number of hours and two digits of minutes. `-0130` is -130.
use Rattle.std.specs.Prelude.{ℕ, ◌+◌, ◌*◌, ◌/◌, ◌%◌, min, ℤ, pos, neg_ℤ, int_lt, unsigned_abs, if◌then◌else◌}
use Rattle.gix_date.specs.Fields.ClockNumbers.{hours_in, minutes_in}
use Rattle.git_date.specs.Exact.ZoneTexts.{distance}
use Rattle.git_date.specs.declared.zone_texts.TheConstants.{WIDEST}

-- so far on the side of zero where a number lies
abbrev pub with_sign : ℤ → ℕ → ℤ
with_sign n size = if int_lt n (pos 0) then neg_ℤ (pos size) else pos size

-- the seconds of a number of Git's, or the most of its sign
unfoldable pub offset_from_decimal : ℤ → ℤ
offset_from_decimal decimal = with_sign decimal (min (distance (unsigned_abs decimal / 100) (unsigned_abs decimal % 100)) WIDEST)

-- the number of Git's for an offset, without the seconds of a minute
unfoldable pub offset_to_decimal : ℤ → ℤ
offset_to_decimal offset = with_sign offset (100 * hours_in (unsigned_abs offset) + minutes_in (unsigned_abs offset))
