-- Where the clock of a Git text ends, and its offset begins.
use Rattle.std.specs.Prelude.{ℕ, ◌+◌, ◌-◌, Bool, ◌&&◌, ◌||◌, List, [], ◌∷◌, length, take, drop, nat_lt, ◌==◌, if◌then◌else◌, Option, Some}
use Rattle.std.specs.Prelude.{None, slice_index, option_map, unwrap_or, zero, suc}
use Rattle.std.specs.Char.{is_ascii_digit}
use Rattle.std.specs.Option.{option_or}
use Rattle.std.specs.Str.{trim}
use Rattle.gix_date.specs.Text.Characters.{space, plus, minus, letter_z}
use Rattle.gix_date.specs.Text.Front.{◌>>=◌}

-- the last place below n that passes a test
abbrev pub last_place : (ℕ → Bool) → ℕ → Option ℕ
last_place test zero = None
last_place test (suc n) = if test n then Some n else last_place test n

-- a plus or a minus
abbrev pub is_sign : ℕ → Bool
is_sign b = b == plus || b == minus

-- this is a place of 2 or more, with a sign directly before a digit
abbrev pub has_offset_at : List ℕ → ℕ → Bool
has_offset_at text place =
    nat_lt 1 place && is_sign (slice_index text place) && is_ascii_digit (slice_index text (place + 1))

-- the last space
unfoldable pub last_space : List ℕ → Option ℕ
last_space text = last_place (λ place. slice_index text place == space) (length text)

-- the last sign directly before a digit, at a place of 2 or more
unfoldable pub last_sign : List ℕ → Option ℕ
last_sign text = last_place (has_offset_at text) (length text)

-- what stands before the clock's end, and the text of the offset
abbrev pub Cut : Type 0
Cut = List ℕ × List ℕ

-- the text ends in `Z`
unfoldable pub cut_at_z : List ℕ → Option Cut
cut_at_z text =
    if slice_index text (length text - 1) == letter_z then Some (take (length text - 1) text, letter_z ∷ []) else None

-- what stands after a place, without white space round it
abbrev pub trimmed_after : List ℕ → ℕ → List ℕ
trimmed_after text place = trim (drop (place + 1) text)

-- a space above place 5 with a sign first after it, white space aside
abbrev pub cut_at_space_place : List ℕ → ℕ → Option Cut
cut_at_space_place text place =
    if nat_lt 5 place && is_sign (slice_index (trimmed_after text place) 0)
    then Some (take place text, trimmed_after text place) else None

-- the last space is such
unfoldable pub cut_at_space : List ℕ → Option Cut
cut_at_space text = last_space text >>= cut_at_space_place text

-- the last sign directly before a digit, with what stands after it
unfoldable pub cut_at_sign : List ℕ → Option Cut
cut_at_sign text = option_map (λ place. (take place text, drop place text)) (last_sign text)

-- the first of these that there is, and else the whole text is the clock
unfoldable pub clock_cut : List ℕ → Cut
clock_cut text = unwrap_or (option_or (cut_at_z text) (option_or (cut_at_space text) (cut_at_sign text))) (text, [])
