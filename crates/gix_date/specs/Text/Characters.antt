-- Characters by their codes.
use Rattle.std.specs.Prelude.{ℕ, Bool, List, ◌==◌}
use Rattle.std.specs.List.{list_any}

-- `\n`
abbrev pub newline : ℕ
newline = 10

-- ` `
abbrev pub space : ℕ
space = 32

-- `+`
abbrev pub plus : ℕ
plus = 43

-- `,`
abbrev pub comma : ℕ
comma = 44

-- `-`
abbrev pub minus : ℕ
minus = 45

-- `.`
abbrev pub dot : ℕ
dot = 46

-- `0`
abbrev pub digit_zero : ℕ
digit_zero = 48

-- `:`
abbrev pub colon : ℕ
colon = 58

-- `@`
abbrev pub at_sign : ℕ
at_sign = 64

-- `S`
abbrev pub letter_s : ℕ
letter_s = 83

-- `T`
abbrev pub letter_t : ℕ
letter_t = 84

-- `Z`
abbrev pub letter_z : ℕ
letter_z = 90

-- `_`
abbrev pub underscore : ℕ
underscore = 95

-- `s`
abbrev pub small_s : ℕ
small_s = 115

abbrev pub is_space : ℕ → Bool
is_space c = c == space

abbrev pub is_dot : ℕ → Bool
is_dot c = c == dot

abbrev pub is_colon : ℕ → Bool
is_colon c = c == colon

-- a text has a colon anywhere
abbrev pub has_colon : List ℕ → Bool
has_colon text = list_any is_colon text
