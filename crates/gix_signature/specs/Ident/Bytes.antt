-- Bytes that mean something in an identity line.
use Rattle.std.specs.Prelude.{ℕ, ◌+◌, Bool, ◌==◌, ◌||◌, ◌&&◌, not, nat_lt}
use Rattle.gix_date.specs.Text.Characters.{space, plus, minus, comma, dot, colon}
use Rattle.gix_signature.specs.Signature.{opening, closing, newline, nul}

-- `\t`
abbrev pub tab : ℕ
tab = 9

-- vertical tab
abbrev pub vertical_tab : ℕ
vertical_tab = 11

-- form feed
abbrev pub form_feed : ℕ
form_feed = 12

-- `\r`
abbrev pub carriage_return : ℕ
carriage_return = 13

-- `"`
abbrev pub quote : ℕ
quote = 34

-- `'`
abbrev pub apostrophe : ℕ
apostrophe = 39

-- `;`
abbrev pub semicolon : ℕ
semicolon = 59

-- `\`
abbrev pub backslash : ℕ
backslash = 92

-- `<`
abbrev pub is_opening : ℕ → Bool
is_opening c = c == opening

-- `>`
abbrev pub is_closing : ℕ → Bool
is_closing c = c == closing

-- `<` or `>`
abbrev pub is_bracket : ℕ → Bool
is_bracket c = is_opening c || is_closing c

-- a line feed
abbrev pub is_newline : ℕ → Bool
is_newline c = c == newline

-- NUL
abbrev pub is_nul : ℕ → Bool
is_nul c = c == nul

-- where a line ends: a line feed or NUL
abbrev pub ends_line : ℕ → Bool
ends_line c = is_newline c || is_nul c

-- a space, tab, line feed or carriage return
abbrev pub is_blank : ℕ → Bool
is_blank c = c == space || c == tab || c == newline || c == carriage_return

-- a blank, a vertical tab or a form feed
abbrev pub is_white : ℕ → Bool
is_white c = is_blank c || c == vertical_tab || c == form_feed

-- `-`
abbrev pub is_minus : ℕ → Bool
is_minus c = c == minus

-- `+` or `-`
abbrev pub is_sign : ℕ → Bool
is_sign c = c == plus || c == minus

-- a control character but NUL and the byte 127, or a space
abbrev pub is_control_or_space : ℕ → Bool
is_control_or_space c = nat_lt nul c && nat_lt c (space + 1)

-- one of `.` `,` `:` `;` `"` `\` `'`
abbrev pub is_crud_mark : ℕ → Bool
is_crud_mark c = c == dot || c == comma || c == colon || c == semicolon || c == quote || c == backslash || c == apostrophe

-- crud, which Git cuts off both ends of a name or email: a byte from 1 to 32, a bracket, or one of seven marks
abbrev pub is_crud : ℕ → Bool
is_crud c = is_control_or_space c || is_bracket c || is_crud_mark c

-- what a written name or email keeps between its ends: all but a bracket or line feed
abbrev pub is_kept : ℕ → Bool
is_kept c = not (is_bracket c || is_newline c)
