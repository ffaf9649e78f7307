-- The pieces of a format.
use Rattle.std.specs.Prelude.{ℕ, zero, suc, ◌+◌, ◌-◌, ◌==◌, Bool, nat_lt, List, [], ◌∷◌, length, take, drop, if◌then◌else◌, Option, Some}
use Rattle.std.specs.Prelude.{None, option_map, Result, Ok, Err}
use Rattle.std.specs.Char.{is_ascii_digit}
use Rattle.std.specs.List.{prefix_len, position_or_len, slice_get}
use Rattle.std.specs.Result.{result_map_both, result_unwrap_or, result_err, is_ok}
use Rattle.std.specs.Borrow.{Bor}
use Rattle.git_date.specs.declared.format.error.FormatFault.{FormatFault}
use Rattle.git_date.specs.declared.format.error.FormatFault.TheVariants.{FlagRefused, UnknownDirective, WidthTooLarge}
use Rattle.git_date.specs.declared.format.directives.Directive.{Directive}
use Rattle.git_date.specs.declared.format.directives.Plain.{Plain}
use Rattle.git_date.specs.declared.format.pieces.Made.{Made as TheMade}
use Rattle.git_date.specs.declared.format.pieces.Made.TheVariants as made
use Rattle.git_date.specs.declared.format.pieces.Piece.{Piece as Slice}
use Rattle.git_date.specs.declared.format.pieces.Piece.TheVariants as slice
use Rattle.git_date.specs.Formats.Directives.{plain_lettered, directive_lettered}
use Rattle.git_date.specs.Formats.Flags.{is_flag, flags_of, max_width}
use Rattle.git_date.specs.Tokens.Numbers.{number}

abbrev pub Made : Type 0
Made = TheMade

-- a piece: text up to a percent sign, or what a percent sign begins
pub data Piece : Type 0 where
  Text : List ℕ → Piece
  Begun : Made → Piece

-- what a slice of the code says
abbrev pub piece_of : Slice → Piece
piece_of (slice.Text text) = Text text.now
piece_of (slice.Made m) = Begun m

-- `%`
abbrev pub percent : ℕ
percent = 37

abbrev pub is_percent : ℕ → Bool
is_percent c = c == percent

-- how many bytes stand before the first percent sign
abbrev pub text_len : List ℕ → ℕ
text_len text = position_or_len is_percent text

-- A directive is flags, digits of a width, and a letter: how many flags it has, and where its letter stands.
abbrev pub marks_len : List ℕ → ℕ
marks_len text = prefix_len is_flag text

abbrev pub after_marks : List ℕ → List ℕ
after_marks text = drop (marks_len text) text

abbrev pub digits_len : List ℕ → ℕ
digits_len text = prefix_len is_ascii_digit (after_marks text)

abbrev pub after_digits : List ℕ → List ℕ
after_digits text = drop (digits_len text) (after_marks text)

abbrev pub letter_place : List ℕ → ℕ
letter_place text = marks_len text + digits_len text

-- Of a letter that takes neither flags nor a width these are refused. A fault says how many bytes are left from the percent sign on.
abbrev pub plain_at : ℕ → ℕ → Plain → Result Made FormatFault
plain_at left len plain = if len == 0 then Ok (made.Plain plain) else Err (FlagRefused left)

abbrev pub directive_at : ℕ → List ℕ → List ℕ → Option Directive → Result Made FormatFault
directive_at left marks digits None = Err (UnknownDirective left)
directive_at left marks digits (Some directive) =
    if nat_lt max_width (number digits) then Err (WidthTooLarge left) else Ok (made.Directive directive (flags_of marks (number digits)))

abbrev pub plain_or_directive : ℕ → List ℕ → List ℕ → Option Plain → Option Directive → Result Made FormatFault
plain_or_directive left marks digits (Some plain) directive = plain_at left (length marks + length digits) plain
plain_or_directive left marks digits None directive = directive_at left marks digits directive

-- what flags, a width and a letter are
abbrev pub made_by : ℕ → List ℕ → List ℕ → ℕ → Result Made FormatFault
made_by left marks digits letter = plain_or_directive left marks digits (plain_lettered letter) (directive_lettered letter)

-- a directive that the end cuts off is unknown
abbrev pub made_if : ℕ → List ℕ → List ℕ → Option ℕ → Result Made FormatFault
made_if left marks digits None = Err (UnknownDirective left)
made_if left marks digits (Some letter) = made_by left marks digits letter

-- what stands after a percent sign
unfoldable pub made_at : List ℕ → Result Made FormatFault
made_at text =
    made_if (length text + 1) (take (marks_len text) text) (take (digits_len text) (after_marks text)) (slice_get (after_digits text) 0)

-- a piece and what is left
abbrev pub begun : List ℕ → Result Made FormatFault → Result (Piece × List ℕ) FormatFault
begun text (Ok m) = Ok (Begun m, drop (letter_place text + 1) text)
begun text (Err e) = Err e

abbrev pub text_piece : List ℕ → Piece × List ℕ
text_piece text = (Text (take (text_len text) text), drop (text_len text) text)

-- the first piece of a format, and what is left
unfoldable pub next_piece : List ℕ → Result (Piece × List ℕ) FormatFault
next_piece [] = Ok (Text [], [])
next_piece (c ∷ text) = if is_percent c then begun text (made_at text) else Ok (text_piece (c ∷ text))

-- what the code answers
abbrev pub next_view : Result (Slice × Bor (List ℕ)) FormatFault → Result (Piece × List ℕ) FormatFault
next_view read = result_map_both (λ found. (piece_of found.0, found.1.now)) (λ e. e) read

-- a piece before others
abbrev pub piece_before : Piece → Result (List Piece) FormatFault → Result (List Piece) FormatFault
piece_before piece (Ok more) = Ok (piece ∷ more)
piece_before piece (Err e) = Err e

-- so many pieces at most
abbrev pub then_pieces : (List ℕ → Result (List Piece) FormatFault) → Result (Piece × List ℕ) FormatFault → Result (List Piece) FormatFault
then_pieces more (Ok found) = piece_before found.0 (more found.1)
then_pieces more (Err e) = Err e

unfoldable pub pieces_in : ℕ → List ℕ → Result (List Piece) FormatFault
pieces_in n [] = Ok []
pieces_in zero (c ∷ text) = Ok []
pieces_in (suc n) (c ∷ text) = then_pieces (pieces_in n) (next_piece (c ∷ text))

-- the pieces of a format, which has no more of them than bytes; or the first fault, by how many bytes are left there
unfoldable pub pieces : List ℕ → Result (List Piece) FormatFault
pieces text = pieces_in (length text) text

-- the pieces of a format without fault
abbrev pub pieces_or_none : List ℕ → List Piece
pieces_or_none text = result_unwrap_or (pieces text) []

-- a format without fault
abbrev pub is_format : List ℕ → Bool
is_format text = is_ok (pieces text)

-- a fault by its place in a format
abbrev pub placed : ℕ → FormatFault → FormatFault
placed len (FlagRefused left) = FlagRefused (len - left)
placed len (UnknownDirective left) = UnknownDirective (len - left)
placed len (WidthTooLarge left) = WidthTooLarge (len - left)

-- the first fault of a format
abbrev pub format_fault : List ℕ → Option FormatFault
format_fault text = option_map (placed (length text)) (result_err (pieces text))

-- a format, or a fault of it
abbrev pub checked_by : List ℕ → Option FormatFault → Result (List ℕ) FormatFault
checked_by text (Some fault) = Err fault
checked_by text None = Ok text

-- a format as it is checked: itself, or its first fault by its place
unfoldable pub checked : List ℕ → Result (List ℕ) FormatFault
checked text = checked_by text (format_fault text)
