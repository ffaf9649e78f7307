-- The parts of an identity line, as Git shows them.
use Rattle.std.specs.Prelude.{ℕ, ◌+◌, ◌-◌, Bool, ◌&&◌, if◌then◌else◌, List, length, take, drop, take_while, Option, Some, None, option_map}
use Rattle.std.specs.Char.{is_ascii_digit}
use Rattle.std.specs.List.{list_any, prefix_len, position_or_len, before_first, after_first, after_last}
use Rattle.gix_signature.specs.Ident.Bytes.{is_opening, is_closing, is_blank, is_sign}
use Rattle.gix_signature.specs.Ident.Texts.{whole_line, without_front, without_end, begins_with}
use Rattle.gix_signature.specs.declared.ident.DateParts.{DateParts}
use Rattle.gix_signature.specs.declared.ident.IdentPlaces.{IdentPlaces}
use Rattle.gix_signature.specs.declared.ident.IdentRef.{IdentRef}

-- the texts of a date: its digits, and the sign and digits of its offset
pub record DateText : Type 0 where
  pub seconds : List ℕ
  pub offset : List ℕ

-- the texts of an identity; `None` where Git shows no date
pub record IdentText : Type 0 where
  pub name : List ℕ
  pub email : List ℕ
  pub date : Option DateText

-- the texts of the slices of a date
abbrev pub date_text_of : DateParts → DateText
date_text_of d = record { seconds = d.seconds.now; offset = d.offset.now }

-- the texts of the slices of an identity
abbrev pub ident_text_of : IdentRef → IdentText
ident_text_of i = record { name = i.name.now; email = i.email.now; date = option_map date_text_of i.date }

-- the line has a `<`, and a `>` after it
abbrev pub has_identity : List ℕ → Bool
has_identity line = list_any is_opening line && list_any is_closing (after_first is_opening line)

-- what stands before the first `<`, without the blanks at its end
abbrev pub shown_name : List ℕ → List ℕ
shown_name line = without_end is_blank (before_first is_opening line)

-- what stands between the first `<` and the next `>`
abbrev pub shown_email : List ℕ → List ℕ
shown_email line = before_first is_closing (after_first is_opening line)

-- what stands after the last `>` and blanks
abbrev pub date_text : List ℕ → List ℕ
date_text line = without_front is_blank (after_last is_closing line)

-- what stands after digits and blanks
abbrev pub after_seconds : List ℕ → List ℕ
after_seconds text = without_front is_blank (without_front is_ascii_digit text)

-- a sign, and a digit directly after it
abbrev pub begins_with_offset : List ℕ → Bool
begins_with_offset text = begins_with is_sign text && begins_with is_ascii_digit (drop 1 text)

-- the first byte, and the digits after it
abbrev pub offset_at_front : List ℕ → List ℕ
offset_at_front text = take (1 + prefix_len is_ascii_digit (drop 1 text)) text

-- The date at the front of a text: digits, blanks or none, and a sign with digits directly after it. What follows is free.
unfoldable pub date_parts : List ℕ → Option DateText
date_parts text =
    if begins_with is_ascii_digit text && begins_with_offset (after_seconds text)
    then Some (record { seconds = take_while is_ascii_digit text; offset = offset_at_front (after_seconds text) }) else None

-- the parts of a whole line
unfoldable pub line_parts : List ℕ → Option IdentText
line_parts line =
    if has_identity line
    then Some (record { name = shown_name line; email = shown_email line; date = date_parts (date_text line) }) else None

-- what Git shows of the line at the front of a text; `None` where it has no identity
abbrev pub ident_parts : List ℕ → Option IdentText
ident_parts text = line_parts (whole_line text)

-- what stands after the email and its `>`
abbrev pub after_shown_email : List ℕ → List ℕ
after_shown_email line = after_first is_closing (after_first is_opening line)

-- where the parts of a whole line stand: how many bytes of the line stand before each, and how long the line is
abbrev pub line_places : List ℕ → IdentPlaces
line_places line =
    record {
      email = position_or_len is_opening line + 1;
      rest = length line - length (after_shown_email line);
      seconds = length line - length (date_text line);
      offset = length line - length (after_seconds (date_text line));
      end = length line;
    }

-- where the parts stand that Git shows of the line at the front of a text
abbrev pub ident_places : List ℕ → IdentPlaces
ident_places text = line_places (whole_line text)
