-- What a call tells of the identity lines of a block.
use Rattle.std.specs.Prelude.{◌≡◌, ◌<◌, ℕ, ◌+◌, ◌^◌, ◌==◌, if◌then◌else◌, min, ℤ, List, [], ◌∷◌, length, slice_set, Result, Ok, Err}
use Rattle.std.specs.Result.{result_unwrap_or}
use Rattle.gix_signature.specs.Ident.Fsck.{fsck_of}
use Rattle.streams.specs.Lines.{with_newline}
use Rattle.gix_date_c.specs.Idents.{fsck_number, ident_answer}
use Rattle.gix_date_c.specs.Lines.Blocks.{AreFirstLines}
use Rattle.gix_date_c.specs.Lines.Columns.{changed, status_after}
use Rattle.gix_date_c.specs.Values.Statuses.{number_of}
use Rattle.gix_date_c.specs.declared.ident.CIdent.{CIdent}
use Rattle.gix_date_c.specs.declared.signature.CSpan.{CSpan}
use Rattle.gix_date_c.specs.declared.values.status.Status.{Status}
use Rattle.gix_date_c.specs.declared.values.status.Status.TheVariants.{Done}

-- five arrays, with a cell of each for a line; one of no cells is left out
pub record IdentColumns : Type 0 where
  pub parts : List CIdent
  pub seconds : List ℤ
  pub offsets : List ℤ
  pub messages : List ℕ
  pub statuses : List ℕ

-- the lesser of two numbers of cells, but the other one where one array is left out
abbrev pub lesser_room : ℕ → ℕ → ℕ
lesser_room a b = if a == 0 then b else if b == 0 then a else min a b

-- how many lines have a cell in each array that is not left out
abbrev pub ident_room : IdentColumns → ℕ
ident_room columns =
    lesser_room (length columns.parts) (lesser_room (length columns.seconds)
    (lesser_room (length columns.offsets) (lesser_room (length columns.messages) (length columns.statuses))))

-- lines, each with its newline, and how many bytes stand before each, where so many stand before the first
abbrev pub placed_lines : ℕ → List (List ℕ) → List (ℕ × List ℕ)
placed_lines before [] = []
placed_lines before (line ∷ lines) = (before, line) ∷ placed_lines (before + length (with_newline line)) lines

-- a part of a line, with its place in a block where so many bytes stand before the line
abbrev pub span_in_block : ℕ → CSpan → CSpan
span_in_block before span = record { start = before + span.start; len = span.len }

-- the parts of a line, with their places in the block
abbrev pub parts_in_block : ℕ → CIdent → CIdent
parts_in_block before parts =
    record parts {
      name = span_in_block before parts.name;
      email = span_in_block before parts.email;
      rest = span_in_block before parts.rest;
      seconds = span_in_block before parts.seconds;
      offset = span_in_block before parts.offset;
    }

-- 64 bits hold these places
pub record FitsInBlock (before : ℕ) (parts : CIdent) : Type 0 where
  pub name : before + parts.name.start < 2 ^ 64
  pub email : before + parts.email.start < 2 ^ 64
  pub rest : before + parts.rest.start < 2 ^ 64
  pub seconds : before + parts.seconds.start < 2 ^ 64
  pub offset : before + parts.offset.start < 2 ^ 64

-- an answer with such parts
abbrev pub answer_in_block : ℕ → Result CIdent Status → Result CIdent Status
answer_in_block before (Ok parts) = Ok (parts_in_block before parts)
answer_in_block before (Err refusal) = Err refusal

-- what Git shows of a line that stands so in a block
abbrev pub ident_in_block : ℕ × List ℕ → Result CIdent Status
ident_in_block line = answer_in_block line.0 (ident_answer line.1)

-- the seconds that an answer leaves: those that Git shows of a date, or what was there
abbrev pub shown_seconds_after : Result CIdent Status → ℤ → ℤ
shown_seconds_after (Ok parts) old = if parts.has_date == 0 then old else parts.shown.seconds
shown_seconds_after (Err refusal) old = old

-- so the offset, as one decimal number
abbrev pub shown_offset_after : Result CIdent Status → ℤ → ℤ
shown_offset_after (Ok parts) old = if parts.has_date == 0 then old else parts.shown.offset
shown_offset_after (Err refusal) old = old

-- the arrays after these lines, from the first cell on: what Git shows of each, and what `git fsck` says of it
abbrev pub idents_after : List (ℕ × List ℕ) → IdentColumns → IdentColumns
idents_after lines old =
    record {
      parts = changed (λ line cell. result_unwrap_or (ident_in_block line) cell) lines old.parts;
      seconds = changed (λ line. shown_seconds_after (ident_in_block line)) lines old.seconds;
      offsets = changed (λ line. shown_offset_after (ident_in_block line)) lines old.offsets;
      messages = changed (λ line cell. fsck_number (fsck_of line.1)) lines old.messages;
      statuses = changed (λ line. status_after (ident_in_block line)) lines old.statuses;
    }

-- the arrays with an answer and the number of a message more, in the cells of this index
abbrev pub with_ident : ℕ → Result CIdent Status → ℕ → IdentColumns → IdentColumns
with_ident at (Ok parts) message old =
    record {
      parts = slice_set old.parts at parts;
      seconds = if parts.has_date == 0 then old.seconds else slice_set old.seconds at parts.shown.seconds;
      offsets = if parts.has_date == 0 then old.offsets else slice_set old.offsets at parts.shown.offset;
      messages = slice_set old.messages at message;
      statuses = slice_set old.statuses at (number_of Done);
    }
with_ident at (Err refusal) message old =
    record old { messages = slice_set old.messages at message; statuses = slice_set old.statuses at (number_of refusal) }

-- A call has told of the first lines of a block what Git shows of each and what `git fsck` says of it, in those arrays that are not left
-- out. It tells how many lines and how many bytes these are.
pub record TellsIdents (block : List ℕ) (old new : IdentColumns) (done : ℕ × ℕ) : Type 0 where
  pub lines : List (List ℕ)
  pub first : AreFirstLines block (ident_room old) lines done.1
  pub stored : new ≡ idents_after (placed_lines 0 lines) old
  pub counted : done.0 ≡ length lines
