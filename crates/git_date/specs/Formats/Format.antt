-- What a format shows of a time.
use Rattle.std.specs.Prelude.{◌≡◌, ℕ, List, [], ◌∷◌, ◌++◌, Bool, true, false, ◌&&◌, is_none, if◌then◌else◌, ℤ, Option, Some, None, IsSome}
use Rattle.std.specs.Prelude.{IsSomeAnd, Result, Ok, Err}
use Rattle.std.specs.List.{list_any}
use Rattle.jiff.specs.Types.{TimeZone}
use Rattle.gix_date.specs.Devices.StreamState.{StreamState, Takes, TakesProperPrefix, TakesNothing}
use Rattle.gix_date.specs.Fields.Offsets.{compact_offset_text}
use Rattle.gix_date.specs.Text.Front.{◌>>=◌}
use Rattle.gix_date.specs.Text.Numbers.{decimal_text}
use Rattle.gix_date.specs.declared.time.Time.{Time}
use Rattle.git_date.specs.declared.format.checked.DateFormat.{DateFormat}
use Rattle.git_date.specs.declared.format.error.ShowError.{ShowError}
use Rattle.git_date.specs.declared.format.error.ShowError.TheVariants.{Range, Memory, Write}
use Rattle.git_date.specs.declared.format.directives.Plain.{Plain}
use Rattle.git_date.specs.declared.format.directives.Plain.TheVariants.{Percent, Seconds, Offset, Abbreviation}
use Rattle.git_date.specs.declared.format.pieces.Made.TheVariants as made
use Rattle.git_date.specs.declared.format.chunks.Chunk.{Chunk}
use Rattle.git_date.specs.declared.format.chunks.Chunk.TheVariants as chunk
use Rattle.git_date.specs.Formats.Pieces.{Piece, Text, Begun, percent, pieces_or_none}
use Rattle.git_date.specs.Formats.Shown.{Shown, shown_at}
use Rattle.git_date.specs.Formats.Texts.{directive_text}

-- the bytes of a checked format
abbrev pub format_bytes : DateFormat → List ℕ
format_bytes format = format.text.now

abbrev pub seconds_text : Option ℤ → List ℕ
seconds_text None = []
seconds_text (Some seconds) = decimal_text seconds

-- what is shown by a letter that takes no flags
abbrev pub plain_text : Shown → Plain → List ℕ
plain_text shown Percent = percent ∷ []
plain_text shown Seconds = seconds_text shown.seconds
plain_text shown Offset = compact_offset_text shown.clock.offset
plain_text shown Abbreviation = shown.abbreviation

-- what is shown by a piece
abbrev pub piece_text : Shown → Piece → List ℕ
piece_text shown (Text text) = text
piece_text shown (Begun (made.Plain plain)) = plain_text shown plain
piece_text shown (Begun (made.Directive directive flags)) = directive_text directive flags shown.clock

-- one after the other
abbrev pub pieces_text : Shown → List Piece → List ℕ
pieces_text shown [] = []
pieces_text shown (piece ∷ more) = piece_text shown piece ++ pieces_text shown more

-- a part of the text, lent or made
abbrev pub chunk_text : Chunk → List ℕ
chunk_text (chunk.Lent text) = text.now
chunk_text (chunk.Made part) = part.bytes

-- the seconds that Git writes
abbrev pub is_seconds : Piece → Bool
is_seconds (Begun (made.Plain Seconds)) = true
is_seconds _ = false

abbrev pub asks_seconds : List Piece → Bool
asks_seconds pieces = list_any is_seconds pieces

-- the texts of the pieces, if Git knows the seconds that they ask for
abbrev pub shown_pieces : List Piece → Shown → Option (List ℕ)
shown_pieces pieces shown = if is_none shown.seconds && asks_seconds pieces then None else Some (pieces_text shown pieces)

-- What a format without fault shows of a time: by the zone's clock, or by the time's own. `None` where that clock shows nothing, and
-- where the seconds are asked of a year that Git does not know.
unfoldable pub shown_by_format : TimeZone → Bool → List ℕ → Time → Option (List ℕ)
shown_by_format zone local format t = shown_at zone local t >>= shown_pieces (pieces_or_none format)

-- The result of writing it: the sink took all of it, or a proper prefix and has that fault. Without a text it took no byte.
abbrev pub WritesShown : Option (List ℕ) → StreamState → StreamState → Result Unit ShowError → Type 0
WritesShown text old new (Ok _) = IsSomeAnd text (Takes old new)
WritesShown text old new (Err Range) = (text ≡ None) × TakesNothing old new
WritesShown text old new (Err (Write kind)) = IsSomeAnd text (TakesProperPrefix old new) × (new.fault ≡ Some kind)
WritesShown text old new (Err Memory) = ⊥

-- the refusal of a text in memory
abbrev pub RefusesText : Option (List ℕ) → ShowError → Type 0
RefusesText text Range = text ≡ None
RefusesText text Memory = IsSome text
RefusesText text (Write kind) = ⊥
