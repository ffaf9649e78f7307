-- How the time of a commit header is read.
use Rattle.std.specs.Prelude.{◌≡◌, ◌≢◌, ℕ, ◌<◌, List, ℤ, pos, if◌then◌else◌, Option, Some, None, Result, ok_or, take_while, ◌∷◌, ◌++◌, All}
use Rattle.std.specs.Option.{option_or, option_map_or}
use Rattle.std.specs.Char.{is_ascii_digit}
use Rattle.std.specs.Str.{IsAscii}
use Rattle.gix_date.specs.Text.Characters.{has_colon, newline, space}
use Rattle.gix_date.specs.Text.Front.{◌>>=◌}
use Rattle.gix_date.specs.Text.Numbers.{IsPairAt, int_value}
use Rattle.gix_date.specs.Fields.Offsets.{offset_fields, offset_of}
use Rattle.gix_date.specs.Text.SpaceWords.{space_words, first_words}
use Rattle.gix_date.specs.declared.error.Error.{Error}
use Rattle.gix_date.specs.declared.error.Error.TheVariants.{InvalidTime}
use Rattle.gix_date.specs.declared.time.Time.{Time}
use Rattle.gix_date.specs.declared.parsing.offset.OffsetFields.{OffsetFields}

-- what the first word says: its value as an int text, else that of the digits it begins with
unfoldable pub header_seconds : List ℕ → Option ℤ
header_seconds word = option_or (int_value word) (int_value (take_while is_ascii_digit word))

-- what the second word says: the offset of its fields, with no limit on any, and any other word is 0
unfoldable pub header_offset : List ℕ → ℤ
header_offset word = option_map_or offset_of (offset_fields word) (pos 0)

-- The time that the words say. The second has a say only where the two are all.
unfoldable pub time_of_words : List (List ℕ) → Option Time
time_of_words words = do
  first ← first_words words
  seconds ← header_seconds first.0
  Some (record { seconds = seconds; offset = option_map_or header_offset first.1 (pos 0) })

-- the time that a header says; `None` if there is a colon, or no word, or if the first word says no seconds
unfoldable pub header_time : List ℕ → Option Time
header_time text = if has_colon text then None else time_of_words (space_words text)

-- the header's time, or `InvalidTime` if there is none
abbrev pub ReadsHeader : List ℕ → Result Time Error → Type 0
ReadsHeader text result = result ≡ ok_or (header_time text) InvalidTime

-- a number, one space and the fields of an offset, as nearly all headers are
pub record IsUsualHeader (text : List ℕ) (seconds : ℤ) (fields : OffsetFields) : Type 0 where
  pub front : List ℕ
  pub zone : List ℕ
  pub whole : text ≡ front ++ space ∷ zone
  pub is_seconds : int_value front ≡ Some seconds
  pub are_fields : offset_fields zone ≡ Some fields

-- a line of ASCII that is a header of this time
pub record IsHeaderLine (text : List ℕ) (time : Time) : Type 0 where
  pub says : header_time text ≡ Some time
  pub is_ascii : IsAscii text
  pub is_line : All (λ b. b ≢ newline) text

-- each of eight pairs of bytes but the sixth is two digits, of this number
unfoldable pub ArePairsButSixth : List ℕ → List ℕ → Type 0
ArePairsButSixth text numbers = (k : ℕ) → k < 8 → k ≢ 5 → IsPairAt text numbers k
