-- What a call does of a block of lines.
use Rattle.std.specs.Prelude.{◌≡◌, ◌⊎◌, ◌≤◌, ℕ, Bool, List, [], length, Result}
use Rattle.std.specs.List.{AllZip}
use Rattle.gix_date.specs.Header.Canonical.{is_canonical_header}
use Rattle.streams.specs.Lines.{IsCutAfter, Part, with_last_line}
use Rattle.gix_date_c.specs.Git.Dates.{bool_for_c}
use Rattle.gix_date_c.specs.Lines.Columns.{Columns, changed, columns_after, room_of}
use Rattle.gix_date_c.specs.declared.values.status.Status.{Status}
use Rattle.gix_date_c.specs.declared.values.time.CTime.{CTime}

-- The first lines of a block, and how many bytes these have with their newlines. They are all lines, the last perhaps without a newline, or
-- as many as there is room for.
pub record AreFirstLines (block : List ℕ) (room : ℕ) (lines : List (List ℕ)) (bytes : ℕ) : Type 0 where
  pub part : Part block
  pub lines_are : lines ≡ with_last_line part
  pub bytes_are : bytes ≡ length part.front
  pub within : length lines ≤ room
  pub until : (part.beyond ≡ []) ⊎ ((part.rest ≡ []) × (length lines ≡ room))

-- A call has read the first lines of a block, each line with an answer of which this is known. It tells how many lines and how many bytes
-- these are.
pub record DoesLines (Reads : List ℕ → Result CTime Status → Type 0) (block : List ℕ) (old new : Columns) (done : ℕ × ℕ) : Type 0 where
  pub lines : List (List ℕ)
  pub answers : List (Result CTime Status)
  pub first : AreFirstLines block (room_of old) lines done.1
  pub each : AllZip Reads lines answers
  pub stored : new ≡ columns_after answers old
  pub counted : done.0 ≡ length lines

-- the first line of an input has this answer, of which this is known, and these bytes stand after it
pub record IsFirstRead (Reads : List ℕ → Result CTime Status → Type 0) (input : List ℕ) (answer : Result CTime Status) (after : List ℕ)
    : Type 0 where
  pub line : List ℕ
  pub cut : IsCutAfter input (line, after)
  pub reads : Reads line answer

-- the first line of an input is a canonical header, or is none, and these bytes stand after it
pub record IsChecked (input : List ℕ) (comes_back : Bool) (after : List ℕ) : Type 0 where
  pub line : List ℕ
  pub cut : IsCutAfter input (line, after)
  pub is : comes_back ≡ is_canonical_header line

-- A call has told of the first lines of a block whether each is a canonical header.
pub record ChecksLines (block old new : List ℕ) (done : ℕ × ℕ) : Type 0 where
  pub lines : List (List ℕ)
  pub first : AreFirstLines block (length old) lines done.1
  pub stored : new ≡ changed (λ line cell. bool_for_c (is_canonical_header line)) lines old
  pub counted : done.0 ≡ length lines
