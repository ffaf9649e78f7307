-- The arrays of the caller's that the answers for lines go into.
use Rattle.std.specs.Prelude.{ℕ, ℤ, List, [], ◌∷◌, length, min, slice_set, Result, Ok, Err}
use Rattle.gix_date_c.specs.Values.Statuses.{number_of}
use Rattle.gix_date_c.specs.declared.values.status.Status.{Status}
use Rattle.gix_date_c.specs.declared.values.status.Status.TheVariants.{Done}
use Rattle.gix_date_c.specs.declared.values.time.CTime.{CTime}

-- three arrays, with a cell of each for a line
pub record Columns : Type 0 where
  pub seconds : List ℤ
  pub offsets : List ℤ
  pub statuses : List ℕ

-- how many lines have a cell in each
abbrev pub room_of : Columns → ℕ
room_of columns = min (length columns.seconds) (min (length columns.offsets) (length columns.statuses))

-- Each of these values changes a cell, from the first cell on. The others are as they were.
abbrev pub changed : {A B : Type 0} → (B → A → A) → List B → List A → List A
changed change [] cells = cells
changed change (value ∷ values) [] = []
changed change (value ∷ values) (cell ∷ cells) = change value cell ∷ changed change values cells

-- the seconds that an answer leaves: those of its time, or what was there
abbrev pub seconds_after : Result CTime Status → ℤ → ℤ
seconds_after (Ok time) old = time.seconds
seconds_after (Err refusal) old = old

-- so the offset
abbrev pub offset_after : Result CTime Status → ℤ → ℤ
offset_after (Ok time) old = time.offset
offset_after (Err refusal) old = old

-- the number of the status, whatever was there
abbrev pub status_after : {T : Type 0} → Result T Status → ℕ → ℕ
status_after (Ok value) old = number_of Done
status_after (Err refusal) old = number_of refusal

-- the arrays with these answers, from the first cell on
abbrev pub columns_after : List (Result CTime Status) → Columns → Columns
columns_after answers old =
    record {
      seconds = changed seconds_after answers old.seconds;
      offsets = changed offset_after answers old.offsets;
      statuses = changed status_after answers old.statuses;
    }

-- the arrays with one answer more, in the cell of this index
abbrev pub with_answer : ℕ → Result CTime Status → Columns → Columns
with_answer at (Ok time) old =
    record {
      seconds = slice_set old.seconds at time.seconds;
      offsets = slice_set old.offsets at time.offset;
      statuses = slice_set old.statuses at (number_of Done);
    }
with_answer at (Err refusal) old = record old { statuses = slice_set old.statuses at (number_of refusal) }
