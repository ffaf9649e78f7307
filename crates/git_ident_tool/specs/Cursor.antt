-- The bytes of a source, line by line, or skipped.
use Rattle.std.specs.Prelude.{◌≡◌, ◌<◌, ◌≤◌, ℕ, ◌-◌, Bool, true, false, List, [], ◌++◌, take, drop, length, Some, None, Result, Ok, Err}
use Rattle.std.specs.Io.KnownBytes.{Keeps, prepend_known}
use Rattle.std.specs.declared.io.ErrorKind.{ErrorKind}
use Rattle.gix_date.specs.Devices.StreamState.{StreamState, Gives, HasEnded}
use Rattle.streams.specs.Lines.{IsLine, with_newline}
use Rattle.streams.specs.declared.error.ToolError.{ToolError}
use Rattle.streams.specs.declared.error.ToolError.TheVariants as errors
use Rattle.git_ident_tool.specs.declared.stream.Cursor.{Cursor}
use Rattle.git_ident_tool.specs.declared.stream.LineEnd.{LineEnd}
use Rattle.git_ident_tool.specs.declared.stream.LineEnd.TheVariants.{Newline, Full, Input}

-- what was read and is not taken yet
abbrev pub unread : Cursor → List ℕ
unread cursor = take (cursor.to - cursor.from) (drop cursor.from cursor.bytes)

-- what is left of an input: what is not taken yet, and then what the source has left
abbrev pub input : Cursor → StreamState → StreamState
input cursor source = record { bytes = prepend_known (unread cursor) source.bytes; fault = source.fault }

-- the input has ended without a fault
abbrev pub IsOver : StreamState → Type 0
IsOver input = HasEnded input × (input.fault ≡ None)

-- how the next line ends, of which at most so many bytes were asked for: otherwise these are its front
abbrev pub LineEnds : ℕ → StreamState → StreamState → List ℕ → Result LineEnd ToolError → Type 0
LineEnds most old new line (Ok Newline) = Gives old new (with_newline line) × (length line < most)
LineEnds most old new line (Ok Full) = Gives old new line × (length line ≡ most)
LineEnds most old new line (Ok Input) = Gives old new line × (length line < most) × IsOver new
LineEnds most old new line (Err (errors.Read kind)) = Gives old new line × (length line < most) × (new.fault ≡ Some kind)
LineEnds most old new line (Err errors.Memory) = Gives old new line × (length line ≤ most) × (0 < most → length line < most)
LineEnds most old new line (Err _) = ⊥

-- what taking the next line comes to
pub record ReadsLine (most : ℕ) (old new : StreamState) (line : List ℕ) (result : Result LineEnd ToolError) : Type 0 where
  pub is_line : IsLine line
  pub ends : LineEnds most old new line result

-- how skipping so many bytes ends, of which these were taken
abbrev pub SkipEnds : ℕ → StreamState → List ℕ → Result Bool ErrorKind → Type 0
SkipEnds count new bytes (Ok true) = length bytes ≡ count
SkipEnds count new bytes (Ok false) = (length bytes < count) × IsOver new
SkipEnds count new bytes (Err kind) = (length bytes < count) × (new.fault ≡ Some kind)

-- what skipping so many bytes comes to
pub record Skips (count : ℕ) (old new : StreamState) (result : Result Bool ErrorKind) : Type 0 where
  pub bytes : List ℕ
  pub given : Gives old new bytes
  pub ends : SkipEnds count new bytes result

-- what is not taken yet, and the line that grows
pub record Stretch : Type 0 where
  pub unread : List ℕ
  pub line : List ℕ

-- a cursor that has this unread, and this line
abbrev pub stretch : List ℕ → List ℕ → Stretch
stretch unread line = record { unread = unread; line = line }

-- the line grows by this part, and its newline is taken too
pub record TakesEnd (most : ℕ) (old new : Stretch) : Type 0 where
  pub part : List ℕ
  pub is_line : IsLine part
  pub cut : old.unread ≡ with_newline part ++ new.unread
  pub longer : new.line ≡ old.line ++ part
  pub fits : length part < most

-- the line grows by this part, after which no more bytes are asked for, or none is left
pub record TakesFront (most : ℕ) (old new : Stretch) : Type 0 where
  pub part : List ℕ
  pub is_line : IsLine part
  pub cut : old.unread ≡ part ++ new.unread
  pub longer : new.line ≡ old.line ++ part
  pub fits : length part ≤ most
  pub all : length part < most → new.unread ≡ []

-- what taking a part of the next line comes to; without memory nothing is taken
abbrev pub TakesPart : ℕ → Stretch → Stretch → Result Bool ToolError → Type 0
TakesPart most old new (Ok true) = TakesEnd most old new
TakesPart most old new (Ok false) = TakesFront most old new
TakesPart most old new (Err errors.Memory) = new ≡ old
TakesPart most old new (Err _) = ⊥

-- how reading more ends, where all was taken
abbrev pub RefillEnds : List ℕ → StreamState → Result Bool ErrorKind → Type 0
RefillEnds unread new (Ok true) = 0 < length unread
RefillEnds unread new (Ok false) = IsOver new
RefillEnds unread new (Err kind) = new.fault ≡ Some kind

-- reading more changes nothing of what is left
pub record Refills (unread : List ℕ) (old new : StreamState) (result : Result Bool ErrorKind) : Type 0 where
  pub kept : Keeps old.bytes new.bytes
  pub ends : RefillEnds unread new result
