-- What programs say and print, and how they end.
use Rattle.std.specs.Prelude.{◌≡◌, ◌⊎◌, ℕ, Bool, true, false, List, [], ◌∷◌, ◌++◌, if◌then◌else◌, Option, None, Some, IsSome, Result, Ok}
use Rattle.std.specs.Prelude.{Err, codes}
use Rattle.std.specs.declared.io.ErrorKind.TheVariants as causes
use Rattle.gix_date.specs.Text.Characters.{newline}
use Rattle.gix_date.specs.Devices.StreamState.{Takes, TakesProperPrefix}
use Rattle.streams.specs.declared.error.ToolError.{ToolError}
use Rattle.streams.specs.declared.error.ToolError.TheVariants as errors
use Rattle.streams.specs.declared.program.Status.{Status}
use Rattle.streams.specs.declared.program.Status.TheVariants.{Success, Failure, Usage}
use Rattle.streams.specs.Changes.{Change}
use Rattle.streams.specs.Kinds.{kind_words}

-- what has failed, and after too many lines how to go on
abbrev pub fault_words : ToolError → List ℕ
fault_words (errors.Read kind) = codes "reading failed: "
fault_words (errors.Write kind) = codes "writing failed: "
fault_words errors.Memory = codes "out of memory"
fault_words errors.LineTooLong = codes "a line has more than 65536 bytes"
fault_words errors.TooManyLines = codes "there are more than 1000000 lines; `split -l 1000000 --filter` runs a program on so many at a time"

-- what the fault of a reader or writer is called, and nothing of another
abbrev pub cause_words : ToolError → List ℕ
cause_words (errors.Read kind) = kind_words kind
cause_words (errors.Write kind) = kind_words kind
cause_words _ = []

-- the writer is a pipe that nothing reads any more
abbrev pub is_closed_pipe : ToolError → Bool
is_closed_pipe (errors.Write causes.BrokenPipe) = true
is_closed_pipe _ = false

-- one line, after the program's name
abbrev pub message : List ℕ → List ℕ → List ℕ
message program words = program ++ (codes ": " ++ (words ++ newline ∷ []))

-- what is said of a fault, unless it is such a pipe
abbrev pub fault_message : List ℕ → ToolError → Option (List ℕ)
fault_message program fault = if is_closed_pipe fault then None else Some (message program (fault_words fault ++ cause_words fault))

-- The text was taken, or the sink has a fault and a proper prefix of it was.
abbrev pub WritesMessage : Change → List ℕ → Type 0
WritesMessage telling text =
    Takes telling.old telling.new text
    ⊎ (TakesProperPrefix telling.old telling.new text × IsSome telling.new.fault)

-- The message was said, if there is one, and else nothing.
abbrev pub Reports : Change → Option (List ℕ) → Type 0
Reports telling None = telling.new ≡ telling.old
Reports telling (Some text) = WritesMessage telling text

-- a text was written, or the writer has a fault and a proper prefix of it was
abbrev pub Prints : List ℕ → Change → Result (Unit {0}) ToolError → Type 0
Prints text writing (Ok _) = Takes writing.old writing.new text
Prints text writing (Err (errors.Write kind)) = TakesProperPrefix writing.old writing.new text × (writing.new.fault ≡ Some kind)
Prints text writing (Err _) = ⊥

-- the exit status of the process
abbrev pub code_of : Status → ℕ
code_of Success = 0
code_of Failure = 1
code_of Usage = 2
