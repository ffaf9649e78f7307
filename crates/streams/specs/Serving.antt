-- What serving the lines of an input comes to.
use Rattle.std.specs.Prelude.{◌≡◌, ◌⊎◌, Bool, true, false, ℕ, ◌+◌, ◌<◌, List, [], ◌∷◌, ◌++◌, length, All, Option, Some, None, Result, Ok}
use Rattle.std.specs.Prelude.{Err, OnOk}
use Rattle.std.specs.Borrow.{Bor}
use Rattle.std.specs.declared.io.ErrorKind.{ErrorKind}
use Rattle.gix_date.specs.Devices.StreamState.{StreamState, Gives, HasEnded}
use Rattle.streams.specs.declared.error.ToolError.{ToolError}
use Rattle.streams.specs.declared.error.ToolError.TheVariants as errors
use Rattle.streams.specs.declared.lines.TheConstants.{MAX_LINE_LEN}
use Rattle.streams.specs.declared.serving.Stop.{Stop}
use Rattle.streams.specs.declared.serving.Stop.TheVariants.{Reading, Serving}
use Rattle.streams.specs.Changes.{Change}
use Rattle.streams.specs.Lines.{IsLine, Part, with_newline, with_last_line, LineGoesOn, IsShort, IsWithinLimits}

-- a server, and what is known of the sink that it writes to and of the one for messages
pub record Service (S : Type 0) : Type 0 where
  pub server : S
  pub out : StreamState
  pub told : StreamState

-- a server between these sinks
abbrev pub service : {S : Type 0} → S → StreamState → StreamState → Service S
service server out told = record { server = server; out = out; told = told }

-- what a call of a server answers
abbrev pub Answer : Type 0
Answer = Result (Unit {0}) ToolError

-- what a server's calls say of lines: that these were served, from one service to another
abbrev pub ServesLines : Type 0 → Type 1
ServesLines S = Service S → Service S → List (List ℕ) → Answer → Type 0

-- serving no lines changes nothing
abbrev pub Stays : {S : Type 0} → ServesLines S → Type 0
Stays {S} serves = (s : Service S) → serves s s [] (Ok tt)

-- lines that were served, and then more lines, are lines that were served
abbrev pub Joins : {S : Type 0} → ServesLines S → Type 0
Joins {S} serves =
    (a b c : Service S) (lines more : List (List ℕ)) (answer : Answer)
    → serves a b lines (Ok tt) → serves b c more answer → serves a c (lines ++ more) answer

-- a short line that bytes begin with, and its newline, and what stands after that
pub record Front (bytes after : List ℕ) : Type 0 where
  pub line : List ℕ
  pub whole : bytes ≡ with_newline line ++ after
  pub is_line : IsLine line
  pub is_short : IsShort line

-- what serving the first line of some bytes comes to, where it is known by them; else nothing was done
abbrev pub ServesFront : {S : Type 0} → ServesLines S → Service S → Service S → List ℕ → Result (Option (Bor (List ℕ))) ToolError → Type 0
ServesFront serves old new bytes (Ok None) = new ≡ old
ServesFront serves old new bytes (Ok (Some after)) = (front : Front bytes after.now) × serves old new (front.line ∷ []) (Ok tt)
ServesFront serves old new bytes (Err fault) = (after : List ℕ) × (front : Front bytes after) × serves old new (front.line ∷ []) (Err fault)

-- all lines that an input may have have ended, none was begun, and a byte stands after them
pub record GoesOn (most n : ℕ) (rest beyond : List ℕ) : Type 0 where
  pub all : n ≡ most
  pub none_begun : rest ≡ []
  pub more : 0 < length beyond

-- Where reading stops: after n lines, with a rest read of the next, and bytes beyond it. A line is too long where one byte more of it was
-- read than a line may have, and it is among the lines that an input may have. There are too many lines where a byte stands after the last
-- of these. Memory may run out only where a line goes on within the limits.
abbrev pub StopsAt : ℕ → ToolError → ℕ → List ℕ → List ℕ → Type 0
StopsAt most errors.LineTooLong n rest beyond = (n < most) × (length rest ≡ MAX_LINE_LEN + 1)
StopsAt most errors.TooManyLines n rest beyond = GoesOn most n rest beyond
StopsAt most errors.Memory n rest beyond = (n < most) × (length rest < MAX_LINE_LEN) × LineGoesOn beyond
StopsAt most (errors.Read kind) n rest beyond = ⊥
StopsAt most (errors.Write kind) n rest beyond = ⊥

-- what was read of an input, a part of it, and the lines that were due then
pub record Reached : Type 0 where
  pub input : List ℕ
  pub part : Part input
  pub due : List (List ℕ)

-- the part is the whole input of this reader, which has no byte left
pub record IsWhole (reader : StreamState) {input : List ℕ} (part : Part input) : Type 0 where
  pub at_end : HasEnded reader
  pub none_beyond : part.beyond ≡ []

-- the whole input was read with no fault, and no limit applies to its lines, which were counted
pub record Succeeded (most : ℕ) (reader : StreamState) (reached : Reached) (count : ℕ) : Type 0 where
  pub whole : IsWhole reader reached.part
  pub no_fault : reader.fault ≡ None
  pub all : reached.due ≡ with_last_line reached.part
  pub within : IsWithinLimits most reached.due
  pub count_is : count ≡ length reached.due

-- the reader refused, and no limit applies to what was read before
pub record Unread (most : ℕ) (reader : StreamState) (reached : Reached) (kind : ErrorKind) : Type 0 where
  pub fault : reader.fault ≡ Some kind
  pub none_beyond : reached.part.beyond ≡ []
  pub ended : reached.due ≡ reached.part.lines
  pub within : IsWithinLimits most (with_last_line reached.part)

-- a limit stops the run within a line
pub record Stopped (most : ℕ) (fault : ToolError) (reached : Reached) : Type 0 where
  pub ended : reached.due ≡ reached.part.lines
  pub short : All IsShort reached.due
  pub stops : StopsAt most fault (length reached.due) reached.part.rest reached.part.beyond

-- the server refused: due were the lines that had ended in some part, or at the end of the input all
abbrev pub Unserved : StreamState → Reached → Type 0
Unserved reader reached =
    (reached.due ≡ reached.part.lines) ⊎ (IsWhole reader reached.part × (reached.due ≡ with_last_line reached.part))

-- where a run ends that has read so far, and which lines are due then
abbrev pub EndsAt : ℕ → Result ℕ Stop → StreamState → Reached → Type 0
EndsAt most (Ok count) reader reached = Succeeded most reader reached count
EndsAt most (Err (Reading (errors.Read kind))) reader reached = Unread most reader reached kind
EndsAt most (Err (Reading fault)) reader reached = Stopped most fault reached
EndsAt most (Err (Serving fault)) reader reached = Unserved reader reached

-- what the server answered, by the end of a run
abbrev pub answer_of : {A : Type 0} → Result A Stop → Answer
answer_of (Ok _) = Ok tt
answer_of (Err (Reading fault)) = Ok tt
answer_of (Err (Serving fault)) = Err fault

-- the fault of an end
abbrev pub fault_of : Stop → ToolError
fault_of (Reading fault) = fault
fault_of (Serving fault) = fault

-- the server refused
abbrev pub is_refused : Result ℕ Stop → Bool
is_refused (Ok count) = false
is_refused (Err (Reading fault)) = false
is_refused (Err (Serving fault)) = true

-- Exactly the lines that are due were served, or a part of them if the server refused. Served says of lines that they were, by the
-- server's answer; once they all were, Settled holds.
pub record Ran (Served : List (List ℕ) → Answer → Type 0) (Settled : Type 0) (most : ℕ) (reading : Change) (ended : Result ℕ Stop) : Type 0
  where
    pub reached : Reached
    pub read : Gives reading.old reading.new reached.input
    pub ends : EndsAt most ended reading.new reached
    pub served : Served reached.due (answer_of ended)
    pub settled : OnOk (answer_of ended) Settled
