-- How far the lines of a reader were served between two reads.
use Rattle.std.specs.Prelude.{◌≡◌, ℕ, ◌+◌, ◌<◌, ◌≤◌, List, [], ◌++◌, length, All, Option, None, Some, Result, Ok, Err, OnOk}
use Rattle.std.specs.Borrow.{Bor}
use Rattle.streams.specs.declared.serving.Stop.{Stop}
use Rattle.streams.specs.declared.serving.Stop.TheVariants.{Reading, Serving}
use Rattle.streams.specs.declared.progress.Progress.{Progress}
use Rattle.streams.specs.Lines.{IsLine, Part, IsShort, last_line}
use Rattle.streams.specs.Serving.{Answer, Service, ServesLines, StopsAt, answer_of}

-- the most lines that may be, the line that stands open, and how many lines have ended
pub record Held : Type 0 where
  pub most : ℕ
  pub line : List ℕ
  pub ended : ℕ

abbrev pub held_of : Progress → Held
held_of progress = record { most = progress.most; line = progress.line.items; ended = progress.ended }

-- nothing was read
abbrev pub first_held : ℕ → Held
first_held most = record { most = most; line = []; ended = 0 }

-- that, and the service of the lines that have ended
pub record Stage (S : Type 0) : Type 0 where
  pub held : Held
  pub service : Service S

abbrev pub stage : {S : Type 0} → Held → Service S → Stage S
stage held service = record { held = held; service = service }

-- the open line has no newline and is short, and stands among the lines that an input may have
pub record IsReady (o : Held) : Type 0 where
  pub is_line : IsLine o.line
  pub is_short : IsShort o.line
  pub few : o.ended ≤ o.most
  pub none_after : o.ended ≡ o.most → o.line ≡ []

-- all bytes were taken in: what they leave of a line stands open
pub record TakesAll (o o' : Held) {bytes : List ℕ} (part : Part bytes) : Type 0 where
  pub none_beyond : part.beyond ≡ []
  pub same : o' ≡ record o { line = part.rest; ended = o.ended + length part.lines }
  pub ready : IsReady o'

-- where taking in bytes ends
abbrev pub TakesTo : Held → Held → {bytes : List ℕ} → Part bytes → Result (Unit {0}) Stop → Type 0
TakesTo o o' part (Ok _) = TakesAll o o' part
TakesTo o o' part (Err (Reading fault)) = StopsAt o.most fault (o.ended + length part.lines) part.rest part.beyond
TakesTo o o' part (Err (Serving fault)) = Unit {0}

-- what taking in bytes after the open line comes to
pub record Takes (o o' : Held) (bytes : List ℕ) (result : Result (Unit {0}) Stop) : Type 0 where
  pub part : Part (o.line ++ bytes)
  pub short : All IsShort part.lines
  pub to : TakesTo o o' part result

-- bytes were taken in that end no line
pub record Extends (o o' : Held) (bytes : List ℕ) (result : Result (Unit {0}) Stop) : Type 0 where
  pub takes : Takes o o' bytes result
  pub none : takes.part.lines ≡ []
  pub read : answer_of result ≡ Ok tt

-- bytes were taken in, and the lines were served that end in them
pub record TakesIn {S : Type 0} (serves : ServesLines S) (s s' : Stage S) (bytes : List ℕ) (result : Result (Unit {0}) Stop) : Type 0 where
  pub takes : Takes s.held s'.held bytes result
  pub served : serves s.service s'.service takes.part.lines (answer_of result)

-- a front of some bytes was taken in, and these bytes stand after it
pub record TakesFront {S : Type 0} (serves : ServesLines S) (s s' : Stage S) (bytes after : List ℕ) : Type 0 where
  pub front : List ℕ
  pub cut : bytes ≡ front ++ after
  pub some : 0 < length front
  pub took : TakesIn serves s s' front (Ok tt)

-- what taking in the first line of some bytes comes to, where they end a line
abbrev pub TakesLine : {S : Type 0} → ServesLines S → Stage S → Stage S → List ℕ → Result (Option (Bor (List ℕ))) Stop → Type 0
TakesLine serves s s' bytes (Ok None) = IsLine bytes × (s' ≡ s)
TakesLine serves s s' bytes (Ok (Some after)) = TakesFront serves s s' bytes after.now
TakesLine serves s s' bytes (Err stop) = TakesIn serves s s' bytes (Err stop)

-- what that comes to where the server may know the line by its bytes
abbrev pub TakesKnown : {S : Type 0} → ServesLines S → Stage S → Stage S → List ℕ → Result (Option (Bor (List ℕ))) Stop → Type 0
TakesKnown serves s s' bytes (Ok None) = s' ≡ s
TakesKnown serves s s' bytes (Ok (Some after)) = TakesFront serves s s' bytes after.now
TakesKnown serves s s' bytes (Err stop) = TakesIn serves s s' bytes (Err stop)

-- what serving the line that stands open at the end of the input comes to
pub record EndsInput {S : Type 0} (serves : ServesLines S) (s s' : Stage S) (answer : Answer) : Type 0 where
  pub served : serves s.service s'.service (last_line s.held.line) answer
  pub counted : OnOk answer (s'.held.ended ≡ s.held.ended + length (last_line s.held.line))
