-- What a contract knows of a sink or a source, and what a call did with it.
use Rattle.std.specs.Prelude.{ℕ, ◌<◌, List, take, length, Option, Result, Ok, Err, Some, None}
use Rattle.std.specs.Io.KnownBytes.{Appends, Keeps, Consumes, IsAtEnd}
use Rattle.std.specs.declared.io.ErrorKind.{ErrorKind}

-- the state of a sink or source: the bytes that it has taken or has left, if it reports them, and its fault
pub record StreamState : Type 0 where
  pub bytes : Option (List ℕ)
  pub fault : Option ErrorKind

-- The sink took exactly this text, if it reports its bytes. Nothing is stated of a sink that does not.
abbrev pub Takes : StreamState → StreamState → List ℕ → Type 0
Takes old new text = Appends old.bytes new.bytes text

-- the sink took a proper prefix of the text, if it reports its bytes
abbrev pub TakesProperPrefix : StreamState → StreamState → List ℕ → Type 0
TakesProperPrefix old new text = (n : ℕ) × (n < length text) × Takes old new (take n text)

-- the sink took no byte, if it reports its bytes
abbrev pub TakesNothing : StreamState → StreamState → Type 0
TakesNothing old new = Keeps old.bytes new.bytes

-- the source gave exactly these bytes, if it reports what is left
abbrev pub Gives : StreamState → StreamState → List ℕ → Type 0
Gives old new bytes = Consumes old.bytes new.bytes bytes

-- the source has no byte left, if it reports what is left
abbrev pub HasEnded : StreamState → Type 0
HasEnded known = IsAtEnd known.bytes

-- the fault of a result, if any
abbrev pub refusal : {T E : Type 0} → Result T E → Option E
refusal (Ok x) = None
refusal (Err e) = Some e
