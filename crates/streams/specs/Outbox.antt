-- Texts that are sent in pieces.
use Rattle.std.specs.Prelude.{◌≡◌, ℕ, List, [], ◌++◌, Some, Result, Ok, Err}
use Rattle.std.specs.Borrow.{Bor}
use Rattle.std.specs.List.{flat_map}
use Rattle.std.specs.declared.io.ErrorKind.{ErrorKind}
use Rattle.gix_date.specs.Devices.StreamState.{StreamState, Takes, TakesProperPrefix}
use Rattle.streams.specs.declared.program.Outbox.{Outbox}

-- what waits in an outbox
abbrev pub waiting : Outbox → List ℕ
waiting outbox = outbox.unsent.bytes

-- what is known of a sink, and what waits to be sent to it
pub record Output : Type 0 where
  pub sink : StreamState
  pub unsent : List ℕ

-- an outbox and its sink
abbrev pub output : Outbox → StreamState → Output
output outbox sink = record { sink = sink; unsent = waiting outbox }

-- the pieces of a text one after the other
abbrev pub pieces_text : List (Bor (List ℕ)) → List ℕ
pieces_text pieces = flat_map (λ piece. piece.now) pieces

-- a sink for which nothing waits
abbrev pub all_sent : StreamState → Output
all_sent sink = record { sink = sink; unsent = [] }

-- The text was put after what was unsent, and of both the sink took all but an end, which is unsent now.
pub record Puts (old new : Output) (text : List ℕ) : Type 0 where
  pub sent : List ℕ
  pub cut : old.unsent ++ text ≡ sent ++ new.unsent
  pub taken : Takes old.sink new.sink sent

-- The sink refused, and of what was unsent and the text it took a proper prefix.
pub record PutsProperPrefix (old new : Output) (text : List ℕ) (kind : ErrorKind) : Type 0 where
  pub taken : TakesProperPrefix old.sink new.sink (old.unsent ++ text)
  pub fault : new.sink.fault ≡ Some kind

-- what sending a text came to
abbrev pub Sends : Output → Output → List ℕ → Result Unit ErrorKind → Type 0
Sends old new text (Ok _) = Puts old new text
Sends old new text (Err kind) = PutsProperPrefix old new text kind
