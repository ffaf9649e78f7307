-- What was done with a reader or a writer.
use Rattle.std.specs.Prelude.{◌≡◌}
use Rattle.gix_date.specs.Devices.StreamState.{StreamState}

-- what is known of a reader or a writer before a call and after it
pub record Change : Type 0 where
  pub old : StreamState
  pub new : StreamState

-- from this state to that
abbrev pub change : StreamState → StreamState → Change
change old new = record { old = old; new = new }

-- nothing was done
abbrev pub IsUntouched : Change → Type 0
IsUntouched stream = stream.new ≡ stream.old
