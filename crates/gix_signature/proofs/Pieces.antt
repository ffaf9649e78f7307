-- Texts that a sink takes one after the other.
use Rattle.std.proofs.Common.{ℕ, List, ◌++◌, length-append, arith}
use Rattle.std.proofs.lemmas.List.{take-append-le}
use Rattle.std.specs.Prelude.{Result, Ok, Err}
use Rattle.std.specs.declared.io.ErrorKind.{ErrorKind}
use Rattle.gix_date.specs.Devices.StreamState.{StreamState, Takes, TakesProperPrefix}
use Rattle.gix_date.proofs.Text.KnownBytes.{Appends-append, Cut-after}
use Rattle.gix_signature.specs.Writing.{Puts}

-- one text, and then the next
pub Takes-then : (old mid new : StreamState) (xs ys : List ℕ) → Takes old mid xs → Takes mid new ys → Takes old new (xs ++ ys)
Takes-then old mid new xs ys h k = Appends-append old.bytes mid.bytes new.bytes xs ys h k

-- a proper prefix of a text is one of a longer text too
pub Cut-more : (old new : StreamState) (xs ys : List ℕ) → TakesProperPrefix old new xs → TakesProperPrefix old new (xs ++ ys)
Cut-more old new xs ys h = grind (arith, length-append, take-append-le)

-- a refusal within a text is one within a longer text too
pub Puts-more : (old new : StreamState) (xs ys : List ℕ) (kind : ErrorKind) → Puts old new xs (Err kind)
    → Puts old new (xs ++ ys) (Err kind)
Puts-more old new xs ys kind h = (Cut-more old new xs ys h.0, h.1)

-- a text that was taken, and then what the next came to
pub Puts-after : (old mid new : StreamState) (xs ys : List ℕ) (r : Result (Unit {0}) ErrorKind) → Takes old mid xs → Puts mid new ys r
    → Puts old new (xs ++ ys) r
Puts-after old mid new xs ys (Ok u) h k = Takes-then old mid new xs ys h k
Puts-after old mid new xs ys (Err kind) h k = (Cut-after old mid new xs ys h k.0, k.1)
