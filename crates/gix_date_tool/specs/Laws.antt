-- What laws of runs speak of.
use Rattle.std.specs.Prelude.{ℕ, List}

-- the bytes that a run begins with: those that its reader has left, and those that its writer has taken
pub record Begun : Type 0 where
  pub input : List ℕ
  pub output : List ℕ
