-- The line of a commit that names its author.
use Rattle.std.specs.Prelude.{◌≡◌, ℕ, List, ◌++◌, codes}
use Rattle.gix_signature.specs.Signature.{Parts, IsCut}

-- the line is `author ` and a signature line of these parts
pub record IsAuthored (line : List ℕ) (p : Parts) : Type 0 where
  pub signature : List ℕ
  pub whole : line ≡ codes "author " ++ signature
  pub cut : IsCut signature p
