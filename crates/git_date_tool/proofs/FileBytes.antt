-- The bytes of a file.
use Rattle.std.proofs.Common.{arith, ◌≡◌, ◌≤◌, ◌+◌, ◌∙◌, ap, IfSome, length, take, length-take, ℕ, List, Option, Some, None}
use Rattle.std.proofs.lemmas.List.{take_all}
use Rattle.git_date_tool.specs.declared.zones.TheConstants.{MAX_FILE_BYTES}

-- a file that is not longer than one may be was read to its end
pub all_read : (left : Option (List ℕ)) (bytes : List ℕ) → IfSome left (λ xs. bytes ≡ take (MAX_FILE_BYTES + 1) xs)
    → length bytes ≤ MAX_FILE_BYTES → IfSome left (λ xs. bytes ≡ xs)
all_read None bytes h few = tt
all_read (Some xs) bytes h few = h ∙ take_all (MAX_FILE_BYTES + 1) xs (omega (arith, length-take (MAX_FILE_BYTES + 1) xs, ap length h))
