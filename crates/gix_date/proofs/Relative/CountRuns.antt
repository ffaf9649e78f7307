-- Whether the word after some words is free, as one more word is read.
use Rattle.std.proofs.Common.{arith}
use Rattle.std.proofs.Common.{◌≡◌, ℕ, Bool, true, false, cond, List, [], ◌∷◌, ◌++◌, refl}
use Rattle.std.proofs.lemmas.List.Sums.{fold-append}
use Rattle.std.specs.Prelude.{not, ◌&&◌}
use Rattle.gix_date.specs.Relative.Roles.{is_count_word, next_is_free}

turns : (free count : Bool) → not (free && count) ≡ cond count (not free) true
turns true true = refl
turns true false = refl
turns false true = refl
turns false false = refl

-- after a count word what was free is no longer so, and the other way round; after another word the next is free
pub free_after : (front : List (List ℕ)) (w : List ℕ)
    → next_is_free (front ++ w ∷ []) ≡ cond (is_count_word w) (not (next_is_free front)) true
unfolding next_is_free
free_after front w = grind (arith, fold-append, turns)
