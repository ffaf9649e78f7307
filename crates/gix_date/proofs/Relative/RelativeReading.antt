-- The pairs that are read from the left are those of the places.
use Rattle.std.proofs.Common.{◌≡◌, ℕ, Bool, true, false, cond, List, [], ◌∷◌, ◌++◌, refl, ap, ◌∙◌, ℤ, Option, Some, None}
use Rattle.std.specs.List.{cons_option}
use Rattle.std.specs.Prelude.{not, is_some, filter_map}
use Rattle.gix_date.specs.Text.Front.{◌>>=◌}
use Rattle.gix_date.proofs.Relative.CountRuns.{free_after}
use Rattle.gix_date.specs.Text.Places.{places_after}
use Rattle.gix_date.specs.Relative.PairsRead.{pairs_from, pairs_read}
use Rattle.gix_date.specs.Relative.Words.{count_of, unit_or_seconds}
use Rattle.gix_date.specs.Relative.Roles.{is_count_word, next_is_free, pair_with, pair_at, pairs}
use Rattle.gix_date.specs.declared.parsing.relative.words.TimeUnit.{TimeUnit}

abbrev Pair : Type 0
Pair = ℤ × TimeUnit

-- the pairs of the places after some words
abbrev picked : List (List ℕ) → List (List ℕ) → List Pair
picked front ws = filter_map pair_at (places_after front ws)

-- the pair of a word that counts so, if it is free
abbrev here : Bool → Option ℤ → List (List ℕ) → Option Pair
here free count ws = cond free (count >>= pair_with ws) None

Both : List (List ℕ) → List (List ℕ) → Type 0
Both front ws = (next_is_free front ≡ true → picked front ws ≡ pairs_from None ws)
    × (next_is_free front ≡ false → (n : ℤ) → cons_option (pair_with ws n) (picked front ws) ≡ pairs_from (Some n) ws)

next_step : (r : Option ℤ) (front ws : List (List ℕ)) → next_is_free front ≡ cond (is_some r) false true → Both front ws
    → cons_option (here true r ws) (picked front ws) ≡ pairs_from r ws
unfolding Both
next_step None front ws e ih = ih.0 e
next_step (Some n) front ws e ih = ih.1 e n

to_free : (b free free' : Bool) → free' ≡ cond b (not free) true → free ≡ false → free' ≡ true
to_free true free free' f e = f ∙ ap not e
to_free false free free' f e = f

both : (ws front : List (List ℕ)) → Both front ws
unfolding Both is_count_word
both [] front = (λ e. refl, λ e n. refl)
both (w ∷ ws) front =
    let ih : Both (front ++ w ∷ []) ws = both ws (front ++ w ∷ []) in (
      λ e. ap (λ b. cons_option (here b (count_of w) ws) (picked (front ++ w ∷ []) ws)) e
          ∙ next_step (count_of w) (front ++ w ∷ []) ws (free_after front w ∙ ap (λ b. cond (is_some (count_of w)) (not b) true) e) ih,
      λ e n. ap (λ b. (n, unit_or_seconds w) ∷ cons_option (here b (count_of w) ws) (picked (front ++ w ∷ []) ws)) e
          ∙ ap (λ ps. (n, unit_or_seconds w) ∷ ps) (ih.0 (to_free (is_some (count_of w)) (next_is_free front) _ (free_after front w) e)),
    )

-- the two are one
pub pairs_are_read : (ws : List (List ℕ)) → pairs ws ≡ pairs_read ws
unfolding pairs next_is_free Both
pairs_are_read ws = (both ws []).0 refl
