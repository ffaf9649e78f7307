-- What a scan of all words says.
use Rattle.std.proofs.Common.{◌≡◌, ℕ, Bool, true, false, cond, List, [], ◌∷◌, ◌++◌, refl, sym, ap, ◌∙◌}
use Rattle.std.proofs.Math.Bool.{and_assoc, or_assoc, or-false, or-true}
use Rattle.std.specs.List.{fold}
use Rattle.std.specs.Prelude.{not, ◌&&◌, ◌||◌}
use Rattle.gix_date.specs.Relative.Words.{is_ago}
use Rattle.gix_date.proofs.Text.Places.{any_place, all_places}
use Rattle.gix_date.specs.Relative.Roles.{is_count_word, has_unit, next_is_free, has_next, next_is_unit, has_flag, has_pair, all_units}
use Rattle.gix_date.specs.Relative.Roles.{are_pairs}
use Rattle.gix_date.specs.Relative.Scan.{step, verdict}
use Rattle.gix_date.specs.declared.parsing.relative.pairs.Scan.{Scan}
use Rattle.gix_date.proofs.Relative.CountRuns.{free_after}

abbrev pub scan : Bool → Bool → Bool → Bool → Scan
scan waiting any known ago = record { waiting = waiting; any = any; known = known; ago = ago }

flips : (v b even even' : Bool) → v ≡ not even → even' ≡ cond b (not even) true → cond v false b ≡ not even'
flips true false even even' e f = sym (ap not f)
flips false false even even' e f = sym (ap not f)
flips x y even even' e f = sym (ap not (f ∙ sym e))

-- how the waiting state goes on
goes_on : (v a k g : Bool) (w : List ℕ) (front : List (List ℕ)) → v ≡ not (next_is_free front)
    → (step (scan v a k g) w).waiting ≡ not (next_is_free (front ++ w ∷ []))
goes_on true a k g w front e = flips true (is_count_word w) (next_is_free front) _ e (free_after front w)
goes_on false a k g w front e = flips false (is_count_word w) (next_is_free front) _ e (free_after front w)

off : (even b : Bool) → true ≡ not even → (even && b) ≡ false
off true b e = cc
off false b e = refl

on : (even b : Bool) → false ≡ not even → (even && b) ≡ b
on true b e = refl
on false b e = cc

none_any : (a v : Bool) → a ≡ (a || ((v && false) || false))
none_any false true = refl
none_any x v = refl

none_known : (k v : Bool) → k ≡ (k && ((not v || true) && true))
none_known true true = refl
none_known x v = refl

ago_of : (ws front : List (List ℕ)) (v a k g : Bool) → v ≡ not (next_is_free front)
    → (fold step (scan v a k g) ws).ago ≡ (g || any_place (λ f w back. next_is_free f && is_ago w) front ws)
ago_of [] front v a k g e = sym (or-false g)
ago_of (w ∷ ws) front true a k g e =
    ago_of ws (front ++ w ∷ []) false true (k && has_unit w) g (goes_on true a k g w front e)
    ∙ ap (λ b. g || (b || any_place (λ f w back. next_is_free f && is_ago w) (front ++ w ∷ []) ws))
    (sym (off (next_is_free front) (is_ago w) e))
ago_of (w ∷ ws) front false a k g e =
    ago_of ws (front ++ w ∷ []) (is_count_word w) a k (g || is_ago w) (goes_on false a k g w front e)
    ∙ or_assoc g (is_ago w) _
    ∙ ap (λ b. g || (b || any_place (λ f w back. next_is_free f && is_ago w) (front ++ w ∷ []) ws))
    (sym (on (next_is_free front) (is_ago w) e))

any_of : (ws front : List (List ℕ)) (v a k g : Bool) → v ≡ not (next_is_free front)
    → (fold step (scan v a k g) ws).any
    ≡ (a || ((v && has_next ws) || any_place (λ f w back. (next_is_free f && is_count_word w) && has_next back) front ws))
any_of [] front v a k g e = none_any a v
any_of (w ∷ ws) front true a k g e = any_of ws (front ++ w ∷ []) false true (k && has_unit w) g (goes_on true a k g w front e)
    ∙ sym (or-true a)
any_of (w ∷ ws) front false a k g e =
    any_of ws (front ++ w ∷ []) (is_count_word w) a k (g || is_ago w) (goes_on false a k g w front e)
    ∙ ap (λ b. a
    || ((b && has_next ws) || any_place (λ f w back. (next_is_free f && is_count_word w) && has_next back) (front ++ w ∷ []) ws))
    (sym (on (next_is_free front) (is_count_word w) e))

known_of : (ws front : List (List ℕ)) (v a k g : Bool) → v ≡ not (next_is_free front)
    → (fold step (scan v a k g) ws).known ≡ (k
    && ((not v || next_is_unit ws) && all_places (λ f w back. not (next_is_free f && is_count_word w) || next_is_unit back) front ws))
known_of [] front v a k g e = none_known k v
known_of (w ∷ ws) front true a k g e =
    known_of ws (front ++ w ∷ []) false true (k && has_unit w) g (goes_on true a k g w front e)
    ∙ and_assoc k (has_unit w) _
    ∙ ap (λ b. k && (has_unit w && ((not b || next_is_unit ws)
    && all_places (λ f w back. not (next_is_free f && is_count_word w) || next_is_unit back) (front ++ w ∷ []) ws))) (sym (off
    (next_is_free front) (is_count_word w) e))
known_of (w ∷ ws) front false a k g e =
    known_of ws (front ++ w ∷ []) (is_count_word w) a k (g || is_ago w) (goes_on false a k g w front e)
    ∙ ap (λ b. k && ((not b || next_is_unit ws)
    && all_places (λ f w back. not (next_is_free f && is_count_word w) || next_is_unit back) (front ++ w ∷ []) ws)) (sym
    (on (next_is_free front) (is_count_word w) e))

at_start : false ≡ not (next_is_free [])
unfolding next_is_free
at_start = refl

all_three : (a k g a' k' g' : Bool) → a ≡ a' → k ≡ k' → g ≡ g' → (a && (k || g)) ≡ (a' && (k' || g'))
all_three a k g a' k' g' p q r = ap (λ b. b && (k || g)) p ∙ ap (λ b. a' && (b || g)) q ∙ ap (λ b. a' && (k' || b)) r

pub verdict_of : (ws : List (List ℕ)) → verdict (fold step (scan false false true false) ws) ≡ are_pairs ws
unfolding are_pairs has_pair all_units has_flag
verdict_of ws =
    all_three _ _ _ _ _ _ (any_of ws [] false false true false at_start) (known_of ws [] false false true false at_start)
    (ago_of ws [] false false true false at_start)

-- a scan that was the loop's when no word was left
pub verdict_at_end : (text rest : List (List ℕ)) (s : Scan) (r : Bool) → fold step s rest ≡ fold step (scan false false true false) text
    → rest ≡ [] → r ≡ verdict s → r ≡ are_pairs text
verdict_at_end text rest s r kept none is = is ∙ ap (λ ws. verdict (fold step s ws)) (sym none) ∙ ap verdict kept ∙ verdict_of text
