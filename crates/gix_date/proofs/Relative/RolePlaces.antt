-- The tests of places, as facts of lists that the words are cut into.
use Rattle.std.proofs.Common.{arith}
use Rattle.std.proofs.Common.{◌≡◌, ℕ, Bool, true, List, [], ◌∷◌, ◌++◌, refl, sym, ap, ◌∙◌, subst, inl, inr, append_assoc, append-nil}
use Rattle.std.proofs.lemmas.Bool.{and_parts as and_cases, or_cases, or_left, or_right, and_from as and_both}
use Rattle.std.specs.Prelude.{not, ◌&&◌, ◌||◌, ◌⊎◌, ◌↔◌, IsTrue}
use Rattle.gix_date.proofs.Text.Places.{Words, any_place, all_places}
use Rattle.gix_date.specs.Relative.Words.{is_ago}
use Rattle.gix_date.specs.Relative.Roles.{is_count_word, has_unit, next_is_free, has_next, next_is_unit, has_flag, has_pair, all_units}
use Rattle.gix_date.specs.Relative.Roles.{are_pairs}
use Rattle.gix_date.specs.Relative.Pairs.{HasFlag, HasPair, AllUnits, ArePairs}

some_place : (t : Words → List ℕ → Words → Bool) (xs front : Words) → any_place t front xs ≡ true
    → (a : Words) × (x : List ℕ) × (b : Words) × (xs ≡ a ++ x ∷ b) × (t (front ++ a) x b ≡ true)
some_place t [] front h = cc
some_place t (x ∷ xs) front h =
    elim (or_cases (t front x xs) (any_place t (front ++ x ∷ []) xs) h) [
      | inl p ↦ ([], x, xs, refl, subst (λ f. t f x xs ≡ true) (sym (append-nil front)) p)
      | inr q ↦ let r = some_place t xs (front ++ x ∷ []) q in
          (x ∷ r.0, r.1, r.2, ap (λ zs. x ∷ zs) r.3, subst (λ f. t f r.1 r.2 ≡ true) (append_assoc front (x ∷ []) r.0) r.4)
    ]

place_some : (t : Words → List ℕ → Words → Bool) (a : Words) (x : List ℕ) (b front : Words) → t (front ++ a) x b ≡ true
    → any_place t front (a ++ x ∷ b) ≡ true
place_some t [] x b front h = or_left (t front x b) _ (subst (λ f. t f x b ≡ true) (append-nil front) h)
place_some t (y ∷ ys) x b front h =
    or_right (t front y (ys ++ x ∷ b)) _
    (place_some t ys x b (front ++ y ∷ []) (subst (λ f. t f x b ≡ true) (sym (append_assoc front (y ∷ []) ys)) h))

each_place : (t : Words → List ℕ → Words → Bool) (a : Words) (x : List ℕ) (b front : Words) → all_places t front (a ++ x ∷ b) ≡ true
    → t (front ++ a) x b ≡ true
each_place t [] x b front h = subst (λ f. t f x b ≡ true) (sym (append-nil front)) (and_cases (t front x b) _ h).0
each_place t (y ∷ ys) x b front h =
    subst (λ f. t f x b ≡ true) (append_assoc front (y ∷ []) ys)
    (each_place t ys x b (front ++ y ∷ []) (and_cases (t front y (ys ++ x ∷ b)) _ h).1)

place_each : (t : Words → List ℕ → Words → Bool) (xs front : Words)
    → ((a : Words) (x : List ℕ) (b : Words) → xs ≡ a ++ x ∷ b → t (front ++ a) x b ≡ true) → all_places t front xs ≡ true
place_each t [] front h = refl
place_each t (x ∷ xs) front h =
    and_both (t front x xs) _ (subst (λ f. t f x xs ≡ true) (append-nil front) (h [] x xs refl))
    (place_each t xs (front ++ x ∷ [])
    (λ a y b e. subst (λ f. t f y b ≡ true) (sym (append_assoc front (x ∷ []) a)) (h (x ∷ a) y b (ap (λ zs. x ∷ zs) e))))

next_of : (back : List (List ℕ)) → has_next back ≡ true → (p : List ℕ) × (b : List (List ℕ)) × (back ≡ p ∷ b)
next_of [] h = cc
next_of (p ∷ b) h = (p, b, refl)

pair_split : (ws : List (List ℕ)) → has_pair ws ≡ true → HasPair ws
unfolding has_pair
pair_split ws h =
    let s = some_place (λ f w back. (next_is_free f && is_count_word w) && has_next back) ws [] h in
    let both = and_cases (next_is_free s.0 && is_count_word s.1) (has_next s.2) s.4 in
    let next = next_of s.2 both.1 in
    (s.0, s.1, next.0, next.1, s.3 ∙ ap (λ b. s.0 ++ s.1 ∷ b) next.2, and_cases (next_is_free s.0) (is_count_word s.1) both.0)

pair_join : (ws : List (List ℕ)) → HasPair ws → has_pair ws ≡ true
unfolding has_pair
pair_join ws h =
    let t : List (List ℕ) → List ℕ → List (List ℕ) → Bool = λ f w back. (next_is_free f && is_count_word w) && has_next back in
    subst (λ zs. any_place t [] zs ≡ true) (sym h.4)
    (place_some t h.0 h.1 (h.2 ∷ h.3) []
    (and_both (next_is_free h.0 && is_count_word h.1) true (and_both (next_is_free h.0) (is_count_word h.1) h.5.0 h.5.1) refl))

flag_split : (ws : List (List ℕ)) → has_flag ws ≡ true → HasFlag ws
unfolding has_flag
flag_split ws h =
    let s = some_place (λ f w back. next_is_free f && is_ago w) ws [] h in
    let both = and_cases (next_is_free s.0) (is_ago s.1) s.4 in
    (s.0, s.1, s.2, s.3, both.0, both.1)

flag_join : (ws : List (List ℕ)) → HasFlag ws → has_flag ws ≡ true
unfolding has_flag
flag_join ws h =
    let t : List (List ℕ) → List ℕ → List (List ℕ) → Bool = λ f w back. next_is_free f && is_ago w in
    subst (λ zs. any_place t [] zs ≡ true) (sym h.3) (place_some t h.0 h.1 h.2 [] (and_both (next_is_free h.0) (is_ago h.1) h.4 h.5))

then_unit : (a b u : Bool) → (not (a && b) || u) ≡ true → a ≡ true → b ≡ true → u ≡ true
then_unit true true u h p q = h
then_unit a b u h p q = cc

unit_then : (a b u : Bool) → (a ≡ true → b ≡ true → u ≡ true) → (not (a && b) || u) ≡ true
unit_then true true u h = h refl refl
unit_then a b u h = refl

units_split : (ws : List (List ℕ)) → all_units ws ≡ true → AllUnits ws
unfolding all_units
units_split ws h = λ front w p back e count.
    let t : List (List ℕ) → List ℕ → List (List ℕ) → Bool = λ f w back. not (next_is_free f && is_count_word w) || next_is_unit back in
    then_unit (next_is_free front) (is_count_word w) (has_unit p)
    (each_place t front w (p ∷ back) [] (subst (λ zs. all_places t [] zs ≡ true) e h)) count.0 count.1

unit_next : (even b : Bool) (back : List (List ℕ))
    → ((p : List ℕ) (rest : List (List ℕ)) → back ≡ p ∷ rest → even ≡ true → b ≡ true → has_unit p ≡ true)
    → (not (even && b) || next_is_unit back) ≡ true
unit_next even b [] h = or_right (not (even && b)) true refl
unit_next even b (p ∷ rest) h = unit_then even b (has_unit p) (λ f g. h p rest refl f g)

units_join : (ws : List (List ℕ)) → AllUnits ws → all_units ws ≡ true
unfolding all_units
units_join ws h =
    let t : List (List ℕ) → List ℕ → List (List ℕ) → Bool = λ f w back. not (next_is_free f && is_count_word w) || next_is_unit back in
    place_each t ws [] (λ a w b e.
    unit_next (next_is_free a) (is_count_word w) b (λ p rest is even count. h a w p rest (e ∙ ap (λ zs. a ++ w ∷ zs) is) (even, count)))

second : (ws : List (List ℕ)) → (all_units ws ≡ true) ⊎ (has_flag ws ≡ true) → AllUnits ws ⊎ HasFlag ws
second ws (inl h) = inl (units_split ws h)
second ws (inr h) = inr (flag_split ws h)

second_back : (ws : List (List ℕ)) → AllUnits ws ⊎ HasFlag ws → (all_units ws || has_flag ws) ≡ true
second_back ws (inl h) = or_left (all_units ws) (has_flag ws) (units_join ws h)
second_back ws (inr h) = or_right (all_units ws) (has_flag ws) (flag_join ws h)

pub meant : (ws : List (List ℕ)) → (are_pairs ws ≡ true) ↔ ArePairs ws
unfolding are_pairs
meant ws = grind (arith, and_cases, pair_split, second, or_cases, and_both, pair_join, second_back)

pub meant_by : (ws : List (List ℕ)) (r : Bool) → r ≡ are_pairs ws → IsTrue r ↔ ArePairs ws
meant_by ws r e = (λ h. (meant ws).0 (sym e ∙ h), λ h. e ∙ (meant ws).1 h)
