-- What each cut of a clock gives, and that the first of them is the cut by places.
use Rattle.std.proofs.lemmas.Grind.{common_steps}
use Rattle.std.proofs.Common.{◌≡◌, ℕ, ◌-◌, ◌<◌, ◌≤◌, Bool, true, false, cond, List, [], ◌∷◌, ◌++◌, length, get_or, take, drop, refl, sym}
use Rattle.std.proofs.Common.{ap, ◌∙◌, subst, Option, Some, None, arith, add-zero}
use Rattle.std.proofs.lemmas.Bool.{eqb-true as eq_from}
use Rattle.std.proofs.Math.Seq.{get_or-append_seam, take-append_seam}
use Rattle.std.proofs.lemmas.Bool.Decides.{nat_tests}
use Rattle.std.proofs.lemmas.List.{length-append}
use Rattle.std.proofs.lemmas.List.Prefix.{end_from_reads}
use Rattle.std.specs.Option.{option_or}
use Rattle.std.specs.Prelude.{◌==◌, ◌&&◌, nat_lt, slice_index, option_map, unwrap_or}
use Rattle.gix_date.specs.Text.Characters.{space, letter_z}
use Rattle.gix_date.specs.Git.ClockCut.{Cut, last_place, is_sign, has_offset_at, trimmed_after, last_space, last_sign, cut_at_z}
use Rattle.gix_date.specs.Git.ClockCut.{cut_at_space, cut_at_space_place, cut_at_sign, clock_cut}
use Rattle.gix_date.specs.Git.Cuts.{EndsInZ, CutsAtSpace, CutsAtSign, IsCut, at_z, at_space, at_offset_sign, whole}
use Rattle.gix_date.specs.Text.Front.{◌>>=◌}
use Rattle.gix_date.proofs.Text.LastPlaces.{is_last, last_is, not_at}

pub space_none : (u : List ℕ) → None ≡ last_space u → cut_at_space u ≡ None
unfolding cut_at_space
space_none u e = ap (λ r. r >>= cut_at_space_place u) (sym e)

pub space_low : (u : List ℕ) (k : ℕ) → Some k ≡ last_space u → k ≤ 5 → cut_at_space u ≡ None
unfolding cut_at_space
space_low u k e low = grind (arith, nat_tests)

pick_none : (a b : Bool) (x : List ℕ × List ℕ) → b ≡ false → cond (a && b) (Some x) None ≡ None
pick_none true b x h = ap (λ c. cond c (Some x) None) h
pick_none false b x h = refl

pub space_unsigned : (u o : List ℕ) (k : ℕ) → Some k ≡ last_space u → o ≡ trimmed_after u k → is_sign (slice_index o 0) ≡ false
    → cut_at_space u ≡ None
unfolding cut_at_space
space_unsigned u o k e f h = grind (arith, pick_none)

pick_both : (a b : Bool) (x y : List ℕ × List ℕ) → a ≡ true → b ≡ true → x ≡ y → cond (a && b) (Some x) None ≡ Some y
pick_both a b x y g h e = ap (λ c. cond (c && b) (Some x) None) g ∙ ap (λ c. cond c (Some x) None) h ∙ ap Some e

pub space_found : (u o t : List ℕ) (k : ℕ) → Some k ≡ last_space u → o ≡ trimmed_after u k → t ≡ take k u → 5 < k
    → is_sign (slice_index o 0) ≡ true → cut_at_space u ≡ Some (t, o)
unfolding cut_at_space
space_found u o t k e f g high h = grind (arith, pick_both, nat_tests)

pub sign_none : (u : List ℕ) → None ≡ last_sign u → cut_at_sign u ≡ None
unfolding cut_at_sign
sign_none u e = ap (λ r. option_map (λ place. (take place u, drop place u)) r) (sym e)

pub sign_found : (u t o : List ℕ) (k : ℕ) → Some k ≡ last_sign u → t ≡ take k u → o ≡ drop k u → cut_at_sign u ≡ Some (t, o)
unfolding cut_at_sign
sign_found u t o k e f g = grind (arith)

pub sign_at : (u : List ℕ) (k : ℕ) → Some k ≡ last_sign u → cut_at_sign u ≡ Some (take k u, drop k u)
sign_at u k e = sign_found u (take k u) (drop k u) k e refl refl

pub no_sign_at : (bytes text : List ℕ) (n : ℕ) (r : Bool) → 0 < n → bytes ≡ text → r ≡ has_offset_at bytes (n - 1) → r ≡ false
    → last_place (has_offset_at text) (n - 1) ≡ last_place (has_offset_at text) n
no_sign_at bytes text n r more same e f =
    not_at (has_offset_at text) n (n - 1) (omega (arith, more)) (ap (λ u. has_offset_at u (n - 1)) (sym same) ∙ sym e ∙ f)

pub z_found : (u t : List ℕ) (r : Bool) → r ≡ true → r ≡ (slice_index u (length u - 1) == letter_z) → t ≡ take (length u - 1) u
    → cut_at_z u ≡ Some (t, letter_z ∷ [])
unfolding cut_at_z
z_found u t r h e f = grind (arith)

pub z_none : (u : List ℕ) (r : Bool) → r ≡ false → r ≡ (slice_index u (length u - 1) == letter_z) → cut_at_z u ≡ None
unfolding cut_at_z
z_none u r h e = ap (λ b. cond b (Some (take (length u - 1) u, letter_z ∷ [])) None) (sym e ∙ h)

read_nonempty : (u : List ℕ) (i : ℕ) → get_or u i 0 ≡ letter_z → 0 < length u
read_nonempty [] i h = absurd (omega (arith, h))
read_nonempty (x ∷ xs) i h = omega arith

ends : (u : List ℕ) → get_or u (length u - 1) 0 ≡ letter_z → u ≡ take (length u - 1) u ++ letter_z ∷ []
ends u h = grind (arith, nat_tests, common_steps, read_nonempty, end_from_reads, add-zero)

z_last : (u front : List ℕ) → u ≡ front ++ letter_z ∷ [] → get_or u (length u - 1) 0 ≡ letter_z
z_last u front e = grind (arith, nat_tests, common_steps, length-append, get_or-append_seam)

-- each part by the test or the place
no_z : (u : List ℕ) → (get_or u (length u - 1) 0 == letter_z) ≡ false → ¬ (EndsInZ u)
no_z u h z = let last : get_or u (length u - 1) 0 ≡ letter_z = z_last u z.0 z.1 in grind (arith, nat_tests, h, last)

no_cut_is_none : (cut : Cut) → Some cut ≡ None → ⊥
no_cut_is_none cut h = cc

no_space : (u : List ℕ) → cut_at_space u ≡ None → ¬ ((j : ℕ) × CutsAtSpace u j)
unfolding cut_at_space last_space
no_space u h s =
    let found : last_place (λ i. slice_index u i == space) (length u) ≡ Some s.0 =
    last_is (λ i. slice_index u i == space) (length u) s.0 s.1.0 in
    let high : nat_lt 5 s.0 ≡ true = grind (arith, nat_tests, s.1.1) in
    let some : cut_at_space_place u s.0 ≡ None = ap (λ r. r >>= cut_at_space_place u) (sym found) ∙ h in
    let both : cond (nat_lt 5 s.0 && is_sign (slice_index (trimmed_after u s.0) 0)) (Some (take s.0 u, trimmed_after u s.0)) None
    ≡ Some (take s.0 u, trimmed_after u s.0) =
    ap (λ b. cond (b && is_sign (slice_index (trimmed_after u s.0) 0)) (Some (take s.0 u, trimmed_after u s.0)) None) high
    ∙ ap (λ b. cond b (Some (take s.0 u, trimmed_after u s.0)) None) s.1.2 in
    let bad : Some (take s.0 u, trimmed_after u s.0) ≡ None = sym both ∙ some in
    no_cut_is_none (take s.0 u, trimmed_after u s.0) bad

no_sign : (u : List ℕ) → last_sign u ≡ None → ¬ ((j : ℕ) × CutsAtSign u j)
unfolding last_sign
no_sign u h s = let bad : Some s.0 ≡ None = sym (last_is (has_offset_at u) (length u) s.0 s.1) ∙ h in cc

IsCutPair : List ℕ → List ℕ × List ℕ → Type 0
IsCutPair u y = IsCut u y.0 y.1

by_sign : (u : List ℕ) (r : Option ℕ) → last_sign u ≡ r → ¬ (EndsInZ u) → ¬ ((j : ℕ) × CutsAtSpace u j)
    → IsCutPair u (unwrap_or (option_map (λ place. (take place u, drop place u)) r) (u, []))
unfolding last_sign IsCutPair
by_sign u None e z s = whole z s (no_sign u e)
by_sign u (Some k) e z s = at_offset_sign k z s (is_last (has_offset_at u) (length u) k e)

space_means : (u : List ℕ) (k : ℕ) (a b : Bool) → nat_lt 5 k ≡ a → is_sign (slice_index (trimmed_after u k) 0) ≡ b → last_space u ≡ Some k
    → (y : List ℕ × List ℕ) → cond (a && b) (Some (take k u, trimmed_after u k)) None ≡ Some y
    → CutsAtSpace u k × (y ≡ (take k u, trimmed_after u k))
unfolding last_space
space_means u k true true e f at y h = ((is_last (λ i. slice_index u i == space) (length u) k at, grind (arith, nat_tests, e), f), cc)
space_means u k a b e f at y h = cc

space_at : (u : List ℕ) (r : Option ℕ) → last_space u ≡ r → (y : List ℕ × List ℕ) → (r >>= cut_at_space_place u) ≡ Some y
    → (k : ℕ) × CutsAtSpace u k × (y ≡ (take k u, trimmed_after u k))
space_at u None e y h = cc
space_at u (Some k) e y h = let m = space_means u k _ _ refl refl e y h in (k, m.0, m.1)

by_space : (u : List ℕ) (r : Option (List ℕ × List ℕ)) → cut_at_space u ≡ r → ¬ (EndsInZ u)
    → IsCutPair u (unwrap_or (option_or r (cut_at_sign u)) (u, []))
unfolding IsCutPair cut_at_space cut_at_sign
by_space u None e z = by_sign u (last_sign u) refl z (no_space u e)
by_space u (Some y) e z =
    let found = space_at u (last_space u) refl y e in
    subst (IsCutPair u) (sym found.2) (at_space found.0 z found.1)

by_z : (u : List ℕ) (b : Bool) → (get_or u (length u - 1) 0 == letter_z) ≡ b → IsCutPair u
    (unwrap_or (option_or (cond b (Some (take (length u - 1) u, letter_z ∷ [])) None) (option_or (cut_at_space u) (cut_at_sign u))) (u, []))
unfolding IsCutPair
by_z u true e = at_z (take (length u - 1) u) (ends u (eq_from _ letter_z e))
by_z u false e = by_space u (cut_at_space u) refl (no_z u e)

pub cut_means : (u : List ℕ) (clock offset : List ℕ) → (clock, offset) ≡ clock_cut u → IsCut u clock offset
unfolding clock_cut cut_at_z IsCutPair
cut_means u clock offset e = subst (IsCutPair u) (sym e) (by_z u _ refl)

-- The other way round: a text is cut where the facts say.
take_z : (front : List ℕ) → take (length (front ++ letter_z ∷ []) - 1) (front ++ letter_z ∷ []) ≡ front
take_z front = grind (arith, nat_tests, common_steps, length-append, take-append_seam)

cut_z : (u front : List ℕ) → u ≡ front ++ letter_z ∷ [] → cut_at_z u ≡ Some (front, letter_z ∷ [])
cut_z u front e = grind (arith, z_last, z_found, take_z)

none_z : (u : List ℕ) → ¬ (EndsInZ u) → cut_at_z u ≡ None
none_z u n = grind (arith, nat_tests, common_steps, z_none, ends, eq_from)

cut_space : (u : List ℕ) (k : ℕ) → CutsAtSpace u k → cut_at_space u ≡ Some (take k u, trimmed_after u k)
unfolding last_space
cut_space u k c =
    space_found u (trimmed_after u k) (take k u) k (sym (last_is (λ i. slice_index u i == space) (length u) k c.0)) refl refl c.1 c.2

none_space : (u : List ℕ) → ¬ ((j : ℕ) × CutsAtSpace u j) → cut_at_space u ≡ None
unfolding cut_at_space
none_space u n = grind (arith, space_at)

cut_sign : (u : List ℕ) (k : ℕ) → CutsAtSign u k → cut_at_sign u ≡ Some (take k u, drop k u)
unfolding last_sign
cut_sign u k c = sign_found u (take k u) (drop k u) k (sym (last_is (has_offset_at u) (length u) k c)) refl refl

none_sign : (u : List ℕ) → ¬ ((j : ℕ) × CutsAtSign u j) → cut_at_sign u ≡ None
unfolding last_sign
none_sign u n = grind (arith, sign_none, is_last)

first_cut : (u : List ℕ) (a b c : Option Cut) → cut_at_z u ≡ a → cut_at_space u ≡ b → cut_at_sign u ≡ c
    → clock_cut u ≡ unwrap_or (option_or a (option_or b c)) (u, [])
unfolding clock_cut
first_cut u a b c e f g = rw (e, f, g) refl

pub means_cut : (u clock offset : List ℕ) → IsCut u clock offset → clock_cut u ≡ (clock, offset)
means_cut u clock offset (at_z front e) =
    first_cut u (Some (front, letter_z ∷ [])) (cut_at_space u) (cut_at_sign u) (cut_z u front e) refl refl
means_cut u clock offset (at_space k z c) =
    first_cut u None (Some (take k u, trimmed_after u k)) (cut_at_sign u) (none_z u z) (cut_space u k c) refl
means_cut u clock offset (at_offset_sign k z s c) =
    first_cut u None None (Some (take k u, drop k u)) (none_z u z) (none_space u s) (cut_sign u k c)
means_cut u clock offset (whole z s n) = first_cut u None None None (none_z u z) (none_space u s) (none_sign u n)
