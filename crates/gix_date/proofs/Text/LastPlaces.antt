-- Last places, as a search from the end finds them and as a fact.
use Rattle.std.proofs.Common.{◌≡◌, ℕ, ◌<◌, ◌≤◌, Bool, true, false, cond, List, length, get_or, refl, sym, ap, ◌∙◌, Option, Some, None}
use Rattle.std.proofs.Common.{arith, zero, suc}
use Rattle.std.proofs.lemmas.Bool.{false_from_ne_true as not_true, ne_eqb as differs, eq-eqb as equals}
use Rattle.std.proofs.lemmas.Str.Pattern.{rfind_char}
use Rattle.std.specs.Prelude.{MatchOption, IfSome, ◌==◌}
use Rattle.std.specs.Str.{IsCharBoundary}
use Rattle.std.specs.Str.Pattern.{RFindsChar}
use Rattle.gix_date.specs.Text.Characters.{space}
use Rattle.gix_date.specs.Git.ClockCut.{last_place, last_space}
use Rattle.gix_date.specs.Git.Cuts.{IsLastPlace}

-- the step of a search from the end
pub passes_here : (t : ℕ → Bool) (n : ℕ) → t n ≡ true → last_place t (suc n) ≡ Some n
passes_here t n h = ap (λ b. cond b (Some n) (last_place t n)) h

pub passes_below : (t : ℕ → Bool) (n : ℕ) → t n ≡ false → last_place t (suc n) ≡ last_place t n
passes_below t n h = ap (λ b. cond b (Some n) (last_place t n)) h

pub last_none : (t : ℕ → Bool) (n : ℕ) → ((i : ℕ) → i < n → t i ≡ false) → last_place t n ≡ None
last_none t zero h = refl
last_none t (suc n) h = passes_below t n (h n (omega arith)) ∙ last_none t n (λ i l. h i (omega arith))

at_or_below : (t : ℕ → Bool) (n k : ℕ) (b : Bool) → t n ≡ b → k < suc n → t k ≡ true → ((i : ℕ) → k < i → i < suc n → t i ≡ false)
    → (k < n → last_place t n ≡ Some k) → last_place t (suc n) ≡ Some k
at_or_below t n k true e l h after below = grind (arith, passes_here)
at_or_below t n k false e l h after below = grind (arith, passes_below)

pub last_is : (t : ℕ → Bool) (n k : ℕ) → IsLastPlace t n k → last_place t n ≡ Some k
last_is t zero k h = absurd (omega (arith, h.within))
last_is t (suc n) k h = at_or_below t n k (t n) refl h.within h.passes h.last
    (λ l. last_is t n k (record { within = l; passes = h.passes; last = λ i a b. h.last i a (omega arith) }))

choice : (t : ℕ → Bool) (n k : ℕ) (b : Bool) → t n ≡ b → cond b (Some n) (last_place t n) ≡ Some k
    → (last_place t n ≡ Some k → IsLastPlace t n k) → IsLastPlace t (suc n) k
choice t n k true e h below = grind (arith)
choice t n k false e h below = grind (arith, not_true)

-- the converse: what is found is the last place
pub is_last : (t : ℕ → Bool) (n k : ℕ) → last_place t n ≡ Some k → IsLastPlace t n k
is_last t zero k h = cc
is_last t (suc n) k h = choice t n k (t n) refl h (is_last t n k)

pub by_rfind : (bs : List ℕ) (r : Option ℕ) → MatchOption r (RFindsChar space bs None)
    (λ i. (j : ℕ) × RFindsChar space bs (Some (i, j)) × (i ≤ j) × IsCharBoundary bs i × IsCharBoundary bs j)
    → (r ≡ last_space bs) × IfSome r (λ k. (k < length bs) × (get_or bs k 0 ≡ space))
unfolding last_space
by_rfind bs None h =
    let none = rfind_char space bs None h (omega arith) in
    (sym (last_none (λ i. get_or bs i 0 == space) (length bs) (λ i l. differs (get_or bs i 0) space (none i l))), tt)
by_rfind bs (Some k) h =
    let found = rfind_char space bs (Some k) h (omega arith) in (
      sym (last_is (λ i. get_or bs i 0 == space) (length bs) k (record {
        within = found.0;
        passes =
            equals (get_or bs k 0) space found.1;
        last = λ i a b. differs (get_or bs i 0) space (found.2 i a b);
      })),
      (found.0, found.1),
    )

-- the step of a search from the end, where the place is one less
pub not_at : (t : ℕ → Bool) (n k : ℕ) → suc k ≡ n → t k ≡ false → last_place t k ≡ last_place t n
not_at t n k e h = sym (passes_below t k h) ∙ ap (last_place t) e
