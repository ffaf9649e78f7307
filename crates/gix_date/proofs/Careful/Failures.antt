-- The first place that fails a test.
use Rattle.std.proofs.Common.{◌≡◌, ◌∙◌, ◌+◌, ◌-◌, ◌<◌, ℕ, zero, suc, Bool, true, false, List, length, cond, refl, sym, ap, arith, Option}
use Rattle.std.proofs.Common.{Some, None}
use Rattle.gix_date.specs.Careful.Texts.{ends_in_ago, first_failure, is_clear_at, unclear_place, word_before}

pub goes_on : (t : ℕ → Bool) (k : ℕ) → first_failure t k ≡ None → t k ≡ true → first_failure t (suc k) ≡ None
goes_on t k none here = rw (none, here) refl

stays : (t : ℕ → Bool) (k n : ℕ) → first_failure t n ≡ Some k → first_failure t (suc n) ≡ Some k
stays t k n e = rw e refl

reaches : (t : ℕ → Bool) (k d n : ℕ) → n ≡ d + suc k → first_failure t (suc k) ≡ Some k → first_failure t n ≡ Some k
reaches t k zero n same e = ap (first_failure t) (let s : n ≡ suc k = omega (arith, same) in s) ∙ e
reaches t k (suc d) zero same e = absurd (omega (arith, same))
reaches t k (suc d) (suc n) same e = stays t k n (reaches t k d n (omega (arith, same)) e)

-- what fails first is the first failure of all that follows
pub failed_first : (t : ℕ → Bool) (k n : ℕ) → first_failure t k ≡ None → t k ≡ false → k < n → first_failure t n ≡ Some k
failed_first t k n none here less =
    reaches t k (n - suc k) n (omega (arith, less)) (rw (none, here) refl)

-- the place where a text stops being clear
pub stopped : (text : List ℕ) (place : ℕ) → first_failure (is_clear_at text) place ≡ None → is_clear_at text place ≡ false
    → place < length text → Some place ≡ unclear_place text
unfolding unclear_place
stopped text place none here less = grind (arith, failed_first)

-- a text that is clear at each place
pub ended : (text : List ℕ) (place : ℕ) (before : Option (List ℕ)) (ago : Bool) → first_failure (is_clear_at text) place ≡ None
    → before ≡ word_before text place → place ≡ length text
    → ago ≡ ends_in_ago before → unclear_place text ≡ cond ago None (Some place)
unfolding unclear_place
ended text place before ago none last end is = rw (sym end, none, sym last, sym is) refl
