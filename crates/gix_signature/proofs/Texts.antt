-- Texts and their places, and what is kept of them.
use Rattle.std.proofs.Common.{◌≡◌, ◌∙◌, ℕ, ◌+◌, ◌<◌, suc, Bool, true, false, cond, not, ◌==◌, List, [], ◌∷◌, ◌++◌, length, take, drop, refl}
use Rattle.std.proofs.Common.{ap, sym, arith}
use Rattle.std.proofs.lemmas.List.{drop-drop}
use Rattle.std.proofs.lemmas.Bool.Decides.{nat_tests}
use Rattle.std.specs.List.{list_all, list_any, prefix_len, position_or_len, filter}
use Rattle.std.specs.Prelude.{nat_lt}

-- a place within the text tells whether there is such a byte
pub place_within : (p : ℕ → Bool) (xs : List ℕ) → nat_lt (position_or_len p xs) (length xs) ≡ list_any p xs
place_within p [] = refl
place_within p (x ∷ xs) = let rest = place_within p xs in grind (arith, nat_tests, rest)

-- all bytes pass where the run at the front is the whole
pub passed : (p : ℕ → Bool) (xs : List ℕ) → (prefix_len p xs == length xs) ≡ list_all p xs
passed p [] = refl
passed p (x ∷ xs) = let rest = passed p xs in grind (arith, nat_tests, rest)

pub none_is : (p : ℕ → Bool) (xs : List ℕ) → list_all (λ c. not (p c)) xs ≡ not (list_any p xs)
none_is p [] = refl
none_is p (x ∷ xs) = let rest = none_is p xs in grind (arith, rest)

pub none_there : (p : ℕ → Bool) (xs : List ℕ) → position_or_len p xs ≡ length xs → list_any p xs ≡ false
none_there p xs e = sym (place_within p xs) ∙ grind (arith, nat_tests, e)

pub one_there : (p : ℕ → Bool) (xs : List ℕ) → position_or_len p xs < length xs → list_any p xs ≡ true
one_there p xs h = sym (place_within p xs) ∙ grind (arith, nat_tests, h)

pub after_place : (n : ℕ) (xs : List ℕ) → drop 1 (drop n xs) ≡ drop (n + 1) xs
after_place n xs = drop-drop 1 n xs

pub add-one-front : (n : ℕ) → 1 + n ≡ suc n
add-one-front n = omega arith

-- What a filter keeps is the run at the front, and what it keeps of what stands after the run and one byte.
kept-step : (b : Bool) (p : ℕ → Bool) (x : ℕ) (xs : List ℕ)
    → filter p xs ≡ take (prefix_len p xs) xs ++ filter p (drop 1 (drop (prefix_len p xs) xs))
    → cond b (x ∷ filter p xs) (filter p xs) ≡ take (cond b (1 + prefix_len p xs) 0) (x ∷ xs)
    ++ filter p (drop 1 (drop (cond b (1 + prefix_len p xs) 0) (x ∷ xs)))
kept-step false p x xs h = refl
kept-step true p x xs h = rw (add-one-front (prefix_len p xs)) (ap (λ ys. x ∷ ys) h)

pub kept-run : (p : ℕ → Bool) (xs : List ℕ) → filter p xs ≡ take (prefix_len p xs) xs ++ filter p (drop 1 (drop (prefix_len p xs) xs))
kept-run p [] = refl
kept-run p (x ∷ xs) = kept-step (p x) p x xs (kept-run p xs)
