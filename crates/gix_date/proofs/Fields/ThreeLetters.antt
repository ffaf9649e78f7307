-- Three letters tell the name that they are, and no other three bytes tell one.
use Rattle.std.proofs.Common.{◌≡◌, ◌∙◌, ◌<◌, ◌+◌, ℕ, suc, zero, Bool, true, false, cond, List, [], ◌∷◌, length, get_or, option_map, is_some}
use Rattle.std.proofs.Common.{Option, Some, None, IfSome, refl, sym, ap, subst, arith}
use Rattle.std.specs.Char.{to_ascii_lowercase, is_ascii_alphabetic}
use Rattle.std.specs.List.{position, position_or_len, list_any, list_all}
use Rattle.std.specs.Prelude.{◌==◌, ◌||◌, not, nat_lt}
use Rattle.std.proofs.lemmas.Bool.{and_parts as both, and_from as join}
use Rattle.std.proofs.lemmas.Bool.Decides.{nat_tests}
use Rattle.std.proofs.lemmas.List.Quantifiers.{position-Some}
use Rattle.gix_date.specs.Careful.Dates.{day_named}
use Rattle.gix_date.specs.Fields.DateFields.{month_named, is_weekday}
use Rattle.gix_date.specs.Fields.FieldTexts.{AreThreeLetters}
use Rattle.gix_date.specs.Text.LongNames.{month_of_word, weekday_of_word}
use Rattle.gix_date.specs.Text.Names.{is_name, month_names, day_names}

pub month-is : (a b c : ℕ) → month_of_word (a ∷ b ∷ c ∷ []) ≡ month_named (a ∷ b ∷ c ∷ [])
unfolding month_of_word month_named
month-is a b c = refl

pub day_is_named : (a b c : ℕ) → weekday_of_word (a ∷ b ∷ c ∷ []) ≡ day_named (a ∷ b ∷ c ∷ [])
unfolding weekday_of_word day_named
day_is_named a b c = refl

is-some : {X : Type 0} (b : Bool) (x : X) → is_some (cond b (Some x) None) ≡ b
is-some true x = refl
is-some false x = refl

lt-any : {X : Type 0} (p : X → Bool) (xs : List X) → nat_lt (position_or_len p xs) (length xs) ≡ list_any p xs
lt-any p [] = refl
lt-any p (x ∷ xs) = by (p x) (position_or_len p xs) (length xs) (list_any p xs) (lt-any p xs)
  where
    by : (b : Bool) (n m : ℕ) (any : Bool) → nat_lt n m ≡ any → nat_lt (cond (not b) (1 + n) 0) (suc m) ≡ (b || any)
    by false n m true e = grind (arith, nat_tests)
    by x n m any e = grind (arith, nat_tests)

some-any : {X : Type 0} (p : X → Bool) (xs : List X) → is_some (position p xs) ≡ list_any p xs
some-any p xs = is-some (nat_lt (position_or_len p xs) (length xs)) (position_or_len p xs) ∙ lt-any p xs

pub weekday_is : (a b c : ℕ) → is_some (weekday_of_word (a ∷ b ∷ c ∷ [])) ≡ is_weekday (a ∷ b ∷ c ∷ [])
unfolding is_weekday day_named
weekday_is a b c = ap is_some (day_is_named a b c) ∙ some-any (is_name (a ∷ b ∷ c ∷ [])) day_names

-- a name of letters is told by letters alone
like-letter : (a x : ℕ) → (to_ascii_lowercase a == to_ascii_lowercase x) ≡ true → is_ascii_alphabetic x ≡ true
    → is_ascii_alphabetic a ≡ true
like-letter a x e h = grind (arith, nat_tests)

like-letters : (a b c : ℕ) (name : List ℕ) → is_name (a ∷ b ∷ c ∷ []) name ≡ true → list_all is_ascii_alphabetic name ≡ true
    → AreThreeLetters (a ∷ b ∷ c ∷ [])
like-letters a b c [] e h = absurd cc
like-letters a b c (x ∷ []) e h = absurd (let p = both (to_ascii_lowercase a == to_ascii_lowercase x) false e in cc)
like-letters a b c (x ∷ y ∷ []) e h = grind (arith, both)
like-letters a b c (x ∷ y ∷ z ∷ more) e h = grind (arith, both, join, like-letter)

-- what passes for each of some names
pub all-at : (p : List ℕ → Bool) (names : List (List ℕ)) (k : ℕ) → list_all p names ≡ true → k < length names → p (get_or names k []) ≡ true
all-at p [] k h l = absurd (omega (arith, l))
all-at p (x ∷ xs) zero h l = (both (p x) (list_all p xs) h).0
all-at p (x ∷ xs) (suc k) h l = all-at p xs k (both (p x) (list_all p xs) h).1 (omega (arith, l))

letters-at : (a b c : ℕ) (names : List (List ℕ)) (k : ℕ) → list_all (list_all is_ascii_alphabetic) names ≡ true
    → position (is_name (a ∷ b ∷ c ∷ [])) names ≡ Some k
    → AreThreeLetters (a ∷ b ∷ c ∷ [])
letters-at a b c names k h e =
    let at = position-Some (is_name (a ∷ b ∷ c ∷ [])) names k [] e in
    like-letters a b c (get_or names k []) at.1 (all-at (list_all is_ascii_alphabetic) names k h at.0)

pub month_has_letters : (a b c : ℕ) → is_some (month_of_word (a ∷ b ∷ c ∷ [])) ≡ true → AreThreeLetters (a ∷ b ∷ c ∷ [])
unfolding month_named
month_has_letters a b c e = by (position (is_name (a ∷ b ∷ c ∷ [])) month_names) refl (ap is_some (sym (month-is a b c)) ∙ e)
  where
    by : (o : Option ℕ) → position (is_name (a ∷ b ∷ c ∷ [])) month_names ≡ o → is_some (option_map (λ place. place + 1) o) ≡ true
        → AreThreeLetters (a ∷ b ∷ c ∷ [])
    by None e h = absurd cc
    by (Some k) e h = letters-at a b c month_names k refl e

-- what the attribute of a function names, for which a dash is no letter
pub ruleset months_of_words = (month-is, month_has_letters)

pub day_has_letters : (a b c : ℕ) → is_weekday (a ∷ b ∷ c ∷ []) ≡ true → AreThreeLetters (a ∷ b ∷ c ∷ [])
unfolding is_weekday
day_has_letters a b c e = by (position (is_name (a ∷ b ∷ c ∷ [])) day_names) refl (some-any (is_name (a ∷ b ∷ c ∷ [])) day_names ∙ e)
  where
    by : (o : Option ℕ) → position (is_name (a ∷ b ∷ c ∷ [])) day_names ≡ o → is_some o ≡ true → AreThreeLetters (a ∷ b ∷ c ∷ [])
    by None e h = absurd cc
    by (Some k) e h = letters-at a b c day_names k refl e
