-- A word names a unit where it is a unit's name, alone or with one `s` after it.
use Rattle.std.proofs.lemmas.Bool.Decides.{nat_tests}
use Rattle.std.proofs.lemmas.Grind.{common_steps}
use Rattle.std.proofs.Common.{◌≡◌, ◌∙◌, ◌⊎◌, inl, inr, ℕ, ◌-◌, Bool, true, List, [], ◌∷◌, ◌++◌, length, map, take, get_or, refl, ap, arith}
use Rattle.std.proofs.Common.{Some}
use Rattle.std.proofs.lemmas.Bool.{or_cases, eqb-true as is-same}
use Rattle.std.proofs.lemmas.List.{length-append}
use Rattle.std.proofs.Math.Seq.{take-append_seam, get_or-append_seam}
use Rattle.std.specs.List.{list_any}
use Rattle.std.specs.Prelude.{◌==◌, ◌||◌}
use Rattle.gix_date.specs.Relative.Words.{PeriodUnit, singular, named_unit, unit_of, unit_names}
use Rattle.gix_date.specs.Text.Characters.{small_s, letter_s}
use Rattle.gix_date.specs.Text.Names.{is_name, named_in}
use Rattle.gix_date.proofs.Relative.QuietWords.{like-unit, lower-same, lower-singular, named-any, names_of, without_s}
use Rattle.gix_date.specs.Careful.Grammar.{IsUnitName}

either-s : (b : ℕ) → (b == small_s || b == letter_s) ≡ true → (b ≡ small_s) ⊎ (b ≡ letter_s)
either-s b h = grind (arith, or_cases, is-same)

last-split : (c : ℕ) (t : List ℕ) → c ∷ t ≡ take (length t) (c ∷ t) ++ (get_or (c ∷ t) (length t) 0 ∷ [])
last-split c [] = refl
last-split c (d ∷ t) = ap (λ (xs : List ℕ). c ∷ xs) (last-split d t)

split-at-end : (word : List ℕ) (b : Bool)
    → (get_or word (length word - 1) 0 == small_s || get_or word (length word - 1) 0 == letter_s) ≡ true
    → word ≡ take (length word - 1) word ++ (get_or word (length word - 1) 0 ∷ [])
split-at-end [] b h = absurd cc
split-at-end (c ∷ t) b h = grind (arith, nat_tests, common_steps, last-split)

pub unit-named : (word : List ℕ) (unit : PeriodUnit) → unit_of word ≡ Some unit → IsUnitName word unit
unfolding unit_of named_unit singular
unit-named word unit e = grind (arith, split-at-end, either-s)

-- a name has no `s` at its end
same-unit : (word name : List ℕ) → is_name word name ≡ true → unit_of name ≡ named_unit name → unit_of word ≡ named_unit word
unfolding unit_of
same-unit word name e same = grind (arith, lower-same, like-unit, lower-singular, without_s)

names-same : map unit_of (names_of unit_names) ≡ map named_unit (names_of unit_names)
unfolding unit_of singular named_unit
names-same = refl

any-same : (word : List ℕ) (names : List (List ℕ)) → map unit_of names ≡ map named_unit names → list_any (is_name word) names ≡ true
    → unit_of word ≡ named_unit word
any-same word [] h e = absurd cc
any-same word (name ∷ names) h e =
    let first : unit_of name ≡ named_unit name = cc in
    let others : map unit_of names ≡ map named_unit names = cc in
    by-either (or_cases (is_name word name) (list_any (is_name word) names) e) (λ n. same-unit word name n first)
    (λ m. any-same word names others m)
  where
    by-either : {A B C : Type 0} → A ⊎ B → (A → C) → (B → C) → C
    by-either (inl a) f g = f a
    by-either (inr b) f g = g b

with-s : (name : List ℕ) (s : ℕ) → (s ≡ small_s) ⊎ (s ≡ letter_s) → singular (name ++ (s ∷ [])) ≡ name
unfolding singular
with-s name s h = grind (arith, nat_tests, common_steps, length-append, get_or-append_seam, take-append_seam)

pub named-unit : (word : List ℕ) (unit : PeriodUnit) → IsUnitName word unit → unit_of word ≡ Some unit
unfolding unit_of named_unit
named-unit word unit (inl e) = any-same word (names_of unit_names) names-same (named-any unit_names word unit e) ∙ e
named-unit word unit (inr h) = ap unit_of h.2 ∙ ap (named_in unit_names) (with-s h.0 h.1 h.3) ∙ h.4
