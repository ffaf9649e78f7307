-- The case of ASCII letters changes no count.
use Rattle.std.proofs.Common.{◌≡◌, ◌∙◌, ℕ, Bool, true, false, cond, List, [], ◌∷◌, refl, ap, ap₂, arith}
use Rattle.std.proofs.lemmas.Bool.{and_parts as both}
use Rattle.std.proofs.lemmas.Bool.Decides.{nat_tests}
use Rattle.std.proofs.lemmas.Str.Ascii.{lowercase-lowercase}
use Rattle.std.specs.Char.{is_ascii_digit, to_ascii_lowercase}
use Rattle.std.specs.List.{list_all}
use Rattle.std.specs.Prelude.{◌&&◌}
use Rattle.std.specs.Str.{str_to_ascii_lowercase}
use Rattle.gix_date.specs.Relative.Words.{count_of, named_count, number_named}
use Rattle.gix_date.specs.Text.Numbers.{int_value}
use Rattle.gix_date.proofs.Relative.QuietWords.{like-name}

abbrev pub low : List ℕ → List ℕ
low = str_to_ascii_lowercase

pub low-twice : (t : List ℕ) → low (low t) ≡ low t
low-twice [] = refl
low-twice (c ∷ t) = ap₂ (λ (a : ℕ) (b : List ℕ). a ∷ b) (lowercase-lowercase c) (low-twice t)

-- what one word says in small letters
pub low-digit : (c : ℕ) → is_ascii_digit (to_ascii_lowercase c) ≡ is_ascii_digit c
low-digit c = grind (arith, nat_tests)

pub digit-stays : (c : ℕ) → is_ascii_digit c ≡ true → to_ascii_lowercase c ≡ c
digit-stays c h = grind (arith, nat_tests, h)

pub digits-low : (t : List ℕ) → list_all is_ascii_digit (low t) ≡ list_all is_ascii_digit t
digits-low [] = refl
digits-low (c ∷ t) = ap₂ (λ (a b : Bool). a && b) (low-digit c) (digits-low t)

digits-stay : (t : List ℕ) → list_all is_ascii_digit t ≡ true → low t ≡ t
digits-stay [] h = refl
digits-stay (c ∷ t) h =
    let p = both (is_ascii_digit c) (list_all is_ascii_digit t) h in
    ap₂ (λ (a : ℕ) (b : List ℕ). a ∷ b) (digit-stays c p.0) (digits-stay t p.1)

number-low : (w : List ℕ) → number_named (low w) ≡ number_named w
unfolding number_named
number-low w = grind (arith, like-name, low-twice)

named-low : (w : List ℕ) → named_count (low w) ≡ named_count w
unfolding named_count
named-low w = grind (arith, like-name, low-twice, number-low)

count-by : (w : List ℕ) (b : Bool) → list_all is_ascii_digit w ≡ b
    → cond b (int_value (low w)) (named_count (low w)) ≡ cond b (int_value w) (named_count w)
count-by w true e = ap int_value (digits-stay w e)
count-by w false e = named-low w

pub count-low : (w : List ℕ) → count_of (low w) ≡ count_of w
unfolding count_of
count-low w = ap (λ b. cond b (int_value (low w)) (named_count (low w))) (digits-low w) ∙ count-by w (list_all is_ascii_digit w) refl
