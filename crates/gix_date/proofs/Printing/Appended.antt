-- Texts that are made piece by piece, each appended to the one before.
use Rattle.std.proofs.Common.{◌≡◌, ◌∙◌, ℕ, List, [], ◌∷◌, ◌++◌, ap, refl, append_assoc}
use Rattle.gix_date.specs.Text.Characters.{space}

-- the first piece
pub begun : (old new x : List ℕ) → old ≡ [] → new ≡ old ++ x → new ≡ x
begun old new x e f = f ∙ ap (λ (b : List ℕ). b ++ x) e

-- two pieces after a text are one
pub appended : (old middle new x y : List ℕ) → middle ≡ old ++ x → new ≡ middle ++ y → new ≡ old ++ (x ++ y)
appended old middle new x y e f = f ∙ ap (λ (b : List ℕ). b ++ y) e ∙ append_assoc old x y

-- and so are the same pieces, joined otherwise
pub joined_so : (old new x y : List ℕ) → new ≡ old ++ x → x ≡ y → new ≡ old ++ y
joined_so old new x y e f = e ∙ ap (λ (b : List ℕ). old ++ b) f

pub three-joined : (text a b c : List ℕ) → ((text ++ a) ++ b) ++ c ≡ text ++ (a ++ (b ++ c))
three-joined text a b c = simp append_assoc refl

pub four-joined : (text a b c d : List ℕ) → (((text ++ a) ++ b) ++ c) ++ d ≡ text ++ (a ++ (b ++ (c ++ d)))
four-joined text a b c d = simp append_assoc refl

-- a day of the week, a month, and more
pub names-joined : (weekday month day rest : List ℕ)
    → (((weekday ++ (space ∷ [])) ++ (month ++ (space ∷ []))) ++ day) ++ rest ≡ weekday ++ (space ∷ (month ++ (space ∷ (day ++ rest))))
names-joined weekday month day rest = simp append_assoc refl

-- more after the day of the month
pub dates_joined : (weekday month day rest more : List ℕ)
    → (weekday ++ (space ∷ (month ++ (space ∷ (day ++ rest))))) ++ more ≡ weekday ++ (space ∷ (month ++ (space ∷ (day ++ (rest ++ more)))))
dates_joined weekday month day rest more = simp append_assoc refl
