-- A line has one cut at most.
use Rattle.std.proofs.Common.{arith}
use Rattle.std.proofs.Common.{◌≡◌, ◌∙◌, ℕ, Bool, true, false, not, ◌==◌, List, [], ◌∷◌, ◌++◌, drop, get_or, refl, ap, sym}
use Rattle.std.proofs.Common.{append_assoc, ◌+◌, ◌<◌, take, length, length-append, subst}
use Rattle.std.proofs.lemmas.Grind.{common_steps}
use Rattle.std.proofs.lemmas.Str.{IsCharBoundary-after_ascii, IsCharBoundary-at_seam}
use Rattle.std.proofs.lemmas.Str.{IsUtf8-append, IsUtf8-from_ascii, IsUtf8-take, IsUtf8-drop}
use Rattle.std.proofs.lemmas.Str.Ascii.{IsAscii-nil, IsAscii-cons}
use Rattle.std.specs.Str.{IsUtf8}
use Rattle.std.proofs.lemmas.Bool.{and_from, and_parts}
use Rattle.std.proofs.lemmas.Bool.Decides.{nat_tests}
use Rattle.std.proofs.lemmas.List.{append_cancel_right}
use Rattle.std.proofs.lemmas.List.Folds.{list_all-append}
use Rattle.std.specs.List.{list_all}
use Rattle.std.specs.Prelude.{codes}
use Rattle.gix_date.proofs.Text.AsciiCuts.{all-append}
use Rattle.gix_signature.specs.Signature.{Parts, IsCut, is_allowed, is_part, are_parts, line_of, opening, closing}

-- what passes one test passes another
pub all-of : (p q : ℕ → Bool) → ((c : ℕ) → p c ≡ true → q c ≡ true) → (xs : List ℕ) → list_all p xs ≡ true → list_all q xs ≡ true
all-of p q to [] h = refl
all-of p q to (x ∷ xs) h = let each = and_parts (p x) (list_all p xs) h in
    and_from (q x) (list_all q xs) (to x each.0) (all-of p q to xs each.1)

not-all : (p : ℕ → Bool) (c : ℕ) (xs ys : List ℕ) → p c ≡ false → list_all p (xs ++ (c ∷ ys)) ≡ true → ⊥
not-all p c xs ys other h = grind (arith, and_parts, list_all-append)

-- a byte that stands once in a text tells where the text is cut at it
one-place : (p : ℕ → Bool) (c : ℕ) (xs ys us vs : List ℕ) → p c ≡ false → list_all p us ≡ true → list_all p vs ≡ true
    → xs ++ (c ∷ ys) ≡ us ++ (c ∷ vs) → (xs ≡ us) × (ys ≡ vs)
one-place p c [] ys [] vs other a b e = (refl, ap (drop 1) e)
one-place p c [] ys (u ∷ us) vs other a b e = grind (arith, and_parts)
one-place p c (x ∷ xs) ys [] vs other a b e = absurd (not-all p c xs ys other (ap (λ l. list_all p (drop 1 l)) e ∙ b))
one-place p c (x ∷ xs) ys (u ∷ us) vs other a b e =
    let rest = one-place p c xs ys us vs other (and_parts (p u) (list_all p us) a).1 b (ap (drop 1) e) in
    let heads : x ≡ u = ap (λ l. get_or l 0 0) e in
    (λ i. heads i ∷ rest.0 i, rest.1)

abbrev pub not_opening : ℕ → Bool
not_opening c = not (c == opening)

-- a part holds no `<`
pub no-opening : (xs : List ℕ) → is_part xs ≡ true → list_all not_opening xs ≡ true
no-opening = all-of is_allowed not_opening (λ c h. grind (arith, nat_tests, h))

-- what stands after ` <`
abbrev pub after_name : Parts → List ℕ
after_name p = p.email ++ (codes "> " ++ p.time)

-- none of these parts holds a forbidden byte
pub record ArePlain (p : Parts) : Type 0 where
  pub name : is_part p.name ≡ true
  pub email : is_part p.email ≡ true
  pub time : is_part p.time ≡ true

pub plain : (p : Parts) → are_parts p ≡ true → ArePlain p
plain p h = grind (arith, and_parts)

-- the name with the space after it, `<` and what stands after that
pub marked : (name rest : List ℕ) → name ++ (codes " <" ++ rest) ≡ (name ++ (32 ∷ [])) ++ (opening ∷ rest)
marked name rest = sym (append_assoc name (32 ∷ []) (opening ∷ rest))

-- where its first bracket stands in a line that has a cut, the line is cut
pub the-front : (line front inside : List ℕ) (q : Parts) → line ≡ front ++ (opening ∷ inside) → IsCut line q
    → (front ≡ q.name ++ (32 ∷ [])) × (inside ≡ after_name q)
the-front line front inside q whole cut =
    let are = plain q cut.allowed in
    let after : list_all not_opening (codes "> " ++ q.time) ≡ true = no-opening q.time are.time in
    one-place not_opening opening front inside (q.name ++ (32 ∷ [])) (after_name q) refl
    (all-append not_opening q.name (32 ∷ []) (no-opening q.name are.name) refl)
    (all-append not_opening q.email (codes "> " ++ q.time) (no-opening q.email are.email) after)
    (sym whole ∙ cut.whole ∙ marked q.name (after_name q))

-- and where its next bracket does
pub the-rest : (inside email rest : List ℕ) (q : Parts) → inside ≡ email ++ (closing ∷ rest) → ArePlain q → inside ≡ after_name q
    → (email ≡ q.email) × (rest ≡ 32 ∷ q.time)
the-rest inside email rest q whole are same =
    one-place is_allowed closing email rest q.email (32 ∷ q.time) refl are.email are.time (sym whole ∙ same)

-- where its marks stand in a line that has a cut, the line is cut, whatever stands between them
pub the_cut : (line : List ℕ) (p q : Parts) → line ≡ line_of p → IsCut line q → p ≡ q
the_cut line p q whole cut =
    let are = plain q cut.allowed in
    let blank : List ℕ = 32 ∷ [] in
    let front = the-front line (p.name ++ blank) (after_name p) q (whole ∙ marked p.name (after_name p)) cut in
    let rest = the-rest (after_name p) p.email (32 ∷ p.time) q refl are front.1 in
    let names = append_cancel_right p.name q.name blank front.0 in
    let times : p.time ≡ q.time = ap (drop 1) rest.1 in
    (λ i. record { name = names i; email = rest.0 i; time = times i })

-- a line that is taken apart at its marks into what may not stand has no cut
pub no-cut : (line : List ℕ) (p : Parts) → line ≡ line_of p → are_parts p ≡ false → (q : Parts) → IsCut line q → ⊥
no-cut line p whole bad q cut = grind (arith, the_cut)

-- where ASCII stands between two texts, both are UTF-8
pub around_ascii : (text xs ys : List ℕ) (c : ℕ) → c < 128 → text ≡ xs ++ (c ∷ ys) → IsUtf8 text → IsUtf8 xs × IsUtf8 ys
around_ascii text xs ys c small whole utf8 =
    let n = length xs in
    let long : length text ≡ n + length (c ∷ ys) = ap (λ (l : List ℕ). length l) whole ∙ length-append xs (c ∷ ys) in
    let here : get_or text n 0 < 128 = grind (arith, common_steps, whole, small) in
    let after : IsUtf8 (drop (n + 1) text) =
    IsUtf8-drop text (n + 1) utf8 (IsCharBoundary-after_ascii text n utf8 (omega (arith, long)) here) in
    let behind : drop (n + 1) text ≡ ys = grind (arith, common_steps, whole) in
    let rest : IsUtf8 ys = subst IsUtf8 behind after in
    let more : IsUtf8 (c ∷ ys) = IsUtf8-append (c ∷ []) ys (IsUtf8-from_ascii (c ∷ []) (IsAscii-cons c [] small IsAscii-nil)) rest in
    let before : take n text ≡ xs = grind (arith, common_steps, whole) in
    (subst IsUtf8 before (IsUtf8-take text n utf8 (IsCharBoundary-at_seam text xs (c ∷ ys) whole more)), rest)

-- a part that is empty, or holds a byte that may stand in none, is no line's time
no-true : (b : Bool) → b ≡ true → b ≡ false → ⊥
no-true b h k = grind arith

pub bad_time : (time : List ℕ) (q : Parts) → time ≡ q.time → are_parts q ≡ true → is_part time ≡ false → ⊥
bad_time time q same are bad = no-true (is_part q.time) (plain q are).time (ap is_part (sym same) ∙ bad)

pub no_time : (time : List ℕ) (q : Parts) → time ≡ q.time → are_parts q ≡ true → true ≡ (length time == 0) → ⊥
no_time time q same are none =
    let empty : (length q.time == 0) ≡ true = ap (λ (l : List ℕ). length l == 0) (sym same) ∙ sym none in
    grind (arith, nat_tests, and_parts, are, empty)
