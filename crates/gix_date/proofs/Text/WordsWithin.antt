-- The relative words of a text are those of its space words, and what the first of these begins with.
use Rattle.std.proofs.Common.{◌≡◌, ◌∙◌, ◌<◌, ◌≤◌, ℕ, Bool, true, false, List, [], ◌∷◌, ◌++◌, map, filter, length, get_or, refl, ap, ap₂}
use Rattle.std.proofs.Common.{sym, arith, append_assoc, append-nil, suc, flat_map, encode_utf8, encode_utf8_all, IsUtf8, inl, inr}
use Rattle.std.proofs.lemmas.Bool.Decides.{nat_tests}
use Rattle.std.proofs.lemmas.Bool.{cases_lt}
use Rattle.std.proofs.lemmas.List.Elements.{filter-append}
use Rattle.std.proofs.lemmas.List.Splits.{slice_split-cons_yes, slice_split-cons_no}
use Rattle.std.proofs.lemmas.Str.{encodes-chars, inside_one, length-encode, len_utf8_bounds}
use Rattle.std.specs.Char.{is_whitespace}
use Rattle.std.specs.List.{slice_split, onto_first}
use Rattle.std.specs.Prelude.{◌⊎◌}
use Rattle.std.specs.Str.{chars}
use Rattle.gix_date.specs.Relative.Words.{relative_words, is_gap}
use Rattle.gix_date.specs.Text.SpaceWords.{is_nonempty, space_words}

-- a list that is cut has a first part
pub record Parts (p : ℕ → Bool) (x : List ℕ) : Type 0 where
  pub part : List ℕ
  pub parts : List (List ℕ)
  pub is : slice_split p x ≡ part ∷ parts

parts-by : (p : ℕ → Bool) (c : ℕ) (x : List ℕ) (b : Bool) → p c ≡ b → Parts p x → Parts p (c ∷ x)
parts-by p c x true e h = record { part = []; parts = slice_split p x; is = slice_split-cons_yes p c x e }
parts-by p c x false e h = record { part = c ∷ h.part; parts = h.parts; is = slice_split-cons_no p c x e ∙ ap (onto_first c) h.is }

pub parts-of : (p : ℕ → Bool) (x : List ℕ) → Parts p x
parts-of p [] = record { part = []; parts = []; is = refl }
parts-of p (c ∷ x) = parts-by p c x (p c) refl (parts-of p x)

pub onto-append : (c : ℕ) (xs ys : List (List ℕ)) (part : List ℕ) (parts : List (List ℕ)) → xs ≡ part ∷ parts
    → onto_first c (xs ++ ys) ≡ onto_first c xs ++ ys
onto-append c xs ys part parts e = rw e refl

cut-by : (p : ℕ → Bool) (c : ℕ) (x : List ℕ) (g : ℕ) (y : List ℕ) (b : Bool) → p c ≡ b
    → slice_split p (x ++ (g ∷ y)) ≡ slice_split p x ++ slice_split p y
    → slice_split p (c ∷ (x ++ (g ∷ y))) ≡ slice_split p (c ∷ x) ++ slice_split p y
cut-by p c x g y true e h = grind (arith, slice_split-cons_yes)
cut-by p c x g y false e h =
    let parts = parts-of p x in
    slice_split-cons_no p c (x ++ (g ∷ y)) e
    ∙ ap (onto_first c) h
    ∙ onto-append c (slice_split p x) (slice_split p y) parts.part parts.parts parts.is
    ∙ sym (ap (λ (ps : List (List ℕ)). ps ++ slice_split p y) (slice_split-cons_no p c x e))

cut-append : (p : ℕ → Bool) (x : List ℕ) (g : ℕ) (y : List ℕ) → p g ≡ true
    → slice_split p (x ++ (g ∷ y)) ≡ slice_split p x ++ slice_split p y
cut-append p [] g y h = slice_split-cons_yes p g y h
cut-append p (c ∷ x) g y h = cut-by p c x g y (p c) refl (cut-append p x g y h)

-- bytes of no word
abbrev pub AreGaps : List ℕ → Type 0
AreGaps [] = Unit {0}
AreGaps (g ∷ gs) = (is_gap g ≡ true) × AreGaps gs

pub skip-gaps : (gs y : List ℕ) → AreGaps gs → relative_words (gs ++ y) ≡ relative_words y
unfolding relative_words
skip-gaps [] y h = refl
skip-gaps (g ∷ gs) y h = ap (filter is_nonempty) (slice_split-cons_yes is_gap g (gs ++ y) h.0) ∙ skip-gaps gs y h.1

pub one-gap : (x : List ℕ) (g : ℕ) (y : List ℕ) → is_gap g ≡ true → relative_words (x ++ (g ∷ y)) ≡ relative_words x ++ relative_words y
unfolding relative_words
one-gap x g y h = grind (arith, cut-append, filter-append)

gap-between : (x e y : List ℕ) → AreGaps e → 0 < length e → relative_words (x ++ (e ++ y)) ≡ relative_words x ++ relative_words y
gap-between x [] y h long = absurd (omega arith)
gap-between x (g ∷ gs) y h long = one-gap x g (gs ++ y) h.0 ∙ ap (λ (ws : List (List ℕ)). relative_words x ++ ws) (skip-gaps gs y h.1)

gaps-from : (xs : List ℕ) → ((k : ℕ) → k < length xs → is_gap (get_or xs k 0) ≡ true) → AreGaps xs
gaps-from [] h = tt
gaps-from (x ∷ xs) h = (h 0 (omega arith), gaps-from xs (λ k l. h (suc k) (omega (arith, l))))

white-gap : (c : ℕ) → c < 128 → is_whitespace c ≡ true → is_gap c ≡ true
white-gap c l h = grind (arith, nat_tests, h)

byte-gap : (c k : ℕ) → is_whitespace c ≡ true → k < length (encode_utf8 c)
    → (get_or (encode_utf8 c) k 0 < 128) ⊎ (128 ≤ get_or (encode_utf8 c) k 0) → is_gap (get_or (encode_utf8 c) k 0) ≡ true
byte-gap c k w l (inl small) =
    let same : c ≡ get_or (encode_utf8 c) k 0 = inside_one c [] (encode_utf8 c) k (sym (append-nil (encode_utf8 c))) l small in
    ap is_gap (sym same) ∙ white-gap c (omega (arith, same, small)) w
byte-gap c k w l (inr large) = grind (arith, nat_tests, large)

white-gaps : (c : ℕ) → is_whitespace c ≡ true → AreGaps (encode_utf8 c)
white-gaps c h = gaps-from (encode_utf8 c) (λ k l. byte-gap c k h l (cases_lt (get_or (encode_utf8 c) k 0) 128))

-- the relative words of a text's parts
abbrev part_words : List ℕ → List (List ℕ)
part_words part = relative_words (encode_utf8_all part)

abbrev words_of_parts : List ℕ → List (List ℕ) → List (List ℕ)
words_of_parts x [] = relative_words x
words_of_parts x (part ∷ parts) = relative_words (x ++ encode_utf8_all part) ++ flat_map part_words parts

no-front : (ps : List (List ℕ)) (part : List ℕ) (parts : List (List ℕ)) → ps ≡ part ∷ parts → words_of_parts [] ps ≡ flat_map part_words ps
no-front ps part parts e = rw e refl

words-by : (x : List ℕ) (c : ℕ) (cs : List ℕ) (b : Bool) → is_whitespace c ≡ b
    → ((x : List ℕ) → relative_words (x ++ encode_utf8_all cs) ≡ words_of_parts x (slice_split is_whitespace cs))
    → relative_words (x ++ (encode_utf8 c ++ encode_utf8_all cs)) ≡ words_of_parts x (slice_split is_whitespace (c ∷ cs))
words-by x c cs true e more =
    let parts = parts-of is_whitespace cs in
    gap-between x (encode_utf8 c) (encode_utf8_all cs) (white-gaps c e) (omega (arith, length-encode c, len_utf8_bounds c))
    ∙ ap₂ (λ (a b : List (List ℕ)). a ++ b) (ap relative_words (sym (append-nil x)))
    (more [] ∙ no-front (slice_split is_whitespace cs) parts.part parts.parts parts.is)
    ∙ sym (ap (words_of_parts x) (slice_split-cons_yes is_whitespace c cs e))
words-by x c cs false e more =
    let parts = parts-of is_whitespace cs in
    ap relative_words (sym (append_assoc x (encode_utf8 c) (encode_utf8_all cs)))
    ∙ more (x ++ encode_utf8 c)
    ∙ (rw parts.is (ap (λ (t : List ℕ). relative_words t ++ flat_map part_words parts.parts)
    (append_assoc x (encode_utf8 c) (encode_utf8_all parts.part))))
    ∙ sym (ap (words_of_parts x) (slice_split-cons_no is_whitespace c cs e))

words-from : (x cs : List ℕ) → relative_words (x ++ encode_utf8_all cs) ≡ words_of_parts x (slice_split is_whitespace cs)
words-from x [] = sym (append-nil (relative_words (x ++ [])))
words-from x (c ∷ cs) = words-by x c cs (is_whitespace c) refl (λ y. words-from y cs)

-- an empty part has no words
pub none-of-empty : relative_words [] ≡ []
unfolding relative_words
none-of-empty = refl

of-words : (ps : List (List ℕ)) → flat_map part_words ps ≡ flat_map relative_words (map encode_utf8_all (filter is_nonempty ps))
of-words [] = refl
of-words ([] ∷ ps) = rw none-of-empty (of-words ps)
of-words ((c ∷ part) ∷ ps) = ap (λ (ws : List (List ℕ)). part_words (c ∷ part) ++ ws) (of-words ps)

-- The relative words of a text are those of its space words, one after the other.
pub words-within : (text : List ℕ) → IsUtf8 text → relative_words text ≡ flat_map relative_words (space_words text)
unfolding space_words
words-within text u =
    let cs = chars text in
    let parts = parts-of is_whitespace cs in
    ap relative_words (sym (encodes-chars text u))
    ∙ words-from [] cs
    ∙ no-front (slice_split is_whitespace cs) parts.part parts.parts parts.is
    ∙ of-words (slice_split is_whitespace cs)
