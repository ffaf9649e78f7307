-- The words of a text and of the text without white space at its ends; what the first word begins with.
use Rattle.std.proofs.Common.{◌≡◌, ◌∙◌, ℕ, Bool, true, false, cond, List, [], ◌∷◌, ◌++◌, map, filter, length, refl, ap, sym, arith}
use Rattle.std.proofs.Common.{append-nil, IsAscii, encode_utf8_all, IsUtf8}
use Rattle.std.proofs.lemmas.Bool.{and_parts as both, and_from as join}
use Rattle.std.proofs.lemmas.Bool.Decides.{nat_tests}
use Rattle.std.proofs.lemmas.List.Elements.{filter-append}
use Rattle.std.proofs.lemmas.List.Splits.{slice_split-cons_yes, slice_split-cons_no}
use Rattle.std.proofs.lemmas.Str.{chars-encodes, chars-append, chars-IsAscii, encodes-IsAscii, encodes-append, scalars-chars}
use Rattle.std.proofs.lemmas.Str.{IsUtf8-from_ascii}
use Rattle.std.proofs.lemmas.Str.Ascii.{IsAscii-nil, IsAscii-cons}
use Rattle.std.specs.Char.{is_whitespace}
use Rattle.std.specs.List.{slice_split, onto_first}
use Rattle.std.specs.Prelude.{◌==◌, ◌&&◌, nat_lt}
use Rattle.std.specs.Str.{chars, all_scalars, trim, trim_start, trim_end, skip_leading_whitespace, drop_trailing_whitespace}
use Rattle.gix_date.specs.Text.SpaceWords.{is_nonempty, runs, space_words}
use Rattle.gix_date.proofs.Text.WordsWithin.{parts-of, onto-append}

-- what stands after white space
skip-by : (c : ℕ) (cs : List ℕ) (b : Bool) → is_whitespace c ≡ b → runs (skip_leading_whitespace cs) ≡ runs cs
    → runs (cond b (skip_leading_whitespace cs) (c ∷ cs)) ≡ runs (c ∷ cs)
skip-by c cs true e h = h ∙ sym (ap (filter is_nonempty) (slice_split-cons_yes is_whitespace c cs e))
skip-by c cs false e h = refl

skip-runs : (cs : List ℕ) → runs (skip_leading_whitespace cs) ≡ runs cs
skip-runs [] = refl
skip-runs (c ∷ cs) = skip-by c cs (is_whitespace c) refl (skip-runs cs)

skip-scalars-by : (c : ℕ) (cs : List ℕ) (b : Bool) → all_scalars (c ∷ cs) ≡ true → all_scalars (skip_leading_whitespace cs) ≡ true
    → all_scalars (cond b (skip_leading_whitespace cs) (c ∷ cs)) ≡ true
skip-scalars-by c cs true h more = more
skip-scalars-by c cs false h more = h

pub skip-scalars : (cs : List ℕ) → all_scalars cs ≡ true → all_scalars (skip_leading_whitespace cs) ≡ true
skip-scalars [] h = h
skip-scalars (c ∷ cs) h = skip-scalars-by c cs (is_whitespace c) h (skip-scalars cs ((both _ (all_scalars cs) h).1))

-- what is cut off at the end is empty parts
record Trails (cs ts : List ℕ) : Type 0 where
  pub empty : List (List ℕ)
  pub none : filter is_nonempty empty ≡ []
  pub is : slice_split is_whitespace cs ≡ slice_split is_whitespace ts ++ empty

trails-word : (c : ℕ) (cs ts : List ℕ) → is_whitespace c ≡ false → Trails cs ts → Trails (c ∷ cs) (c ∷ ts)
trails-word c cs ts e h =
    let parts = parts-of is_whitespace ts in
    record {
      empty = h.empty;
      none = h.none;
      is = slice_split-cons_no is_whitespace c cs e ∙ ap (onto_first c) h.is
          ∙ onto-append c (slice_split is_whitespace ts) h.empty parts.part parts.parts parts.is
          ∙ sym (ap (λ (ps : List (List ℕ)). ps ++ h.empty) (slice_split-cons_no is_whitespace c ts e));
    }

trails-space : (c : ℕ) (cs ts : List ℕ) → is_whitespace c ≡ true → Trails cs ts → Trails (c ∷ cs) (c ∷ ts)
trails-space c cs ts e h = grind (arith, slice_split-cons_yes)

trails-end : (c : ℕ) (cs : List ℕ) → is_whitespace c ≡ true → Trails cs [] → Trails (c ∷ cs) []
trails-end c cs e h =
    record {
      empty = [] ∷ h.empty;
      none = h.none;
      is = slice_split-cons_yes is_whitespace c cs e ∙ ap (λ (ps : List (List ℕ)). [] ∷ ps) h.is;
    }

trails-by : (c : ℕ) (cs ts : List ℕ) (b : Bool) → is_whitespace c ≡ b → Trails cs ts
    → Trails (c ∷ cs) (cond (b && length ts == 0) [] (c ∷ ts))
trails-by c cs ts false e h = trails-word c cs ts e h
trails-by c cs [] true e h = trails-end c cs e h
trails-by c cs (t ∷ ts) true e h = grind (arith, nat_tests, trails-space)

trails : (cs : List ℕ) → Trails cs (drop_trailing_whitespace cs)
trails [] = record { empty = []; none = refl; is = refl }
trails (c ∷ cs) = trails-by c cs (drop_trailing_whitespace cs) (is_whitespace c) refl (trails cs)

drop-runs : (cs : List ℕ) → runs (drop_trailing_whitespace cs) ≡ runs cs
drop-runs cs =
    let h = trails cs in
    let ts = slice_split is_whitespace (drop_trailing_whitespace cs) in
    sym (ap (filter is_nonempty) h.is ∙ filter-append is_nonempty ts h.empty
    ∙ ap (λ (ps : List (List ℕ)). filter is_nonempty ts ++ ps) h.none ∙ append-nil (filter is_nonempty ts))

or-none : (b : Bool) (ts : List ℕ) → all_scalars ts ≡ true → all_scalars (cond b [] ts) ≡ true
or-none true ts h = refl
or-none false ts h = h

pub drop-scalars : (cs : List ℕ) → all_scalars cs ≡ true → all_scalars (drop_trailing_whitespace cs) ≡ true
drop-scalars [] h = h
drop-scalars (c ∷ cs) h =
    let parts = both _ (all_scalars cs) h in
    or-none (is_whitespace c && length (drop_trailing_whitespace cs) == 0) (c ∷ drop_trailing_whitespace cs)
    (join _ (all_scalars (drop_trailing_whitespace cs)) parts.0 (drop-scalars cs parts.1))

-- The words of a text are those of the text without white space at its ends.
pub trimmed-words : (text : List ℕ) → IsUtf8 text → space_words (trim text) ≡ space_words text
unfolding space_words trim_start trim_end
trimmed-words text u = grind (arith, skip-scalars, scalars-chars, chars-encodes, drop-scalars, drop-runs, skip-runs)

-- visible ASCII
abbrev pub is_visible : ℕ → Bool
is_visible c = nat_lt 32 c && nat_lt c 127

abbrev pub AreVisible : List ℕ → Type 0
AreVisible [] = Unit {0}
AreVisible (c ∷ t) = (is_visible c ≡ true) × AreVisible t

pub visible_stays : (c : ℕ) → is_visible c ≡ true → is_whitespace c ≡ false
visible_stays c h = grind (arith, nat_tests, h)

pub are-ascii : (t : List ℕ) → AreVisible t → IsAscii t
are-ascii [] h = IsAscii-nil
are-ascii (c ∷ t) h = IsAscii-cons c t (grind (arith, nat_tests, h.0)) (are-ascii t h.1)

-- a front of visible bytes is in the first part
front-part : (p cs part : List ℕ) (parts : List (List ℕ)) → AreVisible p → slice_split is_whitespace cs ≡ part ∷ parts
    → slice_split is_whitespace (p ++ cs) ≡ (p ++ part) ∷ parts
front-part [] cs part parts h e = e
front-part (c ∷ p) cs part parts h e = slice_split-cons_no is_whitespace c (p ++ cs) (visible_stays c h.0)
    ∙ ap (onto_first c) (front-part p cs part parts h.1 e)

-- the first word begins with this front
pub record FirstBegins (text front : List ℕ) : Type 0 where
  pub rest : List ℕ
  pub words : List (List ℕ)
  pub is : space_words text ≡ (front ++ rest) ∷ words

pub first-begins : (c : ℕ) (p q : List ℕ) → AreVisible (c ∷ p) → FirstBegins ((c ∷ p) ++ q) (c ∷ p)
unfolding space_words
first-begins c p q h =
    let front = c ∷ p in
    let ascii = are-ascii front h in
    let parts = parts-of is_whitespace (chars q) in
    let read : chars (front ++ q) ≡ front ++ chars q = chars-append front q (IsUtf8-from_ascii front ascii)
    ∙ ap (λ (t : List ℕ). t ++ chars q) (chars-IsAscii front ascii) in
    let first : encode_utf8_all (front ++ parts.part) ≡ front ++ encode_utf8_all parts.part = encodes-append front parts.part
    ∙ ap (λ (t : List ℕ). t ++ encode_utf8_all parts.part) (encodes-IsAscii front ascii) in
    let words = map encode_utf8_all (filter is_nonempty parts.parts) in
    record {
      rest = encode_utf8_all parts.part;
      words = words;
      is = ap (λ (cs : List ℕ). map encode_utf8_all (runs cs)) read
          ∙ ap (λ (ps : List (List ℕ)). map encode_utf8_all (filter is_nonempty ps))
          (front-part front (chars q) parts.part parts.parts h parts.is)
          ∙ ap (λ (t : List ℕ). t ∷ words) first;
    }
