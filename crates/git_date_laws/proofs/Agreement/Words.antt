-- A text of two words is these with white space round them, which Git skips.
use Rattle.std.proofs.Common.{◌≡◌, ◌∙◌, ◌<◌, ◌≤◌, inl, inr, ℕ, suc, Bool, true, false, List, [], ◌∷◌, ◌++◌, length, get_or, map, filter}
use Rattle.std.proofs.Common.{encode_utf8, encode_utf8_all, IsUtf8, refl, ap, ap₂, sym, subst, arith, append_assoc, append-nil}
use Rattle.std.proofs.Common.{length-append}
use Rattle.std.proofs.lemmas.Bool.{cases_lt}
use Rattle.std.proofs.lemmas.Bool.Decides.{nat_tests}
use Rattle.std.proofs.lemmas.List.Splits.{slice_split-cons_yes, slice_split-cons_no}
use Rattle.std.proofs.lemmas.Str.{encodes-chars, encodes-append, inside_one, length-encode, len_utf8_bounds}
use Rattle.std.specs.Char.{is_whitespace}
use Rattle.std.specs.List.{slice_split, onto_first}
use Rattle.std.specs.Str.{chars}
use Rattle.gix_date.proofs.Text.WordSteps.{StopsRun, ends, stops}
use Rattle.gix_date.specs.Text.SpaceWords.{is_nonempty, runs, space_words}
use Rattle.git_date_laws.proofs.Agreement.Steps.{IsQuiet, AreQuiet}

-- white space is marks that no rule uses
ascii-quiet : (c : ℕ) → c < 128 → is_whitespace c ≡ true → IsQuiet c
ascii-quiet c l h = grind (arith, nat_tests)

wide-quiet : (c : ℕ) → 128 ≤ c → IsQuiet c
wide-quiet c l = grind (arith, nat_tests)

byte-quiet : (c k : ℕ) → is_whitespace c ≡ true → k < length (encode_utf8 c) → IsQuiet (get_or (encode_utf8 c) k 0)
byte-quiet c k w l =
    elim (cases_lt (get_or (encode_utf8 c) k 0) 128) [
      | inl small ↦ let same : c ≡ get_or (encode_utf8 c) k 0 =
          inside_one c [] (encode_utf8 c) k (sym (append-nil (encode_utf8 c))) l small in
          subst IsQuiet same (ascii-quiet c (omega (arith, same, small)) w)
      | inr large ↦ wide-quiet _ large
    ]

all-quiet : (xs : List ℕ) → ((k : ℕ) → k < length xs → IsQuiet (get_or xs k 0)) → AreQuiet xs
all-quiet [] h = tt
all-quiet (x ∷ xs) h = (h 0 (omega arith), all-quiet xs (λ k l. h (suc k) (omega (arith, l))))

white-quiet : (c : ℕ) → is_whitespace c ≡ true → AreQuiet (encode_utf8 c)
white-quiet c w = all-quiet (encode_utf8 c) (λ k l. byte-quiet c k w l)

both-quiet : (xs ys : List ℕ) → AreQuiet xs → AreQuiet ys → AreQuiet (xs ++ ys)
both-quiet [] ys q r = r
both-quiet (x ∷ xs) ys q r = (q.0, both-quiet xs ys q.1 r)

-- the first part of characters, which is up to white space
record HasFirstPart (cs : List ℕ) : Type 0 where
  part : List ℕ
  rest : List ℕ
  parts : List (List ℕ)
  whole : cs ≡ part ++ rest
  stop : StopsRun rest
  is : slice_split is_whitespace cs ≡ part ∷ parts
  are : filter is_nonempty parts ≡ runs rest

first-part : (cs : List ℕ) → HasFirstPart cs
first-part [] = record { part = []; rest = []; parts = []; whole = refl; stop = ends; is = refl; are = refl }
first-part (c ∷ cs) = by (is_whitespace c) refl (first-part cs)
  where
    by : (b : Bool) → is_whitespace c ≡ b → HasFirstPart cs → HasFirstPart (c ∷ cs)
    by true w later =
        let split = slice_split-cons_yes is_whitespace c cs w in
        record {
          part = [];
          rest = c ∷ cs;
          parts = slice_split is_whitespace cs;
          whole = refl;
          stop = stops c cs w;
          is = split;
          are =
              sym (ap (filter is_nonempty) split);
        }
    by false w later = record {
      part = c ∷ later.part;
      rest = later.rest;
      parts = later.parts;
      whole = ap (λ (t : List ℕ). c ∷ t) later.whole;
      stop = later.stop;
      is = slice_split-cons_no is_whitespace c cs w ∙ ap (onto_first c) later.is;
      are = later.are;
    }

-- the first word, after white space
record IsCut (cs word : List ℕ) (more : List (List ℕ)) : Type 0 where
  gap : List ℕ
  rest : List ℕ
  quiet : AreQuiet gap
  whole : encode_utf8_all cs ≡ gap ++ (encode_utf8_all word ++ encode_utf8_all rest)
  stop : StopsRun rest
  is : runs rest ≡ more

cut : (cs word : List ℕ) (more : List (List ℕ)) → runs cs ≡ word ∷ more → IsCut cs word more
cut [] word more e = absurd cc
cut (c ∷ cs) word more e = by (is_whitespace c) refl (λ h. cut cs word more h)
  where
    by : (b : Bool) → is_whitespace c ≡ b → (runs cs ≡ word ∷ more → IsCut cs word more) → IsCut (c ∷ cs) word more
    by true w next =
        let later = next (sym (ap (filter is_nonempty) (slice_split-cons_yes is_whitespace c cs w)) ∙ e) in
        record {
          gap = encode_utf8 c ++ later.gap;
          rest = later.rest;
          quiet = both-quiet (encode_utf8 c) later.gap (white-quiet c w) later.quiet;
          whole = ap (λ (t : List ℕ). encode_utf8 c ++ t) later.whole
              ∙ sym (append_assoc (encode_utf8 c) later.gap (encode_utf8_all word ++ encode_utf8_all later.rest));
          stop = later.stop;
          is = later.is;
        }
    by false w next =
        let p = first-part cs in
        let split : (c ∷ p.part) ∷ filter is_nonempty p.parts ≡ word ∷ more =
        sym (ap (filter is_nonempty) (slice_split-cons_no is_whitespace c cs w ∙ ap (onto_first c) p.is)) ∙ e in
        let first : c ∷ p.part ≡ word = cc in
        let others : filter is_nonempty p.parts ≡ more = cc in
        record {
          gap = [];
          rest = p.rest;
          quiet = tt;
          whole = ap (λ (t : List ℕ). encode_utf8_all (c ∷ t)) p.whole ∙ encodes-append (c ∷ p.part) p.rest
              ∙ ap (λ (front : List ℕ). encode_utf8_all front ++ encode_utf8_all p.rest) first;
          stop = p.stop;
          is = sym p.are ∙ others;
        }

no-words : (cs : List ℕ) → runs cs ≡ [] → AreQuiet (encode_utf8_all cs)
no-words [] e = tt
no-words (c ∷ cs) e = by (is_whitespace c) refl (λ h. no-words cs h)
  where
    by : (b : Bool) → is_whitespace c ≡ b → (runs cs ≡ [] → AreQuiet (encode_utf8_all cs)) → AreQuiet (encode_utf8_all (c ∷ cs))
    by true w next = both-quiet (encode_utf8 c) (encode_utf8_all cs) (white-quiet c w)
        (next (sym (ap (filter is_nonempty) (slice_split-cons_yes is_whitespace c cs w)) ∙ e))
    by false w next = let p = first-part cs in
        absurd (let clash = sym (ap (filter is_nonempty) (slice_split-cons_no is_whitespace c cs w ∙ ap (onto_first c) p.is)) ∙ e in cc)

-- a text of two words
pub record AreTwo (text a b : List ℕ) : Type 0 where
  pub before : List ℕ
  pub first : ℕ
  pub between : List ℕ
  pub after : List ℕ
  pub whole : text ≡ before ++ (a ++ (first ∷ (between ++ (b ++ after))))
  pub quiet_before : AreQuiet before
  pub quiet_between : AreQuiet (first ∷ between)
  pub quiet_after : AreQuiet after

two-runs : (ws : List (List ℕ)) (a b : List ℕ) → map encode_utf8_all ws ≡ a ∷ b ∷ []
    → (x : List ℕ) × (y : List ℕ) × (ws ≡ x ∷ y ∷ []) × (encode_utf8_all x ≡ a) × (encode_utf8_all y ≡ b)
two-runs (x ∷ y ∷ []) a b e = (x, y, refl, cc, cc)
two-runs ws a b e = absurd cc

gap-first : (x gap rest : List ℕ) (a b before : List ℕ) → 1 ≤ length gap → AreQuiet before → AreQuiet gap → AreQuiet rest
    → x ≡ before ++ (a ++ (gap ++ (b ++ rest))) → AreTwo x a b
gap-first x [] rest a b before some q r s e = absurd (omega (arith, some))
gap-first x (c ∷ gap) rest a b before some q r s e = grind (arith)

second : (text a b x y : List ℕ) (cs : List ℕ) → encode_utf8_all x ≡ a → encode_utf8_all y ≡ b → encode_utf8_all cs ≡ text
    → (f : IsCut cs x (y ∷ [])) → AreTwo text a b
second text a b x y cs e g u f = by f.rest f.stop f.whole f.is
  where
    by : (rest : List ℕ) → StopsRun rest → encode_utf8_all cs ≡ f.gap ++ (encode_utf8_all x ++ encode_utf8_all rest) → runs rest ≡ y ∷ []
        → AreTwo text a b
    by _ ends whole is = absurd cc
    by _ (stops c more w) whole is =
        let k = cut more y [] (sym (ap (filter is_nonempty) (slice_split-cons_yes is_whitespace c more w)) ∙ is) in
        let joined : encode_utf8_all (c ∷ more) ≡ (encode_utf8 c ++ k.gap) ++ (b ++ encode_utf8_all k.rest) =
        ap (λ (t : List ℕ). encode_utf8 c ++ t) (k.whole ∙ ap (λ (z : List ℕ). k.gap ++ (z ++ encode_utf8_all k.rest)) g)
        ∙ sym (append_assoc (encode_utf8 c) k.gap (b ++ encode_utf8_all k.rest)) in
        gap-first text (encode_utf8 c ++ k.gap) (encode_utf8_all k.rest) a b f.gap
        (omega (arith, length-append (encode_utf8 c) k.gap, length-encode c, len_utf8_bounds c)) f.quiet
        (both-quiet (encode_utf8 c) k.gap (white-quiet c w) k.quiet) (no-words k.rest k.is)
        (sym u ∙ whole ∙ ap₂ (λ (z v : List ℕ). f.gap ++ (z ++ v)) e joined)

pub two-words : (text a b : List ℕ) → IsUtf8 text → space_words text ≡ a ∷ b ∷ [] → AreTwo text a b
unfolding space_words
two-words text a b u e =
    let ws = two-runs (runs (chars text)) a b e in
    second text a b ws.0 ws.1 (chars text) ws.3 ws.4 (encodes-chars text u) (cut (chars text) ws.0 (ws.1 ∷ []) ws.2)
