-- A trimmed text has the words of the text.
use Rattle.std.proofs.Common.{arith}
use Rattle.std.proofs.Common.{◌≡◌, ℕ, Bool, true, false, cond, List, [], ◌∷◌, length, refl, ap, sym, subst, IsUtf8, encode_utf8_all}
use Rattle.std.proofs.lemmas.Str.{chars-encodes, scalars-chars}
use Rattle.std.specs.Char.{is_whitespace}
use Rattle.std.specs.Prelude.{◌==◌, ◌&&◌}
use Rattle.std.specs.Str.{chars, trim, trim_start, trim_end, skip_leading_whitespace, drop_trailing_whitespace}
use Rattle.gix_date.specs.Relative.Words.{relative_words}
use Rattle.gix_date.proofs.Text.FirstWords.{trimmed-words, skip-scalars, drop-scalars}
use Rattle.gix_date.proofs.Text.WordsWithin.{words-within}
use Rattle.gix_date.proofs.Text.Trimmed.{skips-none as skip-keep}

-- a character that stays
drop-keep : (c : ℕ) (t : List ℕ) → is_whitespace c ≡ false → drop_trailing_whitespace (c ∷ t) ≡ c ∷ drop_trailing_whitespace t
drop-keep c t e = rw e refl

-- what was cut off in front is not there to be cut off again
skip-by : (c : ℕ) (cs : List ℕ) (b : Bool) → is_whitespace c ≡ b
    → skip_leading_whitespace (drop_trailing_whitespace (skip_leading_whitespace cs))
    ≡ drop_trailing_whitespace (skip_leading_whitespace cs)
    → skip_leading_whitespace (drop_trailing_whitespace (cond b (skip_leading_whitespace cs) (c ∷ cs)))
    ≡ drop_trailing_whitespace (cond b (skip_leading_whitespace cs) (c ∷ cs))
skip-by c cs true e h = h
skip-by c cs false e h = grind (arith, drop-keep, skip-keep)

skip-twice : (cs : List ℕ) → skip_leading_whitespace (drop_trailing_whitespace (skip_leading_whitespace cs))
    ≡ drop_trailing_whitespace (skip_leading_whitespace cs)
skip-twice [] = refl
skip-twice (c ∷ cs) = skip-by c cs (is_whitespace c) refl (skip-twice cs)

-- nor at the end
drop-by : (c : ℕ) (ts : List ℕ) (b : Bool) → (is_whitespace c && length ts == 0) ≡ b → drop_trailing_whitespace ts ≡ ts
    → drop_trailing_whitespace (cond b [] (c ∷ ts)) ≡ cond b [] (c ∷ ts)
drop-by c ts true e h = refl
drop-by c ts false e h = grind (arith)

drop-twice : (cs : List ℕ) → drop_trailing_whitespace (drop_trailing_whitespace cs) ≡ drop_trailing_whitespace cs
drop-twice [] = refl
drop-twice (c ∷ cs) =
    let ts = drop_trailing_whitespace cs in drop-by c ts (is_whitespace c && length ts == 0) refl (drop-twice cs)

-- the characters of a trimmed text
record Trim (text : List ℕ) : Type 0 where
  left : List ℕ
  is : trim text ≡ encode_utf8_all left
  back : chars (encode_utf8_all left) ≡ left
  utf8 : IsUtf8 (encode_utf8_all left)
  starts : skip_leading_whitespace left ≡ left
  ends : drop_trailing_whitespace left ≡ left

trim-of : (text : List ℕ) → IsUtf8 text → Trim text
unfolding trim_start trim_end
trim-of text u =
    let cs = chars text in
    let xs = skip_leading_whitespace cs in
    let scalars = skip-scalars cs (scalars-chars text u) in
    let front : chars (encode_utf8_all xs) ≡ xs = chars-encodes xs scalars in
    let ts = drop_trailing_whitespace xs in
    let more = drop-scalars xs scalars in
    record {
      left = ts;
      is = ap (λ (q : List ℕ). encode_utf8_all (drop_trailing_whitespace q)) front;
      back = chars-encodes ts more;
      utf8 = (ts, (more, refl));
      starts = skip-twice cs;
      ends = drop-twice xs;
    }

trim-utf8 : (text : List ℕ) → IsUtf8 text → IsUtf8 (trim text)
trim-utf8 text u = let t = trim-of text u in subst IsUtf8 (sym t.is) t.utf8

pub words-around : (text : List ℕ) → IsUtf8 text → relative_words (trim text) ≡ relative_words text
words-around text u = grind (arith, words-within, trim-utf8, trimmed-words)
