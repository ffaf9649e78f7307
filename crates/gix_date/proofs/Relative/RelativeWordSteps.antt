-- What the code finds of the words of a relative text.
use Rattle.std.proofs.Common.{◌≡◌, ℕ, ◌+◌, ◌<◌, ◌≤◌, Bool, true, false, List, [], ◌∷◌, ◌++◌, length, take, drop, get_or, refl, sym, ap, ◌∙◌}
use Rattle.std.proofs.Common.{subst, append-nil, arith}
use Rattle.std.proofs.Math.Numerals.{one-add}
use Rattle.std.proofs.lemmas.Bool.Decides.{nat_tests}
use Rattle.std.proofs.lemmas.List.{take-append-drop, length-take-le}
use Rattle.std.proofs.lemmas.List.Splits.{slice_split-cons_yes, slice_split_none, slice_split_at}
use Rattle.std.proofs.lemmas.List.Sums.{prefix_len-le-length, prefix_len_stops}
use Rattle.std.specs.Char.{is_ascii_alphanumeric}
use Rattle.std.specs.List.{prefix_len, slice_split, AllByRecursion}
use Rattle.std.proofs.lemmas.List.Elements.{All-from_recursion}
use Rattle.std.specs.Prelude.{filter, not, cond}
use Rattle.std.specs.Str.{IsCharBoundary, IsUtf8}
use Rattle.gix_date.proofs.Text.AsciiCuts.{cut_rest}
use Rattle.gix_date.specs.Relative.Words.{is_gap, relative_words}
use Rattle.gix_date.specs.Text.SpaceWords.{is_nonempty}

-- a list that is empty or begins with what does not pass
data Stops (p : ℕ → Bool) : List ℕ → Type 0 where
  ends : Stops p []
  stops : (y : ℕ) (ys : List ℕ) → p y ≡ false → Stops p (y ∷ ys)

one_more : (p : ℕ → Bool) (x : ℕ) (xs : List ℕ) (n : ℕ) (b : Bool) → p x ≡ b → AllByRecursion (λ b. p b ≡ true) (take n xs)
    → AllByRecursion (λ b. p b ≡ true) (take (cond b (1 + n) 0) (x ∷ xs))
one_more p x xs n true e h = rw one-add (e, h)
one_more p x xs n false e h = tt

-- what passes in front
fronts : (p : ℕ → Bool) (xs : List ℕ) → AllByRecursion (λ b. p b ≡ true) (take (prefix_len p xs) xs)
fronts p [] = tt
fronts p (x ∷ xs) = one_more p x xs (prefix_len p xs) (p x) refl (fronts p xs)

one_after : (p : ℕ → Bool) (x : ℕ) (xs : List ℕ) (n : ℕ) (b : Bool) → p x ≡ b → Stops p (drop n xs)
    → Stops p (drop (cond b (1 + n) 0) (x ∷ xs))
one_after p x xs n true e h = rw one-add h
one_after p x xs n false e h = stops x xs e

after : (p : ℕ → Bool) (xs : List ℕ) → Stops p (drop (prefix_len p xs) xs)
after p [] = ends
after p (x ∷ xs) = one_after p x xs (prefix_len p xs) (p x) refl (after p xs)

-- what stands in front of a word makes no word
words_skip : (gs rest : List ℕ) → AllByRecursion (λ b. is_gap b ≡ true) gs → relative_words (gs ++ rest) ≡ relative_words rest
unfolding relative_words
words_skip [] rest h = refl
words_skip (g ∷ gs) rest h = ap (filter is_nonempty) (slice_split-cons_yes is_gap g (gs ++ rest) h.0) ∙ words_skip gs rest h.1

no_gaps : (w : List ℕ) → AllByRecursion (λ b. is_ascii_alphanumeric b ≡ true) w → AllByRecursion (λ b. is_gap b ≡ false) w
no_gaps [] h = tt
no_gaps (x ∷ xs) h = (ap not h.0, no_gaps xs h.1)

-- a word comes off the front
words_first : (w es : List ℕ) → 0 < length w → AllByRecursion (λ b. is_ascii_alphanumeric b ≡ true) w → Stops is_ascii_alphanumeric es
    → relative_words (w ++ es) ≡ w ∷ relative_words es
unfolding relative_words
words_first [] es long h stop = absurd (omega arith)
words_first (x ∷ xs) _ long h ends = ap (λ zs. filter is_nonempty (slice_split is_gap zs)) (append-nil (x ∷ xs))
    ∙ ap (filter is_nonempty) (slice_split_none is_gap (x ∷ xs) (All-from_recursion (λ b. is_gap b ≡ false) (x ∷ xs) (no_gaps (x ∷ xs) h)))
words_first (x ∷ xs) _ long h (stops y ys e) =
    ap (filter is_nonempty)
    (slice_split_at is_gap (x ∷ xs) y ys (All-from_recursion (λ b. is_gap b ≡ false) (x ∷ xs) (no_gaps (x ∷ xs) h)) (ap not e))
    ∙ ap (λ ps. (x ∷ xs) ∷ filter is_nonempty ps) (sym (slice_split-cons_yes is_gap y ys (ap not e)))

from_skip : (bs : List ℕ) → relative_words bs ≡ relative_words (drop (prefix_len is_gap bs) bs)
from_skip bs = ap relative_words (sym (take-append-drop (prefix_len is_gap bs) bs))
    ∙ words_skip (take (prefix_len is_gap bs) bs) (drop (prefix_len is_gap bs) bs) (fronts is_gap bs)

some_len : (b : Bool) (n : ℕ) → not b ≡ false → cond b (1 + n) 0 ≡ 0 → ⊥
some_len true n e z = omega arith
some_len false n e z = cc

nothing : (es : List ℕ) → Stops is_gap es → prefix_len is_ascii_alphanumeric es ≡ 0 → relative_words es ≡ []
unfolding relative_words
nothing _ ends z = refl
nothing _ (stops y ys e) z = absurd (some_len (is_ascii_alphanumeric y) (prefix_len is_ascii_alphanumeric ys) e z)

-- no word is left
pub no_word : (bs : List ℕ) → prefix_len is_ascii_alphanumeric (drop (prefix_len is_gap bs) bs) ≡ 0 → relative_words bs ≡ []
no_word bs z = from_skip bs ∙ nothing _ (after is_gap bs) z

pub no_words : (bs es : List ℕ) (n : ℕ) → es ≡ drop (prefix_len is_gap bs) bs → n ≡ prefix_len is_ascii_alphanumeric es → n ≡ 0
    → relative_words bs ≡ []
no_words bs es n f e z = no_word bs (ap (prefix_len is_ascii_alphanumeric) (sym f) ∙ sym e ∙ z)

word_front : (es : List ℕ) (n : ℕ) → n ≡ prefix_len is_ascii_alphanumeric es → 0 < n
    → relative_words es ≡ take n es ∷ relative_words (drop n es)
word_front es n e long =
    ap relative_words (sym (take-append-drop n es))
    ∙ words_first (take n es) (drop n es)
    (let within : n ≤ length es = omega (arith, prefix_len-le-length is_ascii_alphanumeric es) in omega (arith, length-take-le n es within))
    (subst (λ k. AllByRecursion (λ b. is_ascii_alphanumeric b ≡ true) (take k es)) (sym e) (fronts is_ascii_alphanumeric es))
    (subst (λ k. Stops is_ascii_alphanumeric (drop k es)) (sym e) (after is_ascii_alphanumeric es))

-- a word comes
pub word_comes : (bs es : List ℕ) (n : ℕ) → es ≡ drop (prefix_len is_gap bs) bs → n ≡ prefix_len is_ascii_alphanumeric es → 0 < n
    → relative_words bs ≡ take n es ∷ relative_words (drop n es)
word_comes bs es n f e long = from_skip bs ∙ ap relative_words (sym f) ∙ word_front es n e long

pub run_ascii : (c : ℕ) → is_ascii_alphanumeric c ≡ true → c < 128
run_ascii c h = grind (arith, nat_tests, h)

word_byte : (c : ℕ) → is_gap c ≡ false → c < 128
word_byte c h = grind (arith, nat_tests, h)

-- a text may be cut where a word begins
pub gap_end : (text : List ℕ) → IsCharBoundary text (prefix_len is_gap text)
gap_end text = (
  omega (arith, prefix_len-le-length is_gap text),
  λ short big.
      let small : get_or text (prefix_len is_gap text) 0 < 128 = word_byte _ (prefix_len_stops is_gap text 0 (omega arith)) in
      absurd (omega arith),
)

-- and where it ends
pub word_end : (text : List ℕ) → IsUtf8 text → IsCharBoundary text (prefix_len is_ascii_alphanumeric text)
word_end text u = cut_rest is_ascii_alphanumeric run_ascii text _ u (omega arith)
