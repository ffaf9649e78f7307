-- What is known behind a word: nothing within it fails, and it is the last word.
use Rattle.std.proofs.Common.{◌≡◌, ◌∙◌, ◌+◌, ◌-◌, ◌<◌, ◌≤◌, ◌⊎◌, inl, inr, ℕ, zero, suc, Bool, true, false, List, length, drop, get_or}
use Rattle.std.proofs.Common.{refl, sym, ap, subst, arith, Option, Some, None}
use Rattle.std.proofs.Math.Bool.{and-true}
use Rattle.std.proofs.lemmas.Bool.{cases_lt}
use Rattle.std.proofs.lemmas.List.{get_or-drop, get_or_past, length-drop}
use Rattle.std.proofs.lemmas.List.Folds.{length-prefix_len}
use Rattle.std.proofs.lemmas.List.Sums.{prefix_len-le-length, prefix_len-drop_yes, prefix_len_passes, prefix_len_stops}
use Rattle.std.proofs.lemmas.Str.{IsCharBoundary-after_ascii, IsCharBoundary-start}
use Rattle.std.specs.Char.{is_ascii_alphanumeric}
use Rattle.std.specs.List.{prefix_len}
use Rattle.std.specs.Option.{option_map}
use Rattle.std.specs.Prelude.{◌&&◌, not, slice_index}
use Rattle.std.specs.Str.{IsCharBoundary, IsUtf8}
use Rattle.gix_date.specs.Careful.Texts.{after_word, begins_word, first_failure, in_word, is_clear_at, may_stand_after, separates, word_at}
use Rattle.gix_date.specs.Careful.Texts.{word_before}
use Rattle.gix_date.specs.Git.ClockCut.{last_place}
use Rattle.gix_date.proofs.Careful.Clear.{clear_is_ascii}
use Rattle.gix_date.proofs.Careful.Failures.{goes_on}
use Rattle.gix_date.proofs.Relative.RelativeWordSteps.{run_ascii as word_is_ascii}
use Rattle.gix_date.proofs.Text.LastPlaces.{passes_here, passes_below}

-- each place of a word
within-word : (text : List ℕ) (p i : ℕ) → p ≤ i → i < p + prefix_len is_ascii_alphanumeric (drop p text) → in_word text i ≡ true
within-word text p i a b =
    let at : get_or (drop p text) (i - p) 0 ≡ get_or text (p + (i - p)) 0 = get_or-drop p text (i - p) 0 in
    let same : get_or text (p + (i - p)) 0 ≡ get_or text i 0 =
    ap (λ n. get_or text n 0) (let e : p + (i - p) ≡ i = omega (arith, a) in e) in
    ap is_ascii_alphanumeric (sym (at ∙ same)) ∙ prefix_len_passes is_ascii_alphanumeric (drop p text) (i - p) 0 (omega (arith, a, b))

stopped-by : (xs : List ℕ) → (prefix_len is_ascii_alphanumeric xs < length xs) ⊎ (length xs ≤ prefix_len is_ascii_alphanumeric xs)
    → is_ascii_alphanumeric (get_or xs (prefix_len is_ascii_alphanumeric xs) 0) ≡ false
stopped-by xs (inl less) = prefix_len_stops is_ascii_alphanumeric xs 0 less
stopped-by xs (inr most) = ap is_ascii_alphanumeric (get_or_past xs (prefix_len is_ascii_alphanumeric xs) 0 most)

-- the place behind a word is in none
behind-word : (text : List ℕ) (p : ℕ) → in_word text (p + prefix_len is_ascii_alphanumeric (drop p text)) ≡ false
behind-word text p =
    let n = prefix_len is_ascii_alphanumeric (drop p text) in
    ap is_ascii_alphanumeric (sym (get_or-drop p text n 0)) ∙ stopped-by (drop p text) (cases_lt n (length (drop p text)))

-- a word that goes on is clear, and begins no word
goes-on : (text : List ℕ) (p m : ℕ) → p < m → ((i : ℕ) → p ≤ i → i < suc m → in_word text i ≡ true)
    → (is_clear_at text m ≡ true) × (begins_word text m ≡ false)
unfolding is_clear_at
goes-on text p zero l all = absurd (omega (arith, l))
goes-on text p (suc m) l all = grind (arith)

passed : (text : List ℕ) (p k m : ℕ) → m ≡ k + suc p → ((i : ℕ) → p ≤ i → i < m → in_word text i ≡ true)
    → first_failure (is_clear_at text) (suc p) ≡ None → last_place (begins_word text) (suc p) ≡ Some p
    → (first_failure (is_clear_at text) m ≡ None) × (last_place (begins_word text) m ≡ Some p)
passed text p zero m e all none last =
    let same : m ≡ suc p = omega (arith, e) in
    (ap (first_failure (is_clear_at text)) same ∙ none, ap (last_place (begins_word text)) same ∙ last)
passed text p (suc k) zero e all none last = absurd (omega (arith, e))
passed text p (suc k) (suc m) e all none last =
    let before = passed text p k m (omega (arith, e)) (λ i a b. all i a (omega (arith, b))) none last in
    let here = goes-on text p m (omega (arith, e)) all in
    (goes_on (is_clear_at text) m before.0 here.0, passes_below (begins_word text) m here.1 ∙ before.1)

-- Where a walk by words stands: all before is clear, this is the word before, and a word that stands here begins here.
pub record Walked (text : List ℕ) (place : ℕ) (before : Option (List ℕ)) : Type 0 where
  pub within : place ≤ length text
  pub clear : first_failure (is_clear_at text) place ≡ None
  pub last : before ≡ word_before text place
  pub fresh : begins_word text place ≡ in_word text place
  pub boundary : IsCharBoundary text place

pub walked-none : (text : List ℕ) → IsUtf8 text → Walked text 0 None
walked-none text u = record {
  within = omega arith;
  clear = refl;
  last = refl;
  fresh = and-true (in_word text 0);
  boundary = IsCharBoundary-start text u;
}

-- what is asked of a word, and of what is in no word
pub word-clear : (text : List ℕ) (place : ℕ) (before : Option (List ℕ)) (fits : Bool) → Walked text place before → in_word text place ≡ true
    → fits ≡ may_stand_after before (word_at text place) → is_clear_at text place ≡ fits
unfolding is_clear_at
word-clear text place before fits w h e = rw (w.fresh, h, sym w.last, sym e) refl

pub gap-clear : (text : List ℕ) (place : ℕ) (before : Option (List ℕ)) → Walked text place before → in_word text place ≡ false
    → is_clear_at text place ≡ separates text place
unfolding is_clear_at
gap-clear text place before w h = rw (w.fresh, h) refl

-- the byte at a clear place is ASCII
behind-byte : (text : List ℕ) (place next : ℕ) → IsUtf8 text → next ≡ place + 1 → place < length text → slice_index text place < 128
    → IsCharBoundary text next
behind-byte text place next u e l a = subst (IsCharBoundary text) (sym e) (IsCharBoundary-after_ascii text place u l a)

pub walked-gap : (text : List ℕ) (place next : ℕ) (before : Option (List ℕ)) → IsUtf8 text → Walked text place before → place < length text
    → in_word text place ≡ false → is_clear_at text place ≡ true → next ≡ place + 1 → Walked text next before
walked-gap text place next before u w l h clear e =
    let same : suc place ≡ next = omega (arith, e) in
    subst (λ n. Walked text n before) same (record {
      within = omega (arith, l);
      clear = goes_on (is_clear_at text) place w.clear clear;
      last = w.last ∙ ap (option_map (word_at text)) (sym (passes_below (begins_word text) place (w.fresh ∙ h)));
      fresh = ap (λ b. in_word text (suc place) && not b) h ∙ and-true (in_word text (suc place));
      boundary = behind-byte text place (suc place) u (omega arith) l (clear_is_ascii text place clear);
    })

pub walked-word : (text : List ℕ) (place : ℕ) (before : Option (List ℕ)) (word : List ℕ) → IsUtf8 text → Walked text place before
    → place < length text → in_word text place ≡ true → is_clear_at text place ≡ true → word ≡ word_at text place
    → Walked text (place + length word) (Some word)
walked-word text place before word u w l h clear is =
    let n = prefix_len is_ascii_alphanumeric (drop place text) in
    let next = place + length word in
    let end : next ≡ place + n = ap (λ k. place + k) (ap length is ∙ length-prefix_len is_ascii_alphanumeric (drop place text)) in
    let some : n ≡ 1 + prefix_len is_ascii_alphanumeric (drop (place + 1) text) =
    prefix_len-drop_yes is_ascii_alphanumeric text place 0 l h in
    let most : n ≤ length text - place =
    subst (λ k. n ≤ k) (length-drop place text) (prefix_len-le-length is_ascii_alphanumeric (drop place text)) in
    let each : (i : ℕ) → place ≤ i → i < next → in_word text i ≡ true = λ i a b. within-word text place i a (omega (arith, b, end)) in
    let behind : in_word text next ≡ false = ap (in_word text) end ∙ behind-word text place in
    let over = passed text place (next - suc place) next (omega (arith, end, some)) each (goes_on (is_clear_at text) place w.clear clear)
    (passes_here (begins_word text) place (w.fresh ∙ h)) in
    record {
      within = omega (arith, end, most, l);
      clear = over.0;
      last = ap Some is ∙ sym (ap (option_map (word_at text)) over.1);
      fresh = ap (λ b. b && not (after_word text next)) behind ∙ sym behind;
      boundary = behind-byte text (next - 1) next u (omega (arith, end, some)) (omega (arith, end, some, most, l))
          (word_is_ascii (slice_index text (next - 1)) (each (next - 1) (omega (arith, end, some)) (omega (arith, end, some))));
    }
