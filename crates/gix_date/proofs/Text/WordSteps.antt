-- What a step of `split_whitespace` says of the words of a text.
use Rattle.std.proofs.Common.{◌≡◌, ℕ, ◌<◌, true, List, [], ◌∷◌, ◌++◌, length, map, refl, sym, ap, ◌∙◌, subst, append_assoc, append-nil}
use Rattle.std.proofs.Common.{arith, rules, length-append}
use Rattle.std.proofs.lemmas.Bool.{not-false as from_not}
use Rattle.std.proofs.lemmas.List.Splits.{slice_split-cons_yes, slice_split-cons_no}
use Rattle.std.proofs.lemmas.Str.{chars-encodes, cons_from_encodes, encodes_same, len_utf8_bounds, length-encode}
use Rattle.std.specs.Char.{is_whitespace, is_not_whitespace}
use Rattle.std.specs.List.{slice_split, onto_first}
use Rattle.std.specs.Prelude.{filter, encode_utf8, encode_utf8_all}
use Rattle.std.specs.Borrow.{Bor}
use Rattle.std.specs.Prelude.{Option, Some, None, MatchOption}
use Rattle.std.specs.Str.Iter.{split_whitespace_rest, split_whitespace_steps}
use Rattle.std.specs.declared.str.SplitWhitespace.{SplitWhitespace}
use Rattle.std.specs.Str.{chars, all_scalars, NonePass, NoCharPasses, EmptyOrStartsWithPassing, IsUtf8}
use Rattle.gix_date.specs.Text.SpaceWords.{is_nonempty, runs, space_words}

-- white space in front makes no run
pub runs_skip : (gs cs : List ℕ) → NonePass is_not_whitespace gs → runs (gs ++ cs) ≡ runs cs
runs_skip [] cs h = refl
runs_skip (g ∷ gs) cs h = ap (filter is_nonempty) (slice_split-cons_yes is_whitespace g (gs ++ cs) (from_not (is_whitespace g) h.0))
    ∙ runs_skip gs cs h.1

-- the first part ends where the second text begins, if that is empty or begins with white space
first_part : (xs es : List ℕ) (tail : List (List ℕ)) → NonePass is_whitespace xs → slice_split is_whitespace es ≡ [] ∷ tail
    → slice_split is_whitespace (xs ++ es) ≡ xs ∷ tail
first_part [] es tail h e = e
first_part (x ∷ xs) es tail h e = slice_split-cons_no is_whitespace x (xs ++ es) h.0 ∙ ap (onto_first x) (first_part xs es tail h.1 e)

-- a text that is empty or begins with white space
pub data StopsRun : List ℕ → Type 0 where
  ends : StopsRun []
  stops : (c : ℕ) (cs : List ℕ) → is_whitespace c ≡ true → StopsRun (c ∷ cs)

pub run_first : (x : ℕ) (xs es : List ℕ) → NonePass is_whitespace (x ∷ xs) → StopsRun es → runs ((x ∷ xs) ++ es) ≡ (x ∷ xs) ∷ runs es
run_first x xs _ h ends = ap (filter is_nonempty) (first_part (x ∷ xs) [] [] h refl)
run_first x xs _ h (stops c cs w) =
    let parts = slice_split-cons_yes is_whitespace c cs w in
    ap (filter is_nonempty) (first_part (x ∷ xs) (c ∷ cs) (slice_split is_whitespace cs) h parts)
    ∙ ap (λ rs. (x ∷ xs) ∷ filter is_nonempty rs) (sym parts)

-- the characters after a front
strip : (us cs t : List ℕ) → encode_utf8_all cs ≡ encode_utf8_all us ++ t → (es : List ℕ) × (cs ≡ us ++ es) × (encode_utf8_all es ≡ t)
strip [] cs t e = (cs, refl, e)
strip (u ∷ us) cs t e =
    let first = cons_from_encodes cs (encode_utf8_all us ++ t) u (e ∙ append_assoc (encode_utf8 u) (encode_utf8_all us) t) in
    let rest = strip us first.0 t first.2 in
    (rest.0, first.1 ∙ ap (λ zs. u ∷ zs) rest.1, rest.2)

scalars_after : (us es : List ℕ) → all_scalars (us ++ es) ≡ true → all_scalars es ≡ true
scalars_after [] es h = h
scalars_after (u ∷ us) es h = scalars_after us es (search rules)

-- what begins with white space, read as characters
stops_at : (es more : List ℕ) → EmptyOrStartsWithPassing is_whitespace (encode_utf8_all es) more → StopsRun es
stops_at [] more h = ends
stops_at (e ∷ es) more h =
    let found = h (omega (arith, length-append (encode_utf8 e) (encode_utf8_all es), length-encode e, len_utf8_bounds e)) in
    let first = cons_from_encodes (e ∷ es) more found.0 found.2 in
    let same : e ≡ found.0 = cc in
    stops e es (ap is_whitespace same ∙ found.1)

-- the words of a text whose characters are white space, a word, and what stops it
words_of : (gs es : List ℕ) (x : List ℕ) → 0 < length (encode_utf8_all x) → NonePass is_not_whitespace gs → NonePass is_whitespace x
    → StopsRun es → map encode_utf8_all (runs (gs ++ (x ++ es))) ≡ encode_utf8_all x ∷ map encode_utf8_all (runs es)
words_of gs es [] long g h stop = absurd (omega arith)
words_of gs es (x ∷ xs) long g h stop = ap (map encode_utf8_all) (runs_skip gs ((x ∷ xs) ++ es) g ∙ run_first x xs es h stop)

-- a word comes off the front
pub word_comes : (s x t gap more : List ℕ) → IsUtf8 s → s ≡ gap ++ (x ++ t) → 0 < length x → NoCharPasses is_not_whitespace gap
    → NoCharPasses is_whitespace x → EmptyOrStartsWithPassing is_whitespace t more → (space_words s ≡ x ∷ space_words t) × IsUtf8 t
unfolding space_words
word_comes s x t gap more u e long gs xs stop =
    let cs = u.0 in
    let whole : encode_utf8_all cs ≡ encode_utf8_all gs.0 ++ (x ++ t) = u.1.1 ∙ e ∙ ap (λ zs. zs ++ (x ++ t)) (sym gs.1) in
    let after_gap = strip gs.0 cs (x ++ t) whole in
    let after = strip xs.0 after_gap.0 t (after_gap.2 ∙ ap (λ zs. zs ++ t) (sym xs.1)) in
    let es = after.0 in
    let split : cs ≡ gs.0 ++ (xs.0 ++ es) = after_gap.1 ∙ ap (λ zs. gs.0 ++ zs) after.1 in
    let fine : all_scalars es ≡ true = scalars_after xs.0 es (scalars_after gs.0 (xs.0 ++ es) (ap all_scalars (sym split) ∙ u.1.0)) in
    let stopped : StopsRun es = stops_at es more (subst (λ zs. EmptyOrStartsWithPassing is_whitespace zs more) (sym after.2) stop) in
    let read : chars s ≡ gs.0 ++ (xs.0 ++ es) = ap chars (sym u.1.1) ∙ chars-encodes cs u.1.0 ∙ split in
    let read_rest : chars t ≡ es = ap chars (sym after.2) ∙ chars-encodes es fine in
    let long_too : 0 < length (encode_utf8_all xs.0) = subst (λ zs. 0 < length zs) (sym xs.1) long in (
      ap (λ zs. map encode_utf8_all (runs zs)) read
          ∙ words_of gs.0 es xs.0 long_too gs.2 xs.2 stopped
          ∙ ap (λ zs. zs ∷ map encode_utf8_all (runs es)) xs.1
          ∙ ap (λ zs. x ∷ map encode_utf8_all (runs zs)) (sym read_rest),
      (es, (fine, after.2)),
    )

-- nothing but white space
pub no_word : (s : List ℕ) → IsUtf8 s → NoCharPasses is_not_whitespace s → space_words s ≡ []
unfolding space_words
no_word s u gs =
    let same : u.0 ≡ gs.0 = encodes_same u.0 gs.0 (u.1.1 ∙ sym gs.1) in
    let read : chars s ≡ gs.0 = ap chars (sym u.1.1) ∙ chars-encodes u.0 u.1.0 ∙ same in
    ap (λ cs. map encode_utf8_all (runs cs)) (read ∙ sym (append-nil gs.0)) ∙ ap (map encode_utf8_all) (runs_skip gs.0 [] gs.2)

-- what one step says
pub step : (s : SplitWhitespace) (r : Option (Bor (List ℕ))) (t : SplitWhitespace) → IsUtf8 (split_whitespace_rest s)
    → split_whitespace_steps s r t
    → MatchOption r (space_words (split_whitespace_rest s) ≡ [])
    (λ x. (space_words (split_whitespace_rest s) ≡ x.now ∷ space_words (split_whitespace_rest t)) × IsUtf8 (split_whitespace_rest t))
step s None t u h = no_word (split_whitespace_rest s) u h.1
step s (Some x) t u h = word_comes (split_whitespace_rest s) x.now (split_whitespace_rest t) h.0 h.5.0 u h.1 h.2 h.3 h.4 h.5.1
