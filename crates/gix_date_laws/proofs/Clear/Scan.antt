-- A text's places, from the left: what is asked of each, by the word before it.
use Rattle.std.proofs.lemmas.Bool.Decides.{nat_tests}
use Rattle.std.proofs.lemmas.Grind.{common_steps}
use Rattle.std.proofs.Common.{◌≡◌, ◌∙◌, ◌+◌, ◌<◌, ◌≤◌, ◌⊎◌, inl, inr, ℕ, zero, suc, Bool, true, false, cond, List, [], ◌∷◌, length, take}
use Rattle.std.proofs.Common.{drop, refl, ap, ap₂, sym, arith, Option, Some, None}
use Rattle.std.proofs.lemmas.Bool.{cases_lt, and_parts as both}
use Rattle.std.proofs.lemmas.List.{drop-drop, get_or-drop, length-drop}
use Rattle.std.specs.Char.{is_ascii_alphanumeric}
use Rattle.std.specs.List.{prefix_len}
use Rattle.std.specs.Option.{option_map, option_or}
use Rattle.std.specs.Prelude.{◌&&◌, ◌||◌, not, slice_index, ◌==◌}
use Rattle.gix_date.specs.Careful.Texts.{after_word, begins_word, ends_in_ago, first_failure, is_clear_at, is_separator, may_stand_after}
use Rattle.gix_date.specs.Careful.Texts.{unclear_place, word_at, word_before}
use Rattle.gix_date.specs.Git.ClockCut.{last_place}
use Rattle.gix_date.specs.Text.Characters.{minus}
use Rattle.gix_date.proofs.Careful.Failures.{goes_on}

-- the letters and digits at the front
abbrev pub first_word : List ℕ → List ℕ
first_word text = take (prefix_len is_ascii_alphanumeric text) text

abbrev pub begins : Bool → ℕ → Bool
begins after c = is_ascii_alphanumeric c && not after

abbrev pub fits : Option (List ℕ) → Bool → ℕ → List ℕ → Bool
fits before after c rest =
    cond (begins after c) (may_stand_after before (first_word (c ∷ rest)))
    (is_ascii_alphanumeric c || (is_separator c || (c == minus && after)))

abbrev pub next : Option (List ℕ) → Bool → ℕ → List ℕ → Option (List ℕ)
next before after c rest = cond (begins after c) (Some (first_word (c ∷ rest))) before

-- after this word, and with a word directly before it or not, the text fits
abbrev pub scan : Option (List ℕ) → Bool → List ℕ → Bool
scan before after [] = ends_in_ago before
scan before after (c ∷ rest) = fits before after c rest && scan (next before after c rest) (is_ascii_alphanumeric c) rest

-- what stands at a place
stands : (text : List ℕ) (k c : ℕ) (rest : List ℕ) → drop k text ≡ c ∷ rest → slice_index text k ≡ c
stands text k c rest d = grind (arith, nat_tests, common_steps, get_or-drop)

drop-next : (text : List ℕ) (k c : ℕ) (rest : List ℕ) → drop k text ≡ c ∷ rest → drop (suc k) text ≡ rest
drop-next text k c rest d =
    let next : suc k ≡ k + 1 = omega arith in
    ap (λ (n : ℕ). drop n text) next ∙ sym (drop-drop 1 k text) ∙ ap (λ (t : List ℕ). drop 1 t) d

drop-within : (text : List ℕ) (k c : ℕ) (rest : List ℕ) → drop k text ≡ c ∷ rest → k < length text
drop-within text k c rest d = omega (arith, ap length d, length-drop k text)

clear-is : (text : List ℕ) (k c : ℕ) (rest : List ℕ) → drop k text ≡ c ∷ rest
    → is_clear_at text k ≡ fits (word_before text k) (after_word text k) c rest
unfolding is_clear_at
clear-is text k c rest d = rw (stands text k c rest d, d) refl

map-cond : (f : ℕ → List ℕ) (b : Bool) (k : ℕ) (o : Option ℕ) → option_map f (cond b (Some k) o) ≡ cond b (Some (f k)) (option_map f o)
map-cond f true k o = refl
map-cond f false k o = refl

before-is : (text : List ℕ) (k c : ℕ) (rest : List ℕ) → drop k text ≡ c ∷ rest
    → word_before text (suc k) ≡ next (word_before text k) (after_word text k) c rest
before-is text k c rest d =
    map-cond (word_at text) (begins_word text k) k (last_place (begins_word text) k)
    ∙ ap (λ b. cond b (Some (word_at text k)) (word_before text k))
    (ap (λ n. is_ascii_alphanumeric n && not (after_word text k)) (stands text k c rest d))
    ∙ ap (λ (t : List ℕ). cond (begins (after_word text k) c) (Some (first_word t)) (word_before text k)) d

abbrev here : List ℕ → ℕ → List ℕ → Bool
here text k rest = scan (word_before text k) (after_word text k) rest

step-is : (text : List ℕ) (k c : ℕ) (rest : List ℕ) → drop k text ≡ c ∷ rest
    → here text k (c ∷ rest) ≡ (is_clear_at text k && here text (suc k) rest)
step-is text k c rest d =
    ap₂ (λ (a b : Bool). a && b) (sym (clear-is text k c rest d))
    (ap₂ (λ (o : Option (List ℕ)) (b : Bool). scan o b rest) (sym (before-is text k c rest d))
    (sym (ap is_ascii_alphanumeric (stands text k c rest d))))

-- no place fails
or-none : (o : Option ℕ) (b : Bool) (n : ℕ) → option_or o (cond b None (Some n)) ≡ None → (o ≡ None) × (b ≡ true)
or-none None true n e = (refl, refl)
or-none o b n e = absurd cc

below : (t : ℕ → Bool) (n : ℕ) → first_failure t (suc n) ≡ None → (first_failure t n ≡ None) × (t n ≡ true)
below t n e = or-none (first_failure t n) (t n) n e

each-by : (t : ℕ → Bool) (n k : ℕ) → first_failure t (suc n) ≡ None → k < suc n → (k < n → t k ≡ true) → (k < n) ⊎ (n ≤ k) → t k ≡ true
each-by t n k e l more (inl less) = more less
each-by t n k e l more (inr most) = ap t (let same : k ≡ n = omega (arith, most, l) in same) ∙ (below t n e).1

each : (t : ℕ → Bool) (n k : ℕ) → first_failure t n ≡ None → k < n → t k ≡ true
each t zero k e l = absurd (omega (arith, l))
each t (suc n) k e l = each-by t n k e l (λ less. each t n k (below t n e).0 less) (cases_lt k n)

past : (text : List ℕ) (k : ℕ) → drop k text ≡ [] → k ≤ length text → k ≡ length text
past text k d l = omega (arith, ap length d, length-drop k text)

-- the text is clear from this place on, and `ago` is its last word: as places and as a scan
to-scan : (text : List ℕ) (k : ℕ) (rest : List ℕ) → drop k text ≡ rest → k ≤ length text
    → first_failure (is_clear_at text) (length text) ≡ None → ends_in_ago (word_before text (length text)) ≡ true → here text k rest ≡ true
to-scan text k [] d l none ago = ap (λ n. ends_in_ago (word_before text n)) (past text k d l) ∙ ago
to-scan text k (c ∷ rest) d l none ago =
    let within = drop-within text k c rest d in
    step-is text k c rest d
    ∙ rw (each (is_clear_at text) (length text) k none within)
    (to-scan text (suc k) rest (drop-next text k c rest d) (omega (arith, within)) none ago)

from-scan : (text : List ℕ) (k : ℕ) (rest : List ℕ) → drop k text ≡ rest → k ≤ length text → first_failure (is_clear_at text) k ≡ None
    → here text k rest ≡ true
    → (first_failure (is_clear_at text) (length text) ≡ None) × (ends_in_ago (word_before text (length text)) ≡ true)
from-scan text k [] d l none h = grind (arith, past)
from-scan text k (c ∷ rest) d l none h =
    let within = drop-within text k c rest d in
    let parts = both (is_clear_at text k) (here text (suc k) rest) (sym (step-is text k c rest d) ∙ h) in
    from-scan text (suc k) rest (drop-next text k c rest d) (omega (arith, within)) (goes_on (is_clear_at text) k none parts.0) parts.1

pub clear-scan : (text : List ℕ) → unclear_place text ≡ None → scan None false text ≡ true
unfolding unclear_place
clear-scan text e =
    let parts = or-none (first_failure (is_clear_at text) (length text)) (ends_in_ago (word_before text (length text))) (length text) e in
    to-scan text 0 text refl (omega arith) parts.0 parts.1

pub scan-clear : (text : List ℕ) → scan None false text ≡ true → unclear_place text ≡ None
unfolding unclear_place
scan-clear text h =
    let parts = from-scan text 0 text refl (omega arith) refl h in
    rw (parts.0, parts.1) refl
