-- No careful text is in one of Git's own forms: it begins with a count and a unit, and those with a date.
use Rattle.std.proofs.Common.{◌≡◌, ◌∙◌, inl, inr, ℕ, ℤ, true, false, List, [], ◌∷◌, ◌++◌, filter, append_assoc, refl, ap, ap₂, sym, subst}
use Rattle.std.proofs.Common.{arith, length, ◌<◌, ◌≤◌, Some, None, IsUtf8}
use Rattle.std.proofs.Math.Bool.{and-false}
use Rattle.std.proofs.lemmas.Bool.{and_parts as both}
use Rattle.std.proofs.lemmas.Bool.Decides.{nat_tests}
use Rattle.std.proofs.lemmas.List.{length-append}
use Rattle.std.proofs.lemmas.List.Splits.{slice_split-cons_no}
use Rattle.std.specs.Char.{is_ascii_alphanumeric, is_ascii_digit, to_ascii_lowercase}
use Rattle.std.specs.List.{list_all, slice_split, onto_first}
use Rattle.std.specs.Prelude.{◌==◌}
use Rattle.std.specs.Str.{trim, all_ascii_digits}
use Rattle.gix_date.specs.Fields.FieldTexts.{IsPair as AreTwoDigits, IsYear}
use Rattle.gix_date.specs.Fields.Layout.{LocalDate}
use Rattle.gix_date.specs.Git.Forms.{git_time}
use Rattle.gix_date.specs.Git.Grammar.{IsGitDate, IsGitFront}
use Rattle.gix_date.specs.Relative.Words.{PeriodUnit, relative_words, is_gap}
use Rattle.gix_date.specs.Relative.Roles.{has_unit}
use Rattle.gix_date.specs.Text.Characters.{dot, minus, letter_t}
use Rattle.gix_date.specs.Text.Names.{named_in}
use Rattle.gix_date.specs.Text.SpaceWords.{is_nonempty}
use Rattle.gix_date.specs.declared.time.Time.{Time}
use Rattle.gix_date.proofs.Git.Fronts.{joined}
use Rattle.gix_date.proofs.Relative.QuietWords.{one-run-word, no_gap as no-gap}
use Rattle.gix_date.proofs.Relative.QuietDates.{year-digits, digits-run as digit-letters}
use Rattle.gix_date.proofs.Text.WordsWithin.{one-gap, parts-of}
use Rattle.gix_date.specs.Careful.Grammar.{IsPlainCount, number_words, ArePairsAgo}
use Rattle.gix_date_laws.proofs.Numbers.AroundTexts.{words-around}
use Rattle.gix_date_laws.proofs.Clear.Counts.{digits-quiet, quiet-of}
use Rattle.gix_date_laws.proofs.Clear.Words.{is-unit}
use Rattle.gix_date_laws.proofs.Git.Grammar.{form-is}

-- the words of digits and of a run of letters and digits
digits-word : (t : List ℕ) → all_ascii_digits t ≡ true → 0 < length t → relative_words t ≡ t ∷ []
digits-word [] h l = absurd (omega (arith, l))
digits-word (c ∷ t) h l = one-run-word c t (digit-letters (c ∷ t) h)

record RunParts (run rest : List ℕ) : Type 0 where
  tail : List ℕ
  parts : List (List ℕ)
  is : slice_split is_gap (run ++ rest) ≡ (run ++ tail) ∷ parts

run-parts : (run rest : List ℕ) → list_all is_ascii_alphanumeric run ≡ true → RunParts run rest
run-parts [] rest h = let p = parts-of is_gap rest in record { tail = p.part; parts = p.parts; is = p.is }
run-parts (c ∷ run) rest h =
    let parts = both (is_ascii_alphanumeric c) (list_all is_ascii_alphanumeric run) h in
    let more = run-parts run rest parts.1 in
    record {
      tail = more.tail;
      parts = more.parts;
      is = slice_split-cons_no is_gap c (run ++ rest) (no-gap c parts.0)
          ∙ ap (onto_first c) more.is;
    }

run-first : (c : ℕ) (run rest : List ℕ) → list_all is_ascii_alphanumeric (c ∷ run) ≡ true
    → (tail : List ℕ) × (more : List (List ℕ)) × (relative_words (c ∷ (run ++ rest)) ≡ (c ∷ (run ++ tail)) ∷ more)
unfolding relative_words
run-first c run rest h =
    let p = run-parts (c ∷ run) rest h in
    (p.tail, filter is_nonempty p.parts, ap (filter is_nonempty) p.is)

-- the words of a date with marks
year-long : (t : List ℕ) (n : ℕ) → IsYear t n → 0 < length t
year-long [] n h = absurd h
year-long (c ∷ t) n h = omega arith

pair-long : (t : List ℕ) (n : ℕ) → AreTwoDigits t n → 0 < length t
pair-long [] n h = absurd h
pair-long (c ∷ t) n h = omega arith

pair-digits : (t : List ℕ) (n : ℕ) → AreTwoDigits t n → all_ascii_digits t ≡ true
pair-digits (a ∷ b ∷ []) n h = rw (h.0, h.1) refl
pair-digits t n h = absurd h

marked-words : (mark : ℕ) (day rest : List ℕ) (date : LocalDate) → is_gap mark ≡ true → (d : IsGitDate (mark ∷ []) day date)
    → (more : List (List ℕ)) × (relative_words (day ++ rest) ≡ d.year ∷ d.month ∷ more)
marked-words mark day rest date g d =
    let after = d.day ++ rest in (
      relative_words after,
      ap (λ (t : List ℕ). relative_words (t ++ rest)) d.whole ∙ ap relative_words (joined d.year (mark ∷ []) d.month d.day rest)
          ∙ one-gap d.year mark (d.month ++ (mark ∷ after)) g
          ∙ ap₂ (λ (a b : List (List ℕ)). a ++ b)
          (digits-word d.year (year-digits d.year date.year d.is_year) (year-long d.year date.year d.is_year))
          (one-gap d.month mark after g ∙ ap (λ (ws : List (List ℕ)). ws ++ relative_words after)
          (digits-word d.month (pair-digits d.month date.month d.is_month) (pair-long d.month date.month d.is_month))),
    )

first-of : List (List ℕ) → List ℕ
first-of [] = []
first-of (a ∷ ws) = a

second-of : List (List ℕ) → List ℕ
second-of [] = []
second-of (a ∷ ws) = first-of ws

no-marked : (mark : ℕ) (x day rest : List ℕ) (date : LocalDate) (ps : List (ℤ × PeriodUnit)) → is_gap mark ≡ true
    → IsGitDate (mark ∷ []) day date → x ≡ day ++ rest → ArePairsAgo ps (relative_words x) → ⊥
unfolding first-of second-of
no-marked mark x day rest date [] g d e h = absurd h
no-marked mark x day rest date (pair ∷ ps) g d e h =
    let words = marked-words mark day rest date g d in
    let same : d.month ≡ h.1 = ap second-of (sym words.1 ∙ sym (ap relative_words e) ∙ h.3) in
    let quiet =
    quiet-of d.month (digits-quiet d.month (pair-digits d.month date.month d.is_month) (pair-long d.month date.month d.is_month)) in
    let bad : true ≡ false = sym (is-unit h.1 pair.1 h.4.1) ∙ ap has_unit (sym same) ∙ quiet.unit in
    cc

-- a date without marks, and `T`
no-lower : (c n : ℕ) → is_ascii_digit c ≡ true → 97 ≤ n → n ≤ 122 → (to_ascii_lowercase c == n) ≡ false
no-lower c n h l m = grind (arith, nat_tests, h, l, m)

digit-no-number : (c : ℕ) (t : List ℕ) → is_ascii_digit c ≡ true → named_in number_words (c ∷ t) ≡ None
digit-no-number c t h = grind (arith, no-lower)

not-all : (xs ys : List ℕ) (y : ℕ) → is_ascii_digit y ≡ false → all_ascii_digits (xs ++ (y ∷ ys)) ≡ false
not-all [] ys y h = rw h refl
not-all (x ∷ xs) ys y h = rw (not-all xs ys y h) (and-false (is_ascii_digit x))

no-count : (c : ℕ) (t : List ℕ) (n : ℤ) → is_ascii_digit c ≡ true → all_ascii_digits (c ∷ t) ≡ false → IsPlainCount (c ∷ t) n → ⊥
no-count c t n d h (inl k) = let bad : true ≡ false = sym k.1.1 ∙ h in cc
no-count c t n d h (inr e) = let bad : None ≡ Some n = sym (digit-no-number c t d) ∙ e in cc

digits-append : (xs ys : List ℕ) → all_ascii_digits xs ≡ true → all_ascii_digits ys ≡ true → all_ascii_digits (xs ++ ys) ≡ true
digits-append [] ys h k = k
digits-append (x ∷ xs) ys h k = let parts = both (is_ascii_digit x) (all_ascii_digits xs) h in rw parts.0 (digits-append xs ys parts.1 k)

letters-then : (xs : List ℕ) → list_all is_ascii_alphanumeric xs ≡ true → list_all is_ascii_alphanumeric (xs ++ (letter_t ∷ [])) ≡ true
letters-then [] h = refl
letters-then (x ∷ xs) h = let parts = both (is_ascii_alphanumeric x) (list_all is_ascii_alphanumeric xs) h in
    rw parts.0 (letters-then xs parts.1)

no-run : (digits x rest : List ℕ) (ps : List (ℤ × PeriodUnit)) → all_ascii_digits digits ≡ true → 0 < length digits
    → x ≡ (digits ++ (letter_t ∷ [])) ++ rest → ArePairsAgo ps (relative_words x) → ⊥
unfolding first-of
no-run digits x rest [] d l e h = absurd h
no-run [] x rest (pair ∷ ps) d l e h = absurd (omega (arith, l))
no-run (c ∷ t) x rest (pair ∷ ps) d l e h =
    let words = run-first c (t ++ (letter_t ∷ [])) rest (letters-then (c ∷ t) (digit-letters (c ∷ t) d)) in
    let same : c ∷ ((t ++ (letter_t ∷ [])) ++ words.0) ≡ h.0 = ap first-of (sym words.2 ∙ sym (ap relative_words e) ∙ h.3) in
    let not : all_ascii_digits (c ∷ ((t ++ (letter_t ∷ [])) ++ words.0)) ≡ false = ap all_ascii_digits (one-text c t words.0)
    ∙ not-all (c ∷ t) words.0 letter_t refl in
    no-count c ((t ++ (letter_t ∷ [])) ++ words.0) pair.0 (both (is_ascii_digit c) (all_ascii_digits t) d).0 not
    (subst (λ (w : List ℕ). IsPlainCount w pair.0) (sym same) h.4.0)
  where
    one-text : (c : ℕ) (t tail : List ℕ) → c ∷ ((t ++ (letter_t ∷ [])) ++ tail) ≡ (c ∷ t) ++ (letter_t ∷ tail)
    one-text c t tail = simp append_assoc

compact-text : (y m d rest : List ℕ) → (y ++ (m ++ d)) ++ (letter_t ∷ rest) ≡ ((y ++ (m ++ d)) ++ (letter_t ∷ [])) ++ rest
compact-text y m d rest = simp append_assoc

no-compact : (x day rest : List ℕ) (date : LocalDate) (ps : List (ℤ × PeriodUnit)) → IsGitDate [] day date → x ≡ day ++ (letter_t ∷ rest)
    → ArePairsAgo ps (relative_words x) → ⊥
no-compact x day rest date ps d e h =
    let digits = d.year ++ (d.month ++ d.day) in
    let all = digits-append d.year (d.month ++ d.day) (year-digits d.year date.year d.is_year)
    (digits-append d.month d.day (pair-digits d.month date.month d.is_month) (pair-digits d.day date.day d.is_day)) in
    let long : 0 < length digits = omega (arith, length-append d.year (d.month ++ d.day), year-long d.year date.year d.is_year) in
    no-run digits x rest ps all long (e ∙ ap (λ (t : List ℕ). t ++ (letter_t ∷ rest)) d.whole ∙ compact-text d.year d.month d.day rest) h

dot-gap : is_gap dot ≡ true
dot-gap = refl

minus-gap : is_gap minus ≡ true
minus-gap = refl

no-front : (x day gap rest : List ℕ) (date : LocalDate) (ps : List (ℤ × PeriodUnit)) → x ≡ day ++ (gap ++ rest) → IsGitFront day gap date
    → ArePairsAgo ps (relative_words x) → ⊥
no-front x day gap rest date ps e (inl f) h = no-marked dot x day (gap ++ rest) date ps dot-gap f.0 e h
no-front x day gap rest date ps e (inr (inl f)) h = no-compact x day rest date ps f.0 (e ∙ ap (λ (g : List ℕ). day ++ (g ++ rest)) f.1) h
no-front x day gap rest date ps e (inr (inr f)) h = no-marked minus x day (gap ++ rest) date ps minus-gap f.0 e h

pub no-git : (text : List ℕ) → IsUtf8 text → (ps : List (ℤ × PeriodUnit)) → ArePairsAgo ps (relative_words text) → (t : Time)
    → git_time text ≡ Some t → ⊥
unfolding git_time
no-git text u ps h t e =
    let g = form-is text t e in
    no-front (trim text) g.day g.gap g.rest g.date ps g.whole g.front
    (subst (λ (ws : List (List ℕ)). ArePairsAgo ps ws) (sym (words-around text u)) h)
