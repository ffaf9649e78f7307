-- What the first family answers for a careful text: its pairs.
use Rattle.std.proofs.Common.{arith}
use Rattle.std.proofs.Common.{◌≡◌, ◌∙◌, ◌⊎◌, inl, inr, ℕ, ℤ, Bool, true, false, List, [], ◌∷◌, ◌++◌, append-nil, refl, ap, ap₂, sym, subst}
use Rattle.std.proofs.Common.{Option, Some, None, option_map, IsUtf8}
use Rattle.std.specs.Char.{is_ascii_alphanumeric}
use Rattle.std.specs.List.{fold}
use Rattle.std.specs.Option.{is_some}
use Rattle.std.specs.Prelude.{◌||◌}
use Rattle.gix_date.specs.Careful.Texts.{is_and}
use Rattle.gix_date.specs.Families.Answer.{Absolute, Relative}
use Rattle.gix_date.specs.Families.Order.{first_family_by}
use Rattle.gix_date.specs.Families.Raw.{OffsetRule}
use Rattle.gix_date.specs.Git.Forms.{git_time}
use Rattle.gix_date.specs.Relative.PairsRead.{pairs_from}
use Rattle.gix_date.specs.Relative.Scan.{step, verdict}
use Rattle.gix_date.specs.Relative.Words.{PeriodUnit, relative_words, is_gap, is_ago, unit_or_seconds, count_of}
use Rattle.gix_date.specs.Relative.Dates.{RelativeDate, MinusPairs, relative_date}
use Rattle.gix_date.specs.Relative.Roles.{are_pairs, pairs}
use Rattle.gix_date.specs.declared.time.Time.{Time}
use Rattle.gix_date.proofs.Relative.QuietWords.{one-run-word}
use Rattle.gix_date.proofs.Relative.RelativeReading.{pairs_are_read}
use Rattle.gix_date.proofs.Relative.RelativeScans.{scan, verdict_of}
use Rattle.gix_date.proofs.Relative.RolePlaces.{meant}
use Rattle.gix_date.proofs.Text.WordsWithin.{AreGaps, none-of-empty as no-words, skip-gaps, one-gap}
use Rattle.gix_date.specs.Careful.Grammar.{AreSeparators, IsWordGap, WordPiece, AreSeparated, joined_pieces, words_of, IsCountAndUnit}
use Rattle.gix_date.specs.Careful.Grammar.{GoesOn, ArePairsAgo, IsCarefulOf}
use Rattle.gix_date_laws.proofs.Shared.Agreement.{comes_first}
use Rattle.gix_date_laws.proofs.Clear.Counts.{count-plain, count-word, and-counts, and-no-word}
use Rattle.gix_date_laws.proofs.Clear.NoGit.{no-git}
use Rattle.gix_date_laws.proofs.Clear.Pieces.{no-letter, no-letter-gap}
use Rattle.gix_date_laws.proofs.Clear.Units.{named-unit}
use Rattle.gix_date_laws.proofs.Clear.Words.{is-unit}
use Rattle.gix_date_laws.proofs.Pairs.{relative-spelled}
use Rattle.gix_date.proofs.Fields.FieldsTaken.{none-unless}

-- The words of the text are those of its pieces.
is-gap : (b : ℕ) → is_ascii_alphanumeric b ≡ false → is_gap b ≡ true
is-gap b h = rw h refl

separators-gaps : (gap : List ℕ) → AreSeparators gap → AreGaps gap
separators-gaps [] h = tt
separators-gaps (b ∷ gap) h = (is-gap b (no-letter b h.0), separators-gaps gap h.1)

after-gap : (x gap : List ℕ) (pieces : List WordPiece) → IsWordGap gap → ((gap ≡ []) → pieces ≡ [])
    → relative_words (joined_pieces pieces) ≡ words_of pieces
    → relative_words (x ++ (gap ++ joined_pieces pieces)) ≡ relative_words x ++ words_of pieces
after-gap x [] pieces h last more = grind (arith, append-nil)
after-gap x (b ∷ gap) pieces h last more = grind (arith, one-gap, is-gap, no-letter-gap, skip-gaps, separators-gaps)

pieces-words : (pieces : List WordPiece) → AreSeparated pieces → relative_words (joined_pieces pieces) ≡ words_of pieces
pieces-words [] h = no-words
pieces-words (([], gap) ∷ pieces) h = absurd h.0
pieces-words ((c ∷ tail, gap) ∷ pieces) h =
    after-gap (c ∷ tail) gap pieces h.1 h.2 (pieces-words pieces h.3)
    ∙ ap (λ (ws : List (List ℕ)). ws ++ words_of pieces) (one-run-word c tail h.0)

text-words : (text : List ℕ) (pairs : List (ℤ × PeriodUnit)) (h : IsCarefulOf text pairs) → relative_words text ≡ words_of h.pieces
text-words text pairs h = grind (arith, skip-gaps, separators-gaps, pieces-words)

-- These are pairs: the ones that the text names.
nothing-left : (waiting : Option ℤ) → pairs_from waiting [] ≡ []
nothing-left None = refl
nothing-left (Some n) = refl

read-pair : (c u : List ℕ) (pair : ℤ × PeriodUnit) (rest : List (List ℕ)) (more : List (ℤ × PeriodUnit)) → IsCountAndUnit c u pair
    → pairs_from None rest ≡ more → pairs_from None (c ∷ u ∷ rest) ≡ pair ∷ more
read-pair c u pair rest more p e =
    let unit : unit_or_seconds u ≡ pair.1 = rw (named-unit u pair.1 p.1) refl in
    ap (λ (o : Option ℤ). pairs_from o (u ∷ rest)) (count-plain c pair.0 p.0).value
    ∙ ap₂ (λ (b : PeriodUnit) (ps : List (ℤ × PeriodUnit)). (pair.0, b) ∷ ps) unit e

read-more : (ps : List (ℤ × PeriodUnit)) (words : List (List ℕ)) → GoesOn ps words → pairs_from None words ≡ ps
read-more [] words g = ap (pairs_from None) g.1 ∙ nothing-left (count_of g.0)
read-more (pair ∷ ps) words g = by (read-pair g.0 g.1 pair g.2 ps g.4 (read-more ps g.2 g.5)) g.3
  where
    by : pairs_from None (g.0 ∷ g.1 ∷ g.2) ≡ pair ∷ ps
        → (words ≡ g.0 ∷ g.1 ∷ g.2) ⊎ ((word : List ℕ) × (words ≡ word ∷ g.0 ∷ g.1 ∷ g.2) × (is_and word ≡ true))
        → pairs_from None words ≡ pair ∷ ps
    by e (inl w) = ap (pairs_from None) w ∙ e
    by e (inr a) = ap (pairs_from None) a.1 ∙ ap (λ (o : Option ℤ). pairs_from o (g.0 ∷ g.1 ∷ g.2)) (and-counts a.0 a.2) ∙ e

read-all : (ps : List (ℤ × PeriodUnit)) (words : List (List ℕ)) → ArePairsAgo ps words → pairs words ≡ ps
read-all [] words h = absurd h
read-all (pair ∷ ps) words h = ap pairs h.3 ∙ pairs_are_read (h.0 ∷ h.1 ∷ h.2) ∙ read-pair h.0 h.1 pair h.2 ps h.4 (read-more ps h.2 h.5)

-- what a scan knows
two-steps : (any ago : Bool) (c u : List ℕ) (pair : ℤ × PeriodUnit) (rest : List (List ℕ)) → IsCountAndUnit c u pair
    → fold step (scan false any true ago) (c ∷ u ∷ rest) ≡ fold step (scan false true true (ago || is_ago c)) rest
two-steps any ago c u pair rest p = rw (count-word c pair.0 p.0, is-unit u pair.1 p.1) refl

scan-more : (ago : Bool) (ps : List (ℤ × PeriodUnit)) (words : List (List ℕ)) → GoesOn ps words
    → verdict (fold step (scan false true true ago) words) ≡ true
scan-more ago [] words g = ap (λ (ws : List (List ℕ)). verdict (fold step (scan false true true ago) ws)) g.1
scan-more ago (pair ∷ ps) words g =
    by (λ flag. ap verdict (two-steps true flag g.0 g.1 pair g.2 g.4) ∙ scan-more (flag || is_ago g.0) ps g.2 g.5) g.3
  where
    by : ((flag : Bool) → verdict (fold step (scan false true true flag) (g.0 ∷ g.1 ∷ g.2)) ≡ true)
        → (words ≡ g.0 ∷ g.1 ∷ g.2) ⊎ ((word : List ℕ) × (words ≡ word ∷ g.0 ∷ g.1 ∷ g.2) × (is_and word ≡ true))
        → verdict (fold step (scan false true true ago) words) ≡ true
    by e (inl w) = ap (λ (ws : List (List ℕ)). verdict (fold step (scan false true true ago) ws)) w ∙ e ago
    by e (inr a) =
        ap (λ (ws : List (List ℕ)). verdict (fold step (scan false true true ago) ws)) a.1
        ∙ ap (λ b. verdict (fold step (scan b true true (ago || is_ago a.0)) (g.0 ∷ g.1 ∷ g.2))) (and-no-word a.0 a.2)
        ∙ e (ago || is_ago a.0)

are-all : (ps : List (ℤ × PeriodUnit)) (words : List (List ℕ)) → ArePairsAgo ps words → are_pairs words ≡ true
are-all [] words h = absurd h
are-all (pair ∷ ps) words h =
    ap are_pairs h.3 ∙ sym (verdict_of (h.0 ∷ h.1 ∷ h.2)) ∙ ap verdict (two-steps false false h.0 h.1 pair h.2 h.4)
    ∙ scan-more (false || is_ago h.0) ps h.2 h.5

pub careful-pairs : (text : List ℕ) (ps : List (ℤ × PeriodUnit)) → IsCarefulOf text ps → pairs (relative_words text) ≡ ps
careful-pairs text ps h =
    read-all ps (relative_words text) (subst (λ (ws : List (List ℕ)). ArePairsAgo ps ws) (sym (text-words text ps h)) h.words)

pub careful-date : (text : List ℕ) → IsUtf8 text → (ps : List (ℤ × PeriodUnit)) → IsCarefulOf text ps
    → relative_date text ≡ Some (MinusPairs ps)
careful-date text u ps h =
    let words = relative_words text in
    let are : ArePairsAgo ps words = subst (λ (ws : List (List ℕ)). ArePairsAgo ps ws) (sym (text-words text ps h)) h.words in
    (relative-spelled text u (MinusPairs ps)).1 (inr ((meant words).0 (are-all ps words are), ap MinusPairs (sym (read-all ps words are))))

pub answers-pairs : (rule : OffsetRule) (text : List ℕ) → IsUtf8 text → (ps : List (ℤ × PeriodUnit)) → IsCarefulOf text ps
    → first_family_by rule text ≡ Some (Relative (MinusPairs ps))
answers-pairs rule text u ps h =
    let date = careful-date text u ps h in
    let are : ArePairsAgo ps (relative_words text) =
    subst (λ (ws : List (List ℕ)). ArePairsAgo ps ws) (sym (text-words text ps h)) h.words in
    let none = none-unless (git_time text) (λ t e. no-git text u ps are t e) in
    (comes_first rule text u).relative (ap (λ (t : Option Time). option_map Absolute t) none)
    (ap (λ (d : Option RelativeDate). is_some (option_map Relative d)) date)
    ∙ ap (λ (d : Option RelativeDate). option_map Relative d) date
