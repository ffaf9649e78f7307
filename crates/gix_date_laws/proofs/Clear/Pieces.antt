-- A text that a scan passes is separators, words and gaps; and what a scan finds in such a text.
use Rattle.std.proofs.Common.{◌≡◌, ◌∙◌, ◌⊎◌, inl, inr, ℕ, suc, Bool, true, false, cond, List, [], ◌∷◌, ◌++◌, take, refl, ap, sym, subst}
use Rattle.std.proofs.Common.{arith, Option, Some, None}
use Rattle.std.proofs.lemmas.Bool.{and_parts as both}
use Rattle.std.proofs.lemmas.Bool.Decides.{nat_tests}
use Rattle.std.specs.Char.{is_ascii_alphanumeric}
use Rattle.std.specs.List.{prefix_len, list_all}
use Rattle.std.specs.Prelude.{◌&&◌, ◌||◌, ◌==◌}
use Rattle.gix_date.specs.Careful.Texts.{ends_in_ago, is_separator, may_stand_after}
use Rattle.gix_date.specs.Text.Characters.{minus}
use Rattle.gix_date.specs.Careful.Grammar.{IsSeparator, AreSeparators, IsWordGap, WordPiece, AreSeparated, joined_pieces, words_of}
use Rattle.gix_date_laws.proofs.Clear.Scan.{first_word, fits, next, scan}

is-separator : (b : ℕ) → IsSeparator b → is_separator b ≡ true
is-separator b h = grind (arith, nat_tests, h)

pub no-letter : (b : ℕ) → IsSeparator b → is_ascii_alphanumeric b ≡ false
no-letter b h = grind (arith, nat_tests, h)

pub no-letter-gap : (b : ℕ) → IsSeparator b ⊎ (b ≡ minus) → is_ascii_alphanumeric b ≡ false
no-letter-gap b (inl h) = no-letter b h
no-letter-gap b (inr e) = ap is_ascii_alphanumeric e

-- What a scan passes is cut into words and gaps: from within a word or directly after one, and from elsewhere.
record Inside (text : List ℕ) : Type 0 where
  tail : List ℕ
  gap : List ℕ
  pieces : List WordPiece
  whole : text ≡ tail ++ (gap ++ joined_pieces pieces)
  letters : list_all is_ascii_alphanumeric tail ≡ true
  is_gap : IsWordGap gap
  last : (gap ≡ []) → pieces ≡ []
  apart : AreSeparated pieces

pub record Outside (text : List ℕ) : Type 0 where
  pub front : List ℕ
  pub pieces : List WordPiece
  pub whole : text ≡ front ++ joined_pieces pieces
  pub separated : AreSeparators front
  pub apart : AreSeparated pieces

Found : Bool → List ℕ → Type 0
Found true text = Inside text
Found false text = Outside text

at-end : (after : Bool) → Found after []
unfolding Found
at-end true = record { tail = []; gap = []; pieces = []; whole = refl; letters = refl; is_gap = tt; last = λ e. refl; apart = tt }
at-end false = record { front = []; pieces = []; whole = refl; separated = tt; apart = tt }

-- what is asked of a character, without the words' order
abbrev passes : Bool → ℕ → Bool
passes after c = is_ascii_alphanumeric c || (is_separator c || (c == minus && after))

passes-by : (before : Option (List ℕ)) (after : Bool) (c : ℕ) (rest : List ℕ) (a : Bool) → is_ascii_alphanumeric c ≡ a
    → fits before after c rest ≡ true → passes after c ≡ true
passes-by before after c rest true e h = rw e refl
passes-by before after c rest false e h = let is = rw e at h in rw e is

or-false : (c : ℕ) → (is_separator c || (c == minus && false)) ≡ true → is_separator c ≡ true
or-false c h = grind (arith, nat_tests, h)

no-nil : (c : ℕ) (t : List ℕ) (ps : List WordPiece) → (c ∷ t) ≡ [] → ps ≡ []
no-nil c t ps e = absurd cc

found-next : (after : Bool) (c : ℕ) (rest : List ℕ) (a : Bool) → is_ascii_alphanumeric c ≡ a → passes after c ≡ true → Found a rest
    → Found after (c ∷ rest)
unfolding Found
found-next true c rest true e h f = record {
  tail = c ∷ f.tail;
  gap = f.gap;
  pieces = f.pieces;
  whole = ap (λ (t : List ℕ). c ∷ t) f.whole;
  letters = rw e f.letters;
  is_gap = f.is_gap;
  last = f.last;
  apart = f.apart;
}
found-next false c rest true e h f = record {
  front = [];
  pieces = (c ∷ f.tail, f.gap) ∷ f.pieces;
  whole = ap (λ (t : List ℕ). c ∷ t) f.whole;
  separated = tt;
  apart = (rw e f.letters, f.is_gap, f.last, f.apart);
}
found-next true c rest false e h f =
    let is = rw e at h in
    record {
      tail = [];
      gap = c ∷ f.front;
      pieces = f.pieces;
      whole = ap (λ (t : List ℕ). c ∷ t) f.whole;
      letters = refl;
      is_gap = (grind (arith, nat_tests, is), f.separated);
      last = no-nil c f.front f.pieces;
      apart = f.apart;
    }
found-next false c rest false e h f =
    let is = rw e at h in
    record {
      front = c ∷ f.front;
      pieces = f.pieces;
      whole = ap (λ (t : List ℕ). c ∷ t) f.whole;
      separated = (grind (arith, nat_tests, (or-false c is)), f.separated);
      apart = f.apart;
    }

found : (before : Option (List ℕ)) (after : Bool) (text : List ℕ) → scan before after text ≡ true → Found after text
found before after [] h = at-end after
found before after (c ∷ rest) h =
    let parts = both (fits before after c rest) (scan (next before after c rest) (is_ascii_alphanumeric c) rest) h in
    found-next after c rest (is_ascii_alphanumeric c) refl (passes-by before after c rest (is_ascii_alphanumeric c) refl parts.0)
    (found (next before after c rest) (is_ascii_alphanumeric c) rest parts.1)

pub cut-of : (text : List ℕ) → scan None false text ≡ true → Outside text
unfolding Found
cut-of text h = found None false text h

-- The words may stand one after the other, and the last is `ago`.
abbrev pub chain : Option (List ℕ) → List (List ℕ) → Bool
chain before [] = ends_in_ago before
chain before (word ∷ words) = may_stand_after before word && chain (Some word) words

-- what a scan does with separators, and with the rest of a word
past-separators : (before : Option (List ℕ)) (gap rest : List ℕ) → AreSeparators gap
    → scan before false (gap ++ rest) ≡ scan before false rest
past-separators before [] rest h = refl
past-separators before (c ∷ gap) rest h = rw (no-letter c h.0, is-separator c h.0) (past-separators before gap rest h.1)

past-letters : (before : Option (List ℕ)) (tail rest : List ℕ) → list_all is_ascii_alphanumeric tail ≡ true
    → scan before true (tail ++ rest) ≡ scan before true rest
past-letters before [] rest h = refl
past-letters before (c ∷ tail) rest h =
    let parts = both (is_ascii_alphanumeric c) (list_all is_ascii_alphanumeric tail) h in
    rw parts.0 (past-letters before tail rest parts.1)

past-gap : (before : Option (List ℕ)) (c : ℕ) (gap rest : List ℕ) → IsWordGap (c ∷ gap)
    → scan before true (c ∷ (gap ++ rest)) ≡ scan before false rest
past-gap before c gap rest (inl s, h) = rw (no-letter c s, is-separator c s) (past-separators before gap rest h)
past-gap before c gap rest (inr e, h) = ap (λ b. scan before true (b ∷ (gap ++ rest))) e ∙ past-separators before gap rest h

-- the word at the front
abbrev pub BeginsOutside : List ℕ → Type 0
BeginsOutside [] = Unit {0}
BeginsOutside (c ∷ rest) = is_ascii_alphanumeric c ≡ false

one-more : (c : ℕ) (rest : List ℕ) → is_ascii_alphanumeric c ≡ true
    → prefix_len is_ascii_alphanumeric (c ∷ rest) ≡ suc (prefix_len is_ascii_alphanumeric rest)
one-more c rest h = grind (arith)

word-front : (word rest : List ℕ) → list_all is_ascii_alphanumeric word ≡ true → BeginsOutside rest → first_word (word ++ rest) ≡ word
word-front [] [] h o = refl
word-front [] (c ∷ rest) h o = rw o refl
word-front (c ∷ word) rest h o =
    let parts = both (is_ascii_alphanumeric c) (list_all is_ascii_alphanumeric word) h in
    let size : prefix_len is_ascii_alphanumeric (c ∷ (word ++ rest)) ≡ suc (prefix_len is_ascii_alphanumeric (word ++ rest)) =
    one-more c (word ++ rest) parts.0 in
    ap (λ n. take n (c ∷ (word ++ rest))) size ∙ ap (λ (t : List ℕ). c ∷ t) (word-front word rest parts.1 o)

past-word : (before : Option (List ℕ)) (c : ℕ) (tail rest : List ℕ) → list_all is_ascii_alphanumeric (c ∷ tail) ≡ true → BeginsOutside rest
    → scan before false (c ∷ (tail ++ rest)) ≡ (may_stand_after before (c ∷ tail) && scan (Some (c ∷ tail)) true rest)
past-word before c tail rest h o =
    let parts = both (is_ascii_alphanumeric c) (list_all is_ascii_alphanumeric tail) h in
    ap (λ (b : Bool). fits before false c (tail ++ rest) && scan (next before false c (tail ++ rest)) b (tail ++ rest)) parts.0
    ∙ ap (λ (b : Bool).
    cond (b && true) (may_stand_after before (first_word (c ∷ (tail ++ rest)))) (b || (is_separator c || (c == minus && false)))
    && scan (cond (b && true) (Some (first_word (c ∷ (tail ++ rest)))) before) true (tail ++ rest)) parts.0
    ∙ ap (λ (w : List ℕ). may_stand_after before w && scan (Some w) true (tail ++ rest)) (word-front (c ∷ tail) rest h o)
    ∙ ap (λ (b : Bool). may_stand_after before (c ∷ tail) && b) (past-letters (Some (c ∷ tail)) tail rest parts.1)

outside : (gap : List ℕ) (pieces : List WordPiece) → IsWordGap gap → ((gap ≡ []) → pieces ≡ [])
    → BeginsOutside (gap ++ joined_pieces pieces)
outside [] pieces h last = subst (λ (ps : List WordPiece). BeginsOutside (joined_pieces ps)) (sym (last refl)) tt
outside (c ∷ gap) pieces h last = no-letter-gap c h.0

after-word : (word gap : List ℕ) (pieces : List WordPiece) → IsWordGap gap → ((gap ≡ []) → pieces ≡ [])
    → scan (Some word) false (joined_pieces pieces) ≡ chain (Some word) (words_of pieces)
    → scan (Some word) true (gap ++ joined_pieces pieces) ≡ chain (Some word) (words_of pieces)
after-word word [] pieces h last more = grind (arith, scan)
after-word word (c ∷ gap) pieces h last more = past-gap (Some word) c gap (joined_pieces pieces) h ∙ more

pieces-scan : (before : Option (List ℕ)) (pieces : List WordPiece) → AreSeparated pieces
    → scan before false (joined_pieces pieces) ≡ chain before (words_of pieces)
pieces-scan before [] h = refl
pieces-scan before (([], gap) ∷ pieces) h = absurd h.0
pieces-scan before ((c ∷ tail, gap) ∷ pieces) h =
    past-word before c tail (gap ++ joined_pieces pieces) h.0 (outside gap pieces h.1 h.2)
    ∙ ap (λ b. may_stand_after before (c ∷ tail) && b) (after-word (c ∷ tail) gap pieces h.1 h.2 (pieces-scan (Some (c ∷ tail)) pieces h.3))

-- a text so cut is passed where its words may stand so
pub scan-is : (front : List ℕ) (pieces : List WordPiece) → AreSeparators front → AreSeparated pieces
    → scan None false (front ++ joined_pieces pieces) ≡ chain None (words_of pieces)
scan-is front pieces s a = past-separators None front (joined_pieces pieces) s ∙ pieces-scan None pieces a
