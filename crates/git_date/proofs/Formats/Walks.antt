-- Walks over the pieces of a format: what was done, and what is left.
use Rattle.std.proofs.Common.{◌≡◌, ◌∙◌, ◌+◌, ◌<◌, ◌≤◌, ℕ, zero, suc, Bool, true, false, List, [], ◌∷◌, ◌++◌, length, refl, ap, sym, arith}
use Rattle.std.proofs.Common.{append_assoc, append-nil, Option, Some, None, Result, Ok, Err}
use Rattle.std.proofs.lemmas.Bool.{false≢true}
use Rattle.std.proofs.lemmas.Bool.Decides.{nat_tests}
use Rattle.std.specs.Result.{result_unwrap_or, result_err, is_ok}
use Rattle.std.specs.Prelude.{◌||◌, ◌==◌, option_map}
use Rattle.git_date.specs.declared.format.error.FormatFault.{FormatFault}
use Rattle.git_date.specs.Formats.Format.{piece_text, pieces_text, is_seconds, asks_seconds}
use Rattle.git_date.specs.Formats.Pieces.{Piece, next_piece, pieces, pieces_in, then_pieces, piece_before, pieces_or_none, is_format}
use Rattle.git_date.specs.Formats.Pieces.{placed, format_fault, checked, checked_by}
use Rattle.git_date.specs.Formats.Shown.{Shown}

pub some-left : (rest : List ℕ) → false ≡ (length rest == 0) → 0 < length rest
some-left rest e = grind (arith, nat_tests, e)

pub none-left : (rest : List ℕ) → true ≡ (length rest == 0) → length rest ≡ 0
none-left rest e = grind (arith, nat_tests, e)

abbrev Pieces : Type 0
Pieces = Result (List Piece) FormatFault

-- pieces, and what follows them
abbrev pub after : List Piece → Pieces → Pieces
after done (Ok more) = Ok (done ++ more)
after done (Err e) = Err e

-- the pieces that were passed have this property, and with those of the rest they are the pieces of the format
pub record Left (text rest : List ℕ) (P : List Piece → Type 0) : Type 0 where
  pub done : List Piece
  pub count : ℕ
  pub enough : length rest ≤ count
  pub same : after done (pieces_in count rest) ≡ pieces text
  pub so_far : P done

after-none : (r : Pieces) → after [] r ≡ r
after-none (Ok more) = refl
after-none (Err e) = refl

pub left-all : (text : List ℕ) (P : List Piece → Type 0) → P [] → Left text text P
unfolding pieces
left-all text P p = record {
  done = [];
  count = length text;
  enough = omega arith;
  same = after-none (pieces_in (length text) text);
  so_far = p;
}

stepped : (count : ℕ) (rest : List ℕ) → 0 < length rest → length rest ≤ count
    → (n : ℕ) × (count ≡ n + 1) × (pieces_in count rest ≡ then_pieces (pieces_in n) (next_piece rest))
unfolding pieces_in
stepped count [] h e = absurd (omega arith)
stepped zero (c ∷ rest) h e = absurd (omega arith)
stepped (suc n) (c ∷ rest) h e = (n, omega arith, refl)

-- a fault in the rest is that of the format
pub left-fault : (text rest : List ℕ) (P : List Piece → Type 0) (fault : FormatFault) → Left text rest P → 0 < length rest
    → Err fault ≡ next_piece rest → Err fault ≡ pieces text
left-fault text rest P fault left h e =
    let s = stepped left.count rest h left.enough in
    ap (after left.done) (ap (then_pieces (pieces_in s.0)) e ∙ sym s.2) ∙ left.same

after-before : (done : List Piece) (piece : Piece) (r : Pieces) → after (done ++ piece ∷ []) r ≡ after done (piece_before piece r)
after-before done piece (Ok more) = ap (λ (ps : List Piece). let r : Pieces = Ok ps in r) (append_assoc done (piece ∷ []) more)
after-before done piece (Err e) = refl

-- one piece more
pub left-next : (text rest further : List ℕ) (P Q : List Piece → Type 0) (piece : Piece) → Left text rest P → 0 < length rest
    → Ok (piece, further) ≡ next_piece rest → length further < length rest → ((done : List Piece) → P done → Q (done ++ piece ∷ []))
    → Left text further Q
left-next text rest further P Q piece left h e shorter keeps =
    let s = stepped left.count rest h left.enough in
    record {
      done = left.done ++ piece ∷ [];
      count = s.0;
      enough = omega (arith, s.1, left.enough);
      same = after-before left.done piece (pieces_in s.0 further) ∙ ap (after left.done) (ap (then_pieces (pieces_in s.0)) e ∙ sym s.2)
          ∙ left.same;
      so_far = keeps left.done left.so_far;
    }

no-pieces : (count : ℕ) (rest : List ℕ) → length rest ≡ 0 → pieces_in count rest ≡ Ok []
unfolding pieces_in
no-pieces zero [] h = refl
no-pieces (suc n) [] h = refl
no-pieces count (c ∷ rest) h = absurd (omega arith)

-- nothing is left
pub left-end : (text rest : List ℕ) (P : List Piece → Type 0) → (left : Left text rest P) → length rest ≡ 0 → Ok left.done ≡ pieces text
left-end text rest P left h =
    ap (λ (ps : List Piece). let r : Pieces = Ok ps in r) (sym (append-nil left.done))
    ∙ ap (after left.done) (sym (no-pieces left.count rest h)) ∙ left.same

-- the first fault
pub fault-of : (text : List ℕ) (fault : FormatFault) → Err fault ≡ pieces text → Some (placed (length text) fault) ≡ format_fault text
fault-of text fault e = ap (λ (r : Pieces). option_map (placed (length text)) (result_err r)) e

pub no-fault : (text : List ℕ) (ps : List Piece) → Ok ps ≡ pieces text → None ≡ format_fault text
no-fault text ps e = ap (λ (r : Pieces). option_map (placed (length text)) (result_err r)) e

pub not-whole : (text : List ℕ) (fault : FormatFault) → is_format text ≡ true → Err fault ≡ pieces text → ⊥
not-whole text fault h e = false≢true (ap (λ (r : Pieces). is_ok r) e ∙ h)

-- a format of which these are the pieces is whole
pub is-format : (text : List ℕ) (ps : List Piece) → Ok ps ≡ pieces text → is_format text ≡ true
is-format text ps e = sym (ap (λ (r : Pieces). is_ok r) e)

pub pieces-are : (text : List ℕ) (ps : List Piece) → Ok ps ≡ pieces text → ps ≡ pieces_or_none text
pieces-are text ps e = ap (λ (r : Pieces). result_unwrap_or r []) e

more-by : (text : List ℕ) (done : List Piece) (r : Pieces) → after done r ≡ pieces text → is_format text ≡ true
    → (more : List Piece) × (done ++ more ≡ pieces_or_none text)
more-by text done (Ok more) e h = (more, pieces-are text (done ++ more) e)
more-by text done (Err fault) e h = absurd (not-whole text fault h e)

-- of a whole format more pieces follow
pub left-more : (text rest : List ℕ) (P : List Piece → Type 0) → (left : Left text rest P) → is_format text ≡ true
    → (more : List Piece) × (left.done ++ more ≡ pieces_or_none text)
left-more text rest P left h = more-by text left.done (pieces_in left.count rest) left.same h

-- the seconds among pieces
any-by : (b : Bool) (xs ys : List Piece) → (b || asks_seconds xs) ≡ true → (asks_seconds xs ≡ true → asks_seconds (xs ++ ys) ≡ true)
    → (b || asks_seconds (xs ++ ys)) ≡ true
any-by true xs ys h more = refl
any-by false xs ys h more = more h

any-front : (xs ys : List Piece) → asks_seconds xs ≡ true → asks_seconds (xs ++ ys) ≡ true
any-front [] ys h = absurd cc
any-front (x ∷ xs) ys h = any-by (is_seconds x) xs ys h (any-front xs ys)

last-by : (b c : Bool) (r : Bool) → (b || c) ≡ false → (c ≡ false → r ≡ false) → (b || r) ≡ false
last-by true c r h more = absurd cc
last-by false c r h more = more h

pub none-more : (xs : List Piece) (piece : Piece) → is_seconds piece ≡ false → asks_seconds xs ≡ false
    → asks_seconds (xs ++ piece ∷ []) ≡ false
none-more [] piece h k = rw h refl
none-more (x ∷ xs) piece h k = last-by (is_seconds x) (asks_seconds xs) _ k (none-more xs piece h)

one-by : (b : Bool) (r : Bool) → r ≡ true → (b || r) ≡ true
one-by true r h = refl
one-by false r h = h

one-more : (xs : List Piece) (piece : Piece) → is_seconds piece ≡ true → asks_seconds (xs ++ piece ∷ []) ≡ true
one-more [] piece h = rw h refl
one-more (x ∷ xs) piece h = one-by (is_seconds x) _ (one-more xs piece h)

abbrev IsAsked : List Piece → Type 0
IsAsked done = asks_seconds done ≡ true

-- one of the pieces asks for the seconds
pub asked : (text rest further : List ℕ) (P : List Piece → Type 0) (piece : Piece) → Left text rest P → 0 < length rest
    → Ok (piece, further) ≡ next_piece rest → length further < length rest → is_format text ≡ true → is_seconds piece ≡ true
    → true ≡ asks_seconds (pieces_or_none text)
asked text rest further P piece left h e shorter whole seconds =
    let next : Left text further IsAsked =
    left-next text rest further P IsAsked piece left h e shorter (λ done p. one-more done piece seconds) in
    let more = left-more text further IsAsked next whole in
    sym (ap asks_seconds (sym more.1) ∙ any-front next.done more.0 next.so_far)

-- texts of pieces, one after the other
pub texts-append : (shown : Shown) (xs ys : List Piece) → pieces_text shown (xs ++ ys) ≡ pieces_text shown xs ++ pieces_text shown ys
texts-append shown [] ys = refl
texts-append shown (x ∷ xs) ys =
    ap (λ (text : List ℕ). piece_text shown x ++ text) (texts-append shown xs ys)
    ∙ sym (append_assoc (piece_text shown x) (pieces_text shown xs) (pieces_text shown ys))

pub texts-more : (shown : Shown) (done : List Piece) (piece : Piece)
    → pieces_text shown (done ++ piece ∷ []) ≡ pieces_text shown done ++ piece_text shown piece
texts-more shown done piece =
    texts-append shown done (piece ∷ []) ∙ ap (λ (text : List ℕ). pieces_text shown done ++ text) (append-nil (piece_text shown piece))

-- a format as it is checked
pub checked_fault : (text : List ℕ) (fault : FormatFault) → Some fault ≡ format_fault text → Err fault ≡ checked text
unfolding checked
checked_fault text fault e = ap (λ (f : Option FormatFault). checked_by text f) e

pub checked_whole : (text : List ℕ) → None ≡ format_fault text → Ok text ≡ checked text
unfolding checked
checked_whole text e = ap (λ (f : Option FormatFault). checked_by text f) e

whole-checked-by : (text : List ℕ) (r : Pieces) → is_ok r ≡ true
    → checked_by text (option_map (placed (length text)) (result_err r)) ≡ Ok text
whole-checked-by text (Ok ps) h = refl
whole-checked-by text (Err e) h = absurd cc

pub whole_checked : (text : List ℕ) → is_format text ≡ true → checked text ≡ Ok text
unfolding checked
whole_checked text h = whole-checked-by text (pieces text) h

-- a text that grows by the text of one piece more
pub grown-more : (shown : Shown) (old mid new : List ℕ) (done : List Piece) (piece : Piece) (text : List ℕ) → text ≡ piece_text shown piece
    → mid ≡ old ++ pieces_text shown done → new ≡ mid ++ text → new ≡ old ++ pieces_text shown (done ++ piece ∷ [])
grown-more shown old mid new done piece text is e h =
    h ∙ ap (λ (xs : List ℕ). xs ++ text) e ∙ append_assoc old (pieces_text shown done) text
    ∙ ap (λ (more : List ℕ). old ++ (pieces_text shown done ++ more)) is
    ∙ ap (λ (more : List ℕ). old ++ more) (sym (texts-more shown done piece))
