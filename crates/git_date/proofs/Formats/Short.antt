-- Usual letters, which one walk over a format shows at once.
use Rattle.std.proofs.Common.{◌≡◌, ◌∙◌, ◌+◌, ◌<◌, ◌≤◌, ℕ, pos, int_le, Bool, true, false, cond, List, [], ◌∷◌, ◌++◌, length, take, drop}
use Rattle.std.proofs.Common.{append_assoc, append-nil, get_or, decimal, refl, ap, sym, subst, arith}
use Rattle.std.proofs.Common.{Option, Some, None, Result, Ok, Err, IsUtf8}
use Rattle.std.proofs.lemmas.Bool.{false≢true}
use Rattle.std.proofs.lemmas.Int.{ints}
use Rattle.std.proofs.lemmas.Str.{IsCharBoundary-after_ascii}
use Rattle.std.specs.Char.{is_ascii_digit}
use Rattle.std.specs.List.{prefix_len, slice_get}
use Rattle.std.specs.Prelude.{◌||◌, option_map}
use Rattle.std.specs.Result.{is_ok}
use Rattle.std.specs.Str.{IsCharBoundary}
use Rattle.gix_date.proofs.Printing.ShownPieces.{number, number-two, number-four}
use Rattle.gix_date.specs.Fields.FieldTexts.{four_digits}
use Rattle.gix_date.specs.Text.Numbers.{two_digits}
use Rattle.git_date.specs.declared.format.directives.Directive.{Directive}
use Rattle.git_date.specs.declared.format.directives.Plain.{Plain}
use Rattle.git_date.specs.declared.format.error.FormatFault.{FormatFault}
use Rattle.git_date.specs.Formats.Directives.{plain_lettered, directive_lettered}
use Rattle.git_date.specs.Formats.Flags.{filled, is_flag}
use Rattle.git_date.specs.Formats.Format.{piece_text, pieces_text}
use Rattle.git_date.specs.Formats.Pieces.{Made, Piece, Begun, begun, digits_len, letter_place, made_at, made_by, made_if, marks_len}
use Rattle.git_date.specs.Formats.Pieces.{is_format, next_piece, percent, plain_or_directive}
use Rattle.git_date.specs.Formats.Short.{letter_text, made_text, Passes}
use Rattle.git_date.specs.Formats.Shown.{Shown}
use Rattle.git_date.specs.Tokens.Numbers.{number as digits_number}
use Rattle.git_date.proofs.Formats.Letters.{made-ascii}
use Rattle.git_date.proofs.Formats.Pieces.{percent-first}
use Rattle.git_date.proofs.Formats.Walks.{Left, left-fault, left-next, grown-more, not-whole}

-- numbers that are filled with zeros
pub two_filled : (n : ℕ) → n < 100 → filled true 2 (decimal n) ≡ two_digits n
two_filled n h =
    let e : int_le (pos 0) (pos n) ≡ true = grind (arith, ints) in
    let is : number 2 (pos n) ≡ filled true 2 (decimal n) = rw e refl in
    sym is ∙ number-two n h

pub four_filled : (n : ℕ) → 1000 ≤ n → n ≤ 9999 → filled true 4 (decimal n) ≡ four_digits n
four_filled n low high =
    let e : int_le (pos 0) (pos n) ≡ true = grind (arith, ints) in
    let is : number 4 (pos n) ≡ filled true 4 (decimal n) = rw e refl in
    sym is ∙ number-four n low high

-- what is appended is what such a letter shows
pub appended : (old new text told : List ℕ) (found : Option (List ℕ)) → found ≡ Some told → told ≡ text → new ≡ old ++ text
    → option_map (λ (shown : List ℕ). old ++ shown) found ≡ Some new
appended old new text told found e same h =
    ap (λ (t : Option (List ℕ)). option_map (λ (shown : List ℕ). old ++ shown) t) e
    ∙ ap (λ (t : List ℕ). let r : Option (List ℕ) = Some (old ++ t) in r) same
    ∙ ap (λ (t : List ℕ). let r : Option (List ℕ) = Some t in r) (sym h)

-- a letter that shows something: what it begins, and that it is neither a flag nor a digit
record Usual (shown : Shown) (letter : ℕ) (text : List ℕ) : Type 0 where
  flag : is_flag letter ≡ false
  digit : is_ascii_digit letter ≡ false
  m : Made
  is : made_by 0 [] [] letter ≡ Ok m
  told : piece_text shown (Begun m) ≡ text

usual-by : (shown : Shown) (letter : ℕ) (text : List ℕ) (a b : Bool) (r : Result Made FormatFault) → is_flag letter ≡ a
    → is_ascii_digit letter ≡ b
    → made_by 0 [] [] letter ≡ r → cond (a || b) None (made_text shown r) ≡ Some text → Usual shown letter text
usual-by shown letter text true b r f d e h = absurd cc
usual-by shown letter text false true r f d e h = absurd cc
usual-by shown letter text false false (Err fault) f d e h = absurd cc
usual-by shown letter text false false (Ok m) f d e h = record { flag = f; digit = d; m = m; is = e; told = cc }

usual : (shown : Shown) (letter : ℕ) (text : List ℕ) → letter_text shown letter ≡ Some text → Usual shown letter text
usual shown letter text h = usual-by shown letter text (is_flag letter) (is_ascii_digit letter) (made_by 0 [] [] letter) refl refl refl h

anywhere-by : (left : ℕ) (m : Made) (plain : Option Plain) (directive : Option Directive)
    → plain_or_directive 0 [] [] plain directive ≡ Ok m
    → plain_or_directive left [] [] plain directive ≡ Ok m
unfolding digits_number
anywhere-by left m (Some plain) directive e = e
anywhere-by left m None (Some directive) e = e
anywhere-by left m None None e = absurd cc

prefix-none : (p : ℕ → Bool) (c : ℕ) (xs : List ℕ) → p c ≡ false → prefix_len p (c ∷ xs) ≡ 0
prefix-none p c xs h = rw h refl

abbrev made_from : List ℕ → ℕ → ℕ → Result Made FormatFault
made_from text k d = made_if (length text + 1) (take k text) (take d (drop k text)) (slice_get (drop d (drop k text)) 0)

abbrev Step : Type 0
Step = Result (Piece × List ℕ) FormatFault

made-usual : (letter : ℕ) (rest : List ℕ) (m : Made) → is_flag letter ≡ false → is_ascii_digit letter ≡ false
    → made_by 0 [] [] letter ≡ Ok m
    → begun (letter ∷ rest) (made_at (letter ∷ rest)) ≡ Ok (Begun m, rest)
unfolding made_at
made-usual letter rest m f d e =
    let text = letter ∷ rest in
    let marks : marks_len text ≡ 0 = prefix-none is_flag letter rest f in
    let digits : digits_len text ≡ 0 =
    ap (λ (k : ℕ). prefix_len is_ascii_digit (drop k text)) marks ∙ prefix-none is_ascii_digit letter rest d in
    let is : made_from text 0 0 ≡ Ok m =
    anywhere-by (length text + 1) m (plain_lettered letter) (directive_lettered letter) e in
    let made : made_at text ≡ Ok m =
    ap (λ (k : ℕ). made_from text k (digits_len text)) marks ∙ ap (λ (k : ℕ). made_from text 0 k) digits ∙ is in
    let place : letter_place text ≡ 0 = omega (arith, marks, digits) in
    ap (begun text) made ∙ ap (λ (n : ℕ). let r : Step = Ok (Begun m, drop (n + 1) text) in r) place

pushed : (old new : List ℕ) (found : Option (List ℕ)) → option_map (λ (shown : List ℕ). old ++ shown) found ≡ Some new
    → (text : List ℕ) × (found ≡ Some text) × (new ≡ old ++ text)
pushed old new None h = absurd cc
pushed old new (Some text) h = (text, refl, cc)

-- what a letter shows is appended
abbrev pub Appends : Shown → List ℕ → List ℕ → List ℕ → Type 0
Appends shown bytes old new = option_map (λ (t : List ℕ). old ++ t) (letter_text shown (get_or bytes 1 0)) ≡ Some new

pub passes-by : (shown : Shown) (text rest old new : List ℕ) → 2 ≤ length text → get_or text 0 0 ≡ percent → rest ≡ drop 2 text
    → Appends shown text old new → Passes shown text rest old new
passes-by shown [] rest old new len p is h = absurd (omega arith)
passes-by shown (c ∷ []) rest old new len p is h = absurd (omega arith)
passes-by shown (c ∷ letter ∷ more) rest old new len p is h =
    let found = pushed old new (letter_text shown letter) h in
    let u = usual shown letter found.0 found.1 in
    let first : Ok (Begun u.m, more) ≡ next_piece (c ∷ letter ∷ more) =
    sym (percent-first c (letter ∷ more) p ∙ made-usual letter more u.m u.flag u.digit u.is) in
    record {
      piece = Begun u.m;
      first = subst (λ (xs : List ℕ). Ok (Begun u.m, xs) ≡ next_piece (c ∷ letter ∷ more)) (sym is) first;
      shorter = omega (arith, ap (λ (xs : List ℕ). length xs) is);
      said = found.2 ∙ ap (λ (xs : List ℕ). old ++ xs) (sym u.told);
    }

-- a usual letter after a percent sign is the first piece
pub usual-passes : (shown : Shown) (text bytes rest old new : List ℕ) → bytes ≡ text → 2 ≤ length bytes → get_or bytes 0 0 ≡ percent
    → rest ≡ drop 2 text → Appends shown bytes old new → Passes shown text rest old new
usual-passes shown text bytes rest old new e len p is h =
    let back : rest ≡ drop 2 bytes = is ∙ ap (λ (xs : List ℕ). drop 2 xs) (sym e) in
    subst (λ (xs : List ℕ). Passes shown xs rest old new) e (passes-by shown bytes rest old new len p back h)

cut-by : (shown : Shown) (text old new : List ℕ) → IsUtf8 text → 2 ≤ length text → Appends shown text old new → IsCharBoundary text 2
cut-by shown text old new utf8 len h =
    let found = pushed old new (letter_text shown (get_or text 1 0)) h in
    let u = usual shown (get_or text 1 0) found.0 found.1 in
    IsCharBoundary-after_ascii text 1 utf8 (omega arith) (made-ascii 0 [] [] (get_or text 1 0) u.m u.is)

-- a text may be cut after it
pub usual-cut : (shown : Shown) (text bytes old new : List ℕ) → IsUtf8 text → bytes ≡ text → 2 ≤ length bytes → Appends shown bytes old new
    → IsCharBoundary text 2
usual-cut shown text bytes old new utf8 e len h =
    let told : Appends shown text old new = subst (λ (xs : List ℕ). Appends shown xs old new) e h in
    cut-by shown text old new utf8 (omega (arith, ap (λ (xs : List ℕ). length xs) e)) told

-- one piece more
pub left-passed : (shown : Shown) (text rest further start old new : List ℕ)
    → Left text rest (λ done. old ≡ start ++ pieces_text shown done) → 0 < length rest
    → Passes shown rest further old new → Left text further (λ done. new ≡ start ++ pieces_text shown done)
left-passed shown text rest further start old new left h p =
    left-next text rest further _ _ p.piece left h p.first p.shorter
    (λ done e. grown-more shown start old new done p.piece (piece_text shown p.piece) refl e p.said)

-- the same after what stands already
pub passes-after : (base : List ℕ) (shown : Shown) (text rest old new : List ℕ) → Passes shown text rest old new
    → Passes shown text rest (base ++ old) (base ++ new)
passes-after base shown text rest old new p = record {
  piece = p.piece;
  first = p.first;
  shorter = p.shorter;
  said = ap (λ (xs : List ℕ). base ++ xs) p.said ∙ sym (append_assoc base old (piece_text shown p.piece));
}

-- a whole format has no fault in what is left
ok-by : (r : Step) → ((fault : FormatFault) → Err fault ≡ r → ⊥) → is_ok r ≡ true
ok-by (Ok found) none = refl
ok-by (Err fault) none = absurd (none fault refl)

pub left-ok : (text rest : List ℕ) (P : List Piece → Type 0) → Left text rest P → 0 < length rest → is_format text ≡ true
    → is_ok (next_piece rest) ≡ true
left-ok text rest P left h whole = ok-by (next_piece rest) (λ fault e. not-whole text fault whole (left-fault text rest P fault left h e))

pub no-fault-first : (text : List ℕ) (fault : FormatFault) → is_ok (next_piece text) ≡ true → Err fault ≡ next_piece text → ⊥
no-fault-first text fault h e = false≢true (ap (λ (r : Step). is_ok r) e ∙ h)

-- a part, and a piece after it
pub apart : (shown : Shown) (text rest old part mid new emptied told : List ℕ) (piece : Piece) → Ok (piece, rest) ≡ next_piece text
    → length rest < length text → mid ≡ old ++ part → emptied ≡ [] → new ≡ mid ++ told → told ≡ piece_text shown piece
    → Passes shown text rest (old ++ part) (new ++ emptied)
apart shown text rest old part mid new emptied told piece first shorter front none back is = record {
  piece = piece;
  first = first;
  shorter = shorter;
  said = ap (λ (xs : List ℕ). new ++ xs) none ∙ append-nil new ∙ back ∙ ap (λ (xs : List ℕ). xs ++ told) front
      ∙ ap (λ (xs : List ℕ). (old ++ part) ++ xs) is;
}

-- `%Y`
pub year_shown : (shown : Shown) (letter : ℕ) → letter ≡ 89
    → letter_text shown letter ≡ Some (filled true 4 (decimal shown.clock.date.year))
unfolding digits_number
year_shown shown letter e = ap (letter_text shown) e
