-- What a format says, byte by byte of its text and directive by directive.
use Rattle.std.proofs.Common.{◌≡◌, ◌∙◌, ◌+◌, ◌<◌, ◌≤◌, ℕ, zero, suc, Bool, true, false, List, [], ◌∷◌, ◌++◌, length, take, drop, refl, ap}
use Rattle.std.proofs.Common.{subst, arith, append_assoc, Option, Some, None, Result, Ok, Err}
use Rattle.std.proofs.lemmas.List.{length-drop}
use Rattle.std.specs.Prelude.{◌||◌, if◌then◌else◌}
use Rattle.std.specs.Result.{result_err}
use Rattle.git_date.specs.declared.format.error.FormatFault.{FormatFault}
use Rattle.git_date.specs.declared.format.error.FormatFault.TheVariants.{FlagRefused, UnknownDirective, WidthTooLarge}
use Rattle.git_date.specs.Formats.Format.{asks_seconds, is_seconds, piece_text, pieces_text}
use Rattle.git_date.specs.Formats.Pieces.{Made, Piece, Text, Begun, begun, is_percent, text_len, letter_place, made_at, made_by, made_if}
use Rattle.git_date.specs.Formats.Pieces.{next_piece, pieces, pieces_in, piece_before, then_pieces}
use Rattle.git_date.specs.Formats.Shown.{Shown}

abbrev pub Pieces : Type 0
Pieces = Result (List Piece) FormatFault

abbrev pub Next : Type 0
Next = Result (Piece × List ℕ) FormatFault

-- whether a format asks for the seconds, and its text; or its first fault
abbrev pub Said : Type 0
Said = Result (Bool × List ℕ) FormatFault

abbrev pub sense : Shown → List Piece → Bool × List ℕ
sense shown ps = (asks_seconds ps, pieces_text shown ps)

abbrev pub said : Shown → Pieces → Said
said shown (Ok ps) = Ok (sense shown ps)
said shown (Err e) = Err e

-- the same, after that of the pieces before
abbrev pub before : Bool × List ℕ → Said → Said
before x (Ok y) = Ok (x.0 || y.0, x.1 ++ y.1)
before x (Err e) = Err e

said-before : (shown : Shown) (piece : Piece) (r : Pieces)
    → said shown (piece_before piece r) ≡ before (is_seconds piece, piece_text shown piece) (said shown r)
said-before shown piece (Ok more) = refl
said-before shown piece (Err e) = refl

or-assoc : (a b c : Bool) → (a || (b || c)) ≡ ((a || b) || c)
or-assoc true b c = refl
or-assoc false b c = refl

pub before-before : (x y : Bool × List ℕ) (r : Said) → before x (before y r) ≡ before (x.0 || y.0, x.1 ++ y.1) r
before-before x y (Ok z) = grind (arith, or-assoc, append_assoc)
before-before x y (Err e) = refl

-- how many bytes are left at a fault
abbrev pub left_of : FormatFault → ℕ
left_of (FlagRefused left) = left
left_of (UnknownDirective left) = left
left_of (WidthTooLarge left) = left

-- a directive says how many bytes are left only by its fault
abbrev pub SameBut : ℕ → ℕ → Result Made FormatFault → Result Made FormatFault → Type 0
SameBut left other (Ok m) r = r ≡ Ok m
SameBut left other (Err e) r = left_of e ≡ left

plain-left : (left other : ℕ) (b : Bool) (m : Made)
    → SameBut left other (if b then Ok m else Err (FlagRefused left)) (if b then Ok m else Err (FlagRefused other))
plain-left left other true m = refl
plain-left left other false m = refl

width-left : (left other : ℕ) (b : Bool) (m : Made)
    → SameBut left other (if b then Err (WidthTooLarge left) else Ok m) (if b then Err (WidthTooLarge other) else Ok m)
width-left left other true m = refl
width-left left other false m = refl

letter-left : (left other : ℕ) (marks digits : List ℕ) (letter : ℕ)
    → SameBut left other (made_by left marks digits letter) (made_by other marks digits letter)
letter-left left other marks digits letter = grind (arith, plain-left, width-left)

pub made-left : (left other : ℕ) (marks digits : List ℕ) (letter : Option ℕ)
    → SameBut left other (made_if left marks digits letter) (made_if other marks digits letter)
made-left left other marks digits None = refl
made-left left other marks digits (Some letter) = letter-left left other marks digits letter

-- a piece leaves fewer bytes than there are, and a fault lies among them
abbrev Goes : ℕ → Next → Type 0
Goes left (Ok found) = length found.1 < left
Goes left (Err e) = left_of e ≤ left

begun-goes : (rest : List ℕ) (r : Result Made FormatFault) → SameBut (length rest + 1) (length rest + 1) r r
    → Goes (length rest + 1) (begun rest r)
begun-goes rest (Ok m) h = omega (arith, length-drop (letter_place rest + 1) rest)
begun-goes rest (Err e) h = omega (arith, h)

piece-goes : (c : ℕ) (rest : List ℕ) (b : Bool) → is_percent c ≡ b → Goes (length rest + 1) (next_piece (c ∷ rest))
unfolding next_piece made_at
piece-goes c rest true e = grind (arith, begun-goes, made-left)
piece-goes c rest false e = rw e (omega (arith, length-drop (1 + text_len rest) (c ∷ rest)))

goes : (c : ℕ) (rest : List ℕ) → Goes (length rest + 1) (next_piece (c ∷ rest))
goes c rest = piece-goes c rest (is_percent c) refl

-- the pieces after one
abbrev More : ℕ → ℕ → Type 0
More n m = (text : List ℕ) → length text ≤ n → length text ≤ m → pieces_in n text ≡ pieces_in m text

then-enough : (n m left : ℕ) (r : Next) → Goes left r → left ≤ n + 1 → left ≤ m + 1 → More n m
    → then_pieces (pieces_in n) r ≡ then_pieces (pieces_in m) r
then-enough n m left (Ok found) h k l more = ap (piece_before found.0) (more found.1 (omega (arith, h)) (omega (arith, h)))
then-enough n m left (Err e) h k l more = refl

-- as many pieces as there are bytes are enough
pub enough : (n m : ℕ) → More n m
unfolding pieces_in
enough zero zero text h k = refl
enough zero (suc m) [] h k = refl
enough zero (suc m) (c ∷ rest) h k = absurd (omega arith)
enough (suc n) zero [] h k = refl
enough (suc n) zero (c ∷ rest) h k = absurd (omega arith)
enough (suc n) (suc m) [] h k = refl
enough (suc n) (suc m) (c ∷ rest) h k =
    then-enough n m (length rest + 1) (next_piece (c ∷ rest)) (goes c rest) (omega arith) (omega arith) (enough n m)

within-by : (n left : ℕ) (r : Next) (e : FormatFault) → Goes left r → then_pieces (pieces_in n) r ≡ Err e
    → ((text : List ℕ) → pieces_in n text ≡ Err e → left_of e ≤ length text) → left_of e ≤ left
within-by n left (Err e') e h is more = let same : e' ≡ e = cc in subst (λ (f : FormatFault). left_of f ≤ left) same h
within-by n left (Ok found) e h is more = grind (arith)

fault-within : (n : ℕ) (text : List ℕ) (e : FormatFault) → pieces_in n text ≡ Err e → left_of e ≤ length text
unfolding pieces_in
fault-within zero [] e is = absurd cc
fault-within zero (c ∷ rest) e is = absurd cc
fault-within (suc n) [] e is = absurd cc
fault-within (suc n) (c ∷ rest) e is =
    let k = within-by n (length rest + 1) (next_piece (c ∷ rest)) e (goes c rest) is (λ text. fault-within n text e) in
    omega (arith, k)

fault-of : (r : Pieces) (e : FormatFault) → result_err r ≡ Some e → r ≡ Err e
fault-of (Ok ps) e is = absurd cc
fault-of (Err fault) e is = cc

-- a fault lies within the format
pub fault-in : (text : List ℕ) (e : FormatFault) → result_err (pieces text) ≡ Some e → left_of e ≤ length text
unfolding pieces
fault-in text e is = fault-within (length text) text e (fault-of (pieces text) e is)

abbrev pub format_said : Shown → List ℕ → Said
format_said shown text = said shown (pieces text)

first-step : (c : ℕ) (rest : List ℕ) → pieces (c ∷ rest) ≡ then_pieces (pieces_in (length rest)) (next_piece (c ∷ rest))
unfolding pieces pieces_in
first-step c rest = enough (length (c ∷ rest)) (suc (length rest)) (c ∷ rest) (omega arith) (omega arith)

-- a piece is said before what follows it
step-said : (shown : Shown) (c : ℕ) (rest further : List ℕ) (piece : Piece) → next_piece (c ∷ rest) ≡ Ok (piece, further)
    → length further ≤ length rest
    → format_said shown (c ∷ rest) ≡ before (is_seconds piece, piece_text shown piece) (format_said shown further)
unfolding pieces
step-said shown c rest further piece is fewer = grind (arith, first-step, said-before, enough)

next-by : (c : ℕ) (rest : List ℕ) (r : Result Made FormatFault) → is_percent c ≡ true → made_at rest ≡ r
    → next_piece (c ∷ rest) ≡ begun rest r
unfolding next_piece
next-by c rest r percent is = rw percent (ap (begun rest) is)

pub directive-said : (shown : Shown) (c : ℕ) (rest : List ℕ) (m : Made) → is_percent c ≡ true → made_at rest ≡ Ok m
    → format_said shown (c ∷ rest)
    ≡ before (is_seconds (Begun m), piece_text shown (Begun m)) (format_said shown (drop (letter_place rest + 1) rest))
directive-said shown c rest m percent is =
    step-said shown c rest (drop (letter_place rest + 1) rest) (Begun m) (next-by c rest (Ok m) percent is)
    (omega (arith, length-drop (letter_place rest + 1) rest))

-- no text is said after a fault
pub fault-said : (shown : Shown) (c : ℕ) (rest : List ℕ) (e : FormatFault) → is_percent c ≡ true → made_at rest ≡ Err e
    → format_said shown (c ∷ rest) ≡ Err e
fault-said shown c rest e percent is = grind (arith, first-step, next-by)

text-more : (c : ℕ) (rest : List ℕ) → is_percent c ≡ false → text_len (c ∷ rest) ≡ suc (text_len rest)
text-more c rest plain = rw plain (omega arith)

text-next : (c : ℕ) (rest : List ℕ) → is_percent c ≡ false
    → next_piece (c ∷ rest) ≡ Ok (Text (c ∷ take (text_len rest) rest), drop (text_len rest) rest)
unfolding next_piece
text-next c rest plain = grind (arith, text-more)

text-said : (shown : Shown) (c : ℕ) (rest : List ℕ) → is_percent c ≡ false
    → format_said shown (c ∷ rest) ≡ before (false, c ∷ take (text_len rest) rest) (format_said shown (drop (text_len rest) rest))
text-said shown c rest plain =
    step-said shown c rest (drop (text_len rest) rest) (Text (c ∷ take (text_len rest) rest)) (text-next c rest plain)
    (omega (arith, length-drop (text_len rest) rest))

abbrev cut_at : Shown → ℕ → List ℕ → ℕ → Said
cut_at shown c rest n = before (false, c ∷ take n rest) (format_said shown (drop n rest))

byte-by : (shown : Shown) (c d : ℕ) (more : List ℕ) (b : Bool) → is_percent d ≡ b
    → cut_at shown c (d ∷ more) (text_len (d ∷ more)) ≡ before (false, c ∷ []) (format_said shown (d ∷ more))
byte-by shown c d more true percent = grind (arith)
byte-by shown c d more false plain = grind (arith, text-more, text-said, before-before)

-- a byte of text is said before what follows it, be that text or a directive
pub byte-said : (shown : Shown) (c : ℕ) (rest : List ℕ) → is_percent c ≡ false
    → format_said shown (c ∷ rest) ≡ before (false, c ∷ []) (format_said shown rest)
byte-said shown c [] plain = text-said shown c [] plain
byte-said shown c (d ∷ more) plain = text-said shown c (d ∷ more) plain ∙ byte-by shown c d more (is_percent d) refl
