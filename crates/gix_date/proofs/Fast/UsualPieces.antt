-- Dates of fixed length are read by the family of their form, which is the first that holds them.
use Rattle.std.proofs.Common.{Some, ◌≡◌, ◌∙◌, ◌≤◌, ◌+◌, ℕ, ℤ, zero, suc, Option, None, List, [], ◌∷◌, ◌++◌, length, take, drop, get_or}
use Rattle.std.proofs.Common.{refl, ap, sym, subst, arith, inl, inr, codes, unsigned_abs, drop-cons, drop-drop, drop_of_length-le}
use Rattle.std.proofs.Common.{length-take-le, length-drop, length-append, take-append-drop}
use Rattle.std.proofs.lemmas.Bool.Decides.{nat_tests}
use Rattle.gix_date.specs.Families.AfterDay.{dashed_answer}
use Rattle.gix_date.specs.Families.Answer.{FamilyAnswer, Absolute}
use Rattle.gix_date.specs.Families.Order.{answers_before_git, first_family_by}
use Rattle.gix_date.specs.Families.Patterns.{short_answer, iso8601_answer, iso8601_strict_answer, time_answer, max_date_offset, IsMeaning}
use Rattle.gix_date.specs.Families.Patterns.{Accepts}
use Rattle.gix_date.specs.Families.Raw.{OffsetRule}
use Rattle.gix_date.specs.Families.Usual.{AreAtMost, AreWithin, SaysDate, SaysClock, SaysOffset, Says}
use Rattle.gix_date.specs.Fields.Civil.{DateFits, ClockFits}
use Rattle.gix_date.specs.Fields.FieldTexts.{AreSpaces}
use Rattle.gix_date.specs.Fields.Layout.{LocalTime, Piece, PlainDate, Clock, Spaces, LetterT, Offset, ColonOffset, IsPiece, ArePieces}
use Rattle.gix_date.specs.Fields.Layout.{nothing_read}
use Rattle.gix_date.specs.declared.clock.ClockFields.{ClockFields}
use Rattle.gix_date.specs.declared.clock.DateFields.{DateFields}
use Rattle.gix_date.specs.Text.Characters.{space, letter_t}
use Rattle.gix_date.proofs.Fast.UsualDates.{exact, compact-usual, strict-usual, within-a-day}
use Rattle.gix_date.proofs.Fields.FieldsTaken.{first-or}
use Rattle.gix_date.proofs.Fields.Layouts.{set_piece, set_pieces, dates_spelled}
use Rattle.gix_date.proofs.Printing.ReadBack.{first-at}

-- the least and the greatest bytes of a piece as programs print it
abbrev pub bounds : Piece → List ℕ × List ℕ
bounds PlainDate = (codes "0000-00-00", codes "9999-19-39")
bounds Clock = (codes "00:00:00", codes "29:59:59")
bounds Spaces = (codes " ", codes " ")
bounds LetterT = (codes "T", codes "T")
bounds Offset = (codes "+0000", codes "-2959")
bounds ColonOffset = (codes "+00:00", codes "-29:59")
bounds p = ([], [])

abbrev pub size : Piece → ℕ
size p = length (bounds p).0

abbrev pub lowest : List Piece → List ℕ
lowest [] = []
lowest (p ∷ ps) = (bounds p).0 ++ lowest ps

abbrev pub highest : List Piece → List ℕ
highest [] = []
highest (p ∷ ps) = (bounds p).1 ++ highest ps

same-size : (p : Piece) → size p ≡ length (bounds p).1
same-size PlainDate = refl
same-size p = refl

-- so many bytes of a text from a place on
abbrev pub bytes : ℕ → ℕ → List ℕ → List ℕ
bytes zero i text = []
bytes (suc n) i text = get_or text i 0 ∷ bytes n (suc i) text

bytes-are : (n i : ℕ) (text : List ℕ) → i + n ≤ length text → bytes n i text ≡ take n (drop i text)
bytes-are zero i text h = refl
bytes-are (suc n) i text h =
    let more = bytes-are n (suc i) text (omega (arith, h)) in
    ap (λ (r : List ℕ). get_or text i 0 ∷ r) more ∙ sym (ap (take (suc n)) (drop-cons text i 0 (omega (arith, h))))

abbrev pub part : Piece → ℕ → List ℕ → List ℕ
part PlainDate i text = take 10 (drop i text)
part Clock i text = take 8 (drop i text)
part p i text = bytes (size p) i text

part-is : (p : Piece) (i : ℕ) (text : List ℕ) → i + size p ≤ length text → part p i text ≡ take (size p) (drop i text)
part-is PlainDate i text h = refl
part-is Clock i text h = refl
part-is p i text h = bytes-are (size p) i text h

-- what these bytes say where they look like the piece
abbrev pub Read : Piece → LocalTime → List ℕ → Type 0
Read PlainDate t x = SaysDate x t.date
Read Clock t x = SaysClock x t.clock
Read Offset t x = SaysOffset (get_or x 0 0) (get_or x 1 0) (get_or x 2 0) (get_or x 3 0) (get_or x 4 0) t.offset
Read ColonOffset t x = SaysOffset (get_or x 0 0) (get_or x 1 0) (get_or x 2 0) (get_or x 4 0) (get_or x 5 0) t.offset
Read Spaces t x = Unit {0}
Read LetterT t x = Unit {0}
Read p t x = ⊥

abbrev pub AreRead : List Piece → ℕ → LocalTime → List ℕ → Type 0
AreRead [] i t text = Unit {0}
AreRead (p ∷ ps) i t text = Read p t (part p i text) × AreRead ps (i + size p) t text

-- the fields of a time have as many digits as are printed
abbrev pub AllFit : LocalTime → Type 0
AllFit t = DateFits t.date × ClockFits t.clock × (unsigned_abs t.offset ≤ max_date_offset)

none-read-fits : AllFit nothing_read
none-read-fits = (
  record { year = omega arith; month = omega arith; day = omega arith },
  record { hour = omega arith; minute = omega arith; second = omega arith },
  omega arith,
)

a-space : (c : ℕ) → c ≡ space → AreSpaces (c ∷ [])
a-space c is = (grind (arith, nat_tests, is), refl)

piece-of : (p : Piece) (t : LocalTime) (x : List ℕ) → length x ≡ size p → AreWithin (bounds p).0 (bounds p).1 x → Read p t x
    → IsPiece p t x × ((f : LocalTime) → AllFit f → AllFit (set_piece p t f))
unfolding AreAtMost AreWithin SaysDate SaysClock SaysOffset
piece-of PlainDate t x n h r = ((r h).0, λ f k. ((r h).1, k.1, k.2))
piece-of Clock t x n h r = ((r h).0, λ f k. (k.0, (r h).1, k.2))
piece-of Spaces t (c ∷ []) n h r = (a-space c (exact c space h.0.0 h.1.0), λ f k. k)
piece-of LetterT t (c ∷ []) n h r = (ap (λ (c : ℕ). c ∷ []) (exact c letter_t h.0.0 h.1.0), λ f k. k)
piece-of Offset t (m ∷ a ∷ b ∷ c ∷ d ∷ []) n h r = let o = (r h).0 in (compact-usual _ t.offset o, λ f k. (k.0, k.1, within-a-day o))
piece-of ColonOffset t (m ∷ a ∷ b ∷ x ∷ c ∷ d ∷ []) n ((k0, (k1, (k2, (k, (k3, (k4, _)))))), (u0, (u1, (u2, (u, (u3, (u4, _))))))) r =
    grind (arith, exact, strict-usual, within-a-day)
piece-of Spaces t x n h r = absurd (omega (arith, n))
piece-of LetterT t x n h r = absurd (omega (arith, n))
piece-of Offset t x n h r = absurd (omega (arith, n))
piece-of ColonOffset t x n h r = absurd (omega (arith, n))
piece-of p t x n h r = absurd r

-- a text within the bounds of a piece and of more
split : (xs ys low high text : List ℕ) → length xs ≡ length ys → length xs ≤ length text → AreWithin (xs ++ low) (ys ++ high) text
    → AreWithin xs ys (take (length xs) text) × AreWithin low high (drop (length xs) text)
unfolding AreAtMost AreWithin
split [] [] low high text e n h = ((tt, tt), h)
split (x ∷ xs) (y ∷ ys) low high (c ∷ text) e n h =
    let more = split xs ys low high text (omega (arith, e)) (omega (arith, n)) (h.0.1, h.1.1) in
    (((h.0.0, more.0.0), (h.1.0, more.0.1)), more.1)
split xs ys low high text e n h = absurd (omega (arith, e, n))

pieces-of : (ps : List Piece) (i : ℕ) (t : LocalTime) (text : List ℕ) → length text ≡ i + length (lowest ps)
    → AreWithin (lowest ps) (highest ps) (drop i text) → AreRead ps i t text
    → ArePieces ps t (drop i text) × ((f : LocalTime) → AllFit f → AllFit (set_pieces ps t f))
pieces-of [] i t text n h r = (drop_of_length-le text (omega (arith, n)), λ f k. k)
pieces-of (p ∷ ps) i t text n h r =
    let rest = drop i text in
    let long : length text ≡ i + size p + length (lowest ps) = omega (arith, n, length-append (bounds p).0 (lowest ps)) in
    let fits : size p ≤ length rest = omega (arith, long, length-drop i text) in
    let after : drop (size p) rest ≡ drop (i + size p) text = drop-drop (size p) i text in
    let both = split (bounds p).0 (bounds p).1 (lowest ps) (highest ps) rest (same-size p) fits h in
    let here = piece-of p t (take (size p) rest) (length-take-le (size p) rest fits) both.0
    (subst (Read p t) (part-is p i text (omega (arith, long))) r.0) in
    let more = pieces-of ps (i + size p) t text long (subst (AreWithin (lowest ps) (highest ps)) after both.1) r.1 in (
      record {
        front = take (size p) rest;
        rest = drop (size p) rest;
        whole = sym (take-append-drop (size p) rest);
        is = here.0;
        more = subst (ArePieces ps t) (sym after) more.0;
      },
      λ f k. more.1 (set_piece p t f) (here.1 f k),
    )

-- what was read of a text is said of it where it is within the bounds of its pieces
says : (place : ℕ) {ps : List Piece} {family : List ℕ → Option FamilyAnswer} → Accepts family (IsMeaning ps time_answer)
    → ((rule : OffsetRule) (text : List ℕ) → get_or (answers_before_git rule text) place None ≡ family text)
    → (t : LocalTime) → (AllFit (set_pieces ps t nothing_read) → AllFit t) → (text : List ℕ) → length text ≡ length (lowest ps)
    → AreWithin (lowest ps) (highest ps) text → AreRead ps 0 t text → Says text (t.date, t.clock, t.offset)
says place {ps} {family} spelled is t fits text n h r =
    let are = pieces-of ps 0 t text (omega (arith, n)) h r in
    let fit = fits (are.1 nothing_read none-read-fits) in
    record {
      date_fits = fit.0;
      clock_fits = fit.1;
      within = fit.2;
      first = λ a comes rule. first-at rule place text (Absolute a)
          (is rule text ∙ (spelled text (Absolute a)).1 (record { time = t; are = are.0; comes = comes }));
    }

module _ (text : List ℕ) (date : DateFields) (c : ClockFields) (o : ℤ) (n : length text ≡ 25) (d : SaysDate (take 10 text) date)
    (k : SaysClock (take 8 (drop 11 text)) c) where
  pub iso8601_says : SaysOffset (get_or text 20 0) (get_or text 21 0) (get_or text 22 0) (get_or text 23 0) (get_or text 24 0) o
      → AreWithin (codes "0000-00-00 00:00:00 +0000") (codes "9999-19-39 29:59:59 -2959") text → Says text (date, c, o)
  iso8601_says offset w =
      says 3 dates_spelled.iso8601 (λ rule text. refl) (record { weekday = 0; date = date; clock = c; offset = o }) (λ f. f) text n w
      (d, (tt, (k, (tt, (offset, tt)))))

  pub iso8601_strict_says : SaysOffset (get_or text 19 0) (get_or text 20 0) (get_or text 21 0) (get_or text 23 0) (get_or text 24 0) o
      → AreWithin (codes "0000-00-00T00:00:00+00:00") (codes "9999-19-39T29:59:59-29:59") text → Says text (date, c, o)
  iso8601_strict_says offset w =
      says 4 dates_spelled.iso8601_strict (λ rule text. refl) (record { weekday = 0; date = date; clock = c; offset = o }) (λ f. f) text n w
      (d, (tt, (k, (offset, tt))))

-- what a date that begins with a day answers is the first answer
pub dashed_first : (rule : OffsetRule) (text : List ℕ) (x : FamilyAnswer) → dashed_answer text ≡ Some x → first_family_by rule text ≡ Some x
dashed_first rule text x e =
    elim (first-or (short_answer text) _ x e) [
      | inl short ↦ first-at rule 1 text x short
      | inr more ↦ elim (first-or (iso8601_answer text) (iso8601_strict_answer text) x more)
          [ inl iso ↦ first-at rule 3 text x iso | inr strict ↦ first-at rule 4 text x strict ]
    ]
