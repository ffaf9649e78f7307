-- A text that is a layout's pieces is read, and what is read is a layout's pieces.
use Rattle.std.proofs.Common.{arith}
use Rattle.std.proofs.Common.{◌≡◌, ◌∙◌, ℕ, ℤ, Bool, List, [], ◌∷◌, ◌++◌, refl, ap, sym, subst, Option, Some, None, inl, inr, ◌⊎◌}
use Rattle.std.proofs.Common.{append-nil}
use Rattle.std.proofs.lemmas.Option.{same_Some as some_same}
use Rattle.std.specs.Prelude.{true, is_some, unwrap_or}
use Rattle.std.specs.Char.{is_ascii_digit}
use Rattle.gix_date.specs.Families.Answer.{FamilyAnswer}
use Rattle.gix_date.specs.Text.Characters.{letter_t, is_space}
use Rattle.gix_date.specs.Fields.FieldTexts.{IsField, AreSpaces, IsDayName, IsMonthName, IsDayPrefix}
use Rattle.gix_date.specs.Text.Front.{skip_char, ◌>>=◌}
use Rattle.gix_date.specs.Fields.Layout.{LocalTime, Piece, DayName, Rfc2822DayName, MonthName, Day, Year, PlainDate, Clock, Rfc2822Clock}
use Rattle.gix_date.specs.Fields.Layout.{Spaces, LetterT, Offset, ColonOffset, Rfc2822Offset, read_piece, read_pieces, nothing_read}
use Rattle.gix_date.specs.Fields.Layout.{layout_answer, IsPiece, ArePieces}
use Rattle.gix_date.specs.Text.Numbers.{read_field, read_year}
use Rattle.gix_date.specs.Fields.DateFields.{skip_day_name, skip_spaces, skip_weekday, read_month, read_plain_date, read_clock}
use Rattle.gix_date.specs.Fields.DateFields.{read_rfc2822_clock}
use Rattle.gix_date.specs.Fields.DateOffsets.{compact_offset, strict_offset, rfc2822_zone, rfc2822_offset, named_zone}
use Rattle.gix_date.specs.Fields.Offsets.{offset_fields, read_sign}
use Rattle.gix_date.specs.Families.Patterns.{short_layout, rfc2822_layout, iso8601_layout, iso8601_strict_layout, gitoxide_layout}
use Rattle.gix_date.specs.Families.Patterns.{default_layout, time_answer, real_day_answer, short_answer, rfc2822_answer, iso8601_answer}
use Rattle.gix_date.specs.Families.Patterns.{iso8601_strict_answer, gitoxide_answer, default_answer, IsMeaning, Accepts}
use Rattle.gix_date.proofs.Fields.FieldsRead.{Begins, BeginsNot, NoColon, begins-append, begins_not, digit-no-space, field-begins}
use Rattle.gix_date.proofs.Fields.FieldsRead.{field-read, year-begins, year-read, spaces-read, month-read, weekday-read, date-read}
use Rattle.gix_date.proofs.Fields.FieldsRead.{prefix-read, no-prefix, clock-read, rfc2822-clock-read, compact-no-space, rfc2822-no-space}
use Rattle.gix_date.proofs.Fields.FieldsRead.{strict-no-digit, clock-begins, rfc2822-clock-begins, digit-front, name-front, gap-front}
use Rattle.gix_date.proofs.Fields.FieldsRead.{gap-no-colon}
use Rattle.gix_date.proofs.Fields.FieldsTaken.{went, TookFront, after-taken, field-taken, year-taken, spaces-taken, month-taken}
use Rattle.gix_date.proofs.Fields.FieldsTaken.{weekday-taken, prefix-taken, date-taken, clock-taken, rfc2822-clock-taken}

-- the second time, with what a piece tells of the first
abbrev pub set_piece : Piece → LocalTime → LocalTime → LocalTime
set_piece MonthName t f = record f { date = record f.date { month = t.date.month } }
set_piece Day t f = record f { date = record f.date { day = t.date.day } }
set_piece Year t f = record f { date = record f.date { year = t.date.year } }
set_piece PlainDate t f = record f { date = t.date }
set_piece Clock t f = record f { clock = t.clock }
set_piece Rfc2822Clock t f = record f { clock = t.clock }
set_piece Offset t f = record f { offset = t.offset }
set_piece ColonOffset t f = record f { offset = t.offset }
set_piece Rfc2822Offset t f = record f { offset = t.offset }
set_piece _ t f = f

abbrev pub set_pieces : List Piece → LocalTime → LocalTime → LocalTime
set_pieces [] t f = f
set_pieces (p ∷ ps) t f = set_pieces ps t (set_piece p t f)

goes_on : {A B : Type 0} (r : Option A) (x : A) (next : A → Option B) → r ≡ Some x → (r >>= next) ≡ next x
goes_on {A} {B} r x next e = ap (λ (q : Option A). q >>= next) e

-- a piece that was read is written so, whatever else the time is
pub record PieceTaken (p : Piece) (f : LocalTime) (x : List ℕ) (read : LocalTime × List ℕ) : Type 0 where
  pub text : List ℕ
  pub whole : x ≡ text ++ read.1
  pub kept : set_piece p read.0 f ≡ read.0
  pub is : (t : LocalTime) → set_piece p t f ≡ read.0 → IsPiece p t text

-- what is read of one time is read of each that tells the same
piece-told : (p : Piece) (t f : LocalTime) (text : List ℕ) → IsPiece p (set_piece p t f) text → IsPiece p t text
piece-told DayName t f text h = h
piece-told p t f text h = h

-- a piece that a reader reads, where the front of what it took is such a piece of the time with what was found
taken : {C : Type 0} {p : Piece} {f : LocalTime} (read : List ℕ → Option C) (put : C → LocalTime) (rest : C → List ℕ)
    → ((v : C) → set_piece p (put v) f ≡ put v)
    → ((x : List ℕ) → read_piece p f x ≡ (read x >>= λ v. Some (put v, rest v)))
    → ((x : List ℕ) (v : C) → read x ≡ Some v → TookFront (λ text. IsPiece p (put v) text) x (rest v))
    → (x : List ℕ) (y : LocalTime × List ℕ) → read_piece p f x ≡ Some y → PieceTaken p f x y
taken {p = p} {f = f} read put rest kept reads takes x y e =
    let r = went (read x) (λ v. Some (put v, rest v)) y (sym (reads x) ∙ e) in
    let t = takes x r.0 r.1 in
    let made : (put r.0, rest r.0) ≡ y = some_same (put r.0, rest r.0) y r.2 in
    subst (PieceTaken p f x) made (record {
      text = t.text;
      whole = t.whole;
      kept = kept r.0;
      is = λ u h. piece-told p u f t.text (subst (λ (k : LocalTime). IsPiece p k t.text) (sym h) t.is);
    })

prefix : (f : LocalTime) (x : List ℕ) (found : Option (List ℕ))
    → skip_day_name x ≡ found → PieceTaken Rfc2822DayName f x (f, unwrap_or found x)
prefix f x (Some rest) h =
    let t = prefix-taken x rest h in
    record { text = t.text; whole = t.whole; kept = refl; is = λ u k. inr t.is }
prefix f x None h = record { text = []; whole = refl; kept = refl; is = λ u k. inl refl }

name : (x rest : List ℕ) → skip_weekday x ≡ Some rest → TookFront IsDayName x rest
name x rest h = let t = weekday-taken x rest h in record { text = t.name; is = t.is_name; whole = t.whole }

letter : (x rest : List ℕ) → skip_char letter_t x ≡ Some rest → TookFront (λ text. text ≡ letter_t ∷ []) x rest
letter x rest h = record { text = letter_t ∷ []; is = refl; whole = after-taken letter_t x rest h }

-- an offset is all that is left
offset : (zone : List ℕ → Option ℤ) (x : List ℕ) (v : ℤ) → zone x ≡ Some v → TookFront (λ text. zone text ≡ Some v) x []
offset zone x v h = record { text = x; is = h; whole = sym (append-nil x) }

pub piece-taken : (p : Piece) (f : LocalTime) (x : List ℕ) (y : LocalTime × List ℕ) → read_piece p f x ≡ Some y → PieceTaken p f x y
piece-taken DayName f = taken skip_weekday (λ v. f) (λ v. v) (λ v. refl) (λ x. refl) name
piece-taken Rfc2822DayName f = grind (arith, some_same, prefix)
piece-taken MonthName f = taken read_month (λ v. record f { date = record f.date { month = v.0 } }) (λ v. v.1) (λ v. refl) (λ x. refl)
    (λ x v. month-taken x v.0 v.1)
piece-taken Day f = taken read_field (λ v. record f { date = record f.date { day = v.0 } }) (λ v. v.1) (λ v. refl) (λ x. refl)
    (λ x v. field-taken x v.0 v.1)
piece-taken Year f =
    taken read_year (λ v. record f { date = record f.date { year = v.0 } }) (λ v. v.1) (λ v. refl) (λ x. refl) (λ x v. year-taken x v.0 v.1)
piece-taken PlainDate f =
    taken read_plain_date (λ v. record f { date = v.0 }) (λ v. v.1) (λ v. refl) (λ x. refl) (λ x v. date-taken x v.0 v.1)
piece-taken Clock f = taken read_clock (λ v. record f { clock = v.0 }) (λ v. v.1) (λ v. refl) (λ x. refl) (λ x v. clock-taken x v.0 v.1)
piece-taken Rfc2822Clock f =
    taken read_rfc2822_clock (λ v. record f { clock = v.0 }) (λ v. v.1) (λ v. refl) (λ x. refl) (λ x v. rfc2822-clock-taken x v.0 v.1)
piece-taken Spaces f = taken skip_spaces (λ v. f) (λ v. v) (λ v. refl) (λ x. refl) spaces-taken
piece-taken LetterT f = taken (skip_char letter_t) (λ v. f) (λ v. v) (λ v. refl) (λ x. refl) letter
piece-taken Offset f = taken compact_offset (λ v. record f { offset = v }) (λ v. []) (λ v. refl) (λ x. refl) (offset compact_offset)
piece-taken ColonOffset f = taken strict_offset (λ v. record f { offset = v }) (λ v. []) (λ v. refl) (λ x. refl) (offset strict_offset)
piece-taken Rfc2822Offset f = taken rfc2822_zone (λ v. record f { offset = v }) (λ v. []) (λ v. refl) (λ x. refl) (offset rfc2822_zone)

-- no piece changes what a piece before it told
abbrev pub told_first : List Piece → LocalTime → LocalTime → LocalTime → List LocalTime
told_first [] t f g = []
told_first (p ∷ ps) t f g = set_piece p f g ∷ told_first ps t f g

abbrev pub told_last : List Piece → LocalTime → LocalTime → LocalTime → List LocalTime
told_last [] t f g = []
told_last (p ∷ ps) t f g = set_piece p (set_pieces ps t f) g ∷ told_last ps t f g

abbrev pub ToldOnce : List Piece → Type 0
ToldOnce ps = (t f g : LocalTime) → told_last ps t f g ≡ told_first ps t f g

both_same : {A : Type 0} (x y : A) (xs ys : List A) → x ∷ xs ≡ y ∷ ys → (x ≡ y) × (xs ≡ ys)
both_same x y xs ys e = (cc, cc)

-- pieces that were read are written so
record PiecesTaken (ps : List Piece) (f : LocalTime) (x : List ℕ) (time : LocalTime) : Type 0 where
  pub are : ArePieces ps time x
  pub made : set_pieces ps time f ≡ time

pieces-taken : (ps : List Piece) → ToldOnce ps → (f : LocalTime) (x : List ℕ) (y : LocalTime) → read_pieces ps f x ≡ Some y
    → PiecesTaken ps f x y
pieces-taken [] once f [] y e = record { are = refl; made = some_same f y e }
pieces-taken [] once f (c ∷ x) y e = absurd cc
pieces-taken (p ∷ ps) once f x y e =
    let r = went (read_piece p f x) (λ r. read_pieces ps r.0 r.1) y e in
    let one = piece-taken p f x r.0 r.1 in
    let found = r.0.0 in
    let later : ToldOnce ps = λ t u g.
    (both_same (set_piece p (set_pieces ps t u) g) (set_piece p u g) (told_last ps t u g) (told_first ps t u g) (once t u g)).1 in
    let more = pieces-taken ps later found r.0.1 y r.2 in
    let first = (both_same (set_piece p (set_pieces ps y found) f) (set_piece p found f) (told_last ps y found f) (told_first ps y found f)
    (once y found f)).0 in
    let part : set_piece p y f ≡ found = ap (λ (t : LocalTime). set_piece p t f) (sym more.made) ∙ first ∙ one.kept in
    record {
      are = record { front = one.text; rest = r.0.1; whole = one.whole; is = one.is y part; more = more.are };
      made = ap (set_pieces ps y) part ∙ more.made;
    }

-- layouts that begin alike are apart where what stands after is
pub apart-after : (ps one other : List Piece) (f : LocalTime) (x : List ℕ) (y : LocalTime)
    → ((g : LocalTime) (rest : List ℕ) → read_pieces one g rest ≡ Some y → read_pieces other g rest ≡ None)
    → read_pieces (ps ++ one) f x ≡ Some y → read_pieces (ps ++ other) f x ≡ None
apart-after [] one other f x y clash e = clash f x e
apart-after (p ∷ ps) one other f x y clash e =
    let r = went (read_piece p f x) (λ r. read_pieces (ps ++ one) r.0 r.1) y e in
    goes_on (read_piece p f x) r.0 (λ r. read_pieces (ps ++ other) r.0 r.1) r.1 ∙ apart-after ps one other r.0.0 r.0.1 y clash r.2

-- what the reader of a piece wants of the text after it
abbrev pub Needs : Piece → List ℕ → Type 0
Needs Rfc2822DayName rest = Begins is_ascii_digit rest
Needs Day rest = BeginsNot is_ascii_digit rest
Needs PlainDate rest = BeginsNot is_ascii_digit rest
Needs Clock rest = BeginsNot is_ascii_digit rest
Needs Rfc2822Clock rest = BeginsNot is_ascii_digit rest × NoColon rest
Needs Spaces rest = BeginsNot is_space rest
Needs Offset rest = rest ≡ []
Needs ColonOffset rest = rest ≡ []
Needs Rfc2822Offset rest = rest ≡ []
Needs _ rest = Unit {0}

-- a piece may stand before another
abbrev pub Before : Piece → Piece → Type 0
Before p q = (t : LocalTime) (front rest : List ℕ) → IsPiece q t front → Needs p (front ++ rest)

pub zone-front : (test : ℕ → Bool) (zone : List ℕ → Option ℤ) → zone [] ≡ None
    → ((text : List ℕ) (offset : ℤ) → zone text ≡ Some offset → BeginsNot test text) → (text rest : List ℕ) (offset : ℤ)
    → zone text ≡ Some offset → BeginsNot test (text ++ rest)
zone-front test zone empty not [] rest o h = let clash : None ≡ Some o = sym empty ∙ h in absurd cc
zone-front test zone empty not (c ∷ text) rest o h = not (c ∷ text) o h

pub no-compact : compact_offset [] ≡ None
unfolding compact_offset offset_fields read_sign skip_char
no-compact = refl

pub no-strict : strict_offset [] ≡ None
unfolding strict_offset read_sign skip_char
no-strict = refl

pub no-rfc2822 : rfc2822_zone [] ≡ None
unfolding rfc2822_zone rfc2822_offset named_zone offset_fields read_sign skip_char
no-rfc2822 = refl

pub number-front : (front rest : List ℕ) → Begins is_ascii_digit (front ++ rest) → BeginsNot is_space (front ++ rest)
number-front front rest h = begins_not is_ascii_digit is_space (front ++ rest) digit-no-space h

-- where it may
abbrev pub before : (p q : Piece) → Option (Before p q)
before DayName q = Some (λ t front rest h. tt)
before MonthName q = Some (λ t front rest h. tt)
before Year q = Some (λ t front rest h. tt)
before LetterT q = Some (λ t front rest h. tt)
before Rfc2822DayName Day = Some (λ t front rest h. begins-append is_ascii_digit front rest (field-begins front t.date.day h))
before Day Spaces = Some (λ t front rest h. gap-front front rest h)
before PlainDate Spaces = Some (λ t front rest h. gap-front front rest h)
before PlainDate LetterT = Some (λ t front rest h. subst (λ k. BeginsNot is_ascii_digit (k ++ rest)) (sym h) refl)
before Clock Spaces = Some (λ t front rest h. gap-front front rest h)
before Clock ColonOffset = Some (λ t front rest h. zone-front is_ascii_digit strict_offset no-strict strict-no-digit front rest t.offset h)
before Rfc2822Clock Spaces = Some (λ t front rest h. (gap-front front rest h, gap-no-colon front rest h))
before Spaces MonthName = Some (λ t front rest h. name-front front rest h.0)
before Spaces Day = Some (λ t front rest h. digit-front front rest (field-begins front t.date.day h))
before Spaces Year = Some (λ t front rest h. digit-front front rest (year-begins front t.date.year h))
before Spaces Clock = Some (λ t front rest h. number-front front rest (clock-begins front rest t.clock h))
before Spaces Rfc2822Clock = Some (λ t front rest h. number-front front rest (rfc2822-clock-begins front rest t.clock h))
before Spaces Offset = Some (λ t front rest h. zone-front is_space compact_offset no-compact compact-no-space front rest t.offset h)
before Spaces Rfc2822Offset = Some (λ t front rest h. zone-front is_space rfc2822_zone no-rfc2822 rfc2822-no-space front rest t.offset h)
before _ _ = None

-- and which may be last
abbrev pub ends : (p : Piece) → Option (Needs p [])
ends Rfc2822DayName = None
ends Day = Some tt
ends PlainDate = Some tt
ends Clock = Some tt
ends Rfc2822Clock = Some (tt, tt)
ends Spaces = Some tt
ends Offset = Some refl
ends ColonOffset = Some refl
ends Rfc2822Offset = Some refl
ends _ = Some tt

abbrev pub Readable : List Piece → Type 0
Readable [] = Unit {0}
Readable (p ∷ []) = Needs p []
Readable (p ∷ q ∷ ps) = Before p q × Readable (q ∷ ps)

abbrev pub readable : (ps : List Piece) → Option (Readable ps)
readable [] = Some tt
readable (p ∷ []) = ends p
readable (p ∷ q ∷ ps) = before p q >>= λ first. readable (q ∷ ps) >>= λ more. Some (first, more)

letter-read : (f : LocalTime) (rest : List ℕ) → read_piece LetterT f (letter_t ∷ rest) ≡ Some (f, rest)
unfolding skip_char
letter-read f rest = refl

-- a piece that is written so is read
piece-read : (p : Piece) (t f : LocalTime) (front rest : List ℕ) → IsPiece p t front → Needs p rest
    → read_piece p f (front ++ rest) ≡ Some (set_piece p t f, rest)
piece-read DayName t f front rest h n = rw (weekday-read front rest h) refl
piece-read Rfc2822DayName t f front rest (inl none) n = grind (arith, no-prefix)
piece-read Rfc2822DayName t f front rest (inr named) n = grind (arith, prefix-read, begins_not, digit-no-space)
piece-read MonthName t f front rest h n = rw (month-read front rest t.date.month h) refl
piece-read Day t f front rest h n = rw (field-read front rest t.date.day h n) refl
piece-read Year t f front rest h n = rw (year-read front rest t.date.year h) refl
piece-read PlainDate t f front rest h n = rw (date-read front rest t.date h n) refl
piece-read Clock t f front rest h n = rw (clock-read front rest t.clock h n) refl
piece-read Rfc2822Clock t f front rest h n = rw (rfc2822-clock-read front rest t.clock h n.0 n.1) refl
piece-read Spaces t f front rest h n = rw (spaces-read front rest h n) refl
piece-read LetterT t f front rest h n = subst (λ k. read_piece LetterT f (k ++ rest) ≡ Some (f, rest)) (sym h) (letter-read f rest)
piece-read p t f front rest h n = rw (n, append-nil front, h) refl

after-piece : (p : Piece) (ps : List Piece) (t : LocalTime) (rest : List ℕ) → Readable (p ∷ ps) → ArePieces ps t rest
    → Needs p rest × Readable ps
after-piece p [] t rest r h = (subst (Needs p) (sym h) r, tt)
after-piece p (q ∷ ps) t rest r h = (subst (Needs p) (sym h.whole) (r.0 t h.front h.rest h.is), r.1)

-- pieces that are written so are read
pub pieces-read : (ps : List Piece) → Readable ps → (t f : LocalTime) (text : List ℕ) → ArePieces ps t text
    → read_pieces ps f text ≡ Some (set_pieces ps t f)
pieces-read [] r t f text h = rw h refl
pieces-read (p ∷ ps) r t f text h =
    let more = after-piece p ps t h.rest r h.more in
    ap (read_pieces (p ∷ ps) f) h.whole
    ∙ goes_on (read_piece p f (h.front ++ h.rest)) (set_piece p t f, h.rest) (λ r. read_pieces ps r.0 r.1)
    (piece-read p t f h.front h.rest h.is more.0)
    ∙ pieces-read ps more.1 t (set_piece p t f) h.rest h.more

given : {A : Type 0} (found : Option A) → is_some found ≡ true → A
given (Some x) e = x
given None e = absurd cc

-- A layout that can be read, for what such a time answers.
pub record IsSound (layout : List Piece) (of_time : LocalTime → Option FamilyAnswer) : Type 0 where
  pub once : ToldOnce layout
  pub is_readable : is_some (readable layout) ≡ true
  pub all : (t : LocalTime) → of_time (set_pieces layout t nothing_read) ≡ of_time t

-- such a layout is read where a text is its pieces, and nowhere else
pub spelled : (layout : List Piece) (of_time : LocalTime → Option FamilyAnswer) → IsSound layout of_time
    → Accepts (layout_answer layout of_time) (IsMeaning layout of_time)
spelled layout of_time s text answer = grind (arith, went, pieces-taken, goes_on, pieces-read, given)

-- each formatted date is its layout
pub record AreSpelled : Type 0 where
  pub short : Accepts short_answer (IsMeaning short_layout real_day_answer)
  pub rfc2822 : Accepts rfc2822_answer (IsMeaning rfc2822_layout time_answer)
  pub iso8601 : Accepts iso8601_answer (IsMeaning iso8601_layout time_answer)
  pub iso8601_strict : Accepts iso8601_strict_answer (IsMeaning iso8601_strict_layout time_answer)
  pub gitoxide : Accepts gitoxide_answer (IsMeaning gitoxide_layout time_answer)
  pub default : Accepts default_answer (IsMeaning default_layout time_answer)

pub dates_spelled : AreSpelled
unfolding short_answer rfc2822_answer iso8601_answer iso8601_strict_answer gitoxide_answer default_answer
dates_spelled = record {
  short = spelled short_layout real_day_answer (record { once = λ t f g. refl; is_readable = refl; all = λ t. refl });
  rfc2822 = spelled rfc2822_layout time_answer (record { once = λ t f g. refl; is_readable = refl; all = λ t. refl });
  iso8601 = spelled iso8601_layout time_answer (record { once = λ t f g. refl; is_readable = refl; all = λ t. refl });
  iso8601_strict = spelled iso8601_strict_layout time_answer (record { once = λ t f g. refl; is_readable = refl; all = λ t. refl });
  gitoxide = spelled gitoxide_layout time_answer (record { once = λ t f g. refl; is_readable = refl; all = λ t. refl });
  default = spelled default_layout time_answer (record { once = λ t f g. refl; is_readable = refl; all = λ t. refl });
}

-- what a mail date begins with
pub record Rfc2822Front (text : List ℕ) : Type 0 where
  pub prefix : List ℕ
  pub day : List ℕ
  pub gap : List ℕ
  pub month : List ℕ
  pub rest : List ℕ
  pub number : ℕ
  pub month_number : ℕ
  pub whole : text ≡ prefix ++ (day ++ (gap ++ (month ++ rest)))
  pub is_prefix : (prefix ≡ []) ⊎ IsDayPrefix prefix
  pub is_day : IsField day number
  pub is_gap : AreSpaces gap
  pub is_month : IsMonthName month month_number

pub rfc2822-front : (text : List ℕ) (answer : FamilyAnswer) → rfc2822_answer text ≡ Some answer → Rfc2822Front text
rfc2822-front text answer e =
    let a = (dates_spelled.rfc2822 text answer).0 e in
    let h = a.are in
    let day = h.more in
    let gap = day.more in
    let month = gap.more in
    record {
      prefix = h.front;
      day = day.front;
      gap = gap.front;
      month = month.front;
      rest = month.rest;
      number = a.time.date.day;
      month_number = a.time.date.month;
      whole = h.whole ∙ ap (λ (t : List ℕ). h.front ++ t)
          (day.whole ∙ ap (λ (t : List ℕ). day.front ++ t) (gap.whole ∙ ap (λ (t : List ℕ). gap.front ++ t) month.whole));
      is_prefix = h.is;
      is_day = day.is;
      is_gap = gap.is;
      is_month = month.is;
    }
