-- No text is of two of the families before Git's own forms.
use Rattle.std.proofs.Common.{◌≡◌, ◌∙◌, ◌≤◌, ◌+◌, ◌-◌, ◌*◌, ℕ, le_refl, zero, suc, drop, get_or, ℤ, Bool, true, false, cond, List, [], ◌∷◌}
use Rattle.std.proofs.Common.{◌++◌, length, refl, ap, sym, subst, Option, Some, None, is_some, filter, inl, inr, ◌⊎◌, append_assoc}
use Rattle.std.proofs.Common.{option_map, arith}
use Rattle.std.proofs.lemmas.Bool.Decides.{nat_tests}
use Rattle.std.specs.Prelude.{◌==◌, ◌&&◌}
use Rattle.std.specs.Char.{is_ascii_digit, is_ascii_alphabetic}
use Rattle.std.specs.Str.{all_ascii_digits}
use Rattle.gix_date.specs.Families.Answer.{FamilyAnswer, Absolute}
use Rattle.gix_date.specs.Text.Characters.{at_sign, plus, minus, comma, letter_t, is_space}
use Rattle.gix_date.specs.Families.Epoch.{at_time, epoch_time}
use Rattle.gix_date.specs.Fields.FieldTexts.{IsField, IsYear, AreSpaces, IsDayName, IsPlainDate, IsDayPrefix}
use Rattle.gix_date.specs.Text.Front.{skip_char, ◌>>=◌}
use Rattle.gix_date.specs.Text.Numbers.{int_value, read_two_digits, read_digit, read_field, read_year}
use Rattle.gix_date.specs.Fields.DateFields.{skip_day_name, skip_spaces, read_name, skip_weekday, read_plain_date, read_clock, read_minutes}
use Rattle.gix_date.specs.Families.Patterns.{gitoxide_layout, iso8601_layout, time_answer, short_answer, rfc2822_answer, iso8601_answer}
use Rattle.gix_date.specs.Families.Patterns.{iso8601_strict_answer, gitoxide_answer, default_answer}
use Rattle.gix_date.proofs.Fields.FieldsRead.{Begins, BeginsNot, Excludes, begins-append, begins_not, digit-no-letter, letter-no-digit}
use Rattle.gix_date.proofs.Fields.FieldsRead.{space-no-digit, digit-no-space, field-begins, year-begins, name-begins, weekday-read}
use Rattle.gix_date.proofs.Fields.FieldsRead.{date-read}
use Rattle.gix_date.proofs.Fields.FieldsTaken.{went, after-taken, none-unless}
use Rattle.gix_date.proofs.Fields.Layouts.{piece-taken, apart-after, rfc2822-front, dates_spelled}
use Rattle.gix_date.specs.Families.Order.{answers_before_git}
use Rattle.gix_date.specs.Families.Raw.{OffsetRule, is_quarter_offset}
use Rattle.gix_date.specs.Fields.Layout.{LocalTime, Piece, DayName, MonthName, Day, Year, PlainDate, Clock, Spaces, LetterT, Offset}
use Rattle.gix_date.specs.Fields.Layout.{ColonOffset, read_piece, read_pieces, nothing_read, ArePieces}
use Rattle.gix_date.specs.declared.clock.DateFields.{DateFields}
use Rattle.gix_date.specs.declared.time.Time.{Time}
use Rattle.gix_date.proofs.Fast.FastHeaders.{is_number_byte, int-no-byte, letter-no-number, int-taken}
use Rattle.gix_date.proofs.Text.Ints.{each_of}

-- families by what a text begins with
pub no_pair : (c : ℕ) (t : List ℕ) → is_ascii_digit c ≡ false → read_two_digits (c ∷ t) ≡ None
unfolding read_two_digits
no_pair c [] h = refl
no_pair c (d ∷ t) h = rw h refl

pub one-no-pair : (c : ℕ) → read_two_digits (c ∷ []) ≡ None
unfolding read_two_digits
one-no-pair c = refl

pub no-year : (t : List ℕ) → BeginsNot is_ascii_digit t → read_year t ≡ None
unfolding read_year read_two_digits
no-year [] h = refl
no-year (c ∷ t) h = rw (no_pair c t h) refl

pub no-field : (t : List ℕ) → BeginsNot is_ascii_digit t → read_field t ≡ None
unfolding read_field read_two_digits read_digit
no-field [] h = refl
no-field (c ∷ t) h = rw (no_pair c t h, h) refl

pub no_weekday : (t : List ℕ) → BeginsNot is_ascii_alphabetic t → skip_weekday t ≡ None
unfolding skip_weekday read_name
no_weekday (a ∷ b ∷ c ∷ t) h = rw h refl
no_weekday t h = refl

pub no-spaces : (t : List ℕ) → BeginsNot is_space t → skip_spaces t ≡ None
unfolding skip_spaces
no-spaces [] h = refl
no-spaces (c ∷ t) h = rw h refl

-- without a year at the front
pub record NoPlainDate (text : List ℕ) : Type 0 where
  pub short : short_answer text ≡ None
  pub iso8601 : iso8601_answer text ≡ None
  pub strict : iso8601_strict_answer text ≡ None

pub no-plain : (text : List ℕ) → read_year text ≡ None → NoPlainDate text
unfolding short_answer iso8601_answer iso8601_strict_answer read_plain_date
no-plain text h = record { short = rw h refl; iso8601 = rw h refl; strict = rw h refl }

-- without the name of a day at the front
pub record NoDayFirst (text : List ℕ) : Type 0 where
  pub gitoxide : gitoxide_answer text ≡ None
  pub default : default_answer text ≡ None

pub no-day : (text : List ℕ) → skip_weekday text ≡ None → NoDayFirst text
unfolding gitoxide_answer default_answer
no-day text h = record { gitoxide = rw h refl; default = rw h refl }

-- no number alone
pub mixed : (front : List ℕ) (c : ℕ) (rest : List ℕ) → is_ascii_digit c ≡ false → all_ascii_digits (front ++ (c ∷ rest)) ≡ false
mixed [] c rest h = rw h refl
mixed (d ∷ front) c rest h = both_ways (is_ascii_digit d) (mixed front c rest h)
  where
    both_ways : (b : Bool) {more : Bool} → more ≡ false → (b && more) ≡ false
    both_ways true e = e
    both_ways false e = refl

pub digit-no-plus : Excludes is_ascii_digit (λ c. c == plus)
digit-no-plus c h = grind (arith, nat_tests, h)

pub digit-no-minus : Excludes is_ascii_digit (λ c. c == minus)
digit-no-minus c h = grind (arith, nat_tests, h)

-- an int text that begins with a digit is digits
pub int-digits : (c : ℕ) (t : List ℕ) (n : ℤ) → is_ascii_digit c ≡ true → int_value (c ∷ t) ≡ Some n
    → all_ascii_digits (c ∷ t) ≡ true
int-digits c t n d e = grind (arith, each_of, int-taken, digit-no-minus, digit-no-plus)

pub no-epoch : (text : List ℕ) → int_value text ≡ None → epoch_time text ≡ None
unfolding epoch_time
no-epoch text h = rw h refl

pub no-epoch-byte : (c : ℕ) (t : List ℕ) → is_number_byte c ≡ false → epoch_time (c ∷ t) ≡ None
no-epoch-byte c t h = no-epoch (c ∷ t) (none-unless (int_value (c ∷ t)) (λ n e. int-no-byte c t n h e))

pub no-epoch-digits : (front : List ℕ) (c : ℕ) (rest : List ℕ) → Begins is_ascii_digit front → is_ascii_digit c ≡ false
    → epoch_time (front ++ (c ∷ rest)) ≡ None
no-epoch-digits [] c rest b h = absurd b
no-epoch-digits (d ∷ front) c rest b h = grind (arith, no-epoch, none-unless, int-digits, mixed)

pub no-epoch-letter : (t : List ℕ) → Begins is_ascii_alphabetic t → epoch_time t ≡ None
no-epoch-letter [] h = absurd h
no-epoch-letter (c ∷ t) h = no-epoch-byte c t (letter-no-number c h)

-- no mail date begins with neither a letter nor a digit, nor with a year
pub no-rfc2822-first : (t : List ℕ) → BeginsNot is_ascii_alphabetic t → BeginsNot is_ascii_digit t → rfc2822_answer t ≡ None
unfolding rfc2822_answer skip_day_name
no-rfc2822-first t l d = rw (no_weekday t l, no-field t d) refl

pub pair_first : (a b c : ℕ) (rest : List ℕ) → is_ascii_digit a ≡ true → is_ascii_digit b ≡ true → is_ascii_digit c ≡ true
    → read_field (a ∷ b ∷ c ∷ rest) ≡ Some (10 * (a - 48) + (b - 48), c ∷ rest)
unfolding read_field read_two_digits
pair_first a b c rest ha hb hc = rw (ha, hb) refl

pub no-rfc2822-year : (year rest : List ℕ) (n : ℕ) → IsYear year n → rfc2822_answer (year ++ rest) ≡ None
unfolding rfc2822_answer skip_day_name
no-rfc2822-year (a ∷ b ∷ c ∷ d ∷ []) rest n h = grind (arith, no_weekday, digit-no-letter, pair_first, no-spaces, digit-no-space)
no-rfc2822-year year rest n h = absurd h

-- what a text is not that begins with a plain date
record AfterPlainDate (text : List ℕ) : Type 0 where
  pub rfc2822 : rfc2822_answer text ≡ None
  pub gitoxide : gitoxide_answer text ≡ None
  pub default : default_answer text ≡ None
  pub epoch : epoch_time text ≡ None

after-plain : (day rest : List ℕ) (date : DateFields) → IsPlainDate day date → AfterPlainDate (day ++ rest)
after-plain day rest date h =
    let more = minus ∷ (h.month ++ (minus ∷ (h.day ++ rest))) in
    let split : day ++ rest ≡ h.year ++ more = rw h.whole (simp append_assoc) in
    let front = begins-append is_ascii_digit h.year more (year-begins h.year date.year h.is_year) in
    let none = no-day (h.year ++ more)
    (no_weekday (h.year ++ more) (begins_not is_ascii_digit is_ascii_alphabetic (h.year ++ more) digit-no-letter front)) in
    subst AfterPlainDate (sym split) (record {
      rfc2822 = no-rfc2822-year h.year more date.year h.is_year;
      gitoxide = none.gitoxide;
      default = none.default;
      epoch = no-epoch-digits h.year minus (h.month ++ (minus ∷ (h.day ++ rest))) (year-begins h.year date.year h.is_year) refl;
    })

-- none of the families from this one on answers; after the at text a rule for raw offsets is no matter
abbrev NoneFrom : ℕ → List ℕ → Type 0
NoneFrom n text = filter is_some (drop n (answers_before_git is_quarter_offset text)) ≡ []

-- where each that answers has none after it, at most one does
at-most-one : (answers : List (Option FamilyAnswer))
    → ((n : ℕ) (answer : FamilyAnswer) → get_or answers n None ≡ Some answer → filter is_some (drop (suc n) answers) ≡ [])
    → length (filter is_some answers) ≤ 1
at-most-one [] alone = omega arith
at-most-one (None ∷ rest) alone = at-most-one rest (λ n. alone (suc n))
at-most-one (Some answer ∷ rest) alone = rw (alone 0 answer refl) (le_refl 1)

-- a text that begins with the name of a day is no bare epoch
named-no-epoch : (name rest text : List ℕ) → IsDayName name → text ≡ name ++ rest → epoch_time text ≡ None
named-no-epoch name rest text h split = grind (arith, no-epoch-letter, begins-append, name-begins)

default-alone : (text : List ℕ) (answer : FamilyAnswer) → default_answer text ≡ Some answer → NoneFrom 7 text
default-alone text answer e =
    let h = ((dates_spelled.default text answer).0 e).are in
    rw (named-no-epoch h.front h.rest text h.is h.whole) refl

-- no clock begins with a year
no-clock-year : (year rest : List ℕ) (n : ℕ) → IsYear year n → read_clock (year ++ rest) ≡ None
unfolding read_clock read_minutes skip_char
no-clock-year (a ∷ b ∷ c ∷ d ∷ []) rest n h = grind (arith, pair_first, nat_tests)
no-clock-year year rest n h = absurd h

year-no-clock : (g : LocalTime) (more other : List Piece) (x : List ℕ) (y : LocalTime) → read_pieces (Year ∷ more) g x ≡ Some y
    → read_pieces (Clock ∷ other) g x ≡ None
year-no-clock g more other x y e =
    let read = went (read_piece Year g x) (λ r. read_pieces more r.0 r.1) y e in
    let first = piece-taken Year g x read.0 read.1 in
    let none : read_clock x ≡ None = ap read_clock first.whole
    ∙ no-clock-year first.text read.0.1 read.0.0.date.year (first.is read.0.0 first.kept) in
    rw none refl

gitoxide-alone : (text : List ℕ) (answer : FamilyAnswer) → gitoxide_answer text ≡ Some answer → NoneFrom 6 text
unfolding gitoxide_answer default_answer
gitoxide-alone text answer e =
    let h = ((dates_spelled.gitoxide text answer).0 e).are in
    let begin = DayName ∷ Spaces ∷ MonthName ∷ Spaces ∷ Day ∷ Spaces ∷ [] in
    let one = Spaces ∷ Clock ∷ Spaces ∷ Offset ∷ [] in
    let other = Spaces ∷ Year ∷ Spaces ∷ Offset ∷ [] in
    let read = went (read_pieces gitoxide_layout nothing_read text) time_answer answer e in
    let none : default_answer text ≡ None = ap (λ (found : Option LocalTime). found >>= time_answer) (apart-after begin (Year ∷ one)
    (Clock ∷ other) nothing_read text read.0 (λ g rest. year-no-clock g one other rest read.0) read.1) in
    rw (none, named-no-epoch h.front h.rest text h.is h.whole) refl

plain-alone : (text : List ℕ) → AfterPlainDate text → NoneFrom 5 text
plain-alone text h = rw (h.gitoxide, h.default, h.epoch) refl

-- a text that begins with a plain date
plain-first : (more : List Piece) (time : LocalTime) (text : List ℕ) → ArePieces (PlainDate ∷ more) time text → AfterPlainDate text
plain-first more time text h = subst AfterPlainDate (sym h.whole) (after-plain h.front h.rest time.date h.is)

strict-alone : (text : List ℕ) (answer : FamilyAnswer) → iso8601_strict_answer text ≡ Some answer → NoneFrom 5 text
strict-alone text answer e =
    let a = (dates_spelled.iso8601_strict text answer).0 e in
    plain-alone text (plain-first (LetterT ∷ Clock ∷ ColonOffset ∷ []) a.time text a.are)

no-t : (gap rest : List ℕ) → AreSpaces gap → skip_char letter_t (gap ++ rest) ≡ None
unfolding skip_char
no-t [] rest h = absurd h
no-t (c ∷ gap) rest h = grind (arith, nat_tests)

spaces-no-t : (g : LocalTime) (more other : List Piece) (x : List ℕ) (y : LocalTime) → read_pieces (Spaces ∷ more) g x ≡ Some y
    → read_pieces (LetterT ∷ other) g x ≡ None
spaces-no-t g more other x y e =
    let read = went (read_piece Spaces g x) (λ r. read_pieces more r.0 r.1) y e in
    let first = piece-taken Spaces g x read.0 read.1 in
    let none : skip_char letter_t x ≡ None = ap (skip_char letter_t) first.whole
    ∙ no-t first.text read.0.1 (first.is read.0.0 first.kept) in
    rw none refl

iso8601-alone : (text : List ℕ) (answer : FamilyAnswer) → iso8601_answer text ≡ Some answer → NoneFrom 4 text
unfolding iso8601_answer iso8601_strict_answer
iso8601-alone text answer e =
    let a = (dates_spelled.iso8601 text answer).0 e in
    let one = Clock ∷ Spaces ∷ Offset ∷ [] in
    let other = Clock ∷ ColonOffset ∷ [] in
    let plain = plain-first (Spaces ∷ one) a.time text a.are in
    let read = went (read_pieces iso8601_layout nothing_read text) time_answer answer e in
    let strict : iso8601_strict_answer text ≡ None = ap (λ (found : Option LocalTime). found >>= time_answer) (apart-after (PlainDate ∷ [])
    (Spaces ∷ one) (LetterT ∷ other) nothing_read text read.0 (λ g rest. spaces-no-t g one other rest read.0) read.1) in
    rw (strict, plain.gitoxide, plain.default, plain.epoch) refl

not_both : (b : Bool) (v : ℕ) (rest : List ℕ) → option_map {U = ℕ × List ℕ} (λ n. (n, rest)) (cond (b && false) (Some v) None) ≡ None
not_both true v rest = refl
not_both false v rest = refl

pub no_pair_of : (a c : ℕ) (rest : List ℕ) → is_ascii_digit c ≡ false → read_two_digits (a ∷ c ∷ rest) ≡ None
unfolding read_two_digits
no_pair_of a c rest h = rw h (not_both (is_ascii_digit a) (10 * (a - 48) + (c - 48)) rest)

pub pair_read : (a b : ℕ) (rest : List ℕ) → is_ascii_digit a ≡ true → is_ascii_digit b ≡ true
    → read_two_digits (a ∷ b ∷ rest) ≡ Some (10 * (a - 48) + (b - 48), rest)
unfolding read_two_digits
pair_read a b rest ha hb = rw (ha, hb) refl

-- no year is a field and a space
no-year-field : (day gap rest : List ℕ) (n : ℕ) → IsField day n → AreSpaces gap → read_year (day ++ (gap ++ rest)) ≡ None
unfolding read_year
no-year-field (a ∷ []) [] rest n h s = absurd s
no-year-field (a ∷ []) (c ∷ gap) rest n h s = rw (no_pair_of a c (gap ++ rest) (space-no-digit c s.0)) refl
no-year-field (a ∷ b ∷ []) [] rest n h s = absurd s
no-year-field (a ∷ b ∷ []) (c ∷ gap) rest n h s = grind (arith, pair_read, no_pair, space-no-digit)
no-year-field day gap rest n h s = absurd h

-- the name of a day and a comma
no-day-comma : (name rest : List ℕ) → IsDayName name → NoDayFirst (name ++ (comma ∷ rest))
unfolding gitoxide_answer default_answer
no-day-comma name rest h = grind (arith, weekday-read, no-spaces)

-- what no mail date is
record NoOther (text : List ℕ) : Type 0 where
  pub year : read_year text ≡ None
  pub day : NoDayFirst text
  pub epoch : epoch_time text ≡ None

rfc2822-no-other : (prefix day gap rest : List ℕ) (n : ℕ) → (prefix ≡ []) ⊎ IsDayPrefix prefix → IsField day n → AreSpaces gap
    → NoOther (prefix ++ (day ++ (gap ++ rest)))
rfc2822-no-other prefix day [] rest n p h s = absurd s
rfc2822-no-other prefix day (c ∷ gap) rest n (inl none) h s =
    let text = day ++ (c ∷ (gap ++ rest)) in
    let front = begins-append is_ascii_digit day (c ∷ (gap ++ rest)) (field-begins day n h) in
    subst (λ p. NoOther (p ++ text)) (sym none) (record {
      year = no-year-field day (c ∷ gap) rest n h s;
      day = no-day text (no_weekday text (begins_not is_ascii_digit is_ascii_alphabetic text digit-no-letter front));
      epoch = no-epoch-digits day c (gap ++ rest) (field-begins day n h) (space-no-digit c s.0);
    })
rfc2822-no-other prefix day (c ∷ gap) rest n (inr named) h s =
    let text = day ++ (c ∷ (gap ++ rest)) in
    let split : prefix ++ text ≡ named.name ++ (comma ∷ (named.gap ++ text)) = rw named.whole (simp append_assoc) in
    let front = begins-append is_ascii_alphabetic named.name (comma ∷ (named.gap ++ text)) (name-begins named.name named.is_name.0) in
    let whole = named.name ++ (comma ∷ (named.gap ++ text)) in
    subst NoOther (sym split) (record {
      year = no-year whole (begins_not is_ascii_alphabetic is_ascii_digit whole letter-no-digit front);
      day = no-day-comma named.name (named.gap ++ text) named.is_name;
      epoch = no-epoch-letter whole front;
    })

rfc2822-alone : (text : List ℕ) (answer : FamilyAnswer) → rfc2822_answer text ≡ Some answer → NoneFrom 3 text
rfc2822-alone text answer e =
    let h = rfc2822-front text answer e in
    let none =
    subst NoOther (sym h.whole) (rfc2822-no-other h.prefix h.day h.gap (h.month ++ h.rest) h.number h.is_prefix h.is_day h.is_gap) in
    let plain = no-plain text none.year in
    rw (plain.iso8601, plain.strict, none.day.gitoxide, none.day.default, none.epoch) refl

short-alone : (text : List ℕ) (answer : FamilyAnswer) → short_answer text ≡ Some answer → NoneFrom 2 text
unfolding iso8601_answer iso8601_strict_answer skip_spaces skip_char
short-alone text answer e =
    let a = (dates_spelled.short text answer).0 e in
    let plain = plain-first [] a.time text a.are in
    let read : read_plain_date text ≡ Some (a.time.date, []) =
    ap read_plain_date (a.are.whole ∙ ap (λ (t : List ℕ). a.are.front ++ t) a.are.more)
    ∙ date-read a.are.front [] a.time.date a.are.is tt in
    let iso8601 : iso8601_answer text ≡ None = rw read refl in
    let strict : iso8601_strict_answer text ≡ None = rw read refl in
    rw (plain.rfc2822, iso8601, strict, plain.gitoxide, plain.default, plain.epoch) refl

pub at-first : (rule : OffsetRule) (text : List ℕ) (time : Time) → at_time rule text ≡ Some time → (rest : List ℕ) × (text ≡ at_sign ∷ rest)
unfolding at_time
at-first rule text time e = grind (arith, went, after-taken)

at-none : (rest : List ℕ) → NoneFrom 1 (at_sign ∷ rest)
at-none rest = grind (arith, no-plain, no-year, no-day, no_weekday, no-rfc2822-first, no-epoch-byte)

at-alone : (rule : OffsetRule) (text : List ℕ) (answer : FamilyAnswer) (found : Option Time) → at_time rule text ≡ found
    → option_map Absolute found ≡ Some answer → NoneFrom 1 text
at-alone rule text answer None h e = absurd cc
at-alone rule text answer (Some time) h e =
    let first = at-first rule text time h in
    subst (λ t. NoneFrom 1 t) (sym first.1) (at-none first.0)

pub before-git-apart : (rule : OffsetRule) (text : List ℕ) → length (filter is_some (answers_before_git rule text)) ≤ 1
before-git-apart rule text = at-most-one (answers_before_git rule text) alone
  where
    alone : (n : ℕ) (answer : FamilyAnswer) → get_or (answers_before_git rule text) n None ≡ Some answer
        → filter is_some (drop (suc n) (answers_before_git rule text)) ≡ []
    alone zero answer e = at-alone rule text answer (at_time rule text) refl e
    alone (suc zero) answer e = short-alone text answer e
    alone (suc (suc zero)) answer e = rfc2822-alone text answer e
    alone (suc (suc (suc zero))) answer e = iso8601-alone text answer e
    alone (suc (suc (suc (suc zero)))) answer e = strict-alone text answer e
    alone (suc (suc (suc (suc (suc zero))))) answer e = gitoxide-alone text answer e
    alone (suc (suc (suc (suc (suc (suc zero)))))) answer e = default-alone text answer e
    alone (suc (suc (suc (suc (suc (suc (suc zero))))))) answer e = refl
    alone (suc (suc (suc (suc (suc (suc (suc (suc n)))))))) answer e = absurd cc
