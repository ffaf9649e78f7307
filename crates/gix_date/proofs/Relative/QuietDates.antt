-- Formatted dates and numbers are quiet: their words are digits, and names of days, months and zones.
use Rattle.std.proofs.Common.{◌≡◌, ◌∙◌, ◌+◌, ◌-◌, ◌≤◌, ℕ, ℤ, Bool, true, false, cond, List, [], ◌∷◌, ◌++◌, length, take, refl, ap, ap₂, sym}
use Rattle.std.proofs.Common.{subst, arith, append_assoc, append-nil, Some, None, Option, option_map, inl, inr, ◌⊎◌, IsUtf8, suc, get_or}
use Rattle.std.proofs.lemmas.Bool.{and_parts as both}
use Rattle.std.proofs.lemmas.Bool.Decides.{nat_tests}
use Rattle.std.proofs.lemmas.List.Quantifiers.{position-Some}
use Rattle.std.specs.Char.{is_ascii_digit, is_ascii_alphabetic, is_ascii_alphanumeric, to_ascii_lowercase}
use Rattle.std.specs.List.{list_all, position}
use Rattle.std.specs.Option.{option_or}
use Rattle.std.specs.Prelude.{◌==◌, ◌||◌, ◌&&◌, nat_le}
use Rattle.std.specs.Str.{all_ascii_digits}
use Rattle.std.specs.Str.Parse.{without_leading_sign}
use Rattle.gix_date.specs.Fields.FieldTexts.{IsField, IsYear, AreSpaces, AreThreeLetters, IsDayName, IsMonthName, IsPlainDate, IsClock}
use Rattle.gix_date.specs.Fields.FieldTexts.{IsRfc2822Clock, IsDayPrefix}
use Rattle.gix_date.specs.Families.Answer.{FamilyAnswer}
use Rattle.gix_date.specs.Text.Characters.{minus, plus, colon, comma, letter_t}
use Rattle.gix_date.specs.Fields.Layout.{LocalTime, Piece, DayName, Rfc2822DayName, MonthName, Day, Year, PlainDate, Clock, Rfc2822Clock}
use Rattle.gix_date.specs.Fields.Layout.{Spaces, LetterT, Offset, ColonOffset, Rfc2822Offset, IsPiece, ArePieces}
use Rattle.gix_date.specs.Text.Names.{is_name, named_in, day_names, month_names}
use Rattle.gix_date.specs.Text.Numbers.{int_value}
use Rattle.gix_date.specs.Fields.Offsets.{offset_fields}
use Rattle.gix_date.specs.Fields.DateFields.{is_weekday, month_named}
use Rattle.gix_date.specs.Fields.DateOffsets.{compact_offset, strict_offset, rfc2822_zone, rfc2822_offset, named_zone, zone_names}
use Rattle.gix_date.specs.Fields.DateOffsets.{jiff_offset}
use Rattle.gix_date.specs.Families.Patterns.{rfc2822_answer, iso8601_strict_answer, Accepts, IsMeaning}
use Rattle.gix_date.specs.Relative.Dates.{date_names, named_date}
use Rattle.gix_date.specs.Relative.Words.{relative_words, is_gap, singular, named_unit, unit_names, unit_of, is_ago}
use Rattle.gix_date.specs.Relative.Roles.{has_unit}
use Rattle.gix_date.specs.Text.SpaceWords.{space_words}
use Rattle.gix_date.specs.declared.clock.ClockFields.{ClockFields}
use Rattle.gix_date.specs.declared.clock.DateFields.{DateFields}
use Rattle.gix_date.specs.declared.parsing.offset.OffsetFields.{OffsetFields}
use Rattle.gix_date.proofs.Fields.ThreeLetters.{all-at}
use Rattle.gix_date.proofs.Fields.FieldsRead.{digit-no-letter}
use Rattle.gix_date.proofs.Fields.ColonOffsets.{AreLastSeconds, strict-taken}
use Rattle.gix_date.proofs.Fields.FieldsTaken.{went}
use Rattle.gix_date.proofs.Text.Ints.{each_of, each_of as three}
use Rattle.gix_date.proofs.Fields.Layouts.{dates_spelled}
use Rattle.gix_date.proofs.Fast.FastHeaders.{int-taken, offset-taken, sign_passes}
use Rattle.gix_date.proofs.Relative.QuietWords.{says_nothing, says-by, IsQuiet, like, like-any, names_of, named-any, any-run, one-run-word}
use Rattle.gix_date.proofs.Text.WordsWithin.{words-within, one-gap, none-of-empty}
use Rattle.gix_date.proofs.Text.AsciiCuts.{all-append}

-- A word that begins with no letter says nothing.
no_lower : (c n : ℕ) → is_ascii_alphabetic c ≡ false → 97 ≤ n → n ≤ 122 → (to_ascii_lowercase c == n) ≡ false
no_lower c n h l m = grind (arith, nat_tests, h, l, m)

no_s : (c : ℕ) → is_ascii_alphabetic c ≡ false → (c == 115 || c == 83) ≡ false
no_s c h = grind (arith, nat_tests, h)

-- a name that begins with a small letter
abbrev begins_small : List ℕ → Bool
begins_small [] = false
begins_small (n ∷ name) = nat_le 97 n && nat_le n 122

small-first : (c n : ℕ) (t name : List ℕ) → is_ascii_alphabetic c ≡ false → begins_small (n ∷ name) ≡ true
    → is_name (c ∷ t) (n ∷ name) ≡ false
small-first c n t name h s = grind (arith, nat_tests, no_lower)

-- it is in no table whose names begin so
no-named : {A : Type 0} (table : List (List ℕ × A)) (c : ℕ) (t : List ℕ) → is_ascii_alphabetic c ≡ false
    → list_all (λ row. begins_small row.0) table ≡ true → named_in table (c ∷ t) ≡ None
no-named [] c t h all = refl
no-named (([], said) ∷ rows) c t h all = absurd cc
no-named ((n ∷ name, said) ∷ rows) c t h all =
    let parts = both (begins_small (n ∷ name)) (list_all (λ row. begins_small row.0) rows) all in
    rw (small-first c n t name h parts.0) (no-named rows c t h parts.1)

no-name : (c : ℕ) (t : List ℕ) → is_ascii_alphabetic c ≡ false → named_unit (c ∷ t) ≡ None
unfolding named_unit
no-name c t h = no-named unit_names c t h refl

cut-name : (b : Bool) (c d : ℕ) (t : List ℕ) → is_ascii_alphabetic c ≡ false
    → named_unit (cond b (take (length (c ∷ d ∷ t) - 1) (c ∷ d ∷ t)) (c ∷ d ∷ t)) ≡ None
cut-name true c d t h =
    let long : length (c ∷ d ∷ t) - 1 ≡ suc (length t) = omega arith in
    ap (λ (n : ℕ). named_unit (take n (c ∷ d ∷ t))) long ∙ no-name c (take (length t) (d ∷ t)) h
cut-name false c d t h = no-name c (d ∷ t) h

no-unit : (c : ℕ) (t : List ℕ) → is_ascii_alphabetic c ≡ false → has_unit (c ∷ t) ≡ false
unfolding has_unit unit_of singular
no-unit c [] h = rw (no_s c h, no-name c [] h) refl
no-unit c (d ∷ t) h = rw (cut-name _ c d t h) refl

no-date : (c : ℕ) (t : List ℕ) → is_ascii_alphabetic c ≡ false → named_date (c ∷ t) ≡ None
unfolding named_date
no-date c t h = no-named date_names c t h refl

no-ago : (c : ℕ) (t : List ℕ) → is_ascii_alphabetic c ≡ false → is_ago (c ∷ t) ≡ false
no-ago c t h = rw (no_lower c 97 h (omega arith) (omega arith)) refl

digit-says-nothing : (c : ℕ) (t : List ℕ) → is_ascii_digit c ≡ true → says_nothing (c ∷ t) ≡ true
digit-says-nothing c t h = grind (arith, digit-no-letter, says-by, no-unit, no-ago, no-date)

-- Texts one after the other, with a byte of no word between them, are quiet where each is.
pub quiet-none : IsQuiet []
quiet-none = ap (list_all says_nothing) none-of-empty

pub quiet-gap : (x : List ℕ) (g : ℕ) (y : List ℕ) → is_gap g ≡ true → IsQuiet x → IsQuiet y → IsQuiet (x ++ (g ∷ y))
quiet-gap x g y h p q = ap (list_all says_nothing) (one-gap x g y h) ∙ all-append says_nothing (relative_words x) (relative_words y) p q

pub quiet-after : (g : ℕ) (y : List ℕ) → is_gap g ≡ true → IsQuiet y → IsQuiet (g ∷ y)
quiet-after g y h q = quiet-gap [] g y h quiet-none q

space_gap : (c : ℕ) → (c == 32) ≡ true → is_gap c ≡ true
space_gap c h = grind (arith, nat_tests, h)

quiet-skip : (gap y : List ℕ) → list_all (λ c. c == 32) gap ≡ true → IsQuiet y → IsQuiet (gap ++ y)
quiet-skip [] y h q = q
quiet-skip (c ∷ gap) y h q =
    let parts = both (c == 32) (list_all (λ c. c == 32) gap) h in
    quiet-after c (gap ++ y) (space_gap c parts.0) (quiet-skip gap y parts.1 q)

pub quiet-spaces : (x gap y : List ℕ) → AreSpaces gap → IsQuiet x → IsQuiet y → IsQuiet (x ++ (gap ++ y))
quiet-spaces x [] y s p q = absurd s
quiet-spaces x (c ∷ gap) y s p q = quiet-gap x c (gap ++ y) (space_gap c s.0) p (quiet-skip gap y s.1 q)

-- One word.
quiet-word : (c : ℕ) (t : List ℕ) → list_all is_ascii_alphanumeric (c ∷ t) ≡ true → says_nothing (c ∷ t) ≡ true → IsQuiet (c ∷ t)
quiet-word c t h s = ap (list_all says_nothing) (one-run-word c t h) ∙ rw s refl

pub digit_run : (c : ℕ) → is_ascii_digit c ≡ true → is_ascii_alphanumeric c ≡ true
digit_run c h = rw h refl

letter_run : (c : ℕ) → is_ascii_alphabetic c ≡ true → is_ascii_alphanumeric c ≡ true
letter_run c h = grind (arith, nat_tests, h)

pub digits-run : (t : List ℕ) → all_ascii_digits t ≡ true → list_all is_ascii_alphanumeric t ≡ true
digits-run [] h = refl
digits-run (c ∷ t) h = let parts = both (is_ascii_digit c) (all_ascii_digits t) h in rw (digit_run c parts.0) (digits-run t parts.1)

-- a run that begins with a digit
quiet-run : (c : ℕ) (t : List ℕ) → is_ascii_digit c ≡ true → list_all is_ascii_alphanumeric t ≡ true → IsQuiet (c ∷ t)
quiet-run c t d h = quiet-word c t (rw (digit_run c d) h) (digit-says-nothing c t d)

pub quiet-digits : (t : List ℕ) → all_ascii_digits t ≡ true → IsQuiet t
quiet-digits [] h = quiet-none
quiet-digits (c ∷ t) h = let parts = both (is_ascii_digit c) (all_ascii_digits t) h in quiet-run c t parts.0 (digits-run t parts.1)

pub field-digits : (t : List ℕ) (n : ℕ) → IsField t n → all_ascii_digits t ≡ true
field-digits (a ∷ []) n h = rw h.0 refl
field-digits (a ∷ b ∷ []) n h = rw (h.0, h.1) refl
field-digits t n h = absurd h

pub year-digits : (t : List ℕ) (n : ℕ) → IsYear t n → all_ascii_digits t ≡ true
year-digits (a ∷ b ∷ c ∷ d ∷ []) n h = rw (h.0, h.1, h.2, h.3) refl
year-digits t n h = absurd h

quiet-field : (t : List ℕ) (n : ℕ) → IsField t n → IsQuiet t
quiet-field t n h = quiet-digits t (field-digits t n h)

-- a field, `T`, and another
quiet-joined : (day hour : List ℕ) (n m : ℕ) → IsField day n → IsField hour m → IsQuiet (day ++ (letter_t ∷ hour))
quiet-joined [] hour n m h k = absurd h
quiet-joined (c ∷ day) hour n m h k = grind (arith, both, field-digits, digits-run, quiet-run, all-append)

-- Names.
names-quiet : list_all says_nothing day_names ≡ true × list_all says_nothing month_names ≡ true
unfolding has_unit unit_of singular named_unit named_date
names-quiet = (refl, refl)

letters-run : (t : List ℕ) → AreThreeLetters t → list_all is_ascii_alphanumeric t ≡ true
letters-run (a ∷ b ∷ c ∷ []) h = grind (arith, three, letter_run)
letters-run t h = absurd h

quiet-name : (t : List ℕ) → list_all is_ascii_alphanumeric t ≡ true → says_nothing t ≡ true → IsQuiet t
quiet-name [] h s = quiet-none
quiet-name (c ∷ t) h s = quiet-word c t h s

quiet-day-name : (t : List ℕ) → IsDayName t → IsQuiet t
unfolding is_weekday
quiet-day-name t h = quiet-name t (letters-run t h.0) (like-any t day_names names-quiet.0 h.1)

found-name : (t : List ℕ) (place : Option ℕ) (n : ℕ) → position (is_name t) month_names ≡ place
    → option_map {U = ℕ} (λ k. k + 1) place ≡ Some n → says_nothing t ≡ true
found-name t None n e h = absurd cc
found-name t (Some k) n e h =
    let at = position-Some (is_name t) month_names k [] e in
    like t (get_or month_names k []) at.1 (all-at says_nothing month_names k names-quiet.1 at.0)

quiet-month-name : (t : List ℕ) (n : ℕ) → IsMonthName t n → IsQuiet t
unfolding month_named
quiet-month-name t n h = quiet-name t (letters-run t h.0) (found-name t (position (is_name t) month_names) n refl h.1)

-- Dates and clocks.
quiet-date : (x : List ℕ) (date : DateFields) → IsPlainDate x date → IsQuiet x
quiet-date x date h = grind (arith, quiet-gap, quiet-digits, year-digits, quiet-field)

quiet-clock : (x : List ℕ) (clock : ClockFields) → IsClock x clock → IsQuiet x
quiet-clock x clock h = grind (arith, quiet-gap, quiet-field)

quiet-rfc2822-clock : (x : List ℕ) (clock : ClockFields) → IsRfc2822Clock x clock → IsQuiet x
quiet-rfc2822-clock x clock (inl h) = quiet-clock x clock h
quiet-rfc2822-clock x clock (inr h) = grind (arith, quiet-gap, quiet-field)

-- Offsets.
pub quiet-offset : (x : List ℕ) (f : OffsetFields) → offset_fields x ≡ Some f → IsQuiet x
quiet-offset x f e =
    let k = offset-taken x f e in
    let rest = k.h0 ∷ k.h1 ∷ k.m0 ∷ k.m1 ∷ k.last in
    let all : all_ascii_digits rest ≡ true = rw (k.is_h0, k.is_h1, k.is_m0, k.is_m1) k.is_last.digits in
    subst IsQuiet (sym k.whole) (quiet-after k.mark rest (sign_passes is_gap k.mark f.sign k.is_mark refl refl) (quiet-digits rest all))

quiet-compact : (x : List ℕ) (o : ℤ) → compact_offset x ≡ Some o → IsQuiet x
unfolding compact_offset
quiet-compact x o e = let f = went (offset_fields x) (λ f. jiff_offset f) o e in quiet-offset x f.0 f.1

-- a sign, and what stands after it
record Signed (x : List ℕ) : Type 0 where
  pub mark : ℕ
  pub rest : List ℕ
  pub whole : x ≡ mark ∷ rest
  pub gap : is_gap mark ≡ true
  pub quiet : IsQuiet rest

quiet-last : (front last : List ℕ) (s : Option ℕ) → AreLastSeconds last s → IsQuiet front → IsQuiet (front ++ last)
quiet-last front last s (inl none) q = subst (λ (t : List ℕ). IsQuiet (front ++ t)) (sym none.0) (subst IsQuiet (sym (append-nil front)) q)
quiet-last front last s (inr two) q = grind (arith, quiet-gap, quiet-digits)

strict-signed : (x : List ℕ) (o : ℤ) → strict_offset x ≡ Some o → Signed x
strict-signed x o e =
    let t = strict-taken x o e in
    let k = t.1 in
    let hour = k.h0 ∷ k.h1 ∷ [] in
    let minute = k.m0 ∷ k.m1 ∷ [] in
    let hour_digits : all_ascii_digits hour ≡ true = rw (k.is_h0, k.is_h1) refl in
    let minute_digits : all_ascii_digits minute ≡ true = rw (k.is_m0, k.is_m1) refl in
    record {
      mark = k.mark;
      rest = hour ++ (colon ∷ (minute ++ k.last));
      whole = k.whole;
      gap = sign_passes is_gap k.mark t.0.sign k.is_mark refl refl;
      quiet = quiet-gap hour colon (minute ++ k.last) refl (quiet-digits hour hour_digits)
          (quiet-last minute k.last t.0.seconds k.is_last (quiet-digits minute minute_digits));
    }

quiet-colon-zone : (x : List ℕ) (o : ℤ) → strict_offset x ≡ Some o → IsQuiet x
quiet-colon-zone x o e = let s = strict-signed x o e in subst IsQuiet (sym s.whole) (quiet-after s.mark s.rest s.gap s.quiet)

zones-quiet : list_all says_nothing (names_of zone_names) ≡ true
unfolding has_unit unit_of singular named_unit named_date
zones-quiet = refl

quiet-rfc2822-zone : (x : List ℕ) (o : ℤ) → rfc2822_zone x ≡ Some o → IsQuiet x
unfolding rfc2822_zone rfc2822_offset named_zone
quiet-rfc2822-zone x o e = by_offset (rfc2822_offset x) refl e
  where
    by_offset : (found : Option ℤ) → rfc2822_offset x ≡ found → option_or found (named_zone x) ≡ Some o → IsQuiet x
    by_offset (Some n) h e = let f = went (offset_fields x) _ n h in quiet-offset x f.0 f.1
    by_offset None h e =
        let any = named-any zone_names x o e in
        quiet-name x (any-run x (names_of zone_names) refl any) (like-any x (names_of zone_names) zones-quiet any)

-- Whole dates: each piece is quiet, and spaces stand between them, but for mail and the strict form.
quiet-t : IsQuiet (letter_t ∷ [])
unfolding has_unit unit_of singular named_unit named_date
quiet-t = quiet-word letter_t [] refl refl

-- the name of a day and a comma, or nothing, and what stands after it
quiet-prefixed : (prefix rest : List ℕ) → (prefix ≡ []) ⊎ IsDayPrefix prefix → IsQuiet rest → IsQuiet (prefix ++ rest)
quiet-prefixed prefix rest (inl none) q = subst (λ (p : List ℕ). IsQuiet (p ++ rest)) (sym none) q
quiet-prefixed prefix rest (inr named) q =
    let split : prefix ++ rest ≡ named.name ++ (comma ∷ (named.gap ++ rest)) =
    rw named.whole (append_assoc named.name (comma ∷ named.gap) rest) in
    subst IsQuiet (sym split)
    (quiet-gap named.name comma (named.gap ++ rest) refl (quiet-day-name named.name named.is_name)
    (quiet-spaces [] named.gap rest named.are_spaces quiet-none q))

quiet-piece : (p : Piece) (t : LocalTime) (x : List ℕ) → IsPiece p t x → IsQuiet x
quiet-piece DayName t x h = quiet-day-name x h
quiet-piece Rfc2822DayName t x h = subst IsQuiet (append-nil x) (quiet-prefixed x [] h quiet-none)
quiet-piece MonthName t x h = quiet-month-name x t.date.month h
quiet-piece Day t x h = quiet-field x t.date.day h
quiet-piece Year t x h = quiet-digits x (year-digits x t.date.year h)
quiet-piece PlainDate t x h = quiet-date x t.date h
quiet-piece Clock t x h = quiet-clock x t.clock h
quiet-piece Rfc2822Clock t x h = quiet-rfc2822-clock x t.clock h
quiet-piece Spaces t x h = subst IsQuiet (append-nil x) (quiet-spaces [] x [] h quiet-none quiet-none)
quiet-piece LetterT t x h = subst IsQuiet (sym h) quiet-t
quiet-piece Offset t x h = quiet-compact x t.offset h
quiet-piece ColonOffset t x h = quiet-colon-zone x t.offset h
quiet-piece Rfc2822Offset t x h = quiet-rfc2822-zone x t.offset h

-- every second piece is spaces
abbrev pub AreSpaced : List Piece → Type 0
AreSpaced (p ∷ []) = Unit {0}
AreSpaced (p ∷ Spaces ∷ pieces) = AreSpaced pieces
AreSpaced _ = ⊥

quiet-pieces : (ps : List Piece) → AreSpaced ps → (t : LocalTime) (x : List ℕ) → ArePieces ps t x → IsQuiet x
quiet-pieces [] s t x h = absurd s
quiet-pieces (p ∷ []) s t x h = grind (arith, append-nil, quiet-piece)
quiet-pieces (p ∷ Spaces ∷ ps) s t x h =
    let gap = h.more in
    subst IsQuiet (sym (h.whole ∙ ap (λ (r : List ℕ). h.front ++ r) gap.whole))
    (quiet-spaces h.front gap.front gap.rest gap.is (quiet-piece p t h.front h.is) (quiet-pieces ps s t gap.rest gap.more))
quiet-pieces (p ∷ q ∷ ps) s t x h = absurd s

-- a date whose pieces have spaces between them
pub quiet-dated : (family : List ℕ → Option FamilyAnswer) (of_time : LocalTime → Option FamilyAnswer) (layout : List Piece)
    → AreSpaced layout → Accepts family (IsMeaning layout of_time)
    → (text : List ℕ) (answer : FamilyAnswer) → family text ≡ Some answer → IsQuiet text
quiet-dated family of_time layout spaced law text answer e = let a = (law text answer).0 e in quiet-pieces layout spaced a.time text a.are

after_rfc2822_day : List Piece
after_rfc2822_day = Day ∷ Spaces ∷ MonthName ∷ Spaces ∷ Year ∷ Spaces ∷ Rfc2822Clock ∷ Spaces ∷ Rfc2822Offset ∷ []

pub quiet-rfc2822 : (text : List ℕ) (answer : FamilyAnswer) → rfc2822_answer text ≡ Some answer → IsQuiet text
unfolding after_rfc2822_day
quiet-rfc2822 text answer e =
    let a = (dates_spelled.rfc2822 text answer).0 e in
    let h = a.are in
    subst IsQuiet (sym h.whole) (quiet-prefixed h.front h.rest h.is (quiet-pieces after_rfc2822_day tt a.time h.rest h.more))

quiet-strict-parts : (x d : List ℕ) (date : DateFields) (clock : ClockFields) (time zone : List ℕ) (o : ℤ) → IsPlainDate d date
    → IsClock time clock → strict_offset zone ≡ Some o
    → x ≡ d ++ (letter_t ∷ (time ++ zone)) → IsQuiet x
quiet-strict-parts x d date clock time zone o h c z e =
    let s = strict-signed zone o z in
    let after_second = c.second ++ (s.mark ∷ s.rest) in
    let after_minute = c.minute ++ (colon ∷ after_second) in
    let joined = h.day ++ (letter_t ∷ c.hour) in
    let front = h.year ++ (minus ∷ h.month) in
    let clock_split : time ++ zone ≡ c.hour ++ (colon ∷ after_minute) =
    ap₂ (λ (t z : List ℕ). t ++ z) c.whole s.whole ∙ (append_assoc (c.hour ++ (colon ∷ c.minute)) (colon ∷ c.second) (s.mark ∷ s.rest)
    ∙ append_assoc c.hour (colon ∷ c.minute) (colon ∷ after_second)) in
    let date_split : d ++ (letter_t ∷ (time ++ zone)) ≡ front ++ (minus ∷ (joined ++ (colon ∷ after_minute))) =
    ap₂ (λ (t z : List ℕ). t ++ (letter_t ∷ z)) h.whole clock_split
    ∙ (append_assoc front (minus ∷ h.day) (letter_t ∷ (c.hour ++ (colon ∷ after_minute)))
    ∙ ap (λ (t : List ℕ). front ++ (minus ∷ t)) (sym (append_assoc h.day (letter_t ∷ c.hour) (colon ∷ after_minute)))) in
    subst IsQuiet (sym (e ∙ date_split))
    (quiet-gap front minus (joined ++ (colon ∷ after_minute)) refl
    (quiet-gap h.year minus h.month refl (quiet-digits h.year (year-digits h.year date.year h.is_year))
    (quiet-field h.month date.month h.is_month))
    (quiet-gap joined colon after_minute refl
    (quiet-joined h.day c.hour date.day clock.hour h.is_day c.is_hour)
    (quiet-gap c.minute colon after_second refl (quiet-field c.minute clock.minute c.is_minute)
    (quiet-gap c.second s.mark s.rest s.gap (quiet-field c.second c.seconds c.is_second) s.quiet))))

pub quiet-strict : (text : List ℕ) (answer : FamilyAnswer) → iso8601_strict_answer text ≡ Some answer → IsQuiet text
quiet-strict text answer e =
    let a = (dates_spelled.iso8601_strict text answer).0 e in
    let date = a.are in
    let mark = date.more in
    let clock = mark.more in
    let zone = clock.more in
    let end : zone.front ++ zone.rest ≡ zone.front = ap (λ (t : List ℕ). zone.front ++ t) zone.more ∙ append-nil zone.front in
    quiet-strict-parts text date.front a.time.date a.time.clock clock.front zone.front a.time.offset date.is clock.is zone.is
    (date.whole ∙ ap (λ (t : List ℕ). date.front ++ t)
    (mark.whole ∙ ap₂ (λ (s t : List ℕ). s ++ t) mark.is (clock.whole ∙ ap (λ (t : List ℕ). clock.front ++ t) (zone.whole ∙ end))))

-- Numbers, raw texts and at texts.
sign_gap : (c : ℕ) → (c == minus || c == plus) ≡ true → is_gap c ≡ true
sign_gap c h = grind (arith, nat_tests, h)

quiet-number : (c : ℕ) (t : List ℕ) (p q : Bool) → (c == minus) ≡ p → (c == plus) ≡ q
    → all_ascii_digits (without_leading_sign (c ∷ t)) ≡ true → IsQuiet (c ∷ t)
quiet-number c t true q e f h = quiet-after c t (sign_gap c (rw e refl)) (quiet-digits t (rw e at h))
quiet-number c t false true e f h = quiet-after c t (sign_gap c (rw (e, f) refl)) (quiet-digits t (rw (e, f) at h))
quiet-number c t false false e f h = quiet-digits (c ∷ t) (rw (e, f) at h)

pub quiet-int : (w : List ℕ) (n : ℤ) → int_value w ≡ Some n → IsQuiet w
quiet-int [] n e = quiet-none
quiet-int (c ∷ t) n e = grind (arith, each_of, int-taken, quiet-number)

pub quiet-two-words : (text a b : List ℕ) → IsUtf8 text → space_words text ≡ a ∷ b ∷ [] → IsQuiet a → IsQuiet b → IsQuiet text
quiet-two-words text a b u e p q = grind (arith, says_nothing, words-within, all-append)
