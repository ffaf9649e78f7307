-- ISO 8601, or its strict form, and one of Git's own forms say the same of a text that both hold.
use Rattle.std.proofs.lemmas.Grind.{common_steps}
use Rattle.std.proofs.Common.{◌≡◌, ◌∙◌, ◌<◌, ◌≤◌, ℕ, ℤ, Bool, true, false, cond, List, [], ◌∷◌, ◌++◌, length, refl, ap, sym, subst, arith}
use Rattle.std.proofs.Common.{append-nil, append_assoc, length-append, Some, None, Option, option_map, is_some, unsigned_abs, IsAscii}
use Rattle.std.proofs.Common.{IsUtf8, inl, inr, ◌⊎◌, get_or}
use Rattle.std.proofs.lemmas.Option.{cond_some as guard, same_Some as same_some}
use Rattle.std.proofs.lemmas.Bool.{or_right, and_parts as both, and_from as join, not-true as not_is}
use Rattle.std.proofs.lemmas.Bool.Decides.{nat_tests}
use Rattle.std.proofs.lemmas.List.Elements.{All-cons, All-nil}
use Rattle.std.proofs.lemmas.List.Folds.{list_any-append}
use Rattle.std.proofs.lemmas.List.Splits.{slice_split_at, slice_split_none}
use Rattle.std.proofs.lemmas.List.Sums.{position_or_len_is}
use Rattle.std.proofs.lemmas.Str.{chars-IsAscii, encodes-IsAscii, IsAscii-append}
use Rattle.std.specs.Char.{is_ascii_digit, is_whitespace}
use Rattle.std.specs.List.{All, list_all, slice_split, before_first}
use Rattle.std.specs.Option.{option_or}
use Rattle.std.specs.Prelude.{◌==◌, ◌&&◌, nat_lt, not}
use Rattle.std.specs.Str.{all_ascii_digits, trim, trim_start, trim_end, skip_leading_whitespace, drop_trailing_whitespace}
use Rattle.gix_date.specs.Families.Answer.{FamilyAnswer, Absolute}
use Rattle.gix_date.specs.Families.Laws.{Agree, ComesFirst, HasOneOutcome, Holds}
use Rattle.gix_date.specs.Families.Order.{Iso8601, Iso8601Strict, GitForm, RelativeText, family_answer, first_family_by}
use Rattle.gix_date.specs.Families.Patterns.{date_answer, iso8601_answer, iso8601_strict_answer, max_date_offset}
use Rattle.gix_date.specs.Families.Raw.{OffsetRule, is_quarter_offset}
use Rattle.gix_date.specs.Fields.FieldTexts.{AreDigits, IsPair, IsSign, IsField, AreSpaces, IsPlainDate, IsClock}
use Rattle.gix_date.specs.Fields.Civil.{civil_instant}
use Rattle.gix_date.specs.Fields.DateFields.{read_plain_date}
use Rattle.gix_date.specs.Fields.DateOffsets.{is_jiff_offset, jiff_offset, compact_offset, strict_offset}
use Rattle.gix_date.specs.Text.Front.{skip_char, ◌>>=◌}
use Rattle.gix_date.specs.Fields.Offsets.{read_sign, offset_fields, offset_of, SignedPairs, OffsetSign}
use Rattle.gix_date.specs.Git.Clock.{git_clock}
use Rattle.gix_date.specs.Git.ClockCut.{is_sign, last_space, clock_cut}
use Rattle.gix_date.specs.Git.Grammar.{AreClockPairs, AreClockParts, IsGitOffset}
use Rattle.gix_date.specs.Git.Forms.{without_colons, git_offset, git_time, git_form, git_front, flexible_front, read_marked_date}
use Rattle.gix_date.specs.Git.Forms.{time_with_rest, time_of_cut}
use Rattle.gix_date.specs.Text.Characters.{space, minus, colon, letter_t, is_space, is_dot, is_colon, has_colon}
use Rattle.gix_date.specs.Text.Numbers.{read_two_digits, read_field}
use Rattle.gix_date.specs.Fields.Layout.{LocalClock, LocalDate}
use Rattle.gix_date.specs.declared.time.Time.{Time}
use Rattle.gix_date.proofs.Text.AsciiCuts.{ascii-by, space_is_ascii, all-append}
use Rattle.gix_date.proofs.Git.ClockCuts.{space_low}
use Rattle.gix_date.proofs.Git.ClockParts.{before_none}
use Rattle.gix_date.proofs.Families.Disjoint.{digit_visible}
use Rattle.gix_date.proofs.Relative.Chains.{one-outcome}
use Rattle.gix_date.proofs.Families.Exclusive.{answered, absolute, alone-first, differ, drop-visible, space-white, field-visible}
use Rattle.gix_date.proofs.Families.Exclusive.{digits-visible, visible-append}
use Rattle.gix_date.proofs.Fields.FieldsRead.{Begins, BeginsNot, begins-append, field-begins, year-begins, date-read, gap-front}
use Rattle.gix_date.proofs.Git.Fronts.{gap-taken}
use Rattle.gix_date.proofs.Fields.FieldsTaken.{time_at, went}
use Rattle.gix_date.proofs.Text.FirstBytes.{plain-year}
use Rattle.gix_date.proofs.Text.FirstWords.{AreVisible, visible_stays, are-ascii}
use Rattle.gix_date.proofs.Fields.Layouts.{dates_spelled}
use Rattle.gix_date.proofs.Fast.FastHeaders.{offset-taken}
use Rattle.gix_date.proofs.Fields.ColonOffsets.{AreLastSeconds, strict-taken}
use Rattle.gix_date_laws.proofs.Git.Grammar.{no-dotted-by, no-compact-by, dash-no-dot}
use Rattle.gix_date_laws.proofs.Shared.FirstFamily.{counting, git-first, relative-first}
use Rattle.gix_date_laws.proofs.Numbers.Grammars.{pair-of, sign-of}
use Rattle.gix_date_laws.proofs.Git.Clocks.{clock-is}
use Rattle.gix_date_laws.proofs.Git.Offsets.{offset-is, sign-no-z}
use Rattle.gix_date_laws.proofs.Git.Cuts.{is_clock_byte, digit-byte, digit-no-colon, all-get, all-imply, mark-sign, IsOffsetText, gap-at}
use Rattle.gix_date_laws.proofs.Git.Cuts.{cut-after-space, cut-by-sign, cut-at-a-sign, is_no_space, byte-is-no-space}
use Rattle.gix_date.proofs.Relative.QuietDates.{field-digits, year-digits}
use Rattle.gix_date.proofs.Header.HeaderLaws.{abs-signed as size-of}
use Rattle.gix_date.proofs.Text.ShortDigits.{value-more}
use Rattle.gix_date.proofs.Text.Trimmed.{kept}

byte-no-dot : (c : ℕ) → is_clock_byte c ≡ true → is_dot c ≡ false
byte-no-dot c h = grind (arith, nat_tests, h)

space-no-dot : (c : ℕ) → is_space c ≡ true → is_dot c ≡ false
space-no-dot c h = grind (arith, nat_tests, h)

bytes-visible : (t : List ℕ) → list_all is_clock_byte t ≡ true → AreVisible t
bytes-visible [] h = tt
bytes-visible (c ∷ t) h = let p = both (is_clock_byte c) (list_all is_clock_byte t) h in
    (grind (arith, nat_tests, p.0), bytes-visible t p.1)

-- white space round ASCII
skip-gap : (gap rest : List ℕ) → list_all is_space gap ≡ true → skip_leading_whitespace (gap ++ rest) ≡ skip_leading_whitespace rest
skip-gap [] rest h = refl
skip-gap (c ∷ gap) rest h = let p = both (is_space c) (list_all is_space gap) h in rw (space-white c p.0) (skip-gap gap rest p.1)

skip-none : (x : List ℕ) → Begins is_ascii_digit x → skip_leading_whitespace x ≡ x
skip-none [] h = absurd h
skip-none (c ∷ x) h = rw (visible_stays c (digit_visible c h)) refl

drop-gap : (gap : List ℕ) → list_all is_space gap ≡ true → drop_trailing_whitespace gap ≡ []
drop-gap [] h = refl
drop-gap (c ∷ gap) h = let p = both (is_space c) (list_all is_space gap) h in rw (space-white c p.0, drop-gap gap p.1) refl

drop-after : (x gap : List ℕ) → AreVisible x → list_all is_space gap ≡ true → drop_trailing_whitespace (x ++ gap) ≡ x
drop-after [] gap v h = drop-gap gap h
drop-after (c ∷ x) gap v h = rw (visible_stays c v.0) (ap (λ (t : List ℕ). c ∷ t) (drop-after x gap v.1 h))

some-left : (x : List ℕ) (c : ℕ) (z : List ℕ) → (length (x ++ c ∷ z) == 0) ≡ false
some-left [] c z = grind (arith, nat_tests)
some-left (b ∷ x) c z = grind (arith, nat_tests)

drop-none : (x : List ℕ) (c : ℕ) (z : List ℕ) → AreVisible (c ∷ z) → drop_trailing_whitespace (x ++ c ∷ z) ≡ x ++ c ∷ z
drop-none [] c z v = drop-visible (c ∷ z) v
drop-none (b ∷ x) c z v =
    ap (λ (ts : List ℕ). cond (is_whitespace b && length ts == 0) [] (b ∷ ts)) (drop-none x c z v)
    ∙ kept (is_whitespace b) (length (x ++ c ∷ z) == 0) (b ∷ (x ++ c ∷ z)) (some-left x c z)

-- a text that ends so
kept-end : (front z whole : List ℕ) (s : ℕ) (rest : List ℕ) → z ≡ s ∷ rest → whole ≡ front ++ z → AreVisible (s ∷ rest)
    → drop_trailing_whitespace whole ≡ whole
kept-end front z whole s rest e w v = grind (arith, drop-none)

trimmed-to : (x y z : List ℕ) → IsAscii x → IsAscii y → IsAscii z → skip_leading_whitespace x ≡ y → drop_trailing_whitespace y ≡ z
    → trim x ≡ z
unfolding trim_start trim_end
trimmed-to x y z a b c s d = grind (arith, chars-IsAscii, encodes-IsAscii)

-- Digits among colons.
struck-digits : (t : List ℕ) → all_ascii_digits t ≡ true → (without_colons t ≡ t) × (list_all is_clock_byte t ≡ true)
struck-digits [] h = (refl, refl)
struck-digits (c ∷ t) h =
    let p = both (is_ascii_digit c) (all_ascii_digits t) h in
    let more = struck-digits t p.1 in
    (rw (digit-no-colon c p.0) (ap (λ (x : List ℕ). c ∷ x) more.0), join _ _ (digit-byte c p.0) more.1)

no-colons : (t : List ℕ) → all_ascii_digits t ≡ true → All (λ c. is_colon c ≡ false) t
no-colons [] h = All-nil (λ c. is_colon c ≡ false)
no-colons (c ∷ t) h =
    let p = both (is_ascii_digit c) (all_ascii_digits t) h in
    All-cons (λ c. is_colon c ≡ false) c t (digit-no-colon c p.0) (no-colons t p.1)

field-some : (t : List ℕ) (n : ℕ) → IsField t n → 0 < length t
field-some [] n h = absurd h
field-some (a ∷ t) n h = omega arith

field-value : (t : List ℕ) (n v : ℕ) → IsField t n → AreDigits t v → v ≡ n
field-value (a ∷ []) n v h d = grind (arith, value-more)
field-value (a ∷ b ∷ []) n v h d = grind (arith, nat_tests, common_steps, value-more)
field-value t n v h d = absurd h

same-clock : (k c : LocalClock) → k.hour ≡ c.hour → k.minute ≡ c.minute → k.second ≡ c.second → k ≡ c
same-clock k c hour minute second = λ i. record { hour = hour i; minute = minute i; second = second i }

-- A clock `h:m:s`: its bytes, and what Git's forms read of its parts.
record ClockText (t : List ℕ) (clock : LocalClock) : Type 0 where
  bytes : list_all is_clock_byte t ≡ true
  long : 4 < length t
  begins : Begins is_ascii_digit t
  colons : has_colon t ≡ true
  says : (k : LocalClock) → AreClockParts (slice_split is_colon t) k → k ≡ clock

clock-text : (t : List ℕ) (clock : LocalClock) → IsClock t clock → ClockText t clock
clock-text t clock h =
    let rest = h.minute ++ (colon ∷ h.second) in
    let x = h.hour ++ (colon ∷ rest) in
    let split : t ≡ x = rw h.whole (simp append_assoc) in
    let hours = field-digits h.hour clock.hour h.is_hour in
    let minutes = field-digits h.minute clock.minute h.is_minute in
    let seconds = field-digits h.second h.seconds h.is_second in
    let parts : slice_split is_colon x ≡ h.hour ∷ h.minute ∷ h.second ∷ [] =
    slice_split_at is_colon h.hour colon rest (no-colons h.hour hours) refl
    ∙ ap (λ (ps : List (List ℕ)). h.hour ∷ ps) (slice_split_at is_colon h.minute colon h.second (no-colons h.minute minutes) refl
    ∙ ap (λ (ps : List (List ℕ)). h.minute ∷ ps) (slice_split_none is_colon h.second (no-colons h.second seconds))) in
    let sizes = length-append h.hour (colon ∷ rest) in
    let more = length-append h.minute (colon ∷ h.second) in
    subst (λ (k : List ℕ). ClockText k clock) (sym split) (record {
      bytes = all-append is_clock_byte h.hour (colon ∷ rest) (struck-digits h.hour hours).1
          (all-append is_clock_byte h.minute (colon ∷ h.second) (struck-digits h.minute minutes).1 (struck-digits h.second seconds).1);
      long = omega (
        arith,
        sizes,
        more,
        field-some h.hour clock.hour h.is_hour,
        field-some h.minute clock.minute h.is_minute,
        field-some h.second h.seconds h.is_second,
      );
      begins = begins-append is_ascii_digit h.hour (colon ∷ rest) (field-begins h.hour clock.hour h.is_hour);
      colons = list_any-append is_colon h.hour (colon ∷ rest) ∙ or_right (has_colon h.hour) true refl;
      says = λ k p.
          let q = subst (λ (ps : List (List ℕ)). AreClockParts ps k) parts p in
          let second : k.second ≡ h.seconds = field-value h.second h.seconds k.second h.is_second q.2.0 in
          let no_leap : (h.seconds == 60) ≡ false = grind (arith, nat_tests, second, q.2.1) in
          same-clock k clock (field-value h.hour clock.hour k.hour h.is_hour q.0.0)
          (field-value h.minute clock.minute k.minute h.is_minute q.1.0)
          (second ∙ sym (h.without_leap ∙ ap (λ b. cond b 59 h.seconds) no_leap));
    })

-- a clock ends where no dot is
no-dot-in : (t : List ℕ) → list_all (λ c. not (is_dot c)) t ≡ true → before_first is_dot t ≡ t
no-dot-in t h =
    before_none is_dot t (position_or_len_is is_dot t (length t) 0 (omega arith)
    (λ k l. not_is (is_dot (get_or t k 0)) (all-get (λ c. not (is_dot c)) t h k l)) (λ l. absurd (omega arith)))

gap-ascii : (gap : List ℕ) → list_all is_space gap ≡ true → IsAscii gap
gap-ascii gap h = ascii-by is_space space_is_ascii gap h

-- the clock of such a text and spaces
clock-said : (t gap : List ℕ) (clock : LocalClock) → IsClock t clock → list_all is_space gap ≡ true → (k : LocalClock)
    → git_clock (t ++ gap) ≡ Some k → k ≡ clock
clock-said t gap clock h s k e =
    let c = clock-text t clock h in
    let v = bytes-visible t c.bytes in
    let a = are-ascii t v in
    let u = t ++ gap in
    let ua = IsAscii-append t gap a (gap-ascii gap s) in
    let quiet : list_all (λ c. not (is_dot c)) u ≡ true =
    all-append (λ c. not (is_dot c)) t gap (all-imply is_clock_byte (λ c. not (is_dot c)) t (λ c q. ap not (byte-no-dot c q)) c.bytes)
    (all-imply is_space (λ c. not (is_dot c)) gap (λ c q. ap not (space-no-dot c q)) s) in
    let trimmed : trim u ≡ t =
    trimmed-to u u t ua ua a (skip-none u (begins-append is_ascii_digit t gap c.begins)) (drop-after t gap v s) in
    let g = clock-is u k e in
    c.says k (by c.colons g.shown (g.is_shown ∙ ap trim (no-dot-in u quiet) ∙ trimmed) g.is)
  where
    by : has_colon t ≡ true → (x : List ℕ) → x ≡ t
        → ((has_colon x ≡ true) × AreClockParts (slice_split is_colon x) k) ⊎ ((has_colon x ≡ false) × AreClockPairs x k)
        → AreClockParts (slice_split is_colon t) k
    by colons x same (inl p) = subst (λ (y : List ℕ). AreClockParts (slice_split is_colon y) k) same p.1
    by colons x same (inr p) = let clash : true ≡ false = sym colons ∙ ap has_colon (sym same) ∙ p.0 in absurd cc

-- An offset as a formatted date reads it, and what Git's forms read of it.
pub record Zone (z : List ℕ) (f : SignedPairs) : Type 0 where
  pub is : IsOffsetText z
  pub says : (o : ℤ) → git_offset z ≡ Some o → (o ≡ offset_of f) × (nat_lt max_date_offset (unsigned_abs (offset_of f)) ≡ false)

-- behind its sign, colons aside, pairs of hours and minutes, and perhaps of seconds
record HasPairs (z : List ℕ) (f : SignedPairs) : Type 0 where
  mark : ℕ
  rest : List ℕ
  hours : List ℕ
  minutes : List ℕ
  last : List ℕ
  whole : z ≡ mark ∷ rest
  is_mark : IsSign mark f.sign
  struck : without_colons rest ≡ hours ++ (minutes ++ last)
  are_hours : IsPair hours f.hours
  are_minutes : IsPair minutes f.minutes
  is_last : last ≡ [] → f.seconds ≡ None
  some : 0 < length rest
  first : is_ascii_digit (get_or rest 0 0) ≡ true
  bytes : list_all is_clock_byte rest ≡ true

no-more : (p : ℕ × List ℕ) → Some p ≡ read_two_digits [] → ⊥
unfolding read_two_digits
no-more p h = cc

-- the same digits in pairs have the same numbers, and only two pairs are Git's
pairs-same : (hours minutes last other more : List ℕ) (n m k l : ℕ) → hours ++ (minutes ++ last) ≡ other ++ more → IsPair hours n
    → IsPair minutes m → IsPair other k
    → (IsPair more l × (l ≤ 59)) ⊎ ((more ≡ []) × (l ≡ 0)) → (last ≡ []) × (n ≡ k) × (m ≡ l) × (m ≤ 59)
pairs-same hours minutes last other more n m k l e i j p q = grind (arith, same_some, pair-of, append-nil, no-more)

same-offset : (f g : SignedPairs) → f.sign ≡ g.sign → f.hours ≡ g.hours → f.minutes ≡ g.minutes → f.seconds ≡ g.seconds
    → offset_of f ≡ offset_of g
same-offset f g a b c d = cc

short : (f : SignedPairs) → f.seconds ≡ None → f.hours ≤ 23 → f.minutes ≤ 59 → nat_lt max_date_offset (unsigned_abs (offset_of f)) ≡ false
short f none h m = grind (arith, size-of, nat_tests)

zone-says : (z : List ℕ) (f : SignedPairs) → HasPairs z f → (o : ℤ) → git_offset z ≡ Some o
    → (o ≡ offset_of f) × (nat_lt max_date_offset (unsigned_abs (offset_of f)) ≡ false)
zone-says z f h o e = by (offset-is z o e)
  where
    by : IsGitOffset z o → (o ≡ offset_of f) × (nat_lt max_date_offset (unsigned_abs (offset_of f)) ≡ false)
    by (inl (inl none, v)) = let clash : [] ≡ h.mark ∷ h.rest = sym none ∙ h.whole in absurd cc
    by (inl (inr is_z, v)) = absurd (sign-no-z h.mark f.sign h.is_mark (ap (λ (t : List ℕ). get_or t 0 0) (sym h.whole ∙ is_z)))
    by (inr s) =
        let same : (f.sign, h.rest) ≡ (s.fields.sign, s.body) =
        same_some (f.sign, h.rest) (s.fields.sign, s.body) (sym (sign-of h.mark f.sign h.rest h.is_mark)
        ∙ ap read_sign (sym h.whole ∙ s.whole) ∙ sign-of s.mark s.fields.sign s.body s.is_mark) in
        let digits : h.hours ++ (h.minutes ++ h.last) ≡ s.hours ++ s.minutes = sym h.struck
        ∙ ap (λ (x : OffsetSign × List ℕ). without_colons x.1) same ∙ s.digits in
        let p = pairs-same h.hours h.minutes h.last s.hours s.minutes f.hours f.minutes s.fields.hours s.fields.minutes digits h.are_hours
        h.are_minutes s.are_hours.0 s.are_minutes in
        let none = h.is_last p.0 in
        let low : f.hours ≤ 23 = omega (arith, p.1, s.are_hours.1) in
        let is : offset_of f ≡ offset_of s.fields =
        same-offset f s.fields (ap (λ (x : OffsetSign × List ℕ). x.0) same) p.1 p.2 (none ∙ sym s.no_seconds) in
        (s.value ∙ sym is, short f none low p.3)

zone-of : (z : List ℕ) (f : SignedPairs) → HasPairs z f → Zone z f
zone-of z f h = grind (arith, mark-sign, zone-says)

-- the fields of an offset, what they say, and Git's forms
record Dated (z : List ℕ) (offset : ℤ) : Type 0 where
  fields : SignedPairs
  is : offset ≡ offset_of fields
  zone : Zone z fields

-- `+hhmm`, or with seconds
ended : (x : List ℕ) (seconds : Option ℕ) → ((x ≡ []) × (seconds ≡ None)) ⊎ ((n : ℕ) × IsPair x n × (seconds ≡ Some n)) → x ≡ []
    → seconds ≡ None
ended x seconds (inl p) e = p.1
ended [] seconds (inr p) e = absurd p.1
ended (c ∷ x) seconds (inr p) e = absurd cc

compact-zone : (z : List ℕ) (offset : ℤ) → compact_offset z ≡ Some offset → Dated z offset
unfolding compact_offset
compact-zone z offset e =
    let f = went (offset_fields z) (λ f. jiff_offset f) offset e in
    let k = offset-taken z f.0 f.1 in
    let rest = k.h0 ∷ k.h1 ∷ k.m0 ∷ k.m1 ∷ k.last in
    let digits = struck-digits rest (rw (k.is_h0, k.is_h1, k.is_m0, k.is_m1) k.is_last.digits) in
    record {
      fields = f.0;
      is = sym (guard (is_jiff_offset f.0) (offset_of f.0) offset f.2).1;
      zone = zone-of z f.0 (record {
        mark = k.mark;
        rest = rest;
        hours = k.h0 ∷ k.h1 ∷ [];
        minutes = k.m0 ∷ k.m1 ∷ [];
        last = k.last;
        whole = k.whole;
        is_mark = k.is_mark;
        struck = digits.0;
        are_hours = (k.is_h0, k.is_h1, k.hours);
        are_minutes = (k.is_m0, k.is_m1, k.minutes);
        is_last = ended k.last f.0.seconds k.is_last.is;
        some = omega arith;
        first = k.is_h0;
        bytes = digits.1;
      });
    }

-- `+hh:mm`, or with seconds
last-struck : (x : List ℕ) (seconds : Option ℕ) → AreLastSeconds x seconds
    → (list_all is_clock_byte x ≡ true) × (without_colons x ≡ [] → seconds ≡ None)
last-struck x seconds (inl p) = (ap (list_all is_clock_byte) p.0, λ e. p.1)
last-struck x seconds (inr p) = grind (arith, digit-no-colon, is_clock_byte, join, digit-byte)

strict-zone : (z : List ℕ) (offset : ℤ) → strict_offset z ≡ Some offset → Dated z offset
strict-zone z offset e =
    let t = strict-taken z offset e in
    let k = t.1 in
    let last = last-struck k.last t.0.seconds k.is_last in
    record {
      fields = t.0;
      is = t.2;
      zone = zone-of z t.0 (record {
        mark = k.mark;
        rest = k.h0 ∷ k.h1 ∷ colon ∷ k.m0 ∷ k.m1 ∷ k.last;
        hours = k.h0 ∷ k.h1 ∷ [];
        minutes = k.m0 ∷ k.m1 ∷ [];
        last = without_colons k.last;
        whole = k.whole;
        is_mark = k.is_mark;
        struck =
            rw (digit-no-colon k.h0 k.is_h0, digit-no-colon k.h1 k.is_h1, digit-no-colon k.m0 k.is_m0, digit-no-colon k.m1 k.is_m1) refl;
        are_hours = (k.is_h0, k.is_h1, k.hours);
        are_minutes = (k.is_m0, k.is_m1, k.minutes);
        is_last = last.1;
        some = omega arith;
        first = k.is_h0;
        bytes = join _ _ (digit-byte k.h0 k.is_h0)
            (join _ _ (digit-byte k.h1 k.is_h1) (join _ _ (digit-byte k.m0 k.is_m0) (join _ _ (digit-byte k.m1 k.is_m1) last.0)));
      });
    }

-- Where the rest of such a text is cut: the clock may keep spaces.
record CutSo (t mid z : List ℕ) : Type 0 where
  gap : List ℕ
  spaces : list_all is_space gap ≡ true
  is : clock_cut (t ++ (mid ++ z)) ≡ (t ++ gap, z)

record LastSpace (mid : List ℕ) : Type 0 where
  gap : List ℕ
  spaces : list_all is_space gap ≡ true
  whole : mid ≡ gap ++ space ∷ []

last-space : (c : ℕ) (mid : List ℕ) → is_space c ≡ true → list_all is_space mid ≡ true → LastSpace (c ∷ mid)
last-space c [] h k = record { gap = []; spaces = refl; whole = let is : c ≡ space = grind (arith, nat_tests, h) in ap (λ i. i ∷ []) is }
last-space c (d ∷ mid) h k =
    let p = both (is_space d) (list_all is_space mid) k in
    let more = last-space d mid p.0 p.1 in
    record { gap = c ∷ more.gap; spaces = join _ _ h more.spaces; whole = ap (λ (t : List ℕ). c ∷ t) more.whole }

gap-cut : (t gap : List ℕ) (s : ℕ) (rest : List ℕ) (b : Bool) → nat_lt 5 (length (t ++ gap)) ≡ b → 4 < length t
    → list_all is_space gap ≡ true → is_sign s ≡ true → 0 < length rest
    → is_ascii_digit (get_or rest 0 0) ≡ true → list_all is_clock_byte rest ≡ true → CutSo t (gap ++ space ∷ []) (s ∷ rest)
gap-cut t gap s rest true high long spaces h some first zone = grind (arith, append_assoc, cut-after-space, nat_tests)
gap-cut t gap s rest false low long spaces h some first zone =
    let more = gap ++ space ∷ [] in
    let split : t ++ (more ++ (s ∷ rest)) ≡ (t ++ more) ++ (s ∷ rest) = simp append_assoc in
    let other : (t ++ more) ++ (s ∷ rest) ≡ (t ++ gap) ++ (space ∷ (s ∷ rest)) = simp append_assoc in
    let few : length (t ++ gap) ≤ 5 = grind (arith, nat_tests, low) in
    let at : last_space ((t ++ more) ++ (s ∷ rest)) ≡ Some (length (t ++ gap)) = ap last_space other ∙ gap-at (t ++ gap) s rest h zone in
    record {
      gap = more;
      spaces = all-append is_space gap (space ∷ []) spaces refl;
      is = ap clock_cut split ∙ cut-by-sign (t ++ more) s rest (omega (arith, length-append t more, long))
          (space_low ((t ++ more) ++ (s ∷ rest)) (length (t ++ gap)) (sym at) few) h some first zone;
    }

cut-so : (t mid : List ℕ) (s : ℕ) (rest : List ℕ) → 4 < length t → list_all is_clock_byte t ≡ true → list_all is_space mid ≡ true
    → is_sign s ≡ true → 0 < length rest
    → is_ascii_digit (get_or rest 0 0) ≡ true → list_all is_clock_byte rest ≡ true → CutSo t mid (s ∷ rest)
cut-so t [] s rest long bytes spaces h some first zone =
    grind (arith, cut-at-a-sign, all-imply, is_clock_byte, is_no_space, byte-is-no-space, append-nil)
cut-so t (c ∷ mid) s rest long bytes spaces h some first zone =
    let p = both (is_space c) (list_all is_space mid) spaces in
    let l = last-space c mid p.0 p.1 in
    subst (λ (m : List ℕ). CutSo t m (s ∷ rest)) (sym l.whole)
    (gap-cut t l.gap s rest (nat_lt 5 (length (t ++ l.gap))) refl long l.spaces h some first zone)

-- The date of Git's flexible form is the same.
two-field : (x : List ℕ) (p : ℕ × List ℕ) → read_two_digits x ≡ Some p → read_field x ≡ Some p
unfolding read_field
two-field x p e = rw e refl

abbrev date_at : ℕ → ℕ → ℕ → List ℕ → LocalDate × List ℕ
date_at year month day rest = (record { year = year; month = month; day = day }, rest)

marked-plain : (x : List ℕ) (date : LocalDate × List ℕ) → read_marked_date minus x ≡ Some date → read_plain_date x ≡ Some date
unfolding read_marked_date read_plain_date
marked-plain x date e = grind (arith, went, two-field)

-- what stands after such a date
record Flexible (date : LocalDate) (rest : List ℕ) (t : Time) : Type 0 where
  after : List ℕ
  gap : option_or (skip_char letter_t rest) (skip_char space rest) ≡ Some after
  is : time_with_rest date after ≡ Some t

flexible : (x : List ℕ) (date : LocalDate) (rest : List ℕ) (t : Time) → read_plain_date x ≡ Some (date, rest) → git_form x ≡ Some t
    → Flexible date rest t
unfolding git_form git_front flexible_front
flexible x date rest t d e = grind (arith, plain-year, no-dotted-by, dash-no-dot, no-compact-by, went, gap-taken, same_some, marked-plain)

-- The two say the same.
time-of : (d : LocalDate) (c k : LocalClock) (f : SignedPairs) (z : List ℕ) (t : Time) (answer : FamilyAnswer) → Zone z f → k ≡ c
    → (git_offset z >>= λ o. civil_instant d k o >>= λ s. Some (time_at s o)) ≡ Some t → date_answer d c (offset_of f) ≡ Some answer
    → answer ≡ Absolute t
unfolding date_answer
time-of d c k f z t answer zone same e h = grind (arith, went, time_at, same_some)

-- one space or more, or `T`
abbrev Lead : List ℕ → Type 0
Lead lead = AreSpaces lead ⊎ (lead ≡ letter_t ∷ [])

spaces-all : (gap : List ℕ) → AreSpaces gap → list_all is_space gap ≡ true
spaces-all [] h = absurd h
spaces-all (c ∷ gap) h = join _ _ h.0 h.1

lead-ascii : (lead : List ℕ) → Lead lead → IsAscii lead
lead-ascii lead (inl h) = gap-ascii lead (spaces-all lead h)
lead-ascii lead (inr h) = subst IsAscii (sym h) (are-ascii (letter_t ∷ []) (refl, tt))

lead-no-digit : (lead rest : List ℕ) → Lead lead → BeginsNot is_ascii_digit (lead ++ rest)
lead-no-digit lead rest (inl h) = gap-front lead rest h
lead-no-digit lead rest (inr h) = subst (λ (k : List ℕ). BeginsNot is_ascii_digit (k ++ rest)) (sym h) refl

-- what is left after `T` or one space
record Left (body after : List ℕ) : Type 0 where
  gap : List ℕ
  spaces : list_all is_space gap ≡ true
  whole : after ≡ gap ++ body

lead-left : (lead body after : List ℕ) → Lead lead
    → option_or (skip_char letter_t (lead ++ body)) (skip_char space (lead ++ body)) ≡ Some after → Left body after
unfolding skip_char
lead-left [] body after (inl h) e = absurd h
lead-left (c ∷ gap) body after (inl h) e = grind (arith, nat_tests, same_some)
lead-left lead body after (inr h) e = grind (arith, same_some)

date-visible : (date : List ℕ) (d : LocalDate) → IsPlainDate date d → AreVisible date × Begins is_ascii_digit date
date-visible date d h = grind (arith, append_assoc, visible-append, digits-visible, year-digits, field-visible, begins-append, year-begins)

both-say : (date lead t mid z : List ℕ) (d : LocalDate) (c : LocalClock) (f : SignedPairs) (u : Time) (answer : FamilyAnswer)
    → IsPlainDate date d → Lead lead → IsClock t c → list_all is_space mid ≡ true → Zone z f
    → git_time (date ++ (lead ++ (t ++ (mid ++ z)))) ≡ Some u → date_answer d c (offset_of f) ≡ Some answer → answer ≡ Absolute u
unfolding git_time time_of_cut
both-say date lead t mid z d c f u answer hd hl hc hm hz e h =
    let body = t ++ (mid ++ z) in
    let x = date ++ (lead ++ body) in
    let k = clock-text t c hc in
    let zs = hz.is in
    let zone = zs.sign ∷ zs.rest in
    let seen : AreVisible zone = (grind (arith, nat_tests, zs.is_sign), bytes-visible zs.rest zs.bytes) in
    let dv = date-visible date d hd in
    let body_ascii : IsAscii body =
    IsAscii-append t (mid ++ z) (are-ascii t (bytes-visible t k.bytes))
    (IsAscii-append mid z (gap-ascii mid hm) (subst IsAscii (sym zs.whole) (are-ascii zone seen))) in
    let ascii : IsAscii x =
    IsAscii-append date (lead ++ body) (are-ascii date dv.0) (IsAscii-append lead body (lead-ascii lead hl) body_ascii) in
    let body_kept : drop_trailing_whitespace body ≡ body =
    kept-end (t ++ mid) z body zs.sign zs.rest zs.whole (sym (append_assoc t mid z)) seen in
    let kept_x : drop_trailing_whitespace x ≡ x =
    kept-end (date ++ (lead ++ (t ++ mid))) z x zs.sign zs.rest zs.whole (simp append_assoc) seen in
    let trimmed : trim x ≡ x =
    trimmed-to x x x ascii ascii ascii (skip-none x (begins-append is_ascii_digit date (lead ++ body) dv.1)) kept_x in
    let read : read_plain_date x ≡ Some (d, lead ++ body) = date-read date (lead ++ body) d hd (lead-no-digit lead body hl) in
    let g = flexible x d (lead ++ body) u read (ap git_form (sym trimmed) ∙ e) in
    let l = lead-left lead body g.after hl g.gap in
    let after_ascii : IsAscii g.after = subst IsAscii (sym l.whole) (IsAscii-append l.gap body (gap-ascii l.gap l.spaces) body_ascii) in
    let begun : Begins is_ascii_digit body = begins-append is_ascii_digit t (mid ++ z) k.begins in
    let skipped : skip_leading_whitespace g.after ≡ body = ap skip_leading_whitespace l.whole ∙ skip-gap l.gap body l.spaces
    ∙ skip-none body begun in
    let rest : trim g.after ≡ body = trimmed-to g.after body body after_ascii body_ascii body_ascii skipped body_kept in
    let cut : CutSo t mid z =
    subst (CutSo t mid) (sym zs.whole) (cut-so t mid zs.sign zs.rest k.long k.bytes hm zs.is_sign zs.some zs.first zs.bytes) in
    let is : time_of_cut d (t ++ cut.gap, z) ≡ Some u = ap (time_of_cut d) (sym (ap clock_cut rest ∙ cut.is)) ∙ g.is in
    let q = went (git_clock (t ++ cut.gap)) (λ k. git_offset z >>= λ o. civil_instant d k o >>= λ s. Some (time_at s o)) u is in
    time-of d c q.0 f z u answer hz (clock-said t cut.gap c hc cut.spaces q.0 q.1) q.2 h

pub iso8601-git : (rule : OffsetRule) (text : List ℕ) → Agree rule Iso8601 GitForm text
iso8601-git rule text hi hg =
    let a = answered rule Iso8601 text hi in
    let u = absolute (git_time text) hg in
    let s = (dates_spelled.iso8601 text a.0).0 a.1 in
    let lead = s.are.more in
    let clock = lead.more in
    let mid = clock.more in
    let zone = mid.more in
    let z = compact-zone zone.front s.time.offset zone.is in
    let split : text ≡ s.are.front ++ (lead.front ++ (clock.front ++ (mid.front ++ zone.front))) =
    s.are.whole ∙ ap (λ (r : List ℕ). s.are.front ++ r) (lead.whole ∙ ap (λ (r : List ℕ). lead.front ++ r) (clock.whole ∙ ap
    (λ (r : List ℕ). clock.front ++ r) (mid.whole
    ∙ ap (λ (r : List ℕ). mid.front ++ r) (zone.whole ∙ ap (λ (r : List ℕ). zone.front ++ r) zone.more ∙ append-nil zone.front)))) in
    let same = both-say s.are.front lead.front clock.front mid.front zone.front s.time.date s.time.clock z.fields u.0 a.0 s.are.is
    (inl lead.is) clock.is (spaces-all mid.front mid.is) z.zone (ap git_time (sym split) ∙ u.1)
    (ap (date_answer s.time.date s.time.clock) (sym z.is) ∙ s.comes) in
    a.1 ∙ ap (λ (r : FamilyAnswer). Some r) same ∙ sym (ap (option_map Absolute) u.1)

pub strict-git : (rule : OffsetRule) (text : List ℕ) → Agree rule Iso8601Strict GitForm text
strict-git rule text hi hg =
    let a = answered rule Iso8601Strict text hi in
    let u = absolute (git_time text) hg in
    let s = (dates_spelled.iso8601_strict text a.0).0 a.1 in
    let lead = s.are.more in
    let clock = lead.more in
    let zone = clock.more in
    let z = strict-zone zone.front s.time.offset zone.is in
    let split : text ≡ s.are.front ++ (lead.front ++ (clock.front ++ ([] ++ zone.front))) =
    s.are.whole ∙ ap (λ (r : List ℕ). s.are.front ++ r) (lead.whole ∙ ap (λ (r : List ℕ). lead.front ++ r) (clock.whole
    ∙ ap (λ (r : List ℕ). clock.front ++ r) (zone.whole ∙ ap (λ (r : List ℕ). zone.front ++ r) zone.more ∙ append-nil zone.front))) in
    let same = both-say s.are.front lead.front clock.front [] zone.front s.time.date s.time.clock z.fields u.0 a.0 s.are.is (inr lead.is)
    clock.is refl z.zone (ap git_time (sym split) ∙ u.1) (ap (date_answer s.time.date s.time.clock) (sym z.is) ∙ s.comes) in
    a.1 ∙ ap (λ (r : FamilyAnswer). Some r) same ∙ sym (ap (option_map Absolute) u.1)

pub iso8601_git : (text : List ℕ) → is_some (iso8601_answer text) ≡ true → is_some (option_map Absolute (git_time text)) ≡ true
    → iso8601_answer text ≡ option_map Absolute (git_time text)
iso8601_git text h k = iso8601-git is_quarter_offset text h k

pub strict_git : (text : List ℕ) → is_some (iso8601_strict_answer text) ≡ true → is_some (option_map Absolute (git_time text)) ≡ true
    → iso8601_strict_answer text ≡ option_map Absolute (git_time text)
strict_git text h k = strict-git is_quarter_offset text h k

-- So what a Git text says is what the first family says, whether or not ISO 8601 or its strict form holds it too.
git-says : (rule : OffsetRule) (text : List ℕ) → IsUtf8 text → Holds rule GitForm text
    → first_family_by rule text ≡ family_answer rule GitForm text
git-says rule text u h = by (iso8601_answer text) (iso8601_strict_answer text) refl refl
  where
    by : (iso strict : Option FamilyAnswer) → iso8601_answer text ≡ iso → iso8601_strict_answer text ≡ strict
        → first_family_by rule text ≡ family_answer rule GitForm text
    by (Some x) strict p q =
        alone-first rule Iso8601 text u (differ Iso8601 GitForm refl) (differ Iso8601 RelativeText refl) (ap is_some p)
        ∙ iso8601-git rule text (ap is_some p) h
    by None (Some x) p q =
        alone-first rule Iso8601Strict text u (differ Iso8601Strict GitForm refl) (differ Iso8601Strict RelativeText refl) (ap is_some q)
        ∙ strict-git rule text (ap is_some q) h
    by None None p q = git-first rule text u p q h

pub comes_first : (rule : OffsetRule) (text : List ℕ) → IsUtf8 text → ComesFirst rule text
comes_first rule text u = grind (arith, alone-first, git-says, relative-first, counting)

-- the answer of the first family and the moment have one result
pub record OutcomesAreOne : Type 0 where
  pub once : HasOneOutcome

pub one_outcome : OutcomesAreOne
one_outcome = record { once = one-outcome }
