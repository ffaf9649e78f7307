-- Headers of two numbers, with one space between them.
use Rattle.std.proofs.Common.{◌≡◌, ◌∙◌, ◌+◌, ◌<◌, ℕ, ℤ, Bool, true, false, List, [], ◌∷◌, ◌++◌, map, length, refl, ap, sym, subst, Some}
use Rattle.std.proofs.Common.{None, append-nil, arith, IsAscii, inl, inr, ◌⊎◌, Option, option_map, get_or, take, drop, take-append-drop}
use Rattle.std.proofs.Common.{drop-cons, add-one}
use Rattle.std.proofs.lemmas.Option.{same_Some as same_some, cond_some as guard}
use Rattle.std.proofs.lemmas.Bool.{and_parts as both, or_from as neither}
use Rattle.std.proofs.lemmas.Bool.Decides.{nat_tests}
use Rattle.std.proofs.lemmas.Str.{chars-IsAscii, encodes-IsAscii, IsAscii-append}
use Rattle.std.proofs.lemmas.List.Elements.{All-append, All-cons, All-nil}
use Rattle.std.proofs.lemmas.Str.Ascii.{IsAscii-nil, IsAscii-cons}
use Rattle.std.specs.Char.{is_whitespace, is_ascii_alphabetic, is_ascii_digit}
use Rattle.std.specs.Prelude.{◌==◌, ◌||◌, ◌&&◌, cond, ◌-◌, ◌*◌, encode_utf8_all, ◌≢◌, All}
use Rattle.std.specs.Str.{chars, NonePass, all_ascii_digits}
use Rattle.std.specs.Str.Parse.{without_leading_sign, signed_digits_value}
use Rattle.std.specs.Option.{option_or}
use Rattle.std.proofs.lemmas.List.Folds.{list_any-append}
use Rattle.gix_date.specs.Fields.FieldTexts.{IsPair, IsSign, IsDigit}
use Rattle.gix_date.specs.Text.Characters.{newline, space, plus, minus, is_colon, has_colon}
use Rattle.gix_date.specs.Text.Front.{skip_char, ◌>>=◌}
use Rattle.gix_date.specs.Text.Numbers.{is_int_text, int_value, read_two_digits}
use Rattle.gix_date.specs.Fields.Offsets.{read_sign, last_pair, offset_fields, offset_of}
use Rattle.gix_date.specs.Header.Reading.{header_seconds, header_offset, time_of_words, header_time, IsHeaderLine, IsUsualHeader}
use Rattle.gix_date.specs.declared.parsing.offset.Sign.{Sign}
use Rattle.gix_date.specs.declared.parsing.offset.Sign.TheVariants.{Plus, Minus}
use Rattle.gix_date.specs.declared.parsing.offset.OffsetFields.{OffsetFields}
use Rattle.gix_date.specs.declared.time.Time.{Time}
use Rattle.gix_date.proofs.Fields.FieldsTaken.{went, after-taken, two-taken, same-first, TookTwo}
use Rattle.gix_date.proofs.Text.Ints.{each_of}
use Rattle.gix_date.specs.Families.Raw.{OffsetRule, raw_time_by, raw_offset_by}
use Rattle.gix_date.specs.Text.SpaceWords.{space_words, runs}
use Rattle.gix_date.proofs.Text.WordSteps.{runs_skip, run_first, stops, ends}

-- a digit or a sign
abbrev pub is_number_byte : ℕ → Bool
is_number_byte c = is_ascii_digit c || c == plus || c == minus

abbrev pub AreNumberBytes : List ℕ → Type 0
AreNumberBytes [] = Unit {0}
AreNumberBytes (c ∷ t) = (is_number_byte c ≡ true) × AreNumberBytes t

pub are_ascii : (t : List ℕ) → AreNumberBytes t → IsAscii t
are_ascii [] h = IsAscii-nil
are_ascii (c ∷ t) h = IsAscii-cons c t (grind (arith, nat_tests, h.0)) (are_ascii t h.1)

no_white_space : (t : List ℕ) → AreNumberBytes t → NonePass is_whitespace t
no_white_space [] h = tt
no_white_space (c ∷ t) h = (grind (arith, nat_tests, h.0), no_white_space t h.1)

two_runs : (x y : ℕ) (xs ys : List ℕ) → NonePass is_whitespace (x ∷ xs) → NonePass is_whitespace (y ∷ ys)
    → runs ((x ∷ xs) ++ (space ∷ (y ∷ ys))) ≡ (x ∷ xs) ∷ (y ∷ ys) ∷ []
two_runs x y xs ys h k =
    run_first x xs (space ∷ (y ∷ ys)) h (stops space (y ∷ ys) refl)
    ∙ ap (λ rs. (x ∷ xs) ∷ rs) (runs_skip (space ∷ []) (y ∷ ys) (refl, tt) ∙ ap runs (sym (append-nil (y ∷ ys))) ∙ run_first y ys [] k ends)

-- the words of two numbers with a space between them
pub two-words : (x y : ℕ) (xs ys : List ℕ) → AreNumberBytes (x ∷ xs) → AreNumberBytes (y ∷ ys)
    → space_words ((x ∷ xs) ++ (space ∷ (y ∷ ys))) ≡ (x ∷ xs) ∷ (y ∷ ys) ∷ []
unfolding space_words
two-words x y xs ys h k =
    let a = are_ascii (x ∷ xs) h in
    let b = are_ascii (y ∷ ys) k in
    let whole : IsAscii ((x ∷ xs) ++ (space ∷ (y ∷ ys))) =
    IsAscii-append (x ∷ xs) (space ∷ (y ∷ ys)) a (IsAscii-cons space (y ∷ ys) (omega arith) b) in
    ap (λ cs. map encode_utf8_all (runs cs)) (chars-IsAscii ((x ∷ xs) ++ (space ∷ (y ∷ ys))) whole)
    ∙ ap (map encode_utf8_all) (two_runs x y xs ys (no_white_space (x ∷ xs) h) (no_white_space (y ∷ ys) k))
    ∙ rw (encodes-IsAscii (x ∷ xs) a, encodes-IsAscii (y ∷ ys) b) refl

digit_is : (c : ℕ) → is_ascii_digit c ≡ true → is_number_byte c ≡ true
digit_is c h = grind (arith, nat_tests, h)

digits_are : (t : List ℕ) → all_ascii_digits t ≡ true → AreNumberBytes t
digits_are [] h = tt
digits_are (c ∷ t) h =
    let parts = both (is_ascii_digit c) (all_ascii_digits t) h in
    (digit_is c parts.0, digits_are t parts.1)

after_sign : (c : ℕ) (t : List ℕ) (p q : Bool) → (c == minus) ≡ p → (c == plus) ≡ q → all_ascii_digits (without_leading_sign (c ∷ t)) ≡ true
    → AreNumberBytes (c ∷ t)
after_sign c t true q e f h = (grind (arith, nat_tests, e), digits_are t (rw e at h))
after_sign c t false true e f h = (grind (arith, nat_tests, f), digits_are t (rw (e, f) at h))
after_sign c t false false e f h = digits_are (c ∷ t) (rw (e, f) at h)

-- the value of an int text
pub int-taken : (w : List ℕ) (n : ℤ) → int_value w ≡ Some n → (is_int_text w ≡ true) × (signed_digits_value 10 w ≡ n)
unfolding int_value
int-taken w n e = guard (is_int_text w) (signed_digits_value 10 w) n e

-- an int text has a byte, and they are digits and signs
pub record IsNumber (w : List ℕ) : Type 0 where
  pub first : ℕ
  pub rest : List ℕ
  pub whole : w ≡ first ∷ rest
  pub bytes : AreNumberBytes (first ∷ rest)

pub int-number : (w : List ℕ) (n : ℤ) → int_value w ≡ Some n → IsNumber w
int-number [] n e = let h = (int-taken [] n e).0 in absurd cc
int-number (c ∷ t) n e = grind (arith, each_of, int-taken, after_sign)

pub letter-no-number : (c : ℕ) → is_ascii_alphabetic c ≡ true → is_number_byte c ≡ false
letter-no-number c h = grind (arith, nat_tests, h)

pub int-no-byte : (c : ℕ) (t : List ℕ) (n : ℤ) → is_number_byte c ≡ false → int_value (c ∷ t) ≡ Some n → ⊥
int-no-byte c t n h e = grind (arith, int-number, same-first)

pub record TookSign (x : List ℕ) (s : Sign) (rest : List ℕ) : Type 0 where
  pub mark : ℕ
  pub is_mark : IsSign mark s
  pub whole : x ≡ mark ∷ rest

sign_from : (x : List ℕ) (a b : Option (List ℕ)) (s : Sign) (rest : List ℕ) → skip_char plus x ≡ a → skip_char minus x ≡ b
    → option_or (option_map {U = Sign × List ℕ} (λ r. (Plus, r)) a) (option_map {U = Sign × List ℕ} (λ r. (Minus, r)) b) ≡ Some (s, rest)
    → TookSign x s rest
sign_from x (Some r) b s rest e f h = grind (arith, after-taken)
sign_from x None (Some r) s rest e f h = grind (arith, after-taken)
sign_from x None None s rest e f h = absurd cc

pub sign-taken : (x : List ℕ) (s : Sign) (rest : List ℕ) → read_sign x ≡ Some (s, rest) → TookSign x s rest
unfolding read_sign
sign-taken x s rest e = sign_from x (skip_char plus x) (skip_char minus x) s rest refl refl e

pub sign-mark : (mark : ℕ) (s : Sign) (rest : List ℕ) → IsSign mark s → read_sign (mark ∷ rest) ≡ Some (s, rest)
unfolding read_sign skip_char
sign-mark mark s rest (inl h) = rw (h.0, h.1) refl
sign-mark mark s rest (inr h) = rw (h.0, h.1) refl

pub record TookLast (x : List ℕ) (seconds : Option ℕ) : Type 0 where
  pub bytes : AreNumberBytes x
  pub none : seconds ≡ None → x ≡ []
  pub digits : all_ascii_digits x ≡ true
  pub is : ((x ≡ []) × (seconds ≡ None)) ⊎ ((n : ℕ) × IsPair x n × (seconds ≡ Some n))

last_from : (a b : ℕ) (p q : Bool) (seconds : Option ℕ) → is_ascii_digit a ≡ p → is_ascii_digit b ≡ q
    → option_map {U = Option ℕ} (λ n. Some n) (cond (p && q) (Some (10 * (a - 48) + (b - 48))) None) ≡ Some seconds
    → TookLast (a ∷ b ∷ []) seconds
last_from a b true true seconds e f h = grind (arith, digit_is, same_some)
last_from a b p q seconds e f h = absurd cc

pub last-taken : (x : List ℕ) (seconds : Option ℕ) → last_pair x ≡ Some seconds → TookLast x seconds
unfolding last_pair
last-taken [] seconds e = record { bytes = tt; none = λ n. refl; digits = refl; is = inl (refl, sym (same_some None seconds e)) }
last-taken (a ∷ b ∷ []) seconds e = last_from a b (is_ascii_digit a) (is_ascii_digit b) seconds refl refl e
last-taken x seconds e = absurd cc

-- the bytes of an offset's fields: a sign, two digits, this gap, two digits, and what says the seconds
pub record IsOffsetBy (gap : List ℕ) (IsLast : List ℕ → Option ℕ → Type 0) (x : List ℕ) (f : OffsetFields) : Type 0 where
  pub mark : ℕ
  pub h0 : ℕ
  pub h1 : ℕ
  pub m0 : ℕ
  pub m1 : ℕ
  pub last : List ℕ
  pub whole : x ≡ mark ∷ h0 ∷ h1 ∷ (gap ++ (m0 ∷ m1 ∷ last))
  pub is_mark : IsSign mark f.sign
  pub is_h0 : IsDigit h0
  pub is_h1 : IsDigit h1
  pub hours : f.hours ≡ 10 * (h0 - 48) + (h1 - 48)
  pub is_m0 : IsDigit m0
  pub is_m1 : IsDigit m1
  pub minutes : f.minutes ≡ 10 * (m0 - 48) + (m1 - 48)
  pub is_last : IsLast last f.seconds

abbrev pub IsOffsetText : List ℕ → OffsetFields → Type 0
IsOffsetText x f = IsOffsetBy [] TookLast x f

abbrev pub fields_at : Sign → ℕ → ℕ → Option ℕ → OffsetFields
fields_at sign h m s = record { sign = sign; hours = h; minutes = m; seconds = s }

-- which are read one after the other
pub offset-by : (gap : List ℕ) (IsLast : List ℕ → Option ℕ → Type 0) (x after_sign after_hours rest last : List ℕ) (f : OffsetFields)
    → (a : TookSign x f.sign after_sign) → TookTwo after_sign f.hours after_hours → after_hours ≡ gap ++ rest → TookTwo rest f.minutes last
    → IsLast last f.seconds → IsOffsetBy gap IsLast x f
offset-by gap IsLast x after_sign after_hours rest last f a b e c d = grind (arith)

pub offset-taken : (x : List ℕ) (f : OffsetFields) → offset_fields x ≡ Some f → IsOffsetText x f
unfolding offset_fields
offset-taken x f e =
    let sign = went (read_sign x)
    (λ sign. read_two_digits sign.1 >>= λ h. read_two_digits h.1 >>= λ m. last_pair m.1 >>= λ s. Some (fields_at sign.0 h.0 m.0 s)) f
    e in
    let hours = went (read_two_digits sign.0.1)
    (λ h. read_two_digits h.1 >>= λ m. last_pair m.1 >>= λ s. Some (fields_at sign.0.0 h.0 m.0 s)) f sign.2 in
    let minutes = went (read_two_digits hours.0.1) (λ m. last_pair m.1 >>= λ s. Some (fields_at sign.0.0 hours.0.0 m.0 s)) f hours.2 in
    let seconds = went (last_pair minutes.0.1) (λ s. Some (fields_at sign.0.0 hours.0.0 minutes.0.0 s)) f minutes.2 in
    let found : fields_at sign.0.0 hours.0.0 minutes.0.0 seconds.0 ≡ f = same_some _ f seconds.2 in
    let a = sign-taken x sign.0.0 sign.0.1 sign.1 in
    let b = two-taken sign.0.1 hours.0.0 hours.0.1 hours.1 in
    let c = two-taken hours.0.1 minutes.0.0 minutes.0.1 minutes.1 in
    let d = last-taken minutes.0.1 seconds.0 seconds.1 in
    subst (IsOffsetText x) found
    (offset-by [] TookLast x sign.0.1 hours.0.1 hours.0.1 minutes.0.1 (fields_at sign.0.0 hours.0.0 minutes.0.0 seconds.0) a b refl c d)

-- a sign passes a test that plus and minus pass
pub sign_passes : (p : ℕ → Bool) (c : ℕ) (s : Sign) → IsSign c s → p plus ≡ true → p minus ≡ true → p c ≡ true
sign_passes p c s (inl e) h k = rw e.0 h
sign_passes p c s (inr e) h k = rw e.0 k

pub offset-number : (x : List ℕ) (f : OffsetFields) → offset_fields x ≡ Some f → IsNumber x
offset-number x f e =
    let o = offset-taken x f e in
    record {
      first = o.mark;
      rest = o.h0 ∷ o.h1 ∷ o.m0 ∷ o.m1 ∷ o.last;
      whole = o.whole;
      bytes = (
        sign_passes is_number_byte o.mark f.sign o.is_mark refl refl,
        (digit_is o.h0 o.is_h0, (digit_is o.h1 o.is_h1, (digit_is o.m0 o.is_m0, (digit_is o.m1 o.is_m1, o.is_last.bytes)))),
      );
    }

pub no_colon : (t : List ℕ) → AreNumberBytes t → has_colon t ≡ false
no_colon [] h = refl
no_colon (c ∷ t) h = neither (is_colon c) (has_colon t) (grind (arith, nat_tests, h.0)) (no_colon t h.1)

pub by_words : (text a b : List ℕ) (t : Time) → has_colon text ≡ false → space_words text ≡ a ∷ b ∷ [] → time_of_words (a ∷ b ∷ []) ≡ Some t
    → header_time text ≡ Some t
unfolding header_time
by_words text a b t c w e = rw (c, w) e

pub said : (a b : List ℕ) (n : ℤ) (f : OffsetFields) → int_value a ≡ Some n → offset_fields b ≡ Some f
    → time_of_words (a ∷ b ∷ []) ≡ Some (record { seconds = n; offset = offset_of f })
unfolding time_of_words header_seconds header_offset
said a b n f e h = rw (e, h) refl

plain_of : (front zone : List ℕ) (n : ℤ) (f : OffsetFields) → IsNumber front → IsNumber zone → int_value front ≡ Some n
    → offset_fields zone ≡ Some f → header_time (front ++ (space ∷ zone)) ≡ Some (record { seconds = n; offset = offset_of f })
plain_of front zone n f a b e h =
    let x = a.first ∷ a.rest in
    let y = b.first ∷ b.rest in
    let colon : has_colon (front ++ (space ∷ zone)) ≡ false = rw (a.whole, b.whole) (list_any-append is_colon x (space ∷ y)
    ∙ neither (has_colon x) (has_colon (space ∷ y)) (no_colon x a.bytes) (no_colon y b.bytes)) in
    let words : space_words (front ++ (space ∷ zone)) ≡ front ∷ zone ∷ [] =
    rw (a.whole, b.whole) (two-words a.first b.first a.rest b.rest a.bytes b.bytes) in
    by_words (front ++ (space ∷ zone)) front zone _ colon words (said front zone n f e h)

-- A number, one space and an offset's fields: the header's time is what they say.
pub usual-header : (front zone : List ℕ) (n : ℤ) (f : OffsetFields) → int_value front ≡ Some n → offset_fields zone ≡ Some f
    → header_time (front ++ (space ∷ zone)) ≡ Some (record { seconds = n; offset = offset_of f })
usual-header front zone n f e h = plain_of front zone n f (int-number front n e) (offset-number zone f h) e h

pub plain_time : (text : List ℕ) (n : ℤ) (f : OffsetFields) → IsUsualHeader text n f
    → header_time text ≡ Some (record { seconds = n; offset = offset_of f })
plain_time text n f h = ap header_time h.whole ∙ usual-header h.front h.zone n f h.is_seconds h.are_fields

number-line : (t : List ℕ) → AreNumberBytes t → All (λ b. b ≢ newline) t
number-line [] h = All-nil (λ b. b ≢ newline)
number-line (c ∷ t) h = All-cons (λ b. b ≢ newline) c t (grind (arith, nat_tests, h.0)) (number-line t h.1)

line-of : (text front zone : List ℕ) (t : Time) → header_time text ≡ Some t → text ≡ front ++ (space ∷ zone) → AreNumberBytes front
    → AreNumberBytes zone → IsHeaderLine text t
line-of text front zone t says whole a b =
    let P : ℕ → Type 0 = λ n. n ≢ newline in
    record {
      says = says;
      is_ascii = subst IsAscii (sym whole)
          (IsAscii-append front (space ∷ zone) (are_ascii front a) (IsAscii-cons space zone (omega arith) (are_ascii zone b)));
      is_line = subst (All P) (sym whole)
          (All-append P front (space ∷ zone) (number-line front a) (All-cons P space zone (λ e. omega arith) (number-line zone b)));
    }

-- which is a line of ASCII
pub usual_line : (text : List ℕ) (n : ℤ) (f : OffsetFields) → IsUsualHeader text n f
    → IsHeaderLine text (record { seconds = n; offset = offset_of f })
usual_line text n f h =
    let a = int-number h.front n h.is_seconds in
    let b = offset-number h.zone f h.are_fields in
    line-of text h.front h.zone _ (plain_time text n f h) h.whole (subst AreNumberBytes (sym a.whole) a.bytes)
    (subst AreNumberBytes (sym b.whole) b.bytes)

-- such a text by places
pub plain-places : (text : List ℕ) (place : ℕ) (n : ℤ) (f : OffsetFields) → place < length text → get_or text place 0 ≡ space
    → int_value (take place text) ≡ Some n → offset_fields (drop (place + 1) text) ≡ Some f
    → IsUsualHeader text n f
plain-places text place n f within mark e h = grind (arith, take-append-drop, drop-cons, add-one)

-- the same of its bytes
pub by_places : (text bytes zone : List ℕ) (place : ℕ) (n : ℤ) (f : OffsetFields) → bytes ≡ text → place < length bytes
    → get_or bytes place 0 ≡ space → int_value (take place bytes) ≡ Some n
    → zone ≡ drop (place + 1) text → Some f ≡ offset_fields zone → IsUsualHeader text n f
by_places text bytes zone place n f same within mark e is h =
    subst (λ (t : List ℕ). IsUsualHeader t n f) same
    (plain-places bytes place n f within mark e (rw same (ap offset_fields (sym is) ∙ sym h)))

-- the two words of such a text
pub plain-words : (text : List ℕ) (n : ℤ) (f : OffsetFields) (h : IsUsualHeader text n f) → space_words text ≡ h.front ∷ h.zone ∷ []
plain-words text n f h = grind (arith, int-number, offset-number, two-words)

-- the raw time of one, where the rule allows its fields
pub plain_raw : (rule : OffsetRule) (text : List ℕ) (n : ℤ) (f : OffsetFields) → IsUsualHeader text n f → rule f ≡ true
    → raw_time_by rule text ≡ Some (record { seconds = n; offset = offset_of f })
unfolding raw_time_by raw_offset_by
plain_raw rule text n f h q = rw (plain-words text n f h, h.is_seconds, h.are_fields, q) refl

-- the words of a number alone
pub one-word : (w : List ℕ) → IsNumber w → space_words w ≡ w ∷ []
unfolding space_words
one-word w k =
    let front = k.first ∷ k.rest in
    let a = are_ascii front k.bytes in
    let one : runs front ≡ front ∷ [] = ap runs (sym (append-nil front))
    ∙ run_first k.first k.rest [] (no_white_space front k.bytes) ends in
    let words : map encode_utf8_all (runs (chars front)) ≡ front ∷ [] = ap (λ cs. map encode_utf8_all (runs cs)) (chars-IsAscii front a)
    ∙ ap (map encode_utf8_all) one ∙ ap (λ (t : List ℕ). t ∷ []) (encodes-IsAscii front a) in
    ap (λ (t : List ℕ). map encode_utf8_all (runs (chars t))) k.whole ∙ words ∙ ap (λ (t : List ℕ). t ∷ []) (sym k.whole)
