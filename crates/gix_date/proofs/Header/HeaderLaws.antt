-- The laws of header texts.
use Rattle.std.proofs.lemmas.Grind.{common_steps}
use Rattle.std.proofs.Common.{◌≡◌, ◌∙◌, ◌+◌, ◌-◌, ◌*◌, ◌/◌, ◌%◌, ◌<◌, ◌≤◌, ◌^◌, ℕ, ℤ, pos, negsuc, Bool, true, false, cond, List, [], ◌∷◌}
use Rattle.std.proofs.Common.{◌++◌, length, take, drop, get_or, refl, ap, ap₂, sym, subst, Some, None, arith, inl, inr, Option}
use Rattle.std.proofs.Common.{unsigned_abs, FitsSigned, w64, zero, suc, ◌≢◌, add-one, IsSomeAnd, IsUtf8}
use Rattle.std.proofs.lemmas.Option.{cond_some as guard, same_Some as same_some}
use Rattle.std.proofs.Math.Seq.{take-append_seam}
use Rattle.std.proofs.lemmas.Bool.{and_parts as both, not-true as not_false, ne_eqb as other, false_from_ne_true as false-unless}
use Rattle.std.proofs.lemmas.Bool.Decides.{nat_tests}
use Rattle.std.proofs.lemmas.Fmt.{decimal_is_IsNumeral, decimal_nonempty}
use Rattle.std.proofs.lemmas.Str.Parse.{not_in_digits}
use Rattle.std.proofs.lemmas.Str.{IsUtf8-from_ascii, IsAscii-append}
use Rattle.std.proofs.lemmas.Str.Ascii.{IsAscii-cons}
use Rattle.std.proofs.lemmas.Int.{ints}
use Rattle.std.proofs.lemmas.List.Sums.{split_at_first, passes_at_first}
use Rattle.std.proofs.lemmas.Slice.Eq.{bytes_eq-Decides}
use Rattle.std.proofs.Math.ListN.{drop_of_length-le}
use Rattle.std.specs.Fmt.{decimal}
use Rattle.std.specs.List.{before_first, after_first, position_or_len}
use Rattle.std.specs.Prelude.{◌&&◌, not, nat_lt, int_lt, codes, is_none, if◌then◌else◌}
use Rattle.std.specs.Option.{option_map_or, option_or}
use Rattle.std.specs.Char.{is_ascii_digit}
use Rattle.std.specs.Str.{bytes_eq}
use Rattle.std.specs.Str.Parse.{without_leading_sign, signed_digits_value, digits_value}
use Rattle.gix_date.specs.Fields.FieldTexts.{IsSign, IsDigit}
use Rattle.gix_date.specs.declared.parsing.headers.HeaderKind.TheVariants.{Canonical, Lenient, NoHeader}
use Rattle.gix_date.specs.Header.Canonical.{header_kind, kind_of, is_canonical_header, is_canonical_offset, is_decimal_text}
use Rattle.gix_date.specs.Header.Canonical.{has_whole_minutes}
use Rattle.gix_date.specs.Text.Characters.{space, plus, minus, is_space, has_colon}
use Rattle.gix_date.specs.Header.Laws.{ComesBack}
use Rattle.gix_date.specs.Header.Reading.{header_time, time_of_words, header_seconds}
use Rattle.gix_date.specs.Text.SpaceWords.{space_words}
use Rattle.gix_date.specs.Header.Text.{header_text, is_header_text_of}
use Rattle.gix_date.specs.Fields.Offsets.{compact_offset_text, offset_sign, hours_and_minutes, offset_fields, offset_of, signed, read_sign}
use Rattle.gix_date.specs.Fields.Offsets.{last_pair}
use Rattle.gix_date.specs.Text.Numbers.{int_value, decimal_text, two_digits, read_two_digits}
use Rattle.gix_date.specs.Text.Front.{skip_char}
use Rattle.gix_date.specs.declared.parsing.offset.OffsetFields.{OffsetFields}
use Rattle.gix_date.specs.declared.parsing.offset.Sign.{Sign}
use Rattle.gix_date.specs.declared.parsing.offset.Sign.TheVariants.{Plus, Minus}
use Rattle.gix_date.specs.declared.time.Time.{Time}
use Rattle.gix_date.specs.declared.time.TheConstants.{HUNDRED_HOURS}
use Rattle.gix_date.proofs.Fields.FieldsRead.{is-space}
use Rattle.gix_date.proofs.Text.Ints.{own, int_value_from, fits_from, each_of}
use Rattle.gix_date.proofs.Fields.FieldsTaken.{time_at, went, none_is}
use Rattle.gix_date.proofs.Fast.FastHeaders.{is_number_byte, usual-header, int-taken, offset-taken, IsOffsetText, AreNumberBytes, are_ascii}
use Rattle.gix_date.proofs.Fast.FastHeaders.{IsNumber, int-number, offset-number}

-- A canonical header, taken apart.
from_test : {A : Type 0} (r : Option A) (test : A → Bool) → option_map_or test r false ≡ true → (x : A) × (r ≡ Some x) × (test x ≡ true)
from_test (Some x) test e = (x, refl, e)
from_test None test e = absurd cc

pub record IsCanonical (text : List ℕ) : Type 0 where
  pub front : List ℕ
  pub zone : List ℕ
  pub seconds : ℤ
  pub fields : OffsetFields
  pub whole : text ≡ front ++ (space ∷ zone)
  pub is_seconds : int_value front ≡ Some seconds
  pub is_decimal : decimal_text seconds ≡ front
  pub is_jiff_offset : offset_fields zone ≡ Some fields
  pub minutes : fields.minutes < 60
  pub none : fields.seconds ≡ None
  pub not_minus_zero : bytes_eq zone (codes "-0000") ≡ false

no_fields : offset_fields [] ≡ None
unfolding offset_fields read_sign skip_char
no_fields = refl

fields-within : (text : List ℕ) (f : OffsetFields) → offset_fields (after_first is_space text) ≡ Some f
    → position_or_len is_space text < length text
fields-within text f e = grind (arith, drop_of_length-le, no_fields)

pub canonical_taken : (text : List ℕ) → is_canonical_header text ≡ true → IsCanonical text
canonical_taken text e =
    let before = before_first is_space text in
    let after = after_first is_space text in
    let parts = both (is_decimal_text before) (is_canonical_offset after) e in
    let zone_parts = both (option_map_or has_whole_minutes (offset_fields after) false) (not (bytes_eq after (codes "-0000"))) parts.1 in
    let front = from_test (int_value before) (λ n. bytes_eq (decimal_text n) before) parts.0 in
    let zone = from_test (offset_fields after) has_whole_minutes zone_parts.0 in
    let fits = both (nat_lt zone.0.minutes 60) (is_none zone.0.seconds) zone.2 in
    let within = fields-within text zone.0 zone.1 in
    let mark : get_or text (position_or_len is_space text) 0 ≡ space = is-space _ (passes_at_first is_space text 0 within) in
    record {
      front = before;
      zone = after;
      seconds = front.0;
      fields = zone.0;
      whole = split_at_first is_space text 0 within ∙ ap (λ (c : ℕ). before ++ (c ∷ after)) mark;
      is_seconds = front.1;
      is_decimal = (bytes_eq-Decides (decimal_text front.0) before).0 front.2;
      is_jiff_offset = zone.1;
      minutes = grind (arith, nat_tests, fits.0);
      none = none_is zone.0.seconds fits.1;
      not_minus_zero = not_false _ zone_parts.1;
    }

-- Two digits that were read are written back.
digit_low : (c : ℕ) → IsDigit c → 48 ≤ c
digit_low c h = grind (arith, nat_tests, h)

digit_high : (c : ℕ) → IsDigit c → c ≤ 57
digit_high c h = grind (arith, nat_tests, h)

pair-back : (a b n : ℕ) → IsDigit a → IsDigit b → n ≡ 10 * (a - 48) + (b - 48) → two_digits n ≡ a ∷ b ∷ []
pair-back a b n p q e = grind (arith, digit_low, digit_high)

hours-back : (h m : ℕ) → m < 60 → hours_and_minutes (3600 * h + 60 * m) ≡ two_digits h ++ two_digits m
hours-back h m small = grind (arith)

plus-sign : (n : ℕ) → offset_sign (pos n) ≡ plus
plus-sign n = let no : int_lt (pos n) (pos 0) ≡ false = grind (arith, ints) in rw no refl

zone-by : (n : ℕ) (mark : ℕ) (sign : Sign) → IsSign mark sign → (sign ≡ Minus → 0 < n)
    → compact_offset_text (signed sign n) ≡ mark ∷ hours_and_minutes n
zone-by n mark sign (inl p) some = rw (p.0, p.1, plus-sign n) refl
zone-by zero mark sign (inr p) some = absurd (omega (arith, some p.1))
zone-by (suc n) mark sign (inr p) some = rw (p.0, p.1) refl

abbrev whole_distance : OffsetFields → ℕ
whole_distance f = 3600 * f.hours + 60 * f.minutes

distance-is : (f : OffsetFields) → f.seconds ≡ None → offset_of f ≡ signed f.sign (whole_distance f)
distance-is f e = let n : 3600 * f.hours + 60 * f.minutes + 0 ≡ whole_distance f = omega arith in rw (e, n) refl

minus-zero : (x : List ℕ) (f : OffsetFields) (o : IsOffsetText x f) → f.seconds ≡ None → f.sign ≡ Minus → whole_distance f ≡ 0
    → x ≡ codes "-0000"
minus-zero x f o e s z = grind (arith, digit_low)

zone-back : (x : List ℕ) (f : OffsetFields) → IsOffsetText x f → f.minutes < 60 → f.seconds ≡ None → bytes_eq x (codes "-0000") ≡ false
    → compact_offset_text (offset_of f) ≡ x
zone-back x f o small e other =
    let some : f.sign ≡ Minus → 0 < whole_distance f = λ s.
    let nonzero : whole_distance f ≡ 0
    → ⊥ = λ z. (let clash : true ≡ false = sym ((bytes_eq-Decides x (codes "-0000")).1 (minus-zero x f o e s z)) ∙ other in cc) in
    omega (arith, nonzero) in
    ap compact_offset_text (distance-is f e)
    ∙ zone-by (whole_distance f) o.mark f.sign o.is_mark some
    ∙ ap (λ (t : List ℕ). o.mark ∷ t) (hours-back f.hours f.minutes small)
    ∙ ap₂ (λ (h m : List ℕ). o.mark ∷ (h ++ m)) (pair-back o.h0 o.h1 f.hours o.is_h0 o.is_h1 o.hours)
    (pair-back o.m0 o.m1 f.minutes o.is_m0 o.is_m1 o.minutes)
    ∙ sym (o.whole ∙ rw (o.is_last.none e) refl)

pub abs-signed : (s : Sign) (n : ℕ) → unsigned_abs (signed s n) ≡ n
abs-signed Minus zero = refl
abs-signed x n = refl

pub written-by : (t : Time) → unsigned_abs t.offset < 360000
    → header_text t ≡ Some (decimal_text t.seconds ++ (space ∷ compact_offset_text t.offset))
unfolding header_text
written-by t h = let yes : nat_lt (unsigned_abs t.offset) HUNDRED_HOURS ≡ true = grind (arith, nat_tests, h) in rw yes refl

hours-small : (x : List ℕ) (f : OffsetFields) → IsOffsetText x f → f.hours < 100
hours-small x f o = omega (arith, o.hours, digit_high o.h0 o.is_h0, digit_high o.h1 o.is_h1)

pub canonical_back : (text : List ℕ) → IsCanonical text → ComesBack text
canonical_back text k =
    let f = k.fields in
    let o = offset-taken k.zone f k.is_jiff_offset in
    let abs : unsigned_abs (offset_of f) ≡ whole_distance f = ap (λ (z : ℤ). unsigned_abs z) (distance-is f k.none)
    ∙ abs-signed f.sign (whole_distance f) in
    let short : unsigned_abs (offset_of f) < 360000 = omega (arith, abs, hours-small k.zone f o, k.minutes) in
    record {
      time = record { seconds = k.seconds; offset = offset_of f };
      is_read = ap header_time k.whole ∙ usual-header k.front k.zone k.seconds f k.is_seconds k.is_jiff_offset;
      is_written = written-by (record { seconds = k.seconds; offset = offset_of f }) short
          ∙ rw (k.is_decimal, zone-back k.zone f o k.minutes k.none k.not_minus_zero) (ap Some (sym k.whole));
    }

-- A decimal text is read.
front-digit : (n : ℕ) → n < 2 ^ 64 → (c : ℕ) → (c < 48) → get_or (decimal n) 0 0 ≢ c
front-digit n h c low = grind (arith, nat_tests, common_steps, not_in_digits, own, decimal_is_IsNumeral, decimal_nonempty)

bare-text : (n : ℕ) → n < 2 ^ 64 → without_leading_sign (decimal n) ≡ decimal n
bare-text n h = grind (arith, other, front-digit)

bare-value : (n : ℕ) → n < 2 ^ 64 → signed_digits_value 10 (decimal n) ≡ pos n
bare-value n h =
    let value : digits_value 10 (decimal n) ≡ n = (decimal_is_IsNumeral n h).1 in
    rw (other _ 45 (front-digit n h 45 (omega arith)), other _ 43 (front-digit n h 43 (omega arith)), value) refl

pub decimal-int : (z : ℤ) → FitsSigned w64 z → int_value (decimal_text z) ≡ Some z
decimal-int (pos n) f = grind (arith, bare-text, decimal_is_IsNumeral, int_value_from, bare-value)
decimal-int (negsuc n) f = grind (arith, decimal_is_IsNumeral, int_value_from)

-- What is read fits.
int-fits : (w : List ℕ) (z : ℤ) → int_value w ≡ Some z → FitsSigned w64 z
int-fits w z e = grind (arith, int-taken, each_of, fits_from)

said-fits : (w v : List ℕ) (a b : Option ℤ) (z : ℤ) → int_value w ≡ a → int_value v ≡ b → option_or a b ≡ Some z → FitsSigned w64 z
said-fits w v (Some y) b z e f h = int-fits w z (e ∙ h)
said-fits w v None b z e f h = int-fits v z (f ∙ h)

words-fit : (words : List (List ℕ)) (t : Time) → time_of_words words ≡ Some t → FitsSigned w64 t.seconds
unfolding time_of_words header_seconds
words-fit words t e = grind (arith, went, time_at, same_some, said-fits)

unless : (b : Bool) (r : Option Time) (t : Time) → cond b None r ≡ Some t → r ≡ Some t
unless true r t e = absurd cc
unless false r t e = e

pub header-fits : (text : List ℕ) (t : Time) → header_time text ≡ Some t → FitsSigned w64 t.seconds
unfolding header_time
header-fits text t e = words-fit (space_words text) t (unless (has_colon text) (time_of_words (space_words text)) t e)

-- A written offset is read.
abbrev pub sign_for : Bool → Sign
sign_for true = Minus
sign_for false = Plus

abbrev pub written_fields : ℤ → OffsetFields
written_fields o =
    record { sign = sign_for (int_lt o (pos 0)); hours = unsigned_abs o / 3600; minutes = unsigned_abs o % 3600 / 60; seconds = None }

pub sign-read : (b : Bool) (t : List ℕ) → read_sign ((if b then minus else plus) ∷ t) ≡ Some (sign_for b, t)
unfolding read_sign skip_char
sign-read true t = refl
sign-read false t = refl

pub is-digit : (n : ℕ) → n < 10 → is_ascii_digit (48 + n) ≡ true
is-digit n h = grind (arith, nat_tests, h)

pub two-read : (n : ℕ) (rest : List ℕ) → n < 100 → read_two_digits (two_digits n ++ rest) ≡ Some (n, rest)
unfolding read_two_digits
two-read n rest h = grind (arith, is-digit)

pub zone-read : (o : ℤ) → unsigned_abs o < 360000 → offset_fields (compact_offset_text o) ≡ Some (written_fields o)
unfolding offset_fields last_pair
zone-read o h = grind (arith, sign-read, two-read)

-- The first space of a written header.
byte-no-space : (c : ℕ) → is_number_byte c ≡ true → is_space c ≡ false
byte-no-space c h = grind (arith, nat_tests, h)

space-at : (a b : List ℕ) → AreNumberBytes a → position_or_len is_space (a ++ (space ∷ b)) ≡ length a
space-at [] b h = refl
space-at (c ∷ a) b h = rw (byte-no-space c h.0) (omega (arith, space-at a b h.1))

pub front-of : (a b : List ℕ) → AreNumberBytes a → before_first is_space (a ++ (space ∷ b)) ≡ a
front-of a b h = ap (λ (n : ℕ). take n (a ++ (space ∷ b))) (space-at a b h) ∙ take-append_seam a (space ∷ b)

pub after-of : (a b : List ℕ) → AreNumberBytes a → after_first is_space (a ++ (space ∷ b)) ≡ b
after-of a b h = ap (λ (n : ℕ). drop (n + 1) (a ++ (space ∷ b))) (space-at a b h)
    ∙ ap (λ (n : ℕ). drop n (a ++ (space ∷ b))) (add-one (length a)) ∙ one_after a
  where
    one_after : (a : List ℕ) → drop (suc (length a)) (a ++ (space ∷ b)) ≡ b
    one_after [] = refl
    one_after (c ∷ a) = one_after a

pub number-bytes : (w : List ℕ) → IsNumber w → AreNumberBytes w
number-bytes w k = subst AreNumberBytes (sym k.whole) k.bytes

pub two-utf8 : (front zone : List ℕ) → AreNumberBytes front → AreNumberBytes zone → IsUtf8 (front ++ (space ∷ zone))
two-utf8 front zone a b = IsUtf8-from_ascii (front ++ (space ∷ zone))
    (IsAscii-append front (space ∷ zone) (are_ascii front a) (IsAscii-cons space zone (omega arith) (are_ascii zone b)))

-- a canonical header is text
pub canonical-utf8 : (text : List ℕ) → is_canonical_header text ≡ true → IsUtf8 text
canonical-utf8 text e =
    let k = canonical_taken text e in
    subst IsUtf8 (sym k.whole) (two-utf8 k.front k.zone (number-bytes k.front (int-number k.front k.seconds k.is_seconds))
    (number-bytes k.zone (offset-number k.zone k.fields k.is_jiff_offset)))

pub small-minutes : (n : ℕ) → nat_lt (n % 3600 / 60) 60 ≡ true
small-minutes n = let h : n % 3600 / 60 < 60 = omega arith in grind (arith, nat_tests)

abbrev minus_zero_fields : OffsetFields
minus_zero_fields = record { sign = Minus; hours = 0; minutes = 0; seconds = None }

read-minus-zero : offset_fields (codes "-0000") ≡ Some minus_zero_fields
unfolding offset_fields read_sign skip_char read_two_digits last_pair
read-minus-zero = refl

-- an offset that is what its text says is not written `-0000`
no-minus-zero : (o : ℤ) → unsigned_abs o < 360000 → o ≡ offset_of (written_fields o)
    → bytes_eq (compact_offset_text o) (codes "-0000") ≡ false
no-minus-zero o h e = grind (arith, false-unless, bytes_eq-Decides, same_some, zone-read, read-minus-zero)

pub canonical-parts : (x front zone : List ℕ) → before_first is_space x ≡ front → after_first is_space x ≡ zone
    → is_decimal_text front ≡ true → is_canonical_offset zone ≡ true → is_canonical_header x ≡ true
canonical-parts x front zone e f d o = ap₂ (λ (a b : Bool). a && b) (ap is_decimal_text e ∙ d) (ap is_canonical_offset f ∙ o)

pub decimal-test : (w : List ℕ) (z : ℤ) → int_value w ≡ Some z → decimal_text z ≡ w → is_decimal_text w ≡ true
decimal-test w z e h = rw e ((bytes_eq-Decides (decimal_text z) w).1 h)

offset-test : (o : ℤ) → unsigned_abs o < 360000 → bytes_eq (compact_offset_text o) (codes "-0000") ≡ false
    → is_canonical_offset (compact_offset_text o) ≡ true
offset-test o h e = grind (arith, zone-read, small-minutes)

-- What is written is canonical, where it is read as the time that was written.
written-canonical : (t : Time) → header_time (decimal_text t.seconds ++ (space ∷ compact_offset_text t.offset)) ≡ Some t
    → unsigned_abs t.offset < 360000 → is_canonical_header (decimal_text t.seconds ++ (space ∷ compact_offset_text t.offset)) ≡ true
written-canonical t e h =
    let front = decimal_text t.seconds in
    let zone = compact_offset_text t.offset in
    let int = decimal-int t.seconds (header-fits (front ++ (space ∷ zone)) t e) in
    let fields = zone-read t.offset h in
    let bytes = number-bytes front (int-number front t.seconds int) in
    let offset : t.offset ≡ offset_of (written_fields t.offset) =
    ap (λ (t : Time). t.offset) (same_some t _ (sym e ∙ usual-header front zone t.seconds (written_fields t.offset) int fields)) in
    canonical-parts (front ++ (space ∷ zone)) front zone (front-of front zone bytes) (after-of front zone bytes)
    (decimal-test front t.seconds int refl) (offset-test t.offset h (no-minus-zero t.offset h offset))

written-taken : (t : Time) (text : List ℕ) → header_text t ≡ Some text
    → (unsigned_abs t.offset < 360000) × (decimal_text t.seconds ++ (space ∷ compact_offset_text t.offset) ≡ text)
unfolding header_text
written-taken t text e = grind (arith, guard, nat_tests)

pub comes_back_canonical : (text : List ℕ) → ComesBack text → is_canonical_header text ≡ true
comes_back_canonical text k = grind (arith, written-taken, written-canonical)

-- Which times are written alike.
abbrev pub whole_minutes : ℤ → ℕ
whole_minutes o = unsigned_abs o / 60

zone-of-minutes : (a b : ℤ) → int_lt a (pos 0) ≡ int_lt b (pos 0) → whole_minutes a ≡ whole_minutes b
    → compact_offset_text a ≡ compact_offset_text b
zone-of-minutes a b s m = grind (arith)

sign-back : (a b : Bool) → sign_for a ≡ sign_for b → a ≡ b
sign-back true false e = cc
sign-back false true e = cc
sign-back a b e = refl

minutes-of-fields : (a b : ℤ) → written_fields a ≡ written_fields b
    → (int_lt a (pos 0) ≡ int_lt b (pos 0)) × (whole_minutes a ≡ whole_minutes b)
minutes-of-fields a b e = grind (arith, sign-back)

pub alike_from : (t r : Time) → unsigned_abs t.offset < 360000 → unsigned_abs r.offset < 360000 → t.seconds ≡ r.seconds
    → int_lt t.offset (pos 0) ≡ int_lt r.offset (pos 0) → whole_minutes t.offset ≡ whole_minutes r.offset → header_text t ≡ header_text r
alike_from t r h k s n m = grind (arith, written-by, zone-of-minutes)

pub alike_to : (t r : Time) → FitsSigned w64 t.seconds → FitsSigned w64 r.seconds → unsigned_abs t.offset < 360000
    → unsigned_abs r.offset < 360000 → header_text t ≡ header_text r
    → (t.seconds ≡ r.seconds) × (int_lt t.offset (pos 0) ≡ int_lt r.offset (pos 0)) × (whole_minutes t.offset ≡ whole_minutes r.offset)
alike_to t r f g h k e =
    let a = decimal_text t.seconds in
    let b = decimal_text r.seconds in
    let x = compact_offset_text t.offset in
    let y = compact_offset_text r.offset in
    let same : a ++ (space ∷ x) ≡ b ++ (space ∷ y) =
    same_some (a ++ (space ∷ x)) (b ++ (space ∷ y)) (sym (written-by t h) ∙ e ∙ written-by r k) in
    let int_a = decimal-int t.seconds f in
    let int_b = decimal-int r.seconds g in
    let bytes_a = number-bytes a (int-number a t.seconds int_a) in
    let bytes_b = number-bytes b (int-number b r.seconds int_b) in
    let fronts : a ≡ b = sym (front-of a x bytes_a) ∙ ap (before_first is_space) same ∙ front-of b y bytes_b in
    let zones : x ≡ y = sym (after-of a x bytes_a) ∙ ap (after_first is_space) same ∙ after-of b y bytes_b in
    let fields : written_fields t.offset ≡ written_fields r.offset =
    same_some _ _ (sym (zone-read t.offset h) ∙ ap offset_fields zones ∙ zone-read r.offset k) in
    let parts = minutes-of-fields t.offset r.offset fields in
    (same_some t.seconds r.seconds (sym int_a ∙ ap int_value fronts ∙ int_b), parts.0, parts.1)

-- A written time is read.
pub back-to : (o : ℤ) → unsigned_abs o % 60 ≡ 0 → offset_of (written_fields o) ≡ o
back-to (pos n) h = grind (arith, ints)
back-to (negsuc n) h = grind (arith)

pub written_text_is_read : (t : Time) → FitsSigned w64 t.seconds → unsigned_abs t.offset < 360000 → unsigned_abs t.offset % 60 ≡ 0
    → IsSomeAnd (header_text t) (λ text. header_time text ≡ Some t)
written_text_is_read t f h m =
    let front = decimal_text t.seconds in
    let zone = compact_offset_text t.offset in
    let read : header_time (front ++ (space ∷ zone)) ≡ Some t =
    usual-header front zone t.seconds (written_fields t.offset) (decimal-int t.seconds f) (zone-read t.offset h)
    ∙ ap (λ (o : ℤ). Some (time_at t.seconds o)) (back-to t.offset m) in
    subst (λ (r : Option (List ℕ)). IsSomeAnd r (λ text. header_time text ≡ Some t)) (sym (written-by t h)) read

-- A text that is read as a time is canonical exactly where it is what that time is written as.
pub canonical_written : (text : List ℕ) (t : Time) → header_time text ≡ Some t → is_header_text_of t text ≡ is_canonical_header text
canonical_written text t e = grind (arith, bytes_eq-Decides, false-unless, comes_back_canonical, canonical_back, canonical_taken, same_some)

-- A text that is read as no time is not canonical.
pub no_time_not_canonical : (text : List ℕ) → header_time text ≡ None → false ≡ is_canonical_header text
no_time_not_canonical text e = sym (false-unless _ (λ c.
    let clash : None ≡ Some _ = sym e ∙ (canonical_back text (canonical_taken text c)).is_read in absurd cc))

-- what the kind of a header tells
canonical-is : (b : Bool) (time : Option Time) → Canonical ≡ kind_of b time → true ≡ b
canonical-is true time e = refl
canonical-is false (Some t) e = absurd cc
canonical-is false None e = absurd cc

lenient-is-not : (b : Bool) (time : Option Time) (t : Time) → Lenient t ≡ kind_of b time → false ≡ b
lenient-is-not true time t e = absurd cc
lenient-is-not false time t e = refl

none-is-not : (b : Bool) (time : Option Time) → NoHeader ≡ kind_of b time → false ≡ b
none-is-not true time e = absurd cc
none-is-not false time e = refl

pub kind_canonical : (text : List ℕ) → Canonical ≡ header_kind text → true ≡ is_canonical_header text
kind_canonical text e = canonical-is (is_canonical_header text) (header_time text) e

pub kind_lenient : (text : List ℕ) (t : Time) → Lenient t ≡ header_kind text → false ≡ is_canonical_header text
kind_lenient text t e = lenient-is-not (is_canonical_header text) (header_time text) t e

pub kind_none : (text : List ℕ) → NoHeader ≡ header_kind text → false ≡ is_canonical_header text
kind_none text e = none-is-not (is_canonical_header text) (header_time text) e
