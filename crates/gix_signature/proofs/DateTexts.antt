-- A written date: decimal digits, a space, a sign and four digits. What C, `git fsck` and Git read of it.
use Rattle.std.proofs.Common.{◌≡◌, ◌∙◌, ℕ, ◌+◌, ◌*◌, ◌/◌, ◌%◌, ◌^◌, ◌<◌, ◌≤◌, Bool, true, false, cond, not, ◌&&◌, ◌||◌, ◌==◌, List, [], ◌∷◌}
use Rattle.std.proofs.Common.{◌++◌, length, take, drop, Some, None, Ok, ℤ, pos, negsuc, neg_ℤ, unsigned_abs, zero, suc, refl, ap, ap₂, sym}
use Rattle.std.proofs.Common.{arith}
use Rattle.std.proofs.Math.Seq.{take-append_seam, drop-append_seam}
use Rattle.std.proofs.lemmas.Bool.{and_from, and_parts}
use Rattle.std.proofs.lemmas.Bool.Decides.{nat_tests}
use Rattle.std.proofs.lemmas.Fmt.{decimal_by_steps, decimal_is_IsNumeral}
use Rattle.std.proofs.lemmas.List.{take_all}
use Rattle.std.proofs.lemmas.Int.{ints}
use Rattle.std.proofs.lemmas.Str.{digit_value_digit}
use Rattle.std.specs.Char.{is_ascii_digit, digit_value}
use Rattle.std.specs.Fmt.{decimal}
use Rattle.std.specs.List.{list_all, prefix_len, take_while}
use Rattle.std.specs.Option.{option_map_or}
use Rattle.std.specs.Prelude.{nat_lt, int_lt, if◌then◌else◌}
use Rattle.std.specs.Str.Parse.{digits_value, signed_digits_value}
use Rattle.gix_date.proofs.Header.HeaderLaws.{is-digit}
use Rattle.gix_date.proofs.Text.AsciiCuts.{all-append}
use Rattle.gix_date.specs.Text.Characters.{is_space, plus, minus}
use Rattle.gix_date.specs.Text.Numbers.{two_digits}
use Rattle.gix_date.specs.Fields.Offsets.{compact_offset_text, offset_sign, hours_and_minutes}
use Rattle.gix_signature.specs.Ident.Bytes.{is_blank, is_white, is_minus, is_sign}
use Rattle.gix_signature.specs.Ident.Texts.{without_front, begins_with}
use Rattle.gix_signature.specs.Ident.Parts.{date_parts, after_seconds, offset_at_front, begins_with_offset}
use Rattle.gix_signature.specs.Ident.Times.{c_number, c_value, number_at_front, without_sign, too_many_seconds, kept_offset, least_offset}
use Rattle.gix_signature.specs.Ident.Times.{greatest_offset, minutes_told, with_sign_of, time_of_git, git_time}
use Rattle.gix_signature.specs.Ident.Laws.{in_minutes}
use Rattle.gix_signature.specs.Ident.Fsck.{has_date_fault, is_zero, is_fsck_zone}
use Rattle.gix_signature.specs.declared.fsck.FsckId.{FsckId}
use Rattle.gix_signature.specs.declared.fsck.FsckId.TheVariants.{NulInHeader, MissingNameBeforeEmail, BadName, MissingEmail}
use Rattle.gix_signature.specs.declared.fsck.FsckId.TheVariants.{MissingSpaceBeforeEmail, BadEmail, MissingSpaceBeforeDate, ZeroPaddedDate}
use Rattle.gix_signature.specs.declared.fsck.FsckId.TheVariants.{BadDateOverflow, BadDate, BadTimezone}
use Rattle.gix_signature.proofs.Idents.Shown.{run-len, run-all}
use Rattle.gix_signature.proofs.Texts.{add-one-front}

-- the digits of a number: a `0` at the front is all
pub record AreDecimal (n : ℕ) (text : List ℕ) : Type 0 where
  pub first : ℕ
  pub rest : List ℕ
  pub whole : text ≡ first ∷ rest
  pub digit : is_ascii_digit first ≡ true
  pub digits : list_all is_ascii_digit rest ≡ true
  pub alone : is_zero first ≡ true → (n ≡ 0) × (rest ≡ [])

one-digit : (n : ℕ) → n < 10 → AreDecimal n ((48 + n) ∷ [])
one-digit n h = grind (arith, is-digit, nat_tests)

digit-more : (n : ℕ) (ds : List ℕ) → 10 ≤ n → AreDecimal (n / 10) ds → AreDecimal n (ds ++ ((48 + n % 10) ∷ []))
digit-more n ds h k = grind (arith, all-append, and_from, is-digit)

pub are-decimal : (n : ℕ) → n < 2 ^ 64 → AreDecimal n (decimal n)
are-decimal = decimal_by_steps AreDecimal one-digit digit-more

-- what a digit and a sign are not
no-white : (c : ℕ) → is_ascii_digit c ≡ true → is_white c ≡ false
no-white c h = grind (arith, nat_tests, h)

no-blank : (c : ℕ) → is_ascii_digit c ≡ true → is_blank c ≡ false
no-blank c h = grind (arith, nat_tests, h)

no-sign : (c : ℕ) → is_ascii_digit c ≡ true → is_sign c ≡ false
no-sign c h = grind (arith, nat_tests, h)

no-minus : (c : ℕ) → is_ascii_digit c ≡ true → is_minus c ≡ false
no-minus c h = grind (arith, nat_tests, h)

sign-no-blank : (c : ℕ) → is_sign c ≡ true → is_blank c ≡ false
sign-no-blank c h = grind (arith, nat_tests, h)

-- a date: a digit and more, a space, a sign and digits
pub record IsDate (n d : ℕ) (ds : List ℕ) (s : ℕ) (zs : List ℕ) : Type 0 where
  pub digit : is_ascii_digit d ≡ true
  pub digits : list_all is_ascii_digit ds ≡ true
  pub alone : is_zero d ≡ true → ds ≡ []
  pub value : digits_value 10 (d ∷ ds) ≡ n
  pub small : n < too_many_seconds
  pub sign : is_sign s ≡ true
  pub zone : list_all is_ascii_digit zs ≡ true
  pub some : begins_with is_ascii_digit zs ≡ true

front-stays : (p : ℕ → Bool) (c : ℕ) (xs : List ℕ) → p c ≡ false → without_front p (c ∷ xs) ≡ c ∷ xs
front-stays p c xs h = ap (λ b. drop (cond b (1 + prefix_len p xs) 0) (c ∷ xs)) h

pub front-more : (p : ℕ → Bool) (c : ℕ) (xs : List ℕ) → p c ≡ true → without_front p (c ∷ xs) ≡ without_front p xs
front-more p c xs h = grind (arith, add-one-front)

module _ (n d : ℕ) (ds : List ℕ) (s : ℕ) (zs : List ℕ) (is : IsDate n d ds s zs) where
  abbrev zone : List ℕ
  zone = s ∷ zs

  abbrev date : List ℕ
  date = d ∷ (ds ++ (32 ∷ zone))

  all-digits : list_all is_ascii_digit (d ∷ ds) ≡ true
  all-digits = and_from (is_ascii_digit d) (list_all is_ascii_digit ds) is.digit is.digits

  run : prefix_len is_ascii_digit date ≡ length (d ∷ ds)
  run = run-len is_ascii_digit (d ∷ ds) zone 32 all-digits refl

  taken : take_while is_ascii_digit date ≡ d ∷ ds
  taken = ap (λ k. take k date) run ∙ take-append_seam (d ∷ ds) (32 ∷ zone)

  left : without_front is_ascii_digit date ≡ 32 ∷ zone
  left = ap (λ k. drop k date) run ∙ drop-append_seam (d ∷ ds) (32 ∷ zone)

  unsigned : without_sign date ≡ date
  unsigned = ap (λ b. cond b (drop 1 date) date) (no-sign d is.digit)

  kept : c_value false n ≡ n
  kept = let fits : nat_lt n 18446744073709551616 ≡ true = grind (arith, nat_tests, is.small) in
      ap (λ b. cond b n 18446744073709551615) fits

  -- the number that C reads
  pub number : c_number date ≡ Some (n, 32 ∷ zone)
  unfolding c_number
  number =
      ap number_at_front (front-stays is_white d (ds ++ (32 ∷ zone)) (no-white d is.digit))
      ∙ ap₂ (λ m ys. cond (begins_with is_ascii_digit ys)
      (Some (c_value m (digits_value 10 (take_while is_ascii_digit ys)), without_front is_ascii_digit ys)) None)
      (no-minus d is.digit) unsigned
      ∙ ap (λ b. cond b (Some (c_value false (digits_value 10 (take_while is_ascii_digit date)), without_front is_ascii_digit date)) None)
      is.digit
      ∙ ap₂ (λ xs ys. Some (c_value false (digits_value 10 xs), ys)) taken left
      ∙ ap (λ k. Some (c_value false k, 32 ∷ zone)) is.value
      ∙ ap (λ k. Some (k, 32 ∷ zone)) kept

  -- fsck's faults of it, with four digits of the offset
  unpadded : (b : Bool) → is_zero d ≡ b → (b && not (begins_with is_space (ds ++ (32 ∷ zone)))) ≡ false
  unpadded true e = ap (λ xs. not (begins_with is_space (xs ++ (32 ∷ zone)))) (is.alone e)
  unpadded false e = refl

  five : length zs ≡ 4 → is_fsck_zone zone ≡ true
  five four = and_from (is_sign s && (length zone == 5)) (list_all is_ascii_digit zs)
      (and_from (is_sign s) (length zone == 5) is.sign (grind (arith, nat_tests, four))) is.zone

  pub no-date-fault : length zs ≡ 4 → (id : FsckId) → has_date_fault date id ≡ false
  no-date-fault four ZeroPaddedDate = unpadded (is_zero d) refl
  no-date-fault four BadDateOverflow =
      let few : nat_lt n too_many_seconds ≡ true = grind (arith, nat_tests, is.small) in
      ap (λ o. option_map_or (λ (r : ℕ × List ℕ). not (nat_lt r.0 too_many_seconds)) o false) number ∙ ap not few
  no-date-fault four BadDate = ap (λ o. not (option_map_or (λ (r : ℕ × List ℕ). begins_with is_space r.1) o false)) number
  no-date-fault four BadTimezone =
      ap (λ o. not (is_fsck_zone (option_map_or (λ (r : ℕ × List ℕ). drop 1 r.1) o date))) number ∙ ap not (five four)
  no-date-fault four NulInHeader = refl
  no-date-fault four MissingNameBeforeEmail = refl
  no-date-fault four BadName = refl
  no-date-fault four MissingEmail = refl
  no-date-fault four MissingSpaceBeforeEmail = refl
  no-date-fault four BadEmail = refl
  no-date-fault four MissingSpaceBeforeDate = refl

  -- what Git shows of it
  pub zone-next : after_seconds date ≡ zone
  zone-next = ap (λ ys. without_front is_blank ys) left ∙ front-more is_blank 32 zone refl
      ∙ front-stays is_blank s zs (sign-no-blank s is.sign)

  has-zone : begins_with_offset zone ≡ true
  has-zone = and_from (is_sign s) (begins_with is_ascii_digit zs) is.sign is.some

  all-zone : offset_at_front zone ≡ zone
  all-zone = ap (λ k. take (1 + k) zone) (run-all is_ascii_digit zs is.zone) ∙ take_all (1 + length zs) zone (omega arith)

  pub parts : date_parts date ≡ Some (record { seconds = d ∷ ds; offset = zone })
  unfolding date_parts
  parts =
      ap₂ (λ b ys.
      cond (b && begins_with_offset ys) (Some (record { seconds = take_while is_ascii_digit date; offset = offset_at_front ys })) None)
      is.digit zone-next
      ∙ ap (λ b. cond b (Some (record { seconds = take_while is_ascii_digit date; offset = offset_at_front zone })) None) has-zone
      ∙ ap₂ (λ xs ys. Some (record { seconds = xs; offset = ys })) taken all-zone

  pub stays : without_front is_blank date ≡ date
  stays = front-stays is_blank d (ds ++ (32 ∷ zone)) (no-blank d is.digit)

-- Two pairs of digits, and what they write.
pub pair-digits : (n : ℕ) → n < 100 → list_all is_ascii_digit (two_digits n) ≡ true
pair-digits n h = grind (arith, and_from, is-digit)

pub digit-value : (k : ℕ) → k < 10 → digit_value (48 + k) ≡ k
digit-value k h = let v = digit_value_digit (48 + k) (omega arith, omega arith) in omega (arith, v)

pub pairs-value : (h m : ℕ) → h < 100 → m < 100 → digits_value 10 (two_digits h ++ two_digits m) ≡ 100 * h + m
pairs-value h m a b = grind (arith, digit-value)

-- The time of a written offset.
pub sign-value : (b : Bool) (ds : List ℕ)
    → signed_digits_value 10 ((if b then minus else plus) ∷ ds) ≡ cond b (neg_ℤ (pos (digits_value 10 ds))) (pos (digits_value 10 ds))
sign-value true ds = refl
sign-value false ds = refl

not-below : (z : ℤ) → unsigned_abs z < 10000 → int_lt z least_offset ≡ false
not-below (pos k) h = grind (arith, ints)
not-below (negsuc k) h = grind (arith, ints, h)

not-above : (z : ℤ) → unsigned_abs z < 10000 → int_lt greatest_offset z ≡ false
not-above (pos k) h = grind (arith, ints, h)
not-above (negsuc k) h = grind (arith, ints)

pub kept-small : (z : ℤ) → unsigned_abs z < 10000 → kept_offset z ≡ z
kept-small z h = ap₂ (λ a b. cond (a || b) (pos 0) z) (not-below z h) (not-above z h)

told-small : (s z : ℤ) (kept : Bool) → unsigned_abs z < 10000 → time_of_git (record { seconds = s; offset = z; minus_zero = kept })
    ≡ Ok (record { seconds = s; offset = with_sign_of z (60 * minutes_told (unsigned_abs z)) })
unfolding time_of_git
told-small s z kept h = grind (arith, nat_tests)

signed-alike : (b : Bool) (n m : ℕ) → (n ≡ 0 → m ≡ 0) → with_sign_of (cond b (neg_ℤ (pos n)) (pos n)) m ≡ cond b (neg_ℤ (pos m)) (pos m)
signed-alike false n m h = let no : int_lt (pos n) (pos 0) ≡ false = grind (arith, ints) in ap (λ b. cond b (neg_ℤ (pos m)) (pos m)) no
signed-alike true zero m h = rw (h refl) refl
signed-alike true (suc k) m h = refl

pub abs-alike : (b : Bool) (n : ℕ) → unsigned_abs (cond b (neg_ℤ (pos n)) (pos n)) ≡ n
abs-alike true zero = refl
abs-alike true (suc k) = refl
abs-alike false n = refl

-- minutes of an offset, as its decimal number tells them
minutes-are : (n : ℕ) → 60 * minutes_told (100 * (n / 3600) + n % 3600 / 60) ≡ 60 * (n / 60)
minutes-are n = omega arith

-- the time of a number with its sign, of that many seconds
time-at : (n told m : ℕ) (b kept : Bool) → told < 10000 → 60 * minutes_told told ≡ m
    → time_of_git (record { seconds = pos n; offset = kept_offset (cond b (neg_ℤ (pos told)) (pos told)); minus_zero = kept })
    ≡ Ok (record { seconds = pos n; offset = cond b (neg_ℤ (pos m)) (pos m) })
time-at n told m b kept small minutes = grind (arith, abs-alike, kept-small, told-small, signed-alike)

pub time-is : (n : ℕ) (o : ℤ) (ds : List ℕ) → n < too_many_seconds → unsigned_abs o < 360000 → digits_value 10 ds ≡ n
    → time_of_git (git_time (record { seconds = ds; offset = compact_offset_text o }))
    ≡ Ok (in_minutes (record { seconds = pos n; offset = o }))
unfolding git_time
time-is n o ds small short value = grind (arith, nat_tests, sign-value, pairs-value, time-at, minutes-are)

-- a number and an offset, written as a date
pub date-is : (n : ℕ) (o : ℤ) (k : AreDecimal n (decimal n)) → n < too_many_seconds → unsigned_abs o < 360000
    → IsDate n k.first k.rest (offset_sign o) (hours_and_minutes (unsigned_abs o))
date-is n o k small short =
    let m = unsigned_abs o in
    record {
      digit = k.digit;
      digits = k.digits;
      alone = λ z. (k.alone z).1;
      value = ap (λ xs. digits_value 10 xs) (sym k.whole) ∙ (decimal_is_IsNumeral n (omega (arith, small))).1;
      small = small;
      sign = a-sign (int_lt o (pos 0));
      zone = all-append is_ascii_digit (two_digits (m / 3600)) (two_digits (m % 3600 / 60)) (pair-digits (m / 3600) (omega arith))
          (pair-digits (m % 3600 / 60) (omega arith));
      some = (and_parts (is_ascii_digit (48 + m / 3600 / 10)) _ (pair-digits (m / 3600) (omega arith))).0;
    }
  where
    a-sign : (b : Bool) → is_sign (if b then minus else plus) ≡ true
    a-sign true = refl
    a-sign false = refl
