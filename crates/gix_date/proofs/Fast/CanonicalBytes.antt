-- Canonical headers as nearly all are, by their bytes.
use Rattle.std.proofs.Common.{◌≡◌, ◌∙◌, ◌+◌, ◌-◌, ◌*◌, ◌<◌, ◌^◌, ℕ, Bool, true, false, List, [], ◌∷◌, ◌++◌, length, take, drop, refl, ap}
use Rattle.std.proofs.Common.{ap₂, sym, Some, arith, pos}
use Rattle.std.proofs.lemmas.Bool.{and_parts as both, false_from_ne_true as false-unless}
use Rattle.std.proofs.lemmas.Bool.Decides.{nat_tests}
use Rattle.std.proofs.lemmas.Fmt.{decimal-digits_value}
use Rattle.std.proofs.lemmas.List.{take-append-drop}
use Rattle.std.proofs.lemmas.Slice.Eq.{bytes_eq-Decides}
use Rattle.std.proofs.lemmas.Str.Parse.{digits_value_short}
use Rattle.std.specs.Char.{is_ascii_digit}
use Rattle.std.specs.List.{list_all}
use Rattle.std.specs.Prelude.{◌==◌, ◌&&◌, ◌||◌, not, nat_lt, codes}
use Rattle.std.specs.Str.{all_ascii_digits, bytes_eq}
use Rattle.std.specs.Str.Parse.{digits_value}
use Rattle.gix_date.specs.Text.Front.{skip_char}
use Rattle.gix_date.specs.Fields.Offsets.{offset_fields, read_sign, last_pair}
use Rattle.gix_date.specs.Header.Canonical.{is_canonical_header, is_canonical_offset, is_decimal_text}
use Rattle.gix_date.specs.Text.Characters.{space, plus, minus, digit_zero}
use Rattle.gix_date.specs.Text.Numbers.{int_value, read_two_digits}
use Rattle.gix_date.proofs.Header.HeaderLaws.{canonical-parts, decimal-test, front-of, after-of, number-bytes}
use Rattle.gix_date.proofs.Text.Ints.{own}
use Rattle.gix_date.proofs.Fast.FastHeaders.{int-number}
use Rattle.gix_date.proofs.Text.ShortDigits.{bare_int}
use Rattle.gix_date.specs.Header.CanonicalBytes.{are_usual_seconds, are_hours_and_minutes, is_usual_offset}
use Rattle.gix_date.proofs.Git.ClockParts.{all_digits as same-digits}

-- plain seconds are a number, and its decimal text
pub record AreSeconds (ds : List ℕ) : Type 0 where
  pub is_int : int_value ds ≡ Some (pos (digits_value 10 ds))
  pub is_decimal : is_decimal_text ds ≡ true

four : (a b c d : Bool) → (a && b && c && d) ≡ true → (a ≡ true) × (b ≡ true) × (c ≡ true) × (d ≡ true)
four true true true true h = (refl, refl, refl, refl)
four a b c d h = absurd cc

pub usual-seconds : (ds : List ℕ) → are_usual_seconds ds ≡ true → AreSeconds ds
unfolding are_usual_seconds
usual-seconds [] h = absurd cc
usual-seconds (c ∷ ds) h =
    let parts = four (is_ascii_digit c) (not (c == digit_zero)) (nat_lt (length ds) 18) (list_all is_ascii_digit ds) h in
    let digits : all_ascii_digits (c ∷ ds) ≡ true = ap₂ (λ (a b : Bool). a && b) parts.0 (sym (same-digits ds) ∙ parts.3) in
    let short : length ds < 18 = grind (arith, nat_tests, parts.2) in
    let small : digits_value 10 (c ∷ ds) < 10 ^ 18 = digits_value_short own (c ∷ ds) 18 digits (omega (arith, short)) in
    let int = bare_int (c ∷ ds) (digits_value 10 (c ∷ ds)) (omega arith) digits refl small in
    let written = decimal-digits_value own (c ∷ ds) digits (omega arith) (λ z. absurd (grind (arith, nat_tests, parts.1, z)))
    (omega (arith, small)) in
    record { is_int = int; is_decimal = decimal-test (c ∷ ds) (pos (digits_value 10 (c ∷ ds))) int written }

five : (a b c d e : Bool) → (a && b && c && d && e) ≡ true → (a ≡ true) × (b ≡ true) × (c ≡ true) × (d ≡ true) × (e ≡ true)
five true true true true true h = (refl, refl, refl, refl, refl)
five a b c d e h = absurd cc

minutes-below : (c d : ℕ) → is_ascii_digit c ≡ true → nat_lt c (digit_zero + 6) ≡ true → is_ascii_digit d ≡ true
    → nat_lt (10 * (c - 48) + (d - 48)) 60 ≡ true
minutes-below c d p q r = grind (arith, nat_tests)

ahead : (a b c d : ℕ) → are_hours_and_minutes a b c d ≡ true → is_canonical_offset (plus ∷ a ∷ b ∷ c ∷ d ∷ []) ≡ true
unfolding offset_fields read_sign skip_char read_two_digits last_pair
ahead a b c d h = grind (arith, five, minutes-below)

not-zero : (a b c d : ℕ) → not ((a == digit_zero) && (b == digit_zero)) ≡ true
    → bytes_eq (minus ∷ a ∷ b ∷ c ∷ d ∷ []) (codes "-0000") ≡ false
not-zero a b c d h = grind (arith, false-unless, bytes_eq-Decides)

-- an offset behind UTC
behind : (a b c d : ℕ) → are_hours_and_minutes a b c d ≡ true → not ((a == digit_zero) && (b == digit_zero)) ≡ true
    → is_canonical_offset (minus ∷ a ∷ b ∷ c ∷ d ∷ []) ≡ true
unfolding offset_fields read_sign skip_char read_two_digits last_pair
behind a b c d h some = grind (arith, five, minutes-below, not-zero)

-- a space, and such an offset
pub record IsOffsetBehindSpace (text : List ℕ) : Type 0 where
  pub zone : List ℕ
  pub whole : text ≡ space ∷ zone
  pub canonical : is_canonical_offset zone ≡ true

by-sign : (sign a b c d : ℕ) → are_hours_and_minutes a b c d ≡ true
    → ((sign == plus) || (sign == minus) && not ((a == digit_zero) && (b == digit_zero))) ≡ true
    → is_canonical_offset (sign ∷ a ∷ b ∷ c ∷ d ∷ []) ≡ true
by-sign sign a b c d h k = grind (arith, nat_tests, ahead, behind)

usual-offset : (text : List ℕ) → is_usual_offset text ≡ true → IsOffsetBehindSpace text
unfolding is_usual_offset
usual-offset (x ∷ s ∷ a ∷ b ∷ c ∷ d ∷ []) h = grind (arith, both, nat_tests, by-sign)
usual-offset text h = absurd cc

-- such seconds and such an offset are a canonical header
pub usual_canonical : (text front back : List ℕ) (n : ℕ) → front ≡ take n text → back ≡ drop n text → are_usual_seconds front ≡ true
    → is_usual_offset back ≡ true
    → is_canonical_header text ≡ true
usual_canonical text front back n e f h k =
    let seconds = usual-seconds front h in
    let offset = usual-offset back k in
    let bytes = number-bytes front (int-number front (pos (digits_value 10 front)) seconds.is_int) in
    let cut : text ≡ front ++ back = sym (take-append-drop n text) ∙ ap₂ (λ (a b : List ℕ). a ++ b) (sym e) (sym f) in
    let whole : text ≡ front ++ (space ∷ offset.zone) = cut ∙ ap (λ (t : List ℕ). front ++ t) offset.whole in
    ap is_canonical_header whole ∙ canonical-parts (front ++ (space ∷ offset.zone)) front offset.zone (front-of front offset.zone bytes)
    (after-of front offset.zone bytes) seconds.is_decimal offset.canonical
