-- Pairs of digits, several at once.
use Rattle.std.proofs.Common.{◌≡◌, ◌∙◌, ℕ, ◌+◌, ◌-◌, ◌*◌, ◌/◌, ◌<◌, ◌≤◌, ◌%◌, ◌^◌, Bool, true, false, cond, leb, leb-false, List, [], ◌∷◌}
use Rattle.std.proofs.Common.{map, length, drop-cons, get_or, replicate, refl, sym, ap, subst, arith, Some, Fits, w8, suc, zero}
use Rattle.std.proofs.lemmas.Bool.{and_parts as both}
use Rattle.std.proofs.lemmas.Bool.Decides.{nat_tests}
use Rattle.std.proofs.lemmas.List.{length-map, get_or-map, get_or-take}
use Rattle.std.proofs.lemmas.Option.{cond_some}
use Rattle.std.proofs.lemmas.Simd.{length-chunk, map-map, mask_l-mod, none_from_empty_mask, tops_compared, zip2_splat, zip2_splat_left}
use Rattle.std.proofs.lemmas.Simd.{get_or_wider, Each1-from_get_or}
use Rattle.std.specs.Char.{is_ascii_digit, digit_value}
use Rattle.std.specs.Str.{all_ascii_digits}
use Rattle.std.specs.Str.Parse.{digits_value}
use Rattle.gix_date.specs.Text.Numbers.{AreDigitPairs, IsPairAt, two_digit_value}
use Rattle.gix_date.proofs.Text.ShortDigits.{digit_is}
use lib.Lanes.{chunk, digits_l, mask_l, number_l, top, zip2}

abbrev wrapping_sub : ℕ → ℕ → ℕ
wrapping_sub a b = (a + (256 - b)) % 256

-- what a lane holds: the digit's number, and of another byte 10 or more
abbrev lane_of : ℕ → ℕ
lane_of b = wrapping_sub b 48

abbrev pub is_other : ℕ → Bool
is_other b = leb 10 (lane_of b)

abbrev at_least : ℕ → ℕ → ℕ
at_least a b = cond (leb a b) 255 0

-- the lanes of the first n bytes
abbrev pub lanes : ℕ → List ℕ → List ℕ
lanes n bytes = zip2 wrapping_sub (chunk 0 n bytes) (replicate n 48)

-- the bits of those that are no digits
abbrev pub other_bits : ℕ → List ℕ → ℕ
other_bits n bytes = mask_l (map (top 7) (zip2 at_least (replicate n 10) (lanes n bytes))) % 2 ^ 64

lanes-are : (n : ℕ) (bytes : List ℕ) → n ≤ length bytes → lanes n bytes ≡ map lane_of (chunk 0 n bytes)
lanes-are n bytes room = zip2_splat wrapping_sub (chunk 0 n bytes) n 48 (length-chunk 0 n bytes (omega (arith, room)))

pub other-bits : (n : ℕ) (bytes : List ℕ) → n ≤ length bytes → n ≤ 64 → other_bits n bytes ≡ mask_l (map is_other (chunk 0 n bytes))
other-bits n bytes room few =
    let block = chunk 0 n bytes in
    let long : length block ≡ n = length-chunk 0 n bytes (omega (arith, room)) in
    let less = map lane_of block in
    ap (λ ms. mask_l ms % 2 ^ 64)
    (tops_compared w8 leb (replicate n 10) (lanes n bytes) ∙ ap (zip2 leb (replicate n 10)) (lanes-are n bytes room)
    ∙ zip2_splat_left leb 10 n less (length-map block lane_of ∙ long) ∙ map-map (leb 10) lane_of block)
    ∙ mask_l-mod (map is_other block) 64 (omega (arith, few, long, length-map block is_other))

pub digit : (b : ℕ) → b < 256 → is_other b ≡ false → is_ascii_digit b ≡ true
digit b small h = let low : lane_of b < 10 = leb-false 10 (lane_of b) h in grind (arith, nat_tests, low)

-- what a lane of 16 bits holds, after the weights
abbrev weighted : ℕ → ℕ
weighted n = n * 2561 % 65536 / 256

-- the numbers of the first h pairs
abbrev pub numbers_in : ℕ → ℕ → List ℕ → List ℕ
numbers_in n h bytes = map weighted (digits_l 65536 h (number_l 256 (lanes n bytes)))

two-lanes : (ds : List ℕ) (i : ℕ) → i + 1 < length ds → number_l 256 (chunk i 2 ds) ≡ get_or ds i 0 + 256 * get_or ds (i + 1) 0
two-lanes ds i within = grind (arith, drop-cons)

weigh : (a b : ℕ) → is_ascii_digit a ≡ true → is_ascii_digit b ≡ true → weighted (lane_of a + 256 * lane_of b) ≡ 10 * (a - 48) + (b - 48)
weigh a b p q = grind (arith, nat_tests)

-- the number of a pair of digits
pub pair_of_digits : (n h : ℕ) (bytes : List ℕ) (k : ℕ) → n ≤ length bytes → k < h → 2 * k + 1 < n
    → is_ascii_digit (get_or bytes (2 * k) 0) ≡ true → is_ascii_digit (get_or bytes (2 * k + 1) 0) ≡ true
    → IsPairAt bytes (numbers_in n h bytes) k
pair_of_digits n h bytes k room l within first second =
    let i = 2 * k in
    let block = chunk 0 n bytes in
    let ds = map lane_of block in
    let a = get_or bytes i 0 in
    let b = get_or bytes (i + 1) 0 in
    let wide : length block ≡ n = length-chunk 0 n bytes (omega (arith, room)) in
    let long : length ds ≡ n = length-map block lane_of ∙ wide in
    let small = Each1-from_get_or (λ (x : ℕ). x < 256) ds 0
    (λ j in_ds. subst (λ (x : ℕ). x < 256) (sym (get_or-map lane_of block j 0 0 (omega (arith, wide, long, in_ds)))) (omega arith)) in
    let one : get_or ds i 0 ≡ lane_of a = get_or-map lane_of block i 0 0 (omega (arith, wide, within))
    ∙ ap lane_of (get_or-take n bytes i 0 (omega (arith, within))) in
    let two : get_or ds (i + 1) 0 ≡ lane_of b = get_or-map lane_of block (i + 1) 0 0 (omega (arith, wide, within))
    ∙ ap lane_of (get_or-take n bytes (i + 1) 0 within) in
    let lane : get_or (digits_l 65536 h (number_l 256 ds)) k 0 ≡ lane_of a + 256 * lane_of b =
    get_or_wider 256 2 65536 h ds k refl small l ∙ two-lanes ds i (omega (arith, long, within)) ∙ omega (arith, one, two) in
    let value : get_or (map weighted (digits_l 65536 h (number_l 256 ds))) k 0 ≡ 10 * (a - 48) + (b - 48) =
    get_or-map weighted (digits_l 65536 h (number_l 256 ds)) k 0 0 (omega (arith, l, many h (number_l 256 ds))) ∙ ap weighted lane
    ∙ weigh a b first second in
    rw (first, second) (ap (λ (m : ℕ). Some m)
    (sym value ∙ ap (λ (t : List ℕ). get_or (map weighted (digits_l 65536 h (number_l 256 t))) k 0) (sym (lanes-are n bytes room))))
  where
    many : (h x : ℕ) → length (digits_l 65536 h x) ≡ h
    many zero x = refl
    many (suc h) x = ap suc (many h (x / 65536))

-- the first four pairs of bytes of which none is no digit
pub four_at : (bytes : List ℕ) → 8 ≤ length bytes → ((k : ℕ) → Fits w8 (get_or bytes k 0)) → other_bits 8 bytes ≡ 0
    → AreDigitPairs 4 bytes (numbers_in 8 4 bytes)
four_at bytes room fits e k l =
    let none : mask_l (map is_other (chunk 0 8 bytes)) ≡ 0 = sym (other-bits 8 bytes room (omega arith)) ∙ e in
    let each = λ (i : ℕ) (within : i < 8). digit (get_or bytes i 0) (fits i).fits
    (none_from_empty_mask is_other bytes 0 8 0 (omega (arith, room)) none i (omega arith) (omega (arith, within))) in
    pair_of_digits 8 4 bytes k room l (omega (arith, l)) (each (2 * k) (omega (arith, l))) (each (2 * k + 1) (omega (arith, l)))

-- what a pair's number says of its digits
pub record IsPairOf (a b n : ℕ) : Type 0 where
  pub first : is_ascii_digit a ≡ true
  pub second : is_ascii_digit b ≡ true
  pub value : 10 * digit_value a + digit_value b ≡ n
  pub small : n < 100

pub pair-of : (a b n : ℕ) → two_digit_value a b ≡ Some n → IsPairOf a b n
pair-of a b n e = grind (arith, cond_some, both, digit_is, nat_tests)

-- what five numbers of pairs come to
abbrev pub five_pairs : ℕ → ℕ → ℕ → ℕ → ℕ → ℕ
five_pairs p q r s t = 100 * (100 * (100 * (100 * p + q) + r) + s) + t

-- ten digits, by their five pairs
pub record AreTen (ds : List ℕ) (n : ℕ) : Type 0 where
  pub digits : all_ascii_digits ds ≡ true
  pub value : n ≡ digits_value 10 ds
  pub small : n < 10 ^ 18

pub ten-of : (a b c d e f g h i j p q r s t : ℕ) → IsPairOf a b p → IsPairOf c d q → IsPairOf e f r → IsPairOf g h s → IsPairOf i j t
    → AreTen (a ∷ b ∷ c ∷ d ∷ e ∷ f ∷ g ∷ h ∷ i ∷ j ∷ []) (five_pairs p q r s t)
ten-of a b c d e f g h i j p q r s t u v w x y = grind (arith)

-- the same of a list of ten
pub ten-from : (ds ps : List ℕ) (t : ℕ) → length ds ≡ 10 → AreDigitPairs 4 ds ps → two_digit_value (get_or ds 8 0) (get_or ds 9 0) ≡ Some t
    → AreTen ds (five_pairs (get_or ps 0 0) (get_or ps 1 0) (get_or ps 2 0) (get_or ps 3 0) t)
ten-from (a ∷ b ∷ c ∷ d ∷ e ∷ f ∷ g ∷ h ∷ i ∷ j ∷ []) ps t ten are last =
    ten-of a b c d e f g h i j (get_or ps 0 0) (get_or ps 1 0) (get_or ps 2 0) (get_or ps 3 0) t
    (pair-of a b (get_or ps 0 0) (are 0 (omega arith))) (pair-of c d (get_or ps 1 0) (are 1 (omega arith)))
    (pair-of e f (get_or ps 2 0) (are 2 (omega arith))) (pair-of g h (get_or ps 3 0) (are 3 (omega arith))) (pair-of i j t last)
ten-from ds ps t ten are last = absurd (omega (arith, ten))
