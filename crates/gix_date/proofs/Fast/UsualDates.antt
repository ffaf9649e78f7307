-- Dates of fixed length are read by the family of their form, which is the first that holds them.
use Rattle.std.proofs.Common.{◌≡◌, ◌∙◌, ◌+◌, ◌-◌, ◌*◌, ◌≤◌, ◌%◌, ◌^◌, ℕ, ℤ, true, cond, List, [], ◌∷◌, length, map, get_or, ap, ap₂, sym}
use Rattle.std.proofs.Common.{arith, Some, None, inl, inr, ◌⊎◌, unsigned_abs, codes, w8, ltb, eqb, eqb-true, take, drop, zero, suc}
use Rattle.std.proofs.Common.{length-take-le, length-drop, take_all}
use Rattle.std.proofs.lemmas.Bool.Decides.{nat_tests}
use Rattle.std.proofs.lemmas.Simd.{mask_l-mod, tops_compared}
use Rattle.std.specs.Prelude.{nat_le}
use lib.Lanes.{mask_l, top, zip2}
use Rattle.gix_date.specs.Families.Usual.{AreAtMost, AreWithin, IsUsualOffset, SaysField, SaysYear, SaysDate, SaysClock}
use Rattle.gix_date.specs.Fields.DateOffsets.{compact_offset, strict_offset, jiff_offset, last_colon_pair}
use Rattle.gix_date.specs.Fields.FieldTexts.{IsDigit, IsField, IsYear}
use Rattle.gix_date.specs.Fields.Offsets.{offset_fields}
use Rattle.gix_date.specs.Text.Characters.{colon, minus}
use Rattle.gix_date.specs.Text.Front.{skip_char}
use Rattle.gix_date.specs.Text.Numbers.{read_two_digits}
use Rattle.gix_date.specs.declared.parsing.offset.OffsetFields.{OffsetFields}
use Rattle.gix_date.proofs.Fast.FastHeaders.{fields_at, sign-mark}
use Rattle.gix_date.proofs.Fast.TenDigits.{offset-of-pairs}
use Rattle.gix_date.proofs.Header.HeaderLaws.{abs-signed}
use Rattle.gix_date.proofs.Printing.ReadBack.{no-leap}

-- Lanes that are compared at once: where no bit is set, none of the first is below the second.
none-below : (ys xs : List ℕ) → mask_l (zip2 ltb xs ys) ≡ 0 → AreAtMost ys xs
unfolding AreAtMost
none-below (y ∷ ys) (x ∷ xs) e = (grind (arith, nat_tests, e), none-below ys xs (omega (arith, e)))
none-below ys xs e = tt

zip-short : (xs ys : List ℕ) → (length (zip2 ltb xs ys) ≤ length xs) × (length (zip2 ltb xs ys) ≤ length ys)
zip-short (x ∷ xs) (y ∷ ys) = let rest = zip-short xs ys in (omega (arith, rest.0), omega (arith, rest.1))
zip-short xs ys = (omega arith, omega arith)

abbrev below : ℕ → ℕ → ℕ
below a b = cond (ltb a b) 255 0

pub lanes-at-most : (xs ys : List ℕ) → (length xs ≤ 64) ⊎ (length ys ≤ 64) → mask_l (map (top 7) (zip2 below xs ys)) % 2 ^ 64 ≡ 0
    → AreAtMost ys xs
lanes-at-most xs ys small e =
    let short = zip-short xs ys in
    let within : length (zip2 ltb xs ys) ≤ 64 = elim small [ inl a ↦ omega (arith, a, short) | inr b ↦ omega (arith, b, short) ] in
    none-below ys xs (sym (ap (λ ms. mask_l ms % 2 ^ 64) (tops_compared w8 ltb xs ys) ∙ mask_l-mod (zip2 ltb xs ys) 64 within) ∙ e)

-- a block of bytes of which no bit says that one is above the other
pub block_at_most : (low high : List ℕ) (n : ℕ) → n ≤ length low → n ≤ 64
    → eqb (mask_l (map (top 7) (zip2 below (take n high) (take n low))) % 2 ^ 64) 0 ≡ true
    → AreAtMost (take n low) (take n high)
block_at_most low high n long small none =
    lanes-at-most (take n high) (take n low) (inr (omega (arith, small, length-take-le n low long))) (eqb-true _ _ none)

-- two blocks that cover a text are all of it
cover : (n j : ℕ) (xs ys : List ℕ) → j ≤ n → AreAtMost (take n xs) (take n ys) → AreAtMost (drop j xs) (drop j ys) → AreAtMost xs ys
unfolding AreAtMost
cover n zero xs ys h a b = b
cover (suc n) (suc j) (x ∷ xs) (y ∷ ys) h a b = (a.0, cover n j xs ys (omega (arith, h)) a.1 b)
cover zero (suc j) xs ys h a b = absurd (omega (arith, h))
cover (suc n) (suc j) xs ys h a b = tt

-- the end of a list, from a place on
abbrev from : ℕ → List ℕ → List ℕ
from j xs = take (length xs - j) (drop j xs)

both-blocks : (xs ys : List ℕ) (j : ℕ) → length xs ≡ length ys → j + 16 ≡ length ys → j ≤ 16
    → AreAtMost (take 16 xs) (take 16 ys) → AreAtMost (take 16 (from j xs)) (take 16 (from j ys)) → AreAtMost xs ys
both-blocks xs ys j same n small first last =
    let long : length (drop j ys) ≡ 16 = omega (arith, n, length-drop j ys) in
    let also : length (drop j xs) ≡ 16 = omega (arith, n, same, length-drop j xs) in
    let e = take_all (length xs - j) (drop j xs) (omega (arith, n, same, also)) in
    let f = take_all (length ys - j) (drop j ys) (omega (arith, n, long)) in
    let ends = rw (e, f, take_all 16 (drop j xs) (omega (arith, also)), take_all 16 (drop j ys) (omega (arith, long))) at last in
    cover 16 j xs ys small first ends

pub all_within : (low high text : List ℕ) → 16 ≤ length text → length text ≤ 32 → length low ≡ length text → length high ≡ length text
    → AreAtMost (take 16 low) (take 16 text) → AreAtMost (take 16 text) (take 16 high)
    → AreAtMost (take 16 (from (length text - 16) low)) (take 16 (from (length text - 16) text))
    → AreAtMost (take 16 (from (length text - 16) text)) (take 16 (from (length text - 16) high)) → AreWithin low high text
unfolding AreWithin
all_within low high text long short l h a b c d = (
  both-blocks low text (length text - 16) l (omega arith) (omega arith) a c,
  both-blocks text high (length text - 16) (sym h) (omega (arith, h)) (omega arith) b d,
)

pub exact : (c n : ℕ) → n ≤ c → c ≤ n → c ≡ n
exact c n l u = omega (arith, l, u)

digit : (c most : ℕ) → most ≤ 57 → 48 ≤ c → c ≤ most → IsDigit c
digit c most small l u = grind (arith, nat_tests, small, l, u)

-- two digits and four within their bounds
two-of : (a b n tens : ℕ) → tens ≤ 57 → SaysField a b n → AreWithin (48 ∷ 48 ∷ []) (tens ∷ 57 ∷ []) (a ∷ b ∷ [])
    → IsField (a ∷ b ∷ []) n × (n ≤ 10 * (tens - 48) + 9)
unfolding SaysField AreAtMost AreWithin
two-of a b n tens small read ((l, (k, _)), (u, (v, _))) = grind (arith, digit)

year-of : (a b c d n : ℕ) → SaysYear a b c d n → AreWithin (codes "0000") (codes "9999") (a ∷ b ∷ c ∷ d ∷ [])
    → IsYear (a ∷ b ∷ c ∷ d ∷ []) n × (n ≤ 9999)
unfolding SaysYear AreAtMost AreWithin
year-of a b c d n read ((k0, (k1, (k2, (k3, _)))), (u0, (u1, (u2, (u3, _))))) = grind (arith, digit)

-- ten bytes that look like a date, and eight that look like a clock
pub date_of : (t : List ℕ) (y m d : ℕ) → length t ≡ 10 → SaysYear (get_or t 0 0) (get_or t 1 0) (get_or t 2 0) (get_or t 3 0) y
    → SaysField (get_or t 5 0) (get_or t 6 0) m → SaysField (get_or t 8 0) (get_or t 9 0) d
    → SaysDate t (record { year = y; month = m; day = d })
unfolding SaysDate AreAtMost AreWithin
date_of (a ∷ b ∷ c ∷ e ∷ x ∷ f ∷ g ∷ z ∷ i ∷ j ∷ []) y m d n year month day
    ((k0, (k1, (k2, (k3, (k4, (k5, (k6, (k7, (k8, (k9, _)))))))))), (u0, (u1, (u2, (u3, (u4, (u5, (u6, (u7, (u8, (u9, _))))))))))) =
    let of_year = year-of a b c e y year ((k0, (k1, (k2, (k3, tt)))), (u0, (u1, (u2, (u3, tt))))) in
    let of_month = two-of f g m 49 (omega arith) month ((k5, (k6, tt)), (u5, (u6, tt))) in
    let of_day = two-of i j d 51 (omega arith) day ((k8, (k9, tt)), (u8, (u9, tt))) in (
      record {
        year = a ∷ b ∷ c ∷ e ∷ [];
        month = f ∷ g ∷ [];
        day = i ∷ j ∷ [];
        whole = ap₂ (λ (p q : ℕ). a ∷ b ∷ c ∷ e ∷ p ∷ f ∷ g ∷ q ∷ i ∷ j ∷ []) (exact x minus k4 u4) (exact z minus k7 u7);
        is_year = of_year.0;
        is_month = of_month.0;
        is_day = of_day.0;
      },
      record { year = of_year.1; month = omega (arith, of_month.1); day = omega (arith, of_day.1) },
    )
date_of t y m d n year month day h = absurd (omega (arith, n))

pub clock_of : (t : List ℕ) (h m s : ℕ) → length t ≡ 8 → SaysField (get_or t 0 0) (get_or t 1 0) h
    → SaysField (get_or t 3 0) (get_or t 4 0) m
    → SaysField (get_or t 6 0) (get_or t 7 0) s → SaysClock t (record { hour = h; minute = m; second = s })
unfolding SaysClock AreAtMost AreWithin
clock_of (a ∷ b ∷ x ∷ c ∷ d ∷ y ∷ e ∷ f ∷ []) h m s n hour minute second
    ((k0, (k1, (k2, (k3, (k4, (k5, (k6, (k7, _)))))))), (u0, (u1, (u2, (u3, (u4, (u5, (u6, (u7, _))))))))) =
    let of_hour = two-of a b h 50 (omega arith) hour ((k0, (k1, tt)), (u0, (u1, tt))) in
    let of_minute = two-of c d m 53 (omega arith) minute ((k3, (k4, tt)), (u3, (u4, tt))) in
    let of_second = two-of e f s 53 (omega arith) second ((k6, (k7, tt)), (u6, (u7, tt))) in (
      record {
        hour = a ∷ b ∷ [];
        minute = c ∷ d ∷ [];
        second = e ∷ f ∷ [];
        seconds = s;
        whole = ap₂ (λ (p q : ℕ). a ∷ b ∷ p ∷ c ∷ d ∷ q ∷ e ∷ f ∷ []) (exact x colon k2 u2) (exact y colon k5 u5);
        is_hour = of_hour.0;
        is_minute = of_minute.0;
        is_second = of_second.0;
        without_leap = sym (no-leap s (omega (arith, of_second.1)));
      },
      record { hour = omega (arith, of_hour.1); minute = omega (arith, of_minute.1); second = omega (arith, of_second.1) },
    )
clock_of t h m s n hour minute second k = absurd (omega (arith, n))

-- the offset is that of its fields
module _ {gap text : List ℕ} {o : ℤ} (h : IsUsualOffset gap text o) where
  abbrev pub said_fields : OffsetFields
  said_fields = fields_at h.sign h.hours h.minutes None

  allowed : jiff_offset said_fields ≡ Some o
  allowed =
      let hours : nat_le h.hours 25 ≡ true = grind (arith, nat_tests, h.within_hours) in
      let minutes : nat_le h.minutes 59 ≡ true = grind (arith, nat_tests, h.within_minutes) in
      rw (hours, minutes) (ap (λ (o : ℤ). Some o) (sym h.is))

  pub within-a-day : unsigned_abs o ≤ 86340
  within-a-day =
      let distance : unsigned_abs o ≡ 3600 * h.hours + 60 * h.minutes + 0 = ap unsigned_abs h.is ∙ abs-signed h.sign _ in
      omega (arith, distance, h.within_hours, h.within_minutes)

compact-read : (text : List ℕ) (o : ℤ) (h : IsUsualOffset [] text o) → offset_fields text ≡ Some (said_fields h)
compact-read text o h = ap offset_fields h.whole
    ∙ offset-of-pairs h.mark h.h0 h.h1 h.m0 h.m1 h.hours h.minutes h.sign h.is_mark h.are_hours h.are_minutes

pub compact-usual : (text : List ℕ) (o : ℤ) → IsUsualOffset [] text o → compact_offset text ≡ Some o
unfolding compact_offset
compact-usual text o h = rw (compact-read text o h) (allowed h)

pub strict-usual : (text : List ℕ) (o : ℤ) → IsUsualOffset (colon ∷ []) text o → strict_offset text ≡ Some o
unfolding strict_offset read_two_digits last_colon_pair skip_char
strict-usual text o h =
    ap strict_offset h.whole
    ∙ rw (sign-mark h.mark h.sign (h.h0 ∷ h.h1 ∷ colon ∷ h.m0 ∷ h.m1 ∷ []) h.is_mark, h.are_hours, h.are_minutes) (allowed h)
