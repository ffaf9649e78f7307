-- Header texts as nearly all are, by their pairs of digits.
use Rattle.std.proofs.Common.{◌≡◌, ℕ, ℤ, pos, ◌+◌, ◌-◌, ◌*◌, ◌/◌, ◌%◌, ◌<◌, ◌≤◌, ◌≤ℤ◌, ◌^◌, ◌++◌, ◌∷◌, [], List, Some, arith, append_assoc}
use Rattle.std.proofs.Common.{unsigned_abs, refl, map, suc, ap₂, Bool, true, length, codes, ap, ◌∙◌}
use Rattle.std.proofs.lemmas.Bool.{and_parts}
use Rattle.std.proofs.lemmas.Bool.Decides.{nat_tests}
use Rattle.std.proofs.lemmas.Fmt.{decimal_step}
use Rattle.std.proofs.lemmas.Int.{ints}
use Rattle.std.proofs.lemmas.Str.{IsAscii-append}
use Rattle.std.proofs.lemmas.Str.Ascii.{IsAscii-cons}
use Rattle.std.specs.Fmt.{decimal}
use Rattle.std.specs.Prelude.{nat_lt, ◌&&◌}
use Rattle.std.specs.Str.{IsAscii}
use Rattle.gix_date.specs.Fields.FieldTexts.{four_digits, ten_digits}
use Rattle.gix_date.specs.Fields.Offsets.{compact_offset_text}
use Rattle.gix_date.specs.Header.Text.{header_text, hundred_hours}
use Rattle.gix_date.specs.Text.Characters.{space, plus}
use Rattle.gix_date.specs.Text.Numbers.{two_digits, decimal_text}
use Rattle.gix_date.specs.declared.time.Time.{Time}
use Rattle.gix_date.proofs.Printing.ShownPieces.{decimal-two, ascii-two, ascii-four, ascii-zone}
use lib.Lanes.{Each1, digits_l, number_l, zip2}

-- what a lane of 16 bits holds of a pair: its tens, and 256 times its ones
abbrev lane : ℕ → ℕ
lane p = (p * 256 % 65536 + (65536 - p * 103 % 65536 / 1024 * 2559 % 65536)) % 65536

lane-is : (p : ℕ) → p < 100 → lane p ≡ p / 10 + 256 * (p % 10)
lane-is p small = omega arith

-- the bytes of pairs, added to others
abbrev twice : List ℕ → ℕ
twice [] = 0
twice (p ∷ ps) = suc (suc (twice ps))

abbrev added : List ℕ → List ℕ → List ℕ
added ps base = zip2 (λ (a b : ℕ). (a + b) % 256) (digits_l 256 (twice ps) (number_l 65536 (map lane ps))) base

abbrev sums : List ℕ → List ℕ → List ℕ
sums (p ∷ ps) (x ∷ y ∷ base) = (x + p / 10) ∷ (y + p % 10) ∷ sums ps base
sums _ _ = []

abbrev are_low : List ℕ → Bool
are_low [] = true
are_low (x ∷ xs) = nat_lt x 128 && are_low xs

low-parts : (x y : ℕ) (base : List ℕ) → are_low (x ∷ y ∷ base) ≡ true → (x < 128) × (y < 128) × (are_low base ≡ true)
low-parts x y base h =
    let first = and_parts (nat_lt x 128) (are_low (y ∷ base)) h in
    let next = and_parts (nat_lt y 128) (are_low base) first.1 in
    (grind (arith, nat_tests, first.0), grind (arith, nat_tests, next.0), next.1)

-- the bytes of a word of tens and ones, with those of zero, and what stands before it
first-byte : (w t o x rest : ℕ) → w ≡ t + 256 * o → t < 10 → x < 128 → ((w + 65536 * rest) % 256 + x) % 256 ≡ x + t
first-byte w t o x rest is small low = omega arith

second-byte : (w t o x rest : ℕ) → w ≡ t + 256 * o → t < 10 → o < 10 → x < 128 → ((w + 65536 * rest) / 256 % 256 + x) % 256 ≡ x + o
second-byte w t o x rest is small few low = omega arith

next-word : (w t o rest : ℕ) → w ≡ t + 256 * o → t < 10 → o < 10 → (w + 65536 * rest) / 256 / 256 ≡ rest
next-word w t o rest is small few = omega arith

pairs-added : (ps base : List ℕ) → Each1 (λ p. p < 100) ps → are_low base ≡ true → twice ps ≡ length base → added ps base ≡ sums ps base
pairs-added [] base small low long = refl
pairs-added (p ∷ ps) (x ∷ y ∷ base) small low long =
    let rest = number_l 65536 (map lane ps) in
    let parts = low-parts x y base low in
    let is = lane-is p small.0 in
    let tens : p / 10 < 10 = omega (arith, small.0) in
    let ones : p % 10 < 10 = omega arith in
    rw (
      first-byte (lane p) (p / 10) (p % 10) x rest is tens parts.0,
      second-byte (lane p) (p / 10) (p % 10) y rest is tens ones parts.1,
      next-word (lane p) (p / 10) (p % 10) rest is tens ones,
    )
    (ap (λ (xs : List ℕ). (x + p / 10) ∷ (y + p % 10) ∷ xs) (pairs-added ps base small.1 parts.2 (omega (arith, long))))
pairs-added (p ∷ ps) [] small low long = absurd (omega arith)
pairs-added (p ∷ ps) (x ∷ []) small low long = absurd (omega arith)

-- the digits of five pairs, before others
abbrev five_before : ℕ → ℕ → ℕ → ℕ → ℕ → List ℕ → List ℕ
five_before a b c d e rest = two_digits a ++ (two_digits b ++ (two_digits c ++ (two_digits d ++ (two_digits e ++ rest))))

-- the text of eight pairs, of which the sixth is a sign
pub header-printed : (a b c d e s h m : ℕ) → a < 100 → b < 100 → c < 100 → d < 100 → e < 100 → s < 10 → h < 100 → m < 100
    → added (a ∷ b ∷ c ∷ d ∷ e ∷ s ∷ h ∷ m ∷ []) (codes "0000000000 +0000")
    ≡ five_before a b c d e (space ∷ (plus + s) ∷ (two_digits h ++ two_digits m))
header-printed a b c d e s h m la lb lc ld le ls lh lm =
    let sign : s < 100 = omega (arith, ls) in
    let all = pairs-added (a ∷ b ∷ c ∷ d ∷ e ∷ s ∷ h ∷ m ∷ []) (codes "0000000000 +0000")
    (la, (lb, (lc, (ld, (le, (sign, (lh, (lm, tt)))))))) refl refl in
    let blank : 32 + s / 10 ≡ space = omega (arith, ls) in
    let mark : 43 + s % 10 ≡ plus + s = omega (arith, ls) in
    all ∙ ap₂ (λ (x y : ℕ). five_before a b c d e (x ∷ y ∷ (two_digits h ++ two_digits m))) blank mark

-- a number ends in a pair of digits
decimal-pair : (n : ℕ) → 100 ≤ n → n < 2 ^ 64 → decimal n ≡ decimal (n / 100) ++ two_digits (n % 100)
decimal-pair n low small = grind (arith, decimal_step, append_assoc)

-- and in two
decimal-pairs : (n : ℕ) → 10000 ≤ n → n < 2 ^ 64 → decimal n ≡ decimal (n / 10000) ++ four_digits (n % 10000)
decimal-pairs n low small = grind (arith, decimal-pair, append_assoc)

-- a number of ten digits by its pairs
decimal-ten : (n : ℕ) → 10 ^ 9 ≤ n → n < 10 ^ 10 → decimal n ≡ ten_digits n
decimal-ten n low high = grind (arith, decimal-pairs, decimal-two, append_assoc)

seconds-ten : (z : ℤ) → pos 1000000000 ≤ℤ z → z ≤ℤ pos 9999999999 → decimal_text z ≡ ten_digits (unsigned_abs z)
seconds-ten z low high = grind (arith, ints, decimal-ten)

-- a header text by its pairs
pub ten_text : (t : Time) → pos 1000000000 ≤ℤ t.seconds → t.seconds ≤ℤ pos 9999999999 → unsigned_abs t.offset < hundred_hours
    → header_text t ≡ Some (ten_digits (unsigned_abs t.seconds) ++ (space ∷ compact_offset_text t.offset))
unfolding header_text
ten_text t low high short =
    let test : nat_lt (unsigned_abs t.offset) hundred_hours ≡ true = grind (arith, nat_tests, short) in
    rw (test, seconds-ten t.seconds low high) refl

-- which is ASCII
pub ten_ascii : (n : ℕ) (o : ℤ) → n < 10 ^ 10 → unsigned_abs o < hundred_hours → IsAscii (ten_digits n ++ (space ∷ compact_offset_text o))
ten_ascii n o small short =
    let high = n / 100000000 in
    let low = n % 100000000 in
    let front = IsAscii-append (four_digits (low / 10000)) (four_digits (low % 10000)) (ascii-four (low / 10000) (omega arith))
    (ascii-four (low % 10000) (omega arith)) in
    IsAscii-append (ten_digits n) (space ∷ compact_offset_text o)
    (IsAscii-append (two_digits high) (four_digits (low / 10000) ++ four_digits (low % 10000)) (ascii-two high (omega arith)) front)
    (IsAscii-cons space (compact_offset_text o) (omega arith) (ascii-zone o (omega arith)))
