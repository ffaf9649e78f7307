-- A date as most are is written again as it is.
use Rattle.std.proofs.Common.{◌≡◌, ◌∙◌, ℕ, ◌+◌, ◌*◌, ◌/◌, ◌%◌, ◌<◌, ◌≤◌, Bool, true, false, cond, not, ◌&&◌, ◌==◌, List, [], ◌∷◌, ◌++◌}
use Rattle.std.proofs.Common.{length, ℤ, pos, negsuc}
use Rattle.std.proofs.Common.{neg_ℤ, ◌-ℤ◌, w32, zero, suc, unsigned_abs, take, drop, get_or, Some, None, refl, ap, ap₂, sym, arith}
use Rattle.std.proofs.lemmas.Bool.{and_parts}
use Rattle.std.proofs.lemmas.Bool.Decides.{nat_tests}
use Rattle.std.proofs.lemmas.Fmt.{decimal-digits_value}
use Rattle.std.proofs.lemmas.Int.{ints, to_z-of_z}
use mir.Val.{of_z, to_z}
use Rattle.std.proofs.lemmas.Int.Digits.{digits_value_more}
use Rattle.std.proofs.lemmas.List.{take_all}
use Rattle.std.proofs.lemmas.Str.{digit_value_digit}
use Rattle.std.proofs.lemmas.Str.Parse.{digits_value-take-le, digits_value_short}
use Rattle.std.specs.Char.{is_ascii_digit, digit_value}
use Rattle.std.specs.Fmt.{decimal}
use Rattle.std.specs.List.{list_all}
use Rattle.std.specs.Prelude.{nat_lt, int_lt}
use Rattle.std.specs.Str.Parse.{digits_value, signed_digits_value}
use Rattle.gix_date.proofs.Text.Ints.{own}
use Rattle.gix_date.specs.Text.Characters.{space, plus, minus}
use Rattle.gix_date.specs.Text.Numbers.{two_digits}
use Rattle.gix_date.specs.Fields.Offsets.{offset_sign}
use Rattle.gix_signature.specs.Ident.Bytes.{is_minus, is_sign}
use Rattle.gix_signature.specs.Ident.Fsck.{is_fsck_zone, is_zero}
use Rattle.gix_signature.specs.Ident.Parts.{DateText}
use Rattle.gix_signature.specs.Ident.Texts.{begins_with}
use Rattle.gix_signature.specs.Ident.Usual.{is_usual_number}
use Rattle.gix_signature.specs.Ident.Times.{git_time, git_time_at, git_time_text, is_minus_zero, kept_offset, offset_digits, offset_mark}
use Rattle.gix_signature.specs.Ident.Times.{seconds_shown, too_many_seconds}
use Rattle.gix_signature.specs.declared.ident.GitTime.{GitTime}
use Rattle.gix_signature.proofs.Idents.Again.{no-neg}
use Rattle.gix_signature.proofs.DateTexts.{abs-alike, kept-small, sign-value}

digit-is : (c : ℕ) → is_ascii_digit c ≡ true → (digit_value c + 48 ≡ c) × (digit_value c < 10)
digit-is c h =
    let low : 48 ≤ c = grind (arith, nat_tests, h) in
    let high : c ≤ 57 = grind (arith, nat_tests, h) in
    let value : digit_value c + 48 ≡ c = digit_value_digit c (low, high) in
    (value, omega (arith, value, high))

-- four digits are the two pairs of their value
pub record ArePairs (zs : List ℕ) : Type 0 where
  pub small : digits_value 10 zs < 10000
  pub pairs : two_digits (digits_value 10 zs / 100) ++ two_digits (digits_value 10 zs % 100) ≡ zs

same-four : (a a' b b' c c' d d' : ℕ) → a ≡ a' → b ≡ b' → c ≡ c' → d ≡ d' → a ∷ b ∷ c ∷ d ∷ [] ≡ a' ∷ b' ∷ c' ∷ d' ∷ []
same-four a a' b b' c c' d d' p q r s = cc

four-pairs : (a b c d : ℕ) → is_ascii_digit a ≡ true → is_ascii_digit b ≡ true → is_ascii_digit c ≡ true → is_ascii_digit d ≡ true
    → ArePairs (a ∷ b ∷ c ∷ d ∷ [])
four-pairs a b c d p q r s =
    let w = digit-is a p in
    let x = digit-is b q in
    let y = digit-is c r in
    let z = digit-is d s in
    record {
      small = omega (arith, w, x, y, z);
      pairs = same-four _ _ _ _ _ _ _ _ (omega (arith, w, x, y, z)) (omega (arith, w, x, y, z)) (omega (arith, w, x, y, z))
          (omega (arith, w, x, y, z));
    }

pub are-pairs : (zs : List ℕ) → length zs ≡ 4 → list_all is_ascii_digit zs ≡ true → ArePairs zs
are-pairs [] e h = absurd (omega (arith, e))
are-pairs (a ∷ []) e h = absurd (omega (arith, e))
are-pairs (a ∷ (b ∷ [])) e h = absurd (omega (arith, e))
are-pairs (a ∷ (b ∷ (c ∷ []))) e h = absurd (omega (arith, e))
are-pairs (a ∷ (b ∷ (c ∷ (d ∷ [])))) e h =
    let one = and_parts (is_ascii_digit a) (list_all is_ascii_digit (b ∷ c ∷ d ∷ [])) h in
    let two = and_parts (is_ascii_digit b) (list_all is_ascii_digit (c ∷ d ∷ [])) one.1 in
    let three = and_parts (is_ascii_digit c) (list_all is_ascii_digit (d ∷ [])) two.1 in
    let four = and_parts (is_ascii_digit d) true three.1 in
    four-pairs a b c d one.0 two.0 three.0 four.0
are-pairs (a ∷ (b ∷ (c ∷ (d ∷ (x ∷ more))))) e h = absurd (omega (arith, e))

-- digits without a needless zero are the decimal text of their value
pub decimal-back : (d : ℕ) (ds : List ℕ) → list_all is_ascii_digit (d ∷ ds) ≡ true → (is_zero d ≡ true → ds ≡ [])
    → digits_value 10 (d ∷ ds) < too_many_seconds → decimal (digits_value 10 (d ∷ ds)) ≡ d ∷ ds
decimal-back d ds h alone small =
    decimal-digits_value own (d ∷ ds) h (omega arith)
    (λ z. let same : d ≡ 48 = z in
    ap (λ (xs : List ℕ). length (d ∷ xs)) (alone (grind (arith, nat_tests, same))))
    (omega (arith, small))

abbrev signed : Bool → ℕ → ℤ
signed b v = cond b (neg_ℤ (pos v)) (pos v)

abbrev time : ℕ → Bool → ℤ → GitTime
time n b z = record { seconds = pos n; offset = z; minus_zero = is_minus_zero b z }

mark-is : (n : ℕ) (b : Bool) (v : ℕ) → offset_mark (time n b (signed b v)) ≡ cond b minus plus
mark-is n false v = let no : int_lt (pos v) (pos 0) ≡ false = grind (arith, ints) in ap (λ x. cond x minus plus) no
mark-is n true zero = refl
mark-is n true (suc k) = ap (λ e. cond ((true && e) && e) minus (offset_sign (negsuc k))) (no-neg k)

pairs-of : (z : ℤ) (v : ℕ) → unsigned_abs z ≡ v → v < 10000 → offset_digits [] z ≡ two_digits (v / 100) ++ two_digits (v % 100)
pairs-of z v e h =
    let hours : nat_lt (v / 100) 100 ≡ true = grind (arith, nat_tests, h) in
    ap (λ u. (cond (nat_lt (u / 100) 100) (two_digits (u / 100)) (decimal (u / 100)) ++ []) ++ two_digits (u % 100)) e
    ∙ ap (λ b. (cond b (two_digits (v / 100)) (decimal (v / 100)) ++ []) ++ two_digits (v % 100)) hours

text-is : (n : ℕ) (b : Bool) (v : ℕ) → v < 10000 → git_time_text (git_time_at (Some (pos n)) b (signed b v))
    ≡ decimal n ++ (space ∷ (cond b minus plus ∷ (two_digits (v / 100) ++ two_digits (v % 100))))
text-is n b v h =
    let size = abs-alike b v in
    let kept = kept-small (signed b v) (omega (arith, size, h)) in
    ap (λ z. git_time_text (time n b z)) kept
    ∙ ap₂ (λ mark digits. decimal n ++ (space ∷ (mark ∷ digits))) (mark-is n b v) (pairs-of (signed b v) v size h)

sign-by : (s : ℕ) (b : Bool) → is_sign s ≡ true → is_minus s ≡ b → s ≡ cond b minus plus
sign-by s b h e = grind (arith, nat_tests, e, h)

pub usual-back : (d : ℕ) (ds : List ℕ) (s : ℕ) (zs : List ℕ) → list_all is_ascii_digit (d ∷ ds) ≡ true → (is_zero d ≡ true → ds ≡ [])
    → digits_value 10 (d ∷ ds) < too_many_seconds → is_sign s ≡ true → ArePairs zs
    → git_time_text (git_time (record { seconds = d ∷ ds; offset = s ∷ zs })) ≡ d ∷ (ds ++ (32 ∷ (s ∷ zs)))
unfolding git_time
usual-back d ds s zs h alone small sign are =
    let n = digits_value 10 (d ∷ ds) in
    let v = digits_value 10 zs in
    let b = is_minus s in
    let marked : s ≡ cond b minus plus = sign-by s b sign refl in
    let value : signed_digits_value 10 (s ∷ zs) ≡ signed b v =
    ap (λ c. signed_digits_value 10 (c ∷ zs)) marked ∙ sign-value b zs in
    let few : nat_lt n too_many_seconds ≡ true = grind (arith, nat_tests, small) in
    ap (λ z. git_time_text (git_time_at (seconds_shown n) b z)) value
    ∙ ap (λ c. git_time_text (git_time_at (cond c (Some (pos n)) None) b (signed b v))) few
    ∙ text-is n b v are.small
    ∙ ap₂ (λ front tail. front ++ (space ∷ tail)) (decimal-back d ds h alone small)
    (ap₂ (λ mark digits. mark ∷ digits) (sym marked) are.pairs)

-- digits of a usual number are few
pub few_digits : (ds : List ℕ) → is_usual_number ds ≡ true → length ds ≤ 18
few_digits [] h = absurd cc
few_digits (d ∷ []) h = omega arith
few_digits (d ∷ (e ∷ ds)) h =
    let each = and_parts (not (is_zero d)) (nat_lt (length (d ∷ (e ∷ ds))) 19) h in grind (arith, nat_tests, each.1)

small-number : (ds : List ℕ) → list_all is_ascii_digit ds ≡ true → length ds ≤ 18 → digits_value 10 ds < 1_000_000_000_000_000_000
small-number ds h short = omega (arith, digits_value_short own ds 18 h short)

pub four_digits : (ds : List ℕ) → list_all is_ascii_digit ds ≡ true → length ds ≤ 4 → digits_value 10 ds < 10_000
four_digits ds h few = omega (arith, digits_value_short own ds 4 h few)

-- what stands after the sign of an offset
pub zone_digits : (text : List ℕ) → is_fsck_zone text ≡ true → (list_all is_ascii_digit (drop 1 text) ≡ true) × (length (drop 1 text) ≡ 4)
zone_digits [] h = absurd cc
zone_digits (s ∷ zs) h =
    let outer = and_parts (is_sign s && (length (s ∷ zs) == 5)) (list_all is_ascii_digit zs) h in
    let inner = and_parts (is_sign s) (length (s ∷ zs) == 5) outer.0 in
    (outer.1, grind (arith, nat_tests, inner.1))

pub zone_small : (text : List ℕ) → is_fsck_zone text ≡ true → digits_value 10 (drop 1 text) < 10_000
zone_small text h = let zone = zone_digits text h in four_digits (drop 1 text) zone.0 (omega (arith, zone.1))

-- an offset of few digits, negated and not
held : (v : ℕ) → v < 10_000 → to_z w32 (of_z w32 (pos v)) ≡ pos v
held v h = to_z-of_z w32 (pos v) (record { sfits = omega (arith, h) })

negative : (v : ℕ) → v < 10_000 → to_z w32 (of_z w32 (neg_ℤ (pos v))) ≡ neg_ℤ (pos v)
negative zero h = refl
negative (suc k) h = to_z-of_z w32 (negsuc k) (record { sfits = omega (arith, h) })

minus-is : (v : ℕ) → pos 0 -ℤ pos v ≡ neg_ℤ (pos v)
minus-is v = omega (arith, ints)

negated : (v : ℕ) → v < 10_000 → to_z w32 (of_z w32 (pos 0 -ℤ pos v)) ≡ neg_ℤ (pos v)
negated v h = ap (λ y. to_z w32 (of_z w32 y)) (minus-is v) ∙ negative v h

kept-so : (b : Bool) (v : ℕ) → v < 10_000 → kept_offset (signed b v) ≡ signed b v
kept-so b v h = kept-small (signed b v) (omega (arith, abs-alike b v, h))

pub west_is : (text : List ℕ) (z : ℤ) → is_fsck_zone text ≡ true → begins_with (λ c. c == 45) text ≡ true
    → z ≡ pos (digits_value 10 (drop 1 text))
    → to_z w32 (of_z w32 (pos 0 -ℤ to_z w32 (of_z w32 z))) ≡ kept_offset (signed_digits_value 10 text)
west_is [] z h k is = absurd cc
west_is (s ∷ zs) z h k is =
    let v = digits_value 10 zs in
    let small = zone_small (s ∷ zs) h in
    let west : s ≡ 45 = grind (arith, nat_tests, k) in
    ap (λ y. to_z w32 (of_z w32 (pos 0 -ℤ to_z w32 (of_z w32 y)))) is
    ∙ ap (λ y. to_z w32 (of_z w32 (pos 0 -ℤ y))) (held v small) ∙ negated v small
    ∙ sym (ap (λ c. kept_offset (signed_digits_value 10 (c ∷ zs))) west ∙ kept-so true v small)

pub east_is : (text : List ℕ) (z : ℤ) → is_fsck_zone text ≡ true → begins_with (λ c. c == 45) text ≡ false
    → z ≡ pos (digits_value 10 (drop 1 text)) → to_z w32 (of_z w32 z) ≡ kept_offset (signed_digits_value 10 text)
east_is [] z h k is = absurd cc
east_is (s ∷ zs) z h k is =
    let v = digits_value 10 zs in
    let small = zone_small (s ∷ zs) h in
    let outer = and_parts (is_sign s && (length (s ∷ zs) == 5)) (list_all is_ascii_digit zs) h in
    let inner = and_parts (is_sign s) (length (s ∷ zs) == 5) outer.0 in
    let east : s ≡ 43 = grind (arith, nat_tests, k, inner.0) in
    ap (λ y. to_z w32 (of_z w32 y)) is ∙ held v small
    ∙ sym (ap (λ c. kept_offset (signed_digits_value 10 (c ∷ zs))) east ∙ kept-so false v small)

all-at : (ds : List ℕ) (i : ℕ) → list_all is_ascii_digit ds ≡ true → i < length ds → is_ascii_digit (get_or ds i 0) ≡ true
all-at [] i h k = absurd (omega arith)
all-at (d ∷ ds) zero h k = (and_parts (is_ascii_digit d) (list_all is_ascii_digit ds) h).0
all-at (d ∷ ds) (suc i) h k = all-at ds i (and_parts (is_ascii_digit d) (list_all is_ascii_digit ds) h).1 (omega arith)

-- a digit that is read, and its value
pub digit_at : (ds : List ℕ) (i : ℕ) → list_all is_ascii_digit ds ≡ true → i < length ds
    → (48 ≤ get_or ds i 0) × (digit_value (get_or ds i 0) + 48 ≡ get_or ds i 0)
digit_at ds i h k = let value = (digit-is (get_or ds i 0) (all-at ds i h k)).0 in (omega (arith, value), value)

-- the number so far, with one digit more
pub small_so_far : (ds : List ℕ) (i v : ℕ) → list_all is_ascii_digit ds ≡ true → length ds ≤ 18 → i < length ds
    → v ≡ digits_value 10 (take i ds) → 10 * v + digit_value (get_or ds i 0) < 1_000_000_000_000_000_000
small_so_far ds i v h short within at =
    let next = digits_value_more 10 ds i within in
    let all = digits_value-take-le 10 ds (i + 1) (omega arith) in
    omega (arith, at, next, all, small-number ds h short)

pub all_read : (ds : List ℕ) (i v : ℕ) → list_all is_ascii_digit ds ≡ true → length ds ≤ 18 → length ds ≤ i
    → v ≡ digits_value 10 (take i ds) → (v ≡ digits_value 10 ds) × (v < too_many_seconds)
all_read ds i v h short all at =
    let same : v ≡ digits_value 10 ds = at ∙ ap (λ l. digits_value 10 l) (take_all i ds all) in
    (same, omega (arith, same, small-number ds h short))

-- the time of seconds that are read
pub time_is : (d : DateText) (n : ℕ) → n ≡ digits_value 10 d.seconds → n < too_many_seconds
    → git_time_at (Some (pos n)) (begins_with is_minus d.offset) (signed_digits_value 10 d.offset) ≡ git_time d
unfolding git_time
time_is d n is small =
    let few : nat_lt n too_many_seconds ≡ true = grind (arith, nat_tests, small) in
    ap (λ c. git_time_at (cond c (Some (pos n)) None) (begins_with is_minus d.offset) (signed_digits_value 10 d.offset)) (sym few)
    ∙ ap (λ m. git_time_at (seconds_shown m) (begins_with is_minus d.offset) (signed_digits_value 10 d.offset)) is
