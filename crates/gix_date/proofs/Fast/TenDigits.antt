-- Headers of ten digits, one space, a sign and four digits.
use Rattle.std.proofs.Common.{ℤ, subst, w64, to_z, ◌≡◌, ◌≢◌, ◌⊎◌, inl, inr, ◌∙◌, ℕ, ◌+◌, ◌*◌, ◌<◌, ◌≤◌, ◌^◌, Bool, true, false, List, []}
use Rattle.std.proofs.Common.{◌∷◌, ◌++◌, map, length, get_or, replicate, refl, sym, ap, arith, pos, Some, None, Fits, w8}
use Rattle.std.proofs.lemmas.Bool.{cases_lt}
use Rattle.std.proofs.lemmas.Int.{ints}
use Rattle.std.proofs.lemmas.List.{length-map, get_or-map, get_or-take, get_or-drop}
use Rattle.std.proofs.lemmas.Simd.{length-chunk, get_or-replicate}
use Rattle.std.specs.Char.{is_ascii_digit}
use Rattle.gix_date.specs.Text.Characters.{space}
use Rattle.gix_date.specs.Text.Numbers.{read_two_digits, two_digit_value}
use Rattle.gix_date.specs.Fields.FieldTexts.{IsSign}
use Rattle.gix_date.specs.Fields.Offsets.{offset_fields, last_pair}
use Rattle.gix_date.specs.Header.Reading.{ArePairsButSixth, IsUsualHeader}
use Rattle.gix_date.specs.declared.parsing.offset.Sign.{Sign}
use Rattle.gix_date.proofs.Fast.FastHeaders.{sign-mark}
use Rattle.gix_date.proofs.Fast.Masks.{masks-tell}
use Rattle.gix_date.proofs.Fast.Pairs.{is_other, other_bits, other-bits, digit, numbers_in, pair_of_digits, pair-of, AreTen, IsPairOf}
use Rattle.gix_date.proofs.Fast.Pairs.{five_pairs, ten-of}
use Rattle.gix_date.proofs.Text.ShortDigits.{bare_int}
use lib.Lanes.{chunk}

-- all but the bytes 10 and 11 are digits
abbrev two_others : List Bool
two_others = replicate 10 false ++ (true ∷ true ∷ replicate 4 false)

not-those : (ms : List Bool) (i : ℕ) → ms ≡ two_others → (i < 10) ⊎ ((12 ≤ i) × (i < 16)) → get_or ms i false ≡ false
not-those ms i e (inl l) = grind (arith, get_or-take, get_or-replicate)
not-those ms i e (inr (l, h)) = grind (arith, get_or-drop, get_or-replicate)

digit-at : (bytes : List ℕ) (i : ℕ) → length bytes ≡ 16 → ((k : ℕ) → Fits w8 (get_or bytes k 0)) → other_bits 16 bytes ≡ 3072
    → (i < 10) ⊎ ((12 ≤ i) × (i < 16))
    → is_ascii_digit (get_or bytes i 0) ≡ true
digit-at bytes i sixteen fits e within =
    let block = chunk 0 16 bytes in
    let ms = map is_other block in
    let long : length block ≡ 16 = length-chunk 0 16 bytes (omega (arith, sixteen)) in
    let are : ms ≡ two_others = masks-tell ms two_others (length-map block is_other ∙ long)
    (sym (other-bits 16 bytes (omega (arith, sixteen)) (omega arith)) ∙ e) in
    let below : i < 16 = elim within [ inl l ↦ omega (arith, l) | inr h ↦ h.1 ] in
    digit (get_or bytes i 0) (fits i).fits
    (ap is_other (sym (get_or-take 16 bytes i 0 below)) ∙ sym (get_or-map is_other block i 0 false (omega (arith, long, below)))
    ∙ not-those ms i are within)

-- the number of the pair k, if that is not the space and the sign
pub pair_but_sixth : (bytes : List ℕ) → length bytes ≡ 16 → ((k : ℕ) → Fits w8 (get_or bytes k 0)) → other_bits 16 bytes ≡ 3072
    → ArePairsButSixth bytes (numbers_in 16 8 bytes)
unfolding ArePairsButSixth
pair_but_sixth bytes sixteen fits e k l n =
    pair_of_digits 16 8 bytes k (omega (arith, sixteen)) l (omega (arith, l))
    (digit-at bytes (2 * k) sixteen fits e (places (2 * k) (omega arith) (omega arith)))
    (digit-at bytes (2 * k + 1) sixteen fits e (places (2 * k + 1) (omega arith) (omega arith)))
  where
    places : (i : ℕ) → 2 * k ≤ i → i ≤ 2 * k + 1 → (i < 10) ⊎ ((12 ≤ i) × (i < 16))
    places i low high =
        elim (cases_lt k 5) [ inl m ↦ inl (omega (arith, m, high)) | inr m ↦ inr (omega (arith, m, n, low), omega (arith, l, high)) ]

-- a sign and two pairs
pub offset-of-pairs : (mark k l m n hours minutes : ℕ) (sign : Sign) → IsSign mark sign → two_digit_value k l ≡ Some hours
    → two_digit_value m n ≡ Some minutes
    → offset_fields (mark ∷ k ∷ l ∷ m ∷ n ∷ []) ≡ Some (record { sign = sign; hours = hours; minutes = minutes; seconds = None })
unfolding offset_fields read_two_digits last_pair
offset-of-pairs mark k l m n hours minutes sign is h e = rw (sign-mark mark sign (k ∷ l ∷ m ∷ n ∷ []) is, h, e) refl

told : (text ps : List ℕ) → ArePairsButSixth text ps → (k : ℕ) → k < 8 → k ≢ 5
    → IsPairOf (get_or text (2 * k) 0) (get_or text (2 * k + 1) 0) (get_or ps k 0)
unfolding ArePairsButSixth
told text ps are k l n = pair-of (get_or text (2 * k) 0) (get_or text (2 * k + 1) 0) (get_or ps k 0) (are k l n)

-- a number's pairs, in a list
abbrev pub seconds_of : List ℕ → ℕ
seconds_of ps = five_pairs (get_or ps 0 0) (get_or ps 1 0) (get_or ps 2 0) (get_or ps 3 0) (get_or ps 4 0)

pub record IsTenDigitHeader (text ps : List ℕ) (sign : Sign) : Type 0 where
  pub small : seconds_of ps < 10 ^ 18
  pub usual : IsUsualHeader text (pos (seconds_of ps))
      (record { sign = sign; hours = get_or ps 6 0; minutes = get_or ps 7 0; seconds = None })

pub ten-digit-header : (text ps : List ℕ) (sign : Sign) → length text ≡ 16 → ArePairsButSixth text ps → get_or text 10 0 ≡ space
    → IsSign (get_or text 11 0) sign → IsTenDigitHeader text ps sign
unfolding ArePairsButSixth
ten-digit-header (a ∷ b ∷ c ∷ d ∷ e ∷ f ∷ g ∷ h ∷ i ∷ j ∷ blank ∷ mark ∷ k ∷ l ∷ m ∷ n ∷ []) ps sign sixteen are is marked =
    let text = a ∷ b ∷ c ∷ d ∷ e ∷ f ∷ g ∷ h ∷ i ∷ j ∷ blank ∷ mark ∷ k ∷ l ∷ m ∷ n ∷ [] in
    let front = a ∷ b ∷ c ∷ d ∷ e ∷ f ∷ g ∷ h ∷ i ∷ j ∷ [] in
    let ten : AreTen front (seconds_of ps) =
    ten-of a b c d e f g h i j (get_or ps 0 0) (get_or ps 1 0) (get_or ps 2 0) (get_or ps 3 0) (get_or ps 4 0)
    (told text ps are 0 (omega arith) (omega arith)) (told text ps are 1 (omega arith) (omega arith))
    (told text ps are 2 (omega arith) (omega arith))
    (told text ps are 3 (omega arith) (omega arith)) (told text ps are 4 (omega arith) (omega arith)) in
    record {
      small = ten.small;
      usual = record {
        front = front;
        zone = mark ∷ k ∷ l ∷ m ∷ n ∷ [];
        whole = rw is refl;
        is_seconds = bare_int front (seconds_of ps) (omega arith) ten.digits ten.value ten.small;
        are_fields = offset-of-pairs mark k l m n (get_or ps 6 0) (get_or ps 7 0) sign marked (are 6 (omega arith) (omega arith))
            (are 7 (omega arith) (omega arith));
      };
    }
ten-digit-header text ps sign sixteen are is marked = absurd (omega (arith, sixteen))

-- the same with the number as the code has it
pub ten_header : (text ps : List ℕ) (sign : Sign) (m : ℕ) → length text ≡ 16 → ArePairsButSixth text ps → get_or text 10 0 ≡ space
    → IsSign (get_or text 11 0) sign → m ≡ seconds_of ps
    → IsUsualHeader text (to_z w64 m) (record { sign = sign; hours = get_or ps 6 0; minutes = get_or ps 7 0; seconds = None })
ten_header text ps sign m sixteen are is marked e =
    let h = ten-digit-header text ps sign sixteen are is marked in
    let same : pos (seconds_of ps) ≡ to_z w64 m = omega (arith, ints, h.small, e) in
    subst (λ (z : ℤ). IsUsualHeader text z (record { sign = sign; hours = get_or ps 6 0; minutes = get_or ps 7 0; seconds = None })) same
    h.usual

pub hours_small : (text ps : List ℕ) → ArePairsButSixth text ps → get_or ps 6 0 < 100
hours_small text ps are = let h = told text ps are 6 (omega arith) (omega arith) in h.small

pub minutes_small : (text ps : List ℕ) → ArePairsButSixth text ps → get_or ps 7 0 < 100
minutes_small text ps are = let h = told text ps are 7 (omega arith) (omega arith) in h.small
