-- The ends of parts and of digits, looked for in a block of bytes.
use Rattle.std.proofs.Common.{◌≡◌, ◌≢◌, ◌∙◌, ℕ, zero, suc, ◌+◌, ◌<◌, ◌≤◌, ◌%◌, ◌^◌, Bool, true, cond, not, ◌||◌, ◌&&◌, ◌==◌, bit_or}
use Rattle.std.proofs.Common.{eqb, List, [], subst, drop}
use Rattle.std.proofs.Common.{◌∷◌, map, length, take, get_or, replicate, refl, sym, ap, ap₂, arith, Fits, w8}
use Rattle.std.proofs.lemmas.Bool.Decides.{nat_tests}
use Rattle.std.proofs.lemmas.List.{take-append-drop, length-map}
use Rattle.std.proofs.lemmas.List.Folds.{list_all_more, prefix_len-append}
use Rattle.std.proofs.lemmas.List.Sums.{prefix_len-le-length, prefix_len_passes}
use Rattle.std.proofs.lemmas.Simd.{first_set_mask_l, length-chunk, mask_l-mod, run_in_chunk_le, run_in_chunk_fails}
use Rattle.std.specs.Char.{is_ascii_digit}
use Rattle.std.specs.List.{list_all, prefix_len}
use Rattle.gix_date.proofs.Fast.Pairs.{is_other, other_bits, other-bits, digit}
use Rattle.gix_signature.specs.Signature.{is_allowed}
use lib.Count.{count_trailing_zeros}
use lib.Lanes.{chunk, mask_l, top, zip2}

-- where each of the first n elements passes
all_before : (p : ℕ → Bool) (xs : List ℕ) (n : ℕ) → n ≤ length xs → ((k : ℕ) → k < n → p (get_or xs k 0) ≡ true)
    → list_all p (take n xs) ≡ true
all_before p xs zero room each = refl
all_before p xs (suc n) room each =
    let front : list_all p (take n xs) ≡ true = all_before p xs n (omega arith) (λ k l. each k (omega arith)) in
    let next : suc n ≡ n + 1 = omega arith in
    ap (λ m. list_all p (take m xs)) next ∙ list_all_more p xs n 0 (omega arith) ∙ ap₂ (λ (a b : Bool). a && b) front (each n (omega arith))

-- what the walk finds
pub run-passes : (p : ℕ → Bool) (xs : List ℕ) → list_all p (take (prefix_len p xs) xs) ≡ true
run-passes p xs = all_before p xs (prefix_len p xs) (prefix_len-le-length p xs) (λ k l. prefix_len_passes p xs k 0 l)

-- the lanes of a block that end a part, as they are compared, and what their top bits tell
abbrev lanes : ℕ → List ℕ → ℕ → List ℕ
lanes n block byte = zip2 (λ a b. cond (eqb a b) 255 0) block (replicate n byte)

abbrev tops : ℕ → List ℕ → List Bool
tops n block =
    map (top 7) (zip2 bit_or (zip2 bit_or (zip2 bit_or (lanes n block 60) (lanes n block 62)) (lanes n block 10)) (lanes n block 0))

abbrev ends_part : ℕ → Bool
ends_part c = c == 60 || c == 62 || c == 10 || c == 0

top-is : (a b c d : Bool)
    → top 7 (bit_or (bit_or (bit_or (cond a 255 0) (cond b 255 0)) (cond c 255 0)) (cond d 255 0)) ≡ (a || b || c || d)
top-is a b c d = grind arith

tops-are : (block : List ℕ) → tops (length block) block ≡ map ends_part block
tops-are [] = refl
tops-are (x ∷ xs) = ap₂ (λ (b : Bool) (bs : List Bool). b ∷ bs) (top-is (x == 60) (x == 62) (x == 10) (x == 0)) (tops-are xs)

-- the place that the bits of a block tell
abbrev pub place_of : ℕ → ℕ
place_of bits = cond (eqb bits 0) 16 (count_trailing_zeros 64 bits)

pub one_near : (bits : ℕ) → bits ≢ 0 → place_of bits ≡ count_trailing_zeros 64 bits
one_near bits some = grind (arith, nat_tests, some)

-- a part that ends at a place in the first block, or goes on after that
pub near : (text : List ℕ) (n : ℕ) → 16 ≤ length text → place_of (mask_l (tops 16 (take 16 text)) % 2 ^ 64) ≡ n
    → (prefix_len is_allowed text ≡ n + cond (n == 16) (prefix_len is_allowed (drop 16 text)) 0) × (n ≤ 16)
near text n room at =
    let block = take 16 text in
    let long : length block ≡ 16 = length-chunk 0 16 text room in
    let bits = ap mask_l (subst (λ k. tops k block ≡ map ends_part block) long (tops-are block)) in
    let is : n ≡ prefix_len is_allowed block = sym at ∙ ap (λ m. place_of (m % 2 ^ 64)) bits
    ∙ ap place_of (mask_l-mod (map ends_part block) 64 (omega (arith, length-map block ends_part, long)))
    ∙ first_set_mask_l ends_part block 16 long (omega arith) in
    let whole = ap (prefix_len is_allowed) (sym (take-append-drop 16 text)) ∙ prefix_len-append is_allowed block (drop 16 text) in
    (grind (arith, nat_tests, whole, long, is), omega (arith, is, prefix_len-le-length is_allowed block, long))

run : (bytes : List ℕ) (r : ℕ) → 16 ≤ length bytes → ((k : ℕ) → Fits w8 (get_or bytes k 0))
    → r ≡ prefix_len (λ b. not (is_other b)) (chunk 0 16 bytes)
    → (r ≤ 16) × (list_all is_ascii_digit (take r bytes) ≡ true)
run bytes r room fits counted =
    let few : r ≤ 16 = run_in_chunk_le is_other bytes 0 16 r 0 (omega arith) counted in (
      few,
      all_before is_ascii_digit bytes r (omega arith) (λ k l. digit (get_or bytes k 0) (fits k).fits
          (run_in_chunk_fails is_other bytes 0 16 r 0 (omega arith) counted k (omega arith) (omega arith))),
    )

-- how many bytes of a block come before the first that is no digit
counted-run : (bytes : List ℕ) → 16 ≤ length bytes → place_of (other_bits 16 bytes) ≡ prefix_len (λ b. not (is_other b)) (chunk 0 16 bytes)
counted-run bytes room = ap place_of (other-bits 16 bytes room (omega arith))
    ∙ first_set_mask_l is_other (chunk 0 16 bytes) 16 (length-chunk 0 16 bytes (omega arith)) (omega arith)

-- where a block has another byte
digits-before : (bytes : List ℕ) → 16 ≤ length bytes → ((k : ℕ) → Fits w8 (get_or bytes k 0)) → other_bits 16 bytes ≢ 0
    → (count_trailing_zeros 64 (other_bits 16 bytes) ≤ 16)
    × (list_all is_ascii_digit (take (count_trailing_zeros 64 (other_bits 16 bytes)) bytes) ≡ true)
digits-before bytes room fits some = run bytes _ room fits (sym (one_near (other_bits 16 bytes) some) ∙ counted-run bytes room)

pub digits_few : (bytes : List ℕ) → 16 ≤ length bytes → ((k : ℕ) → Fits w8 (get_or bytes k 0)) → other_bits 16 bytes ≢ 0
    → count_trailing_zeros 64 (other_bits 16 bytes) ≤ 16
digits_few bytes room fits some = (digits-before bytes room fits some).0

pub digits_before : (bytes : List ℕ) → 16 ≤ length bytes → ((k : ℕ) → Fits w8 (get_or bytes k 0)) → other_bits 16 bytes ≢ 0
    → list_all is_ascii_digit (take (count_trailing_zeros 64 (other_bits 16 bytes)) bytes) ≡ true
digits_before bytes room fits some = (digits-before bytes room fits some).1

-- digits that are counted one by one
pub counted_digits : (text : List ℕ) (n : ℕ) → n ≡ prefix_len is_ascii_digit text → list_all is_ascii_digit (take n text) ≡ true
counted_digits text n at = ap (λ k. list_all is_ascii_digit (take k text)) at ∙ run-passes is_ascii_digit text
