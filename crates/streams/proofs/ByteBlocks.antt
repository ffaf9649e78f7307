-- Blocks of bytes.
use Rattle.std.proofs.Common.{◌≡◌, ◌≢◌, zero-add, w64, inl, inr, ◌∙◌, suc, zero, ap₂, ◌&&◌, ℕ, ◌+◌, ◌<◌, ◌≤◌, ◌%◌, ◌^◌, Bool, true, false}
use Rattle.std.proofs.Common.{not, cond, eqb, List, map, length, take, get_or, replicate, refl, sym, ap, subst, arith, Fits, w8}
use Rattle.std.proofs.lemmas.Bool.Decides.{nat_tests}
use Rattle.std.proofs.lemmas.Bool.{cases_lt}
use Rattle.std.proofs.lemmas.List.{length-map, get_or_past}
use Rattle.std.proofs.lemmas.Nat.Bits.{bit_at-trailing_zeros}
use Rattle.std.specs.Int.{bit_at}
use Rattle.std.proofs.lemmas.List.Folds.{list_all_more}
use Rattle.std.proofs.lemmas.Simd.{length-chunk, mask_l-mod, first_set_mask_l, run_in_chunk_le, run_in_chunk_fails, run_in_chunk_stops}
use Rattle.std.proofs.lemmas.Simd.{trailing_mask_l, bit_mask_l, bitmask_splat}
use Rattle.std.specs.Char.{is_ascii_digit}
use Rattle.std.specs.List.{list_all, prefix_len}
use Rattle.gix_date.proofs.Fast.Pairs.{is_other, other_bits, other-bits, digit}
use Rattle.memchr.specs.Find.{NoneBefore, Passes, is_byte}
use lib.Count.{count_trailing_zeros}
use lib.Lanes.{chunk, mask_l, top, zip2}

-- where each of the first n elements passes
all_before : (p : ℕ → Bool) (xs : List ℕ) (n : ℕ) → n ≤ length xs → ((k : ℕ) → k < n → p (get_or xs k 0) ≡ true)
    → list_all p (take n xs) ≡ true
all_before p xs zero room each = refl
all_before p xs (suc n) room each =
    let front : list_all p (take n xs) ≡ true = all_before p xs n (omega arith) (λ k l. each k (omega arith)) in
    let next : suc n ≡ n + 1 = omega arith in
    ap (λ m. list_all p (take m xs)) next ∙ list_all_more p xs n 0 (omega arith) ∙ ap₂ (λ (a b : Bool). a && b) front (each n (omega arith))

run : (bytes : List ℕ) (r : ℕ) → 16 ≤ length bytes → ((k : ℕ) → Fits w8 (get_or bytes k 0))
    → r ≡ prefix_len (λ b. not (is_other b)) (chunk 0 16 bytes)
    → (r ≤ 16) × (list_all is_ascii_digit (take r bytes) ≡ true)
run bytes r room fits counted =
    let few : r ≤ 16 = run_in_chunk_le is_other bytes 0 16 r 0 (omega arith) counted in (
      few,
      all_before is_ascii_digit bytes r (omega arith) (λ k l. digit (get_or bytes k 0) (fits k).fits
          (run_in_chunk_fails is_other bytes 0 16 r 0 (omega arith) counted k (omega arith) (omega arith))),
    )

-- how many bytes of a block come before the first that is no digit
abbrev run_of : ℕ → ℕ
run_of m = cond (eqb m 0) 16 (count_trailing_zeros 64 m)

counted-run : (bytes : List ℕ) → 16 ≤ length bytes → run_of (other_bits 16 bytes) ≡ prefix_len (λ b. not (is_other b)) (chunk 0 16 bytes)
counted-run bytes room = ap run_of (other-bits 16 bytes room (omega arith))
    ∙ first_set_mask_l is_other (chunk 0 16 bytes) 16 (length-chunk 0 16 bytes (omega arith)) (omega arith)

-- where a block has digits alone
pub digits_alone : (bytes : List ℕ) → 16 ≤ length bytes → ((k : ℕ) → Fits w8 (get_or bytes k 0)) → other_bits 16 bytes ≡ 0
    → list_all is_ascii_digit (take 16 bytes) ≡ true
digits_alone bytes room fits none = (run bytes 16 room fits (sym (ap run_of none) ∙ counted-run bytes room)).1

-- where it has another byte
digits-before : (bytes : List ℕ) → 16 ≤ length bytes → ((k : ℕ) → Fits w8 (get_or bytes k 0)) → other_bits 16 bytes ≢ 0
    → (count_trailing_zeros 64 (other_bits 16 bytes) ≤ 16)
    × (list_all is_ascii_digit (take (count_trailing_zeros 64 (other_bits 16 bytes)) bytes) ≡ true)
digits-before bytes room fits some =
    let m = other_bits 16 bytes in
    let test : eqb m 0 ≡ false = grind (arith, nat_tests, some) in
    run bytes (count_trailing_zeros 64 m) room fits (sym (ap (λ b. cond b 16 (count_trailing_zeros 64 m)) test) ∙ counted-run bytes room)

pub digits_few : (bytes : List ℕ) → 16 ≤ length bytes → ((k : ℕ) → Fits w8 (get_or bytes k 0)) → other_bits 16 bytes ≢ 0
    → count_trailing_zeros 64 (other_bits 16 bytes) ≤ 16
digits_few bytes room fits some = (digits-before bytes room fits some).0

pub digits_before : (bytes : List ℕ) → 16 ≤ length bytes → ((k : ℕ) → Fits w8 (get_or bytes k 0)) → other_bits 16 bytes ≢ 0
    → list_all is_ascii_digit (take (count_trailing_zeros 64 (other_bits 16 bytes)) bytes) ≡ true
digits_before bytes room fits some = (digits-before bytes room fits some).1

-- the bits of the first 32 bytes that are newlines
abbrev pub newline_bits : List ℕ → ℕ
newline_bits bytes = mask_l (map (top 7) (zip2 (λ a b. cond (eqb a b) 255 0) (chunk 0 32 bytes) (replicate 32 10))) % 2 ^ 64

newline-bits : (bytes : List ℕ) → 32 ≤ length bytes → newline_bits bytes ≡ mask_l (map (is_byte 10) (chunk 0 32 bytes))
newline-bits bytes room = bitmask_splat w8 eqb (chunk 0 32 bytes) 32 10 (length-chunk 0 32 bytes (omega arith)) (omega arith)

yes_from_one : (b : Bool) (n : ℕ) → n ≡ cond b 1 0 → n ≡ 1 → b ≡ true
yes_from_one true n e h = refl
yes_from_one false n e h = absurd (omega arith)

-- the lowest bit that is set stands for a lane
lane-of-bit : (ms : List Bool) (n : ℕ) → length ms ≡ n → n ≤ 64 → 0 < mask_l ms → count_trailing_zeros 64 (mask_l ms) < n
lane-of-bit ms n long small set =
    let r = count_trailing_zeros 64 (mask_l ms) in
    let fits : mask_l ms < 2 ^ 64 = subst (λ k. k < 2 ^ 64) (mask_l-mod ms 64 (omega arith)) (omega arith) in
    let bit : bit_at (mask_l ms) r ≡ 1 = (bit_at-trailing_zeros w64 (mask_l ms) set fits).1 in
    let yes : get_or ms r false ≡ true = yes_from_one (get_or ms r false) (bit_at (mask_l ms) r) (bit_mask_l ms r) bit in
    elim (cases_lt r n) [ inl l ↦ l | inr g ↦ let past = get_or_past ms r false (omega (arith, long, g)) in absurd cc ]

-- where a block has a newline
pub first_newline : (bytes : List ℕ) → 32 ≤ length bytes → newline_bits bytes ≢ 0
    → NoneBefore (Passes (is_byte 10) bytes) 0 (length bytes) (count_trailing_zeros 64 (newline_bits bytes))
    × Passes (is_byte 10) bytes (count_trailing_zeros 64 (newline_bits bytes))
first_newline bytes room some =
    let block = chunk 0 32 bytes in
    let long : length block ≡ 32 = length-chunk 0 32 bytes (omega arith) in
    let set : 0 < mask_l (map (is_byte 10) block) = omega (arith, some, newline-bits bytes room) in
    let r = count_trailing_zeros 64 (newline_bits bytes) in
    let same = ap (count_trailing_zeros 64) (newline-bits bytes room) in
    let counted : r ≡ prefix_len (λ b. not (is_byte 10 b)) block = same ∙ trailing_mask_l (is_byte 10) 64 block (omega (arith, long)) set in
    let few : r < 32 =
    omega (arith, same, lane-of-bit (map (is_byte 10) block) 32 (length-map block (is_byte 10) ∙ long) (omega arith) set) in (
      record {
        low = omega arith;
        high = omega (arith, few, room);
        before = λ k from l here. let not : is_byte 10 (get_or bytes k 0) ≡ false =
            run_in_chunk_fails (is_byte 10) bytes 0 32 r 0 (omega arith) counted k (omega arith) (omega (arith, l)) in absurd cc;
      },
      subst (Passes (is_byte 10) bytes) (zero-add r) (run_in_chunk_stops (is_byte 10) bytes 0 32 r 0 (omega arith) counted few),
    )
