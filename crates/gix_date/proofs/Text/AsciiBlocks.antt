-- Blocks of bytes that are ASCII.
use Rattle.std.proofs.Common.{◌≡◌, ◌∙◌, ℕ, ◌+◌, ◌-◌, ◌<◌, ◌≤◌, ◌%◌, ◌^◌, true, cond, leb, leb-false, eqb, eqb-true, List, map, length, take}
use Rattle.std.proofs.Common.{drop, get_or, replicate, sym, ap, subst, inl, inr, arith, slice_range, IsAscii, w8}
use Rattle.std.proofs.lemmas.Bool.{cases_lt}
use Rattle.std.proofs.lemmas.List.{get_or-take, get_or-drop, get_or_past, length-map, length-take-le}
use Rattle.std.proofs.lemmas.Simd.{length-chunk, mask_l-mod, none_from_empty_mask, tops_compared, zip2_splat_left}
use lib.Lanes.{chunk, mask_l, top, zip2}

abbrev at_least : ℕ → ℕ → ℕ
at_least a b = cond (leb a b) 255 0

-- the bits that a vector of the first n bytes gives: which are at least 128
abbrev high_bits : ℕ → List ℕ → ℕ
high_bits n bytes = mask_l (map (top 7) (zip2 at_least (replicate n 128) (chunk 0 n bytes))) % 2 ^ 64

high-bits : (bytes : List ℕ) (n : ℕ) → n ≤ length bytes → n ≤ 64 → high_bits n bytes ≡ mask_l (map (leb 128) (chunk 0 n bytes))
high-bits bytes n within small =
    let block = chunk 0 n bytes in
    let long : length block ≡ n = length-chunk 0 n bytes (omega arith) in
    ap (λ ms. mask_l ms % 2 ^ 64) (tops_compared w8 leb (replicate n 128) block ∙ zip2_splat_left leb 128 n block long)
    ∙ mask_l-mod (map (leb 128) block) 64 (omega (arith, length-map block (leb 128)))

-- a vector that has no such bit is ASCII
pub block_is_ascii : (bytes : List ℕ) (n : ℕ) → n ≤ length bytes → n ≤ 64 → eqb (high_bits n bytes) 0 ≡ true → IsAscii (take n bytes)
block_is_ascii bytes n within small none i = elim (cases_lt i n) [
  | inl l ↦ subst (λ b. b < 128) (sym (get_or-take n bytes i 0 l))
      (leb-false 128 _ (none_from_empty_mask (leb 128) bytes 0 n 0 (omega arith) (sym (high-bits bytes n within small) ∙ eqb-true _ _ none)
      i (omega arith) (omega arith)))
  | inr g ↦ omega (arith, get_or_past (take n bytes) i 0 (omega (arith, length-take-le n bytes within)))
]

abbrev last_bytes : ℕ → List ℕ → List ℕ
last_bytes n bytes = slice_range bytes (length bytes - n) (length bytes)

-- a byte at or after n, of the last n
in-back : (bytes : List ℕ) (n i : ℕ) → n ≤ length bytes → length bytes ≤ n + n → n ≤ i
    → IsAscii (take n (last_bytes n bytes)) → get_or bytes i 0 < 128
in-back bytes n i within reach after back = elim (cases_lt i (length bytes)) [
  | inl l ↦
      let start = length bytes - n in
      let k = i - start in
      let at : start + k ≡ i = omega arith in
      subst (λ b. b < 128)
      (get_or-take n (last_bytes n bytes) k 0 (omega arith) ∙ get_or-take (length bytes - start) (drop start bytes) k 0 (omega arith)
      ∙ get_or-drop start bytes k 0 ∙ ap (λ j. get_or bytes j 0) at) (back k)
  | inr g ↦ omega (arith, get_or_past bytes i 0 g)
]

-- the first n bytes and the last n cover the bytes
pub ends-are-ascii : (bytes : List ℕ) (n : ℕ) → n ≤ length bytes → length bytes ≤ n + n
    → IsAscii (take n bytes) → IsAscii (take n (last_bytes n bytes)) → IsAscii bytes
ends-are-ascii bytes n within reach front back i = elim (cases_lt i n) [
  | inl l ↦ subst (λ b. b < 128) (get_or-take n bytes i 0 l) (front i)
  | inr g ↦ in-back bytes n i within reach g back
]
