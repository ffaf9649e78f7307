-- Blocks of bytes, compared all at once.
use Rattle.std.proofs.Common.{◌≡◌, ◌∙◌, ℕ, ◌+◌, ◌-◌, ◌≤◌, ◌%◌, ◌^◌, Bool, true, false, cond, eqb, eqb-true, suc, zero, get_or, List, []}
use Rattle.std.proofs.Common.{◌∷◌, ◌++◌, map, length, take, drop, replicate, refl, sym, ap, ap₂, arith, w8, take-append-drop}
use Rattle.std.proofs.lemmas.Bool.Decides.{nat_tests}
use Rattle.std.proofs.lemmas.List.{drop-drop, length-drop, length-take-le, take_all}
use Rattle.std.proofs.lemmas.Simd.{length-zip2, mask_l-mod, tops_compared}
use lib.Lanes.{chunk, mask_l, top, zip2}

-- a mask's bits tell what it was made of
pub masks-tell : (ms ns : List Bool) → length ms ≡ length ns → mask_l ms ≡ mask_l ns → ms ≡ ns
masks-tell [] [] l e = refl
masks-tell (true ∷ ms) (true ∷ ns) l e = ap (λ (t : List Bool). true ∷ t) (masks-tell ms ns (omega (arith, l)) (omega (arith, e)))
masks-tell (false ∷ ms) (false ∷ ns) l e = ap (λ (t : List Bool). false ∷ t) (masks-tell ms ns (omega (arith, l)) (omega (arith, e)))
masks-tell (true ∷ ms) (false ∷ ns) l e = absurd (omega (arith, e))
masks-tell (false ∷ ms) (true ∷ ns) l e = absurd (omega (arith, e))
masks-tell [] (n ∷ ns) l e = absurd (omega (arith, l))
masks-tell (m ∷ ms) [] l e = absurd (omega (arith, l))

-- the bits of the first 16 bytes that are equal
abbrev pub equal_bits : List ℕ → List ℕ → ℕ
equal_bits xs ys = mask_l (map (top 7) (zip2 (λ a b. cond (eqb a b) 255 0) (chunk 0 16 xs) (chunk 0 16 ys))) % 2 ^ 64

all-equal : (xs ys : List ℕ) (n : ℕ) → length xs ≡ n → length ys ≡ n → zip2 eqb xs ys ≡ replicate n true → xs ≡ ys
all-equal [] [] n l m e = refl
all-equal (x ∷ xs) (y ∷ ys) (suc n) l m e =
    ap₂ (λ (a : ℕ) (t : List ℕ). a ∷ t) (eqb-true x y (ap (λ (b : List Bool). get_or b 0 true) e))
    (all-equal xs ys n (omega (arith, l)) (omega (arith, m)) (ap (λ (b : List Bool). drop 1 b) e))
all-equal [] (y ∷ ys) n l m e = absurd (omega (arith, l, m))
all-equal (x ∷ xs) [] n l m e = absurd (omega (arith, l, m))
all-equal (x ∷ xs) (y ∷ ys) zero l m e = absurd (omega (arith, l))

same : (x : ℕ) → eqb x x ≡ true
same x = grind (arith, nat_tests)

equal-all : (xs : List ℕ) (n : ℕ) → length xs ≡ n → zip2 eqb xs xs ≡ replicate n true
equal-all [] zero l = refl
equal-all (x ∷ xs) (suc n) l = ap₂ (λ (b : Bool) (t : List Bool). b ∷ t) (same x) (equal-all xs n (omega (arith, l)))
equal-all [] (suc n) l = absurd (omega (arith, l))
equal-all (x ∷ xs) zero l = absurd (omega (arith, l))

bits-of : (xs ys : List ℕ) → 16 ≤ length xs → 16 ≤ length ys → equal_bits xs ys ≡ mask_l (zip2 eqb (take 16 xs) (take 16 ys))
bits-of xs ys room space =
    let long = length-zip2 eqb (take 16 xs) (take 16 ys) (omega (arith, length-take-le 16 xs room, length-take-le 16 ys space)) in
    ap (λ ms. mask_l ms % 2 ^ 64) (tops_compared w8 eqb (take 16 xs) (take 16 ys))
    ∙ mask_l-mod (zip2 eqb (take 16 xs) (take 16 ys)) 64 (omega (arith, long, length-take-le 16 xs room))

-- they are equal iff all those bits are set
pub alike_from : (xs ys : List ℕ) → 16 ≤ length xs → 16 ≤ length ys → equal_bits xs ys ≡ 65535 → take 16 xs ≡ take 16 ys
alike_from xs ys room space e =
    let a = length-take-le 16 xs room in
    let b = length-take-le 16 ys space in
    let lanes = zip2 eqb (take 16 xs) (take 16 ys) in
    let long = length-zip2 eqb (take 16 xs) (take 16 ys) (omega (arith, a, b)) in
    all-equal (take 16 xs) (take 16 ys) 16 a b (masks-tell lanes (replicate 16 true) (long ∙ a) (sym (bits-of xs ys room space) ∙ e))

pub alike_to : (xs ys : List ℕ) → 16 ≤ length xs → 16 ≤ length ys → take 16 xs ≡ take 16 ys → equal_bits xs ys ≡ 65535
alike_to xs ys room space e =
    bits-of xs ys room space ∙ ap (λ (t : List ℕ). mask_l (zip2 eqb (take 16 xs) t)) (sym e)
    ∙ ap (λ (ms : List Bool). mask_l ms) (equal-all (take 16 xs) 16 (length-take-le 16 xs room))

-- what stands from a place on, as a range of a slice says it
abbrev last_of : List ℕ → ℕ → List ℕ
last_of xs i = take (length xs - i) (drop i xs)

whole-rest : (xs : List ℕ) (i : ℕ) → last_of xs i ≡ drop i xs
whole-rest xs i = take_all (length xs - i) (drop i xs) (omega (arith, length-drop i xs))

-- texts of 16 to 32 bytes whose first 16 are the same and whose last 16 are
pub ends_tell : (xs ys : List ℕ) (n : ℕ) → length xs ≡ n → length ys ≡ n → 16 ≤ n → n ≤ 32
    → take 16 xs ≡ take 16 ys → take 16 (last_of xs (n - 16)) ≡ take 16 (last_of ys (n - 16)) → xs ≡ ys
ends_tell xs ys n l m low high first last =
    let back : drop (n - 16) xs ≡ drop (n - 16) ys =
    sym (take_all 16 (drop (n - 16) xs) (omega (arith, length-drop (n - 16) xs, l)))
    ∙ ap (λ (t : List ℕ). take 16 t) (sym (whole-rest xs (n - 16))) ∙ last ∙ ap (λ (t : List ℕ). take 16 t) (whole-rest ys (n - 16))
    ∙ take_all 16 (drop (n - 16) ys) (omega (arith, length-drop (n - 16) ys, m)) in
    let at : n - 16 + (32 - n) ≡ 16 = omega (arith, low, high) in
    let rest : drop 16 xs ≡ drop 16 ys =
    ap (λ (k : ℕ). drop k xs) (sym at) ∙ sym (drop-drop (32 - n) (n - 16) xs) ∙ ap (λ (t : List ℕ). drop (32 - n) t) back
    ∙ drop-drop (32 - n) (n - 16) ys ∙ ap (λ (k : ℕ). drop k ys) at in
    sym (take-append-drop 16 xs) ∙ ap₂ (λ (a b : List ℕ). a ++ b) first rest ∙ take-append-drop 16 ys
