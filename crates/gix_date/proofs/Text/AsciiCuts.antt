-- Texts of ASCII, and where a text may be cut: after ASCII.
use Rattle.std.proofs.Common.{◌≡◌, ℕ, ◌+◌, ◌-◌, ◌<◌, ◌≤◌, Bool, true, cond, List, [], ◌∷◌, length, get_or, Some, None, refl, arith, ap}
use Rattle.std.proofs.Common.{subst, zero, suc, IsAscii, ◌++◌, ◌∙◌, length-append}
use Rattle.std.proofs.lemmas.Bool.{and_parts as both, and_from}
use Rattle.std.proofs.lemmas.Bool.Decides.{nat_tests}
use Rattle.std.proofs.lemmas.List.Sums.{prefix_len-le-length, prefix_len_passes}
use Rattle.std.proofs.lemmas.Str.{IsCharBoundary-after_ascii, IsCharBoundary-at_seam, IsCharBoundary-start, IsUtf8-from_ascii}
use Rattle.std.proofs.lemmas.Str.Ascii.{IsAscii-nil, IsAscii-cons}
use Rattle.std.specs.Char.{is_ascii_digit, is_ascii_alphabetic}
use Rattle.std.specs.List.{prefix_len, list_all}
use Rattle.std.specs.Prelude.{◌&&◌}
use Rattle.std.specs.Str.{IsCharBoundary, IsUtf8}
use Rattle.gix_date.specs.Text.Numbers.{two_digit_value}
use Rattle.std.proofs.lemmas.List.Folds.{list_all-append}
use Rattle.gix_date.specs.Text.Characters.{is_space}

pub digit_is_ascii : (c : ℕ) → is_ascii_digit c ≡ true → c < 128
digit_is_ascii c h = grind (arith, nat_tests, h)

pub letter_is_ascii : (c : ℕ) → is_ascii_alphabetic c ≡ true → c < 128
letter_is_ascii c h = grind (arith, nat_tests, h)

pub space_is_ascii : (c : ℕ) → is_space c ≡ true → c < 128
space_is_ascii c h = grind (arith, nat_tests, h)

-- a list passes a test where both its parts do
pub all-append : {X : Type 0} (p : X → Bool) (xs ys : List X) → list_all p xs ≡ true → list_all p ys ≡ true → list_all p (xs ++ ys) ≡ true
all-append p xs ys h k = list_all-append p xs ys ∙ and_from (list_all p xs) (list_all p ys) h k

-- after a front of bytes that are ASCII
pub cut_rest : (p : ℕ → Bool) → ((c : ℕ) → p c ≡ true → c < 128) → (bs : List ℕ) (n : ℕ) → IsUtf8 bs → n ≤ prefix_len p bs
    → IsCharBoundary bs n
cut_rest p ascii bs zero u h = IsCharBoundary-start bs u
cut_rest p ascii bs (suc n) u h = subst (IsCharBoundary bs) (omega arith) (IsCharBoundary-after_ascii bs n u
    (omega (arith, prefix_len-le-length p bs)) (ascii (get_or bs n 0) (prefix_len_passes p bs n 0 (omega arith))))

-- the digits, or the spaces, that a text begins with end where no character is cut
pub digits_end : (text : List ℕ) → IsUtf8 text → IsCharBoundary text (prefix_len is_ascii_digit text)
digits_end text u = cut_rest is_ascii_digit digit_is_ascii text _ u (omega arith)

pub spaces_end : (text : List ℕ) → IsUtf8 text → IsCharBoundary text (prefix_len is_space text)
spaces_end text u = cut_rest is_space space_is_ascii text _ u (omega arith)

-- so does an empty front
pub empty_end : (text : List ℕ) → IsUtf8 text → IsCharBoundary text 0
empty_end text u = IsCharBoundary-start text u

-- and its first byte, if it is ASCII
pub first_end : (text : List ℕ) → IsUtf8 text → 0 < length text → get_or text 0 0 < 128 → IsCharBoundary text 1
first_end text u long small = IsCharBoundary-after_ascii text 0 u long small

-- ASCII is UTF-8
pub ascii_is_utf8 : (text : List ℕ) → IsAscii text → IsUtf8 text
ascii_is_utf8 text ascii = IsUtf8-from_ascii text ascii

-- a text whose bytes pass a test that passes ASCII alone
pub ascii-by : (p : ℕ → Bool) → ((c : ℕ) → p c ≡ true → c < 128) → (t : List ℕ) → list_all p t ≡ true → IsAscii t
ascii-by p ascii [] h = IsAscii-nil
ascii-by p ascii (c ∷ t) h = let parts = both (p c) (list_all p t) h in IsAscii-cons c t (ascii c parts.0) (ascii-by p ascii t parts.1)

second_holds : (p q : Bool) (n m : ℕ) → Some m ≡ cond (p && q) (Some n) None → q ≡ true
second_holds true true n m h = refl
second_holds p q n m h = cc

ones_ascii : (tens ones m : ℕ) → Some m ≡ two_digit_value tens ones → ones < 128
ones_ascii tens ones m h = digit_is_ascii ones (second_holds (is_ascii_digit tens) (is_ascii_digit ones) _ m h)

-- after two digits, the second of which is this one
pub cut_pair : (bytes text : List ℕ) (last m : ℕ) → bytes ≡ text → IsUtf8 text → last < length bytes
    → Some m ≡ two_digit_value (get_or bytes (last - 1) 0) (get_or bytes last 0) → IsCharBoundary text (last + 1)
cut_pair bytes text last m e u n value =
    let ascii = ones_ascii (get_or bytes (last - 1) 0) (get_or bytes last 0) m value in
    IsCharBoundary-after_ascii text last u (omega (arith, ap length e)) (subst (λ bs. get_or bs last 0 < 128) e ascii)

-- where the rest of a text begins
pub rest_begins : (text rest : List ℕ) → (front : List ℕ) × (text ≡ front ++ rest) → IsUtf8 rest
    → IsCharBoundary text (length text - length rest)
rest_begins text rest (front, whole) utf8 =
    let same : length front ≡ length text - length rest = omega (arith, ap length whole, length-append front rest) in
    subst (λ (n : ℕ). IsCharBoundary text n) same (IsCharBoundary-at_seam text front rest whole utf8)

-- what stands after a byte of ASCII
pub byte_end : (bytes text : List ℕ) (place : ℕ) → bytes ≡ text → IsUtf8 text → place < length bytes → get_or bytes place 0 ≡ 32
    → IsCharBoundary text (place + 1)
byte_end bytes text place e u within byte =
    let same : get_or text place 0 ≡ 32 = subst (λ (bs : List ℕ). get_or bs place 0 ≡ 32) e byte in
    IsCharBoundary-after_ascii text place u (omega (arith, ap length e, within)) (omega (arith, same))
