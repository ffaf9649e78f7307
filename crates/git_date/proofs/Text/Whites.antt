-- White space first in a text: each byte of it is a token.
use Rattle.std.proofs.Common.{◌≡◌, ◌∙◌, ◌+◌, ℕ, Bool, true, false, cond, List, [], ◌∷◌, drop, refl, ap, sym, arith}
use Rattle.std.proofs.Math.Numerals.{one-add}
use Rattle.std.proofs.lemmas.Bool.Decides.{nat_tests}
use Rattle.std.specs.Char.{is_ascii_alphabetic, is_ascii_digit}
use Rattle.std.specs.List.{prefix_len}
use Rattle.git_date.specs.Tokens.Tokens.{Token, Letters, Digits, Mark, letter_before, digit_before, tokens}
use Rattle.git_date.specs.Rules.Offsets.{is_white, white, without_white}
use Rattle.git_date.proofs.Text.TokenRuns.{mark-first}

abbrev is_white_byte : ℕ → Bool
is_white_byte byte = is_white (Mark byte)

white-by : (t : Token) (more : List Token) (b : Bool) → is_white t ≡ b → white (t ∷ more) ≡ cond b (1 + white more) 0
unfolding white
white-by t more b e = ap (λ (b : Bool). cond b (1 + white more) 0) e

without-by : (t : Token) (more : List Token) (b : Bool) → is_white t ≡ b → without_white (t ∷ more) ≡ cond b (without_white more) (t ∷ more)
unfolding without_white
without-by t more b e = ap (λ (b : Bool). cond b (without_white more) (t ∷ more)) e

-- tokens that begin with no white space
abbrev IsSolid : List Token → Type 0
IsSolid ts = (white ts ≡ 0) × (without_white ts ≡ ts)

letter-solid : (c : ℕ) (ts : List Token) → IsSolid (letter_before c ts)
unfolding white without_white
letter-solid c (Letters run ∷ more) = (refl, refl)
letter-solid c ts = (refl, refl)

digit-solid : (c : ℕ) (ts : List Token) → IsSolid (digit_before c ts)
unfolding white without_white
digit-solid c (Digits run ∷ more) = (refl, refl)
digit-solid c ts = (refl, refl)

byte-solid : (letter digit : Bool) (c : ℕ) (ts : List Token) → is_white_byte c ≡ false
    → IsSolid (cond letter (letter_before c ts) (cond digit (digit_before c ts) (Mark c ∷ ts)))
byte-solid true digit c ts e = letter-solid c ts
byte-solid false true c ts e = digit-solid c ts
byte-solid false false c ts e = (white-by (Mark c) ts false e, without-by (Mark c) ts false e)

solid : (c : ℕ) (text : List ℕ) → is_white_byte c ≡ false → IsSolid (tokens (c ∷ text))
unfolding tokens
solid c text e = byte-solid (is_ascii_alphabetic c) (is_ascii_digit c) c (tokens text) e

mark : (c : ℕ) (text : List ℕ) → is_white_byte c ≡ true → tokens (c ∷ text) ≡ Mark c ∷ tokens text
mark c text e =
    let letter : is_ascii_alphabetic c ≡ false = grind (arith, nat_tests, e) in
    let digit : is_ascii_digit c ≡ false = grind (arith, nat_tests, e) in
    mark-first c text letter digit

-- what so many bytes first are
abbrev IsSkipped : List ℕ → ℕ → Type 0
IsSkipped text n = (n ≡ white (tokens text)) × (tokens (drop n text) ≡ without_white (tokens text))

skipped-by : (c : ℕ) (text : List ℕ) (n : ℕ) (b : Bool) → is_white_byte c ≡ b → IsSkipped text n → IsSkipped (c ∷ text) (cond b (1 + n) 0)
skipped-by c text n true e h =
    let more : white (tokens (c ∷ text)) ≡ 1 + white (tokens text) = ap white (mark c text e) ∙ white-by (Mark c) (tokens text) true e in
    let rest : without_white (tokens (c ∷ text)) ≡ without_white (tokens text) = ap without_white (mark c text e)
    ∙ without-by (Mark c) (tokens text) true e in
    (ap (λ (n : ℕ). 1 + n) h.0 ∙ sym more, rw one-add (h.1 ∙ sym rest))
skipped-by c text n false e h = (sym (solid c text e).0, sym (solid c text e).1)

skipped : (text : List ℕ) → IsSkipped text (prefix_len is_white_byte text)
unfolding tokens white without_white
skipped [] = (refl, refl)
skipped (c ∷ text) = skipped-by c text (prefix_len is_white_byte text) (is_white_byte c) refl (skipped text)

pub white_count : (text : List ℕ) (n : ℕ) → n ≡ prefix_len (λ byte. is_white (Mark byte)) text → n ≡ white (tokens text)
white_count text n e = e ∙ (skipped text).0

pub white_rest : (text rest : List ℕ) (n : ℕ) → n ≡ prefix_len (λ byte. is_white (Mark byte)) text → rest ≡ drop n text
    → tokens rest ≡ without_white (tokens text)
white_rest text rest n e is = rw (is, e) (skipped text).1
