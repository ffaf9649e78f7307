-- Neighbours among tokens.
use Rattle.std.proofs.Common.{ℕ, Bool, true, false, cond, List, [], ◌∷◌}
use Rattle.std.specs.Char.{is_ascii_alphabetic, is_ascii_digit}
use Rattle.git_date.specs.Tokens.Tokens.{Token, Letters, Digits, Mark, tokens, letter_before, digit_before}
use Rattle.git_date_laws.specs.Laws.{IsApart, AreApart}

-- a letter, a digit, any byte before tokens
longer-letters : (c : ℕ) (run : List ℕ) (more : List Token) → IsApart (Letters run) more → IsApart (Letters (c ∷ run)) more
longer-letters c run (Letters other ∷ more) h = h
longer-letters c run ts h = tt

longer-digits : (c : ℕ) (run : List ℕ) (more : List Token) → IsApart (Digits run) more → IsApart (Digits (c ∷ run)) more
longer-digits c run (Digits other ∷ more) h = h
longer-digits c run ts h = tt

after-letter : (c : ℕ) (ts : List Token) → AreApart ts → AreApart (letter_before c ts)
after-letter c [] h = (tt, tt)
after-letter c (Letters run ∷ more) h = (longer-letters c run more h.0, h.1)
after-letter c (Digits run ∷ more) h = (tt, h)
after-letter c (Mark byte ∷ more) h = (tt, h)

after-digit : (c : ℕ) (ts : List Token) → AreApart ts → AreApart (digit_before c ts)
after-digit c [] h = (tt, tt)
after-digit c (Letters run ∷ more) h = (tt, h)
after-digit c (Digits run ∷ more) h = (longer-digits c run more h.0, h.1)
after-digit c (Mark byte ∷ more) h = (tt, h)

after-mark : (c : ℕ) (ts : List Token) → AreApart ts → AreApart (Mark c ∷ ts)
after-mark c (Letters run ∷ more) h = (tt, h)
after-mark c ts h = (tt, h)

after-byte : (letter digit : Bool) (c : ℕ) (ts : List Token) → AreApart ts
    → AreApart (cond letter (letter_before c ts) (cond digit (digit_before c ts) (Mark c ∷ ts)))
after-byte true digit c ts h = after-letter c ts h
after-byte false true c ts h = after-digit c ts h
after-byte false false c ts h = after-mark c ts h

pub apart : (text : List ℕ) → AreApart (tokens text)
unfolding tokens
apart [] = tt
apart (c ∷ text) = after-byte (is_ascii_alphabetic c) (is_ascii_digit c) c (tokens text) (apart text)
