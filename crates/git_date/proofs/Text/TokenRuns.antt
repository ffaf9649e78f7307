-- What stands first among the tokens of a text.
use Rattle.std.proofs.Common.{◌≡◌, ◌<◌, ◌≤◌, ℕ, ◌+◌, Bool, true, false, cond, List, [], ◌∷◌, length, take, drop, get_or, refl, ap, sym, ◌∙◌}
use Rattle.std.proofs.Common.{arith}
use Rattle.std.proofs.Math.ListN.{length-append}
use Rattle.std.proofs.Math.Numerals.{one-add}
use Rattle.std.proofs.lemmas.Bool.Decides.{nat_tests}
use Rattle.std.proofs.lemmas.List.Sums.{prefix_len-le-length}
use Rattle.std.specs.List.{prefix_len}
use Rattle.std.specs.Char.{is_ascii_alphabetic, is_ascii_digit}
use Rattle.git_date.specs.Tokens.Tokens.{Token, Letters, Digits, Mark, letter_before, digit_before, tokens, texts}

-- how long runs and their texts are
pub ruleset run_lengths = (length-append, prefix_len-le-length)

-- the texts of the tokens are the text
letter-text : (c : ℕ) (ts : List Token) → texts (letter_before c ts) ≡ c ∷ texts ts
letter-text c (Letters run ∷ more) = refl
letter-text c ts = refl

digit-text : (c : ℕ) (ts : List Token) → texts (digit_before c ts) ≡ c ∷ texts ts
digit-text c (Letters run ∷ more) = refl
digit-text c ts = refl

byte-text : (letter digit : Bool) (c : ℕ) (ts : List Token)
    → texts (cond letter (letter_before c ts) (cond digit (digit_before c ts) (Mark c ∷ ts))) ≡ c ∷ texts ts
byte-text true digit c ts = letter-text c ts
byte-text false true c ts = digit-text c ts
byte-text false false c ts = refl

pub texts_are : (text : List ℕ) → texts (tokens text) ≡ text
unfolding tokens
texts_are [] = refl
texts_are (c ∷ text) = byte-text (is_ascii_alphabetic c) (is_ascii_digit c) c (tokens text) ∙ ap (λ rest. c ∷ rest) (texts_are text)

-- no letters stand first where no letter does
letter-alone : (c d : ℕ) (digit : Bool) (ts : List Token)
    → letter_before c (cond digit (digit_before d ts) (Mark d ∷ ts)) ≡ Letters (c ∷ []) ∷ cond digit (digit_before d ts) (Mark d ∷ ts)
letter-alone c d true (Letters run ∷ more) = refl
letter-alone c d x ts = refl

digit-alone : (c d : ℕ) (letter : Bool) (ts : List Token)
    → digit_before c (cond letter (letter_before d ts) (Mark d ∷ ts)) ≡ Digits (c ∷ []) ∷ cond letter (letter_before d ts) (Mark d ∷ ts)
digit-alone c d true (Letters run ∷ more) = refl
digit-alone c d x ts = refl

-- a letter, a digit, a mark first
pub letter-first : (c : ℕ) (text : List ℕ) → is_ascii_alphabetic c ≡ true → tokens (c ∷ text) ≡ letter_before c (tokens text)
unfolding tokens
letter-first c text e =
    ap (λ b. cond b (letter_before c (tokens text)) (cond (is_ascii_digit c) (digit_before c (tokens text)) (Mark c ∷ tokens text))) e

other-first : (c : ℕ) (text : List ℕ) → is_ascii_alphabetic c ≡ false
    → tokens (c ∷ text) ≡ cond (is_ascii_digit c) (digit_before c (tokens text)) (Mark c ∷ tokens text)
unfolding tokens
other-first c text e =
    ap (λ b. cond b (letter_before c (tokens text)) (cond (is_ascii_digit c) (digit_before c (tokens text)) (Mark c ∷ tokens text))) e

pub digit-first : (c : ℕ) (text : List ℕ) → is_ascii_digit c ≡ true → tokens (c ∷ text) ≡ digit_before c (tokens text)
digit-first c text e =
    let no : is_ascii_alphabetic c ≡ false = grind (arith, nat_tests, e) in
    other-first c text no ∙ ap (λ b. cond b (digit_before c (tokens text)) (Mark c ∷ tokens text)) e

no-digit-first : (c : ℕ) (text : List ℕ) → is_ascii_digit c ≡ false
    → tokens (c ∷ text) ≡ cond (is_ascii_alphabetic c) (letter_before c (tokens text)) (Mark c ∷ tokens text)
unfolding tokens
no-digit-first c text e =
    ap (λ b. cond (is_ascii_alphabetic c) (letter_before c (tokens text)) (cond b (digit_before c (tokens text)) (Mark c ∷ tokens text))) e

pub mark-first : (c : ℕ) (text : List ℕ) → is_ascii_alphabetic c ≡ false → is_ascii_digit c ≡ false
    → tokens (c ∷ text) ≡ Mark c ∷ tokens text
mark-first c text e f = other-first c text e ∙ ap (λ b. cond b (digit_before c (tokens text)) (Mark c ∷ tokens text)) f

-- what a run is, by the test at its end
letters-by : (c d : ℕ) (text : List ℕ) (n : ℕ) (b : Bool) → is_ascii_alphabetic c ≡ true → is_ascii_alphabetic d ≡ b
    → (b ≡ true → tokens (d ∷ text) ≡ Letters (d ∷ take n text) ∷ tokens (drop n text))
    → tokens (c ∷ d ∷ text) ≡ Letters (c ∷ take (cond b (1 + n) 0) (d ∷ text)) ∷ tokens (drop (cond b (1 + n) 0) (d ∷ text))
letters-by c d text n true e f run = rw one-add (letter-first c (d ∷ text) e ∙ ap (letter_before c) (run refl))
letters-by c d text n false e f run =
    letter-first c (d ∷ text) e ∙ ap (letter_before c) (other-first d text f) ∙ letter-alone c d (is_ascii_digit d) (tokens text)
    ∙ ap (λ ts. Letters (c ∷ []) ∷ ts) (sym (other-first d text f))

letters-run : (c : ℕ) (text : List ℕ) → is_ascii_alphabetic c ≡ true
    → tokens (c ∷ text)
    ≡ Letters (c ∷ take (prefix_len is_ascii_alphabetic text) text) ∷ tokens (drop (prefix_len is_ascii_alphabetic text) text)
unfolding tokens
letters-run c [] e = letter-first c [] e
letters-run c (d ∷ text) e = letters-by c d text (prefix_len is_ascii_alphabetic text) (is_ascii_alphabetic d) e refl (letters-run d text)

digits-by : (c d : ℕ) (text : List ℕ) (n : ℕ) (b : Bool) → is_ascii_digit c ≡ true → is_ascii_digit d ≡ b
    → (b ≡ true → tokens (d ∷ text) ≡ Digits (d ∷ take n text) ∷ tokens (drop n text))
    → tokens (c ∷ d ∷ text) ≡ Digits (c ∷ take (cond b (1 + n) 0) (d ∷ text)) ∷ tokens (drop (cond b (1 + n) 0) (d ∷ text))
digits-by c d text n true e f run = rw one-add (digit-first c (d ∷ text) e ∙ ap (digit_before c) (run refl))
digits-by c d text n false e f run =
    digit-first c (d ∷ text) e ∙ ap (digit_before c) (no-digit-first d text f) ∙ digit-alone c d (is_ascii_alphabetic d) (tokens text)
    ∙ ap (λ ts. Digits (c ∷ []) ∷ ts) (sym (no-digit-first d text f))

digits-run : (c : ℕ) (text : List ℕ) → is_ascii_digit c ≡ true
    → tokens (c ∷ text) ≡ Digits (c ∷ take (prefix_len is_ascii_digit text) text) ∷ tokens (drop (prefix_len is_ascii_digit text) text)
unfolding tokens
digits-run c [] e = digit-first c [] e
digits-run c (d ∷ text) e = digits-by c d text (prefix_len is_ascii_digit text) (is_ascii_digit d) e refl (digits-run d text)

-- the same, with the length of the whole run
whole : (p : ℕ → Bool) (C : List ℕ → Token) (c : ℕ) (text : List ℕ) (k n : ℕ) (b : Bool) → b ≡ true → n ≡ cond b (1 + k) 0
    → tokens (c ∷ text) ≡ C (c ∷ take k text) ∷ tokens (drop k text)
    → tokens (c ∷ text) ≡ C (take n (c ∷ text)) ∷ tokens (drop n (c ∷ text))
whole p C c text k n true e is run = rw (is, one-add) run
whole p C c text k n false e is run = absurd cc

pub letters-whole : (c : ℕ) (text : List ℕ) (n : ℕ) → is_ascii_alphabetic c ≡ true → n ≡ prefix_len is_ascii_alphabetic (c ∷ text)
    → tokens (c ∷ text) ≡ Letters (take n (c ∷ text)) ∷ tokens (drop n (c ∷ text))
letters-whole c text n e is =
    whole is_ascii_alphabetic Letters c text (prefix_len is_ascii_alphabetic text) n (is_ascii_alphabetic c) e is (letters-run c text e)

pub digits-whole : (c : ℕ) (text : List ℕ) (n : ℕ) → is_ascii_digit c ≡ true → n ≡ prefix_len is_ascii_digit (c ∷ text)
    → tokens (c ∷ text) ≡ Digits (take n (c ∷ text)) ∷ tokens (drop n (c ∷ text))
digits-whole c text n e is =
    whole is_ascii_digit Digits c text (prefix_len is_ascii_digit text) n (is_ascii_digit c) e is (digits-run c text e)

-- the same of a text that is not empty, as the code has it
pub letters_front : (text : List ℕ) (n : ℕ) (run rest : List ℕ) → 1 ≤ length text → is_ascii_alphabetic (get_or text 0 0) ≡ true
    → n ≡ prefix_len is_ascii_alphabetic text
    → run ≡ take n text → rest ≡ drop n text → tokens text ≡ Letters run ∷ tokens rest
letters_front [] n run rest h e is f g = absurd (omega arith)
letters_front (c ∷ text) n run rest h e is f g = rw (f, g) (letters-whole c text n e is)

pub digits_front : (text : List ℕ) (n : ℕ) (run rest : List ℕ) → 1 ≤ length text → is_ascii_digit (get_or text 0 0) ≡ true
    → n ≡ prefix_len is_ascii_digit text
    → run ≡ take n text → rest ≡ drop n text → tokens text ≡ Digits run ∷ tokens rest
digits_front [] n run rest h e is f g = absurd (omega arith)
digits_front (c ∷ text) n run rest h e is f g = rw (f, g) (digits-whole c text n e is)

pub mark_front : (text rest : List ℕ) → 1 ≤ length text → is_ascii_alphabetic (get_or text 0 0) ≡ false
    → is_ascii_digit (get_or text 0 0) ≡ false
    → rest ≡ drop 1 text → tokens text ≡ Mark (get_or text 0 0) ∷ tokens rest
mark_front [] rest h e f g = absurd (omega arith)
mark_front (c ∷ text) rest h e f g = rw g (mark-first c text e f)

pub nothing_first : (text : List ℕ) → length text < 1 → tokens text ≡ []
unfolding tokens
nothing_first [] h = refl
nothing_first (c ∷ text) h = absurd (omega arith)
