-- Where a text ends, and what is said up to there.
use Rattle.std.proofs.Common.{◌≡◌, ◌∙◌, ◌≤◌, ◌<◌, ◌+◌, ℕ, nat_lt, Bool, true, false, cond, List, [], ◌∷◌, ◌++◌, length, take, get_or, refl}
use Rattle.std.proofs.Common.{ap, sym, arith, Option, Some, None, Result, Ok, Err}
use Rattle.std.specs.Prelude.{◌==◌, ◌||◌, not}
use Rattle.std.specs.Char.{is_ascii_alphabetic, is_ascii_digit}
use Rattle.std.specs.List.{list_any}
use Rattle.std.specs.Option.{option_or}
use Rattle.std.proofs.Math.Numerals.{one-add}
use Rattle.std.proofs.lemmas.Bool.{or_parts}
use Rattle.std.proofs.lemmas.Bool.Decides.{nat_tests}
use Rattle.std.proofs.lemmas.List.{take_all, get_or-take}
use Rattle.std.proofs.lemmas.List.Folds.{length-prefix_len}
use Rattle.std.proofs.lemmas.List.Sums.{prefix_len-le-length}
use Rattle.std.proofs.lemmas.Str.{IsCharBoundary-before_ascii}
use Rattle.git_date.specs.Approximate.Reading.{answer_up_to, string_guess, guess}
use Rattle.git_date.specs.Exact.Zones.{States}
use Rattle.git_date.specs.Exact.Outcome.{IsPlaceIn}
use Rattle.git_date.specs.Exact.Reading.{said_up_to, string_said, said_by}
use Rattle.git_date.specs.Tokens.Strings.{nul, string_len, before_nul, nul_place}
use Rattle.git_date.specs.Tokens.Tokens.{Token, Letters, Digits, Mark, letter_before, digit_before, tokens}
use Rattle.git_date.specs.declared.approximate.Approximate.{Approximate}
use Rattle.git_date.specs.declared.fields.dates.Now.{Now}
use Rattle.git_date.specs.declared.error.DateError.{DateError}
use Rattle.git_date.specs.declared.reader.Said.{Said}

-- how long a string is
pub within : (text : List ℕ) → string_len text ≤ length text
within text = prefix_len-le-length (λ byte. not (byte == nul)) text

-- by the first byte
abbrev pub first_len : Bool → ℕ → ℕ
first_len is_nul n = cond (not is_nul) (1 + n) 0

-- a text holds a NUL, or none
pub holds_none : (text : List ℕ) → list_any (λ byte. byte == nul) text ≡ false → string_len text ≡ length text
holds_none [] h = refl
holds_none (c ∷ text) h =
    let both = or_parts (c == nul) (list_any (λ byte. byte == nul) text) h in
    let rest : 1 + string_len text ≡ length (c ∷ text) = let all = holds_none text both.1 in omega (arith, all) in
    ap (λ (b : Bool). first_len b (string_len text)) both.0 ∙ rest

pub holds_one : (text : List ℕ) → list_any (λ byte. byte == nul) text ≡ true → string_len text < length text
holds_one [] h = absurd cc
holds_one (c ∷ text) h = by (c == nul) h (λ any. holds_one text any)
  where
    by : (b : Bool) → (b || list_any (λ byte. byte == nul) text) ≡ true
        → (list_any (λ byte. byte == nul) text ≡ true → string_len text < length text)
        → first_len b (string_len text) < length (c ∷ text)
    by true h rest = omega arith
    by false h rest = let less = rest h in omega (arith, less)

-- a NUL in a text has the same place whatever follows it
pub same-len : (text more : List ℕ) → string_len text < length text → string_len (text ++ more) ≡ string_len text
same-len [] more h = absurd (omega arith)
same-len (c ∷ text) more h = by (c == nul) h (λ less. same-len text more less)
  where
    by : (b : Bool) → first_len b (string_len text) < length (c ∷ text)
        → (string_len text < length text → string_len (text ++ more) ≡ string_len text)
        → first_len b (string_len (text ++ more)) ≡ first_len b (string_len text)
    by true h same = refl
    by false h same = ap (λ (n : ℕ). 1 + n) (same (omega (arith, h)))

-- a text without NUL goes on in what follows it
pub longer-len : (text more : List ℕ) → string_len text ≡ length text → string_len (text ++ more) ≡ length text + string_len more
longer-len [] more h = omega arith
longer-len (c ∷ text) more h = by (c == nul) h (λ all. longer-len text more all)
  where
    by : (b : Bool) → first_len b (string_len text) ≡ length (c ∷ text)
        → (string_len text ≡ length text → string_len (text ++ more) ≡ length text + string_len more)
        → first_len b (string_len (text ++ more)) ≡ length (c ∷ text) + string_len more
    by true h longer = absurd (omega (arith, h))
    by false h longer = let rest = longer (omega (arith, h)) in omega (arith, rest)

-- the byte at the place is a NUL
byte-is : (text : List ℕ) → string_len text < length text → get_or text (string_len text) 0 ≡ 0
byte-is [] h = refl
byte-is (c ∷ text) h = by (c == nul) refl h (λ less. byte-is text less)
  where
    by : (b : Bool) → (c == nul) ≡ b → first_len b (string_len text) < length (c ∷ text)
        → (string_len text < length text → get_or text (string_len text) 0 ≡ 0)
        → get_or (c ∷ text) (first_len b (string_len text)) 0 ≡ 0
    by true e h rest = grind (arith, nat_tests, e)
    by false e h rest = rw one-add (rest (omega (arith, h)))

-- tokens hold a NUL: only a mark is one
abbrev pub has_nul : List Token → Bool
has_nul [] = false
has_nul (Letters run ∷ more) = has_nul more
has_nul (Digits run ∷ more) = has_nul more
has_nul (Mark byte ∷ more) = (byte == nul) || has_nul more

letter-nul : (c : ℕ) (ts : List Token) → has_nul (letter_before c ts) ≡ has_nul ts
letter-nul c (Letters run ∷ more) = refl
letter-nul c ts = refl

digit-nul : (c : ℕ) (ts : List Token) → has_nul (digit_before c ts) ≡ has_nul ts
digit-nul c (Letters run ∷ more) = refl
digit-nul c ts = refl

abbrev byte_by : Bool → Bool → ℕ → List Token → List Token
byte_by letter digit c ts = cond letter (letter_before c ts) (cond digit (digit_before c ts) (Mark c ∷ ts))

none-first : (letter digit : Bool) (c : ℕ) (ts : List Token) → is_ascii_alphabetic c ≡ letter → is_ascii_digit c ≡ digit
    → has_nul (byte_by letter digit c ts) ≡ false
    → ((c == nul) ≡ false) × (has_nul ts ≡ false)
none-first true digit c ts e f h = (grind (arith, nat_tests, e), sym (letter-nul c ts) ∙ h)
none-first false true c ts e f h = (grind (arith, nat_tests, f), sym (digit-nul c ts) ∙ h)
none-first false false c ts e f h = or_parts (c == nul) (has_nul ts) h

pub no-nul : (text : List ℕ) → has_nul (tokens text) ≡ false → string_len text ≡ length text
unfolding tokens
no-nul [] h = refl
no-nul (c ∷ text) h =
    let both = none-first (is_ascii_alphabetic c) (is_ascii_digit c) c (tokens text) refl refl h in
    let rest : 1 + string_len text ≡ length (c ∷ text) = let all = no-nul text both.1 in omega (arith, all) in
    ap (λ (b : Bool). first_len b (string_len text)) both.0 ∙ rest

-- the text before a NUL and the place of this, by how long the string is
pub no_place : (text : List ℕ) → string_len text ≡ length text → nul_place text ≡ None
unfolding nul_place
no_place text e =
    let no : nat_lt (string_len text) (length text) ≡ false = grind (arith, nat_tests, e) in
    rw no refl

pub some_place_is : (text : List ℕ) → string_len text < length text → nul_place text ≡ Some (string_len text)
unfolding nul_place
some_place_is text h =
    let yes : nat_lt (string_len text) (length text) ≡ true = grind (arith, nat_tests, h) in
    rw yes refl

pub all_stand_before : (text : List ℕ) → string_len text ≡ length text → before_nul text ≡ text
unfolding before_nul
all_stand_before text e = take_all (string_len text) text (omega (arith, e))

-- what begins nowhere changes nothing
or-none : (ignored : Option ℕ) → option_or ignored None ≡ ignored
or-none None = refl
or-none (Some place) = refl

pub all-said : (said : Result Said DateError) → said_up_to None said ≡ said
all-said (Ok said) = ap (λ (ignored : Option ℕ). Ok (record said { ignored = ignored })) (or-none said.ignored)
all-said (Err e) = refl

pub all-answered : (found : Result Approximate DateError) → answer_up_to None found ≡ found
all-answered (Ok date) = ap (λ (ignored : Option ℕ). Ok (record date { ignored = ignored })) (or-none date.ignored)
all-answered (Err e) = refl

-- a text without NUL is read as a whole
pub whole-said : (now : Now) (text : List ℕ) → string_len text ≡ length text → said_by now text ≡ string_said now text
unfolding said_by
whole-said now text e =
    (λ i. said_up_to (no_place text e i) (string_said now (all_stand_before text e i))) ∙ all-said (string_said now text)

pub whole-guess : (zone : States) (now : Now) (text : List ℕ) → string_len text ≡ length text
    → guess zone now text ≡ string_guess zone now text
unfolding guess
whole-guess zone now text e =
    (λ i. answer_up_to (no_place text e i) (string_guess zone now (all_stand_before text e i))) ∙ all-answered (string_guess zone now text)

-- a place before the NUL is one of the whole text
pub before-place : (text : List ℕ) (place : ℕ) → IsPlaceIn (take (string_len text) text) place → IsPlaceIn text place
before-place text place h =
    let long : length (take (string_len text) text) ≡ string_len text = length-prefix_len (λ byte. not (byte == nul)) text in
    let less : place < string_len text = let below = h.1 in omega (arith, long, below) in
    let short : place < length text = omega (arith, less, within text) in
    let same : get_or (take (string_len text) text) place 0 ≡ get_or text place 0 = get_or-take (string_len text) text place 0 less in
    ((omega arith, λ below large. let first = h.0.1 h.1 in omega (arith)), short)

-- so is the place of the NUL
pub nul-place-in : (text : List ℕ) → string_len text < length text → IsPlaceIn text (string_len text)
nul-place-in text h =
    let byte = byte-is text h in
    (IsCharBoundary-before_ascii text (string_len text) h (omega (arith, byte)), h)
