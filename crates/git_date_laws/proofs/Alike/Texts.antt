-- Letter case and later lines.
use Rattle.std.proofs.Common.{◌≡◌, ◌∙◌, ◌≤◌, ◌+◌, ℕ, ℤ, Bool, true, false, cond, List, [], ◌∷◌, ◌++◌, length, refl, ap, ap₂, sym, arith}
use Rattle.std.proofs.Common.{length-append, Option, Some, None, option_map, Result, Ok, Err}
use Rattle.std.proofs.Math.Numerals.{one-add}
use Rattle.std.proofs.lemmas.List.{length-map}
use Rattle.std.specs.Char.{is_ascii_alphabetic, is_ascii_digit, to_ascii_lowercase}
use Rattle.std.specs.Str.{bytes_eq, str_to_ascii_lowercase}
use Rattle.std.proofs.lemmas.Str.Ascii.{lowercase-lowercase}
use Rattle.std.proofs.lemmas.Slice.Eq.{bytes_eq-Decides}
use Rattle.std.proofs.lemmas.Bool.Decides.{nat_tests}
use Rattle.gix_date.specs.Text.Characters.{newline}
use Rattle.gix_date.specs.Text.Names.{is_name}
use Rattle.git_date.specs.Tokens.Tokens.{Token, Letters, Mark, letter_before, digit_before, tokens, bytes_left}
use Rattle.git_date.specs.Rules.Dates.{exact_seconds}
use Rattle.git_date.specs.Rules.Offsets.{at_text}
use Rattle.git_date.specs.Exact.Reading.{nothing_read, steps, reading_of, place_in, by_seconds, fields_said, at_or_fields, said_up_to}
use Rattle.git_date.specs.Exact.Reading.{string_said, said_by}
use Rattle.git_date.specs.Tokens.Strings.{before_nul, nul_place}
use Rattle.git_date.specs.Types.Names.{Now}
use Rattle.git_date.specs.Types.Names.{Fault}
use Rattle.git_date.specs.Types.FaultCases.{NumberTooLarge, BackTooFar, YearRefused, Range}
use Rattle.git_date.specs.Types.Names.{Reading}
use Rattle.git_date.proofs.Text.TokenRuns.{texts_are}
use Rattle.git_date_laws.specs.Texts.Lines.{AreComplete}
use Rattle.git_date.proofs.Rules.EnoughSteps.{enough, fewer}
use Rattle.git_date_laws.proofs.Alike.Spelling.{IsSpelling}
use Rattle.git_date_laws.proofs.Alike.Changed.{after, changed, farther, read_farther}
use Rattle.git_date_laws.proofs.Alike.ChangedSteps.{IsClosed, IsClosedAt, steps-is, at-is}
use Rattle.git_date_laws.proofs.Alike.Cuts.{before-lower, place-lower, said-at-more}

-- what is said then
same-places : (text other : List ℕ) (k : ℕ) (ignored : Option ℕ) → length other ≡ length text + k
    → option_map (place_in other) (option_map (λ left. left + k) ignored) ≡ option_map (place_in text) ignored
same-places text other k None e = refl
same-places text other k (Some left) e = ap Some (omega arith)

same-seconds : (text other : List ℕ) (k : ℕ) (r : Reading) (seconds : Option ℤ) → length other ≡ length text + k
    → by_seconds other (farther k r) seconds ≡ by_seconds text r seconds
same-seconds text other k r None e = refl
same-seconds text other k r (Some seconds) e = grind (arith, same-places)

same-fields : (text other : List ℕ) (k : ℕ) (read : Result Reading Fault) → length other ≡ length text + k
    → fields_said other (read_farther k read) ≡ fields_said text read
unfolding fields_said
same-fields text other k (Ok r) e = same-seconds text other k r (exact_seconds r.fields) e
same-fields text other k (Err (NumberTooLarge left)) e = grind (arith)
same-fields text other k (Err (BackTooFar left)) e = grind (arith)
same-fields text other k (Err (YearRefused left)) e = grind (arith)
same-fields text other k (Err Range) e = refl

module _ (spell : List ℕ → List ℕ) (same : IsSpelling spell) (stop : Option (List Token)) (now : Now) (text other : List ℕ)
    (read : tokens other ≡ changed spell stop (tokens text)) (long : length other ≡ length text + bytes_left (after stop)) where
  reading-same : IsClosed stop (tokens text) → reading_of now other ≡ read_farther (bytes_left (after stop)) (reading_of now text)
  unfolding reading_of
  reading-same closed =
      let less : length (tokens text) ≤ length text = fewer text in
      let within : length (tokens text) ≤ length other = omega arith in
      ap (steps now (length other) nothing_read) read ∙ steps-is spell same stop now (length other) nothing_read (tokens text) closed
      ∙ ap (read_farther (bytes_left (after stop))) (enough now (length other) (length text) nothing_read (tokens text) within less)

  at-or-same : (found : Option (ℕ × ℤ)) → IsClosed stop (tokens text) → at_or_fields now other found ≡ at_or_fields now text found
  at-or-same (Some found) closed = refl
  at-or-same None closed = ap (fields_said other) (reading-same closed)
      ∙ same-fields text other (bytes_left (after stop)) (reading_of now text) long

  said-same : IsClosed stop (tokens text) → IsClosedAt stop (tokens text) → string_said now other ≡ string_said now text
  unfolding string_said
  said-same closed closed_at =
      ap (at_or_fields now other) (ap at_text read ∙ at-is spell same stop (tokens text) closed_at)
      ∙ at-or-same (at_text (tokens text)) closed

-- letter case
twice : (word : List ℕ) → str_to_ascii_lowercase (str_to_ascii_lowercase word) ≡ str_to_ascii_lowercase word
twice [] = refl
twice (c ∷ word) = ap₂ ◌∷◌ (lowercase-lowercase c) (twice word)

pub in_lower_case : IsSpelling str_to_ascii_lowercase
in_lower_case = record {
  named = λ word name. ap (λ (bytes : List ℕ). bytes_eq bytes (str_to_ascii_lowercase name)) (twice word);
  sized = λ word. length-map word to_ascii_lowercase;
}

lower-letter : (c : ℕ) → is_ascii_alphabetic c ≡ true → is_ascii_alphabetic (to_ascii_lowercase c) ≡ true
lower-letter c h = grind (arith, nat_tests)

lower-other : (c : ℕ) → is_ascii_alphabetic c ≡ false → to_ascii_lowercase c ≡ c
lower-other c h = grind (arith, nat_tests)

abbrev pub lowered : List Token → List Token
lowered ts = changed str_to_ascii_lowercase None ts

lower-letters : (c : ℕ) (ts : List Token) → letter_before (to_ascii_lowercase c) (lowered ts) ≡ lowered (letter_before c ts)
lower-letters c (Letters run ∷ more) = refl
lower-letters c ts = refl

lower-digits : (c : ℕ) (ts : List Token) → digit_before c (lowered ts) ≡ lowered (digit_before c ts)
lower-digits c (Letters run ∷ more) = refl
lower-digits c ts = refl

abbrev byte_by : Bool → Bool → ℕ → List Token → List Token
byte_by letter digit c ts = cond letter (letter_before c ts) (cond digit (digit_before c ts) (Mark c ∷ ts))

lower-plain : (digit : Bool) (c : ℕ) (ts : List Token) → byte_by false digit c (lowered ts) ≡ lowered (byte_by false digit c ts)
lower-plain true c ts = lower-digits c ts
lower-plain false c ts = refl

lower-byte : (letter : Bool) (c : ℕ) (ts : List Token) → is_ascii_alphabetic c ≡ letter
    → byte_by (is_ascii_alphabetic (to_ascii_lowercase c)) (is_ascii_digit (to_ascii_lowercase c)) (to_ascii_lowercase c) (lowered ts)
    ≡ lowered (byte_by (is_ascii_alphabetic c) (is_ascii_digit c) c ts)
lower-byte true c ts e = rw (lower-letter c e, e) (lower-letters c ts)
lower-byte false c ts e = rw (lower-other c e, e) (lower-plain (is_ascii_digit c) c ts)

pub tokens-lower : (text : List ℕ) → tokens (str_to_ascii_lowercase text) ≡ lowered (tokens text)
unfolding tokens
tokens-lower [] = refl
tokens-lower (c ∷ text) =
    ap (byte_by (is_ascii_alphabetic (to_ascii_lowercase c)) (is_ascii_digit (to_ascii_lowercase c)) (to_ascii_lowercase c))
    (tokens-lower text)
    ∙ lower-byte (is_ascii_alphabetic c) c (tokens text) refl

string-said-lower : (now : Now) (text : List ℕ) → string_said now (str_to_ascii_lowercase text) ≡ string_said now text
string-said-lower now text =
    let long : length (str_to_ascii_lowercase text) ≡ length text + 0 = omega (arith, length-map text to_ascii_lowercase) in
    said-same str_to_ascii_lowercase in_lower_case None now text (str_to_ascii_lowercase text) (tokens-lower text) long tt tt

said-lower : (now : Now) (text : List ℕ) → said_by now (str_to_ascii_lowercase text) ≡ said_by now text
unfolding said_by
said-lower now text = grind (arith, place-lower, before-lower, string-said-lower)

pub equal-bytes : (a b : List ℕ) → bytes_eq a b ≡ true → a ≡ b
equal-bytes a b h = (bytes_eq-Decides a b).0 h

pub same-case : (now : Now) (text other : List ℕ) → is_name text other ≡ true → said_by now text ≡ said_by now other
same-case now text other same =
    sym (said-lower now text) ∙ ap (said_by now) (equal-bytes (str_to_ascii_lowercase text) (str_to_ascii_lowercase other) same)
    ∙ said-lower now other

-- later lines
abbrev as_written : List ℕ → List ℕ
as_written word = word

written : IsSpelling as_written
written = record { named = λ word name. refl; sized = λ word. refl }

abbrev with_lines : List Token → List Token → List Token
with_lines lines ts = changed as_written (Some lines) ts

lines-letters : (lines : List Token) (c : ℕ) (ts : List Token)
    → letter_before c (with_lines lines ts) ≡ with_lines lines (letter_before c ts)
lines-letters lines c (Letters run ∷ more) = refl
lines-letters lines c ts = refl

lines-digits : (lines : List Token) (c : ℕ) (ts : List Token) → digit_before c (with_lines lines ts) ≡ with_lines lines (digit_before c ts)
lines-digits lines c (Letters run ∷ more) = refl
lines-digits lines c ts = refl

lines-byte : (lines : List Token) (letter digit : Bool) (c : ℕ) (ts : List Token)
    → byte_by letter digit c (with_lines lines ts) ≡ with_lines lines (byte_by letter digit c ts)
lines-byte lines true digit c ts = lines-letters lines c ts
lines-byte lines false true c ts = lines-digits lines c ts
lines-byte lines false false c ts = refl

tokens-lines : (lines text : List ℕ) → tokens (text ++ newline ∷ lines) ≡ with_lines (tokens lines) (tokens text)
unfolding tokens
tokens-lines lines [] = refl
tokens-lines lines (c ∷ text) =
    ap (byte_by (is_ascii_alphabetic c) (is_ascii_digit c) c) (tokens-lines lines text)
    ∙ lines-byte (tokens lines) (is_ascii_alphabetic c) (is_ascii_digit c) c (tokens text)

same-string-lines : (now : Now) (text lines : List ℕ) → AreComplete (tokens text)
    → string_said now (text ++ newline ∷ lines) ≡ string_said now text
same-string-lines now text lines complete =
    let left : bytes_left (Mark newline ∷ tokens lines) ≡ length (newline ∷ lines) =
    ap (λ (bytes : List ℕ). length (newline ∷ bytes)) (texts_are lines) in
    let long : length (text ++ newline ∷ lines) ≡ length text + bytes_left (Mark newline ∷ tokens lines) =
    omega (arith, length-append text (newline ∷ lines)) in
    said-same as_written written (Some (tokens lines)) now text (text ++ newline ∷ lines) (tokens-lines lines text) long complete.0
    complete.1

-- a NUL in later lines is ignored
newline-first : (lines : List ℕ) → before_nul (newline ∷ lines) ≡ newline ∷ before_nul lines
unfolding before_nul
newline-first lines = rw one-add refl

pub same-lines : (now : Now) (text lines : List ℕ) → AreComplete (tokens text)
    → said_by now (text ++ newline ∷ lines) ≡ said_up_to (nul_place (text ++ newline ∷ lines)) (said_by now text)
same-lines now text lines complete = grind (arith, said-at-more, newline-first, same-string-lines)
