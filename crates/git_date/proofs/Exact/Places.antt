-- Where the places of answers and refusals are: at characters of the text.
use Rattle.std.proofs.Common.{◌≡◌, ◌∙◌, ◌<◌, ◌-◌, ◌+◌, pos, nat_lt, option_map, ℕ, ℤ, Bool, true, false, cond, List, [], ◌∷◌, ◌++◌, length}
use Rattle.std.proofs.Common.{get_or, refl, ap, sym, subst, arith, append_assoc, length-append, Option, Some, None, IfSome, Result, Ok, Err}
use Rattle.std.proofs.lemmas.Str.{IsCharBoundary-before_ascii}
use Rattle.std.proofs.Math.Seq.{get_or-append_seam}
use Rattle.std.specs.Char.{is_ascii_alphabetic, is_ascii_digit}
use Rattle.std.specs.Int.Signed.{le_z}
use Rattle.std.specs.Option.{option_or}
use Rattle.std.proofs.lemmas.Bool.Decides.{nat_tests}
use Rattle.jiff.specs.Types.{TimeZone}
use Rattle.gix_date.proofs.Text.AsciiCuts.{digit_is_ascii, letter_is_ascii}
use Rattle.gix_date.specs.Fields.Zoned.{is_instant}
use Rattle.git_date.specs.Tokens.Tokens.{Token, Letters, Digits, Mark, token_text, letter_before, digit_before, tokens, texts}
use Rattle.git_date.specs.Rules.Dates.{exact_seconds}
use Rattle.git_date.specs.Rules.Offsets.{at_text}
use Rattle.git_date.specs.Tokens.Strings.{string_len, before_nul, nul_place}
use Rattle.git_date.specs.Exact.Reading.{nothing_read, reading_of, place_in, at_said, by_seconds, fields_said, at_or_fields, said_up_to}
use Rattle.git_date.specs.Exact.Reading.{string_said, said_by}
use Rattle.git_date.specs.Exact.Outcome.{date_at, date_in, said_in, at_offset, date_of, instant_seconds, IsPlaceIn, IsErrorIn, HasPlacesIn}
use Rattle.git_date.specs.Exact.Zones.{states_of}
use Rattle.git_date.specs.declared.fields.dates.Now.{Now}
use Rattle.git_date.specs.declared.error.DateError.{DateError}
use Rattle.git_date.specs.declared.error.DateError.TheVariants as error
use Rattle.git_date.specs.declared.error.Fault.{Fault}
use Rattle.git_date.specs.declared.error.Fault.TheVariants as fault
use Rattle.git_date.specs.declared.reader.Reading.{Reading}
use Rattle.git_date.specs.declared.reader.Said.{Said}
use Rattle.git_date.proofs.Rules.Kept.{IsKept, IsAt, IsReadAt, steps-at, either}
use Rattle.git_date.proofs.Text.StringEnds.{before-place, nul-place-in}
use Rattle.git_date.proofs.Text.TokenRuns.{texts_are}

-- a run has a byte, which is no part of a longer character
abbrev BeginsAscii : List ℕ → Type 0
BeginsAscii [] = ⊥
BeginsAscii (c ∷ run) = c < 128

abbrev IsRun : Token → Type 0
IsRun (Letters run) = BeginsAscii run
IsRun (Digits run) = BeginsAscii run
IsRun (Mark byte) = Unit {0}

abbrev pub AreRuns : List Token → Type 0
AreRuns [] = Unit {0}
AreRuns (t ∷ more) = IsRun t × AreRuns more

letter-runs : (c : ℕ) (ts : List Token) → c < 128 → AreRuns ts → AreRuns (letter_before c ts)
letter-runs c [] h runs = (h, tt)
letter-runs c (Letters run ∷ more) h runs = (h, runs.1)
letter-runs c (Digits run ∷ more) h runs = (h, runs)
letter-runs c (Mark byte ∷ more) h runs = (h, runs)

digit-runs : (c : ℕ) (ts : List Token) → c < 128 → AreRuns ts → AreRuns (digit_before c ts)
digit-runs c [] h runs = (h, tt)
digit-runs c (Letters run ∷ more) h runs = (h, runs)
digit-runs c (Digits run ∷ more) h runs = (h, runs.1)
digit-runs c (Mark byte ∷ more) h runs = (h, runs)

byte-runs : (letter digit : Bool) (c : ℕ) (ts : List Token) → is_ascii_alphabetic c ≡ letter → is_ascii_digit c ≡ digit → AreRuns ts
    → AreRuns (cond letter (letter_before c ts) (cond digit (digit_before c ts) (Mark c ∷ ts)))
byte-runs true digit c ts e f runs = letter-runs c ts (letter_is_ascii c e) runs
byte-runs false true c ts e f runs = digit-runs c ts (digit_is_ascii c f) runs
byte-runs false false c ts e f runs = (tt, runs)

pub runs-of : (text : List ℕ) → AreRuns (tokens text)
unfolding tokens
runs-of [] = tt
runs-of (c ∷ text) = byte-runs (is_ascii_alphabetic c) (is_ascii_digit c) c (tokens text) refl refl (runs-of text)

-- these tokens end the text
abbrev pub Ends : List ℕ → List Token → Type 0
Ends text ts = (front : List ℕ) × (text ≡ front ++ texts ts) × AreRuns ts

abbrev pub IsPlaceOf : List ℕ → ℕ → Type 0
IsPlaceOf text left = IsPlaceIn text (place_in text left)

place-at : (text front : List ℕ) (c : ℕ) (rest : List ℕ) → text ≡ front ++ c ∷ rest → c < 128 → IsPlaceOf text (length (c ∷ rest))
place-at text front c rest e h =
    let long : length text ≡ length front + length (c ∷ rest) = ap length e ∙ length-append front (c ∷ rest) in
    let place : length text - length (c ∷ rest) ≡ length front = omega arith in
    let byte : get_or text (length front) 0 ≡ c = ap (λ (bytes : List ℕ). get_or bytes (length front) 0) e
    ∙ get_or-append_seam front c rest 0 in
    let within : length front < length text = omega arith in
    subst (IsPlaceIn text) (sym place) (IsCharBoundary-before_ascii text (length front) within (omega (arith, byte)), within)

pub run-at : (text front run rest : List ℕ) → text ≡ front ++ (run ++ rest) → BeginsAscii run → IsPlaceOf text (length (run ++ rest))
run-at text front [] rest e h = absurd h
run-at text front (c ∷ run) rest e h = place-at text front c (run ++ rest) e h

pub kept : (text : List ℕ) → IsKept (Ends text) (IsPlaceOf text)
kept text = record {
  next = λ t more q. (q.0 ++ token_text t, q.1 ∙ sym (append_assoc q.0 (token_text t) (texts more)), q.2.1);
  at_letters = λ run more q. run-at text q.0 run (texts more) q.1 q.2.0;
  at_digits = λ run more q. run-at text q.0 run (texts more) q.1 q.2.0;
  at_mark = λ byte more h q. place-at text q.0 byte (texts more) q.1 h;
}

-- the places of what was read
abbrev IsReadIn : List ℕ → Result Reading Fault → Type 0
IsReadIn text read = IsReadAt (IsPlaceOf text) read

reading-at : (now : Now) (text : List ℕ) → IsReadIn text (reading_of now text)
unfolding reading_of
reading-at now text =
    steps-at (Ends text) (IsPlaceOf text) (kept text) now (length text) nothing_read (tokens text) ([], sym (texts_are text), runs-of text)
    tt

-- the places of what a text says
abbrev IsSaidIn : List ℕ → Result Said DateError → Type 0
IsSaidIn text (Ok said) = IfSome said.ignored (IsPlaceIn text)
IsSaidIn text (Err e) = IsErrorIn text e

pub ignored-in : (text : List ℕ) (ignored : Option ℕ) → IsAt (IsPlaceOf text) ignored
    → IfSome (option_map (place_in text) ignored) (IsPlaceIn text)
ignored-in text None h = tt
ignored-in text (Some left) h = h

seconds-in : (text : List ℕ) (r : Reading) (seconds : Option ℤ) → IsAt (IsPlaceOf text) r.ignored
    → IsSaidIn text (by_seconds text r seconds)
seconds-in text r None h = tt
seconds-in text r (Some seconds) h = either (IsSaidIn text) (is_instant seconds) _ _ (ignored-in text r.ignored h) tt

fields-in : (text : List ℕ) (read : Result Reading Fault) → IsReadIn text read → IsSaidIn text (fields_said text read)
unfolding fields_said
fields-in text (Ok r) h = seconds-in text r (exact_seconds r.fields) h
fields-in text (Err fault.Range) h = tt
fields-in text x h = h

at-in : (text : List ℕ) (found : ℕ × ℤ) → IsSaidIn text (at_said found)
unfolding at_said
at-in text (n, minutes) = either (IsSaidIn text) (is_instant (pos n)) _ _ tt tt

at-or-in : (now : Now) (text : List ℕ) (found : Option (ℕ × ℤ)) → IsSaidIn text (at_or_fields now text found)
at-or-in now text (Some found) = at-in text found
at-or-in now text None = fields-in text (reading_of now text) (reading-at now text)

string-said-in : (now : Now) (text : List ℕ) → IsSaidIn text (string_said now text)
unfolding string_said
string-said-in now text = at-or-in now text (at_text (tokens text))

-- a place before a NUL is one of the whole text, and so is that of the NUL
pub place-before : (text : List ℕ) (place : ℕ) → IsPlaceIn (before_nul text) place → IsPlaceIn text place
unfolding before_nul
place-before text place h = before-place text place h

pub error-before : (text : List ℕ) (e : DateError) → IsErrorIn (before_nul text) e → IsErrorIn text e
error-before text (error.NumberTooLarge place) h = place-before text place h
error-before text (error.BackTooFar place) h = place-before text place h
error-before text (error.YearRefused place) h = place-before text place h
error-before text error.Unreadable h = tt
error-before text error.Range h = tt

nul-in : (text : List ℕ) (b : Bool) → nat_lt (string_len text) (length text) ≡ b
    → IfSome (cond b (Some (string_len text)) None) (IsPlaceIn text)
nul-in text true e = nul-place-in text (grind (arith, nat_tests, e))
nul-in text false e = tt

pub up-to-in : (text : List ℕ) (ignored : Option ℕ) → IfSome ignored (IsPlaceIn (before_nul text))
    → IfSome (option_or ignored (nul_place text)) (IsPlaceIn text)
unfolding nul_place
up-to-in text None h = nul-in text (nat_lt (string_len text) (length text)) refl
up-to-in text (Some place) h = place-before text place h

said-up-to-in : (text : List ℕ) (said : Result Said DateError) → IsSaidIn (before_nul text) said
    → IsSaidIn text (said_up_to (nul_place text) said)
said-up-to-in text (Ok said) h = up-to-in text said.ignored h
said-up-to-in text (Err e) h = error-before text e h

said-in : (now : Now) (text : List ℕ) → IsSaidIn text (said_by now text)
unfolding said_by
said-in now text = said-up-to-in text (string_said now (before_nul text)) (string-said-in now (before_nul text))

-- the places of an answer
date-at-in : (text : List ℕ) (said : Said) (minutes : ℤ) → IfSome said.ignored (IsPlaceIn text) → HasPlacesIn text (date_at said minutes)
unfolding date_at
date-at-in text said minutes h = either (HasPlacesIn text) (le_z (pos 0) (instant_seconds said minutes)) _ _ h tt

local-in : (text : List ℕ) (said : Said) (offset : Option ℤ) → IfSome said.ignored (IsPlaceIn text) → HasPlacesIn text (date_in said offset)
local-in text said None h = tt
local-in text said (Some offset) h = date-at-in text said _ h

offset-in : (tz : TimeZone) (text : List ℕ) (said : Said) (offset : Option ℤ) → IfSome said.ignored (IsPlaceIn text)
    → HasPlacesIn text (at_offset tz said offset)
offset-in tz text said (Some minutes) h = date-at-in text said minutes h
offset-in tz text said None h = local-in text said (said_in (states_of tz) said) h

pub date-in : (tz : TimeZone) (text : List ℕ) (said : Result Said DateError) → IsSaidIn text said → HasPlacesIn text (date_of tz said)
date-in tz text (Ok said) h = offset-in tz text said said.offset h
date-in tz text (Err e) h = h

pub places : (tz : TimeZone) (now : Now) (text : List ℕ) → HasPlacesIn text (date_of tz (said_by now text))
places tz now text = date-in tz text (said_by now text) (said-in now text)
