-- Names of three letters at the front of a text: where the letters name a month or a day of the week, and where not.
use Rattle.std.proofs.Common.{◌≡◌, ◌<◌, ◌≤◌, ℕ, true, false, List, [], ◌∷◌, length, drop, get_or, Option, Some, None, refl, sym, ap, subst}
use Rattle.std.proofs.Common.{arith, IsUtf8}
use Rattle.std.proofs.lemmas.Bool.{and_parts as both}
use Rattle.std.proofs.lemmas.Str.{IsCharBoundary-after_ascii}
use Rattle.std.specs.Char.{is_ascii_alphabetic}
use Rattle.std.specs.Prelude.{◌&&◌}
use Rattle.std.specs.Str.{IsCharBoundary}
use Rattle.gix_date.specs.Fields.DateFields.{read_name, read_month, skip_weekday, month_named, is_weekday}
use Rattle.gix_date.specs.Fields.FieldTexts.{AreThreeLetters}
use Rattle.gix_date.specs.Text.Front.{◌>>=◌}
use Rattle.gix_date.proofs.Text.AsciiCuts.{letter_is_ascii}

-- the first three bytes
abbrev pub three : List ℕ → List ℕ
three text = get_or text 0 0 ∷ get_or text 1 0 ∷ get_or text 2 0 ∷ []

-- the name there, and that no other is read
name-at : (text : List ℕ) → 3 ≤ length text → AreThreeLetters (three text) → read_name text ≡ Some (three text, drop 3 text)
unfolding read_name
name-at (a ∷ b ∷ c ∷ rest) n letters = rw letters refl
name-at text n letters = absurd (omega arith)

no-name-at : {A : Type 0} (text : List ℕ) (f : List ℕ × List ℕ → Option A) → ((rest : List ℕ) → f (three text, rest) ≡ None)
    → (read_name text >>= f) ≡ None
unfolding read_name
no-name-at (a ∷ b ∷ c ∷ rest) f h = grind (arith)
no-name-at text f h = refl

month-at : (text : List ℕ) (m : ℕ) → 3 ≤ length text → AreThreeLetters (three text) → month_named (three text) ≡ Some m
    → read_month text ≡ Some (m, drop 3 text)
unfolding read_month
month-at text m n letters e = rw (name-at text n letters, e) refl

no-month-at : (text : List ℕ) → month_named (three text) ≡ None → read_month text ≡ None
unfolding read_month
no-month-at text e = no-name-at text _ (λ rest. rw e refl)

day-at : (text : List ℕ) → 3 ≤ length text → AreThreeLetters (three text) → is_weekday (three text) ≡ true
    → skip_weekday text ≡ Some (drop 3 text)
unfolding skip_weekday
day-at text n letters e = rw (name-at text n letters, e) refl

no-day-at : (text : List ℕ) → is_weekday (three text) ≡ false → skip_weekday text ≡ None
unfolding skip_weekday
no-day-at text e = no-name-at text _ (λ rest. rw e refl)

-- shorter texts begin with neither
pub short_no_month : (text : List ℕ) → length text < 3 → read_month text ≡ None
unfolding read_month read_name
short_no_month (a ∷ b ∷ c ∷ rest) n = absurd (omega arith)
short_no_month text n = refl

-- the same of the bytes of a text

pub month_of_letters : (bytes text : List ℕ) (m : ℕ) → bytes ≡ text → 3 ≤ length bytes → AreThreeLetters (three bytes)
    → Some m ≡ month_named (three bytes)
    → read_month text ≡ Some (m, drop 3 text)
month_of_letters bytes text m e n letters is = subst (λ t. read_month t ≡ Some (m, drop 3 t)) e (month-at bytes m n letters (sym is))

pub no_month_of : (bytes text : List ℕ) → bytes ≡ text → None ≡ month_named (three bytes) → read_month text ≡ None
no_month_of bytes text e is = subst (λ t. read_month t ≡ None) e (no-month-at bytes (sym is))

pub day_of_letters : (bytes text : List ℕ) → bytes ≡ text → 3 ≤ length bytes → AreThreeLetters (three bytes)
    → is_weekday (three bytes) ≡ true
    → skip_weekday text ≡ Some (drop 3 text)
day_of_letters bytes text e n letters is = subst (λ t. skip_weekday t ≡ Some (drop 3 t)) e (day-at bytes n letters is)

pub no_day_of : (bytes text : List ℕ) → bytes ≡ text → is_weekday (three bytes) ≡ false → skip_weekday text ≡ None
no_day_of bytes text e is = subst (λ t. skip_weekday t ≡ None) e (no-day-at bytes is)

pub short_no_day : (text : List ℕ) → length text < 3 → skip_weekday text ≡ None
unfolding skip_weekday read_name
short_no_day (a ∷ b ∷ c ∷ rest) n = absurd (omega arith)
short_no_day text n = refl

-- a text may be cut after three letters
pub cut_three : (bytes text : List ℕ) → bytes ≡ text → IsUtf8 text → 3 ≤ length bytes → AreThreeLetters (three bytes)
    → IsCharBoundary text 3
cut_three bytes text e u n letters =
    let last = both (is_ascii_alphabetic (get_or bytes 0 0) && is_ascii_alphabetic (get_or bytes 1 0))
    (is_ascii_alphabetic (get_or bytes 2 0)) letters in
    let third : get_or text 2 0 < 128 = subst (λ t. get_or t 2 0 < 128) e (letter_is_ascii (get_or bytes 2 0) last.1) in
    IsCharBoundary-after_ascii text 2 u (omega (arith, ap length e)) third
