-- What a text that is printed says: the fields of its clock.
use Rattle.std.proofs.Common.{◌≡◌, ◌∙◌, ◌≤◌, ◌+◌, ◌*◌, ◌/◌, ◌%◌, ℕ, suc, ℤ, pos, negsuc, ◌*ℤ◌, unsigned_abs, Bool, true, false, cond, List}
use Rattle.std.proofs.Common.{[], ◌∷◌, length, refl, ap, sym, subst, arith, None, Ok}
use Rattle.std.specs.Prelude.{◌==◌, nat_lt, int_lt}
use Rattle.std.specs.Fmt.{decimal}
use Rattle.std.proofs.lemmas.Bool.Decides.{nat_tests}
use Rattle.jiff_core.proofs.SignedLemmas.{signed_arith}
use Rattle.gix_date.specs.Fields.ClockNumbers.{hours_in, minutes_in}
use Rattle.gix_date.specs.Fields.Layout.{LocalTime}
use Rattle.gix_date.specs.Text.Characters.{minus, plus}
use Rattle.git_date.specs.Tokens.Tokens.{Token, tokens}
use Rattle.git_date.specs.Rules.Fields.{unknown}
use Rattle.git_date.specs.Rules.Offsets.{at_text}
use Rattle.git_date.specs.Exact.Reading.{nothing_read, steps, reading_of, fields_said, at_or_fields, string_said, said_by}
use Rattle.git_date.specs.Tokens.Strings.{nul}
use Rattle.git_date.specs.declared.fields.dates.Now.{Now}
use Rattle.git_date.specs.declared.fields.Fields.{Fields}
use Rattle.git_date.proofs.Rules.EnoughSteps.{enough, fewer}
use Rattle.git_date.proofs.Text.StringEnds.{has_nul, no-nul, whole-said}
use Rattle.git_date.proofs.Exact.PrintedClocks.{Word, Weekday, WeekdayComma, Month, Day, Year, Clock, Date, words_text, words_tokens}
use Rattle.git_date.proofs.Exact.PrintedClocks.{with_words, words_steps, AreWritten, words-are, words-read, IsGitClock, IsDayText}
use Rattle.git_date.proofs.Exact.PrintedClocks.{IsDateMark, bare-day, marked_strict_text, at, fields_of, signed, sign_of, is_behind}
use Rattle.git_date.proofs.Exact.PrintedClocks.{strict_tokens, strict-steps, strict-are}

pub reads-are : (now : Now) (text : List ℕ) (ts : List Token) (n : ℕ) (f : Fields) → tokens text ≡ ts → has_nul ts ≡ false → length ts ≤ n
    → at_text ts ≡ None
    → steps now n (at unknown) ts ≡ Ok (at f) → said_by now text ≡ fields_said text (Ok (at f))
unfolding string_said reading_of
reads-are now text ts n f e free fits none read =
    let few : length (tokens text) ≤ n = subst (λ (ts : List Token). length ts ≤ n) (sym e) fits in
    let reading : steps now (length text) nothing_read (tokens text) ≡ Ok (at f) =
    enough now (length text) n nothing_read (tokens text) (fewer text) few ∙ ap (steps now n nothing_read) e ∙ read in
    whole-said now text (no-nul text (ap has_nul e ∙ free)) ∙ ap (at_or_fields now text) (ap at_text e ∙ none)
    ∙ ap (fields_said text) reading

-- no NUL is printed
pub sign-free : (behind : Bool) → (cond behind minus plus == nul) ≡ false
sign-free true = refl
sign-free false = refl

free : (t : LocalTime) → (sign_of t == nul) ≡ false
free t = sign-free (is_behind t)

-- a date in words, a clock and an offset
words-said : (now : Now) (t : LocalTime) (ws : List Word) (n : ℕ) → IsGitClock t → AreWritten t None ws
    → has_nul (words_tokens t ws) ≡ false → at_text (words_tokens t ws) ≡ None
    → length (words_tokens t ws) ≤ words_steps ws n
    → said_by now (words_text t ws) ≡ fields_said (words_text t ws) (Ok (at (with_words t unknown ws)))
words-said now t ws n h are free none fits =
    reads-are now (words_text t ws) (words_tokens t ws) (words_steps ws n) (with_words t unknown ws) (words-are t h None ws are) free fits
    none (words-read t h now n unknown ws are)

-- by the mark between the date's numbers
abbrev pub marked_text : ℕ → LocalTime → List ℕ
marked_text mark t = words_text t (Date mark ∷ Clock ∷ [])

pub iso-reads : (mark : ℕ) → IsDateMark mark → (now : Now) (t : LocalTime) → IsGitClock t
    → said_by now (marked_text mark t) ≡ fields_said (marked_text mark t) (Ok (at (fields_of t)))
unfolding at_text
iso-reads mark is now t h = words-said now t (Date mark ∷ Clock ∷ []) 40 h (is, tt) (rw (is.no_nul, free t) refl) refl (omega arith)

pub strict-reads : (mark : ℕ) → IsDateMark mark → (now : Now) (t : LocalTime) → IsGitClock t
    → said_by now (marked_strict_text mark t) ≡ fields_said (marked_strict_text mark t) (Ok (at (fields_of t)))
unfolding at_text
strict-reads mark is now t h =
    reads-are now (marked_strict_text mark t) (strict_tokens mark t) 40 (fields_of t) (strict-are mark t is h) (rw (is.no_nul, free t) refl)
    (omega arith) refl (strict-steps mark now 37 t is h)

-- dates with names, by the text of their day
module _ (day : List ℕ) (now : Now) (t : LocalTime) (h : IsGitClock t) (is : IsDayText t.date.day day) where
  abbrev Reads : List Word → Type 0
  Reads ws = said_by now (words_text t ws) ≡ fields_said (words_text t ws) (Ok (at (fields_of t)))

  pub mail-reads : Reads (WeekdayComma ∷ Day day ∷ Month ∷ Year ∷ Clock ∷ [])
  unfolding at_text
  mail-reads =
      words-said now t (WeekdayComma ∷ Day day ∷ Month ∷ Year ∷ Clock ∷ []) 40 h (refl, is, tt) (rw (free t) refl) refl (omega arith)

  pub default-reads : Reads (Weekday ∷ Month ∷ Day day ∷ Clock ∷ Year ∷ [])
  unfolding at_text
  default-reads = words-said now t (Weekday ∷ Month ∷ Day day ∷ Clock ∷ Year ∷ []) 40 h (refl, is, tt) (rw (free t) refl) refl (omega arith)

-- a day without a zero before it
pub bare-day-of : (t : LocalTime) → IsGitClock t → IsDayText t.date.day (decimal t.date.day)
bare-day-of t h = bare-day t.date.day (omega (arith, h.last_day))

-- the offset
pub minutes-back : (o : ℤ) → unsigned_abs o % 60 ≡ 0
    → pos 60 *ℤ signed (int_lt o (pos 0)) (60 * hours_in (unsigned_abs o) + minutes_in (unsigned_abs o)) ≡ o
minutes-back (pos n) h =
    let up : nat_lt n 0 ≡ false = grind (arith, nat_tests) in
    let whole : 60 * (60 * (n / 3600) + n % 3600 / 60) ≡ n = omega arith in
    rw up (omega (arith, signed_arith))
minutes-back (negsuc n) h =
    let whole : 60 * (60 * (suc n / 3600) + suc n % 3600 / 60) ≡ suc n = omega arith in
    omega (arith, signed_arith)
