-- Letter case changes nothing of what the approximate reader makes of a text.
use Rattle.std.proofs.Common.{◌≡◌, ◌∙◌, ◌-◌, ℕ, zero, suc, Bool, cond, List, [], ◌∷◌, length, refl, ap, ap₂, arith, Option, Some, None}
use Rattle.std.proofs.Common.{Result, Ok, Err}
use Rattle.std.proofs.lemmas.List.{length-map}
use Rattle.std.specs.Char.{to_ascii_lowercase}
use Rattle.std.specs.Str.{str_to_ascii_lowercase}
use Rattle.gix_date.specs.Fields.Layout.{LocalTime}
use Rattle.gix_date.specs.declared.time.Time.{Time}
use Rattle.git_date.specs.Approximate.Reading.{Read, approximate_steps, draft_of, answer, answer_of, guess_by, string_guess, guess}
use Rattle.git_date.specs.Approximate.Drafts.{first_draft, ignore, settle}
use Rattle.git_date.specs.Approximate.Rules.{Ruled, word_by, read_word, are_digits_next, approximate_letters_rule, number_waits}
use Rattle.git_date.specs.Approximate.Rules.{group_or_number, approximate_digits_rule, understood}
use Rattle.git_date.specs.Approximate.Words.{meaning_of}
use Rattle.git_date.specs.Approximate.Zones.{shown_in}
use Rattle.git_date.specs.Exact.Zones.{States}
use Rattle.git_date.specs.Exact.Reading.{ended, error_of}
use Rattle.git_date.specs.Rules.Digits.{group_said}
use Rattle.git_date.specs.Tokens.Numbers.{number, is_too_large}
use Rattle.git_date.specs.Tokens.Steps.{and_then}
use Rattle.git_date.specs.Tokens.Tokens.{Token, Letters, Digits, Mark, tokens, bytes_left, walked}
use Rattle.git_date.specs.Types.FaultCases.{NumberTooLarge, BackTooFar, YearRefused, Range}
use Rattle.git_date.specs.Types.Names.{Today, Draft, Now, Fault, ZoneClock}
use Rattle.git_date.specs.declared.error.DateError.{DateError}
use Rattle.git_date.specs.declared.error.DateError.TheVariants as error
use Rattle.git_date_laws.proofs.Alike.Spelling.{IsSpelling, filler-agrees, meaning-agrees}
use Rattle.git_date_laws.proofs.Alike.Changed.{changed, farther_fault, SaidGroup, by-true, left-is, moved_said, said-is, ending-is}
use Rattle.git_date_laws.proofs.Alike.Texts.{in_lower_case, tokens-lower}
use Rattle.git_date_laws.proofs.Alike.Cuts.{place-lower, before-lower}

no-farther : (e : Fault) → farther_fault 0 e ≡ e
no-farther (NumberTooLarge left) = ap NumberTooLarge (omega arith)
no-farther (BackTooFar left) = ap BackTooFar (omega arith)
no-farther (YearRefused left) = ap YearRefused (omega arith)
no-farther Range = refl

module _ (spell : List ℕ → List ℕ) (same : IsSpelling spell) where
  -- the same tokens, so spelled, at the same places
  abbrev φ : List Token → List Token
  φ ts = changed spell None ts

  same-left : (ts : List Token) → bytes_left (φ ts) ≡ bytes_left ts
  same-left ts = omega (arith, left-is spell same None ts)

  -- letters
  next-same : (ts : List Token) → are_digits_next (φ ts) ≡ are_digits_next ts
  next-same [] = refl
  next-same (Letters run ∷ more) = refl
  next-same ts = refl

  word-same : (d : Draft) (run : List ℕ) (left : ℕ) (ruled : Ruled) → read_word d (spell run) left ruled ≡ read_word d run left ruled
  word-same d run left (Ok (Some next)) = refl
  word-same d run left (Ok None) = ap (λ (b : Bool). Ok (cond b d (ignore d left))) (filler-agrees spell same run)
  word-same d run left (Err e) = refl

  letters-same : (zone : States) (today : LocalTime) (d : Draft) (run : List ℕ) (more : List Token)
      → approximate_letters_rule zone today d (spell run) (φ more) ≡ approximate_letters_rule zone today d run more
  unfolding approximate_letters_rule
  letters-same zone today d run more =
      let left = bytes_left (Letters run ∷ more) in
      (λ i. cond (next-same more i) (Ok (ignore d (same-left (Letters run ∷ more) i)))
      (read_word d (spell run) (same-left (Letters run ∷ more) i)
      (word_by zone today d (same-left (Letters run ∷ more) i) (meaning-agrees spell same run i))))
      ∙ ap (λ (given : Result Draft Fault). cond (are_digits_next more) (Ok (ignore d left)) given)
      (word-same d run left (word_by zone today d left (meaning_of run)))

  -- digits
  abbrev kept : Read → Read
  kept (Ok found) = Ok (found.0, φ found.1)
  kept (Err e) = Err e

  or-number-same : (d : Draft) (run : List ℕ) (more : List Token) (said : SaidGroup)
      → and_then (moved_said spell same None said) (λ said. Ok (group_or_number d run (φ more) said))
      ≡ kept (and_then said (λ said. Ok (group_or_number d run more said)))
  or-number-same d run more (Ok None) = ap (λ (left : ℕ). Ok (number_waits d run left, φ more)) (same-left (Digits run ∷ more))
  or-number-same d run more (Ok (Some found)) = refl
  or-number-same d run more (Err e) = ap (λ (e : Fault). Err e) (no-farther e)

  digits-same : (now : Now) (d : Draft) (run : List ℕ) (more : List Token)
      → approximate_digits_rule now d run (φ more) ≡ kept (approximate_digits_rule now d run more)
  unfolding approximate_digits_rule
  digits-same now d run more =
      let ready = understood (settle d) in
      by-true kept (is_too_large (number run)) _ _ _ _ (λ e. ap (λ (left : ℕ). Err (NumberTooLarge left)) (same-left (Digits run ∷ more)))
      (ap (λ (said : SaidGroup). and_then said (λ said. Ok (group_or_number ready run (φ more) said)))
      (said-is spell same None now ready.fields run more)
      ∙ or-number-same ready run more (group_said now ready.fields run more))

  ended-kept : (x : Read) → ended (kept x) ≡ kept (ended x)
  ended-kept (Ok found) = ap (λ (rest : List Token). Ok (found.0, rest)) (ending-is spell same None found.1)
  ended-kept (Err e) = refl

  -- steps
  abbrev go_on : States → Today → ℕ → Read → Result Draft Fault
  go_on zone today n step = and_then step (λ next. approximate_steps zone today n next.0 next.1)

  module _ (zone : States) (today : Today) (n : ℕ)
      (again : (d : Draft) (ts : List Token) → approximate_steps zone today n d (φ ts) ≡ approximate_steps zone today n d ts) where
    kept-on : (x : Read) → go_on zone today n (kept x) ≡ go_on zone today n x
    kept-on (Ok found) = again found.0 found.1
    kept-on (Err e) = refl

    letters-on : (more : List Token) (given : Result Draft Fault) → go_on zone today n (and_then given (λ next. Ok (next, φ more)))
        ≡ go_on zone today n (and_then given (λ next. Ok (next, more)))
    letters-on more (Ok d) = again d more
    letters-on more (Err e) = refl

  steps-same : (zone : States) (today : Today) (n : ℕ) (d : Draft) (ts : List Token)
      → approximate_steps zone today n d (φ ts) ≡ approximate_steps zone today n d ts
  unfolding walked
  steps-same zone today n d [] = refl
  steps-same zone today zero d (Letters run ∷ more) = refl
  steps-same zone today zero d (Digits run ∷ more) = refl
  steps-same zone today zero d (Mark byte ∷ more) = refl
  steps-same zone today (suc n) d (Letters run ∷ more) =
      ap (λ (given : Result Draft Fault). go_on zone today n (and_then given (λ next. Ok (next, φ more))))
      (letters-same zone today.shown.clock d run more)
      ∙ letters-on zone today n (λ d ts. steps-same zone today n d ts) more (approximate_letters_rule zone today.shown.clock d run more)
  steps-same zone today (suc n) d (Digits run ∷ more) =
      ap (λ (step : Read). go_on zone today n step)
      (ap (λ (step : Read). ended step) (digits-same today.now d run more) ∙ ended-kept (approximate_digits_rule today.now d run more))
      ∙ kept-on zone today n (λ d ts. steps-same zone today n d ts) (ended (approximate_digits_rule today.now d run more))
  steps-same zone today (suc n) d (Mark byte ∷ more) = steps-same zone today n d more

-- what a text of the same length comes to
answer-same : (text other : List ℕ) (d : Draft) (time : Option Time) → length other ≡ length text → answer other d time ≡ answer text d time
answer-same text other d None long = refl
answer-same text other d (Some time) long = grind (arith)

error-same : (text other : List ℕ) (e : Fault) → length other ≡ length text → error_of other e ≡ error_of text e
error-same text other (NumberTooLarge left) long = λ i. error.NumberTooLarge (long i - left)
error-same text other (BackTooFar left) long = λ i. error.BackTooFar (long i - left)
error-same text other (YearRefused left) long = λ i. error.YearRefused (long i - left)
error-same text other Range long = refl

answer-of-same : (zone : States) (today : Today) (text other : List ℕ) (given : Result Draft Fault) → length other ≡ length text
    → answer_of zone today other given ≡ answer_of zone today text given
answer-of-same zone today text other (Ok d) long = grind (arith, answer-same)
answer-of-same zone today text other (Err e) long = ap (λ (e : DateError). Err e) (error-same text other e long)

abbrev pub lower : List ℕ → List ℕ
lower text = str_to_ascii_lowercase text

lower-length : (text : List ℕ) → length (lower text) ≡ length text
lower-length text = length-map text to_ascii_lowercase

draft-lower : (zone : States) (today : Today) (text : List ℕ) → draft_of zone today (lower text) ≡ draft_of zone today text
unfolding draft_of
draft-lower zone today text =
    ap₂ (λ (n : ℕ) (ts : List Token). approximate_steps zone today n (first_draft today.shown) ts) (lower-length text) (tokens-lower text)
    ∙ steps-same str_to_ascii_lowercase in_lower_case zone today (length text) (first_draft today.shown) (tokens text)

guess-by-lower : (zone : States) (now : Now) (text : List ℕ) (shown : Option ZoneClock)
    → guess_by zone now (lower text) shown ≡ guess_by zone now text shown
guess-by-lower zone now text None = refl
guess-by-lower zone now text (Some shown) = grind (arith, draft-lower, answer-of-same, lower-length)

string-guess-lower : (zone : States) (now : Now) (text : List ℕ) → string_guess zone now (lower text) ≡ string_guess zone now text
unfolding string_guess
string-guess-lower zone now text = guess-by-lower zone now text (shown_in zone now.seconds)

pub guess-lower : (zone : States) (now : Now) (text : List ℕ) → guess zone now (lower text) ≡ guess zone now text
unfolding guess
guess-lower zone now text = grind (arith, place-lower, before-lower, string-guess-lower)
