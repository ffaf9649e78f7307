-- Texts that are read up to their first NUL: in letter case, and where more follows.
use Rattle.std.proofs.Common.{◌≡◌, ◌∙◌, ◌<◌, ℕ, nat_lt, cond, List, [], ◌∷◌, ◌++◌, length, take, refl, ap, ap₂, sym, arith, length-append}
use Rattle.std.proofs.Common.{Option, Some, None, Result, Ok, Err}
use Rattle.std.specs.Char.{to_ascii_lowercase}
use Rattle.std.specs.Option.{option_or}
use Rattle.std.specs.Str.{str_to_ascii_lowercase}
use Rattle.std.proofs.Math.Seq.{take-append-add}
use Rattle.std.proofs.lemmas.Bool.Decides.{nat_tests}
use Rattle.std.proofs.lemmas.List.{length-map, take-append-le, take-map}
use Rattle.git_date.specs.Approximate.Reading.{answer_up_to, string_guess, guess}
use Rattle.git_date.specs.Exact.Zones.{States}
use Rattle.git_date.specs.Exact.Reading.{said_up_to, string_said, said_by}
use Rattle.git_date.specs.Tokens.Strings.{string_len, before_nul, nul_place}
use Rattle.git_date.specs.Types.Names.{Now, Said}
use Rattle.git_date.specs.declared.approximate.Approximate.{Approximate}
use Rattle.git_date.specs.declared.error.DateError.{DateError}
use Rattle.git_date.proofs.Text.StringEnds.{within, first_len, same-len, longer-len, no_place, some_place_is, all_stand_before, all-said}

len-lower : (text : List ℕ) → string_len (str_to_ascii_lowercase text) ≡ string_len text
len-lower [] = refl
len-lower (c ∷ text) = ap₂ first_len (grind (arith, nat_tests)) (len-lower text)

pub before-lower : (text : List ℕ) → before_nul (str_to_ascii_lowercase text) ≡ str_to_ascii_lowercase (before_nul text)
unfolding before_nul
before-lower text = grind (arith, len-lower, take-map)

pub place-lower : (text : List ℕ) → nul_place (str_to_ascii_lowercase text) ≡ nul_place text
unfolding nul_place
place-lower text = ap₂ (λ (n all : ℕ). cond (nat_lt n all) (Some n) None) (len-lower text) (length-map text to_ascii_lowercase)

-- more that follows
pub same-before : (text more : List ℕ) → string_len (text ++ more) ≡ string_len text → before_nul (text ++ more) ≡ before_nul text
unfolding before_nul
same-before text more e = ap (λ (n : ℕ). take n (text ++ more)) e ∙ take-append-le (string_len text) text more (within text)

longer-before : (text more : List ℕ) → string_len text ≡ length text → before_nul (text ++ more) ≡ text ++ before_nul more
unfolding before_nul
longer-before text more e = grind (arith, longer-len, take-append-add)

-- a NUL stands in the text, or not
by-nul : (text : List ℕ) (P : Type 0) → (string_len text < length text → P) → (string_len text ≡ length text → P) → P
by-nul text P some none = grind (arith, nat_lt, nat_tests, within)

-- what a reader of texts without NUL makes of any text: `up` adds a place to what is ignored
module _ (A : Type 0) (up : Option ℕ → A → A) (of : List ℕ → A)
    (first : (other : Option ℕ) (place : ℕ) (x : A) → up other (up (Some place) x) ≡ up (Some place) x)
    (none : (x : A) → up None x ≡ x) where
  abbrev cut : List ℕ → A
  cut text = up (nul_place text) (of (before_nul text))

  whole : (text : List ℕ) → string_len text ≡ length text → cut text ≡ of text
  whole text e = (λ i. up (no_place text e i) (of (all_stand_before text e i))) ∙ none (of text)

  pub at-more : (text more : List ℕ) → (string_len text ≡ length text → of (text ++ before_nul more) ≡ of text)
      → cut (text ++ more) ≡ up (nul_place (text ++ more)) (cut text)
  at-more text more same =
      by-nul text _
      (λ less.
      let len = same-len text more less in
      let place : nul_place (text ++ more) ≡ Some (string_len text) =
      some_place_is (text ++ more) (omega (arith, len, less, length-append text more)) ∙ ap (λ (n : ℕ). Some n) len in
      ap (λ (x : List ℕ). up (nul_place (text ++ more)) (of x)) (same-before text more len)
      ∙ ap (λ (p : Option ℕ). up p (of (before_nul text))) place
      ∙ sym (first (nul_place (text ++ more)) (string_len text) (of (before_nul text)))
      ∙ ap (λ (p : Option ℕ). up (nul_place (text ++ more)) (up p (of (before_nul text)))) (sym (some_place_is text less)))
      (λ all. ap (up (nul_place (text ++ more))) (ap of (longer-before text more all) ∙ same all ∙ sym (whole text all)))

-- the first place stays
first-or : (ignored other : Option ℕ) (place : ℕ) → option_or (option_or ignored (Some place)) other ≡ option_or ignored (Some place)
first-or None other place = refl
first-or (Some left) other place = refl

first-said : (other : Option ℕ) (place : ℕ) (said : Result Said DateError)
    → said_up_to other (said_up_to (Some place) said) ≡ said_up_to (Some place) said
first-said other place (Ok said) = ap (λ (ignored : Option ℕ). Ok (record said { ignored = ignored })) (first-or said.ignored other place)
first-said other place (Err e) = refl

pub said-at-more : (now : Now) (text more : List ℕ)
    → (string_len text ≡ length text → string_said now (text ++ before_nul more) ≡ string_said now text)
    → said_by now (text ++ more) ≡ said_up_to (nul_place (text ++ more)) (said_by now text)
unfolding said_by
said-at-more now text more same = at-more (Result Said DateError) said_up_to (string_said now) first-said all-said text more same

-- an answer up to a NUL, without what is ignored there
pub record IsUpTo (place : Option ℕ) (found : Result Approximate DateError) (date : Approximate) : Type 0 where
  pub before : Approximate
  pub is_found : found ≡ Ok before
  pub is : date ≡ record before { ignored = option_or before.ignored place }

pub same-ok : {A E : Type 0} (a b : A) → ◌≡◌ {A = Result A E} (Ok a) (Ok b) → a ≡ b
same-ok a b e = cc

up-to-parts : (place : Option ℕ) (found : Result Approximate DateError) (date : Approximate) → answer_up_to place found ≡ Ok date
    → IsUpTo place found date
up-to-parts place (Ok before) date e = record { before = before; is_found = refl; is = sym (same-ok _ date e) }
up-to-parts place (Err wrong) date e = absurd cc

pub answer-parts : (zone : States) (now : Now) (text : List ℕ) (date : Approximate) → guess zone now text ≡ Ok date
    → IsUpTo (nul_place text) (string_guess zone now (before_nul text)) date
unfolding guess
answer-parts zone now text date e = up-to-parts (nul_place text) (string_guess zone now (before_nul text)) date e
