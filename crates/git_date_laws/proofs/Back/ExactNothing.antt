-- The exact reader reads nothing in `n UNIT ago`: it knows no clock with a year.
use Rattle.std.proofs.Common.{◌≡◌, ◌∙◌, ◌<◌, ℕ, zero, suc, ◌/◌, ◌%◌, nat_le, nat_lt, true, false, cond, List, [], ◌∷◌, length, Option, Some}
use Rattle.std.proofs.Common.{None, Ok, Err, is_none, refl, ap, arith}
use Rattle.std.specs.Prelude.{codes, ◌==◌, ◌&&◌, ◌||◌, option_map, is_some}
use Rattle.std.proofs.lemmas.Bool.Decides.{nat_tests}
use Rattle.git_date.proofs.Rules.Kept.{either}
use Rattle.git_date.proofs.Exact.NoSeconds.{AreAll, Keeps, read-quiet, no-seconds}
use Rattle.git_date.specs.Rules.Dates.{last_year}
use Rattle.git_date.specs.Rules.Digits.{Stepped, min_epoch, is_epoch, bare_digits, four_digits, few_digits, or_month, digits_rule}
use Rattle.git_date.specs.Rules.Digits.{group_said}
use Rattle.git_date.specs.Rules.Fields.{unknown, with_clock}
use Rattle.git_date.specs.Rules.Groups.{group_of, marked_number, without_fraction}
use Rattle.git_date.specs.Tokens.Numbers.{number, is_too_large}
use Rattle.git_date.specs.Rules.Offsets.{at_text}
use Rattle.git_date.specs.Exact.Reading.{ended, nothing_read, read_on, steps, reading_of, fields_said, at_or_fields, string_said}
use Rattle.git_date.specs.Tokens.Tokens.{Token, Letters, Digits, Mark, tokens, walked}
use Rattle.git_date.specs.Rules.Words.{without_ending}
use Rattle.git_date.specs.Types.Names.{Now}
use Rattle.git_date.specs.declared.error.DateError.TheVariants.{Unreadable}
use Rattle.git_date.specs.Types.Names.{Fields}
use Rattle.git_date.specs.Types.Names.{Reading}
use Rattle.git_date.specs.Tokens.Steps.{and_then}
use Rattle.std.specs.Option.{option_or}

-- the year or the minute is unknown
abbrev pub Lacks : Option ℕ → Option ℕ → Type 0
Lacks year minute = (is_none minute || is_none year) ≡ true

abbrev pub AllLack : Option Fields → Type 0
AllLack o = Keeps Lacks o

-- digits
clock-lacks : (n : ℕ) → AllLack (with_clock unknown (n / 10_000) (n / 100 % 100) (n % 100))
unfolding with_clock
clock-lacks n = either AllLack (nat_le (n / 10_000) 24 && nat_le (n / 100 % 100) 59 && nat_le (n % 100) 60) _ None refl tt

four-lack : (n : ℕ) → AllLack (four_digits unknown n)
unfolding four_digits
four-lack n = either AllLack (nat_le n 1400 && true) _ _ refl (either AllLack (nat_lt 1900 n && nat_le n last_year) _ None refl tt)

year-lack : (n : ℕ) (o : Option ℕ) → AllLack (option_or (option_map (λ year. record unknown { year = Some year }) o) (or_month unknown n))
year-lack n (Some year) = refl
year-lack n None = either AllLack (nat_le 1 n && nat_le n 12 && true) _ None refl tt

few-lack : (width n : ℕ) → AllLack (few_digits unknown width n)
unfolding few_digits
few-lack width n = grind (arith, either, nat_le, year-lack)

-- a step that leaves all that follows, and no clock with a year
abbrev pub Lacking : List Token → Stepped → Type 0
Lacking more step = (next : Option Fields) × (step ≡ Ok (next, more)) × AllLack next

clock-next : (more : List Token) (o : Option Fields) → without_fraction more ≡ more
    → ◌≡◌ {A = Option Fields × List Token} (o, cond (is_some o) (without_fraction more) more) (o, more)
clock-next more (Some f) e = ap (λ (ts : List Token). (Some f, ts)) e
clock-next more None e = refl

pub bare-lacks : (run : List ℕ) (more : List Token) → without_fraction more ≡ more → (length run == 8) ≡ false
    → Lacking more (bare_digits unknown run more)
unfolding bare_digits
bare-lacks run more kept e =
    let n = number run in
    let clock = with_clock unknown (n / 10_000) (n / 100 % 100) (n % 100) in
    rw e
    (either (Lacking more) (length run == 6) _ _ (clock, ap (λ p. Ok p) (clock-next more clock kept), clock-lacks n)
    (either (Lacking more) (length run == 4) _ _ (four_digits unknown n, refl, four-lack n)
    (either (Lacking more) (length run == 1 || length run == 2) _ _ (few_digits unknown (length run) n, refl, few-lack (length run) n)
    (None, refl, tt))))

abbrev followed : ℕ → List ℕ → List Token → List Token
followed gap unit more = Mark gap ∷ Letters unit ∷ more

small : (n : ℕ) → n < min_epoch → (is_epoch unknown n ≡ false) × (is_too_large n ≡ false)
small n h = (grind (arith, nat_tests), grind (arith, nat_tests))

digits-lack : (now : Now) (run : List ℕ) (gap : ℕ) (unit : List ℕ) (more : List Token) → (length run == 8) ≡ false → number run < min_epoch
    → Lacking (followed gap unit more) (digits_rule now unknown run (followed gap unit more))
unfolding digits_rule group_said group_of marked_number without_fraction
digits-lack now run gap unit more e h =
    let tests = small (number run) h in rw (tests.0, tests.1) (bare-lacks run (followed gap unit more) refl e)

-- no digits follow
abbrev IsNoNumber : Token → Type 0
IsNoNumber (Letters run) = Unit {0}
IsNoNumber (Digits run) = ⊥
IsNoNumber (Mark byte) = Unit {0}

module _ (now : Now) (text digits : List ℕ) (gap : ℕ) (unit : List ℕ) (last : ℕ) (no_date : (length digits == 8) ≡ false)
    (no_epoch : number digits < min_epoch) where
  abbrev rest : List Token
  rest = followed gap unit (Mark last ∷ Letters (codes "ago") ∷ [])

  silent : (n : ℕ) (r : Reading) (ts : List Token) → Lacks r.fields.year r.fields.minute → AreAll IsNoNumber ts
      → fields_said text (steps now n r ts) ≡ Err Unreadable
  silent n r ts = no-seconds Lacks IsNoNumber (λ year minute e. e) (λ run q. absurd q) now (λ f run more e q. absurd q.0) text n r ts

  after-digits : (n left : ℕ) (s : Stepped) → Lacking rest s
      → fields_said text (and_then (ended s) (λ next. steps now n (read_on nothing_read left next.0) next.1)) ≡ Err Unreadable
  unfolding without_ending
  after-digits n left s found =
      rw found.1 (silent n (read_on nothing_read left found.0) rest (read-quiet Lacks nothing_read left found.0 refl found.2)
      (tt, (tt, (tt, (tt, tt)))))

  walked-over : (n : ℕ) → fields_said text (steps now n nothing_read (Digits digits ∷ rest)) ≡ Err Unreadable
  unfolding walked
  walked-over zero = silent zero nothing_read [] refl tt
  walked-over (suc n) = after-digits n _ (digits_rule now unknown digits rest) (digits-lack now digits gap unit _ no_date no_epoch)

  -- the exact reader reads nothing
  pub nothing-said : tokens text ≡ Digits digits ∷ rest → string_said now text ≡ Err Unreadable
  unfolding string_said at_text reading_of
  nothing-said is =
      ap (λ (ts : List Token). at_or_fields now text (at_text ts)) is
      ∙ ap (λ (ts : List Token). fields_said text (steps now (length text) nothing_read ts)) is
      ∙ walked-over (length text)
