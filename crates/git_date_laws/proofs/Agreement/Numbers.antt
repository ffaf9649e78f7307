-- A number of seconds at the front of what is left: from 100000000 it is those seconds, and a smaller one, or one with a sign,
-- says no time.
use Rattle.std.proofs.Common.{◌≡◌, ◌<◌, ◌≤◌, ◌/◌, ◌%◌, ◌⊎◌, inl, inr, ℕ, ℤ, pos, nat_le, nat_lt, Bool, true, false, cond, List}
use Rattle.std.proofs.Common.{[], ◌∷◌, ◌++◌, length, Option, Some, None, Ok, refl, sym, subst, arith}
use Rattle.std.specs.Prelude.{◌==◌, option_map, ok_or}
use Rattle.std.specs.Str.{all_ascii_digits}
use Rattle.std.specs.Str.Parse.{signed_digits_value, without_leading_sign}
use Rattle.std.proofs.lemmas.Bool.{eqb-true as is-mark, cases_lt}
use Rattle.std.proofs.lemmas.Bool.Decides.{nat_tests}
use Rattle.gix_date.proofs.Fast.FastHeaders.{int-taken}
use Rattle.gix_date.proofs.Text.Ints.{each_of}
use Rattle.gix_date.specs.Fields.Zoned.{is_instant}
use Rattle.gix_date.specs.Text.Characters.{plus, minus}
use Rattle.gix_date.specs.Text.Numbers.{fits_i64, int_value}
use Rattle.gix_date.specs.declared.time.Time.{Time}
use Rattle.git_date.proofs.Exact.PrintedClocks.{run-before}
use Rattle.git_date.proofs.Rules.ClocksBack.{shown_of}
use Rattle.git_date.proofs.Rules.Kept.{either}
use Rattle.git_date.proofs.Rules.Saturated.{number-is}
use Rattle.git_date.specs.Rules.Clocks.{utc_clock}
use Rattle.git_date.specs.Rules.Dates.{is_day_of_month, year_said, by_year, year_date}
use Rattle.git_date.specs.Rules.Digits.{Stepped, with_epoch, by_date, eight_digits, bare_digits, digits_rule, group_said}
use Rattle.git_date.specs.Rules.Fields.{unknown}
use Rattle.git_date.specs.Rules.Groups.{marked_number, group_of, without_fraction}
use Rattle.git_date.specs.Tokens.Numbers.{number}
use Rattle.git_date.specs.Rules.Offsets.{offset_minutes, two_digit_offset, offset_said, SaidOffset, with_offset}
use Rattle.git_date.specs.Exact.Reading.{ended, sign_rule}
use Rattle.git_date.specs.Tokens.Tokens.{Token, Letters, Digits, Mark, tokens}
use Rattle.git_date.specs.Types.Names.{Dated, Fields, Now}
use Rattle.git_date.specs.Rules.Words.{without_ending}
use Rattle.git_date_laws.proofs.Back.ExactNothing.{AllLack, Lacking, bare-lacks}
use Rattle.git_date_laws.proofs.Agreement.Steps.{Ends, ends-free, ends-kept, IsPartial, Goes, Step, After, goes, sign-goes, no-offset}
use Rattle.git_date.specs.Tokens.Steps.{and_then}
use Rattle.git_date.specs.Types.FaultCases.{Range}

-- digits, after a sign or none
pub record IsBare (x : List ℕ) (n : ℤ) : Type 0 where
  pub some : 1 ≤ length x
  pub digits : all_ascii_digits x ≡ true
  pub is : n ≡ pos (number x)

pub record IsSigned (x : List ℕ) : Type 0 where
  pub behind : Bool
  pub run : List ℕ
  pub whole : x ≡ cond behind minus plus ∷ run
  pub some : 1 ≤ length run
  pub digits : all_ascii_digits run ≡ true

int-by : (c : ℕ) (t : List ℕ) (n : ℤ) (p q : Bool) → (c == minus) ≡ p → (c == plus) ≡ q
    → nat_lt 0 (length (without_leading_sign (c ∷ t))) ≡ true
    → all_ascii_digits (without_leading_sign (c ∷ t)) ≡ true → fits_i64 (signed_digits_value 10 (c ∷ t)) ≡ true
    → signed_digits_value 10 (c ∷ t) ≡ n → IsBare (c ∷ t) n ⊎ IsSigned (c ∷ t)
int-by c t n true q e f some digits fits value = grind (arith, is-mark, nat_tests)
int-by c t n false true e f some digits fits value = grind (arith, is-mark, nat_tests)
int-by c t n false false e f some digits fits value = grind (arith, nat_tests, number-is)

pub int-is : (x : List ℕ) (n : ℤ) → int_value x ≡ Some n → IsBare x n ⊎ IsSigned x
int-is [] n e = let none = (int-taken [] n e).0 in absurd cc
int-is (c ∷ t) n e =
    let taken = int-taken (c ∷ t) n e in
    let parts = each_of (nat_lt 0 (length (without_leading_sign (c ∷ t)))) (all_ascii_digits (without_leading_sign (c ∷ t)))
    (fits_i64 (signed_digits_value 10 (c ∷ t))) taken.0 in
    int-by c t n (c == minus) (c == plus) refl refl parts.0 parts.1 parts.2 taken.1

-- what stands after a number is no part of it
group-none : (first : ℕ) (ts : List Token) → Ends ts → group_of first ts ≡ None
unfolding group_of marked_number
group-none first (Letters run ∷ more) h = absurd h
group-none first (Digits run ∷ more) h = absurd h
group-none first (Mark c ∷ Digits run ∷ more) h = absurd h.1
group-none first ts h = refl

fraction-kept : (ts : List Token) → Ends ts → without_fraction ts ≡ ts
unfolding without_fraction
fraction-kept (Letters run ∷ more) h = absurd h
fraction-kept (Digits run ∷ more) h = absurd h
fraction-kept (Mark c ∷ Digits run ∷ more) h = absurd h.1
fraction-kept ts h = refl

two-kept : (hours : ℕ) (ts : List Token) → Ends ts → two_digit_offset hours ts ≡ Ok (offset_minutes hours false 0, ts)
unfolding two_digit_offset
two-kept hours [] h = refl
two-kept hours (Letters run ∷ more) h = absurd h
two-kept hours (Digits run ∷ more) h = absurd h
two-kept hours (Mark c ∷ more) h = let no_colon = h.0 in rw no_colon refl

module _ (now : Now) (t : Time) (ts : List Token) (ends : Ends ts) (partial : (f : Fields) → IsPartial f → Goes now t f ts) where
  abbrev Ended : Stepped → Type 0
  Ended step = Step now t (ended step)

  kept : (f : Fields) → IsPartial f → Goes now t f (without_ending ts)
  kept f p = rw (ends-kept ts ends) (partial f p)

  -- by the width of the digits
  eight-by : (run : List ℕ) (m d : ℕ) (year : Option ℕ) → Ended (by_date run ts (by_year unknown m d year))
  eight-by run m d (Some year) = kept _ refl
  eight-by run m d None = tt

  eight : (run : List ℕ) → Ended (eight_digits unknown run ts)
  unfolding year_date
  eight run =
      either (λ (d : Dated). Ended (by_date run ts d)) (is_day_of_month (number run / 100 % 100) (number run % 100)) _ _
      (eight-by run (number run / 100 % 100) (number run % 100) (year_said (number run / 10_000))) tt

  lacking : (step : Stepped) → Lacking ts step → Ended step
  lacking step (next, is, lacks) = subst Ended (sym is) (by next lacks)
    where
      by : (next : Option Fields) → AllLack next → Ended (Ok (next, ts))
      by (Some f) h = kept f h
      by None h = tt

  bare : (run : List ℕ) → Ended (bare_digits unknown run ts)
  unfolding bare_digits
  bare run = by (length run == 8) refl
    where
      by : (b : Bool) → (length run == 8) ≡ b → Ended (bare_digits unknown run ts)
      by true e = rw e (eight run)
      by false e = lacking (bare_digits unknown run ts) (bare-lacks run ts (fraction-kept ts ends) e)

  low : (run : List ℕ) → number run < 100_000_000 → Ended (digits_rule now unknown run ts)
  unfolding digits_rule group_said
  low run h =
      let early : nat_le 100_000_000 (number run) ≡ false = grind (arith, nat_tests) in
      let small : nat_lt 2_147_483_647 (number run) ≡ false = grind (arith, nat_tests) in
      rw (early, small, group-none (number run) ts ends) (bare run)

  high : (run : List ℕ) → 100_000_000 ≤ number run
      → (is_instant (pos (number run)) ≡ true → Goes now t (with_epoch unknown (shown_of (pos (number run)))) ts)
      → Ended (digits_rule now unknown run ts)
  unfolding digits_rule utc_clock
  high run h epoch =
      let large : nat_le 100_000_000 (number run) ≡ true = grind (arith, nat_tests) in
      rw large (by (is_instant (pos (number run))) refl)
    where
      by : (b : Bool) → is_instant (pos (number run)) ≡ b → Ended
          (ok_or (option_map (λ shown. (Some (with_epoch unknown shown), ts)) (cond b (Some (shown_of (pos (number run)))) None)) Range)
      by true e = rw (ends-kept ts ends) (epoch e)
      by false e = tt

  -- after a sign
  refused : (behind : Bool) (o : Option ℤ) → After now t (option_map (with_offset unknown behind) o) (without_ending ts)
  refused behind (Some minutes) = kept _ refl
  refused behind None = tt

  signed-step : (behind : Bool) (run : List ℕ) → Step now t (sign_rule unknown behind (Digits run ∷ ts))
  unfolding sign_rule offset_said
  signed-step behind run =
      either (λ (s : SaidOffset). Ended (and_then s (λ said. Ok (option_map (with_offset unknown behind) said.0, said.1))))
      (nat_lt 2_147_483_647 (number run)) _ _ tt
      (either (λ (s : SaidOffset). Ended (and_then s (λ said. Ok (option_map (with_offset unknown behind) said.0, said.1))))
      (length run == 2) _ _ (rw (two-kept (number run) ts ends) (refused behind (offset_minutes (number run) false 0)))
      (refused behind (cond (length run == 4) (offset_minutes (number run / 100) false (number run % 100)) None)))

pub number-goes : (now : Now) (t : Time) (x rest : List ℕ) (n : ℤ) → IsBare x n ⊎ IsSigned x → Ends (tokens rest)
    → ((f : Fields) → IsPartial f → Goes now t f (tokens rest))
    → ((k : ℕ) → n ≡ pos k → is_instant (pos k) ≡ true → Goes now t (with_epoch unknown (shown_of (pos k))) (tokens rest))
    → Goes now t unknown (tokens (x ++ rest))
number-goes now t x rest n (inl b) ends partial epoch =
    subst (Goes now t unknown) (sym (run-before x rest (tokens rest) b.some b.digits refl (ends-free (tokens rest) ends)))
    (goes now t unknown (Digits x) (tokens rest) (λ end. no-offset now t unknown refl)
    (elim (cases_lt (number x) 100_000_000) [
      | inl less ↦ low now t (tokens rest) ends partial x less
      | inr least ↦ high now t (tokens rest) ends partial x least (epoch (number x) b.is)
    ]))
number-goes now t x rest n (inr s) ends partial epoch =
    subst (λ (x : List ℕ). Goes now t unknown (tokens (x ++ rest))) (sym s.whole)
    (sign-goes now t unknown s.behind (s.run ++ rest) (no-offset now t unknown refl)
    (subst (λ (ts : List Token). Step now t (sign_rule unknown s.behind ts))
    (sym (run-before s.run rest (tokens rest) s.some s.digits refl (ends-free (tokens rest) ends)))
    (signed-step now t (tokens rest) ends partial s.behind s.run)))
