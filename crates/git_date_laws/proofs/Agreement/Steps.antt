-- Steps of the exact reader over a text whose time is known: where it reads a time with an offset and ignores nothing, it
-- reads that time.
use Rattle.std.proofs.Common.{◌≡◌, ◌∙◌, ◌<◌, ◌≤◌, ◌+◌, ◌*◌, ◌/◌, ◌%◌, ◌-◌, ◌⊎◌, ℕ, zero, suc, ℤ, pos, neg_ℤ, ◌+ℤ◌, ◌-ℤ◌, ◌*ℤ◌, Bool, true}
use Rattle.std.proofs.Common.{false, cond, List, [], ◌∷◌, ◌++◌, length, Option, Some, None, is_none, Result, Ok, Err, refl, ap, sym, subst}
use Rattle.std.proofs.Common.{arith, inl, inr, append-nil, negsuc}
use Rattle.std.specs.Prelude.{◌==◌, ◌||◌, ◌&&◌, nat_lt, option_map}
use Rattle.std.specs.Char.{is_ascii_alphabetic, is_ascii_digit}
use Rattle.std.proofs.lemmas.Bool.Decides.{nat_tests}
use Rattle.jiff_core.proofs.SignedLemmas.{signed_arith}
use Rattle.gix_date.proofs.Fast.FastHeaders.{IsOffsetText}
use Rattle.gix_date.specs.Fields.FieldTexts.{IsDigit, IsPair, IsSign}
use Rattle.gix_date.specs.Fields.Offsets.{SignedPairs, offset_of}
use Rattle.gix_date.specs.Text.Characters.{plus, minus, colon, at_sign}
use Rattle.gix_date.specs.declared.time.Time.{Time}
use Rattle.git_date.specs.Rules.Dates.{exact_seconds}
use Rattle.git_date.specs.Rules.Digits.{Stepped}
use Rattle.git_date.specs.Tokens.Numbers.{number}
use Rattle.git_date.specs.Rules.Offsets.{offset_minutes, offset_said, with_offset}
use Rattle.git_date.specs.Exact.Reading.{read_on, sign_rule, rule, steps}
use Rattle.git_date.specs.Tokens.Tokens.{Token, Letters, Digits, Mark, tokens, bytes_left, is_end, walked}
use Rattle.git_date.specs.Types.Names.{Fault, Fields, Now, Reading}
use Rattle.git_date.specs.Rules.Words.{without_ending}
use Rattle.git_date_laws.proofs.Ignored.Unused.{steps-walk}
use Rattle.git_date.proofs.Rules.EnoughSteps.{rule-short}
use Rattle.git_date.proofs.Rules.Kept.{Leaves, either}
use Rattle.git_date.proofs.Exact.PrintedClocks.{HasNoDigits, run-before, sign-before, at}
use Rattle.git_date.proofs.Text.TokenRuns.{mark-first}
use Rattle.git_date.specs.Tokens.Steps.{and_then}
use Rattle.std.specs.Ordering.{int_eq}

-- a mark that no rule uses
pub record IsQuiet (c : ℕ) : Type 0 where
  pub no_letter : is_ascii_alphabetic c ≡ false
  pub no_digit : is_ascii_digit c ≡ false
  pub no_plus : (c == plus) ≡ false
  pub no_minus : (c == minus) ≡ false
  pub no_colon : (c == colon) ≡ false
  pub no_at : (c == at_sign) ≡ false

abbrev pub AreQuiet : List ℕ → Type 0
AreQuiet [] = Unit {0}
AreQuiet (c ∷ text) = IsQuiet c × AreQuiet text

pub quiet-free : (gap rest : List ℕ) → AreQuiet gap → HasNoDigits (tokens rest) → HasNoDigits (tokens (gap ++ rest))
quiet-free [] rest q h = h
quiet-free (c ∷ gap) rest q h = subst HasNoDigits (sym (mark-first c (gap ++ rest) q.0.no_letter q.0.no_digit)) tt

-- tokens that end a number
abbrev pub Ends : List Token → Type 0
Ends [] = Unit {0}
Ends (Mark c ∷ more) = ((c == colon) ≡ false) × HasNoDigits more
Ends ts = ⊥

pub ends-free : (ts : List Token) → Ends ts → HasNoDigits ts
ends-free (Digits run ∷ more) h = absurd h
ends-free ts h = tt

pub ends-kept : (ts : List Token) → Ends ts → without_ending ts ≡ ts
unfolding without_ending
ends-kept [] h = refl
ends-kept (Letters run ∷ more) h = absurd h
ends-kept (Digits run ∷ more) h = absurd h
ends-kept (Mark c ∷ more) h = refl

-- neither a year and a minute, so no time
abbrev pub IsPartial : Fields → Type 0
IsPartial f = (is_none f.minute || is_none f.year) ≡ true

-- digits are below 58, and two of them write a number below 100
pub digit-below : (a : ℕ) → IsDigit a → a < 58
digit-below a p = grind (arith, nat_tests)

pub four-is : (a b c d : ℕ) → IsDigit a → IsDigit b → IsDigit c → IsDigit d
    → number (a ∷ b ∷ c ∷ d ∷ []) ≡ 100 * (10 * (a - 48) + (b - 48)) + (10 * (c - 48) + (d - 48))
unfolding number
four-is a b c d p q r s = omega (arith, digit-below a p, digit-below b q, digit-below c r, digit-below d s)

six-is : (a b c d x y : ℕ) → IsDigit a → IsDigit b → IsDigit c → IsDigit d → IsDigit x → IsDigit y
    → number (a ∷ b ∷ c ∷ d ∷ x ∷ y ∷ []) < 1_000_000
unfolding number
six-is a b c d x y p q r s u v = grind (arith, digit-below)

pub under : (a b n : ℕ) → IsDigit a → IsDigit b → n ≡ 10 * (a - 48) + (b - 48) → n < 100
under a b n p q e = omega (arith, digit-below a p, digit-below b q)

abbrev pub minutes_at : SignedPairs → ℤ
minutes_at fields = pos (60 * fields.hours) +ℤ pos fields.minutes

-- the mark of an offset, and the minutes that it says
pub record HasSign (mark : ℕ) (fields : SignedPairs) : Type 0 where
  pub behind : Bool
  pub is : mark ≡ cond behind minus plus
  pub minutes : fields.seconds ≡ None → offset_of fields ≡ pos 60 *ℤ cond behind (neg_ℤ (minutes_at fields)) (minutes_at fields)

pub has-sign : (mark : ℕ) (fields : SignedPairs) → IsSign mark fields.sign → HasSign mark fields
has-sign mark fields h = grind (arith, signed_arith)

ends-quiet : (w : List ℕ) → AreQuiet w → Ends (tokens w)
unfolding tokens
ends-quiet [] q = tt
ends-quiet (c ∷ w) q = subst Ends (sym (mark-first c w q.0.no_letter q.0.no_digit))
    (q.0.no_colon, subst HasNoDigits (ap tokens (append-nil w)) (quiet-free w [] q.1 tt))

-- the digits after a sign: hours and minutes, or six digits
pub record IsRun (fields : SignedPairs) (ts : List Token) (more : List Token) : Type 0 where
  pub run : List ℕ
  pub whole : ts ≡ Digits run ∷ more
  pub is : ((length run ≡ 4) × (number run ≡ 100 * fields.hours + fields.minutes) × (fields.hours < 100) × (fields.minutes < 100)
      × (fields.seconds ≡ None))
      ⊎ ((length run ≡ 6) × (number run < 1_000_000))

pub offset-run : (fields : SignedPairs) (x w : List ℕ) (k : IsOffsetText x fields) → AreQuiet w
    → IsRun fields (tokens ((k.h0 ∷ k.h1 ∷ k.m0 ∷ k.m1 ∷ k.last) ++ w)) (tokens w)
offset-run fields x w k q = by k.last k.is_last.is
  where
    by : (last : List ℕ) → ((last ≡ []) × (fields.seconds ≡ None)) ⊎ ((n : ℕ) × IsPair last n × (fields.seconds ≡ Some n))
        → IsRun fields (tokens ((k.h0 ∷ k.h1 ∷ k.m0 ∷ k.m1 ∷ last) ++ w)) (tokens w)
    by [] (inl p) =
        let run = k.h0 ∷ k.h1 ∷ k.m0 ∷ k.m1 ∷ [] in
        let a = k.is_h0 in
        let b = k.is_h1 in
        let c = k.is_m0 in
        let d = k.is_m1 in
        let n : number run ≡ 100 * fields.hours + fields.minutes = four-is k.h0 k.h1 k.m0 k.m1 a b c d
        ∙ omega (arith, k.hours, k.minutes) in
        record {
          run = run;
          whole = run-before run w (tokens w) (omega arith) (rw (a, b, c, d) refl) refl (ends-free (tokens w) (ends-quiet w q));
          is = inl (refl, n, under k.h0 k.h1 fields.hours a b k.hours, under k.m0 k.m1 fields.minutes c d k.minutes, p.1);
        }
    by (u ∷ v ∷ []) (inr p) =
        let run = k.h0 ∷ k.h1 ∷ k.m0 ∷ k.m1 ∷ u ∷ v ∷ [] in
        let a = k.is_h0 in
        let b = k.is_h1 in
        let c = k.is_m0 in
        let d = k.is_m1 in
        let x = p.1.0 in
        let y = p.1.1 in
        record {
          run = run;
          whole = run-before run w (tokens w) (omega arith) (rw (a, b, c, d, x, y) refl) refl (ends-free (tokens w) (ends-quiet w q));
          is = inr (refl, six-is k.h0 k.h1 k.m0 k.m1 u v a b c d x y);
        }
    by (u ∷ rest) (inl p) = absurd cc
    by last (inr p) = absurd p.1

module _ (now : Now) (t : Time) where
  -- a time with an offset that was read, and nothing ignored, is this time
  abbrev pub Fits : Result Reading Fault → Type 0
  Fits (Err fault) = Unit {0}
  Fits (Ok r) = (seconds minutes : ℤ) → r.ignored ≡ None → r.fields.offset ≡ Some minutes → exact_seconds r.fields ≡ Some seconds
      → t ≡ record { seconds = cond r.fields.epoch seconds (seconds -ℤ pos 60 *ℤ minutes); offset = pos 60 *ℤ minutes }

  -- what is read from there on fits, in steps as many as tokens
  abbrev pub Goes : Fields → List Token → Type 0
  Goes f ts = (n : ℕ) → length ts ≤ n → Fits (steps now n (at f) ts)

  abbrev pub After : Option Fields → List Token → Type 0
  After None rest = Unit {0}
  After (Some next) rest = Goes next rest

  abbrev pub Step : Stepped → Type 0
  Step (Err fault) = Unit {0}
  Step (Ok found) = After found.0 found.1

  -- what is ignored stays so
  lost : (n left : ℕ) (f : Fields) (rest : List Token) → length rest ≤ n → Fits (steps now n (read_on (at f) left None) rest)
  lost n left f rest fits = by (steps now n (read_on (at f) left None) rest) refl
    where
      by : (read : Result Reading Fault) → steps now n (read_on (at f) left None) rest ≡ read → Fits read
      by (Err fault) e = tt
      by (Ok r) e =
          λ s m none off exact. absurd (let clash = sym (steps-walk now n (read_on (at f) left None) r rest fits e).2 ∙ none in cc)

  -- a step
  found : (n left : ℕ) (f : Fields) (o : Option Fields) (rest : List Token) → After o rest → length rest ≤ n
      → Fits (steps now n (read_on (at f) left o) rest)
  found n left f (Some next) rest h fits = h n fits
  found n left f None rest h fits = lost n left f rest fits

  stepped : (n left : ℕ) (f : Fields) (step : Stepped) → Step step → Leaves (λ ts. length ts ≤ n) (λ place. Unit {0}) step
      → Fits (and_then step (λ next. steps now n (read_on (at f) left next.0) next.1))
  stepped n left f (Err fault) h fits = tt
  stepped n left f (Ok x) h fits = found n left f x.0 x.1 h fits

  at-end : (b : Bool) (x y : Result Reading Fault) → (b ≡ true → Fits x) → Fits y → Fits (cond b x y)
  at-end true x y h g = h refl
  at-end false x y h g = g

  pub goes : (f : Fields) (tok : Token) (more : List Token) → (is_end tok ≡ true → Fits (Ok (at f))) → Step (rule now f tok more)
      → Goes f (tok ∷ more)
  unfolding walked
  goes f tok more stop h zero fits = absurd (omega (arith, fits))
  goes f tok more stop h (suc n) fits =
      at-end (is_end tok) (Ok (at f)) _ stop
      (stepped n (bytes_left (tok ∷ more)) f (rule now f tok more) h (rule-short now n f tok more (omega arith)))

  pub over : (f : Fields) → Fits (Ok (at f)) → Goes f (tokens [])
  unfolding walked tokens
  over f stop zero fits = stop
  over f stop (suc n) fits = stop

  pub skip : (f : Fields) (gap rest : List ℕ) → AreQuiet gap → Fits (Ok (at f)) → Goes f (tokens rest) → Goes f (tokens (gap ++ rest))
  skip f [] rest q stop h = h
  skip f (c ∷ gap) rest q stop h =
      subst (Goes f) (sym (mark-first c (gap ++ rest) q.0.no_letter q.0.no_digit))
      (goes f (Mark c) (tokens (gap ++ rest)) (λ end. stop) (rw (q.0.no_plus, q.0.no_minus) (skip f gap rest q.1 stop h)))

  -- no offset, or no time
  pub no-offset : (f : Fields) → f.offset ≡ None → Fits (Ok (at f))
  no-offset f e = λ s m none off exact. absurd cc

  -- the seconds of these fields are those of the time
  abbrev pub Ready : Fields → Type 0
  Ready f = (seconds minutes : ℤ) → t.offset ≡ pos 60 *ℤ minutes → exact_seconds f ≡ Some seconds
      → t.seconds ≡ cond f.epoch seconds (seconds -ℤ pos 60 *ℤ minutes)

  -- an offset that is known is as it was said
  known-is : (minutes other : ℤ) (b : Bool) → cond b None (Some minutes) ≡ Some other → minutes ≡ other
  known-is minutes other true e = absurd cc
  known-is minutes other false e = cc

  pub with-it : (f : Fields) (behind : Bool) (minutes : ℤ) → Ready f → t.offset ≡ pos 60 *ℤ cond behind (neg_ℤ minutes) minutes
      → Fits (Ok (at (with_offset f behind minutes)))
  unfolding exact_seconds
  with-it f behind minutes ready e = λ s m none off exact.
      let x = cond behind (neg_ℤ minutes) minutes in
      let same : t.offset ≡ pos 60 *ℤ m = e ∙ ap (λ (k : ℤ). pos 60 *ℤ k) (known-is x m (int_eq x (negsuc 0)) off) in
      let counted = ready s m same exact in
      λ i. record { seconds = counted i; offset = same i }

  four-step : (f : Fields) (behind : Bool) (run : List ℕ) (hours minutes : ℕ) (more : List Token) → length run ≡ 4
      → number run ≡ 100 * hours + minutes → hours < 100 → minutes < 100
      → Ends more → Goes (with_offset f behind (pos (60 * hours) +ℤ pos minutes)) more → Step (sign_rule f behind (Digits run ∷ more))
  unfolding sign_rule offset_said offset_minutes
  four-step f behind run hours minutes more long e h m ends goal =
      let small : nat_lt 2_147_483_647 (number run) ≡ false = grind (arith, nat_tests) in
      let a : number run / 100 ≡ hours = omega arith in
      let b : number run % 100 ≡ minutes = omega arith in
      rw (small, long, a, b)
      (either (λ (o : Option ℤ). After (option_map (with_offset f behind) o) (without_ending more)) (nat_lt hours 24 && nat_lt minutes 60) _
      _ (rw (ends-kept more ends) goal) tt)

  other-step : (f : Fields) (behind : Bool) (run : List ℕ) (more : List Token) → length run ≡ 6 → number run < 1_000_000
      → Step (sign_rule f behind (Digits run ∷ more))
  unfolding sign_rule offset_said
  other-step f behind run more long h =
      let small : nat_lt 2_147_483_647 (number run) ≡ false = grind (arith, nat_tests) in
      rw (small, long) tt

  after-sign : (f : Fields) (behind : Bool) (fields : SignedPairs) (w : List ℕ) (ts : List Token) → IsRun fields ts (tokens w) → AreQuiet w
      → Fits (Ok (at f)) → Ready f
      → (fields.seconds ≡ None → t.offset ≡ pos 60 *ℤ cond behind (neg_ℤ (minutes_at fields)) (minutes_at fields))
      → Step (sign_rule f behind ts)
  after-sign f behind fields w ts r q stop ready e =
      subst (λ (ts : List Token). Step (sign_rule f behind ts)) (sym r.whole) (elim r.is [
        | inl p ↦
            let next = with_offset f behind (minutes_at fields) in
            let known = with-it f behind (minutes_at fields) ready (e p.4) in
            four-step f behind r.run fields.hours fields.minutes (tokens w) p.0 p.1 p.2 p.3 (ends-quiet w q)
            (subst (λ (text : List ℕ). Goes next (tokens text)) (append-nil w) (skip next w [] q known (over next known)))
        | inr p ↦ other-step f behind r.run (tokens w) p.0 p.1
      ])

  -- what follows a sign
  pub sign-goes : (f : Fields) (behind : Bool) (rest : List ℕ) → Fits (Ok (at f)) → Step (sign_rule f behind (tokens rest))
      → Goes f (tokens (cond behind minus plus ∷ rest))
  sign-goes f true rest stop h = subst (Goes f) (sym (sign-before true rest)) (goes f (Mark minus) (tokens rest) (λ end. stop) h)
  sign-goes f false rest stop h = subst (Goes f) (sym (sign-before false rest)) (goes f (Mark plus) (tokens rest) (λ end. stop) h)

  pub offset-goes : (f : Fields) (fields : SignedPairs) (x w : List ℕ) → IsOffsetText x fields → t.offset ≡ offset_of fields → AreQuiet w
      → Fits (Ok (at f)) → Ready f
      → Goes f (tokens (x ++ w))
  offset-goes f fields x w k e q stop ready =
      let rest = (k.h0 ∷ k.h1 ∷ k.m0 ∷ k.m1 ∷ k.last) ++ w in
      let s = has-sign k.mark fields k.is_mark in
      subst (λ (text : List ℕ). Goes f (tokens (text ++ w))) (sym k.whole) (subst (λ (c : ℕ). Goes f (tokens (c ∷ rest))) (sym s.is)
      (sign-goes f s.behind rest stop
      (after-sign f s.behind fields w (tokens rest) (offset-run fields x w k q) q stop ready (λ none. e ∙ s.minutes none))))
