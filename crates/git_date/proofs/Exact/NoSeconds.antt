-- Words and signs say neither a year nor a minute. Where one of both stays unknown, a text says no time, and nothing else is
-- refused.
use Rattle.std.proofs.Common.{◌≡◌, ◌≤◌, ℕ, zero, suc, Bool, true, false, ℤ, List, [], ◌∷◌, length, Option, Some, None, is_none, Result, Ok}
use Rattle.std.proofs.Common.{Err, refl, ap, arith}
use Rattle.std.specs.Prelude.{◌==◌, ◌||◌, codes, option_map}
use Rattle.std.proofs.lemmas.Bool.Decides.{nat_tests}
use Rattle.gix_date.specs.Text.Characters.{plus, minus, colon}
use Rattle.gix_date.specs.Text.Front.{◌>>=◌}
use Rattle.gix_date.specs.Text.LongNames.{month_of_word}
use Rattle.gix_date.specs.Text.Names.{is_name}
use Rattle.git_date.specs.Rules.Dates.{exact_seconds, month_start, seconds_after}
use Rattle.git_date.specs.Rules.Digits.{Stepped, digits_rule}
use Rattle.git_date.specs.Rules.Groups.{ReadTokens}
use Rattle.git_date.specs.Tokens.Names.{is_weekday, zone_named}
use Rattle.git_date.specs.Tokens.Numbers.{number, is_too_large}
use Rattle.git_date.specs.Rules.Offsets.{without_white, white, padded_after, padded_number, colon_minutes, two_digit_offset, offset_said}
use Rattle.git_date.specs.Rules.Offsets.{SaidOffset, with_offset, minutes_said}
use Rattle.git_date.specs.Exact.Reading.{read_on, ended, sign_rule, rule, steps, fields_said, by_seconds}
use Rattle.git_date.specs.Tokens.Tokens.{Token, Letters, Digits, Mark, bytes_left, is_end, walked}
use Rattle.git_date.specs.Rules.Words.{with_zone, is_filler, half_or_filler, with_word, letters_rule}
use Rattle.git_date.specs.declared.fields.dates.Now.{Now}
use Rattle.git_date.specs.declared.error.DateError.TheVariants.{Unreadable}
use Rattle.git_date.specs.declared.error.Fault.{Fault}
use Rattle.git_date.specs.declared.fields.Fields.{Fields}
use Rattle.git_date.specs.declared.fields.offsets.Padded.{Padded}
use Rattle.git_date.specs.declared.reader.Reading.{Reading}
use Rattle.git_date.proofs.Rules.Kept.{IsKept, Leaves, either, rule-left, token-place, white-left}
use Rattle.git_date.specs.Tokens.Steps.{and_then}
use Rattle.std.specs.Option.{option_or, option_map_or}

-- of each token it holds
abbrev pub AreAll : (Token → Type 0) → List Token → Type 0
AreAll D [] = Unit {0}
AreAll D (t ∷ more) = D t × AreAll D more

abbrev Anywhere : ℕ → Type 0
Anywhere left = Unit {0}

kept-all : (D : Token → Type 0) → IsKept (AreAll D) Anywhere
kept-all D = record {
  next = λ t more q. q.1;
  at_letters = λ run more q. tt;
  at_digits = λ run more q. tt;
  at_mark = λ byte more h q. tt;
}

-- what is said of the year and the minute, and nothing is refused
abbrev pub Keeps : (Option ℕ → Option ℕ → Type 0) → Option Fields → Type 0
Keeps K (Some f) = K f.year f.minute
Keeps K None = Unit {0}

abbrev pub Quiet : (Option ℕ → Option ℕ → Type 0) → Stepped → Type 0
Quiet K (Ok found) = Keeps K found.0
Quiet K (Err fault) = ⊥

pub not-large : (n : ℕ) → n ≤ 99 → is_too_large n ≡ false
not-large n h = grind (arith, nat_tests)

pub read-quiet : (K : Option ℕ → Option ℕ → Type 0) (r : Reading) (left : ℕ) (o : Option Fields) → K r.fields.year r.fields.minute
    → Keeps K o
    → K (read_on r left o).fields.year (read_on r left o).fields.minute
read-quiet K r left (Some f) e h = h
read-quiet K r left None e h = e

-- offsets
abbrev IsPaddedSmall : ReadTokens Padded → Type 0
IsPaddedSmall None = Unit {0}
IsPaddedSmall (Some found) = found.0.value ≤ 99

abbrev NoFault : SaidOffset → Type 0
NoFault (Ok said) = Unit {0}
NoFault (Err fault) = ⊥

minutes-fine : (hours : ℕ) (ts : List Token) (found : ReadTokens Padded) → IsPaddedSmall found
    → NoFault (option_map_or (minutes_said hours) found (Ok (None, ts)))
minutes-fine hours ts None h = tt
minutes-fine hours ts (Some found) h = rw (not-large found.0.value h) tt

-- no seconds without a year and a minute
pub unsaid : (y m h n : Option ℕ) (k : ℕ → ℕ → ℕ → ℕ → Option ℤ) → (is_none n || is_none y) ≡ true
    → (y >>= λ a. m >>= λ b. h >>= λ c. n >>= λ d. k a b c d) ≡ None
unsaid (Some a) (Some b) (Some c) (Some d) k e = absurd cc
unsaid x m h n k e = refl

module _ (K : Option ℕ → Option ℕ → Type 0) (D : Token → Type 0)
    (lacks : (year minute : Option ℕ) → K year minute → (is_none minute || is_none year) ≡ true)
    (small : (run : List ℕ) → D (Digits run) → number run ≤ 99) where
  -- words
  half-quiet : (f : Fields) (word : List ℕ) → K f.year f.minute → Keeps K (half_or_filler f word)
  half-quiet f word e =
      either (Keeps K) (is_name word (codes "PM")) _ _ e
      (either (Keeps K) (is_name word (codes "AM")) _ _ e (either (Keeps K) (is_filler word) _ _ e tt))

  zone-quiet : (f : Fields) (word : List ℕ) (zone : Option ℤ) → K f.year f.minute
      → Keeps K (option_or (option_map (with_zone f) zone) (half_or_filler f word))
  zone-quiet f word (Some minutes) e = e
  zone-quiet f word None e = half-quiet f word e

  month-quiet : (f : Fields) (month : Option ℕ) (other : Option Fields) → K f.year f.minute → Keeps K other
      → Keeps K (option_or (option_map (λ month. record f { month = Some month }) month) other)
  month-quiet f (Some month) other e h = e
  month-quiet f None other e h = h

  word-quiet : (f : Fields) (word : List ℕ) → K f.year f.minute → Keeps K (with_word f word)
  unfolding with_word
  word-quiet f word e =
      month-quiet f (month_of_word word) _ e (either (Keeps K) (is_weekday word) _ _ e (zone-quiet f word (zone_named word) e))

  letters-quiet : (f : Fields) (run : List ℕ) (more : List Token) → K f.year f.minute → Keeps K (letters_rule f run more)
  unfolding letters_rule
  letters-quiet f run (Digits after ∷ more) e = tt
  letters-quiet f run ts e = word-quiet f run e

  -- offsets
  padded-small : (before : ℕ) (ts : List Token) → AreAll D ts → IsPaddedSmall (padded_after before ts)
  padded-small before (Digits run ∷ more) q = small run q.0
  padded-small before (Mark m ∷ Digits run ∷ more) q =
      either IsPaddedSmall (m == plus) _ _ (small run q.1.0) (either IsPaddedSmall (m == minus) _ _ (small run q.1.0) tt)
  padded-small before ts q = tt

  two-fine : (hours : ℕ) (ts : List Token) → AreAll D ts → NoFault (two_digit_offset hours ts)
  unfolding two_digit_offset colon_minutes padded_number
  two-fine hours [] q = tt
  two-fine hours (Letters run ∷ more) q = tt
  two-fine hours (Digits run ∷ more) q = tt
  two-fine hours (Mark byte ∷ more) q =
      either NoFault (byte == colon) _ _
      (minutes-fine hours more (padded_number more)
      (padded-small (white more) (without_white more) (white-left (AreAll D) (λ t more q. q.1) more q.1))) tt

  said-fine : (run : List ℕ) (more : List Token) → AreAll D (Digits run ∷ more) → NoFault (offset_said run more)
  unfolding offset_said
  said-fine run more q =
      rw (not-large (number run) (small run q.0)) (either NoFault (length run == 2) _ _ (two-fine (number run) more q.1) tt)

  said-quiet : (f : Fields) (behind : Bool) (minutes : Option ℤ) → K f.year f.minute → Keeps K (option_map (with_offset f behind) minutes)
  said-quiet f behind (Some minutes) e = e
  said-quiet f behind None e = tt

  offset-by : (f : Fields) (behind : Bool) (said : SaidOffset) → K f.year f.minute → NoFault said
      → Quiet K (and_then said (λ said. Ok (option_map (with_offset f behind) said.0, said.1)))
  offset-by f behind (Ok said) e h = said-quiet f behind said.0 e
  offset-by f behind (Err fault) e h = h

  ended-quiet : (step : Stepped) → Quiet K step → Quiet K (ended step)
  ended-quiet (Ok found) h = h
  ended-quiet (Err fault) h = h

  sign-quiet : (f : Fields) (behind : Bool) (ts : List Token) → K f.year f.minute → AreAll D ts → Quiet K (sign_rule f behind ts)
  unfolding sign_rule
  sign-quiet f behind (Digits run ∷ more) e q = ended-quiet _ (offset-by f behind (offset_said run more) e (said-fine run more q))
  sign-quiet f behind ts e q = e

  -- the reading ends so
  abbrev Ends : Result Reading Fault → Type 0
  Ends (Ok r) = K r.fields.year r.fields.minute
  Ends (Err fault) = ⊥

  after-step : (now : Now) (n left : ℕ) (r : Reading) (step : Stepped)
      → ((next : Reading) (rest : List Token) → K next.fields.year next.fields.minute → AreAll D rest → Ends (steps now n next rest))
      → K r.fields.year r.fields.minute → Quiet K step → Leaves (AreAll D) Anywhere step
      → Ends (and_then step (λ next. steps now n (read_on r left next.0) next.1))
  after-step now n left r (Err fault) then e h q = absurd h
  after-step now n left r (Ok found) then e h q = then (read_on r left found.0) found.1 (read-quiet K r left found.0 e h) q

  silent : (text : List ℕ) (read : Result Reading Fault) → Ends read → fields_said text read ≡ Err Unreadable
  unfolding fields_said exact_seconds
  silent text (Ok r) h =
      ap (λ (o : Option ℤ). by_seconds text r o)
      (unsaid r.fields.year r.fields.month r.fields.hour r.fields.minute
      (λ year month hour minute. r.fields.second >>= λ second. month_start year month
      >>= λ start. Some (seconds_after start r.fields.day hour minute second))
      (lacks r.fields.year r.fields.minute h))
  silent text (Err fault) h = absurd h

  -- where digits keep it too
  module _ (now : Now) (digits-quiet : (f : Fields) (run : List ℕ) (more : List Token) → K f.year f.minute → AreAll D (Digits run ∷ more)
      → Quiet K (digits_rule now f run more)) where
    rule-quiet : (f : Fields) (t : Token) (more : List Token) → K f.year f.minute → AreAll D (t ∷ more) → Quiet K (rule now f t more)
    rule-quiet f (Letters run) more e q = letters-quiet f run more e
    rule-quiet f (Digits run) more e q = ended-quiet (digits_rule now f run more) (digits-quiet f run more e q)
    rule-quiet f (Mark byte) more e q = either (Quiet K) (byte == plus) _ _ (sign-quiet f false more e q.1)
        (either (Quiet K) (byte == minus) _ _ (sign-quiet f true more e q.1) e)

    steps-quiet : (n : ℕ) (r : Reading) (ts : List Token) → K r.fields.year r.fields.minute → AreAll D ts → Ends (steps now n r ts)
    unfolding walked
    steps-quiet zero r [] e q = e
    steps-quiet (suc n) r [] e q = e
    steps-quiet zero r (t ∷ more) e q = e
    steps-quiet (suc n) r (t ∷ more) e q =
        either Ends (is_end t) (Ok r) _ e
        (after-step now n (bytes_left (t ∷ more)) r (rule now r.fields t more) (λ next rest. steps-quiet n next rest) e
        (rule-quiet r.fields t more e q)
        (rule-left (AreAll D) Anywhere (kept-all D) now r.fields t more (token-place (AreAll D) Anywhere (kept-all D) t more q) q.1))

    pub no-seconds : (text : List ℕ) (n : ℕ) (r : Reading) (ts : List Token) → K r.fields.year r.fields.minute → AreAll D ts
        → fields_said text (steps now n r ts) ≡ Err Unreadable
    no-seconds text n r ts e q = silent text (steps now n r ts) (steps-quiet n r ts e q)
