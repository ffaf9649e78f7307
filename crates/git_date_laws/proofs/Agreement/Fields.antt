-- What the exact reader says of the fields of a formatted date.
use Rattle.std.proofs.Common.{◌≡◌, ◌∙◌, ◌<◌, ◌≤◌, ◌⊎◌, ℕ, pos, unsigned_abs, nat_le, nat_lt, Bool, true, false, cond, List, [], ◌∷◌, ◌++◌}
use Rattle.std.proofs.Common.{length, Some, refl, ap, sym, subst, arith, append_assoc}
use Rattle.std.specs.Prelude.{◌&&◌, codes}
use Rattle.std.specs.Char.{is_ascii_alphabetic, is_ascii_digit}
use Rattle.std.specs.List.{list_all}
use Rattle.std.proofs.lemmas.Bool.{and_parts, eqb-true as is-byte}
use Rattle.std.proofs.lemmas.Bool.Decides.{nat_tests}
use Rattle.std.proofs.lemmas.Option.{cond_some as guard}
use Rattle.jiff_core.proofs.CalendarLemmas.{days_in_month_bounds}
use Rattle.jiff_core.specs.Calendar.{day_count, days_of_years, days_of_months}
use Rattle.gix_date.proofs.Fields.FieldsTaken.{went}
use Rattle.gix_date.specs.Families.Answer.{Absolute, OffsetAboveDay}
use Rattle.gix_date.specs.Families.Patterns.{date_answer, time_answer}
use Rattle.gix_date.specs.Fields.Civil.{civil_seconds, civil_instant, is_date, is_clock}
use Rattle.gix_date.specs.Fields.FieldTexts.{IsField, IsYear, AreSpaces}
use Rattle.gix_date.specs.Fields.Layout.{LocalTime}
use Rattle.gix_date.specs.Fields.Zoned.{is_instant}
use Rattle.gix_date.specs.Text.Characters.{space, is_space}
use Rattle.gix_date.specs.declared.time.Time.{Time}
use Rattle.git_date.proofs.Exact.PrintedClocks.{HasNoDigits, IsDayText, IsNumber, three-numbers}
use Rattle.git_date.proofs.Text.TokenRuns.{mark-first}
use Rattle.git_date.specs.Tokens.Numbers.{number}
use Rattle.git_date.specs.Tokens.Tokens.{Token, Digits, Mark, tokens}
use Rattle.git_date_laws.proofs.Agreement.Steps.{IsQuiet, AreQuiet, digit-below, four-is, under}
use Rattle.git_date_laws.specs.Agree.{HasNoLeapSecond}

-- what a date and a clock at an offset come to
pub record IsOf (l : LocalTime) (t : Time) : Type 0 where
  pub date : is_date l.date ≡ true
  pub clock : is_clock l.clock ≡ true
  pub civil : civil_seconds l.date l.clock l.offset ≡ t.seconds
  pub offset : t.offset ≡ l.offset
  pub within : unsigned_abs l.offset ≤ 86_340

answer-by : (b : Bool) (x t : Time) → cond b (Some OffsetAboveDay) (Some (Absolute x)) ≡ Some (Absolute t) → (b ≡ false) × (x ≡ t)
answer-by true x t e = absurd cc
answer-by false x t e = (refl, cc)

pub time-of : (l : LocalTime) (t : Time) → time_answer l ≡ Some (Absolute t) → IsOf l t
unfolding date_answer civil_instant
time-of l t e =
    let s = went (civil_instant l.date l.clock l.offset) (λ seconds. cond (nat_lt 86_340 (unsigned_abs l.offset)) (Some OffsetAboveDay)
    (Some (Absolute (record { seconds = seconds; offset = l.offset })))) (Absolute t) e in
    let g = guard (is_date l.date && is_clock l.clock && is_instant (civil_seconds l.date l.clock l.offset))
    (civil_seconds l.date l.clock l.offset) s.0 s.1 in
    let a = answer-by (nat_lt 86_340 (unsigned_abs l.offset)) (record { seconds = s.0; offset = l.offset }) t s.2 in
    let p = and_parts (is_date l.date && is_clock l.clock) (is_instant (civil_seconds l.date l.clock l.offset)) g.0 in
    let q = and_parts (is_date l.date) (is_clock l.clock) p.0 in
    record {
      date = q.0;
      clock = q.1;
      civil = g.1 ∙ ap (λ (x : Time). x.seconds) a.1;
      offset = sym (ap (λ (x : Time). x.offset) a.1);
      within = grind (arith, nat_tests, a.0);
    }

-- the fields of a calendar and a clock
pub record AreFields (l : LocalTime) : Type 0 where
  pub first_month : 1 ≤ l.date.month
  pub last_month : l.date.month ≤ 12
  pub first_day : 1 ≤ l.date.day
  pub last_day : l.date.day ≤ 31
  pub hour : l.clock.hour < 24
  pub minute : l.clock.minute < 60
  pub second : l.clock.second < 60

pub at-most : (a b : ℕ) → nat_le a b ≡ true → a ≤ b
at-most a b h = grind (arith, nat_tests, h)

pub fields-of : (l : LocalTime) → is_date l.date ≡ true → is_clock l.clock ≡ true → AreFields l
fields-of l d c = grind (arith, and_parts, nat_le, at-most, days_in_month_bounds)

-- a time from 1970 on has a year from 1969 on by its own clock
pub sixty-nine : day_count (pos 1969) 1 1 ≡ 4_371_588
unfolding day_count days_of_years days_of_months
sixty-nine = refl

pub field-is : (x : List ℕ) (n : ℕ) → IsField x n → IsNumber x n × (n < 100) × ((length x ≡ 1) ⊎ (length x ≡ 2))
unfolding number
field-is [] n h = absurd h
field-is (a ∷ []) n h = grind (arith, digit-below)
field-is (a ∷ b ∷ []) n h = grind (arith, digit-below)
field-is (a ∷ b ∷ c ∷ more) n h = absurd h

pub year-is : (x : List ℕ) (n : ℕ) → IsYear x n → IsNumber x n × (n < 10_000) × (length x ≡ 4)
year-is (a ∷ b ∷ c ∷ d ∷ []) n h = grind (arith, under, four-is)
year-is x n h = absurd h

pub day-text : (x : List ℕ) (n : ℕ) → IsField x n → IsDayText n x
day-text x n h = let d = field-is x n h in record { width = d.2; number = d.0 }

-- spaces, of which the first is a mark of its own
space-quiet : IsQuiet space
space-quiet = record { no_letter = refl; no_digit = refl; no_plus = refl; no_minus = refl; no_colon = refl; no_at = refl }

spaces-quiet : (gap : List ℕ) → list_all is_space gap ≡ true → AreQuiet gap
spaces-quiet [] h = tt
spaces-quiet (c ∷ gap) h = let p = and_parts (is_space c) (list_all is_space gap) h in
    (subst IsQuiet (sym (is-byte c space p.0)) space-quiet, spaces-quiet gap p.1)

pub gap-quiet : (gap : List ℕ) → AreSpaces gap → AreQuiet gap
gap-quiet [] h = absurd h
gap-quiet (c ∷ gap) h = spaces-quiet (c ∷ gap) (rw (h.0, h.1) refl)

pub record IsSpaced (ts : List Token) : Type 0 where
  pub more : List Token
  pub is : ts ≡ Mark space ∷ more

pub spaced : (gap rest : List ℕ) → AreSpaces gap → IsSpaced (tokens (gap ++ rest))
spaced [] rest h = absurd h
spaced (c ∷ gap) rest h = grind (arith, is-byte, mark-first)

-- three numbers with a mark between them
pub three-first : (mark : ℕ) (a b c rest : List ℕ) (x y z : ℕ) (ts : List Token) → is_ascii_alphabetic mark ≡ false
    → is_ascii_digit mark ≡ false → IsNumber a x → IsNumber b y → IsNumber c z
    → tokens rest ≡ ts → HasNoDigits ts
    → tokens (((a ++ (mark ∷ b)) ++ (mark ∷ c)) ++ rest) ≡ Digits a ∷ Mark mark ∷ Digits b ∷ Mark mark ∷ Digits c ∷ ts
three-first mark a b c rest x y z ts no_letter no_digit p q r e free = grind (arith, append_assoc, three-numbers)

-- no second 60 in a part of a text without
pub free-rest : (text front rest : List ℕ) → HasNoLeapSecond text → text ≡ front ++ rest → HasNoLeapSecond rest
free-rest text front rest h e before after s =
    h (front ++ before) after (e ∙ ap (λ (x : List ℕ). front ++ x) s ∙ sym (append_assoc front before (codes ":60" ++ after)))
