-- Texts that the moment's instant does not matter to.
use Rattle.std.proofs.Common.{◌≡◌, ◌<◌, ℕ, zero, suc, ℤ, Bool, true, false, cond, not, List, [], ◌∷◌, length, refl, ap, arith, Option, Some}
use Rattle.std.proofs.Common.{None, Result, Ok, Err}
use Rattle.std.proofs.lemmas.Bool.{or_parts}
use Rattle.std.specs.Prelude.{◌==◌, ◌&&◌, ◌||◌, nat_le}
use Rattle.std.specs.Option.{option_map_or}
use Rattle.std.proofs.lemmas.Bool.Decides.{nat_tests}
use Rattle.gix_date.specs.Text.Characters.{colon}
use Rattle.git_date.specs.Tokens.Tokens.{Token, Letters, Digits, Mark, tokens, bytes_left, is_end, walked}
use Rattle.git_date.specs.Tokens.Numbers.{number, is_too_large}
use Rattle.git_date.specs.Rules.Dates.{is_day_of_month, recent_date}
use Rattle.git_date.specs.Rules.Groups.{ReadTokens, group_of, day_month_group, group_rule}
use Rattle.git_date.specs.Rules.Digits.{Stepped, is_epoch, epoch_rule, group_or_bare, digits_rule, group_said, grouped}
use Rattle.git_date.specs.Rules.Offsets.{at_text}
use Rattle.git_date.specs.Exact.Reading.{nothing_read, read_on, ended, rule, steps, reading_of, fields_said, at_or_fields, string_said}
use Rattle.git_date.specs.Types.Names.{Now, Fault, Fields, Group, Reading}
use Rattle.git_date.specs.Types.FaultCases.{NumberTooLarge}
use Rattle.git_date.specs.Types.DatedCases.{Refused}
use Rattle.git_date_laws.specs.Texts.Moments.{is_day_month, is_any_day_month, begins_day_month, has_day_month, goes_on, meets_day_month}
use Rattle.git_date.proofs.Rules.Kept.{IsKept, Leaves, rule-left, token-place}
use Rattle.git_date.specs.Tokens.Steps.{and_then}

no-recent : (now : Now) (f : Fields) (month day : ℕ) (third : Option ℕ) → is_day_of_month month day ≡ false
    → recent_date now f month day third ≡ None
unfolding recent_date
no-recent now f month day None h = rw h
no-recent now f month day (Some third) h = rw h

-- a number above 70 is neither a month nor a day
refused : (now : Now) (f : Fields) (g : Group) → 70 < g.first → day_month_group now f g ≡ Refused
unfolding day_month_group
refused now f g h = grind (arith, no-recent, nat_tests)

group-by : (now other : Now) (f : Fields) (g : Group) (clock low : Bool) → (g.mark == colon) ≡ clock → nat_le g.first 70 ≡ low
    → (not clock && low) ≡ false
    → group_rule now f g ≡ group_rule other f g
unfolding group_rule
group-by now other f g true low e l h = rw e
group-by now other f g false true e l h = absurd cc
group-by now other f g false false e l h = grind (arith, nat_tests, refused)

group-same : (now other : Now) (f : Fields) (g : Group) → is_day_month g ≡ false → group_rule now f g ≡ group_rule other f g
group-same now other f g h = group-by now other f g (g.mark == colon) (nat_le g.first 70) refl refl h

grouped-same : (now other : Now) (f : Fields) (left : ℕ) (found : ReadTokens Group) → is_any_day_month found ≡ false
    → option_map_or (λ found. grouped left found.0 found.1 (group_rule now f found.0)) found (Ok None)
    ≡ option_map_or (λ found. grouped left found.0 found.1 (group_rule other f found.0)) found (Ok None)
grouped-same now other f left None h = refl
grouped-same now other f left (Some found) h = ap (grouped left found.0 found.1) (group-same now other f found.0 h)

digits-same : (now other : Now) (f : Fields) (run : List ℕ) (more : List Token) → is_any_day_month (group_of (number run) more) ≡ false
    → digits_rule now f run more ≡ digits_rule other f run more
unfolding digits_rule group_said
digits-same now other f run more h =
    ap (λ (said : Result (Option (Fields × List Token)) Fault). cond (is_epoch f (number run)) (epoch_rule f (number run) more)
    (cond (is_too_large (number run)) (Err (NumberTooLarge (bytes_left (Digits run ∷ more)))) (and_then said (group_or_bare f run more))))
    (grouped-same now other f (bytes_left (Digits run ∷ more)) (group_of (number run) more) h)

rule-same : (now other : Now) (f : Fields) (t : Token) (more : List Token) → begins_day_month t more ≡ false
    → rule now f t more ≡ rule other f t more
rule-same now other f (Letters run) more h = refl
rule-same now other f (Digits run) more h = ap ended (digits-same now other f run more h)
rule-same now other f (Mark byte) more h = refl

abbrev later : Now → ℕ → Reading → ℕ → Stepped → Result Reading Fault
later now n r left step = and_then step (λ next. steps now n (read_on r left next.0) next.1)

then-same : (now other : Now) (n : ℕ) (r : Reading) (left : ℕ) (step : Stepped)
    → goes_on step (λ next. meets_day_month now n (read_on r left next.0) next.1) ≡ false
    → ((r : Reading) (rest : List Token) → meets_day_month now n r rest ≡ false → steps now n r rest ≡ steps other n r rest)
    → and_then step (λ next. steps now n (read_on r left next.0) next.1)
    ≡ and_then step (λ next. steps other n (read_on r left next.0) next.1)
then-same now other n r left (Err e) h same = refl
then-same now other n r left (Ok found) h same = same (read_on r left found.0) found.1 h

step-same : (now other : Now) (n : ℕ) (r : Reading) (t : Token) (more : List Token) (ends : Bool)
    → cond ends false (begins_day_month t more
    || goes_on (rule now r.fields t more) (λ next. meets_day_month now n (read_on r (bytes_left (t ∷ more)) next.0) next.1)) ≡ false
    → ((r : Reading) (rest : List Token) → meets_day_month now n r rest ≡ false → steps now n r rest ≡ steps other n r rest)
    → cond ends (Ok r) (later now n r (bytes_left (t ∷ more)) (rule now r.fields t more))
    ≡ cond ends (Ok r) (later other n r (bytes_left (t ∷ more)) (rule other r.fields t more))
step-same now other n r t more true h same = refl
step-same now other n r t more false h same = grind (arith, then-same, or_parts, rule-same)

steps-same : (now other : Now) (n : ℕ) (r : Reading) (ts : List Token) → meets_day_month now n r ts ≡ false
    → steps now n r ts ≡ steps other n r ts
unfolding walked meets_day_month
steps-same now other (suc n) r (t ∷ more) h = step-same now other n r t more (is_end t) h (λ r rest. steps-same now other n r rest)
steps-same now other x r ts h = refl

at-or-same : (now other : Now) (text : List ℕ) (found : Option (ℕ × ℤ))
    → meets_day_month now (length text) nothing_read (tokens text) ≡ false
    → at_or_fields now text found ≡ at_or_fields other text found
unfolding reading_of
at-or-same now other text (Some found) h = refl
at-or-same now other text None h = ap (fields_said text) (steps-same now other (length text) nothing_read (tokens text) h)

pub string-same : (now other : Now) (text : List ℕ) → meets_day_month now (length text) nothing_read (tokens text) ≡ false
    → string_said now text ≡ string_said other text
unfolding string_said
string-same now other text h = at-or-same now other text (at_text (tokens text)) h

-- where no such date begins, the reader comes to none
abbrev pub HasNone : List Token → Type 0
HasNone ts = has_day_month ts ≡ false

none-next : (t : Token) (more : List Token) → HasNone (t ∷ more) → HasNone more
unfolding has_day_month
none-next t more h = (or_parts (begins_day_month t more) (has_day_month more) h).1

none-first : (t : Token) (more : List Token) → HasNone (t ∷ more) → begins_day_month t more ≡ false
unfolding has_day_month
none-first t more h = (or_parts (begins_day_month t more) (has_day_month more) h).0

none-kept : IsKept HasNone (λ left. Unit {0})
none-kept = record {
  next = λ t more h. none-next t more h;
  at_letters = λ run more h. tt;
  at_digits = λ run more h. tt;
  at_mark = λ byte more below h. tt;
}

none-then : (now : Now) (n : ℕ) (r : Reading) (left : ℕ) (step : Stepped) → Leaves HasNone (λ place. Unit {0}) step
    → ((other : Reading) (rest : List Token) → HasNone rest → meets_day_month now n other rest ≡ false)
    → goes_on step (λ next. meets_day_month now n (read_on r left next.0) next.1) ≡ false
none-then now n r left (Err e) h none = refl
none-then now n r left (Ok found) h none = none (read_on r left found.0) found.1 h

none-step : (ends first later : Bool) → first ≡ false → later ≡ false → cond ends false (first || later) ≡ false
none-step true first later e h = refl
none-step false true later e h = absurd cc
none-step false false later e h = h

pub none-met : (now : Now) (n : ℕ) (r : Reading) (ts : List Token) → HasNone ts → meets_day_month now n r ts ≡ false
unfolding meets_day_month
none-met now zero r [] h = refl
none-met now (suc n) r [] h = refl
none-met now zero r (t ∷ more) h = refl
none-met now (suc n) r (t ∷ more) h =
    none-step (is_end t) (begins_day_month t more)
    (goes_on (rule now r.fields t more) (λ next. meets_day_month now n (read_on r (bytes_left (t ∷ more)) next.0) next.1))
    (none-first t more h)
    (none-then now n r (bytes_left (t ∷ more)) (rule now r.fields t more) (rule-left HasNone (λ place. Unit {0}) none-kept now r.fields t
    more (token-place HasNone (λ place. Unit {0}) none-kept t more h) (none-next t more h))
    (λ other rest. none-met now n other rest))
