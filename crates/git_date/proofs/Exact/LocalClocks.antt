-- Dates without an offset say the fields that are written there.
use Rattle.std.proofs.Common.{◌≡◌, ◌∙◌, ◌<◌, ◌≤◌, ℕ, suc, Bool, true, false, cond, List, [], ◌∷◌, ◌++◌, refl, ap, ap₂, sym, subst, arith}
use Rattle.std.proofs.Common.{inl, inr, Option, Some, None, Ok, Result, pos, length, append-nil}
use Rattle.std.specs.Prelude.{◌==◌}
use Rattle.std.specs.Option.{option_map_or}
use Rattle.std.proofs.lemmas.Bool.Decides.{nat_tests}
use Rattle.gix_date.specs.Fields.FieldTexts.{clock_text}
use Rattle.gix_date.specs.Fields.Layout.{LocalTime}
use Rattle.gix_date.specs.Text.Characters.{colon, space}
use Rattle.gix_date.specs.Text.Numbers.{two_digits}
use Rattle.git_date.specs.Exact.Fast.{IsGitDate, WritesDate, WritesClock, WritesShortClock, WritesAnyClock, WritesSpacedClock, SaysFields}
use Rattle.git_date.specs.Exact.Fast.{day_fields, local_fields, marked_date}
use Rattle.git_date.specs.Exact.Reading.{ended, rule, steps, step, said_by, fields_said}
use Rattle.git_date.specs.Rules.Fields.{unknown, knows_date}
use Rattle.git_date.specs.Rules.Groups.{ReadTokens, number_at, marked_number, group_of, group_rule, large_in, without_fraction}
use Rattle.git_date.specs.Rules.Digits.{grouped, group_said}
use Rattle.git_date.specs.Rules.Offsets.{at_text}
use Rattle.git_date.specs.Rules.Words.{without_ending}
use Rattle.git_date.specs.Tokens.Numbers.{number}
use Rattle.git_date.specs.Tokens.Tokens.{Token, Digits, Mark, tokens, bytes_left}
use Rattle.git_date.specs.declared.error.Fault.{Fault}
use Rattle.git_date.specs.declared.fields.Fields.{Fields}
use Rattle.git_date.specs.declared.fields.dates.Dated.{Dated}
use Rattle.git_date.specs.declared.fields.dates.Dated.TheVariants as dated
use Rattle.git_date.specs.declared.fields.dates.Now.{Now}
use Rattle.git_date.specs.declared.fields.groups.Group.{Group}
use Rattle.git_date.specs.declared.fields.groups.Number.{Number}
use Rattle.git_date.proofs.Exact.PrintedClocks.{IsGitClock, date-mark, at, go, skip-space, go-date, two-number, two-numbers, date-before}
use Rattle.git_date.proofs.Exact.PrintedClocks.{clock-before, clock_tokens, date_tokens, IsDateMark, small-rule, or_bare, group-read}
use Rattle.git_date.proofs.Exact.PrintedClocks.{taken-rule, none-large, clock-taken, clock-group, numbered, group_at}
use Rattle.git_date.proofs.Exact.PrintedReads.{reads-are}
use Rattle.git_date.proofs.Text.TokenRuns.{mark-first}
use Rattle.git_date.proofs.Text.Walked.{nothing-left}
use Rattle.git_date.proofs.Text.StringEnds.{has_nul}

pub short_or : (text : List ℕ) (clock : ℕ × ℕ × ℕ) → WritesShortClock text clock → WritesAnyClock text clock
short_or text clock is = inl is

pub or_whole : (text : List ℕ) (clock : ℕ × ℕ × ℕ) → WritesClock text clock → WritesAnyClock text clock
or_whole text clock is = inr is

abbrev clock_shown : ℕ × ℕ × ℕ → List ℕ
clock_shown clock = clock_text (record { hour = clock.0; minute = clock.1; second = clock.2 })

-- a clock at the end of a text
abbrev timed : Fields → ℕ → ℕ → ℕ → Fields
timed f h m s = record f { hour = Some h; minute = Some m; second = Some s }

at-end : (b : Bool) → cond b (without_fraction []) [] ≡ []
unfolding without_fraction
at-end true = refl
at-end false = refl

whole-end : (now : Now) (f : Fields) (a b c : List ℕ) (h m s : ℕ) → number a ≡ h → number b ≡ m → number c ≡ s → h < 24 → m < 60 → s < 60
    → rule now f (Digits a) (Mark colon ∷ Digits b ∷ Mark colon ∷ Digits c ∷ []) ≡ Ok (Some (timed f h m s), [])
unfolding without_ending
whole-end now f a b c h m s hh mm ss low mid top =
    let more = Mark colon ∷ Digits b ∷ Mark colon ∷ Digits c ∷ [] in
    let second = numbered m (bytes_left (Digits b ∷ Mark colon ∷ Digits c ∷ [])) in
    let third = numbered s (bytes_left (Digits c ∷ [])) in
    group-read colon now f a b c h m s [] refl refl hh mm ss (omega arith)
    ∙ ap (λ (said : Result (Option (Fields × List Token)) Fault). ended (or_bare f a more said))
    (taken-rule (bytes_left (Digits a ∷ more)) (group_at colon h second third) [] _ (timed f h m s)
    (none-large colon h second third (omega arith) (omega arith)) (clock-group now f h second third low mid top))
    ∙ ap (λ (rest : List Token). ended (Ok (Some (timed f h m s), rest))) (at-end (knows_date (timed f h m s)))

-- two numbers at the end
abbrev pair_at : ℕ → Number → Group
pair_at first second = record { mark = colon; first = first; second = second; third = None }

pair-of : (first : ℕ) (b : List ℕ) → group_of first (Mark colon ∷ Digits b ∷ []) ≡ Some (pair_at first (number_at b []), [])
unfolding group_of marked_number
pair-of first b = refl

pair-small : (first : ℕ) (second : Number) → second.value < 100 → large_in (pair_at first second) ≡ None
pair-small first second h = grind (arith, nat_tests)

pair-clock : (now : Now) (f : Fields) (h : ℕ) (m : Number) → h < 24 → m.value < 60
    → group_rule now f (pair_at h m) ≡ dated.Taken (timed f h m.value 0)
unfolding group_rule
pair-clock now f h m a b = rw (clock-taken f h m.value 0 a b (omega arith)) refl

short-end : (now : Now) (f : Fields) (a b : List ℕ) (h m : ℕ) → number a ≡ h → number b ≡ m → h < 24 → m < 60
    → rule now f (Digits a) (Mark colon ∷ Digits b ∷ []) ≡ Ok (Some (timed f h m 0), [])
unfolding group_said without_ending
short-end now f a b h m hh mm low top =
    let more = Mark colon ∷ Digits b ∷ [] in
    let left = bytes_left (Digits a ∷ more) in
    let second = numbered m (bytes_left (Digits b ∷ [])) in
    let said = λ (g : Group). ended (or_bare f a more (grouped left g [] (group_rule now f g))) in
    ap ended (small-rule now f a more (omega (arith, hh)))
    ∙ ap (λ (found : ReadTokens Group).
    ended (or_bare f a more (option_map_or (λ found. grouped left found.0 found.1 (group_rule now f found.0)) found (Ok None))))
    (pair-of (number a) b)
    ∙ ap (λ (n : ℕ). said (pair_at n (number_at b []))) hh
    ∙ ap (λ (n : ℕ). said (pair_at h (numbered n second.left))) mm
    ∙ ap (λ (said : Result (Option (Fields × List Token)) Fault). ended (or_bare f a more said))
    (taken-rule left (pair_at h second) [] _ (timed f h m 0) (pair-small h second (omega arith)) (pair-clock now f h second low top))
    ∙ ap (λ (rest : List Token). ended (Ok (Some (timed f h m 0), rest))) (at-end (knows_date (timed f h m 0)))

-- the clock of a text without an offset
module _ (date clock : ℕ × ℕ × ℕ) (mark : ℕ) (is : IsDateMark mark) (d : IsGitDate date) (hour : clock.0 < 24) (minute : clock.1 < 60)
    (second : clock.2 < 60) where
  abbrev t : LocalTime
  t = record {
    weekday = 0;
    date = record { year = date.0; month = date.1; day = date.2 };
    clock = record { hour = clock.0; minute = clock.1; second = clock.2 };
    offset = pos 0;
  }

  git-clock : IsGitClock t
  git-clock = record {
    weekday = omega arith;
    first_year = d.first_year;
    last_year = d.last_year;
    first_month = d.first_month;
    last_month = d.last_month;
    first_day = d.first_day;
    last_day = d.last_day;
    hour = hour;
    minute = minute;
    second = second;
    hours = omega arith;
    minutes = omega arith;
    known = λ behind one. absurd cc;
  }

  -- the date alone
  day-reads : (now : Now) → said_by now (marked_date mark date ++ [])
      ≡ fields_said (marked_date mark date ++ []) (Ok (at (day_fields date)))
  unfolding at_text tokens without_ending
  day-reads now =
      reads-are now (marked_date mark date ++ []) (date_tokens mark t []) 40 (day_fields date)
      (date-before mark t [] [] is git-clock refl tt)
      (rw is.no_nul refl) (omega arith) refl
      (go-date mark now 39 unknown t [] [] is git-clock refl ∙ nothing-left (step now) 39 (at (day_fields date)))

  -- a space and a clock after it
  abbrev after : List Token → List Token
  after ts = Mark space ∷ ts

  clock-reads : (now : Now) (rest : List ℕ) (ts : List Token) (f : Fields) → tokens rest ≡ ts
      → has_nul (date_tokens mark t (after ts)) ≡ false
      → at_text (date_tokens mark t (after ts)) ≡ None → length (date_tokens mark t (after ts)) ≤ 40
      → without_ending (after ts) ≡ after ts
      → steps now 38 (at (day_fields date)) ts ≡ Ok (at f)
      → said_by now (marked_date mark date ++ (space ∷ rest)) ≡ fields_said (marked_date mark date ++ (space ∷ rest)) (Ok (at f))
  clock-reads now rest ts f e free none fits ending read =
      reads-are now (marked_date mark date ++ (space ∷ rest)) (date_tokens mark t (after ts)) 40 f
      (date-before mark t (space ∷ rest) (after ts) is git-clock (mark-first space rest refl refl ∙ ap after e) tt) free fits none
      (go-date mark now 39 unknown t (after ts) (after ts) is git-clock ending ∙ skip-space now 38 (day_fields date) ts ∙ read)

  whole-reads : (now : Now) → said_by now (marked_date mark date ++ (space ∷ (clock_text t.clock ++ [])))
      ≡ fields_said (marked_date mark date ++ (space ∷ (clock_text t.clock ++ []))) (Ok (at (local_fields date clock)))
  unfolding at_text tokens without_ending
  whole-reads now =
      clock-reads now (clock_text t.clock ++ []) (clock_tokens t []) (local_fields date clock) (clock-before t [] [] git-clock refl tt)
      (rw is.no_nul refl) refl (omega arith) refl
      (go now 37 (day_fields date) (local_fields date clock) (Digits (two_digits clock.0)) _ [] refl
      (whole-end now (day_fields date) _ _ _ clock.0 clock.1 clock.2 (two-number _ (omega (arith, hour))).is
      (two-number _ (omega (arith, minute))).is (two-number _ (omega (arith, second))).is hour minute second)
      ∙ nothing-left (step now) 37 (at (local_fields date clock)))

  abbrev short_text : List ℕ
  short_text = two_digits clock.0 ++ (colon ∷ (two_digits clock.1 ++ []))

  short-reads : (now : Now) → said_by now (marked_date mark date ++ (space ∷ short_text))
      ≡ fields_said (marked_date mark date ++ (space ∷ short_text)) (Ok (at (local_fields date (clock.0, clock.1, 0))))
  unfolding at_text tokens without_ending
  short-reads now =
      clock-reads now short_text (Digits (two_digits clock.0) ∷ Mark colon ∷ Digits (two_digits clock.1) ∷ [])
      (local_fields date (clock.0, clock.1, 0))
      (two-numbers colon (two_digits clock.0) (two_digits clock.1) [] _ _ [] refl refl (two-number clock.0 (omega (arith, hour)))
      (two-number clock.1 (omega (arith, minute))) refl tt)
      (rw is.no_nul refl) refl (omega arith) refl
      (go now 37 (day_fields date) (local_fields date (clock.0, clock.1, 0)) (Digits (two_digits clock.0)) _ [] refl
      (short-end now (day_fields date) _ _ clock.0 clock.1 (two-number _ (omega (arith, hour))).is (two-number _ (omega (arith, minute))).is
      hour minute)
      ∙ nothing-left (step now) 37 (at (local_fields date (clock.0, clock.1, 0))))

says : (text shown : List ℕ) (f : Fields) → ((now : Now) → said_by now shown ≡ fields_said shown (Ok (at f))) → shown ≡ text
    → SaysFields text f
says text shown f reads same now = subst (λ (text : List ℕ). said_by now text ≡ fields_said text (Ok (at f))) same (reads now)

empty : (xs : List ℕ) → length xs ≡ 0 → xs ≡ []
empty [] e = refl
empty (x ∷ xs) e = absurd (omega (arith, e))

pub day_says : (text front back : List ℕ) (date : ℕ × ℕ × ℕ) → front ++ back ≡ text → length back ≡ 0 → WritesDate front date
    → SaysFields text (day_fields date)
day_says text front back date whole none d =
    says text _ (day_fields date)
    (day-reads date (0, 0, 0) d.mark (date-mark d.mark d.is_mark) d.within (omega arith) (omega arith) (omega arith))
    (ap₂ (λ (x y : List ℕ). x ++ y) d.is (sym (empty back none)) ∙ whole)

local-by : (text front rest : List ℕ) (date clock : ℕ × ℕ × ℕ) → front ++ (space ∷ rest) ≡ text → WritesDate front date
    → WritesAnyClock rest clock → SaysFields text (local_fields date clock)
local-by text front rest date clock whole d (inr c) =
    says text _ (local_fields date clock)
    (whole-reads date clock d.mark (date-mark d.mark d.is_mark) d.within c.hour c.minute c.second)
    (ap₂ (λ (x y : List ℕ). x ++ (space ∷ y)) d.is (sym (append-nil (clock_shown clock)) ∙ c.is) ∙ whole)
local-by text front rest date clock whole d (inl c) =
    subst (λ (s : ℕ). SaysFields text (local_fields date (clock.0, clock.1, s))) (sym c.second)
    (says text _ (local_fields date (clock.0, clock.1, 0))
    (short-reads date (clock.0, clock.1, 0) d.mark (date-mark d.mark d.is_mark) d.within c.hour c.minute (omega arith))
    (ap₂ (λ (x y : List ℕ). x ++ (space ∷ y)) d.is c.is ∙ whole))

pub local_says : (text front back : List ℕ) (date clock : ℕ × ℕ × ℕ) → front ++ back ≡ text → WritesDate front date
    → WritesSpacedClock back clock → SaysFields text (local_fields date clock)
local_says text front back date clock whole d c =
    local-by text front c.rest date clock (ap (λ y. front ++ y) c.is ∙ whole) d c.is_clock
