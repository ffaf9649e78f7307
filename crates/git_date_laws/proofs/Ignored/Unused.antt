-- What the exact reader ignores is the first token that is not used.
use Rattle.std.proofs.Common.{◌≡◌, ◌∙◌, ◌≤◌, ℕ, zero, suc, ℤ, Bool, true, false, cond, List, [], ◌∷◌, length, refl, sym, ap, subst, arith}
use Rattle.std.proofs.Common.{option_map, is_some, MatchOption, Option, Some, None, Result, Ok, Err}
use Rattle.std.proofs.lemmas.Bool.Decides.{nat_tests}
use Rattle.std.specs.Prelude.{codes, ◌==◌, ◌&&◌, ◌||◌}
use Rattle.std.specs.Option.{option_or}
use Rattle.jiff.specs.Types.{TimeZone}
use Rattle.jiff.specs.declared.zoned.Zoned.{Zoned}
use Rattle.gix_date.specs.Relative.Steps.{zone_of}
use Rattle.gix_date.specs.Text.Characters.{newline, minus, colon}
use Rattle.gix_date.specs.Text.Names.{is_name}
use Rattle.git_date.specs.Rules.Clocks.{utc_clock}
use Rattle.git_date.specs.Rules.Dates.{now_of, exact_seconds, year_date, recent_date}
use Rattle.git_date.specs.Types.DatedCases.{Taken}
use Rattle.git_date.specs.Rules.Digits.{with_epoch, Stepped, eight_digits, six_digits, four_digits, few_digits, bare_digits, digits_rule}
use Rattle.git_date.specs.Rules.Digits.{group_said}
use Rattle.git_date.specs.Rules.Fields.{knows_date, with_clock}
use Rattle.git_date.specs.Rules.Groups.{without_fraction, ReadTokens, group_of, clock_group, year_first_group, day_month_group, group_rule}
use Rattle.git_date.specs.Rules.Offsets.{is_sign}
use Rattle.git_date.specs.Tokens.Names.{zone_named}
use Rattle.git_date.specs.Tokens.Numbers.{number}
use Rattle.git_date.specs.Rules.Offsets.{SaidOffset, offset_said, with_offset, at_text}
use Rattle.git_date.specs.Exact.Outcome.{date_at, date_of}
use Rattle.git_date.specs.Exact.Reading.{nothing_read, read_on, ended, sign_rule, rule, steps, reading_of, place_in, at_said, by_seconds}
use Rattle.git_date.specs.Exact.Reading.{fields_said, at_or_fields, said_up_to, string_said, said_by}
use Rattle.git_date.specs.Tokens.Strings.{before_nul, nul_place}
use Rattle.git_date.specs.Tokens.Tokens.{Token, Letters, Digits, Mark, tokens, bytes_left, is_end, walked}
use Rattle.git_date.specs.Types.Names.{Now, Fields, Fault, Group, Reading, Said}
use Rattle.git_date.specs.Rules.Words.{is_filler, with_word, letters_rule, without_ending, with_zone, half_or_filler}
use Rattle.git_date.specs.declared.reader.ExactDate.{ExactDate}
use Rattle.git_date.specs.declared.error.DateError.{DateError}
use Rattle.git_date.proofs.Rules.EnoughSteps.{fewer, rule-short}
use Rattle.git_date.proofs.Rules.Kept.{Leaves}
use Rattle.git_date_laws.specs.Ignored.{is_set, is_known, is_word, after_ending, is_taken, takes_group, after_fraction, begins_line, alone}
use Rattle.git_date_laws.specs.Ignored.{may_be_epoch, Says, Epoch, InGroup, Alone, Used, Word, Number as UsedNumber, Sign, Other, Unused}
use Rattle.git_date_laws.specs.Ignored.{NoWord, NoNumber, NoSign, Walk, NoMore, LineEnds, Uses, Passes, first_of, IsFirstUnused}
use Rattle.git_date_laws.specs.Ignored.{IgnoresUnused}
use Rattle.git_date.specs.Tokens.Steps.{and_then}

-- either way, by a test
by-test : {A : Type 0} (F : A → Type 0) (b : Bool) (x y : A) → (b ≡ true → F x) → (b ≡ false → F y) → F (cond b x y)
by-test F true x y p q = p refl
by-test F false x y p q = q refl

-- what a rule makes of tokens
abbrev Finds : Now → Fields → List Token → Stepped → Type 0
Finds now f ts (Ok (Some next, rest)) = Used now f ts next rest
Finds now f ts (Ok (None, rest)) = Unused now f ts rest
Finds now f ts (Err e) = Unit {0}

-- letters
zone-known : (f : Fields) (word : List ℕ) (minutes : Option ℤ)
    → is_some (option_or (option_map (with_zone f) minutes) (half_or_filler f word))
    ≡ (is_some minutes || is_name word (codes "PM") || is_name word (codes "AM") || is_filler word)
zone-known f word minutes = grind (arith, nat_tests)

word-known : (f : Fields) (word : List ℕ) → is_some (with_word f word) ≡ is_known word
unfolding with_word
word-known f word = grind (arith, nat_tests, zone-known f word (zone_named word))

letters-known : (f : Fields) (run : List ℕ) (more : List Token) → is_some (letters_rule f run more) ≡ is_word run more
unfolding letters_rule
letters-known f run more = grind (arith, nat_tests, word-known f run)

letters-found : (now : Now) (f : Fields) (run : List ℕ) (more : List Token) (said : Option Fields) → letters_rule f run more ≡ said
    → Finds now f (Letters run ∷ more) (Ok (said, more))
letters-found now f run more (Some next) e = Word run more next (rw (← letters-known f run more, e) refl) e
letters-found now f run more None e = NoWord run more (rw (← letters-known f run more, e) refl)

-- endings
pub ending-is : (ts : List Token) → without_ending ts ≡ after_ending ts
unfolding without_ending
ending-is ts = grind (arith, nat_tests)

-- marks
sign-found : (now : Now) (f : Fields) (sign : ℕ) (ts : List Token) → is_sign sign ≡ true
    → Finds now f (Mark sign ∷ ts) (sign_rule f (sign == minus) ts)
unfolding sign_rule
sign-found now f sign [] s = Other sign [] (rw s refl)
sign-found now f sign (Letters run ∷ more) s = Other sign (Letters run ∷ more) (rw s refl)
sign-found now f sign (Mark byte ∷ more) s = Other sign (Mark byte ∷ more) (rw s refl)
sign-found now f sign (Digits run ∷ more) s = by (offset_said run more) refl
  where
    by : (said : SaidOffset) → offset_said run more ≡ said → Finds now f (Mark sign ∷ Digits run ∷ more)
        (ended (and_then said (λ said. Ok (option_map (with_offset f (sign == minus)) said.0, said.1))))
    by (Ok (Some minutes, after)) e = rw (ending-is after) (Sign sign run more after minutes s e)
    by (Ok (None, after)) e = rw (ending-is after) (NoSign sign run more after s e)
    by (Err wrong) e = tt

mark-is : (now : Now) (f : Fields) (byte : ℕ) (more : List Token)
    → rule now f (Mark byte) more ≡ cond (is_sign byte) (sign_rule f (byte == minus) more) (Ok (Some f, more))
mark-is now f byte more = grind (arith, nat_tests)

-- what groups set
clock-sets : (f next : Fields) (hour minute second : ℕ) → with_clock f hour minute second ≡ Some next
    → (is_some next.hour && is_some next.minute && is_some next.second) ≡ true
unfolding with_clock
clock-sets f next hour minute second e = grind (arith, nat_tests)

year-sets : (f next : Fields) (year month day : ℕ) → year_date f year month day ≡ Taken next
    → (is_some next.month && is_some next.day) ≡ true
unfolding year_date
year-sets f next year month day e = grind (arith, nat_tests)

recent-sets : (now : Now) (f next : Fields) (month day : ℕ) (third : Option ℕ) → recent_date now f month day third ≡ Some next
    → (is_some next.month && is_some next.day) ≡ true
unfolding recent_date
recent-sets now f next month day third e = grind (arith, nat_tests)

clock-group-sets : (f next : Fields) (g : Group) → clock_group f g ≡ Taken next
    → (is_some next.hour && is_some next.minute && is_some next.second) ≡ true
clock-group-sets f next g e = grind (arith, clock-sets)

year-group-sets : (f next : Fields) (g : Group) → year_first_group f g ≡ Taken next → (is_some next.month && is_some next.day) ≡ true
year-group-sets f next g e = grind (arith, year-sets)

day-group-sets : (now : Now) (f next : Fields) (g : Group) → day_month_group now f g ≡ Taken next
    → (is_some next.month && is_some next.day) ≡ true
unfolding day_month_group
day-group-sets now f next g e = grind (arith, recent-sets)

group-sets : (now : Now) (f next : Fields) (g : Group) → group_rule now f g ≡ Taken next → is_set g next ≡ true
unfolding group_rule
group-sets now f next g e = grind (arith, nat_tests, clock-group-sets, year-group-sets, day-group-sets)

-- digits
fraction-is : (ts : List Token) → without_fraction ts ≡ after_fraction true ts
unfolding without_fraction
fraction-is ts = grind (arith, nat_tests)

may-follow : (b : Bool) (ts : List Token) → cond b (without_fraction ts) ts ≡ after_fraction b ts
may-follow true ts = fraction-is ts
may-follow false ts = refl

abbrev alone_step : Fields → List ℕ → List Token → Option Fields × List Token
alone_step f run more =
    let said = alone f (length run) (number run) in (said, cond (is_some said && length run == 6) (without_fraction more) more)

eight-said : (f : Fields) (run : List ℕ) (more : List Token) (found : Option Fields × List Token) → length run ≡ 8
    → eight_digits f run more ≡ Ok found
    → found ≡ alone_step f run more
unfolding alone year_date
eight-said f run more found w e = grind (arith, nat_tests)

six-said : (f : Fields) (run : List ℕ) (more : List Token) → length run ≡ 6 → six_digits f (number run) more ≡ alone_step f run more
unfolding alone with_clock
six-said f run more w = grind (arith, nat_tests)

other-said : (f : Fields) (run : List ℕ) (more : List Token) → (length run == 8) ≡ false → (length run == 6) ≡ false
    → bare_digits f run more ≡ Ok (alone_step f run more)
unfolding alone bare_digits four_digits few_digits
other-said f run more e g = grind (arith, nat_tests)

bare-said : (f : Fields) (run : List ℕ) (more : List Token) (found : Option Fields × List Token) → bare_digits f run more ≡ Ok found
    → found ≡ alone_step f run more
unfolding bare_digits
bare-said f run more found e = grind (arith, nat_tests, eight-said f run more found, six-said f run more, other-said f run more)

module _ (now : Now) (f : Fields) (run : List ℕ) (more : List Token) where
  epoch-says : (next : Fields) (rest : List Token) → digits_rule now f run more ≡ Ok (Some next, rest) → may_be_epoch f (number run) ≡ true
      → (option_map (with_epoch f) (utc_clock (number run)) ≡ Some next) × (rest ≡ more)
  unfolding digits_rule
  epoch-says next rest e is = (grind (arith, nat_tests), grind (arith, nat_tests))

  group-says : (next : Fields) (rest : List Token) (g : Group) (after : List Token) → digits_rule now f run more ≡ Ok (Some next, rest)
      → may_be_epoch f (number run) ≡ false
      → group_of (number run) more ≡ Some (g, after) → is_taken (group_rule now f g) ≡ true
      → (group_rule now f g ≡ Taken next) × (rest ≡ after_fraction (g.mark == colon && knows_date next) after)
  unfolding digits_rule group_said
  group-says next rest g after e not of taken =
      (grind (arith, nat_tests), grind (arith, nat_tests, may-follow (g.mark == colon && knows_date next) after))

  alone-says : (next : Fields) (rest : List Token) → digits_rule now f run more ≡ Ok (Some next, rest) → may_be_epoch f (number run) ≡ false
      → takes_group now f (group_of (number run) more) ≡ false
      → (alone f (length run) (number run) ≡ Some next) × (rest ≡ after_fraction (length run == 6) more)
  unfolding digits_rule group_said
  alone-says next rest e not none =
      (grind (arith, nat_tests, bare-said f run more), grind (arith, nat_tests, bare-said f run more, may-follow (length run == 6) more))

  none-says : (rest : List Token) → digits_rule now f run more ≡ Ok (None, rest)
      → (may_be_epoch f (number run) ≡ false) × (takes_group now f (group_of (number run) more) ≡ false)
      × (alone f (length run) (number run) ≡ None) × (rest ≡ more)
  unfolding digits_rule group_said
  none-says rest e = (
    grind (arith, nat_tests),
    grind (arith, nat_tests),
    grind (arith, nat_tests, bare-said f run more),
    grind (arith, nat_tests, bare-said f run more),
  )

  says : (next : Fields) (rest : List Token) → digits_rule now f run more ≡ Ok (Some next, rest) → Says now f run more next rest
  says next rest e = by (may_be_epoch f (number run)) _ (group_of (number run) more) refl refl refl
    where
      by : (epoch taken : Bool) (found : ReadTokens Group) → may_be_epoch f (number run) ≡ epoch → group_of (number run) more ≡ found
          → takes_group now f found ≡ taken
          → Says now f run more next rest
      by true taken found is of t = let p = epoch-says next rest e is in rw (p.1) (Epoch next is p.0)
      by false false found is of t = let p = alone-says next rest e is (rw of t) in rw (p.1) (Alone next is (rw of t) p.0)
      by false true None is of t = absurd cc
      by false true (Some (g, after)) is of t = let p = group-says next rest g after e is of t in
          rw (p.1) (InGroup g next after is of p.0 (group-sets now f next g p.0))

  digits-found : Finds now f (Digits run ∷ more) (ended (digits_rule now f run more))
  digits-found = by (digits_rule now f run more) refl
    where
      by : (step : Stepped) → digits_rule now f run more ≡ step → Finds now f (Digits run ∷ more) (ended step)
      by (Ok (Some next, rest)) e = rw (ending-is rest) (UsedNumber run more rest next (says next rest e))
      by (Ok (None, rest)) e = let no = none-says rest e in rw (no.3, ending-is more) (NoNumber run more no.0 no.1 no.2)
      by (Err wrong) e = tt

rule-found : (now : Now) (f : Fields) (t : Token) (more : List Token) → Finds now f (t ∷ more) (rule now f t more)
rule-found now f (Letters run) more = letters-found now f run more (letters_rule f run more) refl
rule-found now f (Digits run) more = digits-found now f run more
rule-found now f (Mark byte) more =
    rw (mark-is now f byte more)
    (by-test (Finds now f (Mark byte ∷ more)) (is_sign byte) _ _ (sign-found now f byte more) (λ s. Other byte more (rw s refl)))

-- the walk
line-is : (t : Token) → is_end t ≡ true → t ≡ Mark newline
line-is t e = grind (arith, nat_tests)

module _ (now : Now) where
  abbrev Comes : Reading → List Token → Reading → Type 0
  Comes r ts last = (unused : List ℕ) × Walk now r.fields ts unused last.fields × (last.ignored ≡ option_or r.ignored (first_of unused))

  abbrev AreWalked : ℕ → Type 0
  AreWalked n = (r last : Reading) (ts : List Token) → length ts ≤ n → steps now n r ts ≡ Ok last → Comes r ts last

  ends : (r last : Reading) (ts : List Token) → Walk now r.fields ts [] r.fields → ◌≡◌ {A = Result Reading Fault} (Ok r) (Ok last)
      → Comes r ts last
  ends r last ts walk e = let same : r ≡ last = cc in subst (Comes r ts) same ([], walk, grind arith)

  then-walk : (n : ℕ) → AreWalked n → (r last : Reading) (ts : List Token) (step : Stepped) → begins_line ts ≡ false
      → Finds now r.fields ts step → Leaves (λ ts. length ts ≤ n) (λ left. Unit {0}) step
      → and_then step (λ next. steps now n (read_on r (bytes_left ts) next.0) next.1) ≡ Ok last → Comes r ts last
  then-walk n all r last ts (Ok (Some next, rest)) on found short e =
      let later = all (record r { fields = next }) last rest short e in
      (later.0, Uses r.fields next last.fields ts rest later.0 on found later.1, later.2)
  then-walk n all r last ts (Ok (None, rest)) on found short e =
      let later = all (read_on r (bytes_left ts) None) last rest short e in
      (bytes_left ts ∷ later.0, Passes r.fields last.fields ts rest later.0 found later.1, grind (arith, later.2))
  then-walk n all r last ts (Err wrong) on found short e = absurd cc

  first-walk : (n : ℕ) → AreWalked n → (r last : Reading) (t : Token) (more : List Token) (b : Bool) → is_end t ≡ b
      → length (t ∷ more) ≤ suc n
      → cond b (Ok r) (and_then (rule now r.fields t more) (λ next. steps now n (read_on r (bytes_left (t ∷ more)) next.0) next.1))
      ≡ Ok last → Comes r (t ∷ more) last
  first-walk n all r last t more true is short e = rw (line-is t is) (ends r last (Mark newline ∷ more) (LineEnds r.fields more) e)
  first-walk n all r last t more false is short e =
      then-walk n all r last (t ∷ more) (rule now r.fields t more) (grind (arith, is)) (rule-found now r.fields t more)
      (rule-short now n r.fields t more (omega arith)) e

  pub steps-walk : (n : ℕ) → AreWalked n
  unfolding walked
  steps-walk zero r last [] short e = ends r last [] (NoMore r.fields) e
  steps-walk (suc n) r last [] short e = ends r last [] (NoMore r.fields) e
  steps-walk zero r last (t ∷ more) short e = absurd (omega arith)
  steps-walk (suc n) r last (t ∷ more) short e =
      first-walk n (λ r last ts short e. steps-walk n r last ts short e) r last t more (is_end t) refl short e

  text-walk : (text : List ℕ) (last : Reading) → reading_of now text ≡ Ok last → Comes nothing_read (tokens text) last
  unfolding reading_of
  text-walk text last e = steps-walk (length text) nothing_read last (tokens text) (fewer text) e

-- the answer
date-ignored : (tz : TimeZone) (said : Said) (date : ExactDate) → Ok date ≡ date_of tz (Ok said) → date.ignored ≡ said.ignored
unfolding date_at
date-ignored tz said date e = grind arith

at-ignored : (found : ℕ × ℤ) (said : Said) → at_said found ≡ Ok said → said.ignored ≡ None
unfolding at_said
at-ignored found said e = grind arith

said-parts : (text : List ℕ) (r : Reading) (seconds : Option ℤ) (said : Said) → by_seconds text r seconds ≡ Ok said
    → (seconds ≡ Some said.seconds) × (r.fields.offset ≡ said.offset) × (r.fields.epoch ≡ said.epoch)
    × (said.ignored ≡ option_map (place_in text) r.ignored)
said-parts text r seconds said e = (grind arith, grind arith, grind arith, grind arith)

pub ignores_unused : (moment : Zoned) (text : List ℕ) → IgnoresUnused moment text
unfolding said_by string_said fields_said
ignores_unused moment text date reads = by (at_or_fields now string (at_text (tokens string))) refl reads
  where
    string : List ℕ
    string = before_nul text

    now : Now
    now = now_of moment

    up : Said → Said
    up said = record said { ignored = option_or said.ignored (nul_place text) }

    fields : (found : Result Reading Fault) (said : Said) → reading_of now string ≡ found → fields_said string found ≡ Ok said
        → Ok date ≡ date_of (zone_of moment) (Ok (up said))
        → IsFirstUnused moment text date
    fields (Err wrong) said is f e = absurd cc
    fields (Ok r) said is f e =
        let walk = text-walk now string r is in
        let parts = said-parts string r (exact_seconds r.fields) said f in
        record {
          unused = walk.0;
          last = r.fields;
          said = up said;
          walk = walk.1;
          seconds = parts.0;
          offset = parts.1;
          epoch = parts.2;
          is_date = sym e;
          first = date-ignored (zone_of moment) (up said) date e
              ∙ ap (λ (i : Option ℕ). option_or i (nul_place text)) (parts.3 ∙ ap (option_map (place_in string)) walk.2);
        }

    at : (found : Option (ℕ × ℤ)) (said : Said) → at_or_fields now string found ≡ Ok said
        → Ok date ≡ date_of (zone_of moment) (Ok (up said))
        → MatchOption found (IsFirstUnused moment text date) (λ at. date.ignored ≡ nul_place text)
    at None said f e = fields (reading_of now string) said refl f e
    at (Some found) said f e = date-ignored (zone_of moment) (up said) date e
        ∙ ap (λ (i : Option ℕ). option_or i (nul_place text)) (at-ignored found said f)

    by : (said : Result Said DateError) → at_or_fields now string (at_text (tokens string)) ≡ said
        → Ok date ≡ date_of (zone_of moment) (said_up_to (nul_place text) said)
        → MatchOption (at_text (tokens string)) (IsFirstUnused moment text date) (λ at. date.ignored ≡ nul_place text)
    by (Ok said) is e = at (at_text (tokens string)) said is e
    by (Err wrong) is e = absurd cc
