-- What the named formats print of a clock is read back.
use Rattle.std.proofs.Common.{◌≡◌, ◌∙◌, ◌<◌, ◌≤◌, ◌+◌, ◌*◌, ◌/◌, ◌%◌, ◌⊎◌, inl, inr, ℕ, zero, suc, ℤ, pos, negsuc, neg_ℤ, unsigned_abs}
use Rattle.std.proofs.Common.{Bool, true, false, cond, List, [], ◌∷◌, ◌++◌, length, refl, ap, sym, subst, arith, Option, Some, None}
use Rattle.std.proofs.Common.{is_none, Ok}
use Rattle.std.specs.Prelude.{◌==◌, ◌&&◌, nat_le, nat_lt, int_lt, Result}
use Rattle.std.specs.Char.{is_ascii_alphabetic, is_ascii_digit}
use Rattle.std.specs.Fmt.{decimal}
use Rattle.std.specs.Ordering.{int_eq}
use Rattle.std.specs.Str.{all_ascii_digits}
use Rattle.std.proofs.lemmas.Bool.Decides.{nat_tests}
use Rattle.std.proofs.lemmas.Bool.{and_parts, cases_order}
use Rattle.std.proofs.lemmas.Fmt.{decimal_digit}
use Rattle.gix_date.proofs.Printing.ReadBack.{day_is_named, month-is}
use Rattle.gix_date.proofs.Printing.ShownPieces.{decimal-two}
use Rattle.gix_date.specs.Text.Characters.{space, plus, minus, colon, comma, dot, letter_t}
use Rattle.gix_date.specs.Text.Names.{day_name, month_name}
use Rattle.gix_date.specs.Text.Numbers.{two_digits}
use Rattle.gix_date.specs.Fields.ClockNumbers.{hours_in, minutes_in}
use Rattle.gix_date.specs.Fields.FieldTexts.{AreThreeLetters, four_digits, clock_text}
use Rattle.gix_date.specs.Fields.DateOffsets.{strict_offset_text}
use Rattle.gix_date.specs.Fields.Layout.{LocalTime}
use Rattle.gix_date.specs.Fields.Offsets.{offset_sign, compact_offset_text}
use Rattle.git_date.specs.Tokens.Strings.{nul}
use Rattle.git_date.specs.Tokens.Tokens.{Token, Letters, Digits, Mark, letter_before, digit_before, tokens, bytes_left, is_end, walked}
use Rattle.git_date.specs.Tokens.Numbers.{number, narrow}
use Rattle.git_date.specs.Tokens.Names.{is_weekday}
use Rattle.gix_date.specs.Text.LongNames.{month_of_word, weekday_of_word}
use Rattle.git_date.specs.Exact.Fast.{is_date_mark, marked_date}
use Rattle.git_date.specs.Rules.Fields.{unknown, with_clock, with_date, knows_date}
use Rattle.git_date.specs.Rules.Words.{with_word, letters_rule, without_ending}
use Rattle.git_date.specs.Rules.Dates.{by_year, year_said, year_date}
use Rattle.git_date.specs.Rules.Groups.{ReadTokens, or_else, number_at, marked_number, group_of, group_rule, large_in, without_fraction}
use Rattle.git_date.specs.Rules.Groups.{after_group, is_group_mark}
use Rattle.git_date.specs.Rules.Digits.{Stepped, four_digits as four_digit_rule, few_digits, bare_digits, grouped, group_or_bare}
use Rattle.git_date.specs.Rules.Digits.{digits_rule, group_said}
use Rattle.git_date.specs.Rules.Offsets.{white, without_white, padded_number, offset_minutes, colon_minutes, two_digit_offset, offset_said}
use Rattle.git_date.specs.Rules.Offsets.{known_minutes, with_offset}
use Rattle.git_date.specs.Exact.Reading.{read_on, ended, sign_rule, rule, steps, step}
use Rattle.git_date.specs.declared.fields.dates.Now.{Now}
use Rattle.git_date.specs.declared.fields.dates.Dated.{Dated}
use Rattle.git_date.specs.declared.fields.dates.Dated.TheVariants as dated
use Rattle.git_date.specs.declared.fields.Fields.{Fields}
use Rattle.git_date.specs.declared.fields.groups.Group.{Group}
use Rattle.git_date.specs.declared.fields.groups.Number.{Number}
use Rattle.git_date.specs.declared.reader.Reading.{Reading}
use Rattle.git_date.proofs.Text.Walked.{nothing-left}
use Rattle.git_date.proofs.Text.TokenRuns.{digit-first, letter-first, mark-first}
use Rattle.git_date.specs.Tokens.Steps.{and_then}
use Rattle.std.specs.Option.{option_map_or}
use Rattle.git_date.specs.declared.error.Fault.{Fault}

-- digits before other tokens
abbrev pub HasNoDigits : List Token → Type 0
HasNoDigits (Digits run ∷ more) = ⊥
HasNoDigits ts = Unit {0}

alone : (c : ℕ) (ts : List Token) → HasNoDigits ts → digit_before c ts ≡ Digits (c ∷ []) ∷ ts
alone c (Digits run ∷ more) h = absurd h
alone c ts h = refl

pub run-before : (run rest : List ℕ) (ts : List Token) → 1 ≤ length run → all_ascii_digits run ≡ true → tokens rest ≡ ts → HasNoDigits ts
    → tokens (run ++ rest) ≡ Digits run ∷ ts
run-before [] rest ts some h e free = absurd (omega arith)
run-before (c ∷ []) rest ts some h e free = digit-first c rest (and_parts (is_ascii_digit c) true h).0 ∙ ap (digit_before c) e
    ∙ alone c ts free
run-before (c ∷ d ∷ run) rest ts some h e free =
    let both = and_parts (is_ascii_digit c) (all_ascii_digits (d ∷ run)) h in
    digit-first c ((d ∷ run) ++ rest) both.0 ∙ ap (digit_before c) (run-before (d ∷ run) rest ts (omega arith) both.1 e free)

pub digit-test : (n : ℕ) → n < 10 → is_ascii_digit (48 + n) ≡ true
digit-test n h = grind (arith, nat_tests)

-- a number in digits
pub record IsNumber (x : List ℕ) (n : ℕ) : Type 0 where
  pub some : 1 ≤ length x
  pub digits : all_ascii_digits x ≡ true
  pub is : number x ≡ n

pub number-before : (x rest : List ℕ) (ts : List Token) (n : ℕ) → IsNumber x n → tokens rest ≡ ts → HasNoDigits ts
    → tokens (x ++ rest) ≡ Digits x ∷ ts
number-before x rest ts n p = run-before x rest ts p.some p.digits

pub two-numbers : (mark : ℕ) (a b rest : List ℕ) (x y : ℕ) (ts : List Token) → is_ascii_alphabetic mark ≡ false
    → is_ascii_digit mark ≡ false → IsNumber a x → IsNumber b y
    → tokens rest ≡ ts → HasNoDigits ts → tokens (a ++ (mark ∷ (b ++ rest))) ≡ Digits a ∷ Mark mark ∷ Digits b ∷ ts
two-numbers mark a b rest x y ts no_letter no_digit p q e free =
    number-before a _ _ x p
    (mark-first mark (b ++ rest) no_letter no_digit ∙ ap (λ (ts : List Token). Mark mark ∷ ts) (number-before b rest ts y q e free)) tt

pub three-numbers : (mark : ℕ) (a b c rest : List ℕ) (x y z : ℕ) (ts : List Token) → is_ascii_alphabetic mark ≡ false
    → is_ascii_digit mark ≡ false → IsNumber a x → IsNumber b y → IsNumber c z
    → tokens rest ≡ ts → HasNoDigits ts
    → tokens (a ++ (mark ∷ (b ++ (mark ∷ (c ++ rest))))) ≡ Digits a ∷ Mark mark ∷ Digits b ∷ Mark mark ∷ Digits c ∷ ts
three-numbers mark a b c rest x y z ts no_letter no_digit p q r e free =
    number-before a _ _ x p (mark-first mark _ no_letter no_digit
    ∙ ap (λ (ts : List Token). Mark mark ∷ ts) (two-numbers mark b c rest y z ts no_letter no_digit q r e free)) tt

-- numbers that are so written
one-number : (n : ℕ) → n < 10 → IsNumber ((48 + n) ∷ []) n
unfolding number
one-number n h = record { some = omega arith; digits = rw (digit-test n h) refl; is = omega arith }

pub two-number : (n : ℕ) → n < 100 → IsNumber (two_digits n) n
unfolding number
two-number n h =
    record { some = omega arith; digits = rw (digit-test (n / 10) (omega arith), digit-test (n % 10) (omega arith)) refl; is = omega arith }

pub pairs-number : (a b : ℕ) → a < 100 → b < 100 → IsNumber (two_digits a ++ two_digits b) (100 * a + b)
unfolding number
pairs-number a b h g = record {
  some = omega arith;
  digits = rw (
    digit-test (a / 10) (omega arith),
    digit-test (a % 10) (omega arith),
    digit-test (b / 10) (omega arith),
    digit-test (b % 10) (omega arith),
  ) refl;
  is = omega arith;
}

year-number : (y : ℕ) → y < 10_000 → IsNumber (four_digits y) y
year-number y h = let whole : 100 * (y / 100) + y % 100 ≡ y = omega arith in
    subst (IsNumber (four_digits y)) whole (pairs-number (y / 100) (y % 100) (omega arith) (omega arith))

-- the day of the month, as formats print it
pub record IsDayText (n : ℕ) (run : List ℕ) : Type 0 where
  pub width : (length run ≡ 1) ⊎ (length run ≡ 2)
  pub number : IsNumber run n

pub two-day : (n : ℕ) → n < 100 → IsDayText n (two_digits n)
two-day n h = record { width = inr refl; number = two-number n h }

pub bare-day : (n : ℕ) → n < 100 → IsDayText n (decimal n)
bare-day n h =
    elim (cases_order n 10) [
      | inl ten ↦ subst (IsDayText n) (sym (decimal-two n (omega arith) h)) (two-day n h)
      | inr (inl low) ↦ subst (IsDayText n) (sym (decimal_digit n low)) (record { width = inl refl; number = one-number n low })
      | inr (inr large) ↦ subst (IsDayText n) (sym (decimal-two n (omega arith) h)) (two-day n h)
    ]

-- what is written of a clock: years that Git knows, and an offset of whole minutes that is not -0001
abbrev pub hours_of : LocalTime → ℕ
hours_of t = hours_in (unsigned_abs t.offset)

abbrev pub minutes_of : LocalTime → ℕ
minutes_of t = minutes_in (unsigned_abs t.offset)

abbrev pub is_behind : LocalTime → Bool
is_behind t = int_lt t.offset (pos 0)

abbrev pub signed : Bool → ℕ → ℤ
signed behind n = cond behind (neg_ℤ (pos n)) (pos n)

abbrev pub offset_in_minutes : LocalTime → ℤ
offset_in_minutes t = signed (is_behind t) (60 * hours_of t + minutes_of t)

pub record IsGitClock (t : LocalTime) : Type 0 where
  pub weekday : t.weekday < 7
  pub first_year : 1970 ≤ t.date.year
  pub last_year : t.date.year ≤ 2099
  pub first_month : 1 ≤ t.date.month
  pub last_month : t.date.month ≤ 12
  pub first_day : 1 ≤ t.date.day
  pub last_day : t.date.day ≤ 31
  pub hour : t.clock.hour < 24
  pub minute : t.clock.minute < 60
  pub second : t.clock.second < 60
  pub hours : hours_of t < 24
  pub minutes : minutes_of t < 60
  pub known : is_behind t ≡ true → 60 * hours_of t + minutes_of t ≡ 1 → ⊥

-- tokens of what is printed
abbrev pub clock_tokens : LocalTime → List Token → List Token
clock_tokens t more =
    Digits (two_digits t.clock.hour) ∷ Mark colon ∷ Digits (two_digits t.clock.minute) ∷ Mark colon ∷ Digits (two_digits t.clock.second) ∷
    more

abbrev pub date_tokens : ℕ → LocalTime → List Token → List Token
date_tokens mark t more =
    Digits (four_digits t.date.year) ∷ Mark mark ∷ Digits (two_digits t.date.month) ∷ Mark mark ∷ Digits (two_digits t.date.day) ∷ more

abbrev pub sign_of : LocalTime → ℕ
sign_of t = offset_sign t.offset

abbrev pub offset_tokens : LocalTime → List Token
offset_tokens t = Mark (sign_of t) ∷ Digits (two_digits (hours_of t) ++ two_digits (minutes_of t)) ∷ []

abbrev pub colon_tokens : LocalTime → List Token
colon_tokens t = Mark (sign_of t) ∷ Digits (two_digits (hours_of t)) ∷ Mark colon ∷ Digits (two_digits (minutes_of t)) ∷ []

pub sign-before : (behind : Bool) (rest : List ℕ) → tokens (cond behind minus plus ∷ rest) ≡ Mark (cond behind minus plus) ∷ tokens rest
sign-before true rest = mark-first minus rest refl refl
sign-before false rest = mark-first plus rest refl refl

offset-before : (t : LocalTime) → IsGitClock t → tokens (compact_offset_text t.offset) ≡ offset_tokens t
unfolding tokens
offset-before t h =
    sign-before (is_behind t) (two_digits (hours_of t) ++ two_digits (minutes_of t))
    ∙ ap (λ (ts : List Token). Mark (sign_of t) ∷ ts)
    (number-before _ [] [] _ (pairs-number (hours_of t) (minutes_of t) (omega (arith, h.hours)) (omega (arith, h.minutes))) refl tt)

colon-before : (t : LocalTime) → IsGitClock t → tokens (strict_offset_text t.offset) ≡ colon_tokens t
unfolding tokens
colon-before t h =
    sign-before (is_behind t) (two_digits (hours_of t) ++ colon ∷ two_digits (minutes_of t))
    ∙ ap (λ (ts : List Token). Mark (sign_of t) ∷ ts)
    (two-numbers colon (two_digits (hours_of t)) (two_digits (minutes_of t)) [] _ _ [] refl refl
    (two-number (hours_of t) (omega (arith, h.hours))) (two-number (minutes_of t) (omega (arith, h.minutes))) refl tt)

pub clock-before : (t : LocalTime) (rest : List ℕ) (ts : List Token) → IsGitClock t → tokens rest ≡ ts → HasNoDigits ts
    → tokens (clock_text t.clock ++ rest) ≡ clock_tokens t ts
clock-before t rest ts h =
    three-numbers colon (two_digits t.clock.hour) (two_digits t.clock.minute) (two_digits t.clock.second) rest _ _ _ ts refl refl
    (two-number t.clock.hour (omega (arith, h.hour))) (two-number t.clock.minute (omega (arith, h.minute)))
    (two-number t.clock.second (omega (arith, h.second)))

year-before : (t : LocalTime) (rest : List ℕ) (ts : List Token) → IsGitClock t → tokens rest ≡ ts → HasNoDigits ts
    → tokens (four_digits t.date.year ++ rest) ≡ Digits (four_digits t.date.year) ∷ ts
year-before t rest ts h = number-before (four_digits t.date.year) rest ts _ (year-number t.date.year (omega (arith, h.last_year)))

-- what the rules ask of a mark between the numbers of a date
pub record IsDateMark (mark : ℕ) : Type 0 where
  pub no_letter : is_ascii_alphabetic mark ≡ false
  pub no_digit : is_ascii_digit mark ≡ false
  pub group : is_group_mark mark ≡ true
  pub no_colon : (mark == colon) ≡ false
  pub no_nul : (mark == nul) ≡ false
  pub again : (mark == mark) ≡ true

pub date-mark : (mark : ℕ) → is_date_mark mark ≡ true → IsDateMark mark
date-mark mark h = record {
  no_letter = grind (arith, nat_tests, h);
  no_digit = grind (arith, nat_tests, h);
  group = grind (arith, nat_tests, h);
  no_colon = grind (arith, nat_tests, h);
  no_nul = grind (arith, nat_tests, h);
  again = grind (arith, nat_tests);
}

pub date-before : (mark : ℕ) (t : LocalTime) (rest : List ℕ) (ts : List Token) → IsDateMark mark → IsGitClock t → tokens rest ≡ ts
    → HasNoDigits ts
    → tokens (marked_date mark (t.date.year, t.date.month, t.date.day) ++ rest) ≡ date_tokens mark t ts
date-before mark t rest ts is h =
    three-numbers mark (four_digits t.date.year) (two_digits t.date.month) (two_digits t.date.day) rest _ _ _ ts is.no_letter is.no_digit
    (year-number t.date.year (omega (arith, h.last_year))) (two-number t.date.month (omega (arith, h.last_month)))
    (two-number t.date.day (omega (arith, h.last_day)))

-- names of three letters, before a mark
letters-first : (a b c : ℕ) (rest : List ℕ) (byte : ℕ) (more : List Token) → AreThreeLetters (a ∷ b ∷ c ∷ [])
    → tokens rest ≡ Mark byte ∷ more
    → tokens (a ∷ b ∷ c ∷ rest) ≡ Letters (a ∷ b ∷ c ∷ []) ∷ Mark byte ∷ more
letters-first a b c rest byte more h e =
    let last = and_parts (is_ascii_alphabetic a && is_ascii_alphabetic b) (is_ascii_alphabetic c) h in
    let front = and_parts (is_ascii_alphabetic a) (is_ascii_alphabetic b) last.0 in
    letter-first a (b ∷ c ∷ rest) front.0 ∙ ap (letter_before a)
    (letter-first b (c ∷ rest) front.1 ∙ ap (letter_before b) (letter-first c rest last.1 ∙ ap (letter_before c) e))

pub name-first : (x rest : List ℕ) (byte : ℕ) (more : List Token) → AreThreeLetters x → tokens rest ≡ Mark byte ∷ more
    → tokens (x ++ rest) ≡ Letters x ∷ Mark byte ∷ more
name-first (a ∷ b ∷ c ∷ []) rest byte more h e = letters-first a b c rest byte more h e
name-first x rest byte more h e = absurd h

day-before : (n : ℕ) (rest : List ℕ) (byte : ℕ) (more : List Token) → n < 7 → tokens rest ≡ Mark byte ∷ more
    → tokens (day_name n ++ rest) ≡ Letters (day_name n) ∷ Mark byte ∷ more
day-before n rest byte more h = name-first (day_name n) rest byte more (day_is_named n h).0

month-before : (n : ℕ) (rest : List ℕ) (byte : ℕ) (more : List Token) → 1 ≤ n → n ≤ 12 → tokens rest ≡ Mark byte ∷ more
    → tokens (month_name n ++ rest) ≡ Letters (month_name n) ∷ Mark byte ∷ more
month-before n rest byte more l h = name-first (month_name n) rest byte more (month-is n l h).0

-- what names say
day-said : (f : Fields) (n : ℕ) → n < 7 → with_word f (day_name n) ≡ Some f
unfolding with_word month_of_word is_weekday weekday_of_word
day-said f (suc (suc (suc (suc (suc (suc (suc n))))))) h = absurd (omega arith)
day-said f n h = refl

month-said : (f : Fields) (n : ℕ) → 1 ≤ n → n ≤ 12 → with_word f (month_name n) ≡ Some (record f { month = Some n })
unfolding with_word month_of_word
month-said f zero l h = absurd (omega arith)
month-said f (suc (suc (suc (suc (suc (suc (suc (suc (suc (suc (suc (suc (suc n))))))))))))) l h = absurd (omega arith)
month-said f n l h = refl

-- rules of digits
-- what a group said, or else digits by their width
abbrev pub or_bare : Fields → List ℕ → List Token → Result (Option (Fields × List Token)) Fault → Stepped
or_bare f run more said = and_then said (group_or_bare f run more)

pub small-rule : (now : Now) (f : Fields) (run : List ℕ) (more : List Token) → number run < 10_000
    → digits_rule now f run more ≡ or_bare f run more (group_said now f run more)
unfolding digits_rule
small-rule now f run more h = grind (arith, nat_tests)

bare-rule : (now : Now) (f : Fields) (run : List ℕ) (more : List Token) → group_of (number run) more ≡ None
    → or_bare f run more (group_said now f run more) ≡ bare_digits f run more
unfolding group_said
bare-rule now f run more e =
    ap (λ (found : ReadTokens Group). or_bare f run more
    (option_map_or (λ found. grouped (bytes_left (Digits run ∷ more)) found.0 found.1 (group_rule now f found.0)) found (Ok None))) e

space-group : (first : ℕ) (rest : List Token) → group_of first (Mark space ∷ rest) ≡ None
unfolding group_of marked_number
space-group first (Digits run ∷ more) = refl
space-group first ts = refl

few-rule : (f : Fields) (width n : ℕ) → 1 ≤ n → n ≤ 31 → f.day ≡ None → few_digits f width n ≡ Some (record f { day = Some n })
unfolding few_digits
few-rule f width n l h e =
    let low : nat_le 1 n ≡ true = grind (arith, nat_tests) in
    let high : nat_le n 31 ≡ true = grind (arith, nat_tests) in
    let none : is_none f.day ≡ true = ap is_none e in
    rw (low, high, none) refl

bare-few : (f : Fields) (run : List ℕ) (more : List Token) → (length run ≡ 1) ⊎ (length run ≡ 2)
    → bare_digits f run more ≡ Ok (few_digits f (length run) (number run), more)
unfolding bare_digits
bare-few f run more (inl e) = rw e refl
bare-few f run more (inr e) = rw e refl

pub day-rule : (now : Now) (f : Fields) (n : ℕ) (run : List ℕ) (rest : List Token) → IsDayText n run → 1 ≤ n → n ≤ 31 → f.day ≡ None
    → rule now f (Digits run) (Mark space ∷ rest) ≡ Ok (Some (record f { day = Some n }), Mark space ∷ rest)
unfolding without_ending
day-rule now f n run rest is l h none =
    let e = is.number.is in
    ap ended
    (small-rule now f run (Mark space ∷ rest) (omega arith) ∙ bare-rule now f run (Mark space ∷ rest) (space-group (number run) rest)
    ∙ bare-few f run (Mark space ∷ rest) is.width
    ∙ ap (λ (m : ℕ). Ok (few_digits f (length run) m, Mark space ∷ rest)) e
    ∙ ap (λ (next : Option Fields). Ok (next, Mark space ∷ rest)) (few-rule f (length run) n l h none))

four-rule : (f : Fields) (y : ℕ) → 1970 ≤ y → y ≤ 2099 → four_digit_rule f y ≡ Some (record f { year = Some y })
unfolding four_digit_rule
four-rule f y l h = grind (arith, nat_tests)

bare-four : (f : Fields) (run : List ℕ) (more : List Token) → length run ≡ 4
    → bare_digits f run more ≡ Ok (four_digit_rule f (number run), more)
unfolding bare_digits
bare-four f run more e = rw e refl

pub four-read : (now : Now) (f : Fields) (run : List ℕ) (y : ℕ) (rest : List Token) → length run ≡ 4 → number run ≡ y → y < 10_000
    → rule now f (Digits run) (Mark space ∷ rest) ≡ Ok (four_digit_rule f y, Mark space ∷ rest)
unfolding without_ending
four-read now f run y rest long e h =
    ap ended
    (small-rule now f run (Mark space ∷ rest) (omega arith) ∙ bare-rule now f run (Mark space ∷ rest) (space-group (number run) rest)
    ∙ bare-four f run (Mark space ∷ rest) long ∙ ap (λ (m : ℕ). Ok (four_digit_rule f m, Mark space ∷ rest)) e)

year-rule : (now : Now) (f : Fields) (y : ℕ) (rest : List Token) → 1970 ≤ y → y ≤ 2099
    → rule now f (Digits (four_digits y)) (Mark space ∷ rest) ≡ Ok (Some (record f { year = Some y }), Mark space ∷ rest)
year-rule now f y rest l h =
    four-read now f (four_digits y) y rest refl (year-number y (omega arith)).is (omega arith)
    ∙ ap (λ (next : Option Fields). Ok (next, Mark space ∷ rest)) (four-rule f y l h)

-- groups
pub taken-rule : (left : ℕ) (g : Group) (more : List Token) (said : Dated) (next : Fields) → large_in g ≡ None → said ≡ dated.Taken next
    → grouped left g more said ≡ Ok (Some (next, after_group next g more))
taken-rule left g more said next e is = rw (is, e) refl

pub none-large : (mark first : ℕ) (second third : Number) → second.value < 100 → third.value < 100
    → large_in (record { mark = mark; first = first; second = second; third = Some third }) ≡ None
none-large mark first second third h g = grind (arith, nat_tests)

abbrev pub group_at : ℕ → ℕ → Number → Number → Group
group_at mark first second third = record { mark = mark; first = first; second = second; third = Some third }

pub clock-taken : (f : Fields) (h m s : ℕ) → h < 24 → m < 60 → s < 60
    → with_clock f h m s ≡ Some (record f { hour = Some h; minute = Some m; second = Some s })
unfolding with_clock
clock-taken f h m s a b c = grind (arith, nat_tests)

pub clock-group : (now : Now) (f : Fields) (h : ℕ) (m s : Number) → h < 24 → m.value < 60 → s.value < 60
    → group_rule now f (group_at colon h m s) ≡ dated.Taken (record f { hour = Some h; minute = Some m.value; second = Some s.value })
unfolding group_rule
clock-group now f h m s a b c = rw (clock-taken f h m.value s.value a b c) refl

no-fraction : (byte : ℕ) (rest : List Token) → (byte == dot) ≡ false → without_fraction (Mark byte ∷ rest) ≡ Mark byte ∷ rest
unfolding without_fraction
no-fraction byte (Digits run ∷ more) h = rw h refl
no-fraction byte ts h = refl

pub after-clock : (byte : ℕ) (rest : List Token) (b : Bool) → (byte == dot) ≡ false
    → cond b (without_fraction (Mark byte ∷ rest)) (Mark byte ∷ rest) ≡ Mark byte ∷ rest
after-clock byte rest true h = no-fraction byte rest h
after-clock byte rest false h = refl

abbrev pub numbered : ℕ → ℕ → Number
numbered value left = record { value = value; left = left }

-- three numbers, as Git keeps them
abbrev pub three_group : ℕ → ℕ → ℕ → ℕ → List ℕ → List ℕ → List Token → Group
three_group mark x y z b c rest =
    group_at mark x (numbered y (bytes_left (Digits b ∷ Mark mark ∷ Digits c ∷ rest))) (numbered z (bytes_left (Digits c ∷ rest)))

three-of : (mark first : ℕ) (second third : List ℕ) (rest : List Token) → is_group_mark mark ≡ true → (mark == mark) ≡ true
    → group_of first (Mark mark ∷ Digits second ∷ Mark mark ∷ Digits third ∷ rest)
    ≡ Some (group_at mark first (number_at second (Mark mark ∷ Digits third ∷ rest)) (number_at third rest), rest)
unfolding group_of marked_number
three-of mark first second third rest group again = rw (group, again) refl

pub group-read : (mark : ℕ) (now : Now) (f : Fields) (a b c : List ℕ) (x y z : ℕ) (rest : List Token) → is_group_mark mark ≡ true
    → (mark == mark) ≡ true → number a ≡ x → number b ≡ y → number c ≡ z
    → x < 10_000 → rule now f (Digits a) (Mark mark ∷ Digits b ∷ Mark mark ∷ Digits c ∷ rest)
    ≡ ended (or_bare f a (Mark mark ∷ Digits b ∷ Mark mark ∷ Digits c ∷ rest)
    (grouped (bytes_left (Digits a ∷ Mark mark ∷ Digits b ∷ Mark mark ∷ Digits c ∷ rest))
    (three_group mark x y z b c rest) rest (group_rule now f (three_group mark x y z b c rest))))
unfolding group_said
group-read mark now f a b c x y z rest group again xx yy zz long =
    let middle = Mark mark ∷ Digits c ∷ rest in
    let more = Mark mark ∷ Digits b ∷ middle in
    let second = number_at b middle in
    let third = number_at c rest in
    let left = bytes_left (Digits a ∷ more) in
    let said = λ (g : Group). ended (or_bare f a more (grouped left g rest (group_rule now f g))) in
    ap ended (small-rule now f a more (omega arith))
    ∙ ap (λ (found : ReadTokens Group).
    ended (or_bare f a more (option_map_or (λ found. grouped left found.0 found.1 (group_rule now f found.0)) found (Ok None))))
    (three-of mark (number a) b c rest group again)
    ∙ ap (λ (n : ℕ). said (group_at mark n second third)) xx
    ∙ ap (λ (n : ℕ). said (group_at mark x (numbered n second.left) third)) yy
    ∙ ap (λ (n : ℕ). said (group_at mark x (numbered y second.left) (numbered n third.left))) zz

pub clock-rule : (now : Now) (f : Fields) (a b c : List ℕ) (h m s byte : ℕ) (rest : List Token) → number a ≡ h → number b ≡ m → number c ≡ s
    → h < 24 → m < 60 → s < 60
    → (byte == dot) ≡ false → rule now f (Digits a) (Mark colon ∷ Digits b ∷ Mark colon ∷ Digits c ∷ Mark byte ∷ rest)
    ≡ Ok (Some (record f { hour = Some h; minute = Some m; second = Some s }), Mark byte ∷ rest)
unfolding without_ending
clock-rule now f a b c h m s byte rest hh mm ss low mid top free =
    let last = Mark byte ∷ rest in
    let more = Mark colon ∷ Digits b ∷ Mark colon ∷ Digits c ∷ last in
    let next : Fields = record f { hour = Some h; minute = Some m; second = Some s } in
    let second = numbered m (bytes_left (Digits b ∷ Mark colon ∷ Digits c ∷ last)) in
    let third = numbered s (bytes_left (Digits c ∷ last)) in
    group-read colon now f a b c h m s last refl refl hh mm ss (omega arith)
    ∙ ap (λ (said : Result (Option (Fields × List Token)) Fault). ended (or_bare f a more said))
    (taken-rule (bytes_left (Digits a ∷ more)) (group_at colon h second third) last _ next
    (none-large colon h second third (omega arith) (omega arith)) (clock-group now f h second third low mid top))
    ∙ ap (λ (rest : List Token). ended (Ok (Some next, rest))) (after-clock byte rest (knows_date next) free)

narrow-small : (n : ℕ) → n < 100 → narrow n ≡ n
unfolding narrow
narrow-small n h = omega arith

-- a date that begins with its year
year-by : (y : ℕ) → 1969 ≤ y → y < 10_000 → year_said y ≡ cond (nat_le 1970 y && nat_le y 2099) (Some y) None
unfolding year_said
year-by y l h = grind (arith, nat_tests)

year-or : (f : Fields) (m d : ℕ) (year : Option ℕ) (a b : Dated) → or_else (or_else (by_year f m d year) a) b ≡ by_year f m d year
year-or f m d (Some y) a b = refl
year-or f m d None a b = refl

date-group : (mark : ℕ) (now : Now) (f : Fields) (y : ℕ) (m d : Number) → IsDateMark mark → 1969 ≤ y → 1 ≤ m.value → m.value ≤ 12
    → 1 ≤ d.value → d.value ≤ 31
    → group_rule now f (group_at mark y m d) ≡ by_year f m.value d.value (year_said y)
unfolding group_rule year_date
date-group mark now f y m d is l m1 m12 d1 d31 =
    let above : nat_lt 70 y ≡ true = grind (arith, nat_tests) in
    let low : nat_le 1 m.value ≡ true = grind (arith, nat_tests) in
    let high : nat_le m.value 12 ≡ true = grind (arith, nat_tests) in
    let first : nat_le 1 d.value ≡ true = grind (arith, nat_tests) in
    let last : nat_le d.value 31 ≡ true = grind (arith, nat_tests) in
    let no_colon = is.no_colon in
    rw (no_colon, above, narrow-small m.value (omega arith), narrow-small d.value (omega arith), low, high, first, last)
    (year-or f m.value d.value (year_said y) _ _)

pub date-read : (mark : ℕ) (now : Now) (f : Fields) (a b c : List ℕ) (y m d : ℕ) (rest : List Token) → IsDateMark mark → number a ≡ y
    → number b ≡ m → number c ≡ d → 1969 ≤ y → y < 10_000
    → 1 ≤ m → m ≤ 12 → 1 ≤ d → d ≤ 31 → rule now f (Digits a) (Mark mark ∷ Digits b ∷ Mark mark ∷ Digits c ∷ rest)
    ≡ ended (or_bare f a (Mark mark ∷ Digits b ∷ Mark mark ∷ Digits c ∷ rest)
    (grouped (bytes_left (Digits a ∷ Mark mark ∷ Digits b ∷ Mark mark ∷ Digits c ∷ rest))
    (three_group mark y m d b c rest) rest (by_year f m d (cond (nat_le 1970 y && nat_le y 2099) (Some y) None))))
date-read mark now f a b c y m d rest is yy mm dd l long m1 m12 d1 d31 =
    let more = Mark mark ∷ Digits b ∷ Mark mark ∷ Digits c ∷ rest in
    group-read mark now f a b c y m d rest is.group is.again yy mm dd long
    ∙ ap (λ (said : Dated). ended (or_bare f a more (grouped (bytes_left (Digits a ∷ more)) (three_group mark y m d b c rest) rest said)))
    (date-group mark now f y (numbered m (bytes_left (Digits b ∷ Mark mark ∷ Digits c ∷ rest))) (numbered d (bytes_left (Digits c ∷ rest)))
    is l m1 m12 d1 d31 ∙ ap (by_year f m d) (year-by y l long))

date-rule : (mark : ℕ) (now : Now) (f : Fields) (y m d : ℕ) (rest : List Token) → IsDateMark mark → 1970 ≤ y → y ≤ 2099 → 1 ≤ m → m ≤ 12
    → 1 ≤ d → d ≤ 31
    → rule now f (Digits (four_digits y)) (Mark mark ∷ Digits (two_digits m) ∷ Mark mark ∷ Digits (two_digits d) ∷ rest)
    ≡ Ok (Some (with_date f y m d), without_ending rest)
date-rule mark now f y m d rest is a b c e g h =
    let low : nat_le 1970 y ≡ true = grind (arith, nat_tests) in
    let high : nat_le y 2099 ≡ true = grind (arith, nat_tests) in
    let no_colon = is.no_colon in
    date-read mark now f (four_digits y) (two_digits m) (two_digits d) y m d rest is (year-number y (omega arith)).is
    (two-number m (omega arith)).is (two-number d (omega arith)).is (omega arith) (omega arith) c e g h
    ∙ rw (
      low,
      high,
      none-large mark y (numbered m (bytes_left (Digits (two_digits m) ∷ Mark mark ∷ Digits (two_digits d) ∷ rest)))
          (numbered d (bytes_left (Digits (two_digits d) ∷ rest))) (omega arith) (omega arith),
      no_colon,
    ) refl

-- offsets
known-by : (behind : Bool) (k : ℕ) → (behind ≡ true → k ≡ 1 → ⊥) → known_minutes (signed behind k) ≡ Some (signed behind k)
known-by false k h = refl
known-by true zero h = refl
known-by true (suc zero) h = absurd (h refl refl)
known-by true (suc (suc k)) h =
    let other : int_eq (negsuc (suc k)) (negsuc 0) ≡ false = grind (arith, nat_tests) in rw other refl

with-known : (f : Fields) (behind : Bool) (k : ℕ) → (behind ≡ true → k ≡ 1 → ⊥)
    → with_offset f behind (pos k) ≡ record f { offset = Some (signed behind k) }
with-known f true k h = ap (λ (o : Option ℤ). record f { offset = o }) (known-by true k h)
with-known f false k h = refl

minutes-are : (hours minutes : ℕ) → hours < 24 → minutes < 60 → offset_minutes hours false minutes ≡ Some (pos (60 * hours + minutes))
unfolding offset_minutes
minutes-are hours minutes h g = grind (arith, nat_tests)

said-four : (hours minutes : ℕ) → hours < 24 → minutes < 60
    → offset_said (two_digits hours ++ two_digits minutes) [] ≡ Ok (Some (pos (60 * hours + minutes)), [])
unfolding offset_said
said-four hours minutes h g =
    let run = two_digits hours ++ two_digits minutes in
    let e : number run ≡ 100 * hours + minutes = (pairs-number hours minutes (omega arith) (omega arith)).is in
    let small : nat_lt 2_147_483_647 (number run) ≡ false = grind (arith, nat_tests) in
    let a : number run / 100 ≡ hours = omega arith in
    let b : number run % 100 ≡ minutes = omega arith in
    rw (small, a, b, minutes-are hours minutes h g) refl

said-colon : (hours minutes : ℕ) → hours < 24 → minutes < 60
    → offset_said (two_digits hours) (Mark colon ∷ Digits (two_digits minutes) ∷ []) ≡ Ok (Some (pos (60 * hours + minutes)), [])
unfolding offset_said two_digit_offset colon_minutes padded_number white without_white
said-colon hours minutes h g =
    let a : number (two_digits hours) ≡ hours = (two-number hours (omega arith)).is in
    let b : number (two_digits minutes) ≡ minutes = (two-number minutes (omega arith)).is in
    let small : nat_lt 2_147_483_647 hours ≡ false = grind (arith, nat_tests) in
    let less : nat_lt 2_147_483_647 minutes ≡ false = grind (arith, nat_tests) in
    rw (a, b, small, less, minutes-are hours minutes h g) refl

offset-by : (f : Fields) (behind : Bool) (run : List ℕ) (more : List Token) (k : ℕ) → (behind ≡ true → k ≡ 1 → ⊥)
    → offset_said run more ≡ Ok (Some (pos k), [])
    → sign_rule f behind (Digits run ∷ more) ≡ Ok (Some (record f { offset = Some (signed behind k) }), [])
unfolding sign_rule without_ending
offset-by f behind run more k known e = rw (e, with-known f behind k known) refl

sign-rule : (now : Now) (f : Fields) (behind : Bool) (run : List ℕ) (more : List Token) (k : ℕ) → (behind ≡ true → k ≡ 1 → ⊥)
    → offset_said run more ≡ Ok (Some (pos k), [])
    → rule now f (Mark (cond behind minus plus)) (Digits run ∷ more) ≡ Ok (Some (record f { offset = Some (signed behind k) }), [])
sign-rule now f true run more k known e = offset-by f true run more k known e
sign-rule now f false run more k known e = offset-by f false run more k known e

-- steps
abbrev pub at : Fields → Reading
at f = record { fields = f; ignored = None }

pub go : (now : Now) (n : ℕ) (f next : Fields) (t : Token) (more rest : List Token) → is_end t ≡ false
    → rule now f t more ≡ Ok (Some next, rest)
    → steps now (suc n) (at f) (t ∷ more) ≡ steps now n (at next) rest
unfolding walked
go now n f next t more rest e is =
    ap (λ (b : Bool).
    cond b (Ok (at f)) (and_then (rule now f t more) (λ found. steps now n (read_on (at f) (bytes_left (t ∷ more)) found.0) found.1))) e
    ∙ ap (λ (step : Stepped). and_then step (λ found. steps now n (read_on (at f) (bytes_left (t ∷ more)) found.0) found.1)) is

sign-no-end : (behind : Bool) → is_end (Mark (cond behind minus plus)) ≡ false
sign-no-end true = refl
sign-no-end false = refl

pub sign-no-dot : (behind : Bool) → ((cond behind minus plus) == dot) ≡ false
sign-no-dot true = refl
sign-no-dot false = refl

abbrev with_time : LocalTime → Fields → Fields
with_time t f = record f { hour = Some t.clock.hour; minute = Some t.clock.minute; second = Some t.clock.second }

abbrev dated_fields : LocalTime → Fields
dated_fields t = with_date unknown t.date.year t.date.month t.date.day

-- what each format says
abbrev pub fields_of : LocalTime → Fields
fields_of t = record {
  year = Some t.date.year;
  month = Some t.date.month;
  day = Some t.date.day;
  hour = Some t.clock.hour;
  minute = Some t.clock.minute;
  second = Some t.clock.second;
  offset = Some (offset_in_minutes t);
  epoch = false;
}

pub skip-space : (now : Now) (n : ℕ) (f : Fields) (more : List Token)
    → steps now (suc n) (at f) (Mark space ∷ more) ≡ steps now n (at f) more
skip-space now n f more = go now n f f (Mark space) more more refl refl

go-clock : (now : Now) (n : ℕ) (f : Fields) (t : LocalTime) (byte : ℕ) (more : List Token) → IsGitClock t → (byte == dot) ≡ false
    → steps now (suc n) (at f) (clock_tokens t (Mark byte ∷ more)) ≡ steps now n (at (with_time t f)) (Mark byte ∷ more)
go-clock now n f t byte more h free =
    go now n f (with_time t f) (Digits (two_digits t.clock.hour)) _ (Mark byte ∷ more) refl
    (clock-rule now f _ _ _ t.clock.hour t.clock.minute t.clock.second byte more (two-number _ (omega (arith, h.hour))).is
    (two-number _ (omega (arith, h.minute))).is (two-number _ (omega (arith, h.second))).is
    h.hour h.minute h.second free)

pub go-offset : (now : Now) (n : ℕ) (f : Fields) (t : LocalTime) → IsGitClock t
    → steps now (suc n) (at f) (offset_tokens t) ≡ Ok (at (record f { offset = Some (offset_in_minutes t) }))
go-offset now n f t h =
    go now n f (record f { offset = Some (offset_in_minutes t) }) (Mark (sign_of t)) _ [] (sign-no-end (is_behind t))
    (sign-rule now f (is_behind t) _ [] (60 * hours_of t + minutes_of t) h.known (said-four (hours_of t) (minutes_of t) h.hours h.minutes))
    ∙ nothing-left (step now) n (at (record f { offset = Some (offset_in_minutes t) }))

go-colon : (now : Now) (n : ℕ) (f : Fields) (t : LocalTime) → IsGitClock t
    → steps now (suc n) (at f) (colon_tokens t) ≡ Ok (at (record f { offset = Some (offset_in_minutes t) }))
go-colon now n f t h =
    go now n f (record f { offset = Some (offset_in_minutes t) }) (Mark (sign_of t)) _ [] (sign-no-end (is_behind t))
    (sign-rule now f (is_behind t) _ (Mark colon ∷ Digits (two_digits (minutes_of t)) ∷ []) (60 * hours_of t + minutes_of t) h.known
    (said-colon (hours_of t) (minutes_of t) h.hours h.minutes))
    ∙ nothing-left (step now) n (at (record f { offset = Some (offset_in_minutes t) }))

pub go-date : (mark : ℕ) (now : Now) (n : ℕ) (f : Fields) (t : LocalTime) (more rest : List Token) → IsDateMark mark → IsGitClock t
    → without_ending more ≡ rest
    → steps now (suc n) (at f) (date_tokens mark t more) ≡ steps now n (at (with_date f t.date.year t.date.month t.date.day)) rest
go-date mark now n f t more rest is h e =
    let next = with_date f t.date.year t.date.month t.date.day in
    go now n f next (Digits (four_digits t.date.year)) _ rest refl
    (date-rule mark now f t.date.year t.date.month t.date.day more is h.first_year h.last_year h.first_month h.last_month h.first_day
    h.last_day
    ∙ ap (λ (rest : List Token). Ok (Some next, rest)) e)

go-name : (now : Now) (n : ℕ) (f next : Fields) (word : List ℕ) (byte : ℕ) (more : List Token) → with_word f word ≡ Some next
    → steps now (suc n) (at f) (Letters word ∷ Mark byte ∷ more) ≡ steps now n (at next) (Mark byte ∷ more)
unfolding letters_rule
go-name now n f next word byte more e =
    go now n f next (Letters word) (Mark byte ∷ more) (Mark byte ∷ more) refl (ap (λ (said : Option Fields). Ok (said, Mark byte ∷ more)) e)

-- the words of a printed date, each before a space
pub data Word : Type 0 where
  -- `Thu`, `Thu,`
  Weekday : Word
  WeekdayComma : Word
  Month : Word
  -- in one digit or two
  Day : List ℕ → Word
  Year : Word
  Clock : Word
  -- `2022-08-18`, by its mark
  Date : ℕ → Word

-- their text and their tokens, and the offset's after them
abbrev pub words_text : LocalTime → List Word → List ℕ
words_text t [] = compact_offset_text t.offset
words_text t (Weekday ∷ ws) = day_name t.weekday ++ (space ∷ words_text t ws)
words_text t (WeekdayComma ∷ ws) = day_name t.weekday ++ (comma ∷ (space ∷ words_text t ws))
words_text t (Month ∷ ws) = month_name t.date.month ++ (space ∷ words_text t ws)
words_text t (Day run ∷ ws) = run ++ (space ∷ words_text t ws)
words_text t (Year ∷ ws) = four_digits t.date.year ++ (space ∷ words_text t ws)
words_text t (Clock ∷ ws) = clock_text t.clock ++ (space ∷ words_text t ws)
words_text t (Date mark ∷ ws) = marked_date mark (t.date.year, t.date.month, t.date.day) ++ (space ∷ words_text t ws)

abbrev pub words_tokens : LocalTime → List Word → List Token
words_tokens t [] = offset_tokens t
words_tokens t (Weekday ∷ ws) = Letters (day_name t.weekday) ∷ Mark space ∷ words_tokens t ws
words_tokens t (WeekdayComma ∷ ws) = Letters (day_name t.weekday) ∷ Mark comma ∷ Mark space ∷ words_tokens t ws
words_tokens t (Month ∷ ws) = Letters (month_name t.date.month) ∷ Mark space ∷ words_tokens t ws
words_tokens t (Day run ∷ ws) = Digits run ∷ Mark space ∷ words_tokens t ws
words_tokens t (Year ∷ ws) = Digits (four_digits t.date.year) ∷ Mark space ∷ words_tokens t ws
words_tokens t (Clock ∷ ws) = clock_tokens t (Mark space ∷ words_tokens t ws)
words_tokens t (Date mark ∷ ws) = date_tokens mark t (Mark space ∷ words_tokens t ws)

-- what they say
abbrev pub with_words : LocalTime → Fields → List Word → Fields
with_words t f [] = record f { offset = Some (offset_in_minutes t) }
with_words t f (Weekday ∷ ws) = with_words t f ws
with_words t f (WeekdayComma ∷ ws) = with_words t f ws
with_words t f (Month ∷ ws) = with_words t (record f { month = Some t.date.month }) ws
with_words t f (Day run ∷ ws) = with_words t (record f { day = Some t.date.day }) ws
with_words t f (Year ∷ ws) = with_words t (record f { year = Some t.date.year }) ws
with_words t f (Clock ∷ ws) = with_words t (with_time t f) ws
with_words t f (Date mark ∷ ws) = with_words t (with_date f t.date.year t.date.month t.date.day) ws

-- a day is the clock's, and the first, and a mark may stand in dates
abbrev pub AreWritten : LocalTime → Option ℕ → List Word → Type 0
AreWritten t day [] = Unit {0}
AreWritten t day (Day run ∷ ws) = (day ≡ None) × IsDayText t.date.day run × AreWritten t (Some t.date.day) ws
AreWritten t day (Date mark ∷ ws) = IsDateMark mark × AreWritten t (Some t.date.day) ws
AreWritten t day (w ∷ ws) = AreWritten t day ws

-- steps enough, and so many more
abbrev pub words_steps : List Word → ℕ → ℕ
words_steps [] n = suc n
words_steps (WeekdayComma ∷ ws) n = suc (suc (suc (words_steps ws n)))
words_steps (w ∷ ws) n = suc (suc (words_steps ws n))

module _ (t : LocalTime) (h : IsGitClock t) where
  pub words-are : (day : Option ℕ) (ws : List Word) → AreWritten t day ws → tokens (words_text t ws) ≡ words_tokens t ws
  unfolding tokens
  words-are day [] w = offset-before t h
  words-are day (Weekday ∷ ws) w = day-before t.weekday _ space _ h.weekday (ap (λ (ts : List Token). Mark space ∷ ts) (words-are day ws w))
  words-are day (WeekdayComma ∷ ws) w =
      day-before t.weekday _ comma _ h.weekday (ap (λ (ts : List Token). Mark comma ∷ Mark space ∷ ts) (words-are day ws w))
  words-are day (Month ∷ ws) w =
      month-before t.date.month _ space _ h.first_month h.last_month (ap (λ (ts : List Token). Mark space ∷ ts) (words-are day ws w))
  words-are day (Day run ∷ ws) w =
      number-before run _ _ _ w.1.number (ap (λ (ts : List Token). Mark space ∷ ts) (words-are (Some t.date.day) ws w.2)) tt
  words-are day (Year ∷ ws) w =
      year-before t (space ∷ words_text t ws) _ h (ap (λ (ts : List Token). Mark space ∷ ts) (words-are day ws w)) tt
  words-are day (Clock ∷ ws) w =
      clock-before t (space ∷ words_text t ws) _ h (ap (λ (ts : List Token). Mark space ∷ ts) (words-are day ws w)) tt
  words-are day (Date mark ∷ ws) w = date-before mark t (space ∷ words_text t ws) _ w.0 h
      (ap (λ (ts : List Token). Mark space ∷ ts) (words-are (Some t.date.day) ws w.1)) tt

  pub words-read : (now : Now) (n : ℕ) (f : Fields) (ws : List Word) → AreWritten t f.day ws
      → steps now (words_steps ws n) (at f) (words_tokens t ws) ≡ Ok (at (with_words t f ws))
  unfolding without_ending
  words-read now n f [] w = go-offset now n f t h
  words-read now n f (Weekday ∷ ws) w = go-name now _ f f (day_name t.weekday) space _ (day-said f t.weekday h.weekday)
      ∙ skip-space now _ f _ ∙ words-read now n f ws w
  words-read now n f (WeekdayComma ∷ ws) w =
      go-name now _ f f (day_name t.weekday) comma _ (day-said f t.weekday h.weekday) ∙ go now _ f f (Mark comma) _ _ refl refl
      ∙ skip-space now _ f _ ∙ words-read now n f ws w
  words-read now n f (Month ∷ ws) w =
      let next = record f { month = Some t.date.month } in
      go-name now _ f next (month_name t.date.month) space _ (month-said f t.date.month h.first_month h.last_month)
      ∙ skip-space now _ next _ ∙ words-read now n next ws w
  words-read now n f (Day run ∷ ws) w =
      let next = record f { day = Some t.date.day } in
      go now _ f next (Digits run) _ _ refl (day-rule now f t.date.day run _ w.1 h.first_day h.last_day w.0) ∙ skip-space now _ next _
      ∙ words-read now n next ws w.2
  words-read now n f (Year ∷ ws) w =
      let next = record f { year = Some t.date.year } in
      go now _ f next (Digits (four_digits t.date.year)) _ _ refl (year-rule now f t.date.year _ h.first_year h.last_year)
      ∙ skip-space now _ next _ ∙ words-read now n next ws w
  words-read now n f (Clock ∷ ws) w = go-clock now _ f t space _ h refl ∙ skip-space now _ (with_time t f) _
      ∙ words-read now n (with_time t f) ws w
  words-read now n f (Date mark ∷ ws) w =
      let next = with_date f t.date.year t.date.month t.date.day in
      go-date mark now _ f t _ _ w.0 h refl ∙ skip-space now _ next _ ∙ words-read now n next ws w.1

pub spaced-offset : (t : LocalTime) → IsGitClock t → tokens (space ∷ compact_offset_text t.offset) ≡ Mark space ∷ offset_tokens t
unfolding tokens
spaced-offset t h = ap (λ (ts : List Token). Mark space ∷ ts) (offset-before t h)

-- `2022-08-18T12:45:06+08:00`
abbrev pub strict_tokens : ℕ → LocalTime → List Token
strict_tokens mark t = date_tokens mark t (Letters (letter_t ∷ []) ∷ clock_tokens t (colon_tokens t))

pub strict-steps : (mark : ℕ) (now : Now) (n : ℕ) (t : LocalTime) → IsDateMark mark → IsGitClock t
    → steps now (suc (suc (suc n))) (at unknown) (strict_tokens mark t) ≡ Ok (at (fields_of t))
unfolding without_ending
strict-steps mark now n t is h =
    go-date mark now _ unknown t (Letters (letter_t ∷ []) ∷ clock_tokens t (colon_tokens t)) (clock_tokens t (colon_tokens t)) is h refl
    ∙ go-clock now _ (dated_fields t) t (sign_of t)
    (Digits (two_digits (hours_of t)) ∷ Mark colon ∷ Digits (two_digits (minutes_of t)) ∷ []) h (sign-no-dot (is_behind t))
    ∙ go-colon now n (with_time t (dated_fields t)) t h

lettered : (t : LocalTime) → IsGitClock t
    → tokens (letter_t ∷ (clock_text t.clock ++ strict_offset_text t.offset)) ≡ Letters (letter_t ∷ []) ∷ clock_tokens t (colon_tokens t)
unfolding tokens
lettered t h = ap (letter_before letter_t) (clock-before t (strict_offset_text t.offset) _ h (colon-before t h) tt)

abbrev pub marked_strict_text : ℕ → LocalTime → List ℕ
marked_strict_text mark t =
    marked_date mark (t.date.year, t.date.month, t.date.day) ++ (letter_t ∷ (clock_text t.clock ++ strict_offset_text t.offset))

pub strict-are : (mark : ℕ) (t : LocalTime) → IsDateMark mark → IsGitClock t → tokens (marked_strict_text mark t) ≡ strict_tokens mark t
strict-are mark t is h = date-before mark t (letter_t ∷ (clock_text t.clock ++ strict_offset_text t.offset)) _ is h (lettered t h) tt
