-- Fields that are read are written so.
use Rattle.std.proofs.lemmas.Grind.{common_steps}
use Rattle.std.proofs.Common.{◌≡◌, ◌∙◌, ℕ, ℤ, ◌<◌, ◌+◌, ◌-◌, ◌*◌, Bool, true, false, cond, List, [], ◌∷◌, ◌++◌, length, drop, take, refl}
use Rattle.std.proofs.Common.{ap, sym, subst, Option, Some, None, append_assoc, arith, inl, inr, ◌⊎◌, option_map, take-append-drop, one-add}
use Rattle.std.proofs.lemmas.Option.{same_Some as same, cond_some as guard}
use Rattle.std.proofs.lemmas.Bool.{and_parts as both}
use Rattle.std.proofs.lemmas.Bool.Decides.{nat_tests}
use Rattle.std.proofs.lemmas.List.Folds.{length-prefix_len}
use Rattle.std.specs.Prelude.{◌&&◌, nat_lt, is_none, unwrap_or}
use Rattle.std.specs.Char.{is_ascii_digit}
use Rattle.std.specs.List.{prefix_len, list_all}
use Rattle.std.specs.Option.{option_or}
use Rattle.gix_date.specs.Text.Characters.{minus, comma, colon, is_space}
use Rattle.gix_date.specs.Fields.FieldTexts.{IsDigit, IsField, IsYear, AreSpaces, AreThreeLetters, IsDayName, IsMonthName, IsPlainDate}
use Rattle.gix_date.specs.Fields.FieldTexts.{AreMinutes, IsClock, IsRfc2822Clock, IsDayPrefix}
use Rattle.gix_date.specs.Text.Front.{ReadFront, skip_char, ◌>>=◌}
use Rattle.gix_date.specs.Text.Numbers.{read_two_digits, read_digit, read_field, read_year}
use Rattle.gix_date.specs.Fields.DateFields.{skip_day_name, skip_spaces, read_name, read_month, month_named, is_weekday, skip_weekday}
use Rattle.gix_date.specs.Fields.DateFields.{read_plain_date, read_minutes, read_second, read_clock, read_rfc2822_clock}
use Rattle.gix_date.specs.Fields.DateFields.{without_leap_second}
use Rattle.gix_date.specs.declared.clock.ClockFields.{ClockFields}
use Rattle.gix_date.specs.declared.clock.DateFields.{DateFields}
use Rattle.gix_date.specs.declared.time.Time.{Time}

-- the time of these seconds at this offset
abbrev pub time_at : ℤ → ℤ → Time
time_at seconds offset = record { seconds = seconds; offset = offset }

-- an answer that is said to be none
pub none_is : {A : Type 0} (r : Option A) → is_none r ≡ true → r ≡ None
none_is None e = refl
none_is (Some x) e = absurd cc

pub same-first : {A : Type 0} (a b : A) (xs ys : List A) → a ∷ xs ≡ b ∷ ys → a ≡ b
same-first a b xs ys e = cc

pub none-unless : {A : Type 0} (r : Option A) → ((x : A) → r ≡ Some x → ⊥) → r ≡ None
none-unless (Some x) h = absurd (h x refl)
none-unless None h = refl

pub went : {A B : Type 0} (r : Option A) (next : A → Option B) (y : B) → (r >>= next) ≡ Some y → (x : A) × (r ≡ Some x) × (next x ≡ Some y)
went (Some x) next y e = (x, refl, e)
went None next y e = absurd cc

pub first-or : {A : Type 0} (a b : Option A) (t : A) → option_or a b ≡ Some t → (a ≡ Some t) ⊎ (b ≡ Some t)
first-or (Some x) b t e = inl e
first-or None b t e = inr e

-- a text at the front that is so, and the rest
pub record TookFront (Is : List ℕ → Type 0) (x rest : List ℕ) : Type 0 where
  pub text : List ℕ
  pub is : Is text
  pub whole : x ≡ text ++ rest

-- a text at the front that was read with this value, and the rest
abbrev pub Took : {A : Type 0} → (List ℕ → A → Type 0) → List ℕ → A → List ℕ → Type 0
Took IsText x value rest = TookFront (λ text. IsText text value) x rest

pub after-taken : (b : ℕ) (x rest : List ℕ) → skip_char b x ≡ Some rest → x ≡ b ∷ rest
unfolding skip_char
after-taken b [] rest e = absurd cc
after-taken b (c ∷ t) rest e = grind (arith, guard, nat_tests)

abbrev at_front : ℕ → List ℕ → ℕ × List ℕ
at_front n rest = (n, rest)

took : (IsText : List ℕ → ℕ → Type 0) (x text : List ℕ) (v n : ℕ) (r rest : List ℕ) → at_front v r ≡ at_front n rest → IsText text v
    → x ≡ text ++ r → Took IsText x n rest
took IsText x text v n r rest e h w = grind (arith)

one_digit : (a n : ℕ) (x rest : List ℕ) → cond (is_ascii_digit a) (Some (at_front (a - 48) x)) None ≡ Some (at_front n rest)
    → Took IsField (a ∷ x) n rest
one_digit a n x rest e =
    let g = guard (is_ascii_digit a) (a - 48, x) (n, rest) e in
    took IsField (a ∷ x) (a ∷ []) (a - 48) n x rest g.1 (g.0, refl) refl

two_or_one : (a b n : ℕ) (t rest : List ℕ) (p q : Bool) → is_ascii_digit a ≡ p → is_ascii_digit b ≡ q
    → option_or (option_map (λ m. at_front m t) (cond (p && q) (Some (10 * (a - 48) + (b - 48))) None))
    (cond p (Some (at_front (a - 48) (b ∷ t))) None) ≡ Some (at_front n rest)
    → Took IsField (a ∷ b ∷ t) n rest
two_or_one a b n t rest true true ha hb e = took IsField (a ∷ b ∷ t) (a ∷ b ∷ []) (10 * (a - 48) + (b - 48)) n t rest
    (same (at_front (10 * (a - 48) + (b - 48)) t) (n, rest) e) (ha, hb, refl) refl
two_or_one a b n t rest true false ha hb e =
    took IsField (a ∷ b ∷ t) (a ∷ []) (a - 48) n (b ∷ t) rest (same (at_front (a - 48) (b ∷ t)) (n, rest) e) (ha, refl) refl
two_or_one a b n t rest false q ha hb e = absurd cc

pub field-taken : (x : List ℕ) (n : ℕ) (rest : List ℕ) → read_field x ≡ Some (n, rest) → Took IsField x n rest
unfolding read_field read_two_digits read_digit
field-taken [] n rest e = absurd cc
field-taken (a ∷ []) n rest e = one_digit a n [] rest e
field-taken (a ∷ b ∷ t) n rest e = two_or_one a b n t rest (is_ascii_digit a) (is_ascii_digit b) refl refl e

pub record TookTwo (x : List ℕ) (n : ℕ) (rest : List ℕ) : Type 0 where
  pub tens : ℕ
  pub ones : ℕ
  pub is_tens : IsDigit tens
  pub is_ones : IsDigit ones
  pub value : n ≡ 10 * (tens - 48) + (ones - 48)
  pub whole : x ≡ tens ∷ ones ∷ rest

two : (a b n : ℕ) (t rest : List ℕ) (p : Bool) → (is_ascii_digit a && is_ascii_digit b) ≡ p
    → option_map (λ m. at_front m t) (cond p (Some (10 * (a - 48) + (b - 48))) None) ≡ Some (at_front n rest) → TookTwo (a ∷ b ∷ t) n rest
two a b n t rest false h e = absurd cc
two a b n t rest true h e = grind (arith, both, same)

pub two-taken : (x : List ℕ) (n : ℕ) (rest : List ℕ) → read_two_digits x ≡ Some (n, rest) → TookTwo x n rest
unfolding read_two_digits
two-taken (a ∷ b ∷ t) n rest e = two a b n t rest (is_ascii_digit a && is_ascii_digit b) refl e
two-taken x n rest e = absurd cc

pub year-taken : (x : List ℕ) (n : ℕ) (rest : List ℕ) → read_year x ≡ Some (n, rest) → Took IsYear x n rest
unfolding read_year
year-taken x n rest e =
    let c = went (read_two_digits x) (λ c. read_two_digits c.1 >>= λ y. Some (at_front (100 * c.0 + y.0) y.1)) (n, rest) e in
    let y = went (read_two_digits c.0.1) (λ y. Some (at_front (100 * c.0.0 + y.0) y.1)) (n, rest) c.2 in
    let first = two-taken x c.0.0 c.0.1 c.1 in
    let second = two-taken c.0.1 y.0.0 y.0.1 y.1 in
    let found = same (at_front (100 * c.0.0 + y.0.0) y.0.1) (n, rest) y.2 in
    let value : 100 * c.0.0 + y.0.0 ≡ 100 * (10 * (first.tens - 48) + (first.ones - 48)) + (10 * (second.tens - 48) + (second.ones - 48)) =
    omega (arith, first.value, second.value) in
    took IsYear x (first.tens ∷ first.ones ∷ second.tens ∷ second.ones ∷ []) (100 * c.0.0 + y.0.0) n y.0.1 rest found
    (first.is_tens, first.is_ones, second.is_tens, second.is_ones, value) (first.whole ∙ ap (λ t. first.tens ∷ first.ones ∷ t) second.whole)

one_more : (p : ℕ → Bool) (c : ℕ) (x : List ℕ) (n : ℕ) (b : Bool) → p c ≡ b → list_all p (take n x) ≡ true
    → list_all p (take (cond b (1 + n) 0) (c ∷ x)) ≡ true
one_more p c x n true h more = rw (one-add n) (rw h more)
one_more p c x n false h more = refl

-- the front that passes a test
pub front-passes : (p : ℕ → Bool) (x : List ℕ) → list_all p (take (prefix_len p x) x) ≡ true
front-passes p [] = refl
front-passes p (c ∷ x) = one_more p c x (prefix_len p x) (p c) refl (front-passes p x)

are_spaces : (x gap : List ℕ) → gap ≡ take (prefix_len is_space x) x → 0 < prefix_len is_space x → AreSpaces gap
are_spaces x [] e h = absurd (omega (arith, ap length e, length-prefix_len is_space x, h))
are_spaces x (c ∷ gap) e h =
    let all : list_all is_space (c ∷ gap) ≡ true = ap (list_all is_space) e ∙ front-passes is_space x in
    both (is_space c) (list_all is_space gap) all

pub spaces-taken : (x rest : List ℕ) → skip_spaces x ≡ Some rest → TookFront AreSpaces x rest
unfolding skip_spaces
spaces-taken x rest e =
    let g = guard (nat_lt 0 (prefix_len is_space x)) (drop (prefix_len is_space x) x) rest e in
    let long : 0 < prefix_len is_space x = grind (arith, nat_tests, g.0) in
    record {
      text = take (prefix_len is_space x) x;
      is = are_spaces x (take (prefix_len is_space x) x) refl long;
      whole = sym (take-append-drop (prefix_len is_space x) x) ∙ ap (λ t. take (prefix_len is_space x) x ++ t) g.1;
    }

pub name-taken : (x name rest : List ℕ) → read_name x ≡ Some (name, rest) → AreThreeLetters name × (x ≡ name ++ rest)
unfolding read_name
name-taken (a ∷ b ∷ c ∷ t) name rest e = grind (arith, nat_tests, common_steps, guard)
name-taken x name rest e = absurd cc

pub month-taken : (x : List ℕ) (n : ℕ) (rest : List ℕ) → read_month x ≡ Some (n, rest) → Took IsMonthName x n rest
unfolding read_month
month-taken x n rest e =
    let name = went (read_name x) (λ name. month_named name.0 >>= λ month. Some (at_front month name.1)) (n, rest) e in
    let month = went (month_named name.0.0) (λ month. Some (at_front month name.0.1)) (n, rest) name.2 in
    let front = name-taken x name.0.0 name.0.1 name.1 in
    took IsMonthName x name.0.0 month.0 n name.0.1 rest (same (at_front month.0 name.0.1) (n, rest) month.2) (front.0, month.1) front.1

-- the name of a day at the front, and the rest
pub record TookDay (x rest : List ℕ) : Type 0 where
  pub name : List ℕ
  pub is_name : IsDayName name
  pub whole : x ≡ name ++ rest

pub weekday-taken : (x rest : List ℕ) → skip_weekday x ≡ Some rest → TookDay x rest
unfolding skip_weekday
weekday-taken x rest e =
    let name = went (read_name x) (λ name. cond (is_weekday name.0) (Some name.1) None) rest e in
    let g = guard (is_weekday name.0.0) name.0.1 rest name.2 in
    let front = name-taken x name.0.0 name.0.1 name.1 in
    record { name = name.0.0; is_name = (front.0, g.0); whole = front.1 ∙ ap (λ (t : List ℕ). name.0.0 ++ t) g.1 }

pub prefix-taken : (x rest : List ℕ) → skip_day_name x ≡ Some rest → TookFront IsDayPrefix x rest
unfolding skip_day_name
prefix-taken x rest e =
    let name = went (skip_weekday x) (λ r. skip_char comma r >>= λ s. skip_spaces s) rest e in
    let mark = went (skip_char comma name.0) (λ s. skip_spaces s) rest name.2 in
    let day = weekday-taken x name.0 name.1 in
    let gap = spaces-taken mark.0 rest mark.2 in
    let after_name : name.0 ≡ comma ∷ (gap.text ++ rest) = after-taken comma name.0 mark.0 mark.1
    ∙ ap (λ (t : List ℕ). comma ∷ t) gap.whole in
    let split : x ≡ day.name ++ (comma ∷ (gap.text ++ rest)) = day.whole ∙ ap (λ (t : List ℕ). day.name ++ t) after_name in
    record {
      text = day.name ++ (comma ∷ gap.text);
      is = record { name = day.name; gap = gap.text; whole = refl; is_name = day.is_name; are_spaces = gap.is };
      whole = split ∙ sym (append_assoc day.name (comma ∷ gap.text) rest);
    }

abbrev pub date_at : ℕ → ℕ → ℕ → List ℕ → DateFields × List ℕ
date_at year month day rest = (record { year = year; month = month; day = day }, rest)

after_day : ℕ → ℕ → List ℕ → ReadFront DateFields
after_day year month x = read_field x >>= λ day. Some (date_at year month day.0 day.1)

after_month : ℕ → List ℕ → ReadFront DateFields
after_month year x = read_field x >>= λ month. skip_char minus month.1 >>= λ rest. after_day year month.0 rest

pub date-taken : (x : List ℕ) (date : DateFields) (rest : List ℕ) → read_plain_date x ≡ Some (date, rest) → Took IsPlainDate x date rest
unfolding read_plain_date after_day after_month
date-taken x date rest e =
    let year = went (read_year x) (λ year. skip_char minus year.1 >>= λ r. after_month year.0 r) (date, rest) e in
    let mark = went (skip_char minus year.0.1) (λ r. after_month year.0.0 r) (date, rest) year.2 in
    let month = went (read_field mark.0) (λ month. skip_char minus month.1 >>= λ r. after_day year.0.0 month.0 r) (date, rest) mark.2 in
    let next = went (skip_char minus month.0.1) (λ r. after_day year.0.0 month.0.0 r) (date, rest) month.2 in
    let day = went (read_field next.0) (λ day. Some (date_at year.0.0 month.0.0 day.0 day.1)) (date, rest) next.2 in
    let y = year-taken x year.0.0 year.0.1 year.1 in
    let m = field-taken mark.0 month.0.0 month.0.1 month.1 in
    let d = field-taken next.0 day.0.0 day.0.1 day.1 in
    let found = same (date_at year.0.0 month.0.0 day.0.0 day.0.1) (date, rest) day.2 in
    let after_m : month.0.1 ≡ minus ∷ (d.text ++ day.0.1) = after-taken minus month.0.1 next.0 next.1
    ∙ ap (λ (t : List ℕ). minus ∷ t) d.whole in
    let after_y : year.0.1 ≡ minus ∷ (m.text ++ (minus ∷ (d.text ++ day.0.1))) = after-taken minus year.0.1 mark.0 mark.1
    ∙ ap (λ (t : List ℕ). minus ∷ t) (m.whole ∙ ap (λ (t : List ℕ). m.text ++ t) after_m) in
    let split : x ≡ y.text ++ (minus ∷ (m.text ++ (minus ∷ (d.text ++ day.0.1)))) = y.whole ∙ ap (λ (t : List ℕ). y.text ++ t) after_y in
    let joined : (y.text ++ minus ∷ m.text ++ minus ∷ d.text) ++ day.0.1 ≡ y.text ++ (minus ∷ (m.text ++ (minus ∷ (d.text ++ day.0.1)))) =
    simp append_assoc in
    subst (λ (p : DateFields × List ℕ). Took IsPlainDate x p.0 p.1) found (record {
      text = y.text ++ minus ∷ m.text ++ minus ∷ d.text;
      is = record { year = y.text; month = m.text; day = d.text; whole = refl; is_year = y.is; is_month = m.is; is_day = d.is };
      whole = split ∙ sym joined;
    })

abbrev minutes_at : ℕ → ℕ → List ℕ → ClockFields × List ℕ
minutes_at hour minute rest = (record { hour = hour; minute = minute; second = 0 }, rest)

after_hour : ℕ → List ℕ → ReadFront ClockFields
after_hour hour x = read_field x >>= λ minute. Some (minutes_at hour minute.0 minute.1)

minutes-taken : (x : List ℕ) (clock : ClockFields) (rest : List ℕ) → read_minutes x ≡ Some (clock, rest) → Took AreMinutes x clock rest
unfolding read_minutes after_hour
minutes-taken x clock rest e =
    let hour = went (read_field x) (λ hour. skip_char colon hour.1 >>= λ r. after_hour hour.0 r) (clock, rest) e in
    let mark = went (skip_char colon hour.0.1) (λ r. after_hour hour.0.0 r) (clock, rest) hour.2 in
    let minute = went (read_field mark.0) (λ minute. Some (minutes_at hour.0.0 minute.0 minute.1)) (clock, rest) mark.2 in
    let h = field-taken x hour.0.0 hour.0.1 hour.1 in
    let m = field-taken mark.0 minute.0.0 minute.0.1 minute.1 in
    let found = same (minutes_at hour.0.0 minute.0.0 minute.0.1) (clock, rest) minute.2 in
    let after_h : hour.0.1 ≡ colon ∷ (m.text ++ minute.0.1) = after-taken colon hour.0.1 mark.0 mark.1
    ∙ ap (λ (t : List ℕ). colon ∷ t) m.whole in
    let joined : (h.text ++ colon ∷ m.text) ++ minute.0.1 ≡ h.text ++ (colon ∷ (m.text ++ minute.0.1)) = simp append_assoc in
    subst (λ (p : ClockFields × List ℕ). Took AreMinutes x p.0 p.1) found (record {
      text = h.text ++ colon ∷ m.text;
      is = record { hour = h.text; minute = m.text; whole = refl; is_hour = h.is; is_minute = m.is; at_its_start = refl };
      whole = h.whole ∙ ap (λ (t : List ℕ). h.text ++ t) after_h ∙ sym joined;
    })

abbrev clock_at : ClockFields → ℕ → List ℕ → ClockFields × List ℕ
clock_at clock seconds rest = (record clock { second = without_leap_second seconds }, rest)

-- a second after minutes makes a clock
second-taken : (x : List ℕ) (start : ClockFields) (middle : List ℕ) (clock : ClockFields) (rest : List ℕ) → Took AreMinutes x start middle
    → read_second start middle ≡ Some (clock, rest) → Took IsClock x clock rest
unfolding read_second
second-taken x start middle clock rest front e =
    let mark = went (skip_char colon middle) (λ r. read_field r >>= λ second. Some (clock_at start second.0 second.1)) (clock, rest) e in
    let second = went (read_field mark.0) (λ second. Some (clock_at start second.0 second.1)) (clock, rest) mark.2 in
    let s = field-taken mark.0 second.0.0 second.0.1 second.1 in
    let found = same (clock_at start second.0.0 second.0.1) (clock, rest) second.2 in
    let after_m : middle ≡ colon ∷ (s.text ++ second.0.1) = after-taken colon middle mark.0 mark.1
    ∙ ap (λ (t : List ℕ). colon ∷ t) s.whole in
    let f = front.is in
    let joined : (f.hour ++ colon ∷ f.minute ++ colon ∷ s.text) ++ second.0.1 ≡ (f.hour ++ colon ∷ f.minute)
    ++ (colon ∷ (s.text ++ second.0.1)) = simp append_assoc in
    subst (λ (p : ClockFields × List ℕ). Took IsClock x p.0 p.1) found (record {
      text = f.hour ++ colon ∷ f.minute ++ colon ∷ s.text;
      is = record {
        hour = f.hour;
        minute = f.minute;
        second = s.text;
        seconds = second.0.0;
        whole = refl;
        is_hour = f.is_hour;
        is_minute =
            f.is_minute;
        is_second = s.is;
        without_leap = refl;
      };
      whole = front.whole ∙ ap (λ (t : List ℕ). front.text ++ t) after_m
          ∙ ap (λ (t : List ℕ). t ++ (colon ∷ (s.text ++ second.0.1))) f.whole ∙ sym joined;
    })

pub clock-taken : (x : List ℕ) (clock : ClockFields) (rest : List ℕ) → read_clock x ≡ Some (clock, rest) → Took IsClock x clock rest
unfolding read_clock
clock-taken x clock rest e =
    let start = went (read_minutes x) (λ start. read_second start.0 start.1) (clock, rest) e in
    second-taken x start.0.0 start.0.1 clock rest (minutes-taken x start.0.0 start.0.1 start.1) start.2

as_rfc2822 : {x : List ℕ} {clock : ClockFields} {rest : List ℕ} → Took IsClock x clock rest → Took IsRfc2822Clock x clock rest
as_rfc2822 t = record { text = t.text; is = inl t.is; whole = t.whole }

with_or_without : (x : List ℕ) (start : ClockFields) (middle : List ℕ) (clock : ClockFields) (rest : List ℕ)
    (second : ReadFront ClockFields) → read_second start middle ≡ second → Took AreMinutes x start middle
    → Some (unwrap_or second (start, middle)) ≡ Some (clock, rest) → Took IsRfc2822Clock x clock rest
with_or_without x start middle clock rest (Some found) s front e = grind (arith, same, as_rfc2822, second-taken)
with_or_without x start middle clock rest None s front e = grind (arith, same)

pub rfc2822-clock-taken : (x : List ℕ) (clock : ClockFields) (rest : List ℕ) → read_rfc2822_clock x ≡ Some (clock, rest)
    → Took IsRfc2822Clock x clock rest
unfolding read_rfc2822_clock
rfc2822-clock-taken x clock rest e =
    let start = went (read_minutes x) (λ start. Some (unwrap_or (read_second start.0 start.1) start)) (clock, rest) e in
    with_or_without x start.0.0 start.0.1 clock rest (read_second start.0.0 start.0.1) refl (minutes-taken x start.0.0 start.0.1 start.1)
    start.2
