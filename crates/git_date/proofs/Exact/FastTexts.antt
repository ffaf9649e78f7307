-- Dates as Git prints them say the fields that are written there.
use Rattle.std.proofs.Common.{◌≡◌, ◌∙◌, ◌<◌, ◌≤◌, ◌+◌, length, get_or, [], Option, Some, IfSome, append_assoc, ℕ, ℤ, pos, ◌*ℤ◌, List, ◌∷◌}
use Rattle.std.proofs.Common.{◌++◌, ap, ap₂, sym, subst, arith, inl, inr, Ok, None, take, drop, take-append-drop}
use Rattle.std.proofs.lemmas.Fmt.{decimal_digit}
use Rattle.jiff_core.proofs.SignedLemmas.{signed_arith}
use Rattle.gix_date.specs.Fields.DateOffsets.{strict_offset_text}
use Rattle.gix_date.specs.Fields.FieldTexts.{four_digits, clock_text}
use Rattle.gix_date.specs.Fields.Layout.{LocalTime}
use Rattle.gix_date.specs.Fields.Offsets.{compact_offset_text}
use Rattle.gix_date.specs.Text.Characters.{space, comma, letter_t}
use Rattle.gix_date.specs.Text.Names.{day_name, month_name}
use Rattle.git_date.specs.Exact.Fast.{IsGitDate, WritesTwo, WritesDate, WritesDay, WritesMailDate, WritesMailDay, WritesNamedDay}
use Rattle.git_date.specs.Exact.Fast.{WritesClock, WritesOffset, WritesTime, WritesStrictTime, WritesYearTime, fields_in, SaysFields}
use Rattle.git_date.specs.Exact.Reading.{fields_said, said_by}
use Rattle.git_date.specs.declared.fields.Fields.{Fields}
use Rattle.git_date.specs.declared.fields.dates.Now.{Now}
use Rattle.git_date.proofs.Exact.PrintedClocks.{IsGitClock, IsDayText, date-mark, two-day, bare-day, at, fields_of, signed}
use Rattle.git_date.proofs.Exact.PrintedClocks.{offset_in_minutes}
use Rattle.git_date.proofs.Exact.PrintedReads.{minutes-back, iso-reads, strict-reads, mail-reads, default-reads}

-- the clock of these: a text that is printed of it says them
module _ (weekday : ℕ) (date clock : ℕ × ℕ × ℕ) (offset : ℤ) (clock_is offset_is : List ℕ) (show : ℤ → List ℕ) (is_weekday : weekday < 7)
    (d : IsGitDate date)
    (c : WritesClock clock_is clock) (o : WritesOffset show offset_is offset) where
  abbrev pub t : LocalTime
  t = record {
    weekday = weekday;
    date = record { year = date.0; month = date.1; day = date.2 };
    clock = record { hour = clock.0; minute = clock.1; second = clock.2 };
    offset = pos 60 *ℤ offset;
  }

  pub minutes-are : offset_in_minutes t ≡ offset
  minutes-are = let back = minutes-back (pos 60 *ℤ offset) o.whole in omega (arith, signed_arith, back)

  pub git-clock : IsGitClock t
  git-clock =
      let within = o.within in
      record {
        weekday = is_weekday;
        first_year = d.first_year;
        last_year = d.last_year;
        first_month = d.first_month;
        last_month = d.last_month;
        first_day = d.first_day;
        last_day = d.last_day;
        hour = c.hour;
        minute = c.minute;
        second = c.second;
        hours = omega (arith, within);
        minutes = omega arith;
        known = λ behind one. o.known (sym minutes-are ∙ ap₂ signed behind one);
      }

  says : (text shown : List ℕ) → ((now : Now) → said_by now shown ≡ fields_said shown (Ok (at (fields_of t)))) → shown ≡ text
      → SaysFields text (fields_in date clock offset)
  says text shown reads same now =
      subst (λ (text : List ℕ). said_by now text ≡ fields_said text (Ok (at (fields_in date clock offset)))) same
      (reads now ∙ ap (λ (m : ℤ). fields_said shown (Ok (at (fields_in date clock m)))) minutes-are)

-- the two parts of a text, and the fields that are made of them
pub joined : (text front back : List ℕ) (n : ℕ) → front ≡ take n text → back ≡ drop n text → front ++ back ≡ text
joined text front back n f b = ap₂ (λ (x y : List ℕ). x ++ y) f b ∙ take-append-drop n text

pub made_says : (text : List ℕ) (f made : Fields) → made ≡ f → SaysFields text f → SaysFields text made
made_says text f made is says now = says now ∙ sym (ap (λ (f : Fields). fields_said text (Ok (record { fields = f; ignored = None }))) is)

-- a day, as it is written
is-day : (text : List ℕ) (n : ℕ) → WritesDay text n → IsDayText n text
is-day text n d =
    let last = d.last in
    elim d.is [
      | inl two ↦ subst (IsDayText n) two (two-day n (omega (arith, last)))
      | inr bare ↦ subst (IsDayText n) bare
          (bare-day n (omega (arith, last)))
    ]

abbrev clock_shown : ℕ × ℕ × ℕ → List ℕ
clock_shown clock = clock_text (record { hour = clock.0; minute = clock.1; second = clock.2 })

time-is : (back : List ℕ) (clock : ℕ × ℕ × ℕ) (offset : ℤ) → WritesTime back (clock, offset)
    → space ∷ (clock_shown clock ++ (space ∷ compact_offset_text (pos 60 *ℤ offset))) ≡ back
time-is back clock offset w = ap₂ (λ (x y : List ℕ). space ∷ (x ++ (space ∷ y))) w.is_clock.is w.is_offset.is ∙ w.is

-- `2022-08-18 12:45:06 +0800`, `2022-08-18T12:45:06+08:00`
module _ (text front back : List ℕ) (date clock : ℕ × ℕ × ℕ) (offset : ℤ) (whole : front ++ back ≡ text) (d : WritesDate front date) where
  pub iso_says : WritesTime back (clock, offset) → SaysFields text (fields_in date clock offset)
  iso_says w =
      says 0 date clock offset _ _ compact_offset_text (omega arith) d.within w.is_clock w.is_offset text _
      (λ now. iso-reads d.mark (date-mark d.mark d.is_mark) now _
      (git-clock 0 date clock offset _ _ compact_offset_text (omega arith) d.within w.is_clock w.is_offset))
      (ap₂ (λ (x y : List ℕ). x ++ y) d.is (time-is back clock offset w) ∙ whole)

  pub strict_says : WritesStrictTime back (clock, offset) → SaysFields text (fields_in date clock offset)
  strict_says w =
      says 0 date clock offset _ _ strict_offset_text (omega arith) d.within w.is_clock w.is_offset text _
      (λ now. strict-reads d.mark (date-mark d.mark d.is_mark) now _
      (git-clock 0 date clock offset _ _ strict_offset_text (omega arith) d.within w.is_clock w.is_offset))
      (ap₂ (λ (x y : List ℕ). x ++ y) d.is (ap₂ (λ (x y : List ℕ). letter_t ∷ (x ++ y)) w.is_clock.is w.is_offset.is ∙ w.is) ∙ whole)

-- `Thu, 18 Aug 2022 12:45:06 +0800`
mail-joined : (name day month year back : List ℕ)
    → name ++ (comma ∷ (space ∷ (day ++ (space ∷ (month ++ (space ∷ (year ++ back)))))))
    ≡ (name ++ (comma ∷ (space ∷ (day ++ (space ∷ (month ++ (space ∷ year))))))) ++ back
mail-joined name day month year back = simp append_assoc

mail-within : (text : List ℕ) (date : ℕ × ℕ × ℕ) → WritesMailDate text date → IsGitDate date
mail-within text date d =
    let y = d.is_rest.is_year in
    let m = d.is_rest.is_month in
    record {
      first_year = y.first;
      last_year = y.last;
      first_month = m.first;
      last_month = m.last;
      first_day = d.is_day.first;
      last_day =
          d.is_day.last;
    }

mail-is : (text : List ℕ) (date : ℕ × ℕ × ℕ) (d : WritesMailDate text date)
    → d.day ++ (space ∷ (month_name date.1 ++ (space ∷ four_digits date.0))) ≡ text
mail-is text date d =
    let r = d.is_rest in
    ap₂ (λ (m y : List ℕ). d.day ++ (space ∷ (m ++ (space ∷ y)))) r.is_month.is r.is_year.is ∙ ap (λ (rest : List ℕ). d.day ++ rest) r.is
    ∙ d.is

pub mail_says : (text front back : List ℕ) (date clock : ℕ × ℕ × ℕ) (offset : ℤ) → front ++ back ≡ text → WritesMailDay front date
    → WritesTime back (clock, offset)
    → SaysFields text (fields_in date clock offset)
mail_says text front back date clock offset whole n w =
    let d = n.is_rest in
    let day = d.day in
    let within = mail-within n.rest date d in
    says n.weekday date clock offset _ _ compact_offset_text n.is_name.small within w.is_clock w.is_offset text _
    (λ now. mail-reads day now _
    (git-clock n.weekday date clock offset _ _ compact_offset_text n.is_name.small within w.is_clock w.is_offset)
    (is-day day date.2 d.is_day))
    (mail-joined (day_name n.weekday) day (month_name date.1) (four_digits date.0)
    (space ∷ (clock_shown clock ++ (space ∷ compact_offset_text (pos 60 *ℤ offset))))
    ∙ ap₂ (λ (x y : List ℕ). x ++ y)
    (ap₂ (λ (x y : List ℕ). x ++ (comma ∷ (space ∷ y))) n.is_name.is (mail-is n.rest date d) ∙ n.is)
    (time-is back clock offset w)
    ∙ whole)

-- `Thu Aug 18 12:45:06 2022 +0800`
named-joined : (name month day back : List ℕ)
    → name ++ (space ∷ (month ++ (space ∷ (day ++ back)))) ≡ (name ++ (space ∷ (month ++ (space ∷ day)))) ++ back
named-joined name month day back = simp append_assoc

default-says : (text front back : List ℕ) (year : ℕ) (date : ℕ × ℕ) (clock : ℕ × ℕ × ℕ) (offset : ℤ) → front ++ back ≡ text
    → WritesNamedDay front date
    → WritesYearTime back (clock, year, offset) → SaysFields text (fields_in (year, date.0, date.1) clock offset)
default-says text front back year date clock offset whole n w =
    let r = w.is_rest in
    let within : IsGitDate (year, date.0, date.1) = record {
      first_year = r.is_year.first;
      last_year = r.is_year.last;
      first_month = n.is_month.first;
      last_month = n.is_month.last;
      first_day = n.is_day.first;
      last_day = n.is_day.last;
    } in
    says n.weekday (year, date.0, date.1) clock offset _ _ compact_offset_text n.is_name.small within w.is_clock r.is_offset text _
    (λ now. default-reads n.day now _
    (git-clock n.weekday (year, date.0, date.1) clock offset _ _ compact_offset_text n.is_name.small within w.is_clock r.is_offset)
    (is-day n.day date.1 n.is_day))
    (named-joined (day_name n.weekday) (month_name date.0) n.day
    (space ∷ (clock_shown clock ++ (space ∷ (four_digits year ++ (space ∷ compact_offset_text (pos 60 *ℤ offset))))))
    ∙ ap₂ (λ (x y : List ℕ). x ++ y)
    (ap₂ (λ (x y : List ℕ). x ++ (space ∷ (y ++ (space ∷ n.day)))) n.is_name.is n.is_month.is ∙ n.is)
    (ap₂ (λ (x y : List ℕ). space ∷ (x ++ y)) w.is_clock.is
    (ap₂ (λ (x y : List ℕ). space ∷ (x ++ (space ∷ y))) r.is_year.is r.is_offset.is ∙ r.is) ∙ w.is)
    ∙ whole)

pub default_says : (text front back : List ℕ) (year month day : ℕ) (clock : ℕ × ℕ × ℕ) (offset : ℤ) → front ++ back ≡ text
    → WritesNamedDay front (month, day)
    → WritesYearTime back (clock, year, offset) → SaysFields text (fields_in (year, month, day) clock offset)
default_says text front back year month day clock offset whole n w = default-says text front back year (month, day) clock offset whole n w

-- one digit is a day
pub one_digit : (text : List ℕ) (found : Option ℕ) → 1 ≤ length text → length text < 2 → IfSome found (WritesTwo 1 9 48 (get_or text 0 0))
    → IfSome found (WritesDay text)
one_digit text None low high h = tt
one_digit [] (Some n) low high h = absurd (omega (arith, low))
one_digit (a ∷ b ∷ text) (Some n) low high h = absurd (omega (arith, high))
one_digit (a ∷ []) (Some n) low high h =
    let most = h.most in
    let ones = ap (λ (digits : List ℕ). get_or digits 1 0) h.is in
    let is : 48 + n ≡ a = omega (arith, ones, most) in
    record { first = h.least; last = omega (arith, most); is = inr (decimal_digit n (omega (arith, most)) ∙ ap (λ (c : ℕ). c ∷ []) is) }
