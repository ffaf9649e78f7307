-- The pieces of formatted dates, one after the other, as the exact reader takes them.
use Rattle.std.proofs.Common.{◌≡◌, ◌∙◌, ◌<◌, ◌≤◌, ◌+◌, ◌-◌, ◌*◌, inl, inr, ℕ, ℤ, pos, neg_ℤ, ◌+ℤ◌, ◌*ℤ◌, nat_le, nat_lt, Bool, true, false}
use Rattle.std.proofs.Common.{cond, List, [], ◌∷◌, ◌++◌, Option, Some, None, is_none, is_some, Ok, refl, ap, sym, subst, arith}
use Rattle.std.proofs.Common.{append_assoc, append-nil}
use Rattle.std.proofs.Math.Bool.{and-false}
use Rattle.std.specs.Prelude.{◌==◌, ◌&&◌, codes, option_map}
use Rattle.std.proofs.lemmas.Bool.Decides.{nat_tests}
use Rattle.std.proofs.lemmas.Option.{cond_some as guard}
use Rattle.jiff_core.proofs.SignedLemmas.{signed_arith}
use Rattle.gix_date.proofs.Fast.FastHeaders.{offset-taken}
use Rattle.gix_date.proofs.Fields.ColonOffsets.{AreLastSeconds, IsColonOffset, strict-taken}
use Rattle.gix_date.proofs.Fields.FieldsTaken.{went}
use Rattle.gix_date.proofs.Fields.ThreeLetters.{month-is, weekday_is}
use Rattle.gix_date.specs.Families.Patterns.{midnight}
use Rattle.gix_date.specs.Fields.Civil.{civil_seconds}
use Rattle.gix_date.specs.Fields.DateFields.{month_named, is_weekday as is_day_name, without_leap_second}
use Rattle.gix_date.specs.Fields.DateOffsets.{compact_offset, is_jiff_offset, jiff_offset}
use Rattle.gix_date.specs.Fields.FieldTexts.{IsDigit, AreThreeLetters, IsField}
use Rattle.gix_date.specs.Fields.Layout.{LocalTime, BeginsWith, DayName, MonthName, Day, Year, PlainDate, Clock, Spaces, LetterT, Offset}
use Rattle.gix_date.specs.Fields.Layout.{ColonOffset}
use Rattle.gix_date.specs.Fields.Offsets.{SignedPairs, offset_fields, offset_of}
use Rattle.gix_date.specs.Text.Characters.{colon, dot, plus, minus, space, letter_t}
use Rattle.gix_date.specs.Text.LongNames.{month_of_word}
use Rattle.gix_date.specs.declared.time.Time.{Time}
use Rattle.git_date.proofs.Rules.ClocksBack.{later-day}
use Rattle.git_date.proofs.Rules.Kept.{either}
use Rattle.git_date.proofs.Exact.PrintedClocks.{HasNoDigits, sign-before, sign-no-dot, at, date-mark, IsNumber, number-before, two-numbers}
use Rattle.git_date.proofs.Exact.PrintedClocks.{name-first, day-rule, four-read, clock-rule, three_group, date-read, or_bare, none-large}
use Rattle.git_date.proofs.Exact.PrintedClocks.{numbered}
use Rattle.git_date.proofs.Text.TokenRuns.{letter-first, mark-first}
use Rattle.git_date.specs.Rules.Dates.{exact_seconds, month_start, first_of, is_month, seconds_after, by_year}
use Rattle.git_date.specs.Rules.Digits.{bare_digits, four_digits, few_digits, digits_rule, group_said, grouped}
use Rattle.git_date.specs.Rules.Fields.{unknown, with_date}
use Rattle.git_date.specs.Rules.Groups.{marked_number, group_of, large_in}
use Rattle.git_date.specs.Tokens.Names.{is_weekday, zone_named}
use Rattle.git_date.specs.Tokens.Numbers.{number}
use Rattle.git_date.specs.Rules.Offsets.{white, without_white, padded_number, offset_minutes, colon_minutes, two_digit_offset, offset_said}
use Rattle.git_date.specs.Rules.Offsets.{with_offset}
use Rattle.git_date.specs.Exact.Reading.{ended, sign_rule, rule}
use Rattle.git_date.specs.Tokens.Tokens.{Token, Letters, Digits, Mark, letter_before, tokens, bytes_left}
use Rattle.git_date.specs.Types.Names.{Fields, Now}
use Rattle.git_date.specs.Rules.Words.{with_word, letters_rule, without_ending, with_zone, half_or_filler}
use Rattle.git_date_laws.proofs.Agreement.Fields.{IsOf, AreFields, field-is, year-is, day-text, gap-quiet, IsSpaced, spaced, three-first}
use Rattle.git_date_laws.proofs.Agreement.Seconds.{from-month}
use Rattle.git_date_laws.proofs.Agreement.Steps.{Fits, Goes, Step, After, goes, Ready, over, skip, no-offset, with-it, offset-goes}
use Rattle.git_date_laws.proofs.Agreement.Steps.{minutes_at, has-sign, sign-goes, digit-below}
use Rattle.git_date_laws.specs.Agree.{HasNoLeapSecond}
use Rattle.std.specs.Option.{option_or}

-- all of a date and a clock
abbrev pub all_of : LocalTime → Fields
all_of l = record {
  year = Some l.date.year;
  month = Some l.date.month;
  day = Some l.date.day;
  hour = Some l.clock.hour;
  minute = Some l.clock.minute;
  second = Some l.clock.second;
  offset = None;
  epoch = false;
}

-- the second is 60 where `60` is written
sixty : (x : List ℕ) → IsField x 60 → x ≡ codes "60"
sixty [] h = absurd h
sixty (a ∷ []) h = absurd (omega (arith, h.1, digit-below a h.0))
sixty (a ∷ b ∷ []) h = grind (arith, nat_tests, digit-below)
sixty (a ∷ b ∷ c ∷ x) h = absurd h

second-is : (text before second after : List ℕ) (n m : ℕ) → HasNoLeapSecond text → text ≡ before ++ (colon ∷ (second ++ after))
    → IsField second n → m ≡ without_leap_second n → n ≡ m
second-is text before second after n m free e h is = grind (arith, nat_tests, sixty)

-- three letters tell the month that they name, and the day of the week
month-told : (x : List ℕ) → AreThreeLetters x → month_of_word x ≡ month_named x
month-told (a ∷ b ∷ c ∷ []) h = month-is a b c
month-told ts h = absurd h

day-told : (x : List ℕ) → AreThreeLetters x → is_weekday x ≡ is_day_name x
unfolding is_weekday
day-told (a ∷ b ∷ c ∷ []) h = weekday_is a b c
day-told ts h = absurd h

-- an offset with colons, as tokens
pair-is : (a b n : ℕ) → IsDigit a → IsDigit b → n ≡ 10 * (a - 48) + (b - 48) → IsNumber (a ∷ b ∷ []) n × (n < 100)
pair-is a b n p q e = let x = field-is (a ∷ b ∷ []) n (p, q, e) in (x.0, x.1)

last-free : (last : List ℕ) (seconds : Option ℕ) → AreLastSeconds last seconds → HasNoDigits (tokens last)
unfolding tokens
last-free last seconds (inl p) = subst (λ (x : List ℕ). HasNoDigits (tokens x)) (sym p.0) tt
last-free last seconds (inr p) = grind (arith, mark-first)

module _ (now : Now) (t : Time) where
  colon-step : (g : Fields) (behind : Bool) (a b c d hours minutes : ℕ) (ts : List Token) → number (a ∷ b ∷ []) ≡ hours
      → number (c ∷ d ∷ []) ≡ minutes → hours < 100 → minutes < 100
      → Goes now t (with_offset g behind (pos (60 * hours) +ℤ pos minutes)) (without_ending ts)
      → Step now t (sign_rule g behind (Digits (a ∷ b ∷ []) ∷ Mark colon ∷ Digits (c ∷ d ∷ []) ∷ ts))
  unfolding sign_rule offset_said two_digit_offset colon_minutes padded_number white without_white offset_minutes
  colon-step g behind a b c d hours minutes ts e h m n go =
      let small : nat_lt 2_147_483_647 hours ≡ false = grind (arith, nat_tests) in
      let less : nat_lt 2_147_483_647 minutes ≡ false = grind (arith, nat_tests) in
      rw (e, h, small, less)
      (either (λ (o : Option ℤ). After now t (option_map (with_offset g behind) o) (without_ending ts))
      (nat_lt hours 24 && nat_lt minutes 60) _ _ go tt)

  -- two digits after a date: no rule uses them
  idle : (g : Fields) (a b n : ℕ) → number (a ∷ b ∷ []) ≡ n → n < 100 → is_none g.day ≡ false → is_none g.month ≡ false
      → is_some g.year ≡ true
      → Step now t (rule now g (Digits (a ∷ b ∷ [])) [])
  unfolding digits_rule group_said group_of marked_number bare_digits few_digits
  idle g a b n e h day month year =
      let early : nat_le 100_000_000 n ≡ false = grind (arith, nat_tests) in
      let small : nat_lt 2_147_483_647 n ≡ false = grind (arith, nat_tests) in
      rw (e, early, small, day, and-false (nat_le 1 n && nat_le n 31), year, month, and-false (nat_le 1 n && nat_le n 12)) tt

module _ (now : Now) (t : Time) (l : LocalTime) (is : IsOf l t) (f : AreFields l) (late : 1969 ≤ l.date.year) where
  pub ready : Ready now t (all_of l)
  unfolding exact_seconds month_start
  ready = λ seconds minutes off exact.
      let y = l.date.year in
      let m = l.date.month in
      let found = from-month (is_month y m) (civil_seconds (first_of y m) midnight (pos 0)) seconds
      (λ start. seconds_after start (Some l.date.day) l.clock.hour l.clock.minute l.clock.second) exact in
      let later = later-day (pos y) m l.date.day f.first_day in
      omega (arith, signed_arith, found, later, is.civil, is.offset, off)

  pub stop : Fits now t (Ok (at (all_of l)))
  stop = no-offset now t (all_of l) refl

  -- a piece that is one token or a group of them
  pub piece : (g : Fields) (x rest : List ℕ) (tok : Token) (mid : List Token) → tokens (x ++ rest) ≡ tok ∷ mid → g.offset ≡ None
      → Step now t (rule now g tok mid) → Goes now t g (tokens (x ++ rest))
  piece g x rest tok mid e none step = subst (Goes now t g) (sym e) (goes now t g tok mid (λ end. no-offset now t g none) step)

  module _ (M : List ℕ → Type 0) (text : List ℕ) where
    pub gap-part : (g : Fields) (p : BeginsWith Spaces l M text) → g.offset ≡ None → Goes now t g (tokens p.rest)
        → Goes now t g (tokens text)
    gap-part g p none go = subst (λ (x : List ℕ). Goes now t g (tokens x)) (sym p.whole)
        (skip now t g p.front p.rest (gap-quiet p.front p.is) (no-offset now t g none) go)

    pub gap-first : (p : BeginsWith Spaces l M text) → IsSpaced (tokens text)
    gap-first p = subst (λ (x : List ℕ). IsSpaced (tokens x)) (sym p.whole) (spaced p.front p.rest p.is)

    pub day-part : (g : Fields) (p : BeginsWith Day l M text) → IsSpaced (tokens p.rest) → g.offset ≡ None → g.day ≡ None
        → Goes now t (record g { day = Some l.date.day }) (tokens p.rest) → Goes now t g (tokens text)
    day-part g p s none no_day go =
        let n = field-is p.front l.date.day p.is in
        let d = day-text p.front l.date.day p.is in
        subst (λ (x : List ℕ). Goes now t g (tokens x)) (sym p.whole)
        (piece g p.front p.rest (Digits p.front) (Mark space ∷ s.more) (number-before p.front p.rest (Mark space ∷ s.more) _ n.0 s.is tt)
        none
        (subst (Step now t) (sym (day-rule now g l.date.day p.front s.more d f.first_day f.last_day no_day))
        (subst (Goes now t (record g { day = Some l.date.day })) s.is go)))

    pub year-part : (g : Fields) (p : BeginsWith Year l M text) → IsSpaced (tokens p.rest) → g.offset ≡ None
        → Goes now t (record g { year = Some l.date.year }) (tokens p.rest) → Goes now t g (tokens text)
    unfolding four_digits
    year-part g p s none go =
        let y = l.date.year in
        let n = year-is p.front y p.is in
        let early : nat_le y 1400 ≡ false = grind (arith, nat_tests) in
        let first = number-before p.front p.rest (Mark space ∷ s.more) y n.0 s.is tt in
        subst (λ (x : List ℕ). Goes now t g (tokens x)) (sym p.whole)
        (piece g p.front p.rest (Digits p.front) (Mark space ∷ s.more) first none
        (subst (Step now t) (sym (four-read now g p.front y s.more n.2 n.0.is n.1))
        (rw early (either (λ (o : Option Fields). After now t o (Mark space ∷ s.more)) (nat_lt 1900 y && nat_le y 2099) _ _
        (subst (Goes now t (record g { year = Some y })) s.is go) tt))))

    pub clock-part : (g : Fields) (p : BeginsWith Clock l M text) (byte : ℕ) (more : List Token) → HasNoLeapSecond text
        → tokens p.rest ≡ Mark byte ∷ more → (byte == dot) ≡ false → g.offset ≡ None
        → Goes now t (record g { hour = Some l.clock.hour; minute = Some l.clock.minute; second = Some l.clock.second }) (tokens p.rest)
        → Goes now t g (tokens text)
    clock-part g p byte more free e no_dot none go =
        let k = p.is in
        let next : Fields = record g { hour = Some l.clock.hour; minute = Some l.clock.minute; second = Some l.clock.second } in
        let joined : text ≡ (k.hour ++ (colon ∷ k.minute)) ++ (colon ∷ (k.second ++ p.rest)) = p.whole
        ∙ ap (λ (x : List ℕ). x ++ p.rest) k.whole ∙ append_assoc (k.hour ++ (colon ∷ k.minute)) (colon ∷ k.second) p.rest in
        let same =
        second-is text (k.hour ++ (colon ∷ k.minute)) k.second p.rest k.seconds l.clock.second free joined k.is_second k.without_leap in
        let a = (field-is k.hour l.clock.hour k.is_hour).0 in
        let b = (field-is k.minute l.clock.minute k.is_minute).0 in
        let c = (field-is k.second k.seconds k.is_second).0 in
        let first = three-first colon k.hour k.minute k.second p.rest l.clock.hour l.clock.minute k.seconds (Mark byte ∷ more) refl refl a b
        c e tt in
        subst (λ (x : List ℕ). Goes now t g (tokens x)) (sym (p.whole ∙ ap (λ (x : List ℕ). x ++ p.rest) k.whole))
        (piece g ((k.hour ++ (colon ∷ k.minute)) ++ (colon ∷ k.second)) p.rest (Digits k.hour) _ first none
        (subst (Step now t) (sym (clock-rule now g k.hour k.minute k.second l.clock.hour l.clock.minute l.clock.second byte more a.is b.is
        (c.is ∙ same) f.hour f.minute f.second no_dot))
        (subst (Goes now t next) e go)))

    pub date-part : (p : BeginsWith PlainDate l M text) → HasNoDigits (tokens p.rest)
        → Goes now t (with_date unknown l.date.year l.date.month l.date.day) (without_ending (tokens p.rest))
        → Goes now t unknown (tokens text)
    date-part p free go =
        let k = p.is in
        let y = l.date.year in
        let m = l.date.month in
        let d = l.date.day in
        let a = year-is k.year y k.is_year in
        let b = field-is k.month m k.is_month in
        let c = field-is k.day d k.is_day in
        let ts = tokens p.rest in
        let mid = Mark minus ∷ Digits k.month ∷ Mark minus ∷ Digits k.day ∷ ts in
        let group = three_group minus y m d k.month k.day ts in
        let large : large_in group ≡ None = none-large minus y group.second (numbered d (bytes_left (Digits k.day ∷ ts)))
        (omega (arith, f.last_month)) (omega (arith, f.last_day)) in
        subst (λ (x : List ℕ). Goes now t unknown (tokens x)) (sym (p.whole ∙ ap (λ (x : List ℕ). x ++ p.rest) k.whole))
        (piece unknown ((k.year ++ (minus ∷ k.month)) ++ (minus ∷ k.day)) p.rest (Digits k.year) mid
        (three-first minus k.year k.month k.day p.rest y m d ts refl refl a.0 b.0 c.0 refl free) refl
        (subst (Step now t) (sym (date-read minus now unknown k.year k.month k.day y m d ts (date-mark minus refl) a.0.is b.0.is c.0.is late
        a.1 f.first_month f.last_month f.first_day f.last_day))
        (either (λ (o : Option ℕ).
        Step now t (ended (or_bare unknown k.year mid (grouped (bytes_left (Digits k.year ∷ mid)) group ts (by_year unknown m d o)))))
        (nat_le 1970 y && nat_le y 2099) _ _
        (rw large go) (rw large tt))))

    pub offset-part : (p : BeginsWith Offset l M text) → p.rest ≡ [] → Goes now t (all_of l) (tokens text)
    unfolding compact_offset
    offset-part p e =
        let fields = went (offset_fields p.front) (λ x. jiff_offset x) l.offset p.is in
        let g = guard (is_jiff_offset fields.0) (offset_of fields.0) l.offset fields.2 in
        subst (λ (x : List ℕ). Goes now t (all_of l) (tokens x)) (sym (p.whole ∙ ap (λ (x : List ℕ). p.front ++ x) e))
        (offset-goes now t (all_of l) fields.0 p.front [] (offset-taken p.front fields.0 fields.1) (is.offset ∙ sym g.1) tt stop ready)

    -- names
    pub month-part : (g : Fields) (p : BeginsWith MonthName l M text) → IsSpaced (tokens p.rest) → g.offset ≡ None
        → Goes now t (record g { month = Some l.date.month }) (tokens p.rest) → Goes now t g (tokens text)
    unfolding letters_rule with_word
    month-part g p s none go =
        subst (λ (x : List ℕ). Goes now t g (tokens x)) (sym p.whole)
        (piece g p.front p.rest (Letters p.front) (Mark space ∷ s.more) (name-first p.front p.rest space s.more p.is.0 s.is) none
        (rw (month-told p.front p.is.0 ∙ p.is.1) (subst (Goes now t (record g { month = Some l.date.month })) s.is go)))

    pub weekday-part : (p : BeginsWith DayName l M text) (byte : ℕ) (more : List Token) → tokens p.rest ≡ Mark byte ∷ more
        → ((month : Option ℕ) → Goes now t (record unknown { month = month }) (tokens p.rest)) → Goes now t unknown (tokens text)
    unfolding letters_rule with_word
    weekday-part p byte more e go =
        subst (λ (x : List ℕ). Goes now t unknown (tokens x)) (sym p.whole)
        (piece unknown p.front p.rest (Letters p.front) (Mark byte ∷ more) (name-first p.front p.rest byte more p.is.0 e) refl
        (named (month_of_word p.front)))
      where
        named : (month : Option ℕ) → After now t (option_or (option_map (λ m. record unknown { month = Some m }) month)
            (cond (is_weekday p.front) (Some unknown)
            (option_or (option_map (with_zone unknown) (zone_named p.front)) (half_or_filler unknown p.front)))) (Mark byte ∷ more)
        named (Some m) = subst (Goes now t (record unknown { month = Some m })) e (go (Some m))
        named None = rw (day-told p.front p.is.0 ∙ p.is.1) (subst (Goes now t unknown) e (go None))

    pub letter-part : (p : BeginsWith LetterT l M text) (run : List ℕ) (more : List Token) → tokens p.rest ≡ Digits run ∷ more
        → (tokens text ≡ Letters (letter_t ∷ []) ∷ tokens p.rest) × (without_ending (tokens text) ≡ tokens p.rest)
    unfolding without_ending
    letter-part p run more e =
        let whole = ap tokens (p.whole ∙ ap (λ (x : List ℕ). x ++ p.rest) p.is) ∙ letter-first letter_t p.rest refl
        ∙ ap (letter_before letter_t) e in
        (whole ∙ ap (λ (ts : List Token). Letters (letter_t ∷ []) ∷ ts) (sym e), ap without_ending whole ∙ sym e)

    pub clock-first : (p : BeginsWith Clock l M text) → HasNoDigits (tokens p.rest)
        → (run : List ℕ) × (more : List Token) × (tokens text ≡ Digits run ∷ more)
    clock-first p free =
        let k = p.is in
        let a = (field-is k.hour l.clock.hour k.is_hour).0 in
        let b = (field-is k.minute l.clock.minute k.is_minute).0 in
        let c = (field-is k.second k.seconds k.is_second).0 in (
          k.hour,
          _,
          ap tokens (p.whole ∙ ap (λ (x : List ℕ). x ++ p.rest) k.whole) ∙ three-first colon k.hour k.minute k.second p.rest
              l.clock.hour l.clock.minute k.seconds (tokens p.rest) refl refl a b c refl free,
        )

    colon-last : (behind : Bool) (minutes : ℤ) (last : List ℕ) (seconds : Option ℕ) → AreLastSeconds last seconds
        → (seconds ≡ None → t.offset ≡ pos 60 *ℤ cond behind (neg_ℤ minutes) minutes)
        → Goes now t (with_offset (all_of l) behind minutes) (without_ending (tokens last))
    unfolding without_ending tokens
    colon-last behind minutes last seconds (inl p) e =
        let next = with_offset (all_of l) behind minutes in
        subst (λ (x : List ℕ). Goes now t next (without_ending (tokens x))) (sym p.0)
        (over now t next (with-it now t (all_of l) behind minutes ready (e p.1)))
    colon-last behind minutes last seconds (inr p) e =
        let next = with_offset (all_of l) behind minutes in
        let n = pair-is p.0 p.1 _ p.3 p.4 refl in
        let whole : tokens (colon ∷ p.0 ∷ p.1 ∷ []) ≡ Mark colon ∷ Digits (p.0 ∷ p.1 ∷ []) ∷ [] =
        mark-first colon (p.0 ∷ p.1 ∷ []) refl refl
        ∙ ap (λ (ts : List Token). Mark colon ∷ ts) (number-before (p.0 ∷ p.1 ∷ []) [] [] _ n.0 refl tt) in
        subst (λ (x : List ℕ). Goes now t next (without_ending (tokens x))) (sym p.2)
        (subst (λ (ts : List Token). Goes now t next (without_ending ts)) (sym whole)
        (goes now t next (Mark colon) (Digits (p.0 ∷ p.1 ∷ []) ∷ []) (λ end. absurd cc)
        (goes now t next (Digits (p.0 ∷ p.1 ∷ [])) [] (λ end. absurd cc) (idle now t next p.0 p.1 _ n.0.is n.1 refl refl refl))))

    colon-goes : (behind : Bool) (fields : SignedPairs) (x : List ℕ) (k : IsColonOffset x fields)
        → (fields.seconds ≡ None → t.offset ≡ pos 60 *ℤ cond behind (neg_ℤ (minutes_at fields)) (minutes_at fields))
        → Step now t (sign_rule (all_of l) behind (tokens (k.h0 ∷ k.h1 ∷ colon ∷ k.m0 ∷ k.m1 ∷ k.last)))
    colon-goes behind fields x k e =
        let a = pair-is k.h0 k.h1 fields.hours k.is_h0 k.is_h1 k.hours in
        let b = pair-is k.m0 k.m1 fields.minutes k.is_m0 k.is_m1 k.minutes in
        subst (λ (ts : List Token). Step now t (sign_rule (all_of l) behind ts)) (sym (two-numbers colon (k.h0 ∷ k.h1 ∷ [])
        (k.m0 ∷ k.m1 ∷ []) k.last fields.hours fields.minutes (tokens k.last) refl refl a.0 b.0 refl
        (last-free k.last fields.seconds k.is_last)))
        (colon-step now t (all_of l) behind k.h0 k.h1 k.m0 k.m1 fields.hours fields.minutes (tokens k.last) a.0.is b.0.is a.1 b.1
        (colon-last behind (minutes_at fields) k.last fields.seconds k.is_last e))

    pub colon-part : (p : BeginsWith ColonOffset l M text) → p.rest ≡ [] → (byte : ℕ) × (more : List Token)
        × (tokens text ≡ Mark byte ∷ more) × ((byte == dot) ≡ false) × Goes now t (all_of l) (tokens text)
    colon-part p e =
        let x = strict-taken p.front l.offset p.is in
        let k = x.1 in
        let digits = k.h0 ∷ k.h1 ∷ colon ∷ k.m0 ∷ k.m1 ∷ k.last in
        let s = has-sign k.mark x.0 k.is_mark in
        let whole : text ≡ cond s.behind minus plus ∷ digits = p.whole ∙ ap (λ (y : List ℕ). p.front ++ y) e ∙ append-nil p.front ∙ k.whole
        ∙ ap (λ (c : ℕ). c ∷ digits) s.is in (
          _,
          _,
          ap tokens whole ∙ sign-before s.behind digits,
          sign-no-dot s.behind,
          subst (λ (y : List ℕ). Goes now t (all_of l) (tokens y)) (sym whole)
              (sign-goes now t (all_of l) s.behind digits stop
              (colon-goes s.behind x.0 p.front k (λ none. is.offset ∙ x.2 ∙ s.minutes none))),
        )
