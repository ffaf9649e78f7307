-- Formatted dates, as the exact reader reads them.
use Rattle.std.specs.Prelude.{◌&&◌}
use Rattle.std.proofs.Common.{◌≡◌, ◌≤◌, ◌≤ℤ◌, ℕ, pos, List, [], ◌∷◌, ◌++◌, Option, Some, None, refl, ◌∙◌, ap, sym, subst, append_assoc}
use Rattle.std.proofs.Common.{arith, nat_le}
use Rattle.gix_date.specs.Families.Answer.{Absolute}
use Rattle.gix_date.specs.Families.Patterns.{IsMeaning, rfc2822_layout, iso8601_layout, iso8601_strict_layout, gitoxide_layout}
use Rattle.gix_date.specs.Families.Patterns.{default_layout, time_answer}
use Rattle.gix_date.proofs.Fields.FieldsRead.{Begins, begins-append, field-begins, year-begins, name-begins}
use Rattle.gix_date.specs.Fields.FieldTexts.{AreThreeLetters, IsPlainDate, IsYear}
use Rattle.gix_date.specs.Fields.Layout.{LocalTime, LocalDate, Piece, DayName, MonthName, Day, Year, PlainDate, Clock, Rfc2822Clock, Spaces}
use Rattle.gix_date.specs.Fields.Layout.{Offset, Rfc2822Offset, BeginsWith, ArePieces}
use Rattle.std.specs.Char.{is_ascii_alphabetic, is_ascii_digit}
use Rattle.git_date.proofs.Text.TokenRuns.{digit-first, letter-first}
use Rattle.git_date.specs.Rules.Offsets.{at_text}
use Rattle.git_date_laws.proofs.Agreement.Seconds.{Reads, no-fit}
use Rattle.gix_date.specs.Text.Characters.{space}
use Rattle.gix_date.specs.declared.time.Time.{Time}
use Rattle.git_date.proofs.Exact.PrintedClocks.{HasNoDigits}
use Rattle.git_date.specs.Rules.Fields.{unknown, with_date}
use Rattle.git_date.specs.Tokens.Tokens.{Token, Letters, letter_before, digit_before, tokens}
use Rattle.git_date.specs.Types.Names.{Fields, Now}
use Rattle.git_date.specs.Rules.Words.{without_ending}
use Rattle.git_date_laws.proofs.Agreement.Fields.{IsOf, AreFields, time-of, fields-of, IsSpaced, free-rest, at-most, sixty-nine}
use Rattle.git_date_laws.proofs.Agreement.Mail.{mail-clock-part, prefix-part, zone-part}
use Rattle.git_date_laws.proofs.Agreement.Parts.{all_of, gap-part, gap-first, day-part, year-part, clock-part, date-part, offset-part}
use Rattle.git_date_laws.proofs.Agreement.Parts.{letter-part, clock-first, colon-part, month-part, weekday-part}
use Rattle.git_date_laws.proofs.Agreement.Steps.{Goes}
use Rattle.std.proofs.lemmas.Bool.{and_parts}
use Rattle.std.proofs.lemmas.Int.{by_lt_z}
use Rattle.jiff_core.proofs.CalendarLemmas.{day_count-day_of_year, day_count-later_year, day_of_year_bound, days_from_civil-day_count}
use Rattle.jiff_core.specs.Calendar.{days_in_month}
use Rattle.jiff_core.proofs.SignedLemmas.{signed_arith}
use Rattle.git_date_laws.specs.Agree.{HasNoLeapSecond}

spaced-kept : (ts : List Token) → IsSpaced ts → without_ending ts ≡ ts
unfolding without_ending
spaced-kept ts s = subst (λ (x : List Token). without_ending x ≡ x) (sym s.is) refl

-- pieces with spaces behind each, before others
abbrev spaced : List Piece → List Piece → List Piece
spaced [] last = last
spaced (p ∷ ps) last = p ∷ Spaces ∷ spaced ps last

module _ (now : Now) (t : Time) (l : LocalTime) (is : IsOf l t) (f : AreFields l) (late : 1969 ≤ l.date.year) where
  -- what a piece tells of the time, and what it asks of what is known
  abbrev told : Piece → Fields → Fields
  told Day g = record g { day = Some l.date.day }
  told MonthName g = record g { month = Some l.date.month }
  told Year g = record g { year = Some l.date.year }
  told PlainDate g = with_date g l.date.year l.date.month l.date.day
  told Clock g = record g { hour = Some l.clock.hour; minute = Some l.clock.minute; second = Some l.clock.second }
  told Rfc2822Clock g = record g { hour = Some l.clock.hour; minute = Some l.clock.minute; second = Some l.clock.second }
  told p g = g

  abbrev Asks : Piece → Fields → Type 0
  Asks Day g = (g.offset ≡ None) × (g.day ≡ None)
  Asks MonthName g = g.offset ≡ None
  Asks Year g = g.offset ≡ None
  Asks PlainDate g = g ≡ unknown
  Asks Clock g = g.offset ≡ None
  Asks Rfc2822Clock g = g.offset ≡ None
  Asks p g = ⊥

  none-told : (p : Piece) (g : Fields) → Asks p g → (told p g).offset ≡ None
  none-told Day g a = a.0
  none-told MonthName g a = a
  none-told Year g a = a
  none-told PlainDate g a = ap (λ (known : Fields). known.offset) a
  none-told Clock g a = a
  none-told Rfc2822Clock g a = a
  none-told p g a = absurd a

  part : (p : Piece) (g : Fields) (M : List ℕ → Type 0) (text : List ℕ) (b : BeginsWith p l M text) → Asks p g → HasNoLeapSecond text
      → IsSpaced (tokens b.rest)
      → Goes now t (told p g) (tokens b.rest) → Goes now t g (tokens text)
  part Day g M text b a free s go = day-part now t l is f late M text g b s a.0 a.1 go
  part MonthName g M text b a free s go = month-part now t l is f late M text g b s a go
  part Year g M text b a free s go = year-part now t l is f late M text g b s a go
  part PlainDate g M text b a free s go =
      let dated = with_date unknown l.date.year l.date.month l.date.day in
      let known = subst (λ (g : Fields). Goes now t (told PlainDate g) (tokens b.rest)) a go in
      subst (λ (g : Fields). Goes now t g (tokens text)) (sym a)
      (date-part now t l is f late M text b (subst HasNoDigits (sym s.is) tt)
      (subst (Goes now t dated) (sym (spaced-kept (tokens b.rest) s)) known))
  part Clock g M text b a free s go = clock-part now t l is f late M text g b space s.more free s.is refl a go
  part Rfc2822Clock g M text b a free s go = mail-clock-part now t l is f late M text g b free s a go
  part p g M text b a free s go = absurd a

  -- what is known after all is the time
  abbrev Known : List Piece → Fields → Type 0
  Known [] g = g ≡ all_of l
  Known (p ∷ ps) g = Asks p g × Known ps (told p g)

  module _ (last : List Piece) (end : (text : List ℕ) → ArePieces last l text → Goes now t (all_of l) (tokens text)) where
    chain : (ps : List Piece) (g : Fields) (text : List ℕ) → Known ps g → ArePieces (spaced ps last) l text → HasNoLeapSecond text
        → Goes now t g (tokens text)
    chain [] g text k h free = subst (λ (g : Fields). Goes now t g (tokens text)) (sym k) (end text h)
    chain (p ∷ ps) g text k h free =
        let gap = h.more in
        let after = free-rest h.rest gap.front gap.rest (free-rest text h.front h.rest free h.whole) gap.whole in
        part p g _ text h k.0 free (gap-first now t l is f late _ h.rest gap)
        (gap-part now t l is f late _ h.rest (told p g) gap (none-told p g k.0) (chain ps (told p g) gap.rest k.1 gap.more after))

    -- after the name of a day, which may tell any month
    named : (ps : List Piece) (text : List ℕ) → ((month : Option ℕ) → Known ps (record unknown { month = month }))
        → ArePieces (DayName ∷ Spaces ∷ spaced ps last) l text
        → HasNoLeapSecond text → Goes now t unknown (tokens text)
    named ps text k h free =
        let gap = h.more in
        let s = gap-first now t l is f late _ h.rest gap in
        let after = free-rest h.rest gap.front gap.rest (free-rest text h.front h.rest free h.whole) gap.whole in
        weekday-part now t l is f late _ text h space s.more s.is
        (λ any. gap-part now t l is f late _ h.rest (record unknown { month = any }) gap refl
        (chain ps (record unknown { month = any }) gap.rest (k any) gap.more after))

  digits-end : (text : List ℕ) → ArePieces (Offset ∷ []) l text → Goes now t (all_of l) (tokens text)
  digits-end text h = offset-part now t l is f late _ text h h.more

  iso-goes : (text : List ℕ) → ArePieces iso8601_layout l text → HasNoLeapSecond text → Goes now t unknown (tokens text)
  iso-goes text h free = chain (Offset ∷ []) digits-end (PlainDate ∷ Clock ∷ []) unknown text (refl, (refl, refl)) h free

  gitoxide-goes : (text : List ℕ) → ArePieces gitoxide_layout l text → HasNoLeapSecond text → Goes now t unknown (tokens text)
  gitoxide-goes text h free =
      named (Offset ∷ []) digits-end (MonthName ∷ Day ∷ Year ∷ Clock ∷ []) text (λ any. (refl, ((refl, refl), (refl, (refl, refl))))) h free

  default-goes : (text : List ℕ) → ArePieces default_layout l text → HasNoLeapSecond text → Goes now t unknown (tokens text)
  default-goes text h free =
      named (Offset ∷ []) digits-end (MonthName ∷ Day ∷ Clock ∷ Year ∷ []) text (λ any. (refl, ((refl, refl), (refl, (refl, refl))))) h free

  mail-goes : (text : List ℕ) → ArePieces rfc2822_layout l text → HasNoLeapSecond text → Goes now t unknown (tokens text)
  mail-goes text h free =
      prefix-part now t l is f late _ text h (λ any.
      chain (Rfc2822Offset ∷ []) (λ text h. zone-part now t l is f late _ text h h.more) (Day ∷ MonthName ∷ Year ∷ Rfc2822Clock ∷ [])
      (record unknown { month = any }) h.rest
      ((refl, refl), (refl, (refl, (refl, refl)))) h.more (free-rest text h.front h.rest free h.whole))

  strict-goes : (text : List ℕ) → ArePieces iso8601_strict_layout l text → HasNoLeapSecond text → Goes now t unknown (tokens text)
  strict-goes text h free =
      let letter = h.more in
      let clock = letter.more in
      let zone = clock.more in
      let z = colon-part now t l is f late _ clock.rest zone zone.more in
      let first = clock-first now t l is f late _ letter.rest clock (subst HasNoDigits (sym z.2) tt) in
      let after = letter-part now t l is f late _ h.rest letter first.0 first.1 first.2 in
      let later = free-rest h.rest letter.front letter.rest (free-rest text h.front h.rest free h.whole) letter.whole in
      let dated = with_date unknown l.date.year l.date.month l.date.day in
      date-part now t l is f late _ text h (subst HasNoDigits (sym after.0) tt)
      (subst (Goes now t dated) (sym after.1) (clock-part now t l is f late _ letter.rest dated clock z.0 z.1 later z.2 z.3 refl z.4))

-- the year of such a date
pub late-year : (l : LocalTime) (t : Time) → IsOf l t → AreFields l → (x : List ℕ) → IsYear x l.date.year → pos 0 ≤ℤ t.seconds
    → 1969 ≤ l.date.year
late-year l t is f x h since =
    by_lt_z (pos l.date.year) (pos 1969)
    (λ lt. absurd (
    let y = pos l.date.year in
    let m = l.date.month in
    let d = l.date.day in
    let here = day_count-day_of_year y m d f.first_day in
    let fine = and_parts (nat_le 1 m && nat_le m 12 && nat_le 1 d) (nat_le d (days_in_month y m)) is.date in
    let day : d ≤ days_in_month y m = at-most d (days_in_month y m) fine.1 in
    let within = day_of_year_bound y m d
    ((omega (arith, signed_arith), omega (arith, signed_arith)), (f.first_month, f.last_month), (f.first_day, day)) in
    let civil = is.civil in
    let near = is.within in
    let hour = f.hour in
    let minute = f.minute in
    let second = f.second in
    omega (
      arith,
      signed_arith,
      here,
      within,
      day_count-later_year y (pos 1969) (omega (arith, signed_arith)) lt,
      days_from_civil-day_count y m d,
      sixty-nine,
      civil,
      near,
      hour,
      minute,
      second,
      since,
    )))
    (λ ge. omega (arith, signed_arith, ge))

-- what begins with a letter or a digit does not begin with `@`
digit-no-at : (c : ℕ) (ts : List Token) → at_text (digit_before c ts) ≡ None
unfolding at_text
digit-no-at c (Letters run ∷ more) = refl
digit-no-at c ts = refl

letter-no-at : (c : ℕ) (ts : List Token) → at_text (letter_before c ts) ≡ None
unfolding at_text
letter-no-at c (Letters run ∷ more) = refl
letter-no-at c ts = refl

pub number-no-at : (text : List ℕ) → Begins is_ascii_digit text → at_text (tokens text) ≡ None
number-no-at [] h = absurd h
number-no-at (c ∷ text) h = ap at_text (digit-first c text h) ∙ digit-no-at c (tokens text)

word-no-at : (text : List ℕ) → Begins is_ascii_alphabetic text → at_text (tokens text) ≡ None
word-no-at [] h = absurd h
word-no-at (c ∷ text) h = ap at_text (letter-first c text h) ∙ letter-no-at c (tokens text)

date-no-at : (text front rest : List ℕ) (date : LocalDate) → text ≡ front ++ rest → IsPlainDate front date → at_text (tokens text) ≡ None
date-no-at text front rest date e k = grind (arith, number-no-at, begins-append, year-begins)

pub name-no-at : (text front rest : List ℕ) → text ≡ front ++ rest → AreThreeLetters front → at_text (tokens text) ≡ None
name-no-at text front rest e h = grind (arith, word-no-at, begins-append, name-begins)

mail-no-at : (l : LocalTime) (text : List ℕ) → ArePieces rfc2822_layout l text → at_text (tokens text) ≡ None
mail-no-at l text h = grind (arith, number-no-at, begins-append, field-begins, name-no-at, append_assoc)

-- a layout whose texts are read so, with a year in them
pub record IsRead (layout : List Piece) : Type 0 where
  goes : (now : Now) (t : Time) (l : LocalTime) → IsOf l t → AreFields l → 1969 ≤ l.date.year → (text : List ℕ) → ArePieces layout l text
      → HasNoLeapSecond text → Goes now t unknown (tokens text)
  year : (l : LocalTime) (text : List ℕ) → ArePieces layout l text → (x : List ℕ) × IsYear x l.date.year
  no_at : (l : LocalTime) (text : List ℕ) → ArePieces layout l text → at_text (tokens text) ≡ None

pub iso-read : IsRead iso8601_layout
iso-read = record {
  goes = λ now t l is f late. iso-goes now t l is f late;
  year = λ l text h. (_, h.is.is_year);
  no_at =
      λ l text h. date-no-at text _ _ l.date h.whole h.is;
}

pub strict-read : IsRead iso8601_strict_layout
strict-read = record {
  goes = λ now t l is f late. strict-goes now t l is f late;
  year = λ l text h. (_, h.is.is_year);
  no_at =
      λ l text h. date-no-at text _ _ l.date h.whole h.is;
}

pub gitoxide-read : IsRead gitoxide_layout
gitoxide-read = record {
  goes = λ now t l is f late. gitoxide-goes now t l is f late;
  year = λ l text h. (_, h.more.more.more.more.more.more.is);
  no_at = λ l text h. name-no-at text _ _ h.whole h.is.0;
}

pub default-read : IsRead default_layout
default-read = record {
  goes = λ now t l is f late. default-goes now t l is f late;
  year = λ l text h. (_, h.more.more.more.more.more.more.more.more.is);
  no_at = λ l text h. name-no-at text _ _ h.whole h.is.0;
}

pub mail-read : IsRead rfc2822_layout
mail-read = record
    { goes = λ now t l is f late. mail-goes now t l is f late; year = λ l text h. (_, h.more.more.more.more.more.is); no_at = mail-no-at }

-- so a time of theirs from 1970 on is read
pub date-reads : (layout : List Piece) → IsRead layout → (now : Now) (t : Time) (text : List ℕ) → pos 0 ≤ℤ t.seconds → HasNoLeapSecond text
    → IsMeaning layout time_answer text (Absolute t) → Reads now t text
date-reads layout r now t text since free m =
    let is = time-of m.time t m.comes in
    let f = fields-of m.time is.date is.clock in
    let y = r.year m.time text m.are in (
      r.goes now t m.time is f (late-year m.time t is f y.0 y.1 since) text m.are free,
      no-fit t (at_text (tokens text)) (r.no_at m.time text m.are),
    )
