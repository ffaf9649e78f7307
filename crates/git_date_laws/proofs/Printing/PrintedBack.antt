-- The time that a printed clock says is the time that was printed.
use Rattle.std.proofs.lemmas.Grind.{common_steps}
use Rattle.std.proofs.Common.{◌≡◌, ◌∙◌, ◌≤◌, ◌≤ℤ◌, ◌<ℤ◌, ◌+◌, ◌*◌, ◌%◌, ℕ, ℤ, pos, negsuc, neg_ℤ, ◌+ℤ◌, ◌*ℤ◌, unsigned_abs, Bool, true}
use Rattle.std.proofs.Common.{false, cond, List, refl, ap, sym, subst, arith, Some, None, Ok, Err, [], ◌∷◌, ◌++◌, append_assoc}
use Rattle.std.specs.Prelude.{◌&&◌, int_lt}
use Rattle.std.specs.Int.Signed.{le_z}
use Rattle.std.proofs.lemmas.Bool.Decides.{nat_tests}
use Rattle.std.proofs.lemmas.Option.{cond_some as guard}
use Rattle.jiff.specs.Types.{PlainZoned, TimeZone}
use Rattle.jiff_core.proofs.CalendarLemmas.{days_in_month_bounds}
use Rattle.jiff_core.proofs.SignedLemmas.{signed_arith, one_part}
use Rattle.jiff_core.specs.Calendar.{day_count, days_of_years, days_of_months}
use Rattle.jiff_core.specs.Date.{epoch_day}
use Rattle.jiff_core.specs.declared.civil.date.Date.{Date}
use Rattle.gix_date.proofs.Fields.Instants.{z_holds, instant_from}
use Rattle.gix_date.proofs.Printing.LocalClocks.{Shows, clock_is_shown, local-is, four-digits-from, shown-by}
use Rattle.gix_date.proofs.Printing.ReadBack.{local-instant, weekday-small}
use Rattle.gix_date.specs.Fields.Civil.{civil_seconds, civil_instant, is_date, is_clock}
use Rattle.gix_date.specs.Fields.ClockNumbers.{hours_in, minutes_in}
use Rattle.gix_date.specs.Fields.Layout.{LocalTime, LocalDate, LocalClock}
use Rattle.gix_date.specs.Printing.LocalClocks.{clock_of}
use Rattle.gix_date.specs.Printing.NamedTexts.{local_time, git_rfc2822_text, iso8601_text, iso8601_strict_text, default_text}
use Rattle.gix_date.specs.Fields.Zoned.{is_instant}
use Rattle.gix_date.specs.declared.time.Time.{Time}
use Rattle.gix_date.specs.Text.Characters.{comma, minus, space}
use Rattle.gix_date.specs.Text.Names.{day_name, month_name}
use Rattle.gix_date.specs.Fields.FieldTexts.{four_digits, clock_text}
use Rattle.gix_date.specs.Fields.Offsets.{compact_offset_text}
use Rattle.std.specs.Fmt.{decimal}
use Rattle.git_date.specs.Rules.Fields.{is_leap}
use Rattle.git_date.specs.Rules.Dates.{is_month, month_start, exact_seconds}
use Rattle.git_date.specs.Exact.Outcome.{instant_seconds, date_at, date_of}
use Rattle.git_date_laws.specs.Texts.Printed.{IsGitTime, IsReadBack, AreReadBack}
use Rattle.git_date.specs.Exact.Reading.{fields_said, said_by}
use Rattle.git_date.specs.Show.Clocks.{time_at, whole_minutes, with_known_offset, zone_clock}
use Rattle.git_date.specs.Types.Names.{Now}
use Rattle.git_date.specs.declared.error.DateError.TheVariants as error
use Rattle.git_date.specs.Types.Names.{Said}
use Rattle.git_date.proofs.Rules.ClocksBack.{before-year, later-day}
use Rattle.git_date.proofs.Exact.PrintedClocks.{IsGitClock, at, fields_of, hours_of, minutes_of, is_behind, signed, offset_in_minutes}
use Rattle.git_date.proofs.Exact.PrintedClocks.{IsDayText, date-mark}
use Rattle.git_date.proofs.Exact.PrintedReads.{minutes-back, iso-reads, strict-reads, mail-reads, default-reads, bare-day-of}

-- a mail's date, with its comma behind the name
abbrev after_comma : LocalTime → List ℕ → List ℕ
after_comma l day =
    day ++ (space ∷ (month_name l.date.month
    ++ (space ∷ (four_digits l.date.year ++ (space ∷ (clock_text l.clock ++ (space ∷ compact_offset_text l.offset)))))))

abbrev named_mail : List ℕ → LocalTime → List ℕ
named_mail day l = (day_name l.weekday ++ (comma ∷ (space ∷ []))) ++ after_comma l day

mail-back : (now : Now) (day : List ℕ) (l : LocalTime) → IsGitClock l → IsDayText l.date.day day
    → said_by now (named_mail day l) ≡ fields_said (named_mail day l) (Ok (at (fields_of l)))
mail-back now day l h is = grind (arith, fields_of, append_assoc, mail-reads)

-- the seconds that such a clock has counted
abbrev clock_of_utc : LocalTime → ℤ
clock_of_utc t = civil_seconds t.date t.clock (pos 0)

abbrev said_of : LocalTime → Said
said_of t =
    record { seconds = clock_of_utc t; offset = Some (offset_in_minutes t); epoch = false; leap = is_leap (fields_of t); ignored = None }

month-known : (t : LocalTime) → IsGitClock t → is_month t.date.year t.date.month ≡ true
month-known t h = let a = h.first_year in let b = h.last_year in let c = h.first_month in let d = h.last_month in grind (arith, nat_tests)

exact : (t : LocalTime) → IsGitClock t → exact_seconds (fields_of t) ≡ Some (clock_of_utc t)
unfolding exact_seconds month_start
exact t h = grind (arith, nat_tests, common_steps, month-known, later-day, signed_arith)

fields-are : (text : List ℕ) (t : LocalTime) → IsGitClock t → is_instant (clock_of_utc t) ≡ true
    → fields_said text (Ok (at (fields_of t))) ≡ Ok (said_of t)
unfolding fields_said
fields-are text t h instant = grind (arith, fields_of, exact)

one-behind : (o : ℤ) (b : Bool) (k : ℕ) → pos 60 *ℤ signed b k ≡ o → b ≡ true → k ≡ 1 → o ≡ neg_ℤ (pos 60)
one-behind o true k e t one = omega (arith, signed_arith)
one-behind o false k e t one = absurd cc

-- the instant
seconds-from : (d : LocalDate) (c : LocalClock) (o s : ℤ) → civil_instant d c o ≡ Some s → civil_seconds d c o ≡ s
unfolding civil_instant
seconds-from d c o s e = (guard (is_date d && is_clock c && is_instant (civil_seconds d c o)) (civil_seconds d c o) s e).1

twenty-one : day_count (pos 2100) 1 1 ≡ 4_419_435
unfolding day_count days_of_years days_of_months
twenty-one = refl

before-2100 : (date : Date) → date.year ≤ℤ pos 2099 → epoch_day date <ℤ pos 47_482
before-2100 date h =
    let before = before-year date 2100 4_419_435 (omega arith) twenty-one (omega (arith, signed_arith, h)) in
    omega (arith, signed_arith, before)

-- what the clock of such a time shows
module _ (t : Time) (h : IsGitTime t) (z : PlainZoned) (shows : Shows z t) where
  shown : local_time z ≡ clock_of t
  shown = clock_is_shown z t shows

  first : 1970 ≤ (local_time z).date.year
  first = subst (λ (l : LocalTime). 1970 ≤ l.date.year) (sym shown) h.first

  last : (local_time z).date.year ≤ 2099
  last = subst (λ (l : LocalTime). l.date.year ≤ 2099) (sym shown) h.last

  back : pos 60 *ℤ offset_in_minutes (local_time z) ≡ t.offset
  back = subst (λ (o : ℤ). pos 60 *ℤ signed (int_lt o (pos 0)) (60 * hours_in (unsigned_abs o) + minutes_in (unsigned_abs o)) ≡ t.offset)
      (sym shows.offset_is) (minutes-back t.offset h.round_trips.four_digits.minutes)

  within : unsigned_abs z.offset.seconds ≤ 86_340
  within = subst (λ (o : ℤ). unsigned_abs o ≤ 86_340) (sym shows.offset_is) h.round_trips.within

  is-clock : IsGitClock (local_time z)
  is-clock =
      let long = days_in_month_bounds z.datetime.date.year z.datetime.date.month in
      record {
        weekday = weekday-small z.datetime.date;
        first_year = first;
        last_year = last;
        first_month = z.datetime.date.month_in.0;
        last_month = z.datetime.date.month_in.1;
        first_day = z.datetime.date.day_in.0;
        last_day = omega (arith, z.datetime.date.day_in, long);
        hour = omega (arith, z.datetime.time.hour_in);
        minute = omega (arith, z.datetime.time.minute_in);
        second = omega (arith, z.datetime.time.second_in);
        hours = omega (arith, within);
        minutes = omega arith;
        known = λ behind one. h.known
            (one-behind t.offset (is_behind (local_time z)) (60 * hours_of (local_time z) + minutes_of (local_time z)) back behind one);
      }

  civil : civil_seconds (local_time z).date (local_time z).clock t.offset ≡ t.seconds
  civil =
      seconds-from (local_time z).date (local_time z).clock t.offset t.seconds
      (subst (λ (o : ℤ). civil_instant (local_time z).date (local_time z).clock o ≡ Some t.seconds) shows.offset_is
      (local-instant z t.seconds (four-digits-from z t shows h.round_trips.four_digits) shows.instant))

  counted : clock_of_utc (local_time z) ≡ t.seconds +ℤ t.offset
  counted = let is = civil in omega (arith, signed_arith, is)

  year-is : z.datetime.date.year ≤ℤ pos 2099
  year-is = let up = last in let some = one_part z.datetime.date.year in omega (arith, signed_arith, up, some)

  instant : is_instant (clock_of_utc (local_time z)) ≡ true
  instant =
      let day = before-2100 z.datetime.date year-is in
      let local = local-is z t shows in
      let since = h.since_1970 in
      let near = h.round_trips.within in
      let is = counted in
      instant_from (clock_of_utc (local_time z))
      (omega (arith, signed_arith, day, local, since, near, is), omega (arith, signed_arith, day, local, since, near, is))

  seconds_back : instant_seconds (said_of (local_time z)) (offset_in_minutes (local_time z)) ≡ t.seconds
  seconds_back = let is = counted in let minutes = back in omega (arith, signed_arith, is, minutes)

  time-back : date_at (said_of (local_time z)) (offset_in_minutes (local_time z))
      ≡ Ok (record { time = t; has_offset = true; ignored = None })
  unfolding date_at
  time-back =
      ap (λ (s : ℤ). cond (le_z (pos 0) s) (Ok (record
      { time = record { seconds = s; offset = pos 60 *ℤ offset_in_minutes (local_time z) }; has_offset = true; ignored = None })) (Err
      error.Range)) seconds_back
      ∙ ap (λ (o : ℤ). cond (le_z (pos 0) t.seconds)
      (Ok (record { time = record { seconds = t.seconds; offset = o }; has_offset = true; ignored = None })) (Err error.Range)) back
      ∙ ap (λ (b : Bool). cond b (Ok (record { time = t; has_offset = true; ignored = None })) (Err error.Range))
      (z_holds (pos 0) t.seconds h.since_1970)

  back-by : (now : Now) (text : LocalTime → List ℕ)
      → ((l : LocalTime) → IsGitClock l → said_by now (text l) ≡ fields_said (text l) (Ok (at (fields_of l)))) → IsReadBack now t text
  back-by now text reads tz =
      let said = reads (local_time z) is-clock ∙ fields-are (text (local_time z)) (local_time z) is-clock instant in
      let read : said_by now (text (clock_of t)) ≡ Ok (said_of (local_time z)) = ap (λ (l : LocalTime). said_by now (text l)) (sym shown)
      ∙ said in
      ap (date_of tz) read ∙ time-back

  all-back : (now : Now) → AreReadBack now t
  all-back now = record {
    iso8601 = back-by now iso8601_text (iso-reads minus (date-mark minus refl) now);
    iso8601_strict = back-by now iso8601_strict_text (strict-reads minus (date-mark minus refl) now);
    git_rfc2822 = back-by now git_rfc2822_text (λ l h. mail-back now (decimal l.date.day) l h (bare-day-of l h));
    default = back-by now default_text (λ l h. default-reads (decimal l.date.day) now l h (bare-day-of l h));
  }

pub read-back : (now : Now) (t : Time) → IsGitTime t → AreReadBack now t
read-back now t h = let found = shown-by t h.round_trips.converts in all-back t h found.0 found.1 now

-- what a zone's clock shows of such a time, with its whole offset
known-minutes : (o : ℤ) → unsigned_abs o % 60 ≡ 0 → whole_minutes o ≡ o
known-minutes (pos n) h = omega (arith, signed_arith, h)
known-minutes (negsuc n) h = omega (arith, signed_arith, h)

known-clock : (t : Time) → IsGitTime t → with_known_offset (clock_of t) ≡ clock_of t
unfolding clock_of
known-clock t h = grind (arith, nat_tests, known-minutes)

pub zone-is : (zone : TimeZone) (s : ℤ) (clock : LocalTime) → IsGitTime (time_at zone s) → zone_clock zone s ≡ Some clock
    → clock ≡ clock_of (time_at zone s)
unfolding zone_clock
zone-is zone s clock h e = grind (arith, known-clock)
