-- In every zone now is now, and so many seconds ago are so many seconds.
use Rattle.std.proofs.Common.{◌≡◌, ◌∙◌, ◌*◌, ℕ, ℤ, pos, ◌+ℤ◌, ◌-ℤ◌, ◌≤ℤ◌, Bool, true, false, cond, List, length, Option, Some, None}
use Rattle.std.proofs.Common.{option_and_then, option_map, Result, Ok, Err, refl, sym, ap, subst, arith}
use Rattle.std.specs.Prelude.{codes}
use Rattle.jiff.specs.Types.{TimeZone}
use Rattle.jiff.specs.Words.{nanos_of_seconds, offset_at}
use Rattle.jiff.specs.declared.zoned.Zoned.{Zoned}
use Rattle.jiff_core.proofs.SignedLemmas.{signed_arith}
use Rattle.gix_date.proofs.Fields.Instants.{instant_holds, instant_from, z_holds}
use Rattle.gix_date.specs.Fields.Zoned.{is_instant}
use Rattle.gix_date.specs.Relative.Steps.{zone_of}
use Rattle.gix_date.specs.declared.time.Time.{Time}
use Rattle.git_date.specs.Approximate.Reading.{ApproximateOutcome, answer, answer_of, guess_by, string_guess, draft_of}
use Rattle.git_date.specs.Approximate.Clocks.{clock_shown_at, filled_seconds}
use Rattle.git_date.specs.Approximate.Drafts.{clock_fields, all_fields, first_draft, settle, with_shown, last_of}
use Rattle.git_date.specs.Approximate.Rules.{understood, approximate_letters_rule, meaning_rule}
use Rattle.git_date.specs.Approximate.Words.{moment_named, count_named, unit_named, meaning_of}
use Rattle.git_date.specs.Approximate.Zones.{clock_at, shown_in, found_by, found_at, filled_instant, time_of, filled_time, fill}
use Rattle.git_date.specs.Exact.Computing.{computing}
use Rattle.git_date.specs.Rules.Dates.{now_of}
use Rattle.git_date.specs.Exact.Outcome.{date_of}
use Rattle.git_date.specs.Exact.Reading.{string_said, said_by}
use Rattle.git_date.specs.Tokens.Strings.{string_len}
use Rattle.git_date.specs.Tokens.Tokens.{walked}
use Rattle.git_date.specs.Exact.Zones.{States, state_there, states_of, found_offset}
use Rattle.git_date.specs.Rules.Fields.{is_leap}
use Rattle.git_date.specs.Types.Names.{Draft, Fault, Fields, Found, LastShown, Now, Today, ZoneClock, ZoneState}
use Rattle.git_date.specs.declared.approximate.Approximate.{Approximate}
use Rattle.git_date.specs.declared.error.DateError.{DateError}
use Rattle.git_date.specs.declared.error.DateError.TheVariants.{Unreadable, Range}
use Rattle.git_date.proofs.Rules.ClocksBack.{IsClockBack, filled-back, no-leap, shown-back}
use Rattle.git_date.proofs.Text.StringEnds.{whole-said, whole-guess}
use Rattle.git_date.proofs.Exact.Searches.{found-at-guess}
use Rattle.git_date.proofs.Exact.ZoneOffsets.{offset-near}
use Rattle.git_date_laws.proofs.Back.ExactBack.{Reaches, clock_there, filled-clock, moves, answered, counted-in, up-to-nul}
use Rattle.git_date_laws.proofs.Whole.Guesses.{guessed, moment-instant}
use Rattle.git_date.specs.Approximate.Computing.{approximating}
use Rattle.git_date.specs.Exact.Computing.{computing}
use Rattle.git_date_laws.specs.ApproximateLaws.{IsFoundNow, IsBackInEveryZone, IsNow, IsNowIfFound, moment_itself}
use Rattle.git_date_laws.specs.Laws.{IsFoundAgain}
use Rattle.gix_date.specs.Fields.Layout.{LocalTime}

-- `0 seconds ago` says no time, and its 0 counts nothing
no-date : (this : Now) → string_said this (codes "0 seconds ago") ≡ Err Unreadable
unfolding computing
no-date this = refl

no-count : (zone : States) (today : Today)
    → draft_of zone today (codes "0 seconds ago")
    ≡ Ok (record {
      fields = clock_fields today.shown.clock;
      last = last_of (pos 0) today.shown;
      waiting = None;
      understood = true;
      ignored =
          Some 13;
    })
unfolding computing approximating
no-count zone today = refl

module _ (tz : TimeZone) where
  abbrev there : ℤ → ZoneState
  there s = state_there tz (nanos_of_seconds s)

  abbrev clock : ℤ → ℤ
  clock s = s +ℤ (there s).offset

  says : (s : ℤ) → is_instant s ≡ true → states_of tz s ≡ Some (there s)
  says s e = ap (λ (b : Bool). cond b (Some (there s)) None) e

  -- what is found of an instant's own clock is asked by the flag there
  found-own : (guess s : ℤ) → is_instant s ≡ true → IsFoundAgain (states_of tz) guess (clock s) (there s).offset
      → found_offset (states_of tz) (record { clock = clock s; daylight = Some (there s).daylight }) guess ≡ Some (there s).offset
  found-own guess s e again =
      let same : clock s -ℤ (there s).offset ≡ s = omega (arith, signed_arith) in
      let here : states_of tz (clock s -ℤ (there s).offset) ≡ Some (there s) = ap (states_of tz) same ∙ says s e in
      ap (λ (found : Option ZoneState).
      found_offset (states_of tz) (record { clock = clock s; daylight = option_map (λ (x : ZoneState). x.daylight) found }) guess)
      (sym here)
      ∙ again

  -- a clock is found at its own offset
  found-there : (s : ℤ) → is_instant s ≡ true → is_instant (clock s) ≡ true
      → IsFoundAgain (states_of tz) (there s).offset (clock s) (there s).offset
  found-there s e instant =
      let same : clock s -ℤ (there s).offset ≡ s = omega (arith, signed_arith) in
      let here : states_of tz (clock s -ℤ (there s).offset) ≡ Some (there s) = ap (states_of tz) same ∙ says s e in
      ap (λ (found : Option ZoneState). found_offset (states_of tz)
      (record { clock = clock s; daylight = option_map (λ (x : ZoneState). x.daylight) found }) (there s).offset) here
      ∙ found-at-guess (states_of tz) (record { clock = clock s; daylight = Some (there s).daylight }) (there s) (sym here) refl instant

  found-at-own : (last : LastShown) (s : ℤ) → is_instant s ≡ true → last.daylight ≡ (there s).daylight
      → IsFoundAgain (states_of tz) last.guess (clock s) (there s).offset
      → found_at (states_of tz) last false (clock s) ≡ Some (record { instant = s; guess = (there s).offset })
  unfolding found_at
  found-at-own last s e flag again =
      let same : clock s -ℤ (there s).offset ≡ s = omega (arith, signed_arith) in
      ap (λ (flag : Bool).
      option_map (found_by (clock s)) (found_offset (states_of tz) (record { clock = clock s; daylight = Some flag }) last.guess)) flag
      ∙ ap (option_map (found_by (clock s))) (found-own last.guess s e again)
      ∙ ap (λ (n : ℤ). let found : Found = record { instant = n; guess = (there s).offset } in Some found) same

  filled-own : (today : LocalTime) (last : LastShown) (f : Fields) (s : ℤ) → is_instant s ≡ true → is_leap f ≡ false
      → filled_seconds today f ≡ Some (clock s)
      → last.daylight ≡ (there s).daylight → IsFoundAgain (states_of tz) last.guess (clock s) (there s).offset
      → filled_instant (states_of tz) today last f ≡ Some (record { instant = s; guess = (there s).offset })
  unfolding filled_instant
  filled-own today last f s e leap is flag again =
      ap (option_and_then (found_at (states_of tz) last (is_leap f))) is
      ∙ ap (λ (b : Bool). found_at (states_of tz) last b (clock s)) leap
      ∙ found-at-own last s e flag again

  time-own : (today : LocalTime) (last : LastShown) (f : Fields) (s : ℤ) → is_instant s ≡ true
      → filled_instant (states_of tz) today last f ≡ Some (record { instant = s; guess = (there s).offset })
      → filled_time (states_of tz) today last f ≡ Some (record { seconds = s; offset = (there s).offset })
  unfolding filled_time
  time-own today last f s e is =
      ap (option_and_then (λ (found : Found). option_map (time_of found.instant) (states_of tz found.instant))) is
      ∙ ap (option_map (time_of s)) (says s e)

  shown-own : (s : ℤ) → is_instant s ≡ true → IsClockBack (clock s) → shown_in (states_of tz) s ≡ Some (clock_there (there s) s)
  unfolding shown_in
  shown-own s e h =
      ap (option_and_then (λ (here : ZoneState). option_map (clock_at here) (clock_shown_at (s +ℤ here.offset)))) (says s e)
      ∙ ap (option_map (clock_at (there s))) (shown-back (clock s) h)

  -- what is found is an instant's clock
  clock-instant : (guess s : ℤ) → IsFoundAgain (states_of tz) guess (clock s) (there s).offset → is_instant (clock s) ≡ true
  unfolding found_offset
  clock-instant guess s again = by (is_instant (clock s)) _ refl again
    where
      by : (b : Bool) (found : Option ℤ) → is_instant (clock s) ≡ b → cond b found None ≡ Some (there s).offset
          → is_instant (clock s) ≡ true
      by true found is e = is
      by false found is e = absurd cc

  clock-back : (s : ℤ) → pos 0 ≤ℤ s → is_instant (clock s) ≡ true → IsClockBack (clock s)
  clock-back s since instant =
      let near = offset-near tz (nanos_of_seconds s) in
      let within = instant_holds (clock s) instant in
      (omega (arith, signed_arith, since, near), within.1)

  pub reaches-in : (now : ℤ) (back : ℕ) → is_instant now ≡ true → pos 0 ≤ℤ now
      → IsFoundAgain (states_of tz) (pos 0) (clock now) (there now).offset
      → pos 0 ≤ℤ (now -ℤ pos back)
      → IsFoundAgain (states_of tz) (there now).offset (clock (now -ℤ pos back)) (there (now -ℤ pos back)).offset
      → Reaches (states_of tz) now back (there now) (there (now -ℤ pos back))
  reaches-in now back instant since again then_since then_again =
      let then = now -ℤ pos back in
      let within = instant_holds now instant in
      let then_instant : is_instant then ≡ true =
      instant_from then (omega (arith, signed_arith, then_since), omega (arith, signed_arith, within)) in
      let here = clock-back now since (clock-instant (pos 0) now again) in
      let told = clock-back then then_since (clock-instant (there now).offset then then_again) in
      let today = (clock_there (there now) now).clock in
      let fields = all_fields (clock_there (there then) then).clock in
      let last = last_of (there now).offset (clock_there (there then) then) in
      record {
        now_shown = shown-own now instant here;
        told_shown = shown-own then then_instant told;
        filled_now = filled-own today (last_of (pos 0) (clock_there (there now) now)) (clock_fields today) now instant (no-leap (clock now))
            (filled-clock (there now) (clock now) here) refl again;
        filled_told = time-own today last fields then then_instant
            (filled-own today last fields then then_instant (no-leap (clock then)) (filled-back (clock then) today told) refl then_again);
        since_1970 = then_since;
      }

pub back_in_every_zone : (moment : Zoned) (text : List ℕ) → IsBackInEveryZone moment text
unfolding IsBackInEveryZone
back_in_every_zone moment text count size result says reached answers =
    let tz = zone_of moment in
    let this = now_of moment in
    let here = reached.now in
    let then = reached.then in
    let back = counted-in (states_of tz) _ _ this text count size says reached.fits
    (reaches-in tz this.seconds (count * size) (moment-instant moment) here.0 here.1 then.0 then.1) in
    let both = up-to-nul (states_of tz) this text _ back in
    let unread : Err Unreadable ≡ date_of tz (said_by this text) = ap (date_of tz) (sym both.0) in
    answers ∙ guessed moment text unread ∙ both.1

-- `now` fills in today's clock, and goes no second back

now-undated : (this : Now) → string_said this (codes "now") ≡ Err Unreadable
unfolding computing
now-undated this = refl

now-drafted : (zone : States) (today : Today) (moved : Draft) → fill zone today.shown.clock (first_draft today.shown) 0 3 ≡ Ok moved
    → draft_of zone today (codes "now") ≡ Ok (understood moved)
unfolding computing walked draft_of approximate_letters_rule meaning_rule moment_named count_named unit_named meaning_of
now-drafted zone today moved e = rw e refl

module _ (moment : Zoned) (found : IsFoundNow moment) where
  abbrev this : Now
  this = now_of moment

  abbrev now : ℤ
  now = this.seconds

  abbrev tz : TimeZone
  tz = zone_of moment

  abbrev zone : States
  zone = states_of tz

  abbrev from : ZoneState
  from = there tz now

  abbrev then : ZoneState
  then = there tz (now -ℤ pos 0)

  same : now -ℤ pos 0 ≡ now
  same = omega (arith, signed_arith)

  -- what is found is found again from there
  again : IsFoundAgain zone from.offset (clock tz now) from.offset
  again = found-there tz now (moment-instant moment) (clock-instant tz (pos 0) now found.1)

  pub now-reached : Reaches zone now 0 from then
  now-reached =
      let since = found.0 in
      reaches-in tz now 0 (moment-instant moment) found.0 found.1 (omega (arith, signed_arith, since))
      (subst (λ (n : ℤ). IsFoundAgain zone from.offset (clock tz n) (there tz n).offset) (sym same) again)

  abbrev here : Today
  here = record { now = this; shown = clock_there from now }

  abbrev itself : ℤ → Option ℕ → Result Approximate DateError
  itself n ignored = Ok (record {
    time = record { seconds = n; offset = offset_at tz (nanos_of_seconds n) };
    understood = true;
    ignored = ignored;
  })

  now-guessed : string_guess zone this (codes "now") ≡ Ok (moment_itself moment None)
  unfolding string_guess
  now-guessed =
      let d = first_draft here.shown in
      let moved = moves zone now 0 from then now-reached d 3 refl refl in
      ap (λ (s : Option ZoneClock). guess_by zone this (codes "now") s) now-reached.now_shown
      ∙ ap (λ (d : Result Draft Fault). answer_of zone here (codes "now") d)
      (now-drafted zone here (with_shown d from.offset (clock_there then (now -ℤ pos 0))) moved)
      ∙ answered zone now 0 from then now-reached (codes "now") ∙ ap (λ (n : ℤ). itself n None) same

  -- the moment's own clock is filled in with it
  pub now-timed : filled_time zone here.shown.clock (last_of (pos 0) here.shown) (clock_fields here.shown.clock)
      ≡ Some (record { seconds = now; offset = from.offset })
  now-timed = time-own tz here.shown.clock (last_of (pos 0) here.shown) (clock_fields here.shown.clock) now (moment-instant moment)
      now-reached.filled_now

  zero-answered : answer_of zone here (codes "0 seconds ago") (draft_of zone here (codes "0 seconds ago"))
      ≡ Ok (moment_itself moment (Some 0))
  unfolding settle
  zero-answered =
      ap (λ (d : Result Draft Fault). answer_of zone here (codes "0 seconds ago") d) (no-count zone here)
      ∙ ap (λ (t : Option Time). answer (codes "0 seconds ago")
      (record {
        fields = clock_fields here.shown.clock;
        last = last_of (pos 0) here.shown;
        waiting = None;
        understood = true;
        ignored =
            Some 13;
      }) t) now-timed
      ∙ ap (λ (b : Bool). cond b (itself now (Some 0)) (Err Range)) (z_holds (pos 0) now found.0)

  zero-guessed : string_guess zone this (codes "0 seconds ago") ≡ Ok (moment_itself moment (Some 0))
  unfolding string_guess
  zero-guessed = ap (λ (s : Option ZoneClock). guess_by zone this (codes "0 seconds ago") s) now-reached.now_shown ∙ zero-answered

  itself-answered : (text : List ℕ) (result : Result Approximate DateError) (ignored : Option ℕ) → string_len text ≡ length text
      → string_said this text ≡ Err Unreadable → string_guess zone this text ≡ Ok (moment_itself moment ignored)
      → ApproximateOutcome moment text result
      → result ≡ Ok (moment_itself moment ignored)
  itself-answered text result ignored whole undated is answers =
      let unread : Err Unreadable ≡ date_of tz (said_by this text) = ap (date_of tz) (sym (whole-said this text whole ∙ undated)) in
      answers ∙ guessed moment text unread ∙ whole-guess zone this text whole ∙ is

  pub is-now : IsNow moment
  is-now = record {
    now = λ result answers. itself-answered (codes "now") result None refl (now-undated this) now-guessed answers;
    zero = λ result answers. itself-answered (codes "0 seconds ago") result (Some 0) refl (no-date this) zero-guessed answers;
  }

pub now-in-every-zone : (moment : Zoned) → IsNowIfFound moment
now-in-every-zone moment found = is-now moment found
