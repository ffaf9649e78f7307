-- Where nothing is understood, the draft is today's clock, and the answer the moment.
use Rattle.std.proofs.Common.{arith}
use Rattle.std.proofs.Common.{◌≡◌, ◌∙◌, ℕ, zero, suc, pos, Bool, true, false, cond, List, [], ◌∷◌, Option, Some, None, Result, Ok, Err}
use Rattle.std.proofs.Common.{refl, sym, ap, ap₂, subst}
use Rattle.std.specs.Prelude.{◌||◌, ◌==◌}
use Rattle.jiff.specs.Types.{TimeZone}
use Rattle.jiff.specs.Words.{nanos_of_seconds}
use Rattle.jiff.specs.declared.zoned.Zoned.{Zoned}
use Rattle.gix_date.specs.Relative.Steps.{zone_of}
use Rattle.gix_date.specs.declared.time.Time.{Time}
use Rattle.git_date.specs.Approximate.Reading.{Read, approximate_steps, draft_of, answer, answer_of, answer_up_to, guess_by, string_guess}
use Rattle.git_date.specs.Approximate.Reading.{guess, is_unreadable, exact_or_guess}
use Rattle.git_date.specs.Approximate.Drafts.{clock_fields, first_draft, ignore, with_number, settle_number, settle, last_of}
use Rattle.git_date.specs.Approximate.Drafts.{without_number}
use Rattle.git_date.specs.Approximate.Rules.{Ruled, understood, read_word, word_by, are_digits_next, approximate_letters_rule, is_padded}
use Rattle.git_date.specs.Approximate.Rules.{number_waits, group_or_number, approximate_digits_rule}
use Rattle.git_date.specs.Approximate.Words.{meaning_of}
use Rattle.git_date.specs.Approximate.Zones.{filled_time}
use Rattle.git_date.specs.Exact.Zones.{States, state_there, states_of}
use Rattle.git_date.specs.Rules.Dates.{now_of}
use Rattle.git_date.specs.Rules.Digits.{group_said}
use Rattle.git_date.specs.Tokens.Numbers.{number, is_too_large}
use Rattle.git_date.specs.Exact.Outcome.{date_of}
use Rattle.git_date.specs.Exact.Reading.{ended, said_by}
use Rattle.git_date.specs.Tokens.Strings.{before_nul, nul_place}
use Rattle.git_date.specs.Tokens.Tokens.{Token, Letters, Digits, Mark, tokens, bytes_left, walked}
use Rattle.git_date.specs.Rules.Words.{is_filler, without_ending}
use Rattle.git_date.specs.Types.FaultCases.{NumberTooLarge}
use Rattle.git_date.specs.Types.Names.{Draft, Fault, Fields, Now, Number, Today, LastShown, ZoneClock, ZoneState}
use Rattle.git_date.specs.declared.approximate.Approximate.{Approximate}
use Rattle.git_date.specs.declared.reader.ExactDate.{ExactDate}
use Rattle.git_date.specs.declared.error.DateError.{DateError}
use Rattle.git_date_laws.proofs.Alike.Cuts.{same-ok}
use Rattle.git_date_laws.proofs.Whole.EveryZone.{now-reached, now-timed}
use Rattle.git_date_laws.proofs.Back.ExactBack.{clock_there}
use Rattle.git_date_laws.specs.ApproximateLaws.{IsFoundNow, IsMomentUnlessUnderstood}
use Rattle.git_date.specs.Tokens.Steps.{and_then}
use Rattle.std.specs.Option.{option_map_or}

not-both : (b : Bool) → b ≡ true → b ≡ false → ⊥
not-both true e f = absurd cc
not-both false e f = absurd cc

module _ (zone : States) (today : Today) where
  -- the draft is the first, but for what is ignored, or something was understood
  abbrev Idle : Draft → Type 0
  Idle d = d.understood ≡ false → record d { ignored = None } ≡ first_draft today.shown

  word-idle : (d next : Draft) (run : List ℕ) (left : ℕ) (ruled : Ruled) → Idle d → read_word d run left ruled ≡ Ok next → Idle next
  word-idle d next run left (Ok (Some n)) h e =
      λ silent. absurd (not-both next.understood (sym (ap (λ (x : Draft). x.understood) (same-ok (understood n) next e))) silent)
  word-idle d next run left (Ok None) h e = by (is_filler run) e
    where
      by : (b : Bool) → ◌≡◌ {A = Result Draft Fault} (Ok (cond b d (ignore d left))) (Ok next) → Idle next
      by true e = subst Idle (same-ok d next e) h
      by false e = subst Idle (same-ok (ignore d left) next e) h
  word-idle d next run left (Err x) h e = absurd cc

  letters-idle : (d next : Draft) (run : List ℕ) (more : List Token) → Idle d
      → approximate_letters_rule zone today.shown.clock d run more ≡ Ok next → Idle next
  unfolding approximate_letters_rule
  letters-idle d next run more h e = by (are_digits_next more) e
    where
      left : ℕ
      left = bytes_left (Letters run ∷ more)

      by : (b : Bool)
          → cond b (Ok (ignore d left)) (read_word d run left (word_by zone today.shown.clock d left (meaning_of run))) ≡ Ok next
          → Idle next
      by true e = subst Idle (same-ok (ignore d left) next e) h
      by false e = word-idle d next run left (word_by zone today.shown.clock d left (meaning_of run)) h e

  number-heard : (d : Draft) (run : List ℕ) (left : ℕ) → d.understood ≡ true → (number_waits d run left).understood ≡ true
  number-heard d run left h = by (number run == 0 || is_padded run)
    where
      by : (b : Bool)
          → (cond b (ignore d left) (record d { waiting = Some (record { value = number run; left = left }) })).understood ≡ true
      by true = h
      by false = h

  group-heard : (d : Draft) (run : List ℕ) (more : List Token) (found : Draft × List Token)
      (said : Result (Option (Fields × List Token)) Fault) → d.understood ≡ true
      → and_then said (λ said. Ok (group_or_number d run more said)) ≡ Ok found → found.0.understood ≡ true
  group-heard d run more found (Ok (Some taken)) h e = sym (ap (λ (x : Draft × List Token). x.0.understood) (same-ok _ found e)) ∙ h
  group-heard d run more found (Ok None) h e = sym (ap (λ (x : Draft × List Token). x.0.understood) (same-ok _ found e))
      ∙ number-heard d run _ h
  group-heard d run more found (Err x) h e = absurd cc

  digits-heard : (d : Draft) (run : List ℕ) (more : List Token) (found : Draft × List Token)
      → approximate_digits_rule today.now d run more ≡ Ok found → found.0.understood ≡ true
  unfolding approximate_digits_rule
  digits-heard d run more found e = by (is_too_large (number run)) e
    where
      left : ℕ
      left = bytes_left (Digits run ∷ more)

      ready : Draft
      ready = understood (settle d)

      by : (b : Bool) → cond b (Err (NumberTooLarge left))
          (and_then (group_said today.now ready.fields run more) (λ said. Ok (group_or_number ready run more said))) ≡ Ok found
          → found.0.understood ≡ true
      by true e = absurd cc
      by false e = group-heard ready run more found (group_said today.now ready.fields run more) refl e

  abbrev go : ℕ → Read → Result Draft Fault
  go n step = and_then step (λ next. approximate_steps zone today n next.0 next.1)

  abbrev StepsIdle : ℕ → Type 0
  StepsIdle n = (d last : Draft) (ts : List Token) → Idle d → approximate_steps zone today n d ts ≡ Ok last → Idle last

  letters-then : (n : ℕ) → StepsIdle n → (d last : Draft) (run : List ℕ) (more : List Token) (found : Result Draft Fault) → Idle d
      → approximate_letters_rule zone today.shown.clock d run more ≡ found → go n (and_then found (λ next. Ok (next, more))) ≡ Ok last
      → Idle last
  letters-then n all d last run more (Ok next) h is e = all next last more (letters-idle d next run more h is) e
  letters-then n all d last run more (Err x) h is e = absurd cc

  digits-then : (n : ℕ) → StepsIdle n → (d last : Draft) (run : List ℕ) (more : List Token) (found : Read)
      → approximate_digits_rule today.now d run more ≡ found → go n (ended found) ≡ Ok last → Idle last
  digits-then n all d last run more (Ok (next, rest)) is e =
      all next last (without_ending rest) (λ silent. absurd (not-both next.understood (digits-heard d run more (next, rest) is) silent)) e
  digits-then n all d last run more (Err x) is e = absurd cc

  steps-idle : (n : ℕ) (d last : Draft) (ts : List Token) → Idle d → approximate_steps zone today n d ts ≡ Ok last → Idle last
  unfolding walked
  steps-idle zero d last [] h e = subst Idle (same-ok d last e) h
  steps-idle (suc n) d last [] h e = subst Idle (same-ok d last e) h
  steps-idle zero d last (t ∷ more) h e = subst Idle (same-ok d last e) h
  steps-idle (suc n) d last (Mark byte ∷ more) h e = steps-idle n d last more h e
  steps-idle (suc n) d last (Letters run ∷ more) h e =
      letters-then n (λ d last ts h e. steps-idle n d last ts h e) d last run more
      (approximate_letters_rule zone today.shown.clock d run more) h refl e
  steps-idle (suc n) d last (Digits run ∷ more) h e =
      digits-then n (λ d last ts h e. steps-idle n d last ts h e) d last run more (approximate_digits_rule today.now d run more) refl e

  draft-idle : (text : List ℕ) (d : Draft) → draft_of zone today text ≡ Ok d → Idle d
  unfolding draft_of
  draft-idle text d e = steps-idle _ (first_draft today.shown) d (tokens text) (λ silent. refl) e

  settle-understood : (d : Draft) → (settle d).understood ≡ d.understood
  unfolding settle
  settle-understood d = by d.waiting
    where
      by-field : (left : ℕ) (f : Option Fields)
          → (option_map_or (λ f. record (without_number d) { fields = f }) f (ignore (without_number d) left)).understood ≡ d.understood
      by-field left (Some f) = refl
      by-field left None = refl

      by : (waiting : Option Number) → (option_map_or (settle_number (without_number d)) waiting d).understood ≡ d.understood
      by (Some n) = by-field n.left (with_number d.fields n.value)
      by None = refl

  settle-idle : (d : Draft) → d.waiting ≡ None → settle d ≡ d
  unfolding settle
  settle-idle d none = ap (λ (waiting : Option Number). option_map_or (settle_number (without_number d)) waiting d) none

-- what an answer has of a draft
answer-parts : (text : List ℕ) (d : Draft) (time : Option Time) (date : Approximate) → answer text d time ≡ Ok date
    → (date.understood ≡ d.understood) × (Some date.time ≡ time)
answer-parts text d None date e = absurd cc
answer-parts text d (Some time) date e = grind (arith, same-ok)

same-time : (a b : Time) → Some a ≡ Some b → a ≡ b
same-time a b e = cc

module _ (moment : Zoned) (found : IsFoundNow moment) where
  abbrev this : Now
  this = now_of moment

  abbrev tz : TimeZone
  tz = zone_of moment

  abbrev zone : States
  zone = states_of tz

  abbrev from : ZoneState
  from = state_there tz (nanos_of_seconds this.seconds)

  abbrev here : Today
  here = record { now = this; shown = clock_there from this.seconds }

  abbrev itself : Time
  itself = record { seconds = this.seconds; offset = from.offset }

  drafted : (text : List ℕ) (date : Approximate) (given : Result Draft Fault) → draft_of zone here text ≡ given
      → answer_of zone here text given ≡ Ok date
      → date.understood ≡ false → date.time ≡ itself
  drafted text date (Err x) is e silent = absurd cc
  drafted text date (Ok d) is e silent =
      let parts = answer-parts text (settle d) (filled_time zone here.shown.clock (settle d).last (settle d).fields) date e in
      let unheard : d.understood ≡ false = sym (settle-understood zone here d) ∙ sym parts.0 ∙ silent in
      let first = draft-idle zone here text d is unheard in
      let settled : settle d ≡ d = settle-idle zone here d (ap (λ (x : Draft). x.waiting) first) in
      let fields : (settle d).fields ≡ clock_fields here.shown.clock = ap (λ (x : Draft). x.fields) settled
      ∙ ap (λ (x : Draft). x.fields) first in
      let last : (settle d).last ≡ last_of (pos 0) here.shown = ap (λ (x : Draft). x.last) settled ∙ ap (λ (x : Draft). x.last) first in
      same-time date.time itself
      (parts.1 ∙ ap₂ (λ (clock : LastShown) (f : Fields). filled_time zone here.shown.clock clock f) last fields ∙ now-timed moment found)

  string-guessed : (text : List ℕ) (date : Approximate) → string_guess zone this text ≡ Ok date → date.understood ≡ false
      → date.time ≡ itself
  unfolding string_guess
  string-guessed text date e silent =
      drafted text date (draft_of zone here text) refl
      (sym (ap (λ (s : Option ZoneClock). guess_by zone this text s) (now-reached moment found).now_shown) ∙ e) silent

  guessed-so : (text : List ℕ) (date : Approximate) → guess zone this text ≡ Ok date → date.understood ≡ false → date.time ≡ itself
  unfolding guess
  guessed-so text date e silent = by (string_guess zone this (before_nul text)) refl e
    where
      by : (found : Result Approximate DateError) → string_guess zone this (before_nul text) ≡ found
          → answer_up_to (nul_place text) found ≡ Ok date → date.time ≡ itself
      by (Ok inner) is e =
          let same = same-ok _ date e in
          sym (ap (λ (x : Approximate). x.time) same)
          ∙ string-guessed (before_nul text) inner is (ap (λ (x : Approximate). x.understood) same ∙ silent)
      by (Err x) is e = absurd cc

  exact-or : (text : List ℕ) (date : Approximate) (exact : Result ExactDate DateError)
      → exact_or_guess exact (guess zone this text) ≡ Ok date
      → date.understood ≡ false → date.time ≡ itself
  exact-or text date (Ok read) e silent =
      absurd (not-both date.understood (sym (ap (λ (x : Approximate). x.understood) (same-ok _ date e))) silent)
  exact-or text date (Err x) e silent = by (is_unreadable x) e
    where
      by : (b : Bool) → cond b (guess zone this text) (Err x) ≡ Ok date → date.time ≡ itself
      by true e = guessed-so text date e silent
      by false e = absurd cc

pub moment_unless : (moment : Zoned) (text : List ℕ) → IsMomentUnlessUnderstood moment text
moment_unless moment text date found answers silent =
    exact-or moment found text date (date_of (zone_of moment) (said_by (now_of moment) text)) (sym answers) silent
