-- What the approximate reader ignores is the earliest token that is not used.
use Rattle.std.proofs.Common.{rules}
use Rattle.std.proofs.Common.{◌≡◌, ◌∙◌, ◌≤◌, max, not, ℕ, zero, suc, true, false, cond, List, [], ◌∷◌, ◌++◌, length, refl, sym, ap, subst}
use Rattle.std.proofs.Common.{arith, option_map, is_some, Option, Some, None, Result, Ok, Err}
use Rattle.std.proofs.lemmas.Bool.Decides.{nat_tests}
use Rattle.std.specs.Prelude.{◌==◌, ◌&&◌, ◌||◌}
use Rattle.std.specs.Option.{option_or}
use Rattle.jiff.specs.declared.zoned.Zoned.{Zoned}
use Rattle.gix_date.specs.Relative.Steps.{zone_of}
use Rattle.gix_date.specs.declared.time.Time.{Time}
use Rattle.git_date.specs.Approximate.Reading.{Read, approximate_steps, draft_of, answer, answer_of, guess_by, string_guess}
use Rattle.git_date.specs.Approximate.Drafts.{earlier, first_draft, settle, dropped}
use Rattle.git_date.specs.Approximate.Rules.{Ruled, hour_rule, unit_rule, meaning_rule, word_by, read_word, understood}
use Rattle.git_date.specs.Approximate.Rules.{approximate_letters_rule, is_padded, number_waits, group_or_number, approximate_digits_rule}
use Rattle.git_date.specs.Approximate.Words.{meaning_of}
use Rattle.git_date.specs.Approximate.Zones.{shown_in, filled_time, moved_to, fill}
use Rattle.git_date.specs.Exact.Zones.{States, states_of}
use Rattle.git_date.specs.Rules.Dates.{now_of}
use Rattle.git_date.specs.Rules.Digits.{group_said}
use Rattle.git_date.specs.Rules.Groups.{group_of}
use Rattle.git_date.specs.Tokens.Numbers.{number}
use Rattle.git_date.specs.Exact.Reading.{ended, place_in}
use Rattle.git_date.specs.Tokens.Strings.{before_nul, nul_place}
use Rattle.git_date.specs.Tokens.Tokens.{Token, Letters, Digits, Mark, tokens, bytes_left, walked}
use Rattle.git_date.specs.Types.Names.{Now, Today, Draft, Fault, Fields, Found, Meaning, Number, ZoneClock, Unit as TheUnit}
use Rattle.git_date.specs.Rules.Words.{is_filler, without_ending}
use Rattle.git_date.specs.declared.approximate.Approximate.{Approximate}
use Rattle.git_date.proofs.Rules.EnoughSteps.{fewer, short-kept}
use Rattle.git_date.proofs.Rules.Kept.{ending-left, Leaves, IsAt}
use Rattle.git_date.proofs.Guesses.KeptDrafts.{IsDraftAt, ReadsOn, digits-at}
use Rattle.git_date_laws.proofs.Alike.Cuts.{IsUpTo, answer-parts, same-ok}
use Rattle.git_date_laws.proofs.Whole.Guesses.{guessed}
use Rattle.git_date_laws.proofs.Ignored.Unused.{ending-is}
use Rattle.git_date_laws.specs.ApproximateIgnored.{place_of, unfit, does_nothing, left_by, unused_letters, unused_digits, Drafted, AtEnd}
use Rattle.git_date_laws.specs.ApproximateIgnored.{AtMark, AtLetters, AtDigits, earliest, IsEarliestUnused, IgnoresEarliest}
use Rattle.git_date_laws.specs.Ignored.{takes_group, after_ending}
use Rattle.gix_date.specs.Fields.Layout.{LocalTime}
use Rattle.git_date.specs.Tokens.Steps.{and_then}

-- how much is left after digits
abbrev IsShort : {A : Type 0} → ℕ → Result (A × List Token) Fault → Type 0
IsShort n step = Leaves (λ ts. length ts ≤ n) (λ left. Unit {0}) step

any-place : (place : Option ℕ) → IsAt (λ left. Unit {0}) place
any-place None = tt
any-place (Some left) = tt

any-draft : (d : Draft) → IsDraftAt (λ left. Unit {0}) d
any-draft d = (any-place _, any-place d.ignored)

short-of : (n : ℕ) (step : Read) → ReadsOn (λ left. Unit {0}) (λ ts. length ts ≤ n) (short-kept n) step → IsShort n step
short-of n (Ok found) h = h.1
short-of n (Err fault) h = h

read-short : (now : Now) (d : Draft) (run : List ℕ) (more : List Token) → IsShort (length more) (approximate_digits_rule now d run more)
read-short now d run more = search (rules, short-of, digits-at, short-kept, any-draft)

-- places
one-place : (i : Option ℕ) (left : ℕ) → Some (earlier left i) ≡ earliest i (left ∷ [])
one-place None left = refl
one-place (Some first) left = refl

both-places : (i : Option ℕ) (a b : List ℕ) → earliest i (a ++ b) ≡ earliest (earliest i a) b
both-places i [] b = refl
both-places None (left ∷ a) b = both-places (Some left) a b
both-places (Some first) (left ∷ a) b = both-places (Some (max left first)) a b

settle-leaves : (d : Draft) → (settle d).ignored ≡ earliest d.ignored (unfit d.fields d.waiting)
unfolding settle
settle-leaves d = grind (arith, nat_tests, one-place)

dropped-leaves : (d : Draft) → (dropped d).ignored ≡ earliest d.ignored (place_of d.waiting)
dropped-leaves d = grind (arith, one-place)

-- words
module _ (zone : States) (today : LocalTime) where
  moved-keeps : (d next : Draft) (left : ℕ) (found : Found) → moved_to zone d left found ≡ Ok next → next.ignored ≡ d.ignored
  unfolding moved_to
  moved-keeps d next left found e = grind arith

  fill-keeps : (d next : Draft) (back left : ℕ) → fill zone today d back left ≡ Ok next → next.ignored ≡ d.ignored
  unfolding fill
  fill-keeps d next back left e = grind (arith, moved-keeps)

  hour-keeps : (d next : Draft) (hour left : ℕ) → hour_rule zone today d hour left ≡ Ok next → next.ignored ≡ (settle d).ignored
  hour-keeps d next hour left e = grind (arith, fill-keeps)

  unit-keeps : (d next : Draft) (unit : TheUnit) (n : Number) → unit_rule zone today d unit n ≡ Ok next → next.ignored ≡ d.ignored
  unit-keeps d next unit n e = grind (arith, fill-keeps)

  word-leaves : (d next : Draft) (left : ℕ) (said : Option Meaning) → word_by zone today d left said ≡ Ok (Some next)
      → next.ignored ≡ earliest d.ignored (left_by d said)
  unfolding meaning_rule
  word-leaves d next left said e = grind (arith, moved-keeps, fill-keeps, hour-keeps, unit-keeps, dropped-leaves, settle-leaves)

  word-does : (d next : Draft) (left : ℕ) (said : Option Meaning) → word_by zone today d left said ≡ Ok (Some next)
      → does_nothing d.waiting said ≡ false
  unfolding meaning_rule
  word-does d next left said e = grind arith

  word-idle : (d : Draft) (left : ℕ) (said : Option Meaning) → word_by zone today d left said ≡ Ok None
      → (does_nothing d.waiting said ≡ true) × (left_by d said ≡ [])
  unfolding meaning_rule
  word-idle d left said e = (grind arith, grind arith)

  read-leaves : (d next : Draft) (run : List ℕ) (left : ℕ) (said : Option Meaning) (ruled : Ruled) → word_by zone today d left said ≡ ruled
      → read_word d run left ruled ≡ Ok next
      → next.ignored ≡ earliest d.ignored (cond (does_nothing d.waiting said && not (is_filler run)) (left ∷ []) (left_by d said))
  read-leaves d next run left said (Ok (Some n)) is e = rw (word-does d n left said is) (grind (arith, word-leaves d n left said is))
  read-leaves d next run left said (Ok None) is e = let idle = word-idle d left said is in
      rw (idle.0, idle.1) (grind (arith, nat_tests, one-place))
  read-leaves d next run left said (Err wrong) is e = absurd cc

  letters-leave : (d next : Draft) (run : List ℕ) (more : List Token) → approximate_letters_rule zone today d run more ≡ Ok next
      → next.ignored ≡ earliest d.ignored (unused_letters d run more)
  unfolding approximate_letters_rule
  letters-leave d next run more e =
      grind (arith, nat_tests, one-place, read-leaves d next run (bytes_left (Letters run ∷ more)) (meaning_of run) _ refl)

-- digits
group-takes : (now : Now) (f : Fields) (run : List ℕ) (more : List Token) (said : Option (Fields × List Token))
    → group_said now f run more ≡ Ok said
    → takes_group now f (group_of (number run) more) ≡ is_some said
unfolding group_said
group-takes now f run more said e = grind arith

waits-leaves : (d : Draft) (run : List ℕ) (left : ℕ)
    → (number_waits d run left).ignored ≡ earliest d.ignored (cond (number run == 0 || is_padded run) (left ∷ []) [])
waits-leaves d run left = grind (arith, nat_tests, one-place)

group-leaves : (now : Now) (r next : Draft) (run : List ℕ) (more rest : List Token) (said : Result (Option (Fields × List Token)) Fault)
    → group_said now r.fields run more ≡ said
    → and_then said (λ said. Ok (group_or_number r run more said)) ≡ Ok (next, rest)
    → next.ignored ≡ earliest r.ignored (cond
    (not (takes_group now r.fields (group_of (number run) more)) && (number run == 0 || is_padded run))
    (bytes_left (Digits run ∷ more) ∷ []) [])
group-leaves now r next run more rest (Ok (Some found)) is e = rw (group-takes now r.fields run more (Some found) is) (grind arith)
group-leaves now r next run more rest (Ok None) is e = grind (arith, group-takes, waits-leaves)
group-leaves now r next run more rest (Err wrong) is e = absurd cc

digits-leave : (now : Now) (d next : Draft) (run : List ℕ) (more rest : List Token)
    → approximate_digits_rule now d run more ≡ Ok (next, rest)
    → next.ignored ≡ earliest d.ignored (unused_digits now d run more)
unfolding approximate_digits_rule
digits-leave now d next run more rest e =
    grind (arith, nat_tests, both-places, settle-leaves d, group-leaves now (understood (settle d)) next run more rest _ refl)

-- the walk
module _ (zone : States) (today : Today) where
  abbrev go : ℕ → Read → Result Draft Fault
  go n step = and_then step (λ next. approximate_steps zone today n next.0 next.1)

  abbrev Comes : Draft → List Token → Draft → Type 0
  Comes d ts last = (unused : List ℕ) × Drafted zone today d ts unused (settle last) × ((settle last).ignored ≡ earliest d.ignored unused)

  abbrev AreDrafted : ℕ → Type 0
  AreDrafted n = (d last : Draft) (ts : List Token) → length ts ≤ n → approximate_steps zone today n d ts ≡ Ok last → Comes d ts last

  at-end : (d last : Draft) → ◌≡◌ {A = Result Draft Fault} (Ok d) (Ok last) → Comes d [] last
  at-end d last e = subst (Comes d []) (same-ok d last e) (unfit d.fields d.waiting, AtEnd d, settle-leaves d)

  later-on : (d next last : Draft) (ts rest : List Token) (unused : List ℕ) → next.ignored ≡ earliest d.ignored unused
      → ((later : List ℕ) → Drafted zone today next rest later (settle last) → Drafted zone today d ts (unused ++ later) (settle last))
      → Comes next rest last → Comes d ts last
  later-on d next last ts rest unused leaves step later = (
    unused ++ later.0,
    step later.0 later.1,
    later.2 ∙ ap (λ (i : Option ℕ). earliest i later.0) leaves
        ∙ sym (both-places d.ignored unused later.0),
  )

  letters-then : (n : ℕ) → AreDrafted n → (d last : Draft) (run : List ℕ) (more : List Token) (found : Result Draft Fault)
      → approximate_letters_rule zone today.shown.clock d run more ≡ found
      → length more ≤ n → go n (and_then found (λ next. Ok (next, more))) ≡ Ok last → Comes d (Letters run ∷ more) last
  letters-then n all d last run more (Ok next) is short e =
      later-on d next last (Letters run ∷ more) more (unused_letters d run more) (letters-leave zone today.shown.clock d next run more is)
      (λ later walk. AtLetters d next (settle last) run more later is walk) (all next last more short e)
  letters-then n all d last run more (Err wrong) is short e = absurd cc

  digits-then : (n : ℕ) → AreDrafted n → (d last : Draft) (run : List ℕ) (more : List Token) (found : Read)
      → approximate_digits_rule today.now d run more ≡ found
      → IsShort (length more) found → length more ≤ n → go n (ended found) ≡ Ok last → Comes d (Digits run ∷ more) last
  digits-then n all d last run more (Ok (next, rest)) is less short e =
      let fewer = ending-left (λ ts. length ts ≤ n) (λ left. Unit {0}) (short-kept n) rest (omega arith) in
      later-on d next last (Digits run ∷ more) (after_ending rest) (unused_digits today.now d run more)
      (digits-leave today.now d next run more rest is)
      (λ later walk. AtDigits d next (settle last) run more rest later is walk)
      (subst (λ (ts : List Token). Comes next ts last) (ending-is rest) (all next last (without_ending rest) fewer e))
  digits-then n all d last run more (Err wrong) is less short e = absurd cc

  steps-drafted : (n : ℕ) → AreDrafted n
  unfolding walked
  steps-drafted zero d last [] short e = at-end d last e
  steps-drafted (suc n) d last [] short e = at-end d last e
  steps-drafted zero d last (t ∷ more) short e = absurd (omega arith)
  steps-drafted (suc n) d last (Mark byte ∷ more) short e =
      let later = steps-drafted n d last more (omega arith) e in (later.0, AtMark d (settle last) byte more later.0 later.1, later.2)
  steps-drafted (suc n) d last (Letters run ∷ more) short e =
      letters-then n (λ d last ts short e. steps-drafted n d last ts short e) d last run more
      (approximate_letters_rule zone today.shown.clock d run more) refl (omega arith) e
  steps-drafted (suc n) d last (Digits run ∷ more) short e =
      digits-then n (λ d last ts short e. steps-drafted n d last ts short e) d last run more (approximate_digits_rule today.now d run more)
      refl
      (read-short today.now d run more) (omega arith) e

  text-drafted : (text : List ℕ) (last : Draft) → draft_of zone today text ≡ Ok last → Comes (first_draft today.shown) (tokens text) last
  unfolding draft_of
  text-drafted text last e = steps-drafted (length text) (first_draft today.shown) last (tokens text) (fewer text) e

-- the answer
answered : (text : List ℕ) (d : Draft) (time : Option Time) (date : Approximate) → answer text d time ≡ Ok date
    → (time ≡ Some date.time) × (date.ignored ≡ option_map (place_in text) d.ignored)
answered text d time date e = (grind arith, grind arith)

pub ignores_earliest : (moment : Zoned) (text : List ℕ) → IgnoresEarliest moment text
unfolding string_guess
ignores_earliest moment text date unreadable h = by-shown (shown_in zone now.seconds) refl parts.is_found
  where
    zone : States
    zone = states_of (zone_of moment)

    now : Now
    now = now_of moment

    string : List ℕ
    string = before_nul text

    parts : IsUpTo (nul_place text) (string_guess zone now string) date
    parts = answer-parts zone now text date (sym (h ∙ guessed moment text unreadable))

    by-draft : (shown : ZoneClock) (given : Result Draft Fault) → shown_in zone now.seconds ≡ Some shown
        → draft_of zone (record { now = now; shown = shown }) string ≡ given
        → answer_of zone (record { now = now; shown = shown }) string given ≡ Ok parts.before → IsEarliestUnused moment text date
    by-draft shown (Err wrong) seen is e = absurd cc
    by-draft shown (Ok d) seen is e =
        let found = answered string (settle d) (filled_time zone shown.clock (settle d).last (settle d).fields) parts.before e in
        let walk = text-drafted zone (record { now = now; shown = shown }) string d is in
        record {
          unused = walk.0;
          last = settle d;
          shown = shown;
          is_shown = seen;
          walk = walk.1;
          time = found.0 ∙ ap (λ (x : Approximate). Some x.time) (sym parts.is);
          first = ap (λ (x : Approximate). x.ignored) parts.is
              ∙ ap (λ (i : Option ℕ). option_or i (nul_place text)) (found.1 ∙ ap (option_map (place_in string)) walk.2);
        }

    by-shown : (shown : Option ZoneClock) → shown_in zone now.seconds ≡ shown → guess_by zone now string shown ≡ Ok parts.before
        → IsEarliestUnused moment text date
    by-shown None seen e = absurd cc
    by-shown (Some shown) seen e = by-draft shown (draft_of zone (record { now = now; shown = shown }) string) seen refl e
