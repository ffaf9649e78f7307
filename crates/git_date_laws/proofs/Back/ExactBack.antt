-- `n UNIT ago` is that many seconds before now.
use Rattle.std.proofs.Common.{◌≡◌, ◌∙◌, ◌≤◌, ◌<◌, ℕ, suc, ◌-◌, ◌*◌, Bool, true, false, cond, ℤ, pos, ◌+ℤ◌, ◌-ℤ◌, ◌≤ℤ◌, List, [], ◌∷◌, ◌++◌}
use Rattle.std.proofs.Common.{length, length-append, Option, Some, None, option_map, Result, Ok, Err, refl, sym, ap, ap₂, subst, arith}
use Rattle.std.specs.Option.{option_or}
use Rattle.std.specs.Prelude.{codes, ◌==◌, ok_or}
use Rattle.std.proofs.lemmas.Bool.Decides.{nat_tests}
use Rattle.gix_date.proofs.Fields.Instants.{z_holds}
use Rattle.gix_date.specs.declared.time.Time.{Time}
use Rattle.git_date.proofs.Text.Walked.{nothing-left}
use Rattle.git_date.specs.Approximate.Reading.{approximate_rule, approximate_steps, draft_of, answer, answer_of, answer_up_to, guess_by}
use Rattle.git_date.specs.Approximate.Reading.{string_guess, guess, approximate_step}
use Rattle.git_date.specs.Approximate.Drafts.{first_draft, clock_fields, all_fields, with_shown, settle, last_of}
use Rattle.git_date.specs.Approximate.Rules.{approximate_letters_rule, approximate_digits_rule, meaning_rule, is_padded}
use Rattle.git_date.specs.Approximate.Words.{moment_named, count_named, unit_named, meaning_of}
use Rattle.gix_date.specs.Text.LongNames.{weekday_of_word, month_of_word}
use Rattle.git_date.specs.Approximate.Clocks.{filled_seconds}
use Rattle.git_date.specs.Approximate.Zones.{clock_at, shown_in, filled_instant, filled_time, moved_to, before, fill}
use Rattle.git_date.specs.Exact.Zones.{States}
use Rattle.git_date.specs.Rules.Groups.{group_of, marked_number}
use Rattle.git_date.specs.Tokens.Numbers.{number, is_too_large, max_small}
use Rattle.git_date.specs.Exact.Reading.{said_up_to, string_said, said_by}
use Rattle.git_date.specs.Tokens.Strings.{before_nul, nul_place}
use Rattle.git_date.specs.Tokens.Tokens.{Token, Letters, Digits, Mark, tokens, texts, bytes_left, walked}
use Rattle.git_date.specs.Rules.Words.{without_ending}
use Rattle.git_date.specs.declared.approximate.Approximate.{Approximate}
use Rattle.git_date.specs.Types.Names.{Today, LastShown, Found, ZoneClock, ZoneState}
use Rattle.git_date.specs.Types.Names.{Draft}
use Rattle.git_date.specs.Types.MeaningCases as meaning
use Rattle.git_date.specs.Types.UnitCases.{Seconds}
use Rattle.git_date.specs.Types.Names.{Now}
use Rattle.git_date.specs.declared.error.DateError.TheVariants.{Unreadable, Range}
use Rattle.git_date.specs.Types.Names.{Fault}
use Rattle.git_date.specs.Types.Names.{Fields}
use Rattle.git_date.proofs.Text.TokenRuns.{texts_are}
use Rattle.git_date.proofs.Rules.ClocksBack.{IsClockBack, shown_of, filled-today}
use Rattle.git_date_laws.proofs.Back.ExactNothing.{nothing-said}
use Rattle.git_date_laws.specs.Texts.Back.{CountsBack, exactly_back}
use Rattle.gix_date.specs.Fields.Layout.{LocalTime}
use Rattle.git_date.specs.Tokens.Steps.{and_then}
use Rattle.git_date.specs.Rules.Digits.{group_said}
use Rattle.git_date.specs.Types.FaultCases.{BackTooFar, Range as OutOfRange}

-- one step after the other
pub go-on : (zone : States) (today : Today) (n : ℕ) (d next : Draft) (t : Token) (more : List Token) (r : Result Draft Fault)
    → approximate_rule zone today d t more ≡ Ok (next, more) → approximate_steps zone today n next more ≡ r
    → approximate_steps zone today (suc n) d (t ∷ more) ≡ r
unfolding walked
go-on zone today n d next t more r is e = rw is e

abbrev pub followed : ℕ → List ℕ → ℕ → List Token
followed gap unit last = Mark gap ∷ Letters unit ∷ Mark last ∷ Letters (codes "ago") ∷ []

-- the draft after the digits: they wait
abbrev pub waiting_draft : ZoneClock → ℕ → ℕ → Draft
waiting_draft c n left = record {
  fields = clock_fields c.clock;
  last = last_of (pos 0) c;
  waiting = Some (record { value = n; left = left });
  understood = true;
  ignored = None;
}

-- the draft after the unit
abbrev pub moved_draft : ℤ → ZoneClock → Draft
moved_draft guess c = record { fields = all_fields c.clock; last = last_of guess c; waiting = None; understood = true; ignored = None }

pub not-zero : (n : ℕ) → 1 ≤ n → (n == 0) ≡ false
not-zero n h = grind (arith, nat_tests)

pub not-large : (n : ℕ) → n ≤ max_small → is_too_large n ≡ false
not-large n h = grind (arith, nat_tests)

pub digits-wait : (zone : States) (today : Today) (run : List ℕ) (gap : ℕ) (unit : List ℕ) (last : ℕ) → number run ≤ max_small
    → 1 ≤ number run → is_padded run ≡ false
    → approximate_rule zone today (first_draft today.shown) (Digits run) (followed gap unit last)
    ≡ Ok (waiting_draft today.shown (number run) (bytes_left (Digits run ∷ followed gap unit last)), followed gap unit last)
unfolding approximate_digits_rule group_said group_of marked_number without_ending settle
digits-wait zone today run gap unit last small some padded = grind (arith, not-large, not-zero)

-- the unit moves the draft, where its filling does
unit-moves : (zone : States) (c : ZoneClock) (guess : ℤ) (next : ZoneClock) (unit : List ℕ) (last n size left : ℕ)
    → meaning_of unit ≡ Some (meaning.Unit (Seconds size)) → n * size ≤ max_small
    → fill zone c.clock (record (waiting_draft c n left) { waiting = None }) (n * size) left ≡ Ok (moved_draft guess next)
    → approximate_letters_rule zone c.clock (waiting_draft c n left) unit (Mark last ∷ Letters (codes "ago") ∷ [])
    ≡ Ok (moved_draft guess next)
unfolding approximate_letters_rule meaning_rule
unit-moves zone c guess next unit last n size left means small moves = grind (arith, not-large)

pub ago-nothing : (zone : States) (c : LocalTime) (d : Draft) → approximate_letters_rule zone c d (codes "ago") [] ≡ Ok d
unfolding approximate_letters_rule meaning_of month_of_word moment_named count_named weekday_of_word unit_named
ago-nothing zone c d = refl

-- a count that waits, the unit that moves it, and `ago`
pub unit-walk : (zone : States) (today : Today) (n : ℕ) (d waits there : Draft) (digits : List ℕ) (gap : ℕ) (unit : List ℕ) (last : ℕ)
    → approximate_rule zone today d (Digits digits) (followed gap unit last) ≡ Ok (waits, followed gap unit last)
    → approximate_letters_rule zone today.shown.clock waits unit (Mark last ∷ Letters (codes "ago") ∷ []) ≡ Ok there
    → approximate_steps zone today (suc (suc (suc (suc (suc n))))) d (Digits digits ∷ followed gap unit last) ≡ Ok there
unit-walk zone today n d waits there digits gap unit last wait moves =
    let ago : List Token = Letters (codes "ago") ∷ [] in
    let fifth = go-on zone today n there there (Letters (codes "ago")) [] (Ok there) (rw (ago-nothing zone today.shown.clock there) refl)
    (nothing-left (approximate_step zone today) n there) in
    let fourth = go-on zone today (suc n) there there (Mark last) ago (Ok there) refl fifth in
    let third = go-on zone today (suc (suc n)) waits there (Letters unit) (Mark last ∷ ago) (Ok there) (rw moves refl) fourth in
    let second = go-on zone today (suc (suc (suc n))) waits waits (Mark gap) (Letters unit ∷ Mark last ∷ ago) (Ok there) refl third in
    go-on zone today (suc (suc (suc (suc n)))) d waits (Digits digits) (followed gap unit last) (Ok there) wait second

-- what the clock of a zone shows at an instant where it says this
abbrev pub clock_there : ZoneState → ℤ → ZoneClock
clock_there here instant = clock_at here (shown_of (instant +ℤ here.offset))

pub filled-clock : (here : ZoneState) (x : ℤ) → IsClockBack x
    → filled_seconds (clock_at here (shown_of x)).clock (clock_fields (clock_at here (shown_of x)).clock) ≡ Some x
unfolding filled_seconds
filled-clock here x h = filled-today x h

-- the moment and the time that is told, by what the zone says there
pub record Reaches (zone : States) (now : ℤ) (back : ℕ) (here then : ZoneState) : Type 0 where
  pub now_shown : shown_in zone now ≡ Some (clock_there here now)
  pub told_shown : shown_in zone (now -ℤ pos back) ≡ Some (clock_there then (now -ℤ pos back))
  pub filled_now : filled_instant zone (clock_there here now).clock (last_of (pos 0) (clock_there here now))
      (clock_fields (clock_there here now).clock)
      ≡ Some (record { instant = now; guess = here.offset })
  pub filled_told : filled_time zone (clock_there here now).clock (last_of here.offset (clock_there then (now -ℤ pos back)))
      (all_fields (clock_there then (now -ℤ pos back)).clock) ≡ Some (record { seconds = now -ℤ pos back; offset = then.offset })
  pub since_1970 : pos 0 ≤ℤ (now -ℤ pos back)

module _ (zone : States) (now : ℤ) (back : ℕ) (here then : ZoneState) (are : Reaches zone now back here then) where
  abbrev now_clock : ZoneClock
  now_clock = clock_there here now

  abbrev then_clock : ZoneClock
  then_clock = clock_there then (now -ℤ pos back)

  pub moves : (d : Draft) (left : ℕ) → d.fields ≡ clock_fields now_clock.clock → d.last ≡ last_of (pos 0) now_clock
      → fill zone now_clock.clock d back left ≡ Ok (with_shown d here.offset then_clock)
  unfolding fill moved_to
  moves d left fields last =
      ap₂ (λ (f : Fields) (shown : LastShown). go (filled_instant zone now_clock.clock shown f)) fields last
      ∙ ap go are.filled_now
      ∙ ap (λ (s : Option ZoneClock). ok_or (option_map (with_shown d here.offset) s) (BackTooFar left)) are.told_shown
    where
      go : Option Found → Result Draft Fault
      go found = and_then (ok_or found OutOfRange) (λ found. moved_to zone d left (before found back))

  pub filled-moves : (n left : ℕ) → fill zone now_clock.clock (record (waiting_draft now_clock n left) { waiting = None }) back left
      ≡ Ok (moved_draft here.offset then_clock)
  filled-moves n left = moves (record (waiting_draft now_clock n left) { waiting = None }) left refl refl

  abbrev told : Draft
  told = moved_draft here.offset then_clock

  pub answered : (text : List ℕ) → answer text (settle told) (filled_time zone now_clock.clock (settle told).last (settle told).fields)
      ≡ Ok (exactly_back now then.offset back)
  unfolding settle
  answered text =
      ap (λ (t : Option Time). answer text told t) are.filled_told
      ∙ ap (λ (b : Bool). cond b (Ok (exactly_back now then.offset back)) (Err Range)) (z_holds (pos 0) (now -ℤ pos back) are.since_1970)

-- the tokens of such a text move the draft
module _ (zone : States) (now : ℤ) (from then : ZoneState) (this : Now) (digits : List ℕ) (gap : ℕ) (unit : List ℕ) (last size : ℕ)
    (are : Reaches zone now (number digits * size) from then)
    (fits : number digits * size ≤ max_small) (small : number digits ≤ max_small) (some : 1 ≤ number digits)
    (padded : is_padded digits ≡ false)
    (means : meaning_of unit ≡ Some (meaning.Unit (Seconds size))) where
  abbrev here : Today
  here = record { now = this; shown = clock_there from now }

  abbrev there : Draft
  there = moved_draft from.offset (clock_there then (now -ℤ pos (number digits * size)))

  abbrev ts : List Token
  ts = followed gap unit last

  abbrev waits : Draft
  waits = waiting_draft here.shown (number digits) (bytes_left (Digits digits ∷ ts))

  moved-word : approximate_letters_rule zone here.shown.clock waits unit (Mark last ∷ Letters (codes "ago") ∷ []) ≡ Ok there
  moved-word =
      unit-moves zone here.shown from.offset (clock_there then (now -ℤ pos (number digits * size))) unit last (number digits) size
      (bytes_left (Digits digits ∷ ts)) means fits
      (filled-moves zone now (number digits * size) from then are (number digits) (bytes_left (Digits digits ∷ ts)))

  drafted : (k : ℕ) → approximate_steps zone here (suc (suc (suc (suc (suc k))))) (first_draft here.shown) (Digits digits ∷ ts) ≡ Ok there
  drafted k =
      unit-walk zone here k (first_draft here.shown) waits there digits gap unit last
      (digits-wait zone here digits gap unit last small some padded) moved-word

  guessed : (text : List ℕ) (k : ℕ) → this.seconds ≡ now → tokens text ≡ Digits digits ∷ ts → length text ≡ suc (suc (suc (suc (suc k))))
      → string_guess zone this text ≡ Ok (exactly_back now then.offset (number digits * size))
  unfolding string_guess draft_of
  guessed text k same is long =
      let shown : shown_in zone this.seconds ≡ Some here.shown = ap (λ (n : ℤ). shown_in zone n) same ∙ are.now_shown in
      let drafts : draft_of zone here text ≡ Ok there = rw (is, long) (drafted k) in
      ap (λ (s : Option ZoneClock). guess_by zone this text s) shown
      ∙ ap (λ (d : Result Draft Fault). answer_of zone here text d) drafts
      ∙ answered zone now (number digits * size) from then are text

-- the text has as many bytes as tokens, or more
pub long-enough : (text digits : List ℕ) (gap : ℕ) (unit : List ℕ) (last : ℕ) → tokens text ≡ Digits digits ∷ followed gap unit last
    → 5 ≤ length text
long-enough text digits gap unit last is =
    let ago : List ℕ = last ∷ codes "ago" in
    let e : text ≡ digits ++ (gap ∷ (unit ++ ago)) = sym (texts_are text) ∙ ap texts is in
    omega (arith, ap length e, length-append digits (gap ∷ (unit ++ ago)), length-append unit ago)

pub few : (n : ℕ) → n < 100_000_000 → n ≤ max_small
few n h = omega (arith, h)

-- what both readers make of a text that only the approximate one reads, and of one without NUL
abbrev pub SaysIn : States → Now → List ℕ → Approximate → Type 0
SaysIn zone this text date = (said_by this text ≡ Err Unreadable) × (guess zone this text ≡ Ok date)

abbrev pub StringSaysIn : States → Now → List ℕ → Approximate → Type 0
StringSaysIn zone this text date = (string_said this text ≡ Err Unreadable) × (string_guess zone this text ≡ Ok date)

pub up-to-nul : (zone : States) (this : Now) (text : List ℕ) (date : Approximate) → StringSaysIn zone this (before_nul text) date
    → SaysIn zone this text (record date { ignored = option_or date.ignored (nul_place text) })
unfolding said_by guess
up-to-nul zone this text date says = (ap (said_up_to (nul_place text)) says.0, ap (answer_up_to (nul_place text)) says.1)

abbrev pub SaysBackIn : States → ℤ → Now → List ℕ → ℕ → Type 0
SaysBackIn zone then this text back = StringSaysIn zone this (before_nul text) (exactly_back this.seconds then back)

-- by the digits' own number
by-digits : (zone : States) (from then : ZoneState) (this : Now) (text : List ℕ) (count size : ℕ) (says : CountsBack text count size)
    → Reaches zone this.seconds (number says.digits * size) from then → number says.digits * size ≤ max_small
    → 1 ≤ number says.digits → number says.digits < 100_000_000 → SaysBackIn zone then.offset this text (number says.digits * size)
by-digits zone from then this text count size says reached fits some few_digits =
    let string = before_nul text in
    let least = long-enough string says.digits says.gap says.unit says.last says.is in
    let k = length string - 5 in
    let long : length string ≡ suc (suc (suc (suc (suc k)))) = omega (arith, least) in (
      nothing-said this string says.digits says.gap says.unit says.last says.no_date few_digits says.is,
      guessed zone this.seconds from then this says.digits says.gap says.unit says.last size reached fits
          (few (number says.digits) few_digits) some says.not_padded says.means string k refl says.is long,
    )

-- in any zone
pub counted-in : (zone : States) (from then : ZoneState) (this : Now) (text : List ℕ) (count size : ℕ) → CountsBack text count size
    → count * size ≤ max_small
    → Reaches zone this.seconds (count * size) from then → SaysBackIn zone then.offset this text (count * size)
counted-in zone from then this text count size says fits reached =
    let same : number says.digits ≡ count = says.counts in
    let here : Reaches zone this.seconds (number says.digits * size) from then =
    subst (λ (n : ℕ). Reaches zone this.seconds (n * size) from then) (sym same) reached in
    let within : number says.digits * size ≤ max_small = subst (λ (n : ℕ). n * size ≤ max_small) (sym same) fits in
    let some : 1 ≤ number says.digits = subst (λ (n : ℕ). 1 ≤ n) (sym same) says.not_zero in
    let less : number says.digits < 100_000_000 = subst (λ (n : ℕ). n < 100_000_000) (sym same) says.no_epoch in
    subst (λ (n : ℕ). SaysBackIn zone then.offset this text (n * size)) same
    (by-digits zone from then this text count size says here within some less)
