-- Where the places are that a draft keeps, and those of its faults.
use Rattle.std.proofs.Common.{◌≡◌, ℕ, ℤ, zero, suc, Bool, true, false, List, [], ◌∷◌, refl, sym, subst, arith, nat_le, option_map, Option}
use Rattle.std.proofs.Common.{Some, None, Result, Ok, Err}
use Rattle.std.specs.Prelude.{◌==◌, ◌||◌, ◌+◌, ◌%◌, max, ok_or}
use Rattle.std.specs.Option.{option_map_or}
use Rattle.std.proofs.lemmas.Bool.Decides.{nat_tests}
use Rattle.gix_date.specs.Fields.ClockNumbers.{seconds_per_day}
use Rattle.gix_date.specs.Fields.Layout.{LocalTime}
use Rattle.git_date.specs.Tokens.Numbers.{number, is_too_large}
use Rattle.git_date.specs.Tokens.Steps.{and_then}
use Rattle.git_date.specs.Tokens.Tokens.{Token, Letters, Digits, Mark, bytes_left, walked}
use Rattle.git_date.specs.Rules.Words.{is_filler}
use Rattle.git_date.specs.Exact.Reading.{ended}
use Rattle.git_date.specs.Approximate.Drafts.{with_shown, earlier, ignore, with_number, settle_number, without_number, settle, dropped}
use Rattle.git_date.specs.Approximate.Drafts.{with_half, with_hour, is_before, units, less_months}
use Rattle.git_date.specs.Approximate.Reading.{Read, approximate_rule, approximate_steps}
use Rattle.git_date.specs.Approximate.Rules.{Ruled, used, hour_rule, back_rule, unit_rule, counted_by, count_waits, meaning_rule, word_by}
use Rattle.git_date.specs.Approximate.Rules.{read_word, understood, are_digits_next, first_instant, approximate_letters_rule, is_padded}
use Rattle.git_date.specs.Approximate.Rules.{group_or_number, approximate_digits_rule}
use Rattle.git_date.specs.Approximate.Words.{meaning_of}
use Rattle.git_date.specs.Approximate.Zones.{shown_in, filled_instant, moved_to, before, fill}
use Rattle.git_date.specs.Exact.Zones.{States}
use Rattle.git_date.specs.declared.approximate.Today.{Today}
use Rattle.git_date.specs.declared.approximate.drafts.Draft.{Draft}
use Rattle.git_date.specs.declared.approximate.meanings.Meaning.{Meaning}
use Rattle.git_date.specs.declared.approximate.meanings.Meaning.TheVariants.{Month, Back, Never, Hour, Morning, Afternoon, Count}
use Rattle.git_date.specs.declared.approximate.meanings.Meaning.TheVariants as meaning
use Rattle.git_date.specs.declared.approximate.meanings.Unit.{Unit as Counted}
use Rattle.git_date.specs.declared.approximate.meanings.Unit.TheVariants.{Seconds, Weekday, Months}
use Rattle.git_date.specs.declared.approximate.zone.ZoneClock.{ZoneClock}
use Rattle.git_date.specs.declared.approximate.zone.Found.{Found}
use Rattle.git_date.specs.declared.error.Fault.{Fault}
use Rattle.git_date.specs.declared.error.Fault.TheVariants.{BackTooFar, Range}
use Rattle.git_date.specs.declared.fields.Fields.{Fields}
use Rattle.git_date.specs.declared.fields.dates.Now.{Now}
use Rattle.git_date.specs.declared.fields.groups.Number.{Number}
use Rattle.git_date.proofs.Rules.Kept.{IsKept, IsFaultAt, IsAt, IsSaidAt, IsTokenAt, either, ending-left, token-place, group-said-at}

-- the place of a number that waits
abbrev place_of : Option Number → Option ℕ
place_of waiting = option_map (λ n. n.left) waiting

max-by : (P : ℕ → Type 0) (a b : ℕ) (less : Bool) → nat_le a b ≡ less → P a → P b → P (max a b)
max-by P a b true e p q = let is : max a b ≡ b = grind (arith, nat_tests, e) in subst P (sym is) q
max-by P a b false e p q = let is : max a b ≡ a = grind (arith, nat_tests, e) in subst P (sym is) p

module _ (P : ℕ → Type 0) where
  -- the places of a draft: that of the number that waits, and that of what is ignored
  abbrev pub IsDraftAt : Draft → Type 0
  IsDraftAt d = IsAt P (place_of d.waiting) × IsAt P d.ignored

  abbrev pub IsDraftedAt : Result Draft Fault → Type 0
  IsDraftedAt (Ok d) = IsDraftAt d
  IsDraftedAt (Err fault) = IsFaultAt P fault

  abbrev IsRuledAt : Ruled → Type 0
  IsRuledAt (Ok None) = Unit {0}
  IsRuledAt (Ok (Some d)) = IsDraftAt d
  IsRuledAt (Err fault) = IsFaultAt P fault

  earlier-at : (left : ℕ) (ignored : Option ℕ) → P left → IsAt P ignored → P (earlier left ignored)
  earlier-at left None p h = p
  earlier-at left (Some other) p h = max-by P left other (nat_le left other) refl p h

  ignore-at : (d : Draft) (left : ℕ) → P left → IsDraftAt d → IsDraftAt (ignore d left)
  ignore-at d left p h = (h.0, earlier-at left d.ignored p h.1)

  -- the number that waits
  found-at : (d : Draft) (found : Option Fields) (left : ℕ) → P left → IsDraftAt d
      → IsDraftAt (option_map_or (λ f. record d { fields = f }) found (ignore d left))
  found-at d None left p h = ignore-at d left p h
  found-at d (Some f) left p h = h

  settled-at : (d : Draft) (waiting : Option Number) → IsAt P (place_of waiting) → IsDraftAt d
      → IsDraftAt (option_map_or (settle_number (without_number d)) waiting d)
  settled-at d None w h = h
  settled-at d (Some n) w h = found-at (without_number d) (with_number d.fields n.value) n.left w (tt, h.1)

  pub settle-at : (d : Draft) → IsDraftAt d → IsDraftAt (settle d)
  unfolding settle
  settle-at d h = settled-at d d.waiting h.0 h

  dropped-by : (d : Draft) (waiting : Option Number) → IsAt P (place_of waiting) → IsDraftAt d
      → IsDraftAt (option_map_or (λ n. ignore (without_number d) n.left) waiting d)
  dropped-by d None w h = h
  dropped-by d (Some n) w h = ignore-at (without_number d) n.left w (tt, h.1)

  dropped-at : (d : Draft) → IsDraftAt d → IsDraftAt (dropped d)
  dropped-at d h = dropped-by d d.waiting h.0 h

  half-by : (d : Draft) (first : ℕ) (waiting : Option Number) → IsDraftAt d
      → IsDraftAt (option_map_or (λ n. with_hour (without_number d) (n.value % 12 + first)) waiting (with_half d first))
  half-by d first None h = h
  half-by d first (Some n) h = (tt, h.1)

  -- what a zone makes of a draft
  shown-at : (d : Draft) (guess : ℤ) (left : ℕ) (shown : Option ZoneClock) → P left → IsDraftAt d
      → IsDraftedAt (ok_or (option_map (with_shown d guess) shown) (BackTooFar left))
  shown-at d guess left None p h = p
  shown-at d guess left (Some shown) p h = h

  moved-at : (zone : States) (d : Draft) (left : ℕ) (found : Found) → P left → IsDraftAt d → IsDraftedAt (moved_to zone d left found)
  unfolding moved_to
  moved-at zone d left found p h = shown-at d found.guess left (shown_in zone found.instant) p h

  filled-at : (zone : States) (d : Draft) (back left : ℕ) (found : Option Found) → P left → IsDraftAt d
      → IsDraftedAt (and_then (ok_or found Range) (λ found. moved_to zone d left (before found back)))
  filled-at zone d back left None p h = tt
  filled-at zone d back left (Some found) p h = moved-at zone d left (before found back) p h

  fill-at : (zone : States) (today : LocalTime) (d : Draft) (back left : ℕ) → P left → IsDraftAt d
      → IsDraftedAt (fill zone today d back left)
  unfolding fill
  fill-at zone today d back left p h = filled-at zone d back left (filled_instant zone today d.last d.fields) p h

  then-at : (a : Result Draft Fault) (go : Draft → Result Draft Fault) → IsDraftedAt a → ((d : Draft) → IsDraftAt d → IsDraftedAt (go d))
      → IsDraftedAt (and_then a go)
  then-at (Ok d) go h next = next d h
  then-at (Err fault) go h next = h

  -- words
  hour-at : (zone : States) (today : LocalTime) (d : Draft) (hour left : ℕ) → P left → IsDraftAt d
      → IsDraftedAt (hour_rule zone today d hour left)
  hour-at zone today d hour left p h =
      let settled = settle-at d h in
      then-at _ _ (either IsDraftedAt (is_before (settle d).fields.hour hour) _ (Ok (settle d))
      (fill-at zone today (settle d) seconds_per_day left p settled) settled) (λ d h. h)

  less-at : (d : Draft) (left : ℕ) (f : Option Fields) → P left → IsDraftAt d
      → IsDraftedAt (and_then (ok_or f (BackTooFar left)) (λ f. Ok (record d { fields = f })))
  less-at d left None p h = p
  less-at d left (Some f) p h = h

  back-at : (zone : States) (today : LocalTime) (d : Draft) (back : ℕ) (n : Number) → P n.left → IsDraftAt d
      → IsDraftedAt (back_rule zone today d back n)
  back-at zone today d back n p h = either IsDraftedAt (is_too_large back) _ _ p (fill-at zone today d back n.left p h)

  unit-at : (zone : States) (today : LocalTime) (d : Draft) (unit : Counted) (n : Number) → P n.left → IsAt P d.ignored
      → IsDraftedAt (unit_rule zone today d unit n)
  unit-at zone today d (Seconds size) n p h = back-at zone today (without_number d) _ n p (tt, h)
  unit-at zone today d (Weekday day) n p h = back-at zone today (without_number d) _ n p (tt, h)
  unit-at zone today d (Months size) n p h =
      then-at _ _ (fill-at zone today (without_number d) 0 n.left p (tt, h))
      (λ d h. less-at d n.left (less_months d.fields (units n.value size)) p h)

  used-at : (a : Result Draft Fault) → IsDraftedAt a → IsRuledAt (used a)
  used-at (Ok d) h = h
  used-at (Err fault) h = h

  counted-at : (zone : States) (today : LocalTime) (d : Draft) (unit : Counted) (waiting : Option Number) → IsAt P (place_of waiting)
      → IsAt P d.ignored
      → IsRuledAt (counted_by zone today d unit waiting)
  counted-at zone today d unit None w h = tt
  counted-at zone today d unit (Some n) w h = used-at _ (unit-at zone today d unit n w h)

  waits-at : (d : Draft) (n left : ℕ) (waiting : Option Number) → P left → IsDraftAt d → IsRuledAt (Ok (count_waits d n left waiting))
  waits-at d n left None p h = (p, h.1)
  waits-at d n left (Some other) p h = tt

  meaning-at : (zone : States) (today : LocalTime) (d : Draft) (left : ℕ) (said : Meaning) → P left → IsDraftAt d
      → IsRuledAt (meaning_rule zone today d left said)
  unfolding meaning_rule
  meaning-at zone today d left (Month month) p h = h
  meaning-at zone today d left (Back seconds) p h = used-at _ (fill-at zone today (dropped d) seconds left p (dropped-at d h))
  meaning-at zone today d left Never p h = used-at _ (moved-at zone (dropped d) left (first_instant d) p (dropped-at d h))
  meaning-at zone today d left (Hour hour) p h = used-at _ (hour-at zone today d hour left p h)
  meaning-at zone today d left Morning p h = half-by d 0 d.waiting h
  meaning-at zone today d left Afternoon p h = half-by d 12 d.waiting h
  meaning-at zone today d left (Count n) p h = waits-at d n left d.waiting p h
  meaning-at zone today d left (meaning.Unit unit) p h = counted-at zone today d unit d.waiting h.0 h.1

  word-at : (zone : States) (today : LocalTime) (d : Draft) (left : ℕ) (said : Option Meaning) → P left → IsDraftAt d
      → IsRuledAt (word_by zone today d left said)
  word-at zone today d left None p h = tt
  word-at zone today d left (Some said) p h = meaning-at zone today d left said p h

  read-word-at : (d : Draft) (word : List ℕ) (left : ℕ) (ruled : Ruled) → P left → IsDraftAt d → IsRuledAt ruled
      → IsDraftedAt (read_word d word left ruled)
  read-word-at d word left (Ok None) p h r = either IsDraftAt (is_filler word) d (ignore d left) h (ignore-at d left p h)
  read-word-at d word left (Ok (Some next)) p h r = r
  read-word-at d word left (Err fault) p h r = r

  letters-at : (zone : States) (today : LocalTime) (d : Draft) (run : List ℕ) (more : List Token) → P (bytes_left (Letters run ∷ more))
      → IsDraftAt d
      → IsDraftedAt (approximate_letters_rule zone today d run more)
  unfolding approximate_letters_rule
  letters-at zone today d run more p h =
      either IsDraftedAt (are_digits_next more) _ _ (ignore-at d _ p h)
      (read-word-at d run _ _ p h (word-at zone today d _ (meaning_of run) p h))

  -- what is read, and what is left to read
  module _ (R : List Token → Type 0) (k : IsKept R P) where
    abbrev pub ReadsOn : Read → Type 0
    ReadsOn (Ok found) = IsDraftAt found.0 × R found.1
    ReadsOn (Err fault) = IsFaultAt P fault

    number-at : (d : Draft) (run : List ℕ) (more : List Token) (said : Result (Option (Fields × List Token)) Fault)
        → P (bytes_left (Digits run ∷ more)) → R more → IsDraftAt d
        → IsSaidAt R P k said → ReadsOn (and_then said (λ said. Ok (group_or_number d run more said)))
    number-at d run more (Ok None) p r h s =
        (either IsDraftAt (number run == 0 || is_padded run) _ _ (ignore-at d _ p h) (p, h.1), r)
    number-at d run more (Ok (Some found)) p r h s = (h, s)
    number-at d run more (Err fault) p r h s = s

    pub digits-at : (now : Now) (d : Draft) (run : List ℕ) (more : List Token) → P (bytes_left (Digits run ∷ more)) → R more → IsDraftAt d
        → ReadsOn (approximate_digits_rule now d run more)
    unfolding approximate_digits_rule
    digits-at now d run more p r h =
        either ReadsOn (is_too_large (number run)) _ _ p
        (number-at (understood (settle d)) run more _ p r (settle-at d h) (group-said-at R P k now (settle d).fields run more p r))

    ended-on : (step : Read) → ReadsOn step → ReadsOn (ended step)
    ended-on (Ok found) h = (h.0, ending-left R P k found.1 h.1)
    ended-on (Err fault) h = h

    letters-on : (a : Result Draft Fault) (more : List Token) → R more → IsDraftedAt a → ReadsOn (and_then a (λ next. Ok (next, more)))
    letters-on (Ok d) more r h = (h, r)
    letters-on (Err fault) more r h = h

    pub rule-on : (zone : States) (today : Today) (d : Draft) (t : Token) (more : List Token) → IsTokenAt R P k t more → R more
        → IsDraftAt d → ReadsOn (approximate_rule zone today d t more)
    rule-on zone today d (Letters run) more p r h = letters-on _ more r (letters-at zone today.shown.clock d run more p h)
    rule-on zone today d (Digits run) more p r h = ended-on _ (digits-at today.now d run more p r h)
    rule-on zone today d (Mark byte) more p r h = (h, r)

    read-then : (zone : States) (today : Today) (n : ℕ) (step : Read)
        → ((d : Draft) (ts : List Token) → R ts → IsDraftAt d → IsDraftedAt (approximate_steps zone today n d ts)) → ReadsOn step
        → IsDraftedAt (and_then step (λ next. approximate_steps zone today n next.0 next.1))
    read-then zone today n (Ok found) all h = all found.0 found.1 h.1 h.0
    read-then zone today n (Err fault) all h = h

    pub steps-on : (zone : States) (today : Today) (n : ℕ) (d : Draft) (ts : List Token) → R ts → IsDraftAt d
        → IsDraftedAt (approximate_steps zone today n d ts)
    unfolding walked
    steps-on zone today zero d [] q h = h
    steps-on zone today zero d (t ∷ more) q h = h
    steps-on zone today (suc n) d [] q h = h
    steps-on zone today (suc n) d (t ∷ more) q h =
        read-then zone today n (approximate_rule zone today d t more) (λ d ts q h. steps-on zone today n d ts q h)
        (rule-on zone today d t more (token-place R P k t more q) (k.next t more q) h)
