-- Git's search by its steps.
use Rattle.std.proofs.Common.{◌≡◌, ◌∙◌, ℕ, zero, suc, ◌+◌, ◌-◌, ◌≤◌, ℤ, pos, ◌+ℤ◌, ◌-ℤ◌, ◌*ℤ◌, ◌^◌, Bool, true, false, cond, Option, Some}
use Rattle.std.proofs.Common.{None, IfSome, refl, sym, ap, ap₂, arith, option_and_then, unwrap_or}
use mathlib.Core.Bool.{beq}
use Rattle.std.proofs.lemmas.Bool.Decides.{Decides-int_eq}
use Rattle.std.specs.Ordering.{int_eq}
use Rattle.std.specs.Option.{option_or, is_some}
use Rattle.jiff_core.proofs.SignedLemmas.{signed_arith}
use Rattle.jiff.specs.Words.{IsOffsetSeconds}
use Rattle.jiff_core.specs.Calendar.{IsWithin}
use Rattle.gix_date.proofs.Fields.Instants.{instant_holds}
use Rattle.gix_date.specs.Fields.Zoned.{is_instant}
use Rattle.git_date.specs.Exact.Zones.{States, state_by, same_flag, flag_step, flag_steps, flagged, flagged_at, nearest, hour_off, by_flag}
use Rattle.git_date.specs.Exact.Zones.{first_trail, moved, is_back, searched, most_moves, found_offset}
use Rattle.git_date.specs.declared.zones.Asked.{Asked}
use Rattle.git_date.specs.declared.zones.Trail.{Trail}
use Rattle.git_date.specs.declared.zones.ZoneState.{ZoneState}

-- The nearest time with a flag, step by step.
module _ (zone : States) (flag : Bool) (instant : ℤ) where
  abbrev after : ℕ → Option ℤ
  after n = nearest n zone flag instant

  abbrev here : ℕ → Option ℤ
  here n = flagged_at zone flag instant (flag_step *ℤ pos n)

  pub none-yet : after 0 ≡ None
  unfolding nearest
  none-yet = refl

  next : (n : ℕ) → after n ≡ None → after (suc n) ≡ here (suc n)
  unfolding nearest
  next n e = ap (λ (found : Option ℤ). option_or found (here (suc n))) e

  -- at the nth step, after none before
  pub at-step : (n : ℕ) → 1 ≤ n → after (n - 1) ≡ None → after n ≡ here n
  at-step zero h e = absurd (omega arith)
  at-step (suc n) h e = let same : suc n - 1 ≡ n = omega arith in next n (rw same at e)

  stays : (n : ℕ) (offset : ℤ) → after n ≡ Some offset → after (suc n) ≡ Some offset
  unfolding nearest
  stays n offset e = ap (λ (found : Option ℤ). option_or found (here (suc n))) e

  keeps : (more n : ℕ) (offset : ℤ) → after n ≡ Some offset → after (more + n) ≡ Some offset
  keeps zero n offset e = let same : 0 + n ≡ n = omega arith in rw same e
  keeps (suc more) n offset e = let same : suc more + n ≡ suc (more + n) = omega arith in
      rw same (stays (more + n) offset (keeps more n offset e))

  -- what a step finds, all find
  pub found-by : (n most : ℕ) (offset : ℤ) → n ≤ most → after n ≡ Some offset → after most ≡ Some offset
  found-by n most offset h e = let same : most - n + n ≡ most = omega arith in rw same at (keeps (most - n) n offset e)

-- an instant is near 1970
pub instant_within : (s : ℤ) → is_instant s ≡ true → IsWithin (10 ^ 14) s
instant_within s h = let near = instant_holds s h in (omega (arith, signed_arith, near), omega (arith, signed_arith, near))

pub clock_within : (clock offset : ℤ) → is_instant (clock -ℤ offset) ≡ true → IsOffsetSeconds offset → IsWithin (10 ^ 16) clock
clock_within clock offset h near =
    let at = instant_holds (clock -ℤ offset) h in
    (omega (arith, signed_arith, at, near), omega (arith, signed_arith, at, near))

-- the first side that has a flag
pub found_before : (zone : States) (flag : Bool) (instant distance before : ℤ) (found : Option ℤ) → before ≡ instant -ℤ distance
    → found ≡ flagged flag (zone before)
    → is_some found ≡ true → found ≡ flagged_at zone flag instant distance
unfolding flagged_at
found_before zone flag instant distance before None is e some = absurd cc
found_before zone flag instant distance before (Some offset) is e some =
    ap (λ (first : Option ℤ). option_or first (flagged flag (zone (instant +ℤ distance)))) (e ∙ ap (λ (s : ℤ). flagged flag (zone s)) is)

pub found_after : (zone : States) (flag : Bool) (instant distance before after : ℤ) (first found : Option ℤ) → before ≡ instant -ℤ distance
    → after ≡ instant +ℤ distance
    → first ≡ flagged flag (zone before) → is_some first ≡ false → found ≡ flagged flag (zone after)
    → found ≡ flagged_at zone flag instant distance
unfolding flagged_at
found_after zone flag instant distance before after (Some offset) found is later h some e = absurd cc
found_after zone flag instant distance before after None found is later none some e =
    e ∙ ap (λ (s : ℤ). flagged flag (zone s)) later
    ∙ ap (λ (first : Option ℤ). option_or first (flagged flag (zone (instant +ℤ distance))))
    (none ∙ ap (λ (s : ℤ). flagged flag (zone s)) is)

-- flags that are compared
pub other_told : (flag other : Bool) → beq flag other ≡ false → same_flag flag other ≡ false
other_told true true h = h
other_told true false h = h
other_told false true h = h
other_told false false h = h

same-itself : (flag : Bool) → same_flag flag flag ≡ true
same-itself true = refl
same-itself false = refl

-- with the flag that is asked, or where none is, the offset counts that shows the clock
pub own-flag : (zone : States) (asked : Asked) (flag : Option Bool) (there : ZoneState)
    → IfSome flag (λ (flag : Bool). flag ≡ there.daylight)
    → by_flag zone asked flag there ≡ there.offset
own-flag zone asked None there h = refl
own-flag zone asked (Some flag) there h =
    ap (λ (same : Bool).
    cond same there.offset (unwrap_or (nearest flag_steps zone flag (asked.clock -ℤ there.offset)) (hour_off flag there.offset)))
    (ap (same_flag flag) (sym h) ∙ same-itself flag)

-- One move of a search.
module _ (zone : States) (asked : Asked) (trail : Trail) where
  abbrev by_tests : ℕ → ZoneState → Bool → Bool → Option ℤ
  by_tests n there same back =
      cond same (Some (by_flag zone asked asked.daylight there)) (cond back (Some trail.here) (searched n zone asked (moved trail there)))

  -- what the zone says there decides
  pub leads : (n : ℕ) (there : ZoneState) (same back : Bool) → Some there ≡ state_by zone asked.clock trail.here
      → int_eq there.offset trail.here ≡ same → is_back trail asked.daylight there.daylight ≡ back
      → by_tests n there same back ≡ searched (suc n) zone asked trail
  unfolding searched
  leads n there same back h e f =
      ap₂ (by_tests n there) (sym e) (sym f)
      ∙ ap (option_and_then
      (λ (there : ZoneState). by_tests n there (int_eq there.offset trail.here) (is_back trail asked.daylight there.daylight))) h

  pub leads-nowhere : (n : ℕ) → None ≡ state_by zone asked.clock trail.here → None ≡ searched (suc n) zone asked trail
  unfolding searched
  leads-nowhere n h =
      ap (option_and_then
      (λ (there : ZoneState). by_tests n there (int_eq there.offset trail.here) (is_back trail asked.daylight there.daylight))) h

pub no-moves : (zone : States) (asked : Asked) (trail : Trail) → None ≡ searched 0 zone asked trail
unfolding searched
no-moves zone asked trail = refl

-- A clock that the zone shows at the guess is found there, with the flag that is asked, or where none is.
module _ (zone : States) (asked : Asked) (there : ZoneState) (here : Some there ≡ state_by zone asked.clock there.offset)
    (flag : IfSome asked.daylight (λ (flag : Bool). flag ≡ there.daylight)) where
  pub shown-here : (n : ℕ) (trail : Trail) → trail.here ≡ there.offset → searched (suc n) zone asked trail ≡ Some there.offset
  shown-here n trail e =
      sym (leads zone asked trail n there true (is_back trail asked.daylight there.daylight) (here ∙ ap (state_by zone asked.clock) (sym e))
      ((Decides-int_eq there.offset trail.here).1 (sym e)) refl)
      ∙ ap Some (own-flag zone asked asked.daylight there flag)

  pub found-at-guess : is_instant asked.clock ≡ true → found_offset zone asked there.offset ≡ Some there.offset
  unfolding found_offset
  found-at-guess h =
      ap (λ (b : Bool). cond b (searched most_moves zone asked (first_trail there.offset)) None) h
      ∙ shown-here 5 (first_trail there.offset) refl
