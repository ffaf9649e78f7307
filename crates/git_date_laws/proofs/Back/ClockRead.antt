-- Where the clock of a zone of two offsets shows a time, Git's search finds an offset that shows it.
use Rattle.std.proofs.Common.{◌≡◌, ◌∙◌, ◌-ℤ◌, ◌⊎◌, inl, inr, ℕ, suc, ℤ, pos, Bool, true, false, cond, Option, Some, None, IfSome}
use Rattle.std.proofs.Common.{option_map, refl, sym, ap, subst, arith}
use Rattle.std.proofs.lemmas.Bool.Decides.{Decides-int_eq}
use Rattle.std.specs.Ordering.{int_eq}
use Rattle.std.specs.Prelude.{◌&&◌}
use Rattle.jiff.specs.Types.{TimeZone, Posix}
use Rattle.jiff.specs.Words.{nanos_of_seconds, offset_at, IsOffsetSeconds}
use Rattle.jiff_core.proofs.SignedLemmas.{signed_arith}
use Rattle.jiff_core.specs.declared.Offset.{Offset}
use Rattle.jiff_tz.specs.PosixRule as rule
use Rattle.jiff_tz.specs.PosixRule.{in_window, match_some, utc_window}
use Rattle.jiff_tz.specs.Zone.{zero_in_range}
use Rattle.jiff_tz.specs.declared.posix.Dst.{Dst}
use Rattle.jiff_tz.specs.declared.posix.TimeZone.{TimeZone as Rule}
use Rattle.gix_date.specs.Fields.Zoned.{is_instant}
use Rattle.git_date.specs.Exact.Zones.{States, states_of, state_there, state_by, is_same, by_flag, first_trail, moved, stops, is_back}
use Rattle.git_date.specs.Exact.Zones.{searched, most_moves, found_offset}
use Rattle.git_date.specs.Types.Names.{Asked, Trail, ZoneState}
use Rattle.git_date.proofs.Exact.Searches.{leads, leads-nowhere, own-flag}
use Rattle.git_date.proofs.Exact.ZoneOffsets.{offset-near}
use Rattle.git_date_laws.specs.Laws.{HasTwoOffsets, IsReadIfShown, IsFoundIfOnce, IsRead, IsClockRead, shows}

abbrev Either : ℤ → ℤ → ℤ → Type 0
Either a b offset = (offset ≡ a) ⊎ (offset ≡ b)

-- one that is not the first is the second
other-one : (a b x y z : ℤ) → Either a b x → Either a b y → Either a b z → ¬ (y ≡ x) → ¬ (z ≡ x) → z ≡ y
other-one a b x y z (inl p) (inl q) r n m = absurd (n (q ∙ sym p))
other-one a b x y z (inl p) (inr q) (inl r) n m = absurd (m (r ∙ sym p))
other-one a b x y z (inl p) (inr q) (inr r) n m = r ∙ sym q
other-one a b x y z (inr p) (inr q) r n m = absurd (n (q ∙ sym p))
other-one a b x y z (inr p) (inl q) (inr r) n m = absurd (m (r ∙ sym p))
other-one a b x y z (inr p) (inl q) (inl r) n m = r ∙ sym q

unlike : (x y : ℤ) → int_eq x y ≡ false → ¬ (x ≡ y)
unlike x y e same = let yes : true ≡ false = sym ((Decides-int_eq x y).1 same) ∙ e in absurd cc

not-back : (trail : Trail) (flag : Option Bool) (here : Bool) → trail.before ≡ None → is_back trail flag here ≡ false
not-back trail flag here none = ap (λ (before : Option ℤ). is_same trail.here before && stops flag trail.last here) none

abbrev offset_of : ZoneState → ℤ
offset_of there = there.offset

-- the offsets of a zone are less than 26 hours
abbrev AreNear : States → Type 0
AreNear zone = (seconds : ℤ) (there : ZoneState) → Some there ≡ zone seconds → IsOffsetSeconds there.offset

-- What holds of each offset that shows the clock, and of none where there is no instant, holds of what is found.
module _ (zone : States) (a b : ℤ) (asked : Asked) (near : AreNear zone) (two : HasTwoOffsets zone asked.clock a b) (P : Option ℤ → Type 0)
  where
    abbrev Says : ℤ → ZoneState → Type 0
    Says offset there = Some there ≡ state_by zone asked.clock offset

    known : (offset : ℤ) (there : ZoneState) → IsOffsetSeconds offset → Says offset there → Either a b there.offset
    known offset there small e =
        subst (λ (found : Option ZoneState). IfSome found (λ (there : ZoneState). Either a b there.offset)) (sym e) (two offset small)

    abbrev IfShown : Type 0
    IfShown = (offset : ℤ) (there : ZoneState) → Says offset there → there.offset ≡ offset
        → P (Some (by_flag zone asked asked.daylight there))

    abbrev IfNothing : Type 0
    IfNothing = (offset : ℤ) → IsOffsetSeconds offset → None ≡ state_by zone asked.clock offset → P None

    -- a move that does not come back
    move : IfShown → IfNothing → (n : ℕ) (trail : Trail) → trail.before ≡ None → IsOffsetSeconds trail.here
        → ((there : ZoneState) → Says trail.here there → ¬ (there.offset ≡ trail.here) → P (searched n zone asked (moved trail there)))
        → P (searched (suc n) zone asked trail)
    move shown nothing n trail none small next = by (state_by zone asked.clock trail.here) refl
      where
        at : (there : ZoneState) → Says trail.here there → (same : Bool) → int_eq there.offset trail.here ≡ same
            → P (searched (suc n) zone asked trail)
        at there says true e =
            subst P (leads zone asked trail n there true (is_back trail asked.daylight there.daylight) says e refl)
            (shown trail.here there says ((Decides-int_eq there.offset trail.here).0 e))
        at there says false e =
            subst P (leads zone asked trail n there false false says e (not-back trail asked.daylight there.daylight none))
            (next there says (unlike there.offset trail.here e))

        by : (found : Option ZoneState) → state_by zone asked.clock trail.here ≡ found → P (searched (suc n) zone asked trail)
        by (Some there) e = at there (sym e) (int_eq there.offset trail.here) refl
        by None e = subst P (leads-nowhere zone asked trail n (sym e)) (nothing trail.here small (sym e))

    module _ (state : ZoneState) (here : Says state.offset state) (shown : IfShown) (nothing : IfNothing) where
      -- the third offset is the one that shows the clock
      third : (n : ℕ) (trail : Trail) → trail.here ≡ state.offset → P (searched (suc n) zone asked trail)
      third n trail e =
          let says : Says trail.here state = subst (λ (offset : ℤ). Says offset state) (sym e) here in
          subst P (leads zone asked trail n state true (is_back trail asked.daylight state.daylight) says
          ((Decides-int_eq state.offset trail.here).1 (sym e)) refl)
          (shown trail.here state says (sym e))

      second : (n : ℕ) (trail : Trail) → trail.before ≡ None → Either a b trail.here → IsOffsetSeconds trail.here
          → P (searched (suc (suc n)) zone asked trail)
      second n trail none either small =
          move shown nothing (suc n) trail none small
          (λ there says other.
          let apart : ¬ (state.offset ≡ trail.here) =
          λ same. other (let e : there ≡ state = let both : Some there ≡ Some state = says ∙ ap (state_by zone asked.clock) (sym same)
          ∙ sym here in cc in ap offset_of e ∙ same) in
          let state_near = near (asked.clock -ℤ state.offset) state here in
          third n (moved trail there)
          (sym (other-one a b trail.here there.offset state.offset either (known trail.here there small says)
          (known state.offset state state_near here) other apart)))

      first : (n : ℕ) (guess : ℤ) → IsOffsetSeconds guess → P (searched (suc (suc (suc n))) zone asked (first_trail guess))
      first n guess small =
          move shown nothing (suc (suc n)) (first_trail guess) refl small
          (λ there says other.
          second n (moved (first_trail guess) there) refl (known guess there small says) (near (asked.clock -ℤ guess) there says))

shown-state : (zone : States) (clock offset : ℤ) → shows zone clock offset ≡ true
    → (there : ZoneState) × (Some there ≡ state_by zone clock there.offset) × (there.offset ≡ offset)
shown-state zone clock offset h = grind (arith)

shows-there : (zone : States) (clock offset : ℤ) (there : ZoneState) → Some there ≡ state_by zone clock offset → there.offset ≡ offset
    → shows zone clock offset ≡ true
shows-there zone clock offset there says e = grind (arith)

module _ (zone : States) (a b clock : ℤ) (near : AreNear zone) (two : HasTwoOffsets zone clock a b) where
  -- Where the clock is ever shown, the offset that is found without a flag shows it, from each guess.
  read-if-shown : IsReadIfShown zone clock
  unfolding found_offset
  read-if-shown guess offset small h = by (is_instant clock)
    where
      asked : Asked
      asked = record { clock = clock; daylight = None }

      by : (b : Bool) → IfSome (cond b (searched most_moves zone asked (first_trail guess)) None) (λ found. shows zone clock found ≡ true)
      by true =
          let state = shown-state zone clock offset h in
          first zone a b asked near two (λ (found : Option ℤ). IfSome found (λ found. shows zone clock found ≡ true)) state.0 state.1
          (λ offset there says e. shows-there zone clock there.offset there (says ∙ ap (state_by zone clock) (sym e)) refl)
          (λ offset small e. tt) 3 guess small
      by false = tt

  -- A clock that is shown at one offset is found there with its flag, from each guess.
  found-once : (guess : ℤ) (state : ZoneState) → Some state ≡ state_by zone clock state.offset
      → ((offset : ℤ) → shows zone clock offset ≡ true → offset ≡ state.offset)
      → is_instant clock ≡ true → ((offset : ℤ) → IsOffsetSeconds offset → None ≡ state_by zone clock offset → ⊥) → IsOffsetSeconds guess
      → found_offset zone (record { clock = clock; daylight = Some state.daylight }) guess ≡ Some state.offset
  unfolding found_offset
  found-once guess state here once instant some small =
      ap (λ (b : Bool). cond b (searched most_moves zone by_own (first_trail guess)) None) instant
      ∙ first zone a b by_own near two (λ (found : Option ℤ). found ≡ Some state.offset) state here shown
      (λ offset small e. absurd (some offset small e)) 3 guess small
    where
      by_own : Asked
      by_own = record { clock = clock; daylight = Some state.daylight }

      shown : (offset : ℤ) (there : ZoneState) → Some there ≡ state_by zone clock offset → there.offset ≡ offset
          → Some (by_flag zone by_own (Some state.daylight) there) ≡ Some state.offset
      shown offset there says e =
          let is : offset ≡ state.offset = once offset (shows-there zone clock offset there says e) in
          let both : Some state ≡ Some there = here ∙ ap (state_by zone clock) (sym is) ∙ sym says in
          let same : state ≡ there = cc in
          ap Some (ap (by_flag zone by_own (Some state.daylight)) (sym same) ∙ own-flag zone by_own (Some state.daylight) state refl)

module _ (tz : TimeZone) (clock : ℤ) where
  abbrev zone : States
  zone = states_of tz

  abbrev there_of : ℤ → ZoneState
  there_of seconds = state_there tz (nanos_of_seconds seconds)

  are-near : AreNear zone
  are-near seconds there e = by (is_instant seconds) e
    where
      by : (b : Bool) → Some there ≡ cond b (Some (there_of seconds)) None → IsOffsetSeconds there.offset
      by true e = let is : there_of seconds ≡ there = cc in
          subst IsOffsetSeconds (ap offset_of is) (offset-near tz (nanos_of_seconds seconds))
      by false e = absurd cc

  not-lost : (offset : ℤ) → is_instant (clock -ℤ offset) ≡ true → None ≡ state_by zone clock offset → ⊥
  not-lost offset is e =
      let there : state_by zone clock offset ≡ Some (there_of (clock -ℤ offset)) =
      ap (λ (b : Bool). cond b (Some (there_of (clock -ℤ offset))) None) is in
      let no : None ≡ Some (there_of (clock -ℤ offset)) = e ∙ there in
      absurd cc

  is-read : (a b : ℤ) → HasTwoOffsets zone clock a b → IsRead zone clock
  is-read a b two = record { shown = read-if-shown zone a b clock are-near two; once = once }
    where
      once : IsFoundIfOnce zone clock
      once guess offset small instants is =
          let state = shown-state zone clock offset is.0 in
          let same : clock -ℤ pos 0 ≡ clock = omega (arith, signed_arith) in
          let instant : is_instant clock ≡ true = subst (λ (n : ℤ). is_instant n ≡ true) same (instants (pos 0) zero_in_range) in
          let here : state_by zone clock offset ≡ Some state.0 = ap (state_by zone clock) (sym state.2) ∙ sym state.1 in
          ap (λ (found : Option ZoneState).
          found_offset zone (record { clock = clock; daylight = option_map (λ (x : ZoneState). x.daylight) found }) guess) here
          ∙ found-once zone a b clock are-near two guess state.0 state.1 (λ other h. is.1 other h ∙ sym state.2) instant
          (λ other near e. not-lost other (instants other near) e) small
          ∙ ap Some state.2

-- a rule has two offsets
abbrev offset_by : Offset → Option Dst → ℤ → Offset
offset_by std dst n = match_some (rule.dst_at_by std dst n) std (λ d. d.offset)

abbrev summer_offset : Offset → Option Dst → Offset
summer_offset std dst = match_some dst std (λ d. d.offset)

two-of-rule : (std : Offset) (dst : Option Dst) (n : ℤ) → Either std.seconds (summer_offset std dst).seconds (offset_by std dst n).seconds
two-of-rule std None n = inl refl
two-of-rule std (Some d) n = grind (arith)

rule-offsets : (r : Rule) (clock : ℤ)
    → HasTwoOffsets (states_of (Posix r)) clock r.std_offset.seconds (summer_offset r.std_offset r.dst).seconds
unfolding offset_at
rule-offsets r clock o small = grind (arith, two-of-rule)

pub clocks_read : (tz : TimeZone) → IsClockRead tz
clocks_read tz = record {
  two = λ a b clock two. is-read tz clock a b two;
  rule = λ r clock e.
      subst (λ (z : TimeZone). IsRead (states_of z) clock) (sym e)
      (is-read (Posix r) clock r.std_offset.seconds (summer_offset r.std_offset r.dst).seconds (rule-offsets r clock));
}
