use Rattle.std.proofs.Common.{◌≡◌, ◌<◌, ◌^◌, ◌∙◌, ◌-ℤ◌, ℤ, pos, refl, arith, ap, ap₂, FitsSigned, w8, w16, w32, w64}
use Rattle.std.proofs.lemmas.Int.{to_z-of_z, to_z_pos}
use Rattle.jiff_core.proofs.SignedLemmas.{signed_arith}
use Rattle.jiff_core.specs.DateTime.{civil_seconds as shown_seconds}
use mir.Val.{hbits}
use Rattle.jiff_core.specs.Calendar.{IsDate}
use Rattle.jiff_core.specs.Time.{IsTime}
use Rattle.gix_date.specs.Fields.Civil.{civil_seconds}
use Rattle.gix_date.proofs.Fields.Instants.{no_date_or_clock, no_instant, an_instant, local_seconds}
use Rattle.gix_date.proofs.clock.instant_at.Goals.{After-from}
use Rattle.gix_date.proofs.clock.instant_at.Goals.{else-seconds-ge-FIRST_SECOND-via-then-seconds-ge-FIRST_SECOND+else-seconds-le-LAST_SECOND}
use Rattle.gix_date.proofs.clock.instant_at.Goals.{else-seconds-ge-FIRST_SECOND-via-else-seconds-ge-FIRST_SECOND}
use Rattle.gix_date.proofs.clock.instant_at.Goals as goal

pub returns-in_default : goal.returns-in_default
returns-in_default c =
    let fy : c.args.date.year < 2 ^ hbits w16 = omega (arith, c.requires.date.year) in
    let fm : c.args.date.month < 2 ^ hbits w8 = omega (arith, c.requires.date.month) in
    let fd : c.args.date.day < 2 ^ hbits w8 = omega (arith, c.requires.date.day) in
    let fh : c.args.clock.hour < 2 ^ hbits w8 = omega (arith, c.requires.clock.hour) in
    let fi : c.args.clock.minute < 2 ^ hbits w8 = omega (arith, c.requires.clock.minute) in
    let fs : c.args.clock.second < 2 ^ hbits w8 = omega (arith, c.requires.clock.second) in
    let made = simp to_z_pos at c.in_default.ensures.succeeds in
    no_date_or_clock c.args.date c.args.clock c.args.offset c.requires.date.year (λ h. absurd (let e = made.1 (h.0, h.1) in cc))

-- the date and the clock are some, and their seconds fit
abbrev seconds_of : After-from → ℤ
seconds_of c = c.to_second.result -ℤ c.from.result

are : (c : After-from)
    → (IsDate (pos c.args.date.year) (pos c.args.date.month) (pos c.args.date.day)
    × IsTime (pos c.args.clock.hour) (pos c.args.clock.minute) (pos c.args.clock.second) (pos 0))
    × (seconds_of c ≡ civil_seconds c.args.date c.args.clock c.args.offset) × FitsSigned w64 c.to_second.result
    × FitsSigned w64 c.from.result × FitsSigned w64 (seconds_of c)
are c =
    let fy : c.args.date.year < 2 ^ hbits w16 = omega (arith, c.requires.date.year) in
    let fm : c.args.date.month < 2 ^ hbits w8 = omega (arith, c.requires.date.month) in
    let fd : c.args.date.day < 2 ^ hbits w8 = omega (arith, c.requires.date.day) in
    let fh : c.args.clock.hour < 2 ^ hbits w8 = omega (arith, c.requires.clock.hour) in
    let fi : c.args.clock.minute < 2 ^ hbits w8 = omega (arith, c.requires.clock.minute) in
    let fs : c.args.clock.second < 2 ^ hbits w8 = omega (arith, c.requires.clock.second) in
    let made = simp to_z_pos at c.in-Ok.ensures.succeeds in
    let parts = simp to_z_pos at c.in-Ok.ensures.value in
    let fo : FitsSigned w32 c.args.offset = c.ranges.offset in
    let from = simp to_z-of_z at c.from.ensures in
    let shown = c.to_second.ensures.value ∙ ap shown_seconds c.to_plain.ensures in (
      made.0 refl,
      ap₂ (λ (a b : ℤ). a -ℤ b) shown from ∙ local_seconds c.in-Ok.local c.args.date c.args.clock c.args.offset parts.0 parts.1,
      omega (arith, signed_arith, c.to_second.ensures.bound),
      omega (arith, signed_arith, from, c.requires.offset),
      omega (arith, signed_arith, c.to_second.ensures.bound, from, c.requires.offset),
    )

pub returns-then-seconds-le-LAST_SECOND : goal.returns-then-seconds-le-LAST_SECOND
returns-then-seconds-le-LAST_SECOND c =
    let h = are (goal.at.returns-then-seconds-le-LAST_SECOND c).After-from in
    let fa : FitsSigned w64 c.to_second.result = h.2 in
    let fb : FitsSigned w64 c.from.result = h.3 in
    let fc : FitsSigned w64 (c.to_second.result -ℤ c.from.result) = h.4 in
    let low = simp to_z-of_z at c.if-seconds-ge-FIRST_SECOND.true in
    let high = simp to_z-of_z at c.if-seconds-le-LAST_SECOND.true in
    let same = h.1 in
    simp to_z-of_z (an_instant c.args.date c.args.clock c.args.offset (c.to_second.result -ℤ c.from.result) h.0.0 h.0.1
    (omega (arith, signed_arith, low, same), omega (arith, signed_arith, high, same)) same)

pub returns-else-seconds-ge-FIRST_SECOND : goal.returns-else-seconds-ge-FIRST_SECOND
returns-else-seconds-ge-FIRST_SECOND c =
    let h = are (goal.at.returns-else-seconds-ge-FIRST_SECOND c).After-from in
    let fa : FitsSigned w64 c.to_second.result = h.2 in
    let fb : FitsSigned w64 c.from.result = h.3 in
    let fc : FitsSigned w64 (c.to_second.result -ℤ c.from.result) = h.4 in
    let same = h.1 in
    no_instant c.args.date c.args.clock c.args.offset (λ within.
    elim c.else-seconds-ge-FIRST_SECOND.branch [
      | else-seconds-ge-FIRST_SECOND-via-then-seconds-ge-FIRST_SECOND+else-seconds-le-LAST_SECOND w ↦ let out =
          simp to_z-of_z at w.if-seconds-le-LAST_SECOND.false in omega (arith, signed_arith, out, same, within)
      | else-seconds-ge-FIRST_SECOND-via-else-seconds-ge-FIRST_SECOND w ↦ let out = simp to_z-of_z at w.if-seconds-ge-FIRST_SECOND.false in
          omega (arith, signed_arith, out, same, within)
    ])
