use Rattle.std.proofs.Common.{rules, ◌≡◌, ◌∙◌, ◌+ℤ◌, ℤ, Bool, Option, Some, None, ap, arith, FitsSigned, w64, w32}
use Rattle.std.proofs.lemmas.Int.{to_z-of_z}
use Rattle.jiff.specs.Words.{plain_zone}
use Rattle.jiff_core.proofs.SignedLemmas.{signed_arith}
use Rattle.gix_date.proofs.Fields.Instants.{instant_holds}
use Rattle.gix_date.specs.Fields.Layout.{LocalTime}
use Rattle.git_date.specs.Approximate.Clocks.{clock_shown_at}
use Rattle.git_date.specs.Exact.Zones.{states_of}
use Rattle.git_date.specs.declared.approximate.zone.ZoneClock.{ZoneClock}
use Rattle.git_date.proofs.Guesses.ZoneClocks.{shown-there}
use Rattle.git_date.proofs.Exact.ZoneOffsets.{is-instant-there}
use Rattle.git_date.proofs.approximate.zone.shown_in.Goals.{After-from}
use Rattle.git_date.proofs.approximate.zone.shown_in.Goals as goal

abbrev shown_there : Bool → LocalTime → Option ZoneClock
shown_there daylight clock = Some (record { clock = clock; daylight = daylight })

-- the zone says what is there, and the clock that it shows fits
said : (c : After-from)
    → (Some c.in_ok-there.there ≡ states_of (plain_zone c.args.zone.now) c.args.instant) × (c.from.result ≡ c.in_ok-there.there.offset)
    × FitsSigned w64 (c.args.instant +ℤ c.from.result)
said c =
    let s = c.args.instant in
    let there = c.in_ok-there.there in
    let fits : FitsSigned w64 s = search rules in
    let offset_fits : FitsSigned w32 there.offset = search rules in
    let says : Some there ≡ states_of (plain_zone c.args.zone.now) s = simp to_z-of_z at c.in_ok-there.ensures.value in
    let within = instant_holds s (is-instant-there (plain_zone c.args.zone.now) s there says) in
    let near = c.in_ok-there.ensures.near in
    let from : c.from.result ≡ there.offset = simp to_z-of_z at c.from.ensures in
    (says, from, omega (arith, signed_arith, within, near, from))

pub returns : goal.returns
returns c =
    let s = c.args.instant in
    let there = c.in_ok-there.there in
    let h = said (goal.at.returns c).After-from in
    let fits : FitsSigned w64 s = search rules in
    let offset_fits : FitsSigned w32 there.offset = search rules in
    let from_fits : FitsSigned w64 c.from.result = search rules in
    let sum_fits : FitsSigned w64 (s +ℤ c.from.result) = h.2 in
    let shown : Some c.in_ok-shown.shown ≡ clock_shown_at (s +ℤ c.from.result) = simp to_z-of_z at c.in_ok-shown.ensures in
    let moved = simp to_z-of_z at c.with_offset.ensures in
    ap (shown_there there.daylight) moved
    ∙ shown-there (states_of (plain_zone c.args.zone.now)) s there (Some c.in_ok-shown.shown) h.0
    (shown ∙ ap (λ (o : ℤ). clock_shown_at (s +ℤ o)) h.1)

pub returns-in_err-shown : goal.returns-in_err-shown
returns-in_err-shown c =
    let s = c.args.instant in
    let there = c.in_ok-there.there in
    let h = said (goal.at.returns-in_err-shown c).After-from in
    let fits : FitsSigned w64 s = search rules in
    let from_fits : FitsSigned w64 c.from.result = search rules in
    let sum_fits : FitsSigned w64 (s +ℤ c.from.result) = h.2 in
    let shown : None ≡ clock_shown_at (s +ℤ c.from.result) = simp to_z-of_z at c.in_err-shown.ensures in
    c.from_residual-in_err-shown.ensures
    ∙ shown-there (states_of (plain_zone c.args.zone.now)) s there None h.0 (shown ∙ ap (λ (o : ℤ). clock_shown_at (s +ℤ o)) h.1)
