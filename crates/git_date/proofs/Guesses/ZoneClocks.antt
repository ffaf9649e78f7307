-- What a zone's clock shows at an instant, and at which instant a clock is found.
use Rattle.std.proofs.Common.{◌≡◌, ◌∙◌, ◌+ℤ◌, ◌-ℤ◌, ◌^◌, ℕ, ℤ, pos, neg_ℤ, Bool, true, false, Option, Some, Result, FitsSigned}
use Rattle.std.proofs.Common.{w32, option_map, option_and_then, ap, arith}
use Rattle.std.specs.Prelude.{ok_or}
use Rattle.jiff_core.proofs.SignedLemmas.{signed_arith}
use Rattle.jiff_core.specs.Calendar.{IsBetween}
use Rattle.gix_date.proofs.Fields.Instants.{instant_holds}
use Rattle.gix_date.specs.Fields.Layout.{LocalTime}
use Rattle.gix_date.specs.Fields.Zoned.{is_instant}
use Rattle.git_date.specs.Approximate.Clocks.{clock_shown_at}
use Rattle.git_date.specs.Approximate.Zones.{clock_at, shown_in, found_by, found_at, filled_instant, moved_to, before, fill}
use Rattle.git_date.specs.Exact.Zones.{States, before_leap, found_offset}
use Rattle.git_date.specs.Tokens.Steps.{and_then}
use Rattle.git_date.specs.declared.approximate.drafts.Draft.{Draft}
use Rattle.git_date.specs.declared.approximate.drafts.LastShown.{LastShown}
use Rattle.git_date.specs.declared.approximate.zone.Found.{Found}
use Rattle.git_date.specs.declared.error.Fault.{Fault}
use Rattle.git_date.specs.declared.error.Fault.TheVariants.{Range}
use Rattle.git_date.specs.declared.zones.ZoneState.{ZoneState}

-- what the zone's clock shows
pub shown-there : (zone : States) (instant : ℤ) (there : ZoneState) (shown : Option LocalTime) → Some there ≡ zone instant
    → shown ≡ clock_shown_at (instant +ℤ there.offset) → option_map (clock_at there) shown ≡ shown_in zone instant
unfolding shown_in
shown-there zone instant there shown h e =
    ap (option_map (clock_at there)) e
    ∙ ap (option_and_then (λ (there : ZoneState). option_map (clock_at there) (clock_shown_at (instant +ℤ there.offset)))) h

-- the instant that is found is near the clock
pub found-near : (leap : Bool) (local guess : ℤ) → is_instant (before_leap leap local) ≡ true → FitsSigned w32 guess
    → IsBetween (neg_ℤ (pos (10 ^ 15))) (pos (10 ^ 15)) (local -ℤ guess)
found-near true local guess e fits =
    let within = instant_holds (local -ℤ pos 1) e in
    (omega (arith, signed_arith, within, fits), omega (arith, signed_arith, within, fits))
found-near false local guess e fits =
    let within = instant_holds local e in
    (omega (arith, signed_arith, within, fits), omega (arith, signed_arith, within, fits))

pub found-there : (zone : States) (last : LastShown) (leap : Bool) (local guess : ℤ)
    → Some guess ≡ found_offset zone (record { clock = before_leap leap local; daylight = Some last.daylight }) last.guess
    → Some (found_by local guess) ≡ found_at zone last leap local
unfolding found_at
found-there zone last leap local guess h = ap (option_map (found_by local)) h

-- a date that is filled in
pub filled_by : (zone : States) (today : LocalTime) (d : Draft) (back left : ℕ) (found : Found) (s : ℤ) (r : Result Draft Fault)
    → s ≡ found.instant -ℤ pos back → Some found ≡ filled_instant zone today d.last d.fields
    → r ≡ moved_to zone d left (record { instant = s; guess = found.guess }) → r ≡ fill zone today d back left
unfolding fill
filled_by zone today d back left found s r at e is =
    is ∙ ap (λ (s : ℤ). moved_to zone d left (record { instant = s; guess = found.guess })) at
    ∙ ap (λ (o : Option Found). and_then (ok_or o Range) (λ found. moved_to zone d left (before found back))) e
