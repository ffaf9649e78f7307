-- The time of a date in a zone, from what the zone chooses.
use Rattle.std.proofs.Common.{arith, ◌≡◌, ◌∙◌, ℤ, sym, subst, rules, pos, ◌*ℤ◌, ◌+ℤ◌, FitsSigned, w64, refl, ap}
use Rattle.jiff.specs.Words.{civil_nanos, epoch_day, nanos_of_seconds, offset_at, plain_zone, zoned_nanos}
use Rattle.jiff.specs.Types.{TimeZone, DateTime, Date, Time as Clock}
use Rattle.gix_date.specs.Careful.Dates.{IsLocalTime}
use Rattle.gix_date.specs.Fields.Zoned.{whole_seconds}
use Rattle.gix_date.specs.Relative.Steps.{IsPicked, civil_of, zone_of}
use Rattle.gix_date.specs.declared.time.Time.{Time}
use Rattle.gix_date.proofs.Relative.Steps.{civil-of as civil-shown}
use Rattle.std.proofs.lemmas.Int.{to_z-of_z}
use Rattle.jiff_core.proofs.SignedLemmas.{signed_arith}
use Rattle.gix_date.proofs.Fields.Instants.{instant_holds, instant_range}
use Rattle.gix_date.proofs.parsing.careful.time_in_zone.Goals.{After-to_datetime-shown}
use Rattle.gix_date.proofs.parsing.careful.time_in_zone.Goals as goal

civil-is : (t : Time) (dt : DateTime) (date : Date) (clock : Clock) → civil_nanos dt ≡ nanos_of_seconds t.seconds → dt.date ≡ date
    → dt.time ≡ clock → civil_of (epoch_day date) clock ≡ nanos_of_seconds t.seconds
civil-is t dt date clock shown d k = sym (civil-shown dt date clock d k) ∙ shown

local-is : (tz : TimeZone) (t r : Time) (dt : DateTime) (date : Date) (clock : Clock) (j : ℤ) → civil_nanos dt ≡ nanos_of_seconds t.seconds
    → dt.date ≡ date → dt.time ≡ clock
    → IsPicked tz (civil_of (epoch_day date) clock) j → r.seconds ≡ whole_seconds j → r.offset ≡ offset_at tz j → IsLocalTime tz t r
local-is tz t r dt date clock j shown d k picked s o = grind (arith, civil-is)

none-local : (tz : TimeZone) (t r : Time) (dt : DateTime) (date : Date) (clock : Clock) → civil_nanos dt ≡ nanos_of_seconds t.seconds
    → dt.date ≡ date → dt.time ≡ clock
    → ((j : ℤ) → ¬ (IsPicked tz (civil_of (epoch_day date) clock) j)) → IsLocalTime tz t r → ⊥
none-local tz t r dt date clock shown d k none h =
    none h.instant (subst (λ (n : ℤ). IsPicked tz n h.instant) (sym (civil-is t dt date clock shown d k)) h.picked)

pub returns-in_default-clause-local : goal.returns-in_default-clause-local
returns-in_default-clause-local c =
    let seconds = c.args.time.seconds in
    let fits : FitsSigned w64 seconds = search rules in
    let placed = simp to_z-of_z at c.in_default.ensures.succeeds in
    λ r h.
    absurd (let e = placed.1 ((instant_range (seconds *ℤ pos 1_000_000_000) seconds refl).1 (instant_holds seconds c.requires)) in cc)

-- the clock in UTC shows the time's seconds
shown-is : (c : After-to_datetime-shown) → civil_nanos c.to_datetime-shown.result ≡ nanos_of_seconds c.args.time.seconds
shown-is c =
    let fits : FitsSigned w64 c.args.time.seconds = search rules in
    let at = simp to_z-of_z at c.in-Ok.ensures.value in
    let dt : civil_nanos c.to_datetime-shown.result ≡ c.in-Ok.instant.nanosecond +ℤ nanos_of_seconds (pos 0) =
    c.to_datetime-shown.ensures in
    omega (arith, signed_arith, dt, at)

pub returns-in-Some-clause-local : goal.returns-in-Some-clause-local
returns-in-Some-clause-local c =
    let shown = shown-is (goal.at.returns-in-Some-clause-local c).After-to_datetime-shown in
    let zone : plain_zone c.time_zone.result ≡ zone_of c.args.moment = c.time_zone.ensures in
    let picked = subst (λ (tz : TimeZone). IsPicked tz (civil_of (epoch_day c.date.result) c.time.result) (zoned_nanos c.in-Some.local))
    zone c.in-Some.ensures.instant in
    let offset = c.time_of_moment.ensures.offset
    ∙ ap (λ (tz : TimeZone). offset_at tz (zoned_nanos c.in-Some.local)) (c.in-Some.ensures.zone ∙ zone) in
    local-is (zone_of c.args.moment) c.args.time c.time_of_moment.result c.to_datetime-shown.result c.date.result c.time.result
    (zoned_nanos c.in-Some.local) shown (sym c.date.ensures) (sym c.time.ensures)
    picked c.time_of_moment.ensures.seconds offset

pub returns-in-None-clause-local : goal.returns-in-None-clause-local
returns-in-None-clause-local c =
    let shown = shown-is (goal.at.returns-in-None-clause-local c).After-to_datetime-shown in
    let zone : plain_zone c.time_zone.result ≡ zone_of c.args.moment = c.time_zone.ensures in
    λ r h. none-local (zone_of c.args.moment) c.args.time r c.to_datetime-shown.result c.date.result c.time.result shown
    (sym c.date.ensures) (sym c.time.ensures)
    (λ j p. c.in-None.ensures.instant j
    (subst (λ (tz : TimeZone). IsPicked tz (civil_of (epoch_day c.date.result) c.time.result) j) (sym zone) p)) h
