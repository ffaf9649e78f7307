use Rattle.std.proofs.Common.{rules, ◌≡◌, ◌∙◌, ℤ, Bool, sym, ap, ap₂, FitsSigned, w64, w32, true, false, refl}
use Rattle.std.proofs.lemmas.Int.{to_z-of_z}
use Rattle.jiff.specs.Words.{plain_zone, plain_info, nanos_of_seconds, offset_at}
use Rattle.jiff_core.specs.declared.Offset.{Offset}
use Rattle.jiff_tz.specs.Flag.{is_dst}
use Rattle.gix_date.specs.Fields.Zoned.{is_instant}
use Rattle.git_date.specs.Exact.Zones.{daylight_at}
use Rattle.git_date.specs.declared.zones.ZoneState.{ZoneState}
use Rattle.git_date.proofs.Exact.ZoneOffsets.{says-there, offset-told, fixed-flag, daylight-told}
use Rattle.git_date.proofs.zones.state_at.Goals as goal

abbrev state : ℤ → Bool → ZoneState
state offset daylight = record { offset = offset; daylight = daylight }

pub returns-in-Ok-clause-value : goal.returns-in-Ok-clause-value
returns-in-Ok-clause-value c =
    let zone = plain_zone c.args.zone.now in
    let s = c.args.seconds in
    let fits : FitsSigned w64 s = search rules in
    let offset_fits : FitsSigned w32 c.seconds.result = search rules in
    let test : c.is_instant.result ≡ is_instant s = simp to_z-of_z at c.is_instant.ensures in
    let is : is_instant s ≡ true = sym test ∙ c.if-not-is_instant.false in
    let offset : c.seconds.result ≡ offset_at zone (nanos_of_seconds s) = c.seconds.ensures ∙ c.in-Ok.ensures.value (nanos_of_seconds s) in
    let daylight = fixed-flag zone (nanos_of_seconds s) (c.in-Ok.ensures.succeeds.0 refl) in
    simp to_z-of_z (says-there zone s (record { offset = c.seconds.result; daylight = false }) is
    (ap₂ state offset (sym daylight)))

pub returns-clause-value : goal.returns-clause-value
returns-clause-value c =
    let zone = plain_zone c.args.zone.now in
    let s = c.args.seconds in
    let fits : FitsSigned w64 s = search rules in
    let offset_fits : FitsSigned w32 c.seconds-2.result = search rules in
    let info = plain_info c.to_offset_info-info.result in
    let test : c.is_instant.result ≡ is_instant s = simp to_z-of_z at c.is_instant.ensures in
    let is : is_instant s ≡ true = sym test ∙ c.if-not-is_instant.false in
    let at : c.in-Ok-from_second.at.nanosecond ≡ nanos_of_seconds s = simp to_z-of_z at c.in-Ok-from_second.ensures.value in
    let offset : c.seconds-2.result ≡ offset_at zone (nanos_of_seconds s) =
    c.seconds-2.ensures ∙ ap (λ (o : Offset). o.seconds) c.offset.ensures
    ∙ offset-told zone c.in-Ok-from_second.at.nanosecond info c.to_offset_info-info.ensures ∙ ap (offset_at zone) at in
    let daylight : c.is_dst.result ≡ daylight_at zone (nanos_of_seconds s) =
    c.is_dst.ensures ∙ ap is_dst c.dst.ensures ∙ daylight-told zone c.in-Ok-from_second.at.nanosecond info c.to_offset_info-info.ensures
    ∙ ap (daylight_at zone) at in
    simp to_z-of_z (says-there zone s (record { offset = c.seconds-2.result; daylight = c.is_dst.result }) is
    (ap₂ state offset daylight))
