use Rattle.std.proofs.Common.{◌∙◌, ap, rules, FitsSigned, w32, w64}
use Rattle.std.proofs.lemmas.Int.{to_z-of_z}
use Rattle.jiff.specs.Words.{plain_zoned, offset_at, zoned_nanos}
use Rattle.jiff.proofs.ZoneFacts.{offset_at-fixed_zone}
use Rattle.gix_date.proofs.time.Time.to_zoned.Goals as goal

pub returns-in-Ok-from_second-clause-value : goal.returns-in-Ok-from_second-clause-value
returns-in-Ok-from_second-clause-value c =
    let seconds_fit : FitsSigned w64 c.args.self.seconds = search rules in
    let offset_fits : FitsSigned w32 c.args.self.offset = search rules in
    let zone = c.to_zoned.ensures.zone ∙ c.to_time_zone.ensures in
    let seconds = simp to_z-of_z at c.in-Ok-from_second.ensures.value in
    let offset = simp to_z-of_z at c.in-Ok.ensures.value in
    record {
      instant = rw c.to_zoned.ensures.instant seconds;
      offset_is = (plain_zoned c.to_zoned.result).offset_is
          ∙ ap (λ tz. offset_at tz (zoned_nanos c.to_zoned.result)) zone
          ∙ offset_at-fixed_zone c.in-Ok.offset (zoned_nanos c.to_zoned.result)
          ∙ offset;
      zone = (c.in-Ok.offset, offset, zone);
    }
