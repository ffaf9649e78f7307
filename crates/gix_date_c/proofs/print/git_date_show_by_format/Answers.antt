use Rattle.std.proofs.Common.{◌∙◌, ap, refl, subst, Ok}
use Rattle.gix_date_c.specs.Git.Formats.{IsByFormat, checked_bytes}
use Rattle.gix_date_c.specs.Git.Modes.{local_of}
use Rattle.gix_date_c.specs.Values.Buffers.{outcome_of}
use Rattle.gix_date_c.specs.Zones.{HasZone}
use Rattle.gix_date_c.proofs.print.git_date_show_by_format.Goals as goal

pub returns-then-is_own_brief : goal.returns-then-is_own_brief
unfolding HasZone
returns-then-is_own_brief c =
    let zone = c.is_zone.ensures c.if-is_zone.true in
    let text = c.is_own_brief.new.brief.bytes in (
      Ok text,
      (
        Ok zone.0,
        zone.1,
        subst (λ t. IsByFormat t zone.0 (local_of c.args.local) (checked_bytes c.args.format.now) (Ok text)) c.load_time.ensures
            (c.is_own_brief.ensures c.if-is_own_brief.true zone.0),
      ),
      c.store_text.ensures ∙ ap (λ xs. outcome_of (Ok xs) c.args.out.now) c.as_str.ensures.value,
      refl,
    )
