use Rattle.std.proofs.Common.{◌≡◌, rules, Some, true}
use Rattle.std.specs.Str.{is_utf8}
use Rattle.gix_date.specs.Families.Answer.FamilyAnswer.{Absolute}
use Rattle.gix_date.specs.Families.Order.{first_family_by}
use Rattle.gix_date.specs.Families.Raw.{allows}
use Rattle.gix_date_c.specs.Moments.{has_instant}
use Rattle.gix_date_c.specs.Parsing.{raw_rule}
use Rattle.gix_date_c.specs.Zones.{HasZone}
use Rattle.gix_date_c.proofs.Placed.{usual}
use Rattle.gix_date_c.proofs.parse.usual_there.Goals as goal

pub returns : goal.returns
returns c =
    let is_rule : raw_rule c.args.raw_offsets ≡ Some c.in_ok-rule.rule = search rules in
    let zone : HasZone c.args.zone.now = search rules in
    let there : has_instant c.args.now.now ≡ true = search rules in
    let is : is_utf8 c.args.text.now ≡ true = search rules in
    let first : first_family_by (allows c.in_ok-rule.rule) c.args.text.now ≡ Some (Absolute c.in_ok-date.date) = search rules in
    usual c.args.raw_offsets c.args.zone.now c.args.now.now c.args.text.now c.in_ok-rule.rule c.in_ok-date.date zone there is_rule is first
