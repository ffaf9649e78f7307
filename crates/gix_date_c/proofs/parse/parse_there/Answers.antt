use Rattle.std.proofs.Common.{◌≡◌, rules, List, ℕ, Some, Ok, subst}
use Rattle.std.specs.Result.{result_map_both}
use Rattle.jiff.specs.Words.{plain_zone}
use Rattle.gix_date.specs.Families.Order.{ParseNoAllocOutcome, first_family_by}
use Rattle.gix_date.specs.Families.Raw.{allows}
use Rattle.gix_date_c.specs.Moments.{place_of}
use Rattle.gix_date_c.specs.Parsing.{raw_rule, refusal_status}
use Rattle.gix_date_c.proofs.Placed.{at_moment}
use Rattle.gix_date_c.proofs.parse.parse_there.Goals as goal

pub returns : goal.returns
returns c =
    let is_rule : raw_rule c.args.raw_offsets ≡ Some c.in_ok-rule.rule = search rules in
    let same : place_of (Ok c.to_zoned.result) ≡ Ok (c.args.now.nanosecond, plain_zone c.args.zone) = search rules in
    let shown : c.map_err.result ≡ result_map_both (λ t. t) refusal_status c.parse_unusual.result = search rules in
    at_moment c.args.raw_offsets _ c.in_ok-rule.rule c.to_zoned.result _ c.parse_unusual.result _ is_rule c.in_ok-text.ensures.1 same
    (subst (λ (text : List ℕ). ParseNoAllocOutcome (first_family_by (allows c.in_ok-rule.rule) text) (Some c.to_zoned.result)
    c.parse_unusual.result) c.in_ok-text.ensures.0 c.parse_unusual.ensures.outcome)
    shown
