use Rattle.std.proofs.Common.{rules, FitsSigned, w64}
use Rattle.std.proofs.lemmas.Int.{to_z-of_z}
use Rattle.git_date.proofs.Exact.RuleYears.{daylight_told}
use Rattle.git_date.proofs.zones.rules.is_daylight.Goals as goal

pub returns : goal.returns
returns c =
    let fits : FitsSigned w64 c.args.seconds = search rules in
    simp to_z-of_z at (daylight_told c.args.rule c.args.standard c.in_ok-start.start c.in_ok-end.end c.in_ok-today.today _ _ _ _ _
    c.in_ok-start.ensures c.in_ok-end.ensures c.in_ok-today.ensures c.in_ok-starts_first.ensures c.has_come-started.ensures
    c.has_come-ended.ensures c.is_on.ensures)
