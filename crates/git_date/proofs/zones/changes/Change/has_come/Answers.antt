use Rattle.git_date.proofs.Exact.RuleYears.{come_before, to_come}
use Rattle.git_date.proofs.zones.changes.Change.has_come.Goals as goal

pub returns-then-self-slack : goal.returns-then-self-slack
returns-then-self-slack c =
    let slack = c.slack-slack.ensures in
    come_before c.args.self c.args.today c.args.seconds c.slack-slack.result slack.own slack.few c.requires c.if-self-slack.true

pub returns-then-today-slack : goal.returns-then-today-slack
returns-then-today-slack c =
    let slack = c.slack-slack.ensures in
    to_come c.args.self c.args.today c.args.seconds c.slack-slack.result slack.own slack.few c.requires c.if-today-slack.true
