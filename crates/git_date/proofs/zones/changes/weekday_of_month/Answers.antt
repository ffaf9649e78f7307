use Rattle.std.proofs.Common.{rules}
use Rattle.git_date.proofs.zones.changes.weekday_of_month.Goals as goal

pub returns : goal.returns
returns c = search rules
