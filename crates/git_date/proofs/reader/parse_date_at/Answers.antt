use Rattle.jiff.specs.Words.{plain_zone}
use Rattle.git_date.specs.Rules.Dates.{now_at}
use Rattle.git_date.proofs.Exact.SaidDates.{said_places}
use Rattle.git_date.proofs.reader.parse_date_at.Goals as goal

pub returns-in-Some-clause-places : goal.returns-in-Some-clause-places
returns-in-Some-clause-places c =
    said_places (now_at c.args.now.nanosecond) (plain_zone c.args.zone) c.args.text.now c.in-Some.date c.in-Some.ensures
