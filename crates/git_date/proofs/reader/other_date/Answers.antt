use Rattle.std.proofs.Common.{◌∙◌, sym, ap}
use Rattle.jiff.specs.Words.{plain_zone}
use Rattle.git_date.specs.Rules.Dates.{now_at}
use Rattle.git_date.specs.Exact.Outcome.{date_of}
use Rattle.git_date.proofs.Exact.SaidDates.{told}
use Rattle.git_date.proofs.reader.other_date.Goals as goal

pub returns-in-Some : goal.returns-in-Some
returns-in-Some c =
    c.date_said.ensures
    ∙ ap (date_of (plain_zone c.args.zone))
    (sym (told c.args.text.now (now_at c.args.now.nanosecond) c.in-Some.said c.in-Some.ensures.says))
