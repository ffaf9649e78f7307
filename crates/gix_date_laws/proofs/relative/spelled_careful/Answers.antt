use Rattle.gix_date.specs.Families.Raw.{allows}
use Rattle.gix_date_laws.proofs.Clear.Dates.{answers-pairs}
use Rattle.gix_date_laws.proofs.Clear.Grammar.{careful-spelled}
use Rattle.gix_date_laws.proofs.relative.spelled_careful.Goals as goal

pub returns-clause-so : goal.returns-clause-so
returns-clause-so c = careful-spelled c.args.text.now

pub returns-clause-answer : goal.returns-clause-answer
returns-clause-answer c = answers-pairs (allows c.args.raw) c.args.text.now c.utf8.text
