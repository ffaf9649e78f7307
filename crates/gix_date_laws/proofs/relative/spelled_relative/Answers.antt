use Rattle.gix_date_laws.proofs.Pairs.{free-by-parity, relative-spelled}
use Rattle.gix_date_laws.proofs.relative.spelled_relative.Goals as goal

pub returns-clause-so : goal.returns-clause-so
returns-clause-so c = relative-spelled c.args.text.now c.utf8.text

pub returns-clause-parity : goal.returns-clause-parity
returns-clause-parity c = free-by-parity
