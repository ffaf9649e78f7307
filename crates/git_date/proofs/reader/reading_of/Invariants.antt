use Rattle.std.proofs.Common.{length}
use Rattle.git_date.specs.Exact.Reading.{step, reading_of}
use Rattle.git_date.proofs.Text.Folds.{Left}
use Rattle.git_date.proofs.reader.reading_of.Given as goal

abbrev pub invariant-tokens : goal.invariant-tokens
invariant-tokens l = Left (step l.now) (reading_of l.now l.text) l.rest l.reading

abbrev pub decreases-tokens : goal.decreases-tokens
decreases-tokens l = length l.rest
