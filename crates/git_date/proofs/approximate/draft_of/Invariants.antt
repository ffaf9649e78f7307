use Rattle.std.proofs.Common.{length}
use Rattle.jiff.specs.Words.{plain_zone}
use Rattle.git_date.specs.Approximate.Reading.{approximate_step, draft_of}
use Rattle.git_date.specs.Exact.Zones.{states_of}
use Rattle.git_date.proofs.Text.Folds.{Left}
use Rattle.git_date.proofs.approximate.draft_of.Given as goal

abbrev pub invariant-tokens : goal.invariant-tokens
invariant-tokens l =
    Left (approximate_step (states_of (plain_zone l.zone)) l.today) (draft_of (states_of (plain_zone l.zone)) l.today l.text) l.rest l.draft

abbrev pub decreases-tokens : goal.decreases-tokens
decreases-tokens l = length l.rest
