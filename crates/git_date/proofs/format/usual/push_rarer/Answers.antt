use Rattle.std.proofs.Common.{◌≤◌, arith, refl}
use Rattle.git_date.specs.Formats.Shown.{shown_of}
use Rattle.git_date.proofs.Formats.Short.{appended}
use Rattle.git_date.proofs.Formats.Usual.{all_shown}
use Rattle.git_date.proofs.format.usual.push_rarer.Goals as goal

pub returns-in-99 : goal.returns-in-99
returns-in-99 g c =
    let low : 1000 ≤ c.args.shown.now.clock.date.year = omega (arith, c.if-year-ge1000.true) in
    let pairs = c.know_pairs.ensures in
    appended c.args.out.now.bytes c.push_date_and_clock.new.out.bytes _ _ _
    (all_shown (shown_of c.args.shown.now) c.args.letter c.in-99.is low pairs.year pairs.clock.0 pairs.clock.1
    pairs.clock.2) refl c.push_date_and_clock.ensures
