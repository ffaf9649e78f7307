use lib.Utf8.{encode}
use Rattle.std.proofs.Common.{◌<◌, arith}
use Rattle.git_date.proofs.Formats.Usual.{spaced-appended}
use Rattle.git_date.proofs.format.usual.push_spaced_day.Goals as goal

pub returns-then-day-lt10-clause-bytes : goal.returns-then-day-lt10-clause-bytes
unfolding encode
returns-then-day-lt10-clause-bytes g c =
    let small : c.args.t.date.day < 10 = omega (arith, c.if-day-lt10.true, c.day-day.ensures.value) in
    spaced-appended _ _ _ c.args.t.date.day _ _ small c.day-day.ensures.value c.from.ensures c.push.ensures.bytes
    c.push-then-day-lt10.ensures.bytes
