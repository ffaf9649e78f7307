use Rattle.std.proofs.Common.{◌/◌, ◌%◌, arith}
use Rattle.gix_date.proofs.Fast.WrittenHeaders.{header-printed}
use Rattle.gix_date.proofs.clock.pieces.header_bytes.Goals as goal

pub returns : goal.returns
returns c =
    let n = c.args.n in
    let low = n % 100000000 in
    let d = c.args.distance in
    header-printed (n / 100000000) (low / 10000 / 100) (low / 10000 % 100) (low % 10000 / 100) (low % 10000 % 100) c.args.more (d / 3600)
    (d % 3600 / 60)
    (omega (arith, c.requires.digits)) (omega arith) (omega arith) (omega arith) (omega arith) c.requires.sign
    (omega (arith, c.requires.hours)) (omega arith)
