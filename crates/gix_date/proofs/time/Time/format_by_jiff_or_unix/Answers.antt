use Rattle.gix_date.proofs.Printing.Seconds.{seconds-in_place}
use Rattle.gix_date.proofs.time.Time.format_by_jiff_or_unix.Goals as goal

pub returns-in-Err-2 : goal.returns-in-Err-2
returns-in-Err-2 c =
    seconds-in_place c.args.self.now c.args.pattern.now c.in-Err.error c.is_memory.result c.unix_seconds.result
    c.in-Err.ensures c.is_memory.ensures c.if-is_memory.false c.unix_seconds.ensures
