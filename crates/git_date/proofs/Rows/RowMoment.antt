-- The moment of worked texts, 2009-08-30 19:20:00 in UTC.
use Rattle.std.proofs.Common.{pos}
use Rattle.git_date.specs.declared.fields.dates.Now.{Now}

abbrev pub row_now : Now
row_now = record { seconds = pos 1_251_660_000 }
