-- The moment's instant.
use Rattle.std.proofs.Common.{ℕ, List, ap, length}
use Rattle.jiff.specs.declared.zoned.Zoned.{Zoned}
use Rattle.git_date.specs.Rules.Dates.{now_of}
use Rattle.git_date_laws.proofs.Alike.Recent.{string-same, none-met}
use Rattle.git_date.specs.Tokens.Strings.{before_nul, nul_place}
use Rattle.git_date.specs.Exact.Reading.{said_by, said_up_to, nothing_read}
use Rattle.git_date.specs.Tokens.Tokens.{tokens}
use Rattle.git_date_laws.specs.Laws.{IgnoresInstant, IsWithoutDayMonth}

pub any_instant : (moment : Zoned) (text : List ℕ) → IgnoresInstant moment text
unfolding said_by
any_instant moment text other h = ap (said_up_to (nul_place text)) (string-same (now_of moment) (now_of other) (before_nul text) h)

pub without_days : (moment : Zoned) (text : List ℕ) → IsWithoutDayMonth moment text
without_days moment text h = none-met (now_of moment) (length (before_nul text)) nothing_read (tokens (before_nul text)) h
