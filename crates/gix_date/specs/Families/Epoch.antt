-- Seconds alone: at texts, and the bare epoch.
use Rattle.std.specs.Prelude.{ℕ, List, ℤ, pos, if◌then◌else◌, Option, Some, None, option_map}
use Rattle.std.specs.Option.{option_or}
use Rattle.std.specs.Int.Signed.{le_z}
use Rattle.gix_date.specs.Text.Characters.{at_sign}
use Rattle.gix_date.specs.Text.Front.{skip_char, ◌>>=◌}
use Rattle.gix_date.specs.Text.Numbers.{int_value}
use Rattle.gix_date.specs.Families.Raw.{OffsetRule, raw_time_by}
use Rattle.gix_date.specs.declared.parsing.dates.TheConstants.{MIN_EPOCH}
use Rattle.gix_date.specs.declared.time.Time.{Time}

-- these seconds, with offset 0
abbrev pub utc_time : ℤ → Time
utc_time seconds = record { seconds = seconds; offset = pos 0 }

-- the time of an at text: `@`, and then a raw text or an int text with nothing round it
unfoldable pub at_time : OffsetRule → List ℕ → Option Time
at_time rule text = do
  rest ← skip_char at_sign text
  option_or (raw_time_by rule rest) (option_map utc_time (int_value rest))

-- the least bare epoch, 100000000
abbrev pub min_bare_epoch : ℤ
min_bare_epoch = MIN_EPOCH

-- the time of a bare epoch: an int text of at least 100000000, since less could be a compact date
unfoldable pub epoch_time : List ℕ → Option Time
epoch_time text = do
  seconds ← int_value text
  if le_z min_bare_epoch seconds then Some (utc_time seconds) else None
