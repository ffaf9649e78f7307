-- What the clock of UTC shows.
use Rattle.std.specs.Prelude.{ℕ, ℤ, neg_ℤ, negsuc, pos, if◌then◌else◌, Option, Some, None}
use Rattle.std.specs.Option.{option_map_or}
use Rattle.gix_date.specs.Families.Epoch.{utc_time}
use Rattle.gix_date.specs.Fields.Layout.{LocalTime}
use Rattle.gix_date.specs.Fields.Zoned.{is_instant}
use Rattle.gix_date.specs.Printing.LocalClocks.{clock_of}

-- the first second of the year 1900 by a clock
abbrev pub first_of_year_1900 : ℤ
first_of_year_1900 = neg_ℤ (pos 2_208_988_800)

-- what the clock of UTC shows so many seconds after 1970, if there is an instant
unfoldable pub utc_clock : ℕ → Option LocalTime
utc_clock n = if is_instant (pos n) then Some (clock_of (utc_time (pos n))) else None

-- the year of some seconds by the clock of UTC, or 0 before 1970
abbrev pub utc_year : ℤ → ℕ
utc_year (pos n) = option_map_or (λ shown. shown.date.year) (utc_clock n) 0
utc_year (negsuc n) = 0
