-- What relative dates come to in any zone, with gaps and folds.
use Rattle.std.specs.Prelude.{◌≡◌, ◌↔◌, ℕ, ℤ, List, true, Some}
use Rattle.std.specs.Str.{trim}
use Rattle.jiff.specs.Words.{IsTimestampNanos}
use Rattle.jiff.specs.declared.zoned.Zoned.{Zoned}
use Rattle.gix_date.specs.Fields.Zoned.{time_in}
use Rattle.gix_date.specs.Relative.Dates.{RelativeDate, IsNamed, relative_date}
use Rattle.gix_date.specs.Relative.Steps.{zone_of}
use Rattle.gix_date.specs.Text.Names.{is_name}
use Rattle.gix_date.specs.declared.time.Time.{Time}

-- the trimmed text is this word, in any letter case
abbrev pub IsWord : List ℕ → List ℕ → Type 0
IsWord word text = is_name (trim text) word ≡ true

-- The text names this instant from the moment, if `jiff` has it, and nothing else. The time has the zone's offset
-- there.
abbrev pub NamesInstant : List ℕ → Zoned → ℤ → Type 0
NamesInstant text moment instant =
    (date : RelativeDate) × (relative_date text ≡ Some date)
    × ((t : Time) → IsNamed date moment t ↔ ((t ≡ time_in (zone_of moment) instant) × IsTimestampNanos instant))
