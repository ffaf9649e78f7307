-- What is shown of a clock.
use Rattle.std.specs.Prelude.{ℕ, List, [], ◌∷◌, ◌++◌, Bool, ◌||◌, ℤ, neg_ℤ, pos, if◌then◌else◌}
use Rattle.std.specs.Fmt.{decimal}
use Rattle.std.specs.Ordering.{int_eq}
use Rattle.gix_date.specs.Fields.Layout.{LocalTime, LocalClock, Piece, DayName, MonthName, Day, Year, Spaces, print_pieces}
use Rattle.gix_date.specs.Printing.NamedTexts.{bare_default_text, default_text}
use Rattle.gix_date.specs.Text.Characters.{colon}
use Rattle.gix_date.specs.Text.Numbers.{two_digits}

-- `-0001`, by which Git marks an unknown offset
abbrev pub unknown_offset : ℤ
unknown_offset = neg_ℤ (pos 60)

-- Git's default date: without an offset if it is the zone's, or unknown
abbrev pub git_default_text : Bool → LocalTime → List ℕ
git_default_text local t = if local || int_eq t.offset unknown_offset then bare_default_text t else default_text t

-- the pieces of a day of another year: `Mmm D YYYY`
abbrev pub year_layout : List Piece
year_layout = MonthName ∷ Spaces ∷ Day ∷ Spaces ∷ Year ∷ []

abbrev pub year_text : LocalTime → List ℕ
year_text t = print_pieces decimal year_layout t

-- the pieces before the clock of another day, and of a few days ago: `Www Mmm D `, `Www `
abbrev pub day_layout : List Piece
day_layout = DayName ∷ Spaces ∷ MonthName ∷ Spaces ∷ Day ∷ Spaces ∷ []

abbrev pub weekday_layout : List Piece
weekday_layout = DayName ∷ Spaces ∷ []

-- a clock as `hh:mm`
abbrev pub short_clock_text : LocalClock → List ℕ
short_clock_text clock = two_digits clock.hour ++ colon ∷ two_digits clock.minute

-- `Www Mmm D hh:mm`, and `Www hh:mm`
abbrev pub day_and_clock_text : LocalTime → List ℕ
day_and_clock_text t = print_pieces decimal day_layout t ++ short_clock_text t.clock

abbrev pub weekday_and_clock_text : LocalTime → List ℕ
weekday_and_clock_text t = print_pieces decimal weekday_layout t ++ short_clock_text t.clock
