-- The named formats: one table of their names, in the order of their numbers.
use Rattle.std.specs.Prelude.{ℕ, List, [], ◌∷◌, codes, Option, option_map, slice_get}
use Rattle.std.specs.Borrow.{Bor}
use Rattle.gix_date.specs.Text.Names.{value_named}
use Rattle.gix_date.specs.Printing.NamedTexts.{short_pattern, rfc2822_pattern, git_rfc2822_pattern, iso8601_pattern, iso8601_strict_pattern}
use Rattle.gix_date.specs.Printing.NamedTexts.{gitoxide_pattern, default_pattern}
use Rattle.gix_date.specs.declared.time.format.Format.{Format}
use Rattle.gix_date.specs.declared.time.format.Format.TheVariants.{Custom, Unix, Raw}

-- what a format prints: its seconds, a header's text, or what a pattern shows
pub data Printed : Type 0 where
  Seconds : Printed
  Header : Printed
  ByPattern : List ℕ → Printed

-- what this format prints
abbrev pub printed_by : Format → Printed
printed_by Unix = Seconds
printed_by Raw = Header
printed_by (Custom format) = ByPattern format.pattern.now

-- each name with what its format prints
abbrev pub named_formats : List (List ℕ × Printed)
named_formats =
    (codes "UNIX", Seconds) ∷ (codes "RAW", Header) ∷ (codes "SHORT", ByPattern short_pattern)
    ∷ (codes "RFC2822", ByPattern rfc2822_pattern) ∷ (codes "GIT_RFC2822", ByPattern git_rfc2822_pattern)
    ∷ (codes "ISO8601", ByPattern iso8601_pattern) ∷ (codes "ISO8601_STRICT", ByPattern iso8601_strict_pattern)
    ∷ (codes "GITOXIDE", ByPattern gitoxide_pattern) ∷ (codes "DEFAULT", ByPattern default_pattern) ∷ []

-- a row of the code's table
abbrev pub format_row : Bor (List ℕ) × Format → List ℕ × Printed
format_row row = (row.0.now, printed_by row.1)

-- what the format of a name prints
abbrev pub format_named : List ℕ → Option Printed
format_named name = value_named named_formats name

-- what the format of a number prints, which is its place in the table
abbrev pub format_numbered : ℕ → Option Printed
format_numbered number = option_map (λ (row : List ℕ × Printed). row.1) (slice_get named_formats number)
