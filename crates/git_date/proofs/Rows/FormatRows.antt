-- The definition of what a format shows, on Git's answers: each row computes. The time is Sunday, 2009-08-30 19:20:00 in UTC.
use Rattle.std.proofs.Common.{◌≡◌, refl, List, [], ◌∷◌, ℕ, pos, neg_ℤ, map, true, false, Option, Some, None, Ok, Err}
use Prim.Native.String.{String}
use Rattle.std.specs.Fmt.{digits}
use Rattle.std.specs.Prelude.{codes}
use Rattle.jiff.specs.Types.{UTC, Fixed, Offset}
use Rattle.jiff.specs.Words.{offset_at}
use Rattle.jiff_core.specs.Calendar.{weekday_number, days_of_months}
use Rattle.gix_date.specs.Printing.LocalClocks.{clock_of, date_of_day}
use Rattle.git_date.specs.Show.Clocks.{own_clock, zone_clock}
use Rattle.git_date.specs.Tokens.Numbers.{number}
use Rattle.git_date.specs.Formats.Format.{shown_by_format}
use Rattle.git_date.specs.Formats.Numbers.{year_day, iso_day}
use Rattle.git_date.specs.Formats.Pieces.{checked, pieces, pieces_in, next_piece, made_at}
use Rattle.git_date.specs.Formats.Shown.{own_shown, zone_shown}
use Rattle.git_date.specs.declared.format.error.FormatFault.TheVariants.{FlagRefused, UnknownDirective, WidthTooLarge}

-- what a format shows at +0200
abbrev shows : String → Option (List ℕ)
shows format = shown_by_format UTC false (codes format) (record { seconds = pos 1_251_660_000; offset = pos 7200 })

abbrev shown : String → Option (List ℕ)
shown text = Some (codes text)

own :
    map shows ("%Y-%m-%d %H:%M:%S %z" ∷ "[%Z] %s" ∷ "%l:%M%P %-I %5e %-5e %05e" ∷ "%^a %#B %#p %^c" ∷ "%12F %012T %3u"
    ∷ "%G-W%V-%u %U %W %j" ∷ "" ∷ "100%%" ∷ [])
    ≡ map shown ("2009-08-30 21:20:00 +0200" ∷ "[] 1251660000" ∷ " 9:20pm 9    30    30 00030" ∷ "SUN AUGUST pm SUN AUG 30 21:20:00 2009"
    ∷ "  2009-08-30 000021:20:00 007" ∷ "2009-W35-7 35 34 242" ∷ "" ∷ "100%" ∷ [])
unfolding digits shown_by_format own_shown own_clock clock_of date_of_day weekday_number days_of_months pieces pieces_in next_piece made_at
    year_day iso_day number
own = refl

behind : Offset
behind = record { seconds = neg_ℤ (pos 14_400); in_range = (Prim.search, Prim.search) }

-- in a zone four hours behind UTC
local :
    shown_by_format (Fixed behind) true (codes "%Y-%m-%d %H:%M %z") (record { seconds = pos 1_251_660_000; offset = pos 7200 })
    ≡ Some (codes "2009-08-30 15:20 -0400")
unfolding digits shown_by_format zone_shown zone_clock clock_of date_of_day weekday_number offset_at pieces pieces_in next_piece made_at
    number behind
local = refl

named : shown_by_format UTC true (codes "%H%Z") (record { seconds = pos 1_251_660_000; offset = pos 7200 }) ≡ Some (codes "19UTC")
unfolding digits shown_by_format zone_shown zone_clock clock_of date_of_day weekday_number offset_at pieces pieces_in next_piece made_at
    number
named = refl

-- the seconds of a year that Git does not know
no_seconds : shown_by_format UTC false (codes "%Y %s") (record { seconds = pos 4_102_444_800; offset = pos 0 }) ≡ None
unfolding shown_by_format own_shown own_clock clock_of date_of_day weekday_number pieces pieces_in next_piece made_at number
no_seconds = refl

faults :
    map (λ (format : String). checked (codes format)) ("%q" ∷ "ab %-z" ∷ "%Y %256m" ∷ "%" ∷ "%5" ∷ "%Ey" ∷ "%255mZ" ∷ [])
    ≡ Err (UnknownDirective 0) ∷ Err (FlagRefused 3) ∷ Err (WidthTooLarge 3) ∷ Err (UnknownDirective 0) ∷ Err (UnknownDirective 0)
    ∷ Err (UnknownDirective 0) ∷ Ok (codes "%255mZ") ∷ []
unfolding checked pieces pieces_in next_piece made_at number
faults = refl
