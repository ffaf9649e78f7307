-- What the laws of dates by a format say.
use Rattle.std.specs.Prelude.{◌≡◌, ℕ, ◌+◌, List, ◌++◌, length, Bool, true, false, ◌&&◌, nat_le, ℤ, codes, Option, Some, option_map}
use Rattle.std.specs.List.{list_any}
use Rattle.std.specs.Result.{result_map_both}
use Rattle.jiff.specs.Types.{TimeZone}
use Rattle.gix_date.specs.Fields.Layout.{LocalTime}
use Rattle.gix_date.specs.Printing.NamedTexts.{iso8601_pattern}
use Rattle.gix_date.specs.Text.Front.{◌>>=◌}
use Rattle.gix_date.specs.Text.Numbers.{decimal_text}
use Rattle.gix_date.specs.declared.time.Time.{Time}
use Rattle.git_date.specs.Rules.Dates.{first_year, last_year}
use Rattle.git_date.specs.Show.Clocks.{Moment, own_clock}
use Rattle.git_date.specs.Show.Dates.{raw_text, shown}
use Rattle.git_date.specs.declared.mode.DateKind.{DateKind}
use Rattle.git_date.specs.declared.mode.DateKind.TheVariants.{Iso8601, Short}
use Rattle.git_date.specs.declared.format.error.FormatFault.{FormatFault}
use Rattle.git_date.specs.declared.format.error.FormatFault.TheVariants.{FlagRefused, UnknownDirective, WidthTooLarge}
use Rattle.git_date.specs.Formats.Format.{shown_by_format}
use Rattle.git_date.specs.Formats.Pieces.{checked, is_format, is_percent}
use Rattle.git_date.specs.Formats.Shown.{shown_at}

-- a format without a percent sign shows itself, wherever the clock shows anything
abbrev pub ShowsItself : TimeZone → Bool → List ℕ → Time → Type 0
ShowsItself zone local format t =
    list_any is_percent format ≡ false → shown_by_format zone local format t ≡ option_map (λ shown. format) (shown_at zone local t)

-- the time's own clock shows a year that Git knows
pub record IsOfKnownYear (t : Time) : Type 0 where
  pub clock : LocalTime
  pub shows : own_clock t ≡ Some clock
  pub known : (nat_le first_year clock.date.year && nat_le clock.date.year last_year) ≡ true

-- by `%s` it shows the time's seconds, and by `%s %z` the time as Git stores it
unfoldable pub ShowsStored : TimeZone → Time → Type 0
ShowsStored zone t =
    IsOfKnownYear t
    → (shown_by_format zone false (codes "%s") t ≡ Some (decimal_text t.seconds))
    × (shown_by_format zone false (codes "%s %z") t ≡ Some (raw_text t.seconds t.offset))

-- By either clock the pattern shows what the kind shows, and nothing where that shows nothing.
abbrev pub ShowsAsMode : Moment → List ℕ → DateKind → Time → Type 0
ShowsAsMode now pattern kind t =
    (local : Bool) → shown_by_format now.zone local pattern t ≡ shown now (record { kind = kind; local = local }) t

-- so do `%Y-%m-%d %H:%M:%S %z` as `iso8601`, and `%F` as `short`, at every moment in the zone
unfoldable pub ShowsModes : TimeZone → Time → Type 0
ShowsModes zone t =
    (seconds : ℤ) →
    ShowsAsMode (record { zone = zone; seconds = seconds }) iso8601_pattern Iso8601 t
    × ShowsAsMode (record { zone = zone; seconds = seconds }) (codes "%F") Short t

-- the text of both, where both have one
abbrev pub joined : Option (List ℕ) → Option (List ℕ) → Option (List ℕ)
joined first second = first >>= λ a. second >>= λ b. Some (a ++ b)

-- a fault that stands so many bytes later
abbrev pub moved : ℕ → FormatFault → FormatFault
moved by (FlagRefused place) = FlagRefused (by + place)
moved by (UnknownDirective place) = UnknownDirective (by + place)
moved by (WidthTooLarge place) = WidthTooLarge (by + place)

-- After a format without fault a text is checked as it is alone: with that it is a format, or its fault stands so much later.
unfoldable pub ChecksJoined : List ℕ → List ℕ → Type 0
ChecksJoined first second =
    is_format first ≡ true
    → checked (first ++ second) ≡ result_map_both (λ whole. first ++ whole) (moved (length first)) (checked second)

-- two formats without fault, joined, show both texts joined, and nothing where one of them shows nothing
unfoldable pub ShowsJoined : TimeZone → Bool → List ℕ → List ℕ → Time → Type 0
ShowsJoined zone local first second t =
    is_format first ≡ true → is_format second ≡ true
    → shown_by_format zone local (first ++ second) t ≡ joined (shown_by_format zone local first t) (shown_by_format zone local second t)
