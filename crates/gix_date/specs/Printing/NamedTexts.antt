-- The texts of the named formats.
use Rattle.std.specs.Prelude.{◌≡◌, ℕ, ◌%◌, ◌≤◌, List, [], ◌∷◌, pos, unsigned_abs, codes, Ok}
use Rattle.std.specs.Fmt.{decimal}
use Rattle.jiff.specs.Types.{PlainZoned}
use Rattle.jiff_core.specs.Date.{weekday_of}
use Rattle.jiff_strtime.specs.Show.{Shown}
use Rattle.gix_date.specs.Fields.ClockNumbers.{seconds_per_minute}
use Rattle.gix_date.specs.Fields.Layout.{LocalTime, Piece, DayName, MonthName, Day, Year, Clock, Spaces, print_pieces}
use Rattle.gix_date.specs.Text.Numbers.{two_digits}
use Rattle.gix_date.specs.Families.Patterns.{short_layout, rfc2822_layout, iso8601_layout, iso8601_strict_layout, gitoxide_layout}
use Rattle.gix_date.specs.Families.Patterns.{default_layout}
use Rattle.gix_date.specs.Printing.Formats.{IsShown, IsUnprinted}

-- what a zoned value's clock shows
abbrev pub local_time : PlainZoned → LocalTime
local_time z = record {
  weekday = weekday_of z.datetime.date;
  date = record { year = unsigned_abs z.datetime.date.year; month = z.datetime.date.month; day = z.datetime.date.day };
  clock = record { hour = z.datetime.time.hour; minute = z.datetime.time.minute; second = z.datetime.time.second };
  offset = z.offset.seconds;
}

-- a zoned value has a four-digit year and whole minutes: its offset has no seconds
pub record ShowsFourDigitFields (z : PlainZoned) : Type 0 where
  pub year : ℕ
  pub year_is : z.datetime.date.year ≡ pos year
  pub low : 1000 ≤ year
  pub high : year ≤ 9999
  pub minutes : unsigned_abs z.offset.seconds % seconds_per_minute ≡ 0

-- the pattern of `SHORT`
abbrev pub short_pattern : List ℕ
short_pattern = codes "%Y-%m-%d"

-- the clock's text by `SHORT`: `2022-08-08`
abbrev pub short_text : LocalTime → List ℕ
short_text t = print_pieces two_digits short_layout t

-- the pattern of `RFC2822`
abbrev pub rfc2822_pattern : List ℕ
rfc2822_pattern = codes "%a, %d %b %Y %H:%M:%S %z"

-- the clock's text by `RFC2822`: `Mon, 08 Aug 2022 12:45:06 +0800`
abbrev pub rfc2822_text : LocalTime → List ℕ
rfc2822_text t = print_pieces two_digits rfc2822_layout t

-- the pattern of `GIT_RFC2822`
abbrev pub git_rfc2822_pattern : List ℕ
git_rfc2822_pattern = codes "%a, %-d %b %Y %H:%M:%S %z"

-- the clock's text by `GIT_RFC2822`: `Mon, 8 Aug 2022 12:45:06 +0800`
abbrev pub git_rfc2822_text : LocalTime → List ℕ
git_rfc2822_text t = print_pieces decimal rfc2822_layout t

-- the pattern of `ISO8601`
abbrev pub iso8601_pattern : List ℕ
iso8601_pattern = codes "%Y-%m-%d %H:%M:%S %z"

-- the clock's text by `ISO8601`: `2022-08-08 12:45:06 +0800`
abbrev pub iso8601_text : LocalTime → List ℕ
iso8601_text t = print_pieces two_digits iso8601_layout t

-- the pattern of `ISO8601_STRICT`
abbrev pub iso8601_strict_pattern : List ℕ
iso8601_strict_pattern = codes "%Y-%m-%dT%H:%M:%S%:z"

-- the clock's text by `ISO8601_STRICT`: `2022-08-08T12:45:06+08:00`
abbrev pub iso8601_strict_text : LocalTime → List ℕ
iso8601_strict_text t = print_pieces two_digits iso8601_strict_layout t

-- the pattern of `GITOXIDE`
abbrev pub gitoxide_pattern : List ℕ
gitoxide_pattern = codes "%a %b %d %Y %H:%M:%S %z"

-- the clock's text by `GITOXIDE`: `Mon Aug 08 2022 12:45:06 +0800`
abbrev pub gitoxide_text : LocalTime → List ℕ
gitoxide_text t = print_pieces two_digits gitoxide_layout t

-- the pattern of `DEFAULT`
abbrev pub default_pattern : List ℕ
default_pattern = codes "%a %b %-d %H:%M:%S %Y %z"

-- the clock's text by `DEFAULT`: `Mon Aug 8 12:45:06 2022 +0800`
abbrev pub default_text : LocalTime → List ℕ
default_text t = print_pieces decimal default_layout t

-- the pieces of `DEFAULT` without its offset
abbrev pub bare_default_layout : List Piece
bare_default_layout = DayName ∷ Spaces ∷ MonthName ∷ Spaces ∷ Day ∷ Spaces ∷ Clock ∷ Spaces ∷ Year ∷ []

-- the clock's text by them: `Mon Aug 8 12:45:06 2022`
abbrev pub bare_default_text : LocalTime → List ℕ
bare_default_text t = print_pieces decimal bare_default_layout t

-- by this pattern a zoned value with four-digit fields is printed so, and never refused
abbrev pub ShowsText : List ℕ → (LocalTime → List ℕ) → Type 0
ShowsText pattern text =
    (z : PlainZoned) → ShowsFourDigitFields z
    → ((shown : Shown) → IsShown pattern z shown → shown ≡ Ok (text (local_time z))) × (IsUnprinted pattern z → ⊥)

-- by this pattern each zoned value with four-digit fields whose clock shows this is printed so
abbrev pub IsShownByAll : List ℕ → LocalTime → List ℕ → Type 0
IsShownByAll pattern local text =
    (z : PlainZoned) → ShowsFourDigitFields z → local_time z ≡ local → IsShown pattern z (Ok text)
