-- The definition of what is shown, on worked times: each row computes. The moment is 2009-08-30 19:20:00 in UTC.
use Rattle.std.proofs.Common.{◌≡◌, refl, List, [], ◌∷◌, ℕ, ℤ, pos, neg_ℤ, map, Option, Some, None, option_map}
use Prim.Native.String.{String}
use Rattle.std.specs.Fmt.{digits}
use Rattle.std.specs.Prelude.{codes}
use Rattle.jiff.specs.Types.{TimeZone, UTC, Fixed, Offset}
use Rattle.jiff.specs.Words.{offset_at}
use Rattle.jiff_core.specs.Calendar.{weekday_number}
use Rattle.gix_date.specs.Text.Front.{◌>>=◌}
use Rattle.gix_date.specs.Printing.LocalClocks.{clock_of, date_of_day}
use Rattle.gix_date.specs.declared.time.Time.{Time}
use Rattle.git_date.specs.Show.Modes.{mode_named, own}
use Rattle.git_date.specs.Show.Dates.{shown, shown_offset, relative_shown}
use Rattle.git_date.specs.Show.Ages.{age_between, age_of, age_of_days, relative_text}
use Rattle.git_date.specs.Show.Clocks.{Moment, own_clock, zone_clock}
use Rattle.git_date.specs.declared.mode.DateKind.TheVariants.{Relative}

abbrev row_moment : TimeZone → Moment
row_moment zone = record { zone = zone; seconds = pos 1_251_660_000 }

-- a time by its seconds and its offset in seconds, the name of a mode, and what is shown
record Row : Type 0 where
  seconds : ℤ
  offset : ℤ
  mode : String
  text : Option String

abbrev row : ℕ → ℤ → String → String → Row
row seconds offset mode text = record { seconds = pos seconds; offset = offset; mode = mode; text = Some text }

abbrev refused : ℤ → ℤ → String → Row
refused seconds offset mode = record { seconds = seconds; offset = offset; mode = mode; text = None }

abbrev time_of : Row → Time
time_of row = record { seconds = row.seconds; offset = row.offset }

-- each row in a zone
abbrev Shows : TimeZone → List Row → Type 0
Shows zone rows =
    map (λ (row : Row). mode_named (codes row.mode) >>= λ mode. shown (row_moment zone) mode (time_of row)) rows
    ≡ map (λ (row : Row). option_map (λ text. codes text) row.text) rows

relative :
    Shows UTC
    (row 1_251_660_000 (pos 0) "relative" "0 seconds ago" ∷ row 1_251_659_999 (pos 0) "relative" "1 second ago"
    ∷ row 1_251_659_911 (pos 0) "relative" "89 seconds ago" ∷ row 1_251_659_910 (pos 0) "relative" "2 minutes ago"
    ∷ row 1_251_654_630 (pos 0) "relative" "2 hours ago" ∷ row 1_251_530_431 (pos 0) "relative" "2 days ago"
    ∷ row 1_214_160_000 (pos 0) "relative" "1 year, 2 months ago" ∷ row 1_188_674_400 (pos 0) "relative-local" "2 years ago"
    ∷ row 1_251_660_001 (pos 0) "relative" "in the future" ∷ refused (neg_ℤ (pos 1)) (pos 0) "relative" ∷ [])
unfolding digits mode_named shown relative_shown relative_text age_between age_of age_of_days
relative = refl

-- the age of one second after 1970 at moments around it
abbrev age_at : ℤ → Option (List ℕ)
age_at now = shown (record { zone = UTC; seconds = now }) (own Relative) (record { seconds = pos 1; offset = pos 0 })

moments : map age_at (neg_ℤ (pos 1) ∷ pos 0 ∷ pos 2 ∷ []) ≡ None ∷ Some (codes "in the future") ∷ Some (codes "1 second ago") ∷ []
unfolding digits shown relative_shown relative_text age_between age_of
moments = refl

human :
    Shows UTC
    (row 1_251_300_000 (pos 7200) "human" "Wed 17:20 +0200" ∷ row 1_251_300_000 (pos 7200) "human-local" "Wed 15:20"
    ∷ row 1_251_300_000 (pos 0) "human" "Wed 15:20" ∷ row 1_251_228_000 (pos 0) "human" "Tue Aug 25 19:20"
    ∷ row 1_251_650_000 (pos 7200) "human" "3 hours ago" ∷ row 1_466_000_000 (pos 7200) "human" "Jun 15 2016" ∷ [])
unfolding digits mode_named shown relative_text age_between age_of age_of_days own_clock zone_clock clock_of date_of_day weekday_number
    offset_at
human = refl

clocks :
    Shows UTC
    (row 1_251_660_000 (pos 0) "default" "Sun Aug 30 19:20:00 2009 +0000"
    ∷ row 1_251_650_000 (neg_ℤ (pos 60)) "default" "Sun Aug 30 16:32:20 2009"
    ∷ row 1_251_660_000 (pos 0) "local" "Sun Aug 30 19:20:00 2009"
    ∷ row 1_251_660_000 (pos 0) "iso" "2009-08-30 19:20:00 +0000"
    ∷ row 1_251_650_000 (pos 7200) "iso-local" "2009-08-30 16:33:20 +0000"
    ∷ row 1_251_660_000 (pos 0) "iso8601-strict" "2009-08-30T19:20:00+00:00"
    ∷ row 1_251_660_000 (pos 0) "rfc2822" "Sun, 30 Aug 2009 19:20:00 +0000"
    ∷ row 1_251_660_000 (pos 0) "short" "2009-08-30" ∷ row 1_251_660_000 (pos 0) "raw" "1251660000 +0000"
    ∷ row 1_251_660_000 (pos 0) "unix" "1251660000" ∷ refused (pos 100) (neg_ℤ (pos 3600)) "iso"
    ∷ refused (pos 1_251_660_000) (pos 0) "ISO" ∷ [])
unfolding digits mode_named shown shown_offset own_clock zone_clock clock_of date_of_day weekday_number offset_at
clocks = refl

ahead : Offset
ahead = record { seconds = pos 19_800; in_range = (Prim.search, Prim.search) }

-- in a zone whose clock is ahead of UTC by 5:30
zones :
    Shows (Fixed ahead)
    (row 1_251_650_000 (pos 7200) "iso-local" "2009-08-30 22:03:20 +0530" ∷ row 1_251_650_000 (pos 7200) "raw-local" "1251650000 +0530"
    ∷ row 4_102_444_800 (pos 0) "iso-local" "2100-01-01 05:30:00 +0000" ∷ row 4_102_444_800 (pos 0) "raw-local" "4102444800 +0000" ∷ [])
unfolding digits mode_named shown shown_offset zone_clock clock_of date_of_day weekday_number offset_at ahead
zones = refl
