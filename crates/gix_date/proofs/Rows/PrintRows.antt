-- The texts of the named formats on worked times: each row computes. And what the words of printing ask for, and no
-- more.
use Rattle.std.proofs.Common.{◌≡◌, refl, [], ◌∷◌, pos, ℕ, ◌≤◌, ◌%◌, None, unsigned_abs}
use Rattle.std.specs.Fmt.{digits}
use Rattle.gix_date.proofs.Rows.Tables.{Texts, date, clock, minus}
use Rattle.gix_date.specs.Header.Text.{header_text}
use Rattle.gix_date.specs.Fields.Layout.{LocalTime}
use Rattle.gix_date.specs.Printing.NamedTexts.{ShowsFourDigitFields, short_text, rfc2822_text, git_rfc2822_text, iso8601_text}
use Rattle.gix_date.specs.Printing.NamedTexts.{iso8601_strict_text, gitoxide_text, default_text}
use Rattle.gix_date.specs.Printing.Formats.{HasNoText}
use Rattle.gix_date.specs.declared.time.Time.{Time}
use Rattle.gix_date.specs.declared.time.format.Format.TheVariants.{Unix, Raw}
use Rattle.jiff.specs.Types.{PlainZoned}

-- 1659933906 at 28800, a Monday
abbrev monday : LocalTime
monday = record { weekday = 0; date = date 2022 8 8; clock = clock 12 45 6; offset = pos 28800 }

-- 951827696 at -12600, a Tuesday
abbrev leap-day : LocalTime
leap-day = record { weekday = 1; date = date 2000 2 29; clock = clock 9 4 56; offset = minus 12600 }

-- a Sunday in December, in the first year that is printed
abbrev sunday : LocalTime
sunday = record { weekday = 6; date = date 1000 12 7; clock = clock 0 0 0; offset = pos 0 }

printed :
    Texts
    ((short_text monday, "2022-08-08") ∷ (rfc2822_text monday, "Mon, 08 Aug 2022 12:45:06 +0800")
    ∷ (git_rfc2822_text monday, "Mon, 8 Aug 2022 12:45:06 +0800")
    ∷ (gitoxide_text monday, "Mon Aug 08 2022 12:45:06 +0800")
    ∷ (iso8601_text leap-day, "2000-02-29 09:04:56 -0330") ∷ (iso8601_strict_text leap-day, "2000-02-29T09:04:56-03:30")
    ∷ (gitoxide_text leap-day, "Tue Feb 29 2000 09:04:56 -0330")
    ∷ (default_text leap-day, "Tue Feb 29 09:04:56 2000 -0330")
    ∷ (rfc2822_text sunday, "Sun, 07 Dec 1000 00:00:00 +0000")
    ∷ (default_text sunday, "Sun Dec 7 00:00:00 1000 +0000")
    ∷ (iso8601_strict_text sunday, "1000-12-07T00:00:00+00:00") ∷ [])
unfolding digits
printed = refl

four_digits : (z : PlainZoned) (year : ℕ) → z.datetime.date.year ≡ pos year → 1000 ≤ year → year ≤ 9999
    → unsigned_abs z.offset.seconds % 60 ≡ 0 → ShowsFourDigitFields z
four_digits z year is low high whole = record { year = year; year_is = is; low = low; high = high; minutes = whole }

each-time-has-seconds : (t : Time) → ¬ (HasNoText t Unix)
each-time-has-seconds t h = h

no-raw-text : (t : Time) → HasNoText t Raw → header_text t ≡ None
no-raw-text t h = h
