-- What a time's own clock shows on worked times, and what is printed of it: each row computes.
use Rattle.std.proofs.Common.{◌≡◌, refl, arith, pos, [], ◌∷◌, ◌+ℤ◌, ◌-ℤ◌}
use Rattle.gix_date.proofs.Rows.Tables.{Texts, minus, time}
use Rattle.gix_date.specs.Computing.{computing}
use Rattle.gix_date.specs.Printing.LocalClocks.{clock_of, first_of_year_1000, last_of_year_9999}
use Rattle.gix_date.specs.Printing.NamedTexts.{rfc2822_text, iso8601_text, iso8601_strict_text, gitoxide_text, default_text}
use Rattle.gix_date.specs.Printing.ReadingBack.{IsQuarterOffset}

-- the last three are the ends of the years of four digits
printed :
    Texts
    ((iso8601_text (clock_of (time (pos 1_660_874_655) (pos 28_800))), "2022-08-19 10:04:15 +0800")
    ∷ (rfc2822_text (clock_of (time (pos 1_660_874_655) (pos 28_800))), "Fri, 19 Aug 2022 10:04:15 +0800")
    ∷ (default_text (clock_of (time (pos 0) (pos 0))), "Thu Jan 1 00:00:00 1970 +0000")
    ∷ (gitoxide_text (clock_of (time (minus 1) (minus 86_340))), "Wed Dec 31 1969 00:00:59 -2359")
    ∷ (iso8601_strict_text (clock_of (time (pos 951_827_696) (minus 12_600))), "2000-02-29T09:04:56-03:30")
    ∷ (iso8601_text (clock_of (time (pos 253_402_207_199) (pos 0))), "9999-12-30 21:59:59 +0000")
    ∷ (iso8601_text (clock_of (time first_of_year_1000 (pos 0))), "1000-01-01 00:00:00 +0000")
    ∷ (iso8601_text (clock_of (time (first_of_year_1000 -ℤ pos 1) (pos 0))), "0999-12-31 23:59:59 +0000")
    ∷ (iso8601_text (clock_of (time last_of_year_9999 (pos 0))), "9999-12-31 23:59:59 +0000") ∷ [])
    × ((clock_of (time (last_of_year_9999 +ℤ pos 1) (pos 0))).date.year ≡ 10_000)
unfolding computing
printed = (refl, refl)

-- The farthest offsets of raw texts: 14:45 either way.
farthest : IsQuarterOffset (pos 53_100) × IsQuarterOffset (minus 53_100)
farthest = (record { quarters = refl; short = omega arith }, record { quarters = refl; short = omega arith })
