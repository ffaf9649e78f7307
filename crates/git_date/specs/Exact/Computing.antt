-- What a proof about a text that is written out opens.
use Rattle.jiff_core.specs.Calendar.{days_from_civil, day_count, days_of_years, days_of_months, weekday_number}
use Rattle.gix_date.specs.Printing.LocalClocks.{clock_of, date_of_day}
use Rattle.git_date.specs.Tokens.Tokens.{tokens, walked}
use Rattle.git_date.specs.Tokens.Numbers.{number, narrow}
use Rattle.git_date.specs.Tokens.Names.{is_weekday, zone_named}
use Rattle.gix_date.specs.Text.LongNames.{month_of_word, weekday_of_word}
use Rattle.git_date.specs.Rules.Fields.{with_clock}
use Rattle.git_date.specs.Rules.Words.{with_word, letters_rule, without_ending}
use Rattle.git_date.specs.Rules.Clocks.{utc_clock}
use Rattle.git_date.specs.Rules.Dates.{year_said, month_start, exact_seconds, recent_date, year_date}
use Rattle.git_date.specs.Rules.Groups.{marked_number, group_of, day_month_group, group_rule, without_fraction}
use Rattle.git_date.specs.Rules.Digits.{four_digits, few_digits, bare_digits, group_said, digits_rule}
use Rattle.git_date.specs.Rules.Offsets.{white, without_white, padded_number, offset_minutes, colon_minutes, two_digit_offset, offset_said}
use Rattle.git_date.specs.Rules.Offsets.{at_text}
use Rattle.git_date.specs.Exact.Reading.{sign_rule, reading_of, at_said, fields_said, string_said, said_by}
use Rattle.git_date.specs.Tokens.Strings.{before_nul, nul_place}
use Rattle.git_date.specs.Exact.Outcome.{date_at}

-- for proofs about literal texts: `unfolding computing` below a signature lets `said_by` and `date_at` compute, for a
-- written-out text and a moment in numerals
unfoldable pub computing : Type 0
unfolding days_from_civil day_count days_of_years days_of_months weekday_number clock_of date_of_day tokens number narrow month_of_word
    is_weekday weekday_of_word zone_named with_clock with_word letters_rule without_ending year_said month_start exact_seconds utc_clock
    recent_date year_date marked_number group_of day_month_group group_rule without_fraction four_digits few_digits bare_digits group_said
    digits_rule white without_white padded_number offset_minutes colon_minutes two_digit_offset offset_said at_text sign_rule walked
    reading_of at_said fields_said string_said before_nul nul_place said_by date_at
computing = Unit {0}
