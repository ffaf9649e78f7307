-- What a proof about a text that is written out opens.
use Rattle.std.specs.Fmt.{digits}
use Rattle.std.specs.Str.{chars, trim_start, trim_end}
use lib.Utf8.{encode}
use Rattle.jiff_core.specs.Calendar.{days_from_civil, day_count, days_of_years, days_of_months, weekday_number}
use Rattle.gix_date.specs.Fields.Civil.{civil_instant}
use Rattle.gix_date.specs.Git.ClockCut.{clock_cut, cut_at_z, cut_at_space, cut_at_sign, last_space, last_sign}
use Rattle.gix_date.specs.Families.Epoch.{at_time, epoch_time}
use Rattle.gix_date.specs.Families.Order.{first_family_by}
use Rattle.gix_date.specs.Text.Front.{skip_char}
use Rattle.gix_date.specs.Git.Forms.{git_time, git_form, git_offset, git_front, dotted_front, compact_front, flexible_front, time_of_cut}
use Rattle.gix_date.specs.Git.Forms.{read_marked_date, read_compact_date}
use Rattle.gix_date.specs.Git.Clock.{git_clock, trimmed_clock, clock_with_colons, clock_without_colons, read_pair_or_end, digits_at_most}
use Rattle.gix_date.specs.Header.Reading.{header_time, time_of_words, header_seconds, header_offset}
use Rattle.gix_date.specs.Header.Text.{header_text}
use Rattle.gix_date.specs.Printing.LocalClocks.{clock_of, date_of_day}
use Rattle.gix_date.specs.Text.Numbers.{int_value, read_two_digits, read_digit, read_field, read_year}
use Rattle.gix_date.specs.Fields.Offsets.{offset_fields, read_sign, last_pair}
use Rattle.gix_date.specs.Fields.DateFields.{skip_day_name, skip_spaces, skip_weekday, read_name, read_month, month_named, is_weekday}
use Rattle.gix_date.specs.Fields.DateFields.{read_plain_date, read_minutes, read_second, read_clock, read_rfc2822_clock}
use Rattle.gix_date.specs.Fields.DateOffsets.{compact_offset, strict_offset, rfc2822_zone, rfc2822_offset, named_zone, last_colon_pair}
use Rattle.gix_date.specs.Families.Patterns.{short_answer, rfc2822_answer, iso8601_answer, iso8601_strict_answer, gitoxide_answer}
use Rattle.gix_date.specs.Families.Patterns.{default_answer, date_answer}
use Rattle.gix_date.specs.Families.Raw.{raw_time_by, raw_offset_by}
use Rattle.gix_date.specs.Relative.Dates.{relative_date, named_date, pairs_date}
use Rattle.gix_date.specs.Relative.Words.{relative_words, count_of, named_count, number_named, unit_of, singular, named_unit}
use Rattle.gix_date.specs.Relative.Roles.{is_count_word, has_unit, next_is_free, has_flag, has_pair, all_units, are_pairs, pairs}
use Rattle.gix_date.specs.Text.SpaceWords.{space_words}

-- `unfolding computing`, below a signature, lets definitions such as `first_family` compute for literal texts. Others
-- are `header_time`, `header_text` and `clock_of`, for a text that is written out or a time in numerals.
unfoldable pub computing : Type 0
unfolding clock_of date_of_day weekday_number header_text header_time time_of_words header_seconds header_offset relative_date named_date
    pairs_date relative_words count_of named_count number_named unit_of singular named_unit is_count_word has_unit next_is_free has_flag
    has_pair all_units are_pairs pairs int_value trim_start trim_end chars encode digits first_family_by short_answer rfc2822_answer
    iso8601_answer iso8601_strict_answer gitoxide_answer default_answer skip_day_name skip_weekday skip_spaces read_name read_month
    month_named is_weekday read_plain_date read_minutes read_second read_clock read_rfc2822_clock compact_offset strict_offset rfc2822_zone
    rfc2822_offset named_zone last_colon_pair date_answer read_field read_digit civil_instant days_from_civil day_count days_of_years
    days_of_months git_time git_form git_offset time_of_cut clock_cut cut_at_z cut_at_space cut_at_sign last_space last_sign git_clock
    trimmed_clock clock_with_colons clock_without_colons read_pair_or_end digits_at_most git_front dotted_front compact_front flexible_front
    read_marked_date read_compact_date read_year at_time epoch_time raw_time_by raw_offset_by offset_fields skip_char read_sign last_pair
    read_two_digits space_words
computing = Unit {0}
