-- The words of definitions. Made by scripts/words.
pub mod Approximate
pub mod Exact
pub mod Formats
pub mod Rules
pub mod Show
pub mod Tokens
pub mod Types
unfoldable pub use Approximate.Clocks.{is_shown, clock_shown_at, is_shown_month, first_second, year_of_month, filled_month}
unfoldable pub use Approximate.Clocks.{filled_year, filled_seconds}
unfoldable pub use Approximate.Computing.{approximating}
unfoldable pub use Approximate.Drafts.{clock_fields, all_fields, last_of, first_draft, with_shown, earlier, ignore, lone_year}
unfoldable pub use Approximate.Drafts.{with_number, without_number, settle_number, settle, dropped, with_hour, is_before}
unfoldable pub use Approximate.Drafts.{with_half, half, units, days_back, weekday_seconds, less_months}
unfoldable pub use Approximate.Expiry.{fixed_expiry, expiry_of, expiry_by, ExpiryOutcome, HasExpiryPlacesIn}
unfoldable pub use Approximate.Reading.{Read, approximate_rule, approximate_step, approximate_steps, draft_of, answer, answer_of}
unfoldable pub use Approximate.Reading.{guess_by, string_guess, answer_up_to, guess, is_unreadable, exact_or_guess, approximate}
unfoldable pub use Approximate.Reading.{ApproximateOutcome, HasApproximatePlacesIn}
unfoldable pub use Approximate.Rules.{Ruled, used, hour_rule, back_rule, months_rule, unit_rule, counted_by, count_waits}
unfoldable pub use Approximate.Rules.{with_month, first_instant, meaning_rule, word_by, understood, read_word, are_digits_next}
unfoldable pub use Approximate.Rules.{approximate_letters_rule, is_padded, number_waits, group_or_number, approximate_digits_rule}
unfoldable pub use Approximate.Words.{moment_names, moment_named, count_named, is_unit, unit_names, unit_named, meaning_of}
unfoldable pub use Approximate.Zones.{clock_at, shown_in, found_by, found_at, filled_instant, moved_to, before, fill, time_of}
unfoldable pub use Approximate.Zones.{filled_time}
unfoldable pub use Exact.Computing.{computing}
unfoldable pub use Exact.Decimals.{with_sign, offset_from_decimal, offset_to_decimal}
unfoldable pub use Exact.Fast.{is_date_mark, marked_date, WritesAnyClock, fields_in, day_fields, local_fields, SaysFields}
unfoldable pub use Exact.Fast.{said_alone, Says, SaysDate, Tells, has_few_digits}
pub use Exact.Fast.{WritesTwo, WritesYear, WritesMonth, WritesWeekday, IsGitDate, WritesDate, WritesDay}
pub use Exact.Fast.{WritesMonthYear, WritesMailDate, WritesMailDay, WritesNamedDay, WritesClock, WritesShortClock}
pub use Exact.Fast.{WritesSpacedClock, WritesOffset, WritesTime, WritesStrictTime, WritesYearOffset, WritesYearTime}
pub use Exact.Fast.{WritesSeconds, WritesRaw}
unfoldable pub use Exact.Outcome.{SaidIsInstant, IsMinutes, instant_seconds, date_at, date_in, said_in, at_offset, date_of}
unfoldable pub use Exact.Outcome.{read_at, DateOutcomeAt, DateOutcome, said_offset, IsPlaceIn, IsErrorIn, HasPlacesIn}
unfoldable pub use Exact.Places.{without_colon, is_absolute, folder_of, file_of, is_utc, us_dates, rule_of, IsRule, IsUtcOrRule}
unfoldable pub use Exact.Places.{IsTextZone, IsZoneWithoutFile, data_len, says_leap_seconds, behind_first, counts_leap_seconds}
unfoldable pub use Exact.Places.{table_error, IsNoTable, IsTable}
unfoldable pub use Exact.Reading.{ended, sign_rule, rule, nothing_read, read_on, step, steps, reading_of, place_in, error_of}
unfoldable pub use Exact.Reading.{at_said, by_seconds, fields_said, at_or_fields, string_said, said_up_to, said_by}
unfoldable pub use Exact.RuleYears.{whole_second, change_second, IsDaylight}
pub use Exact.RuleYears.{IsChange}
unfoldable pub use Exact.ZoneTexts.{distance, IsNear, signed, signed_hours, signed_clock, zone_offset}
unfoldable pub use Exact.Zones.{States, daylight_at, state_there, states_of, one_offset, state_by, is_same, same_flag, flagged}
unfoldable pub use Exact.Zones.{flag_step, flag_steps, flagged_at, nearest, hour_off, by_flag, first_trail, moved, stops, is_back}
unfoldable pub use Exact.Zones.{searched, before_leap, most_moves, found_offset}
unfoldable pub use Formats.Directives.{lettered, name_rows, number_rows, composite_rows, plain_rows, name_lettered}
unfoldable pub use Formats.Directives.{number_lettered, composite_lettered, plain_lettered, directive_lettered}
unfoldable pub use Formats.Flags.{max_width, caret, hash, is_pad, is_flag, pad_after, pad_of, has_flag, flags_of, inner_flags}
unfoldable pub use Formats.Flags.{fill_of, filled}
unfoldable pub use Formats.Format.{format_bytes, seconds_text, plain_text, piece_text, pieces_text, chunk_text, is_seconds}
unfoldable pub use Formats.Format.{asks_seconds, shown_pieces, shown_by_format, WritesShown, RefusesText}
unfoldable pub use Formats.Names.{half_day, small_half_day, tab, name_text, raised, case_of, cased_letter, cased}
unfoldable pub use Formats.Numbers.{year_days, year_day, monday_day, sunday_day, hour_of_half, IsoDay, day_in, iso_day, iso_week}
unfoldable pub use Formats.Numbers.{number_value, number_least, is_spaced}
unfoldable pub use Formats.Pieces.{Made, piece_of, percent, is_percent, text_len, marks_len, after_marks, digits_len, after_digits}
unfoldable pub use Formats.Pieces.{letter_place, plain_at, directive_at, plain_or_directive, made_by, made_if, made_at, begun}
unfoldable pub use Formats.Pieces.{text_piece, next_piece, next_view, piece_before, then_pieces, pieces_in, pieces, pieces_or_none}
unfoldable pub use Formats.Pieces.{is_format, placed, format_fault, checked_by, checked}
pub use Formats.Pieces.{Piece, Text, Begun}
unfoldable pub use Formats.Short.{made_text, letter_text, date_and_clock_text, PushesLetter}
pub use Formats.Short.{Passes}
unfoldable pub use Formats.Shown.{seconds_said, zone_abbreviation, own_shown_by, own_shown, zone_seconds, zone_shown_by}
unfoldable pub use Formats.Shown.{zone_shown, shown_at, abbreviation_held, shown_of}
pub use Formats.Shown.{Shown}
unfoldable pub use Formats.Texts.{name_said, width_by, number_width, zeros_by, number_zeros, number_text, mark_code, number_inner}
unfoldable pub use Formats.Texts.{name, then_space, then_colon, then_minus, then_slash, minute_and_second, inner_of, inner_text}
unfoldable pub use Formats.Texts.{inner_texts, composite_text, directive_text}
unfoldable pub use Rules.Clocks.{first_of_year_1900, utc_clock, utc_year}
unfoldable pub use Rules.Dates.{first_year, last_year, first_of_year_2100, year_said, is_day_of_month, is_month, first_of}
unfoldable pub use Rules.Dates.{month_start, days_after_first, seconds_of_day, seconds_after, IsSmall, exact_seconds, now_at}
unfoldable pub use Rules.Dates.{now_of, ten_days, is_ahead, unless_ahead, recent_date, by_year, year_date}
unfoldable pub use Rules.Digits.{Stepped, min_epoch, is_epoch, with_epoch, epoch_rule, by_date, eight_digits, six_digits}
unfoldable pub use Rules.Digits.{four_digits, two_digit_year, or_month, few_digits, bare_digits, unless_large, grouped, group_said}
unfoldable pub use Rules.Digits.{group_or_bare, digits_rule}
unfoldable pub use Rules.Fields.{unknown, knows_nothing, knows_date, is_leap, with_clock, with_date}
unfoldable pub use Rules.Groups.{slash, ReadTokens, number_at, marked_number, is_group_mark, third_or_none, group_of, second_of}
unfoldable pub use Rules.Groups.{third_of, taken_or_refused, clock_group, or_else, year_first_group, day_month_group, group_rule}
unfoldable pub use Rules.Groups.{large_number, large_in, without_fraction, after_group}
unfoldable pub use Rules.Offsets.{is_white, is_sign, white, without_white, padded_by, padded_after, padded_number, signed_minutes}
unfoldable pub use Rules.Offsets.{offset_minutes, SaidOffset, minutes_said, colon_minutes, two_digit_offset, offset_said}
unfoldable pub use Rules.Offsets.{known_minutes, with_offset, offset_rule, ends, wide_minutes, by_sign, at_text}
unfoldable pub use Rules.Views.{rest_view, read_view, step_view, said_view, IsOffset, digit_at_most, saturated}
unfoldable pub use Rules.Words.{afternoon, morning, with_zone, filler_words, is_any_of, is_filler, half_or_filler, with_word}
unfoldable pub use Rules.Words.{letters_rule, ending_words, is_ending, without_ending}
unfoldable pub use Show.Ages.{rounded, minutes_of, hours_of, in_years_and_months, age_of_days, age_of, counted, and_months}
unfoldable pub use Show.Ages.{age_text, age_between, shown_age, relative_text, age_answer}
unfoldable pub use Show.Clocks.{moment_at, moment_of, is_written_offset, is_dated, has_own_clock, own_clock, time_at}
unfoldable pub use Show.Clocks.{whole_minutes, known_offset, with_known_offset, has_zone_clock, zone_clock}
pub use Show.Clocks.{Moment}
unfoldable pub use Show.Dates.{shown_clock, shown_offset, raw_text, relative_shown, human_shown, is_stored, is_clock_kind}
unfoldable pub use Show.Dates.{clock_text, shown_by, shown}
unfoldable pub use Show.Human.{is_same_day, is_few_days_before, distance_of, other_offset_text, few_days_text, text_by_distance}
unfoldable pub use Show.Human.{human_text}
unfoldable pub use Show.Modes.{kind_rows, own, in_zone, mode_rows, mode_named, row_mode, mode_row, mode_held, kind_name, mode_name}
unfoldable pub use Show.Modes.{NamesMode}
unfoldable pub use Show.OwnDates.{short_decimals, written_offset_text, offset_text, spaced_offset_text, unknown_decimal}
unfoldable pub use Show.OwnDates.{dated_clock, clock_by, line_clock, strict_front, iso_front, rfc2822_front, before_day}
unfoldable pub use Show.OwnDates.{then_month, known_offset_text, own_clock_text, few_days_offset, own_human_text, shown_of_clock}
unfoldable pub use Show.OwnDates.{human_by, is_without_offset, own_clock_shown, own_date_shown_by, own_date_shown}
unfoldable pub use Show.Texts.{unknown_offset, git_default_text, year_layout, year_text, day_layout, weekday_layout}
unfoldable pub use Show.Texts.{short_clock_text, day_and_clock_text, weekday_and_clock_text}
unfoldable pub use Tokens.Names.{is_weekday, is_zone_name, ahead, behind, zone_rows, zone_held, AreZones, has_initial}
unfoldable pub use Tokens.Names.{stand_between, zone_named}
unfoldable pub use Tokens.Numbers.{max_number, max_small, max_grouped, numbers_of_32_bits, digit_more, number, is_too_large, narrow}
unfoldable pub use Tokens.Steps.{and_then, ◌>>=◌}
unfoldable pub use Tokens.Strings.{nul, string_len, before_nul, nul_place}
unfoldable pub use Tokens.Tokens.{token_text, letter_before, digit_before, byte_before, tokens, texts, bytes_left, is_end}
unfoldable pub use Tokens.Tokens.{token_of, walked}
pub use Tokens.Tokens.{Token, Letters, Digits, Mark}
unfoldable pub use Types.AgeCases.{Minutes, Hours, Days, Weeks, Years}
unfoldable pub use Types.DatedCases.{Taken, Refused}
unfoldable pub use Types.FaultCases.{NumberTooLarge, BackTooFar, Range}
unfoldable pub use Types.MeaningCases.{Month, Back, Never, Hour, Morning, Afternoon, Count}
unfoldable pub use Types.Names.{Now, Dated, Fault, Fields, Group, Number, Padded, Reading, Said, Today, Draft, LastShown, Meaning}
unfoldable pub use Types.Names.{ZoneClock, Found, Age, Asked, Trail, ZoneState}
unfoldable pub use Types.UnitCases.{Weekday}
