-- The words of definitions. Made by scripts/words.
pub mod Careful
pub mod Computing
pub mod Devices
pub mod Families
pub mod Fields
pub mod Git
pub mod Header
pub mod Printing
pub mod Relative
pub mod Text
pub mod Values
unfoldable pub use Careful.Dates.{takes_all, is_whole_clock, is_whole_git, day_named, first_day, names_its_day, is_number}
unfoldable pub use Careful.Dates.{is_large_if_number, is_in_years_if_number, unzoned_day, unzoned_git_time, unzoned_time}
unfoldable pub use Careful.Dates.{IsLocalIfAny}
pub use Careful.Dates.{IsLocalTime}
unfoldable pub use Careful.Fronts.{Part, IsRestOf, left_by, perhaps, taken_by, skip_number, skip_marked, skip_day, skip_clock}
unfoldable pub use Careful.Fronts.{skip_named_day, skip_offset, skip_git_day, skip_bare_fraction, skip_git_clock, git_parts}
unfoldable pub use Careful.Fronts.{iso8601_parts, strict_parts, rfc2822_parts, gitoxide_parts, default_parts, or_later}
unfoldable pub use Careful.Fronts.{longest_front}
unfoldable pub use Careful.Grammar.{IsSeparator, AreSeparators, IsWordGap, IsWord, WordPiece, AreSeparated, joined_pieces}
unfoldable pub use Careful.Grammar.{words_of, number_words, IsPlainCount, IsUnitName, IsCountAndUnit, GoesOn, ArePairsAgo}
unfoldable pub use Careful.Grammar.{IsCarefulText, AreSomeDigits}
pub use Careful.Grammar.{IsCarefulOf}
unfoldable pub use Careful.Laws.{HasNoLocalDate, IsParsedToo, in_zone, IsCarefulSo, AnswersPairs}
unfoldable pub use Careful.Outcome.{reading_of, IsReadingOf, local_date, unzoned_reading, unzoned_or, local_or, clear_or}
unfoldable pub use Careful.Outcome.{names_no_other_day, is_in_years, in_years_or_late, is_clear_answer, has_word_before}
unfoldable pub use Careful.Outcome.{date_reading, git_or, pairs_or, reading_of_texts, default_options, careful_reading}
unfoldable pub use Careful.Outcome.{CarefulOutcome, IsPlaceIn}
pub use Careful.Outcome.{Reading, Local, Unclear, AfterYear9999, First}
unfoldable pub use Careful.Texts.{in_word, after_word, begins_word, word_at, IsWordPlace, word_before, is_plain_count, is_and}
unfoldable pub use Careful.Texts.{may_follow, may_stand_after, is_separator, separates, is_clear_at, ends_in_ago, first_failure}
unfoldable pub use Careful.Texts.{unclear_place}
unfoldable pub use Computing.{computing}
unfoldable pub use Devices.Device.{inner_of, fault_of}
unfoldable pub use Devices.InputBytes.{shown_text}
unfoldable pub use Devices.Lending.{LeavesText}
unfoldable pub use Devices.StreamState.{Takes, TakesProperPrefix, TakesNothing, Gives, HasEnded, refusal}
pub use Devices.StreamState.{StreamState}
unfoldable pub use Families.AfterDay.{dashed_answer, answer_after, named_day_answer, read_named_day}
unfoldable pub use Families.Answer.{answer_of, HasJiffOffset}
pub use Families.Answer.{FamilyAnswer, Absolute, OffsetAboveDay, NoInstant}
unfoldable pub use Families.Epoch.{utc_time, at_time, min_bare_epoch, epoch_time}
unfoldable pub use Families.Laws.{Holds, overlap, AreExclusive, Agree, HasOneOutcome}
pub use Families.Laws.{AreDisjoint, ComesFirst}
unfoldable pub use Families.Order.{family_answer, families_before_git, families, first_answer_of, family_answers, first_family_by}
unfoldable pub use Families.Order.{answers_before_git, first_family, RefusesUnknown, RefusesDate, ParseNoAllocOutcome}
unfoldable pub use Families.Order.{RefusesWithCopy, WithCopy, ParseOutcome}
pub use Families.Order.{Family, AtText, Short, Rfc2822, Iso8601, Iso8601Strict, Gitoxide, Default, BareEpoch, GitForm}
pub use Families.Order.{RelativeText, RawText}
unfoldable pub use Families.Patterns.{max_date_offset, date_answer, time_answer, midnight, day_answer, real_day_answer}
unfoldable pub use Families.Patterns.{short_layout, short_answer, rfc2822_layout, rfc2822_answer, iso8601_layout, iso8601_answer}
unfoldable pub use Families.Patterns.{iso8601_strict_layout, iso8601_strict_answer, gitoxide_layout, gitoxide_answer}
unfoldable pub use Families.Patterns.{default_layout, default_answer, Accepts}
pub use Families.Patterns.{IsMeaning}
unfoldable pub use Families.Raw.{max_raw_hours, max_wide_hours, max_wide_minutes, OffsetRule, is_quarter_offset, is_minute_offset}
unfoldable pub use Families.Raw.{allows, raw_offset_by, raw_time_by, raw_time}
unfoldable pub use Families.Shapes.{begins_with_at, are_two_digits, are_four_digits, begins_with_year, begins_with_dashed_day}
unfoldable pub use Families.Shapes.{begins_with_dotted_day, begins_with_compact_day, begins_with_letter, begins_with_count}
unfoldable pub use Families.Shapes.{letter_shape, shape_of, shape_families, first_among, IsDispatched, row_families, IsInItsRow}
unfoldable pub use Families.Usual.{AreAtMost, AreWithin, LooksLikeDate, LooksLikeClock, LooksLikeOffset, SaysField, SaysYear}
unfoldable pub use Families.Usual.{SaysDate, SaysClock, SaysOffset, AnswersFirst}
pub use Families.Usual.{IsUsualOffset, Says}
unfoldable pub use Fields.Civil.{read_date, is_date, is_clock, clock_seconds, civil_seconds, civil_instant}
pub use Fields.Civil.{DateFits, ClockFits}
unfoldable pub use Fields.ClockNumbers.{max_hour, max_minute, max_second, seconds_per_minute, seconds_per_hour, seconds_per_day}
unfoldable pub use Fields.ClockNumbers.{hours_in, minutes_in}
unfoldable pub use Fields.DateFields.{skip_spaces, read_name, month_named, is_weekday, read_month, skip_weekday, skip_day_name}
unfoldable pub use Fields.DateFields.{read_plain_date, read_colon_clock, without_leap_second, read_minutes, read_second}
unfoldable pub use Fields.DateFields.{read_clock, read_rfc2822_clock}
unfoldable pub use Fields.DateOffsets.{is_jiff_offset, jiff_offset, compact_offset, last_colon_pair, strict_offset, west}
unfoldable pub use Fields.DateOffsets.{zone_names, named_zone, rfc2822_offset, rfc2822_zone, strict_offset_text}
unfoldable pub use Fields.FieldTexts.{IsDigit, digit_value, IsField, IsYear, AreDigits, IsPair, IsSign, AreSpaces, AreThreeLetters}
unfoldable pub use Fields.FieldTexts.{IsDayName, IsMonthName, IsRfc2822Clock, four_digits, ten_digits, date_text, clock_text}
pub use Fields.FieldTexts.{IsPlainDate, AreMinutes, IsClock, IsDayPrefix}
unfoldable pub use Fields.Layout.{LocalDate, LocalClock, read_piece, read_pieces, nothing_read, layout_answer, IsPiece, ArePieces}
unfoldable pub use Fields.Layout.{print_piece, print_pieces}
pub use Fields.Layout.{LocalTime, Piece, DayName, Rfc2822DayName, MonthName, Day, Year, PlainDate, Clock, Rfc2822Clock}
pub use Fields.Layout.{Spaces, LetterT, Offset, ColonOffset, Rfc2822Offset, BeginsWith}
unfoldable pub use Fields.Offsets.{read_sign, last_pair, offset_fields, signed, offset_of, offset_by, offset_sign}
unfoldable pub use Fields.Offsets.{hours_and_minutes, compact_offset_text, SignedPairs, OffsetSign}
unfoldable pub use Fields.Zoned.{first_second, last_second, max_zone_offset, IsConvertible, is_instant, is_convertible}
unfoldable pub use Fields.Zoned.{whole_seconds, time_in_utc, time_in}
pub use Fields.Zoned.{IsMoment}
unfoldable pub use Git.Clock.{at_most, digits_at_most, clock_of_fields, clock_of_parts, clock_with_colons, read_pair_or_end}
unfoldable pub use Git.Clock.{clock_without_colons, trimmed_clock, git_clock}
unfoldable pub use Git.ClockCut.{last_place, is_sign, has_offset_at, last_space, last_sign, Cut, cut_at_z, trimmed_after}
unfoldable pub use Git.ClockCut.{cut_at_space_place, cut_at_space, cut_at_sign, clock_cut}
unfoldable pub use Git.Cuts.{EndsInZ, CutsAtSpace, CutsAtSign}
pub use Git.Cuts.{IsLastPlace, IsCut, at_z, at_space, at_offset_sign, whole}
unfoldable pub use Git.Forms.{without_colons, fields_of, offset_of_digits, is_within_a_day, git_offset, read_marked_date}
unfoldable pub use Git.Forms.{read_compact_date, time_at, time_of_cut, time_with_rest, read_then_gap, dotted_front, compact_front}
unfoldable pub use Git.Forms.{flexible_front, git_front, git_form, git_time}
unfoldable pub use Git.Grammar.{IsGitFront, IsUpTo, AreClockParts, AreClockPairs, IsGitOffset}
pub use Git.Grammar.{IsGitDate, IsGitClock, IsSignedOffset, IsGitText}
unfoldable pub use Header.Canonical.{is_decimal_text, has_whole_minutes, is_canonical_offset, is_canonical_header, kind_of}
unfoldable pub use Header.Canonical.{header_kind}
unfoldable pub use Header.CanonicalBytes.{are_usual_seconds, are_hours_and_minutes, is_usual_offset}
unfoldable pub use Header.Laws.{CanonicalIffUnchanged, RoundTripsThroughHeader, AreAlike, AreWrittenAlike}
pub use Header.Laws.{ComesBack}
unfoldable pub use Header.Reading.{header_seconds, header_offset, time_of_words, header_time, ReadsHeader, ArePairsButSixth}
pub use Header.Reading.{IsUsualHeader, IsHeaderLine}
unfoldable pub use Header.Text.{hundred_hours, max_text_len, written_text, header_text, is_header_text_of, Writes, GivesText}
unfoldable pub use Header.Text.{text_left}
unfoldable pub use Header.TimeBuf.{text_in, HoldsText}
unfoldable pub use Printing.FormatBuf.{IsNamedPattern, HasBufText}
pub use Printing.FormatBuf.{HasNamedText}
unfoldable pub use Printing.Formats.{HasParts, IsUnprinted, AtMoment, IsPatternText, IsTextOf, PrintsSeconds, PrintsHeader}
unfoldable pub use Printing.Formats.{PrintsPattern, Prints, HasNoPatternText, PrintsPatternOrSeconds, HasNoText, PrintsOrSeconds}
unfoldable pub use Printing.Formats.{PrintsAt}
pub use Printing.Formats.{ArePrinted, IsShown}
unfoldable pub use Printing.LocalClocks.{century_of, day_of_century, march_year, march_month, march_day, january_date, date_of_day}
unfoldable pub use Printing.LocalClocks.{local_seconds, local_day, second_of_day, clock_of, first_of_year_1000, last_of_year_9999}
pub use Printing.LocalClocks.{HasFourDigitFields, IsShowable, HasFields}
unfoldable pub use Printing.NamedFormats.{printed_by, named_formats, format_row, format_named, format_numbered}
pub use Printing.NamedFormats.{Printed, Seconds, ByPattern}
unfoldable pub use Printing.NamedTexts.{local_time, short_pattern, short_text, rfc2822_pattern, rfc2822_text, git_rfc2822_pattern}
unfoldable pub use Printing.NamedTexts.{git_rfc2822_text, iso8601_pattern, iso8601_text, iso8601_strict_pattern}
unfoldable pub use Printing.NamedTexts.{iso8601_strict_text, gitoxide_pattern, gitoxide_text, default_pattern, default_text}
unfoldable pub use Printing.NamedTexts.{bare_default_layout, bare_default_text, ShowsText, IsShownByAll}
pub use Printing.NamedTexts.{ShowsFourDigitFields}
unfoldable pub use Printing.Patterns.{spaced_day, context_of, strict, StepShows, ShowsLetter}
pub use Printing.Patterns.{Unseen, ShowsFront}
unfoldable pub use Printing.PrintedTimes.{PrintsText, IsPrintedAs}
unfoldable pub use Printing.ReadingBack.{TimesRoundTrip, HasClock, RoundTripsAs, RoundTripsByPattern, IsRuleOffset, midnight_of}
unfoldable pub use Printing.ReadingBack.{day_read_back, HeaderRoundTrips, SecondsRoundTrip, ShortReadsAsMidnight}
pub use Printing.ReadingBack.{RoundTrips, RoundTripsBy, RoundTripsByEach, IsQuarterOffset, IsMinuteOffset}
unfoldable pub use Relative.Dates.{relative_date_of, date_names, named_date, pairs_date, relative_date, Reaches, IsNamedIfAny}
unfoldable pub use Relative.Dates.{RelativeOutcome, AreNamedOnce}
pub use Relative.Dates.{RelativeDate, MinusSeconds, MinusPairs, IsNamed}
unfoldable pub use Relative.FixedZones.{IsNonnegativePair, less_seconds, less_months, product, total, ProductFits, Names}
unfoldable pub use Relative.FixedZones.{NamesAlike, IsSecondsBefore, earlier, NamesEarlier, NamesBefore, NamesSum, IgnoresOrder}
unfoldable pub use Relative.Pairs.{IsCount, HasFlag, HasPair, AllUnits, ArePairs, IsRelativeText, IsSpelledSo, is_even}
unfoldable pub use Relative.Pairs.{AreFreeByParity}
unfoldable pub use Relative.PairsRead.{pair_of, pairs_from, pairs_read}
unfoldable pub use Relative.Roles.{is_count_word, has_unit, next_is_free, is_count, has_next, next_is_unit, has_flag, has_pair}
unfoldable pub use Relative.Roles.{all_units, are_pairs, pair_with, pair_at, pairs}
unfoldable pub use Relative.Scan.{step, verdict}
unfoldable pub use Relative.Steps.{zone_of, IsLocal, civil_of, month_start, rolled_day, month_before, IsMonthsBeforeIfAny}
unfoldable pub use Relative.Steps.{PairStep, Chain, IsAt}
pub use Relative.Steps.{IsPicked, Resolves, SecondsStep, IsMonthsBefore, MonthsStep, ChooseAlike}
unfoldable pub use Relative.Words.{is_gap, relative_words, number_named, named_count, count_of, singular, unit_names, named_unit}
unfoldable pub use Relative.Words.{unit_of, unit_or_seconds, is_ago, PeriodUnit}
unfoldable pub use Text.Characters.{newline, space, plus, comma, minus, dot, digit_zero, colon, at_sign, letter_s, letter_t}
unfoldable pub use Text.Characters.{letter_z, underscore, small_s, is_space, is_dot, is_colon, has_colon}
unfoldable pub use Text.Front.{ReadFront, read_view, ◌>>=◌, skip_char}
unfoldable pub use Text.LongNames.{begins, least, is_short, long_day_names, month_of_word, weekday_of_word, tells, month_by}
unfoldable pub use Text.LongNames.{weekday_by}
unfoldable pub use Text.Names.{is_name, named_in, value_named, name_row, day_names, month_names, day_name, month_name}
unfoldable pub use Text.Names.{whole_day_names, whole_month_names, whole_day_name, whole_month_name, number_names}
unfoldable pub use Text.Numbers.{decimal_text, two_digits, fits_i64, is_int_text, int_value, two_digit_value, IsPairAt}
unfoldable pub use Text.Numbers.{AreDigitPairs, read_two_digits, read_digit, read_field, read_year}
unfoldable pub use Text.Places.{places_after, places}
pub use Text.Places.{Place}
unfoldable pub use Text.SpaceWords.{white_space, StdWhiteSpaceIsUnicodes, is_nonempty, runs, space_words, first_words, words_view}
unfoldable pub use Values.{ComparesParts, AgreesWith, IsEquality, FeedsParts, FeedsAlike}
