-- The words of definitions. Made by scripts/words.
pub mod Agree
pub mod ApproximateIgnored
pub mod ApproximateLaws
pub mod Formats
pub mod Headline
pub mod Ignored
pub mod Laws
pub mod Texts
unfoldable pub use Agree.{has_seconds, has_clock, HasNoLeapSecond, AgreesOnSeconds, AgreesOnDates}
unfoldable pub use ApproximateIgnored.{fits, place_of, unfit, does_nothing, left_by, unused_letters, unused_digits, earliest}
unfoldable pub use ApproximateIgnored.{IgnoresEarliest}
pub use ApproximateIgnored.{Drafted, AtEnd, AtMark, AtLetters, AtDigits, IsEarliestUnused}
unfoldable pub use ApproximateLaws.{HasExactAnswer, HasOneAnswer, offset_then, IsFoundThere, IsFoundNow, IsBackInEveryZone}
unfoldable pub use ApproximateLaws.{moment_itself, IsNowIfFound, IsMomentUnlessUnderstood, HasAnswerInAnyCase}
pub use ApproximateLaws.{IsReachedThere, IsNow}
unfoldable pub use Formats.{ShowsItself, ShowsStored, ShowsAsMode, ShowsModes, joined, moved, ChecksJoined, ShowsJoined}
pub use Formats.{IsOfKnownYear}
unfoldable pub use Headline.{HasOne, shows_all, shown_time, IsReadAs, IsReadAsShown, IsEpoch, IsReadAsRaw, IsReadAsUnix, IsHeadline}
pub use Headline.{Promise}
unfoldable pub use Ignored.{is_known, is_word, is_end_of_number, after_ending, is_clock, is_short, is_set, is_taken, takes_group}
unfoldable pub use Ignored.{alone, may_be_epoch, after_fraction, begins_line, first_of, IgnoresUnused}
pub use Ignored.{Says, Epoch, InGroup, Alone, Used, Word, Number, Sign, Other, Unused, NoWord, NoNumber, NoSign, Walk}
pub use Ignored.{NoMore, LineEnds, Uses, Passes, IsFirstUnused}
unfoldable pub use Laws.{IsApart, AreApart, IgnoresZone, IsOfEveryZone, IgnoresCase, IgnoresLines, IgnoresInstant}
unfoldable pub use Laws.{IsWithoutDayMonth, ReadsRawBack, shows, HasTwoOffsets, IsReadIfShown, IsFoundAgain, IsShownOnce}
unfoldable pub use Laws.{HasInstants, IsFoundIfOnce}
pub use Laws.{IsRead, IsClockRead}
unfoldable pub use Texts.Back.{exactly_back}
pub use Texts.Back.{CountsBack}
unfoldable pub use Texts.Lines.{are_white, awaits_minutes, awaits_offset, end_before_minutes, AreComplete}
unfoldable pub use Texts.Moments.{is_day_month, is_any_day_month, begins_day_month, has_day_month, goes_on, meets_day_month}
unfoldable pub use Texts.Moments.{HasNoDayMonth}
unfoldable pub use Texts.Printed.{IsReadBack}
pub use Texts.Printed.{IsGitTime, AreReadBack}
