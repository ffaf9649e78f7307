-- The words of definitions. Made by scripts/words.
pub mod Changes
pub mod Kinds
pub mod Lines
pub mod Messages
pub mod Moments
pub mod Outbox
pub mod Progress
pub mod Serving
pub mod Usual
unfoldable pub use Changes.{change, IsUntouched}
pub use Changes.{Change}
unfoldable pub use Kinds.{kind_words}
unfoldable pub use Lines.{IsLine, with_newline, SplitsAreUnique, last_line, LineGoesOn, with_last_line, IsCutAfter, IsFirstLine}
unfoldable pub use Lines.{IsShort, IsWithinLimits}
pub use Lines.{Splits, Part}
unfoldable pub use Messages.{fault_words, cause_words, is_closed_pipe, message, fault_message, WritesMessage, Reports, Prints}
unfoldable pub use Messages.{code_of}
unfoldable pub use Moments.{why_unread, moment_of_answer, moment_or_why, no_moment_words}
unfoldable pub use Outbox.{waiting, output, pieces_text, all_sent, Sends}
pub use Outbox.{Output, Puts, PutsProperPrefix}
unfoldable pub use Progress.{held_of, first_held, stage, TakesTo, TakesLine, TakesKnown}
pub use Progress.{Held, Stage, IsReady, TakesAll, Takes, Extends, TakesIn, TakesFront, EndsInput}
unfoldable pub use Serving.{service, Answer, ServesLines, Stays, Joins, ServesFront, StopsAt, Unserved, EndsAt, answer_of}
unfoldable pub use Serving.{fault_of, is_refused}
pub use Serving.{Service, Front, GoesOn, Reached, IsWhole, Succeeded, Unread, Stopped, Ran}
pub use Usual.{HasHeaderInFront, BeginsWithHeader, BeginsWithTime, BeginsWithUnknown}
