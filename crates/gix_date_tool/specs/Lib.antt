-- The words of definitions. Made by scripts/words.
pub mod Command
pub mod Laws
pub mod Messages
pub mod Program
pub mod Replies
pub mod Run
pub mod Served
pub mod Signed
unfoldable pub use Command.{mode_of, at_moment, asked_of, asked_by, asked, command_of, IsAnswer, IsRequest, IsRunnable}
pub use Laws.{Begun}
unfoldable pub use Messages.{wrong_words, program, message_of}
unfoldable pub use Program.{status_of, text_named, printed_of, Prints, EndsInUsage, EndsRun, EndsCommand, EndsBy, Ends}
pub use Program.{Executes, ShowsUsage}
unfoldable pub use Replies.{kind_reply, check_reply, unknown_reply, parse_reply, IsWritable, IsParseReply, IsSignReply}
unfoldable pub use Replies.{IsTextReply, IsReplyTo, IsReply, reply_text, reply_line, reply_lines, AreReplies, RepliesAreUnique}
unfoldable pub use Replies.{CanonicalLines, UnchangedLines}
pub use Replies.{Replied}
unfoldable pub use Run.{IsReplyText, IsMomentOf, IsEnd, Runs, output_of, SendsReplies, SendsSome, SendsReply, RepliesTo}
unfoldable pub use Run.{RepliesToFront}
pub use Served.{no_lines, more_lines}
unfoldable pub use Signed.{IsUnsigned}
pub use Signed.{IsSigned, IsCanonicalLine}
