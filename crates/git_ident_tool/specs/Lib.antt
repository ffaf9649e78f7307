-- The words of definitions. Made by scripts/words.
pub mod Command
pub mod Cursor
pub mod Faults
pub mod Judging
pub mod Lines
pub mod Objects
pub mod Program
pub mod Served
pub mod Verdicts
unfoldable pub use Command.{step_of, first_asked, by_step, asked_from, asked}
unfoldable pub use Cursor.{unread, input, IsOver, LineEnds, SkipEnds, stretch, TakesPart, RefillEnds}
pub use Cursor.{ReadsLine, Skips, Stretch, TakesEnd, TakesFront, Refills}
unfoldable pub use Faults.{header_words, stream_words, fault_message}
unfoldable pub use Judging.{flow, lines_due, are_clean, id_of, object_due, objects_due, is_clean_object, Wrote, Causes}
unfoldable pub use Judging.{IsFilledLine, StopsWithin, Settles, JudgesHeader, IsBeyond, IsOfInput, EndsObject, broken_due}
unfoldable pub use Judging.{JudgesObject, StopsHeader, JudgesStream}
pub use Judging.{Flow, BeginsWith, JudgesAll, JudgesPart, SkipsRest, StopsInRest, Broken, JudgesWhole, RefusesHeader}
pub use Judging.{BreaksObject, JudgesAllObjects, InHeader, AtHeader, AfterHeader, StopsAfterObjects}
unfoldable pub use Lines.{texts_due, BreaksAt, JudgesTexts, fault_in, result_of, JudgesLines, JudgesTo}
unfoldable pub use Objects.{begins, kind_start, kinds, kind_of, is_number, size_of, header_with, header_after, is_no_object}
unfoldable pub use Objects.{read_header, object_text, stream_text, has_own_header, lines_of}
pub use Objects.{Object, IsObject}
unfoldable pub use Program.{status_of, wrong_words, Says, usage_message, message_of, Prints, JudgesAs, end_of, EndsCommand}
pub use Program.{Executes, ShowsUsage}
pub use Served.{no_lines, more_lines}
unfoldable pub use Verdicts.{role_words, roles_of, role_in, fault_of, fsck_words, verdict_words, is_told, told, object_told}
unfoldable pub use Verdicts.{text_due, role_due, line_due, is_clean, is_clean_in, Tells}
