-- The words of definitions. Made by scripts/words.
pub mod Answers
pub mod CommandLine
pub mod Laws
pub mod Program
pub mod Runs
pub mod Served
pub mod Zones
unfoldable pub use Answers.Readers.{of_exact, whole, careful_options, IsExactly, IsApproximately, IsCarefully, IsByGix}
unfoldable pub use Answers.Readers.{header_judged, header_if_any, header_found, IsHeader, IsIfText, IsOfText, IsReadBy}
unfoldable pub use Answers.Readers.{unless_ignored, judged, judged_if_found, IsRead, HasPlace}
unfoldable pub use Answers.Refusals.{refusal_name, refusal_place, is_unclear, of_git, of_gix, of_careful}
unfoldable pub use Answers.Replies.{place_text, refusal_text, refused, dated, line_reply, IsFoundReply, IsReply, answer_reply}
pub use Answers.Replies.{Reply}
unfoldable pub use Answers.Shown.{way_of, after_front, by_format, format_or_mode, way_after, way_named, line_text, IsShownByGit}
unfoldable pub use Answers.Shown.{IsPrinted, IsShownByGix, IsShownByFormat, IsShown}
pub use Answers.Shown.{Way, Git, Gix, ByFormat}
unfoldable pub use Answers.Warnings.{word_len, word_at, warning_of, ignored_view, warning_view, ignored_front, words_by}
unfoldable pub use Answers.Warnings.{warning_words, called, warning_line}
pub use Answers.Warnings.{Told}
unfoldable pub use CommandLine.Command.{request_view, command_view, taken_view, first_asked, is_option, option_named, reader_named}
unfoldable pub use CommandLine.Command.{with_reader, with_shown, is_given, with_new_value, with_value, is_equals, cut_word}
unfoldable pub use CommandLine.Command.{cut_view, with_option, with_any_option, demand_if_first, with_demand, taken, first_option}
unfoldable pub use CommandLine.Command.{with_texts_by, with_texts, at_end, step_view, step_on, step_first, step_of, with_all}
unfoldable pub use CommandLine.Command.{by_step, asked_from, asked}
pub use CommandLine.Command.{Asked, Ask, Answer, Help, Version, Stepped, On, Here, After, Instead, Wrong}
unfoldable pub use CommandLine.Now.{last_instant, IsInstantAt, IsInstantOfMoment, IsInstantOfDate, IsInstantBy, IsInstantOf}
unfoldable pub use CommandLine.Wrong.{option_text, about, about_any, subject_of, zone_subject, wrong_subject, no_option, no_value}
unfoldable pub use CommandLine.Wrong.{twice, two_demands, no_reader, no_mode, no_format, format_fault_text, format_fault_place}
unfoldable pub use CommandLine.Wrong.{no_way, late_option, not_text, zone_lead, zone_fault_text, wrong_lead, wrong_text}
unfoldable pub use CommandLine.Wrong.{wrong_place, place_digits, wrong_words}
unfoldable pub use Laws.{WrongWordsAreRefused}
pub use Laws.{IsRefused}
unfoldable pub use Program.{status_of, message, usage_message, Says, message_of, EndsWrong, Prints, without_zone, IsInstantOfNow}
unfoldable pub use Program.{IsMomentIn, IsNoMoment, IsNoQuery, numbered_of, RunsAs, are_several, end_of, EndsRun, IsNoStart}
unfoldable pub use Program.{StartsNot, EndsRequest, EndsCommand}
pub use Program.{IsQuery, Executes, ShowsUsage}
unfoldable pub use Runs.{output, AreReplies, reply_lines, next_number, number_after, Warns, first_turn, first_verdict, verdict_of}
unfoldable pub use Runs.{both, verdict_on, Comes, Written, RunsOver, result_of, ended_by, RunsThrough, turn_of, unsent_of}
unfoldable pub use Runs.{SendsReplies, ComesTo, AnswersTo}
pub use Runs.{Output, Turn, Answered, CutOff, LacksMemory, AnswersAll}
pub use Served.{both-first, no_lines, more_lines}
unfoldable pub use Zones.Files.{no_zone_of}
unfoldable pub use Zones.Zones.{IsFixedAt, IsOffsetZone, IsFileZone, IsNamedZone, IsTextZone, IsAskedZone, IsName, MayLackText}
unfoldable pub use Zones.Zones.{NeedsSystem, IsTextOf, IsSaidSource, IsFileSource, IsNamedSource, IsFixedSource, IsTextSource}
unfoldable pub use Zones.Zones.{IsSourceOf, MayLackZone, IsTaken}
pub use Zones.Zones.{IsOfFile}
