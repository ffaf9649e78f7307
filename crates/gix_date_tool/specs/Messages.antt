-- What the program says on standard error.
use Rattle.std.specs.Prelude.{ℕ, List, Option, None, Some, codes}
use Rattle.gix_date_tool.specs.declared.program.arguments.WrongWords.{WrongWords}
use Rattle.gix_date_tool.specs.declared.program.arguments.WrongWords.TheVariants as wrong
use Rattle.gix_date_tool.specs.declared.program.outcome.Outcome.{Outcome}
use Rattle.gix_date_tool.specs.declared.program.outcome.Outcome.TheVariants.{Fault, Shown}
use Rattle.streams.specs.Messages.{fault_message, message}
use Rattle.streams.specs.Moments.{no_moment_words}

-- what is wrong with the words of a command line
abbrev pub wrong_words : WrongWords → List ℕ
wrong_words wrong.NoMode = codes "MODE is missing; expected check, parse or sign"
wrong_words wrong.UnknownMode = codes "MODE is none of check, parse and sign"
wrong_words wrong.NowWithoutParse = codes "only parse takes a word after it, NOW"
wrong_words wrong.AfterNow = codes "a word stands after NOW; quote a date of several words"
wrong_words wrong.NotText = codes "a word is not UTF-8"
wrong_words (wrong.NoMoment why) = no_moment_words why

-- the program's name
abbrev pub program : List ℕ
program = codes "gix_date_tool"

-- what is said of an end, where anything is: the fault, or what is wrong with the words
abbrev pub message_of : Outcome → Option (List ℕ)
message_of (Fault fault) = fault_message program fault
message_of (Shown why) = Some (message program (wrong_words why))
message_of _ = None
