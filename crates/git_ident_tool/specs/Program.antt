-- What the program does with a command line.
use Rattle.std.specs.Prelude.{◌≡◌, ℕ, Bool, true, false, List, ◌++◌, Option, Some, None, Result, Ok, Err, codes}
use Rattle.gix_date.specs.Devices.StreamState.{Takes, TakesProperPrefix}
use Rattle.streams.specs.Messages.{Reports, WritesMessage, message}
use Rattle.streams.specs.Changes.{Change}
use Rattle.streams.specs.declared.error.ToolError.TheVariants as errors
use Rattle.streams.specs.declared.program.Status.{Status}
use Rattle.streams.specs.declared.program.Status.TheVariants.{Success, Failure, Usage}
use Rattle.git_ident_tool.specs.Command.{asked}
use Rattle.git_ident_tool.specs.Faults.{fault_message}
use Rattle.git_ident_tool.specs.Judging.{Flow, JudgesStream}
use Rattle.git_ident_tool.specs.Lines.{JudgesLines}
use Rattle.git_ident_tool.specs.declared.error.Fault.{Fault}
use Rattle.git_ident_tool.specs.declared.error.Fault.TheVariants.{Tool}
use Rattle.git_ident_tool.specs.declared.program.Command.{Command}
use Rattle.git_ident_tool.specs.declared.program.Command.TheVariants.{Judge, Help, Version}
use Rattle.git_ident_tool.specs.declared.program.WrongWords.{WrongWords}
use Rattle.git_ident_tool.specs.declared.program.WrongWords.TheVariants.{NoOption, NotText}
use Rattle.git_ident_tool.specs.declared.help.TheConstants.{HELP, USAGE, VERSION}
use Rattle.git_ident_tool.specs.declared.verdicts.Telling.{Telling}
use Rattle.git_ident_tool.specs.declared.program.Outcome.{Outcome}
use Rattle.git_ident_tool.specs.declared.program.Outcome.TheVariants.{Judged, Failed, Printed, Shown}

-- the status that an end has: a fault, and a line that is not clean, have the same
abbrev pub status_of : Outcome → Status
status_of Printed = Success
status_of (Judged true) = Success
status_of (Judged false) = Failure
status_of (Failed fault) = Failure
status_of (Shown why) = Usage

-- what is wrong with the words
abbrev pub wrong_words : WrongWords → List ℕ
wrong_words NoOption = codes "a word is no option"
wrong_words NotText = codes "a word is not UTF-8"

-- these words were said in one line, and then this text, or as much of it as was taken
unfoldable pub Says : Change → List ℕ → List ℕ → Type 0
Says telling words more = WritesMessage telling (message (codes "git_ident") words ++ more)

-- that in one line, and the usage line
abbrev pub usage_message : WrongWords → List ℕ
usage_message why = message (codes "git_ident") (wrong_words why) ++ USAGE.now

-- what is said of an end, where anything is
abbrev pub message_of : Outcome → Option (List ℕ)
message_of (Failed fault) = fault_message fault
message_of (Shown why) = Some (usage_message why)
message_of Printed = None
message_of (Judged clean) = None

-- A text was written, or the writer has a fault and a proper prefix of it was.
abbrev pub Prints : List ℕ → Change → Outcome → Type 0
Prints text writing Printed = Takes writing.old writing.new text
Prints text writing (Failed (Tool (errors.Write kind))) = TakesProperPrefix writing.old writing.new text × (writing.new.fault ≡ Some kind)
Prints text writing _ = ⊥

-- lines were judged, or objects
abbrev pub JudgesAs : Bool → Telling → Flow → Result Bool Fault → Type 0
JudgesAs true telling f result = JudgesLines telling f result
JudgesAs false telling f result = JudgesStream telling f result

-- how that ends
abbrev pub end_of : Result Bool Fault → Outcome
end_of (Ok clean) = Judged clean
end_of (Err fault) = Failed fault

-- what the program comes to by the words of its command line: for another command nothing is read
abbrev pub EndsCommand : Result Command WrongWords → Flow → Outcome → Type 0
EndsCommand (Ok (Judge request)) f outcome = (result : Result Bool Fault) × JudgesAs request.lines request.telling f result
    × (outcome ≡ end_of result)
EndsCommand (Ok Help) f outcome = (f.reading.new ≡ f.reading.old) × Prints HELP.now f.writing outcome
EndsCommand (Ok Version) f outcome = (f.reading.new ≡ f.reading.old) × Prints VERSION.now f.writing outcome
EndsCommand (Err why) f outcome = (f.reading.new ≡ f.reading.old) × (f.writing.new ≡ f.writing.old) × (outcome ≡ Shown why)

-- What was said, and the status, are those of such an end.
pub record Executes (words : List (List ℕ)) (f : Flow) (telling : Change) (status : Status) : Type 0 where
  pub outcome : Outcome
  pub ends : EndsCommand (asked words) f outcome
  pub reports : Reports telling (message_of outcome)
  pub status_is : status ≡ status_of outcome

-- what the program does with a command line that has a word which is not UTF-8: it says so, and nothing else
pub record ShowsUsage (telling : Change) (status : Status) : Type 0 where
  pub reports : Reports telling (Some (usage_message NotText))
  pub status_is : status ≡ Usage
