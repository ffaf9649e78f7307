-- What the program does with a command line.
use Rattle.std.specs.Prelude.{◌≡◌, ℕ, List, [], ◌∷◌, Option, Some, None, Result, Ok, Err, if◌then◌else◌, codes}
use Rattle.std.specs.Str.{bytes_eq}
use Rattle.gix_date.specs.Devices.StreamState.{Takes, TakesProperPrefix}
use Rattle.gix_date.specs.declared.time.Time.{Time}
use Rattle.gix_date_tool.specs.declared.program.arguments.Mode.{Mode}
use Rattle.gix_date_tool.specs.declared.program.arguments.WrongWords.{WrongWords}
use Rattle.gix_date_tool.specs.declared.program.arguments.WrongWords.TheVariants.{NotText}
use Rattle.streams.specs.declared.error.ToolError.TheVariants as errors
use Rattle.gix_date_tool.specs.declared.program.outcome.Outcome.{Outcome}
use Rattle.gix_date_tool.specs.declared.program.outcome.Outcome.TheVariants.{Replied, Fault, Printed, Shown}
use Rattle.gix_date_tool.specs.declared.help.TheConstants.{HELP, VERSION}
use Rattle.streams.specs.Changes.{Change}
use Rattle.streams.specs.Messages.{Reports}
use Rattle.streams.specs.declared.program.Status.{Status}
use Rattle.streams.specs.declared.program.Status.TheVariants.{Success, Failure, Usage}
use Rattle.gix_date_tool.specs.declared.program.TheConstants.{USAGE}
use Rattle.gix_date_tool.specs.Command.{asked}
use Rattle.gix_date_tool.specs.Messages.{message_of}
use Rattle.gix_date_tool.specs.Run.{Runs}

-- the status that an end has
abbrev pub status_of : Outcome → Status
status_of Replied = Success
status_of Printed = Success
status_of (Fault fault) = Failure
status_of (Shown why) = Usage

-- the text that a word asks for
abbrev pub text_named : List ℕ → Option (List ℕ)
text_named word =
    if bytes_eq word (codes "--help") then Some HELP.now
    else if bytes_eq word (codes "-h") then Some HELP.now
    else if bytes_eq word (codes "--version") then Some VERSION.now
    else None

-- the text that the words of a command line ask for, by the first of them
abbrev pub printed_of : List (List ℕ) → Option (List ℕ)
printed_of [] = None
printed_of (word ∷ more) = text_named word

-- A text was written, or the writer has a fault and a proper prefix of it was.
abbrev pub Prints : List ℕ → Change → Outcome → Type 0
Prints text writing Printed = Takes writing.old writing.new text
Prints text writing (Fault (errors.Write kind)) = TakesProperPrefix writing.old writing.new text × (writing.new.fault ≡ Some kind)
Prints text writing _ = ⊥

-- The usage line was written, or the writer has a fault and a proper prefix of it was.
abbrev pub EndsInUsage : WrongWords → Change → Outcome → Type 0
EndsInUsage why writing (Shown told) = Takes writing.old writing.new USAGE.now × (told ≡ why)
EndsInUsage why writing (Fault (errors.Write kind)) =
    TakesProperPrefix writing.old writing.new USAGE.now × (writing.new.fault ≡ Some kind)
EndsInUsage why writing _ = ⊥

-- A run in this mode at this moment came to its end, or to a fault.
abbrev pub EndsRun : Mode × Option Time → Change → Change → Outcome → Type 0
EndsRun query reading writing Replied = (count : ℕ) × Runs query.0 query.1 reading writing (Ok count)
EndsRun query reading writing (Fault fault) = Runs query.0 query.1 reading writing (Err fault)
EndsRun query reading writing _ = ⊥

-- What the program comes to by what was asked of it: the usage line is due where words are wrong, and then nothing is read.
abbrev pub EndsCommand : Result (Mode × Option Time) WrongWords → Change → Change → Outcome → Type 0
EndsCommand (Err why) reading writing outcome = (reading.new ≡ reading.old) × EndsInUsage why writing outcome
EndsCommand (Ok query) reading writing outcome = EndsRun query reading writing outcome

-- What it comes to by these words, where they ask for a text, and where they ask for none. To print a text nothing is read.
abbrev pub EndsBy : Option (List ℕ) → List (List ℕ) → Change → Change → Outcome → Type 0
EndsBy (Some text) words reading writing outcome = (reading.new ≡ reading.old) × Prints text writing outcome
EndsBy None words reading writing outcome = EndsCommand (asked words) reading writing outcome

-- What the program comes to by the words of its command line.
abbrev pub Ends : List (List ℕ) → Change → Change → Outcome → Type 0
Ends words reading writing outcome = EndsBy (printed_of words) words reading writing outcome

-- What was said, and the status, are those of such an end.
pub record Executes (words : List (List ℕ)) (reading writing telling : Change) (status : Status) : Type 0 where
  pub outcome : Outcome
  pub ends : Ends words reading writing outcome
  pub reports : Reports telling (message_of outcome)
  pub status_is : status ≡ status_of outcome

-- What was said, and the status, are those of an end that owes the usage line since a word is not UTF-8.
pub record ShowsUsage (writing telling : Change) (status : Status) : Type 0 where
  pub outcome : Outcome
  pub ends : EndsInUsage NotText writing outcome
  pub reports : Reports telling (message_of outcome)
  pub status_is : status ≡ status_of outcome
