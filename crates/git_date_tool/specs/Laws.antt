-- What a command comes to whose words are wrong.
use Rattle.std.specs.Prelude.{◌≡◌, ℕ, List, Some, Err}
use Rattle.streams.specs.Messages.{Reports}
use Rattle.streams.specs.Changes.{Change, IsUntouched}
use Rattle.streams.specs.declared.program.Status.{Status}
use Rattle.streams.specs.declared.program.Status.TheVariants.{Usage}
use Rattle.git_date_tool.specs.CommandLine.Command.{asked}
use Rattle.git_date_tool.specs.Program.{Executes, usage_message}

-- what a command comes to whose words are wrong, whatever the machine has: it says why and how it is called, and nothing else
pub record IsRefused (why : List ℕ) (reading writing telling : Change) (status : Status) : Type 0 where
  pub unread : IsUntouched reading
  pub unwritten : IsUntouched writing
  pub told : Reports telling (Some (usage_message why))
  pub status_is : status ≡ Usage

-- words with which something is wrong end by the status for usage: nothing is read or written, and it is said what is wrong
unfoldable pub WrongWordsAreRefused : Type 0
WrongWordsAreRefused =
    (words : List (List ℕ)) (why : List ℕ) (reading writing telling : Change) (status : Status)
    → asked words ≡ Err why → Executes words reading writing telling status → IsRefused why reading writing telling status
