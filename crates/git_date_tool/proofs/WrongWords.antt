-- Wrong words are refused, whatever the machine has.
use Rattle.std.proofs.Common.{◌≡◌, ℕ, List, Some, Result, Err, subst}
use Rattle.gix_date.specs.Devices.StreamState.{StreamState}
use Rattle.streams.specs.Messages.{Reports}
use Rattle.streams.specs.Changes.{Change, change}
use Rattle.streams.specs.declared.program.Status.{Status}
use Rattle.git_date_tool.specs.CommandLine.Command.{Ask}
use Rattle.git_date_tool.specs.Laws.{IsRefused, WrongWordsAreRefused}
use Rattle.git_date_tool.specs.Program.{EndsCommand, message_of, status_of, usage_message}
use Rattle.git_date_tool.specs.Runs.{output}
use Rattle.git_date_tool.specs.declared.program.Outcome.{Outcome}
use Rattle.git_date_tool.specs.declared.program.Outcome.TheVariants.{Answered, Shown}

-- wrong words
refused-by : (why : List ℕ) (reading writing telling : Change) (warned : StreamState) (outcome : Outcome) (status : Status)
    → EndsCommand (Err why) reading (output writing (change telling.old warned)) outcome
    → Reports (change warned telling.new) (message_of outcome)
    → status ≡ status_of outcome → IsRefused why reading writing telling status
refused-by why reading writing telling warned (Shown told) status h said is =
    let from : Reports (change telling.old telling.new) (message_of (Shown told)) =
    subst (λ (s : StreamState). Reports (change s telling.new) (message_of (Shown told))) h.2 said in
    record {
      unread = h.0;
      unwritten = h.1;
      told = subst (λ (words : List ℕ). Reports telling (Some (usage_message words))) h.3 from;
      status_is = is;
    }
refused-by why reading writing telling warned (Answered all_read) status h said is = absurd h.3
refused-by why reading writing telling warned x status h said is = absurd h.3

pub wrong_refused : WrongWordsAreRefused
unfolding WrongWordsAreRefused
wrong_refused words why reading writing telling status wrong h =
    let ends = subst (λ (ask : Result Ask (List ℕ)). EndsCommand ask reading (output writing (change telling.old h.warned)) h.outcome) wrong
    h.ends in
    refused-by why reading writing telling h.warned h.outcome status ends h.reports h.status_is
