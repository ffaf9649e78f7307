-- What the program does with a command line.
use Rattle.std.specs.Prelude.{◌≡◌, ◌⊎◌, ℕ, Bool, true, false, not, ◌&&◌, List, [], ◌∷◌, ◌++◌, if◌then◌else◌, Option, Some, None, unwrap_or}
use Rattle.std.specs.Prelude.{Result, Ok, Err, codes}
use Rattle.gix_date.specs.Devices.StreamState.{StreamState, Takes, TakesProperPrefix}
use Rattle.jiff.specs.Types.{TimeZone}
use Rattle.jiff.specs.Words.{zoned_nanos}
use Rattle.jiff.specs.declared.zoned.Zoned.{Zoned}
use Rattle.gix_date.specs.Relative.Steps.{zone_of}
use Rattle.streams.specs.Messages.{WritesMessage, Reports, fault_message, message as line_of}
use Rattle.streams.specs.Changes.{Change, change, IsUntouched}
use Rattle.streams.specs.declared.error.ToolError.{ToolError}
use Rattle.streams.specs.declared.error.ToolError.TheVariants as errors
use Rattle.streams.specs.declared.program.Status.{Status}
use Rattle.streams.specs.declared.program.Status.TheVariants.{Success, Failure, Usage}
use Rattle.git_date.specs.declared.mode.DateKind.TheVariants.{Raw}
use Rattle.git_date_tool.specs.Answers.Shown.{Git, way_of}
use Rattle.git_date_tool.specs.CommandLine.Command.{Answer, Ask, Asked, Help, Version, asked}
use Rattle.git_date_tool.specs.CommandLine.Now.{IsInstantOf}
use Rattle.git_date_tool.specs.Runs.{Output, output, RunsOver, RunsThrough}
use Rattle.git_date_tool.specs.CommandLine.Wrong.{not_text, wrong_words}
use Rattle.git_date_tool.specs.Zones.Zones.{IsAskedZone, IsTextOf, MayLackZone, NeedsSystem}
use Rattle.git_date_tool.specs.declared.answers.Query.{Query}
use Rattle.git_date_tool.specs.declared.program.NoNow.{NoNow}
use Rattle.git_date_tool.specs.declared.program.NoNow.TheVariants.{Clock, NoMoment as NoMomentOf}
use Rattle.git_date_tool.specs.declared.program.Outcome.{Outcome}
use Rattle.git_date_tool.specs.declared.program.Outcome.TheVariants.{Answered, Fault, NoClock, Printed, Shown, Unquoted}
use Rattle.git_date_tool.specs.declared.help.TheConstants.{HELP, USAGE, VERSION}
use Rattle.git_date_tool.specs.declared.answers.Reader.TheVariants.{Approxidate}
use Rattle.git_date_tool.specs.declared.answers.Strictness.TheVariants.{Usual}
use Rattle.git_date_tool.specs.declared.runs.Verdict.{Verdict}
use Rattle.git_date_tool.specs.declared.answers.warnings.Numbered.{Numbered}
use Rattle.git_date_tool.specs.declared.answers.warnings.Numbered.TheVariants.{Line, Text}
use Rattle.git_date_tool.specs.declared.program.wrong.WrongWords.{WrongWords}
use Rattle.git_date_tool.specs.declared.program.wrong.WrongWords.TheVariants.{NoMoment, NoZone}
use Rattle.git_date_tool.specs.declared.zones.NoZone.{NoZone as Lack}
use Rattle.git_date_tool.specs.declared.zones.NoZone.TheVariants as lacks
use Rattle.git_date_tool.specs.declared.zones.ZoneText.{ZoneText}

-- the status that an end has
abbrev pub status_of : Outcome → Status
status_of Printed = Success
status_of (Answered true) = Success
status_of (Answered false) = Failure
status_of (Unquoted true) = Success
status_of (Unquoted false) = Failure
status_of (Fault fault) = Failure
status_of NoClock = Failure
status_of (Shown why) = Usage

-- one line, after the program's name
abbrev pub message : List ℕ → List ℕ
message words = line_of (codes "git_date") words

-- what is wrong, in one line, and the usage line
abbrev pub usage_message : List ℕ → List ℕ
usage_message why = message why ++ USAGE.now

-- this was said in one line, and then this text, or as much of it as was taken
unfoldable pub Says : Change → List ℕ → List ℕ → Type 0
Says telling why more = WritesMessage telling (message why ++ more)

-- what is said of an end, where anything is
abbrev pub message_of : Outcome → Option (List ℕ)
message_of (Fault fault) = fault_message (codes "git_date") fault
message_of (Shown why) = Some (usage_message (wrong_words why))
message_of Printed = None
message_of NoClock = Some (message (codes "the clock cannot be read"))
message_of (Answered all_read) = None
message_of (Unquoted all_read) = Some (message (codes "each word is a text by itself; quote a text of several words"))

-- This is wrong with the command line, and nothing is written.
abbrev pub EndsWrong : List ℕ → Outcome → Type 0
EndsWrong why (Shown told) = wrong_words told ≡ why
EndsWrong why _ = ⊥

-- A text was written, or the writer has a fault and a proper prefix of it was.
abbrev pub Prints : List ℕ → Change → Outcome → Type 0
Prints text writing Printed = Takes writing.old writing.new text
Prints text writing (Fault (errors.Write kind)) = TakesProperPrefix writing.old writing.new text × (writing.new.fault ≡ Some kind)
Prints text writing _ = ⊥

-- what it comes to without a zone of a text: there was no memory for it, or the machine refused to read its file, or it says none
abbrev pub without_zone : ZoneText → Lack → Outcome
without_zone text lacks.Memory = Fault errors.Memory
without_zone text (lacks.Fault kind) = Fault (errors.Read kind)
without_zone text (lacks.Text fault) = Shown (NoZone text fault)

-- the instant is that of NOW, or some other
abbrev pub IsInstantOfNow : Option (List ℕ) → TimeZone → Zoned → Type 0
IsInstantOfNow (Some text) zone z = IsInstantOf zone text (Ok (zoned_nanos z))
IsInstantOfNow None zone z = Unit {0}

-- such an instant in this zone
abbrev pub IsMomentIn : Option (List ℕ) → TimeZone → Zoned → Type 0
IsMomentIn now zone z = IsInstantOfNow now zone z × (zone_of z ≡ zone)

-- there is no moment in this zone: of NOW, or of the clock
abbrev pub IsNoMoment : Option (List ℕ) → TimeZone → NoNow → Type 0
IsNoMoment now zone Clock = now ≡ None
IsNoMoment now zone (NoMomentOf text why) = (now ≡ Some text.now) × IsInstantOf zone text.now (Err why)

-- there is no query, since there is no moment in the zone that is asked for
abbrev pub IsNoQuery : Asked → NoNow → Type 0
IsNoQuery a why = (zone : TimeZone) × IsAskedZone a.zone zone × IsNoMoment a.now zone why

-- texts of the command line are numbered as texts, and else there are lines
abbrev pub numbered_of : List (List ℕ) → Numbered
numbered_of [] = Line
numbered_of (text ∷ texts) = Text

-- the query is what was asked for
pub record IsQuery (a : Asked) (query : Query) : Type 0 where
  pub reader : query.reader ≡ unwrap_or a.reader Approxidate
  pub shown : way_of query.shown ≡ unwrap_or a.shown (Git (record { kind = Raw; local = false }))
  pub strictness : query.strictness ≡ unwrap_or a.strictness Usual
  pub numbered : query.numbered ≡ numbered_of a.texts
  pub now : IsInstantOfNow a.now (zone_of query.now) query.now
  pub zone : IsAskedZone a.zone (zone_of query.now)

-- a run over the texts, or over the lines of the reader if there is none
abbrev pub RunsAs : List (List ℕ) → Query → Change → Output → Result Verdict ToolError → Type 0
RunsAs [] query reading out result = RunsThrough query reading out result
RunsAs (text ∷ texts) query reading out result = IsUntouched reading × RunsOver query (text ∷ texts) out result

-- more texts than one
abbrev pub are_several : List (List ℕ) → Bool
are_several (text ∷ next ∷ texts) = true
are_several _ = false

-- how such a run ends, by what it comes to: where a word of several texts was not understood, a quote may be missing
abbrev pub end_of : List (List ℕ) → Result Verdict ToolError → Outcome
end_of texts (Ok verdict) =
    if are_several texts && not verdict.all_clear then Unquoted verdict.all_read else Answered verdict.all_read
end_of texts (Err fault) = Fault fault

-- such a run came to its end, or to a fault
abbrev pub EndsRun : Asked → Query → Change → Output → Outcome → Type 0
EndsRun a query reading out outcome =
    (result : Result Verdict ToolError) × RunsAs a.texts query reading out result × (outcome ≡ end_of a.texts result)

-- Why the command line is wrong though its words are right: there is no zone, or NOW is no moment in it.
abbrev pub IsNoStart : Asked → WrongWords → Type 0
IsNoStart a (NoZone text fault) = IsTextOf a.zone text × MayLackZone text
IsNoStart a (NoMoment text why) = (zone : TimeZone) × IsAskedZone a.zone zone × (a.now ≡ Some text.now)
    × IsInstantOf zone text.now (Err why)
IsNoStart a _ = ⊥

-- nothing was read, written or answered: the command line is wrong, or there was no memory for a zone, its file was not read, or no clock
abbrev pub StartsNot : Asked → Outcome → Type 0
StartsNot a (Shown why) = IsNoStart a why
StartsNot a (Fault errors.Memory) = NeedsSystem a.zone
StartsNot a (Fault (errors.Read kind)) = NeedsSystem a.zone
StartsNot a NoClock = a.now ≡ None
StartsNot a _ = ⊥

-- what the program comes to that is asked to answer
unfoldable pub EndsRequest : Asked → Change → Output → Outcome → Type 0
EndsRequest a reading out outcome =
    ((query : Query) × IsQuery a query × EndsRun a query reading out outcome)
    ⊎ (IsUntouched reading × IsUntouched out.writing × IsUntouched out.telling × StartsNot a outcome)

-- what it comes to by the words of its command line
abbrev pub EndsCommand : Result Ask (List ℕ) → Change → Output → Outcome → Type 0
EndsCommand (Ok (Answer a)) reading out outcome = EndsRequest a reading out outcome
EndsCommand (Ok Help) reading out outcome = IsUntouched reading × IsUntouched out.telling × Prints HELP.now out.writing outcome
EndsCommand (Ok Version) reading out outcome = IsUntouched reading × IsUntouched out.telling × Prints VERSION.now out.writing outcome
EndsCommand (Err why) reading out outcome = IsUntouched reading × IsUntouched out.writing × IsUntouched out.telling × EndsWrong why outcome

-- Warnings, the message of the end, and the status are those of such an end.
pub record Executes (words : List (List ℕ)) (reading writing telling : Change) (status : Status) : Type 0 where
  pub outcome : Outcome
  pub warned : StreamState
  pub ends : EndsCommand (asked words) reading (output writing (change telling.old warned)) outcome
  pub reports : Reports (change warned telling.new) (message_of outcome)
  pub status_is : status ≡ status_of outcome

-- what the program does with a command line that has a word which is not UTF-8: it says so, and nothing else
pub record ShowsUsage (telling : Change) (status : Status) : Type 0 where
  pub reports : Reports telling (Some (usage_message not_text))
  pub status_is : status ≡ Usage
