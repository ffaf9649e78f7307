-- What answering texts comes to.
use Rattle.std.specs.Prelude.{◌≡◌, ℕ, true, ◌&&◌, ◌==◌, List, [], ◌∷◌, ◌++◌, ◌+◌, if◌then◌else◌, Option, Some, Result, Ok, Err}
use Rattle.std.specs.List.{flat_map, list_all}
use Rattle.std.specs.Option.{option_to_list}
use Rattle.gix_date.specs.Devices.StreamState.{StreamState, Takes, TakesProperPrefix}
use Rattle.streams.specs.Lines.{with_newline}
use Rattle.streams.specs.Messages.{Reports}
use Rattle.streams.specs.Changes.{Change, change}
use Rattle.streams.specs.Outbox as outboxes
use Rattle.streams.specs.Outbox.{waiting}
use Rattle.streams.specs.Serving.{Answer, Ran, Service, fault_of}
use Rattle.streams.specs.declared.error.ToolError.{ToolError}
use Rattle.streams.specs.declared.error.ToolError.TheVariants as errors
use Rattle.streams.specs.declared.serving.Stop.{Stop}
use Rattle.streams.specs.declared.serving.TheConstants.{MAX_LINES}
use Rattle.git_date_tool.specs.Answers.Replies.{Reply, IsReply}
use Rattle.git_date_tool.specs.Answers.Warnings.{warning_line}
use Rattle.git_date_tool.specs.declared.answers.Query.{Query}
use Rattle.git_date_tool.specs.declared.runs.Answering.{Answering}
use Rattle.git_date_tool.specs.declared.runs.Verdict.{Verdict}
use Rattle.git_date_tool.specs.declared.runs.TheConstants.{LAST_NUMBER}

-- what a run writes, and what it tells beside that
pub record Output : Type 0 where
  pub writing : Change
  pub telling : Change

-- the output of these two changes
abbrev pub output : Change → Change → Output
output writing telling = record { writing = writing; telling = telling }

-- the replies to some texts, in order
abbrev pub AreReplies : Query → List (List ℕ) → List Reply → Type 0
AreReplies query [] [] = Unit {0}
AreReplies query (text ∷ texts) (reply ∷ replies) = IsReply query text reply × AreReplies query texts replies
AreReplies query _ _ = ⊥

-- what is written of some replies
abbrev pub reply_lines : List Reply → List ℕ
reply_lines replies = flat_map (λ reply. with_newline reply.text) replies

-- the number of the text after the one with this number; it stops at the last that 64 bits hold
abbrev pub next_number : ℕ → ℕ
next_number number = if number == LAST_NUMBER then number else number + 1

-- the number of the text after some texts, of which the first has this one
abbrev pub number_after : ℕ → List (List ℕ) → ℕ
number_after number [] = number
number_after number (text ∷ texts) = number_after (next_number number) texts

-- the warnings of some replies are said one after the other, each with its number, from this one on
abbrev pub Warns : Query → ℕ → StreamState → StreamState → List Reply → Type 0
Warns query number old new [] = new ≡ old
Warns query number old new (reply ∷ replies) =
    (mid : StreamState) × Reports (change old mid) (warning_line query.numbered number reply.warning)
    × Warns query (next_number number) mid new replies

-- what is asked of texts, and the number of the first of them
pub record Turn : Type 0 where
  pub query : Query
  pub number : ℕ

-- before the first text
abbrev pub first_turn : Query → Turn
first_turn query = record { query = query; number = 1 }

-- what is known of no text, of a text with this reply, and of some texts and more
abbrev pub first_verdict : Verdict
first_verdict = record { all_read = true; all_clear = true }

abbrev pub verdict_of : Reply → Verdict
verdict_of reply = record { all_read = reply.is_date; all_clear = reply.is_clear }

abbrev pub both : Verdict → Verdict → Verdict
both some more = record { all_read = some.all_read && more.all_read; all_clear = some.all_clear && more.all_clear }

-- of texts with these replies: whether all are dates, and whether all are clear
abbrev pub verdict_on : List Reply → Verdict
verdict_on replies =
    record { all_read = list_all (λ reply. reply.is_date) replies; all_clear = list_all (λ reply. reply.is_clear) replies }

-- Each of some texts was answered, in order: this was done with the lines of their replies, and each warning was said.
pub record Answered (turn : Turn) (texts : List (List ℕ)) (Wrote : List ℕ → Type 0) (telling : Change) (verdict : Verdict) : Type 0 where
  pub replies : List Reply
  pub each : AreReplies turn.query texts replies
  pub wrote : Wrote (reply_lines replies)
  pub warned : Warns turn.query turn.number telling.old telling.new replies
  pub verdict_is : verdict ≡ verdict_on replies

-- The writer refused while the first of some texts were answered, and this was done with the lines of their replies. Each warning was
-- said, but perhaps that of the last.
pub record CutOff (turn : Turn) (texts : List (List ℕ)) (Wrote : List ℕ → Type 0) (telling : Change) : Type 0 where
  pub front : List (List ℕ)
  pub beyond : List (List ℕ)
  pub whole : texts ≡ front ++ beyond
  pub replies : List Reply
  pub last : Option Reply
  pub each : AreReplies turn.query front (replies ++ option_to_list last)
  pub wrote : Wrote (reply_lines (replies ++ option_to_list last))
  pub warned : Warns turn.query turn.number telling.old telling.new replies

-- There was no memory to answer one of some texts, and each before it was answered.
pub record LacksMemory (turn : Turn) (texts : List (List ℕ)) (Wrote : List ℕ → Type 0) (telling : Change) : Type 0 where
  pub front : List (List ℕ)
  pub text : List ℕ
  pub beyond : List (List ℕ)
  pub whole : texts ≡ front ++ text ∷ beyond
  pub verdict : Verdict
  pub before : Answered turn front Wrote telling verdict

-- what answering some texts comes to, where this was done with the lines of replies by how it ended
abbrev pub Comes : Turn → List (List ℕ) → (Answer → List ℕ → Type 0) → Change → Result Verdict ToolError → Type 0
Comes turn texts Wrote telling (Ok verdict) = Answered turn texts (Wrote (Ok tt)) telling verdict
Comes turn texts Wrote telling (Err (errors.Write kind)) = CutOff turn texts (Wrote (Err (errors.Write kind))) telling
Comes turn texts Wrote telling (Err errors.Memory) = LacksMemory turn texts (Wrote (Err errors.Memory)) telling
Comes turn texts Wrote telling (Err _) = ⊥

-- a text was written, or the writer refused, and a proper prefix of it was
abbrev pub Written : Change → Answer → List ℕ → Type 0
Written writing (Err (errors.Write kind)) text = TakesProperPrefix writing.old writing.new text × (writing.new.fault ≡ Some kind)
Written writing _ text = Takes writing.old writing.new text

-- What a run over some texts comes to: each was answered, or it had a fault at one.
abbrev pub RunsOver : Query → List (List ℕ) → Output → Result Verdict ToolError → Type 0
RunsOver query texts out result = Comes (first_turn query) texts (Written out.writing) out.telling result

-- the end of a run over lines
abbrev pub result_of : Verdict → Result ℕ Stop → Result Verdict ToolError
result_of verdict (Ok count) = Ok verdict
result_of verdict (Err stop) = Err (fault_of stop)

-- how answering ended, with that verdict
abbrev pub ended_by : Verdict → Answer → Result Verdict ToolError
ended_by verdict (Ok _) = Ok verdict
ended_by verdict (Err fault) = Err fault

-- What a run over the lines of a source comes to: those that are due were answered.
unfoldable pub RunsThrough : Query → Change → Output → Result Verdict ToolError → Type 0
RunsThrough query reading out result =
    (ended : Result ℕ Stop) × (verdict : Verdict)
    × Ran (λ lines answer. RunsOver query lines out (ended_by verdict answer)) (Unit {0}) MAX_LINES reading ended
    × (result ≡ result_of verdict ended)

-- the next turn of one that answers
abbrev pub turn_of : Answering → Turn
turn_of answering = record { query = answering.query; number = answering.number }

-- what is known of the sink of one that answers, and what waits to be sent to it
abbrev pub unsent_of : Service Answering → outboxes.Output
unsent_of s = outboxes.output s.server.outbox s.out

-- what was done with the lines of replies between two services, by how answering ended; without memory none waits
abbrev pub SendsReplies : Service Answering → Service Answering → Answer → List ℕ → Type 0
SendsReplies old new (Ok _) text = outboxes.Puts (unsent_of old) (unsent_of new) text
SendsReplies old new (Err (errors.Write kind)) text = outboxes.PutsProperPrefix (unsent_of old) (unsent_of new) text kind
SendsReplies old new (Err _) text = outboxes.Puts (unsent_of old) (unsent_of new) text × (waiting new.server.outbox ≡ [])

-- what answering some lines comes to, where these have that verdict
abbrev pub ComesTo : Service Answering → Service Answering → List (List ℕ) → Result Verdict ToolError → Type 0
ComesTo old new lines result = Comes (turn_of old.server) lines (SendsReplies old new) (change old.told new.told) result

-- all of some lines were answered, and that is known then
pub record AnswersAll (old new : Service Answering) (lines : List (List ℕ)) : Type 0 where
  pub verdict : Verdict
  pub answered : ComesTo old new lines (Ok verdict)
  pub turn : turn_of new.server ≡ record { query = old.server.query; number = number_after old.server.number lines }
  pub all : new.server.verdict ≡ both old.server.verdict verdict

-- what answering some lines comes to
abbrev pub AnswersTo : Service Answering → Service Answering → List (List ℕ) → Answer → Type 0
AnswersTo old new lines (Ok _) = AnswersAll old new lines
AnswersTo old new lines (Err fault) = ComesTo old new lines (Err fault)
