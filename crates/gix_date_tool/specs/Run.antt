-- What a run comes to.
use Rattle.std.specs.Prelude.{◌≡◌, ℕ, List, [], ◌∷◌, Option, Some, None, Result, Ok, Err}
use Rattle.std.specs.Borrow.{Bor}
use Rattle.std.specs.declared.io.ErrorKind.{ErrorKind}
use Rattle.gix_date.specs.Devices.StreamState.{Takes, TakesProperPrefix}
use Rattle.gix_date.specs.Fields.Zoned.{IsMoment}
use Rattle.gix_date.specs.declared.time.Time.{Time}
use Rattle.jiff.specs.declared.zoned.Zoned.{Zoned}
use Rattle.gix_date_tool.specs.declared.program.arguments.Mode.{Mode}
use Rattle.gix_date_tool.specs.declared.runs.replies.Query.{Query}
use Rattle.gix_date_tool.specs.declared.runs.serving.Replying.{Replying}
use Rattle.gix_date_tool.specs.declared.runs.replies.Reply.{Reply}
use Rattle.gix_date_tool.specs.Replies.{Replied, reply_line}
use Rattle.streams.specs.Changes.{Change}
use Rattle.streams.specs.Outbox.{Output, Puts, PutsProperPrefix, Sends, output}
use Rattle.streams.specs.Serving.{Answer, Ran, ServesFront, Service, fault_of}
use Rattle.streams.specs.declared.error.ToolError.{ToolError}
use Rattle.streams.specs.declared.error.ToolError.TheVariants as errors
use Rattle.streams.specs.declared.serving.Stop.{Stop}
use Rattle.streams.specs.declared.serving.TheConstants.{MAX_LINES}

-- a text was written, or the writer refused, and a proper prefix of it was
abbrev pub IsReplyText : Change → List ℕ → Answer → Type 0
IsReplyText writing text (Ok _) = Takes writing.old writing.new text
IsReplyText writing text (Err (errors.Write kind)) = TakesProperPrefix writing.old writing.new text × (writing.new.fault ≡ Some kind)
IsReplyText writing text (Err _) = ⊥

-- the moment is this time in the zone that always has its offset
abbrev pub IsMomentOf : Option Time → Option Zoned → Type 0
IsMomentOf None None = Unit {0}
IsMomentOf None (Some z) = ⊥
IsMomentOf (Some t) None = ⊥
IsMomentOf (Some t) (Some z) = IsMoment t z

-- the end of a run, by where and why serving its lines ended
abbrev pub IsEnd : Result ℕ Stop → Result ℕ ToolError → Type 0
IsEnd (Ok count) result = result ≡ Ok count
IsEnd (Err stop) result = result ≡ Err (fault_of stop)

-- What a run comes to that is given this mode and a moment at this time: the replies to the lines that are due were written, or a proper
-- prefix of them if the writer refused.
unfoldable pub Runs : Mode → Option Time → Change → Change → Result ℕ ToolError → Type 0
Runs mode now reading writing result =
    (moment : Option Zoned) × IsMomentOf now moment × (ended : Result ℕ Stop) × IsEnd ended result
    × Ran (λ lines answer. Replied (λ text. IsReplyText writing text answer) (record { mode = mode; now = moment }) lines) (Unit {0})
    MAX_LINES reading ended

-- what is known of the sink of a server that replies, and what waits to be sent to it
abbrev pub output_of : Service Replying → Output
output_of s = output s.server.outbox s.out

-- what sending a text came to, by the server's answer
abbrev pub SendsReplies : Output → Output → List ℕ → Answer → Type 0
SendsReplies old new text (Ok _) = Puts old new text
SendsReplies old new text (Err (errors.Write kind)) = PutsProperPrefix old new text kind
SendsReplies old new text (Err _) = ⊥

-- what sending a reply of which this is known came to
abbrev pub SendsSome : (Reply → Type 0) → Output → Output → Result (Unit {0}) ErrorKind → Type 0
SendsSome Is old new result = (reply : Reply) × Is reply × Sends old new (reply_line reply) result

-- what sending the reply to one line came to
unfoldable pub SendsReply : Output → Output → Query → List ℕ → Result (Unit {0}) ErrorKind → Type 0
SendsReply old new query line result = Replied (λ text. Sends old new text result) query (line ∷ [])

-- what replying to some lines comes to
abbrev pub RepliesTo : Service Replying → Service Replying → List (List ℕ) → Answer → Type 0
RepliesTo old new lines answer =
    (new.server.query ≡ old.server.query)
    × Replied (λ text. SendsReplies (output_of old) (output_of new) text answer) old.server.query lines

-- what replying to the first line of some bytes comes to
unfoldable pub RepliesToFront : Service Replying → Service Replying → List ℕ → Result (Option (Bor (List ℕ))) ToolError → Type 0
RepliesToFront old new bytes result = ServesFront RepliesTo old new bytes result
