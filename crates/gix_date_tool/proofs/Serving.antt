-- The reply to a line, and what was written of replies.
use Rattle.std.proofs.Common.{◌≡◌, ℕ, List, [], ◌∷◌, refl, sym, ap, subst, append-nil, Option, Result, Ok, Err}
use Rattle.std.specs.Prelude.{OnOk}
use Rattle.gix_date.specs.Devices.StreamState.{StreamState}
use Rattle.gix_date.specs.declared.time.Time.{Time}
use Rattle.jiff.specs.declared.zoned.Zoned.{Zoned}
use Rattle.gix_date_tool.specs.declared.program.arguments.Mode.{Mode}
use Rattle.gix_date_tool.specs.declared.runs.replies.Query.{Query}
use Rattle.gix_date_tool.specs.declared.runs.replies.Reply.{Reply}
use Rattle.gix_date_tool.specs.declared.runs.serving.Replying.{Replying}
use Rattle.gix_date_tool.specs.Replies.{IsReply, Replied, reply_line, reply_lines}
use Rattle.gix_date_tool.specs.Run.{IsMomentOf, IsReplyText, RepliesTo, Runs, SendsReplies}
use Rattle.streams.specs.Changes.{Change, change}
use Rattle.streams.specs.Outbox.{Output, all_sent, output, waiting}
use Rattle.streams.specs.Serving.{Answer, Ran, answer_of, fault_of, service}
use Rattle.streams.specs.declared.error.ToolError.{ToolError}
use Rattle.streams.specs.declared.error.ToolError.TheVariants as errors
use Rattle.streams.specs.declared.program.Outbox.{Outbox}
use Rattle.streams.specs.declared.serving.Stop.{Stop}
use Rattle.streams.specs.declared.serving.TheConstants.{MAX_LINES}
use Rattle.streams.proofs.Sending.{Takes-all_sent}

-- the same replies, of whose text something else holds
Replied-map : {Is Becomes : List ℕ → Type 0} {query : Query} {lines : List (List ℕ)} → ((text : List ℕ) → Is text → Becomes text)
    → Replied Is query lines
    → Replied Becomes query lines
Replied-map f h = record { replies = h.replies; each = h.each; text = f (reply_lines h.replies) h.text }

-- the reply to one line
pub Replied-one : {Is : List ℕ → Type 0} (query : Query) (line : List ℕ) (reply : Reply) → IsReply query line reply → Is (reply_line reply)
    → Replied Is query (line ∷ [])
Replied-one {Is = Is} query line reply h k =
    record { replies = reply ∷ []; each = (h, tt); text = subst Is (sym (append-nil (reply_line reply))) k }

-- all that was put for a sink was sent where nothing waits, and else a proper prefix
all-written : (sink : StreamState) (b : Output) (answer : Answer) (text : List ℕ) → (answer ≡ Ok tt → b.unsent ≡ [])
    → SendsReplies (all_sent sink) b text answer
    → IsReplyText (change sink b.sink) text answer
all-written sink b (Ok u) text none h = Takes-all_sent h (none refl)
all-written sink b (Err (errors.Write kind)) text none h = (h.taken, h.fault)
all-written sink b (Err (errors.Read kind)) text none h = absurd h
all-written sink b (Err errors.Memory) text none h = absurd h
all-written sink b (Err errors.LineTooLong) text none h = absurd h
all-written sink b (Err errors.TooManyLines) text none h = absurd h

-- nothing more is asked
nothing : (answer : Answer) → OnOk answer (Unit {0})
nothing (Ok u) = tt
nothing (Err fault) = tt

-- what was put for a sink was written
run-written : (query asked : Query) (a b : Output) (most : ℕ) (reading : Change) (ended : Result ℕ Stop) → a.unsent ≡ []
    → Ran (λ lines answer. (asked ≡ query) × Replied (λ text. SendsReplies a b text answer) query lines) (b.unsent ≡ []) most reading ended
    → Ran (λ lines answer. Replied (λ text. IsReplyText (change a.sink b.sink) text answer) query lines) (Unit {0}) most reading ended
run-written query asked a b most reading ended fresh h = record {
  reached = h.reached;
  read = h.read;
  ends = h.ends;
  served =
      Replied-map (λ text put. all-written a.sink b (answer_of ended) text (λ e. subst (λ answer. OnOk answer (b.unsent ≡ [])) e h.settled)
      (subst (λ unsent. SendsReplies (record { sink = a.sink; unsent = unsent }) b text (answer_of ended)) fresh put)) h.served.1;
  settled = nothing (answer_of ended);
}

pub run_ended : (mode : Mode) (now : Option Time) (moment : Option Zoned) (outbox : Outbox) (x y m n : StreamState) (server : Replying)
    (reading : Change) (ended : Result ℕ Stop) (count : ℕ)
    → IsMomentOf now moment → waiting outbox ≡ []
    → Ran (RepliesTo (service (record { query = record { mode = mode; now = moment }; outbox = outbox }) x m) (service server y n))
    (waiting server.outbox ≡ []) MAX_LINES reading ended
    → ended ≡ Ok count → Runs mode now reading (change x y) (Ok count)
unfolding Runs
run_ended mode now moment outbox x y m n server reading ended count is fresh ran e =
    (moment, is, Ok count, refl, rw e at (run-written _ _ (output outbox x) (output server.outbox y) _ _ _ fresh ran))

pub run_stopped : (mode : Mode) (now : Option Time) (moment : Option Zoned) (outbox : Outbox) (x y m n : StreamState) (server : Replying)
    (reading : Change) (ended : Result ℕ Stop) (stop : Stop) (fault : ToolError)
    → IsMomentOf now moment → waiting outbox ≡ []
    → Ran (RepliesTo (service (record { query = record { mode = mode; now = moment }; outbox = outbox }) x m) (service server y n))
    (waiting server.outbox ≡ []) MAX_LINES reading ended
    → ended ≡ Err stop → fault ≡ fault_of stop → Runs mode now reading (change x y) (Err fault)
unfolding Runs
run_stopped mode now moment outbox x y m n server reading ended stop fault is fresh ran e f =
    (moment, is, Err stop, ap Err f, rw e at (run-written _ _ (output outbox x) (output server.outbox y) _ _ _ fresh ran))
