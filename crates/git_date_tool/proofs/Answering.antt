-- Texts answered one after the other.
use Rattle.std.proofs.Common.{◌≡◌, true, false, Bool, ℕ, List, [], ◌∷◌, ◌++◌, ◌&&◌, refl, sym, ap, ◌∙◌, subst, append-nil, append_assoc}
use Rattle.std.proofs.Common.{◌+◌, ◌<◌, ◌≤◌, take, drop, get_or, length, map, string_bytes, None, Some, Result, Ok, Err}
use Rattle.std.proofs.lemmas.List.{take_all, take_more, take-append-drop}
use mathlib.Core.List.{map-append}
use Rattle.std.specs.Global.{Global}
use Rattle.std.specs.Option.{option_to_list}
use Rattle.std.specs.Prelude.{OnOk, String}
use Rattle.std.specs.declared.io.ErrorKind.{ErrorKind}
use Rattle.gix_date.specs.Devices.StreamState.{StreamState}
use Rattle.streams.specs.Changes.{Change, change}
use Rattle.streams.specs.Lines.{with_newline}
use Rattle.streams.specs.Messages.{Reports}
use Rattle.streams.specs.Outbox as outboxes
use Rattle.streams.specs.Outbox.{all_sent, waiting}
use Rattle.streams.specs.Serving.{Answer as ServerAnswer, Ran, Service, answer_of, fault_of, service}
use Rattle.streams.specs.declared.error.ToolError.TheVariants as errors
use Rattle.streams.specs.declared.error.ToolError.{ToolError}
use Rattle.streams.specs.declared.program.Outbox.{Outbox}
use Rattle.streams.specs.declared.serving.Stop.{Stop}
use Rattle.streams.specs.declared.serving.TheConstants.{MAX_LINES}
use Rattle.streams.proofs.Sending.{Sends-then, Takes-all_sent}
use Rattle.git_date_tool.specs.Answers.Replies.{IsReply, Reply, answer_reply, refused}
use Rattle.git_date_tool.specs.Answers.Readers.{IsRead}
use Rattle.git_date_tool.specs.Answers.Shown.{IsShown}
use Rattle.git_date_tool.specs.declared.answers.DateLine.{DateLine}
use Rattle.git_date_tool.specs.declared.answers.refusals.Refusal.{Refusal}
use Rattle.git_date.specs.declared.approximate.Approximate.{Approximate}
use Rattle.git_date_tool.specs.Answers.Warnings.{warning_line}
use Rattle.git_date_tool.specs.declared.answers.Answer.{Answer}
use Rattle.git_date_tool.specs.declared.answers.Query.{Query}
use Rattle.git_date_tool.specs.declared.runs.Answering.{Answering}
use Rattle.git_date_tool.specs.Served.{both-first}
use Rattle.git_date_tool.specs.Runs.{AnswersAll, AnswersTo, Comes, ComesTo, CutOff, LacksMemory, Output, RunsOver, RunsThrough}
use Rattle.git_date_tool.specs.Runs.{SendsReplies, Turn, Written, both, ended_by, first_turn, first_verdict, next_number, output}
use Rattle.git_date_tool.specs.Runs.{reply_lines, turn_of}
use Rattle.git_date_tool.specs.Runs.{unsent_of, verdict_of, verdict_on}
use Rattle.git_date_tool.specs.declared.runs.Verdict.{Verdict}

and_true : (b : Bool) → (b && true) ≡ b
and_true true = refl
and_true false = refl

one-verdict : (reply : Reply) → verdict_of reply ≡ verdict_on (reply ∷ [])
one-verdict reply = λ i. record { all_read = sym (and_true reply.is_date) i; all_clear = sym (and_true reply.is_clear) i }

-- a fault among some texts is one among more
pub faulted-beyond : (turn : Turn) (texts more : List (List ℕ)) (Wrote : ServerAnswer → List ℕ → Type 0) (telling : Change)
    (fault : ToolError)
    → Comes turn texts Wrote telling (Err fault) → Comes turn (texts ++ more) Wrote telling (Err fault)
faulted-beyond turn texts more Wrote telling (errors.Write kind) h = record {
  front = h.front;
  beyond = h.beyond ++ more;
  whole = ap (λ xs. xs ++ more) h.whole ∙ append_assoc h.front h.beyond more;
  replies = h.replies;
  last = h.last;
  each = h.each;
  wrote = h.wrote;
  warned = h.warned;
}
faulted-beyond turn texts more Wrote telling errors.Memory h = record {
  front = h.front;
  text = h.text;
  beyond = h.beyond ++ more;
  whole = ap (λ xs. xs ++ more) h.whole ∙ append_assoc h.front (h.text ∷ h.beyond) more;
  verdict = h.verdict;
  before = h.before;
}
faulted-beyond turn texts more Wrote telling (errors.Read kind) h = absurd h
faulted-beyond turn texts more Wrote telling errors.LineTooLong h = absurd h
faulted-beyond turn texts more Wrote telling errors.TooManyLines h = absurd h

-- the texts up to one, and that one
pub texts-more : (texts : List (String Global)) (i : ℕ) (d : String Global) (text : List ℕ) → i < length texts
    → text ≡ string_bytes (get_or texts i d)
    → map string_bytes (take (i + 1) texts) ≡ map string_bytes (take i texts) ++ text ∷ []
texts-more texts i d text within is =
    ap (λ ts. map string_bytes ts) (take_more texts i d within) ∙ map-append string_bytes (take i texts) (get_or texts i d ∷ [])
    ∙ ap (λ t. map string_bytes (take i texts) ++ t ∷ []) (sym is)

-- the texts around one
pub texts-around : (texts : List (String Global)) (i : ℕ) (d : String Global) (text : List ℕ) → i < length texts
    → text ≡ string_bytes (get_or texts i d)
    → map string_bytes texts ≡ map string_bytes (take i texts) ++ text ∷ map string_bytes (drop (i + 1) texts)
texts-around texts i d text within is =
    let after = drop (i + 1) texts in
    ap (λ ts. map string_bytes ts) (sym (take-append-drop (i + 1) texts)) ∙ map-append string_bytes (take (i + 1) texts) after
    ∙ ap (λ ts. ts ++ map string_bytes after) (texts-more texts i d text within is)
    ∙ append_assoc (map string_bytes (take i texts)) (text ∷ []) (map string_bytes after)

-- all texts, and none after them
pub texts-all : (texts : List (String Global)) (i : ℕ) → length texts ≤ i → map string_bytes (take i texts) ++ [] ≡ map string_bytes texts
texts-all texts i h = append-nil (map string_bytes (take i texts)) ∙ ap (λ ts. map string_bytes ts) (take_all i texts h)

-- the line of one reply
one-line : (reply : Reply) → with_newline reply.text ≡ reply_lines (reply ∷ [])
one-line reply = sym (append-nil (with_newline reply.text))

-- a text was answered
pub served : (old : Answering) (outbox : Outbox) (x y m n : StreamState) (text : List ℕ) (answer : Answer) (one verdict : Verdict)
    (next : ℕ)
    → IsReply old.query text (answer_reply answer)
    → outboxes.Puts (outboxes.output old.outbox x) (outboxes.output outbox y) (with_newline (answer_reply answer).text)
    → Reports (change m n) (warning_line old.query.numbered old.number (answer_reply answer).warning)
    → one ≡ verdict_of (answer_reply answer) → next ≡ next_number old.number → verdict ≡ both old.verdict one
    → AnswersAll (service old x m)
    (service (record { alloc = old.alloc; query = old.query; number = next; verdict = verdict; outbox = outbox }) y n) (text ∷ [])
served old outbox x y m n text answer one verdict next is put warned known number all = record {
  verdict = one;
  answered = record {
    replies = answer_reply answer ∷ [];
    each = (is, tt);
    wrote = subst (outboxes.Puts (outboxes.output old.outbox x) (outboxes.output outbox y)) (one-line (answer_reply answer)) put;
    warned = (n, warned, refl);
    verdict_is = known ∙ one-verdict (answer_reply answer);
  };
  turn = ap (λ n. record (turn_of old) { number = n }) number;
  all = all;
}

-- the line of a text was refused
pub unwritten : (old : Answering) (outbox : Outbox) (x y m : StreamState) (text : List ℕ) (answer : Answer) (kind : ErrorKind)
    → IsReply old.query text (answer_reply answer)
    → outboxes.PutsProperPrefix (outboxes.output old.outbox x) (outboxes.output outbox y) (with_newline (answer_reply answer).text) kind
    → CutOff (turn_of old) (text ∷ [])
    (SendsReplies (service old x m) (service (record old { outbox = outbox }) y m) (Err (errors.Write kind))) (change m m)
unwritten old outbox x y m text answer kind is put = record {
  front = text ∷ [];
  beyond = [];
  whole = refl;
  replies = [];
  last = Some (answer_reply answer);
  each = (is, tt);
  wrote = subst (λ text. outboxes.PutsProperPrefix (outboxes.output old.outbox x) (outboxes.output outbox y) text kind)
      (one-line (answer_reply answer)) put;
  warned = refl;
}

-- a line was put after what waited, and then all was sent, or refused
pub put_and_sent : (from mid to : StreamState) (before between after text : List ℕ) (r : Result (Unit {0}) ErrorKind)
    → outboxes.Puts (record { sink = from; unsent = before }) (record { sink = mid; unsent = between }) text
    → outboxes.Sends (record { sink = mid; unsent = between }) (record { sink = to; unsent = after }) [] r
    → outboxes.Sends (record { sink = from; unsent = before }) (record { sink = to; unsent = after }) text r
put_and_sent from mid to before between after text r h k =
    subst (λ text. outboxes.Sends (record { sink = from; unsent = before }) (record { sink = to; unsent = after }) text r) (append-nil text)
    (Sends-then (record { sink = to; unsent = after }) [] r h k)

-- what waited was sent, or refused
pub settled : (old : Answering) (outbox : Outbox) (x y m : StreamState)
    → outboxes.Puts (outboxes.output old.outbox x) (outboxes.output outbox y) []
    → AnswersAll (service old x m) (service (record old { outbox = outbox }) y m) []
settled old outbox x y m put = record {
  verdict = first_verdict;
  answered = record { replies = []; each = tt; wrote = put; warned = refl; verdict_is = refl };
  turn = refl;
  all = sym (both-first old.verdict);
}

pub unsettled : (old : Answering) (outbox : Outbox) (x y m : StreamState) (kind : ErrorKind)
    → outboxes.PutsProperPrefix (outboxes.output old.outbox x) (outboxes.output outbox y) [] kind
    → CutOff (turn_of old) [] (SendsReplies (service old x m) (service (record old { outbox = outbox }) y m) (Err (errors.Write kind)))
    (change m m)
unsettled old outbox x y m kind put =
    record { front = []; beyond = []; whole = refl; replies = []; last = None; each = tt; wrote = put; warned = refl }

-- there was no memory to answer a text, and what waited was sent
pub unanswered : (old server : Answering) (x y m : StreamState) (text : List ℕ)
    → AnswersAll (service old x m) (service server y m) [] → waiting server.outbox ≡ []
    → LacksMemory (turn_of old) (text ∷ []) (SendsReplies (service old x m) (service server y m) (Err errors.Memory)) (change m m)
unanswered old server x y m text h none = record {
  front = [];
  text = text;
  beyond = [];
  whole = refl;
  verdict = h.verdict;
  before = record {
    replies = h.answered.replies;
    each = h.answered.each;
    wrote = (h.answered.wrote, none);
    warned = h.answered.warned;
    verdict_is = h.answered.verdict_is;
  };
}

-- or it was refused
pub refused_before : (old server : Answering) (x y m : StreamState) (text : List ℕ) (fault : ToolError)
    → Comes (turn_of old) [] (SendsReplies (service old x m) (service server y m)) (change m m) (Err fault)
    → Comes (turn_of old) (text ∷ []) (SendsReplies (service old x m) (service server y m)) (change m m) (Err fault)
refused_before old server x y m text fault h =
    faulted-beyond (turn_of old) [] (text ∷ []) (SendsReplies (service old x m) (service server y m)) (change m m) fault h

-- how answering ended that came to this
abbrev answer_for : Result Verdict ToolError → ServerAnswer
answer_for (Ok verdict) = Ok tt
answer_for (Err fault) = Err fault

-- the same, where something else was done with the lines of replies
comes-map : (turn : Turn) (texts : List (List ℕ)) (Wrote Becomes : ServerAnswer → List ℕ → Type 0) (telling : Change)
    (result : Result Verdict ToolError) → ((text : List ℕ) → Wrote (answer_for result) text → Becomes (answer_for result) text)
    → Comes turn texts Wrote telling result → Comes turn texts Becomes telling result
comes-map turn texts Wrote Becomes telling (Ok verdict) f h =
    record { replies = h.replies; each = h.each; wrote = f (reply_lines h.replies) h.wrote; warned = h.warned; verdict_is = h.verdict_is }
comes-map turn texts Wrote Becomes telling (Err (errors.Write kind)) f h = record {
  front = h.front;
  beyond = h.beyond;
  whole = h.whole;
  replies = h.replies;
  last = h.last;
  each = h.each;
  wrote = f (reply_lines (h.replies ++ option_to_list h.last)) h.wrote;
  warned = h.warned;
}
comes-map turn texts Wrote Becomes telling (Err errors.Memory) f h = record {
  front = h.front;
  text = h.text;
  beyond = h.beyond;
  whole = h.whole;
  verdict = h.verdict;
  before = record {
    replies = h.before.replies;
    each = h.before.each;
    wrote = f (reply_lines h.before.replies) h.before.wrote;
    warned = h.before.warned;
    verdict_is = h.before.verdict_is;
  };
}
comes-map turn texts Wrote Becomes telling (Err (errors.Read kind)) f h = absurd h
comes-map turn texts Wrote Becomes telling (Err errors.LineTooLong) f h = absurd h
comes-map turn texts Wrote Becomes telling (Err errors.TooManyLines) f h = absurd h

-- where nothing waits before and after, what was put was written
taken : (u v : Service Answering) (text : List ℕ) → waiting u.server.outbox ≡ [] → waiting v.server.outbox ≡ []
    → outboxes.Puts (unsent_of u) (unsent_of v) text → Written (change u.out v.out) (Ok tt) text
taken u v text fresh none put =
    Takes-all_sent {sink = u.out} {a = unsent_of v}
    (subst (λ unsent. outboxes.Puts (record { sink = u.out; unsent = unsent }) (unsent_of v) text) fresh put) none

all-written : (u v : Service Answering) (answer : ServerAnswer) (text : List ℕ) → waiting u.server.outbox ≡ []
    → OnOk answer (waiting v.server.outbox ≡ [])
    → SendsReplies u v answer text → Written (change u.out v.out) answer text
all-written u v (Ok t) text fresh none h = taken u v text fresh none h
all-written u v (Err (errors.Write kind)) text fresh none h =
    let cut = subst (λ unsent. outboxes.PutsProperPrefix (record { sink = u.out; unsent = unsent }) (unsent_of v) text kind) fresh h in
    (cut.taken, cut.fault)
all-written u v (Err (errors.Read kind)) text fresh none h = taken u v text fresh h.1 h.0
all-written u v (Err errors.Memory) text fresh none h = taken u v text fresh h.1 h.0
all-written u v (Err errors.LineTooLong) text fresh none h = taken u v text fresh h.1 h.0
all-written u v (Err errors.TooManyLines) text fresh none h = taken u v text fresh h.1 h.0

-- what was done with the sinks between two services
abbrev output_of : Service Answering → Service Answering → Output
output_of old new = output (change old.out new.out) (change old.told new.told)

-- what was answered from the first text on
answered-from : (query : Query) (u v : Service Answering) (lines : List (List ℕ)) (answer : ServerAnswer)
    → turn_of u.server ≡ first_turn query → u.server.verdict ≡ first_verdict → waiting u.server.outbox ≡ []
    → OnOk answer (waiting v.server.outbox ≡ [])
    → AnswersTo u v lines answer → RunsOver query lines (output_of u v) (ended_by v.server.verdict answer)
answered-from query u v lines (Ok t) turn fresh empty none h =
    let known = subst (λ verdict. ComesTo u v lines (Ok verdict)) (sym (h.all ∙ ap (λ verdict. both verdict h.verdict) fresh)) h.answered in
    comes-map (first_turn query) lines (SendsReplies u v) (Written (change u.out v.out)) (change u.told v.told) (Ok v.server.verdict)
    (λ text. all-written u v (Ok tt) text empty none)
    (subst (λ t. Comes t lines (SendsReplies u v) (change u.told v.told) (Ok v.server.verdict)) turn known)
answered-from query u v lines (Err fault) turn fresh empty none h =
    comes-map (first_turn query) lines (SendsReplies u v) (Written (change u.out v.out)) (change u.told v.told) (Err fault)
    (λ text. all-written u v (Err fault) text empty none)
    (subst (λ t. Comes t lines (SendsReplies u v) (change u.told v.told) (Err fault)) turn h)

pub run_over : (query : Query) (first last : Answering) (x y m n : StreamState) (lines : List (List ℕ)) (answer : ServerAnswer)
    → turn_of first ≡ first_turn query → first.verdict ≡ first_verdict → waiting first.outbox ≡ []
    → OnOk answer (waiting last.outbox ≡ [])
    → AnswersTo (service first x m) (service last y n) lines answer
    → RunsOver query lines (output (change x y) (change m n)) (ended_by last.verdict answer)
run_over query first last x y m n lines answer turn fresh empty none h =
    answered-from query (service first x m) (service last y n) lines answer turn fresh empty none h

-- nothing more is asked
nothing : (answer : ServerAnswer) → OnOk answer (Unit {0})
nothing (Ok u) = tt
nothing (Err fault) = tt

ran-from : (query : Query) (u v : Service Answering) (reading : Change) (ended : Result ℕ Stop)
    → turn_of u.server ≡ first_turn query → u.server.verdict ≡ first_verdict → waiting u.server.outbox ≡ []
    → Ran (AnswersTo u v) (waiting v.server.outbox ≡ []) MAX_LINES reading ended
    → Ran (λ lines answer. RunsOver query lines (output_of u v) (ended_by v.server.verdict answer)) (Unit {0}) MAX_LINES reading ended
ran-from query u v reading ended turn fresh empty h = record {
  reached = h.reached;
  read = h.read;
  ends = h.ends;
  served = answered-from query u v h.reached.due (answer_of ended) turn fresh empty h.settled h.served;
  settled = nothing (answer_of ended);
}

pub run_ended : (query : Query) (first last : Answering) (x y m n : StreamState) (reading : Change) (ended : Result ℕ Stop) (count : ℕ)
    → turn_of first ≡ first_turn query → first.verdict ≡ first_verdict → waiting first.outbox ≡ []
    → Ran (AnswersTo (service first x m) (service last y n)) (waiting last.outbox ≡ []) MAX_LINES reading ended
    → ended ≡ Ok count → RunsThrough query reading (output (change x y) (change m n)) (Ok last.verdict)
unfolding RunsThrough
run_ended query first last x y m n reading ended count turn fresh empty ran e =
    (Ok count, last.verdict, rw e at (ran-from query (service first x m) (service last y n) _ _ turn fresh empty ran), refl)

pub run_stopped : (query : Query) (first last : Answering) (x y m n : StreamState) (reading : Change) (ended : Result ℕ Stop) (stop : Stop)
    (fault : ToolError)
    → turn_of first ≡ first_turn query → first.verdict ≡ first_verdict → waiting first.outbox ≡ []
    → Ran (AnswersTo (service first x m) (service last y n)) (waiting last.outbox ≡ []) MAX_LINES reading ended
    → ended ≡ Err stop → fault ≡ fault_of stop → RunsThrough query reading (output (change x y) (change m n)) (Err fault)
unfolding RunsThrough
run_stopped query first last x y m n reading ended stop fault turn fresh empty ran e f =
    (Err stop, last.verdict, rw e at (ran-from query (service first x m) (service last y n) _ _ turn fresh empty ran), ap Err f)

-- a date that is not shown
pub not_shown : (query : Query) (text : List ℕ) (found : Approximate) (line : Result DateLine Refusal) (refusal : Refusal)
    → IsRead query.reader query.strictness query.now text (Ok found) → IsShown query.shown query.now found.time (Ok line)
    → line ≡ Err refusal
    → IsReply query text (refused refusal)
unfolding IsReply
not_shown query text found line refusal is shown e = (
  Ok found,
  is,
  (Err refusal, subst (λ (line : Result DateLine Refusal). IsShown query.shown query.now found.time (Ok line)) e shown, refl),
)
