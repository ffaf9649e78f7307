-- What a program says, as one line.
use Rattle.std.proofs.Common.{arith, ◌≡◌, ℕ, List, [], ◌∷◌, ◌++◌, sym, ap, append_assoc, append-nil, Result, Ok, Err}
use Rattle.std.proofs.Common.{false}
use Rattle.std.proofs.lemmas.Bool.Decides.{nat_tests}
use Rattle.std.proofs.lemmas.Grind.{common_steps}
use Rattle.std.specs.Prelude.{OnOk, codes}
use Rattle.std.specs.declared.io.ErrorKind.{ErrorKind}
use Rattle.gix_date.specs.Text.Characters.{newline}
use Rattle.streams.specs.declared.error.ToolError.{ToolError}
use Rattle.streams.specs.Changes.{Change, change}
use Rattle.gix_date.specs.Devices.StreamState.{StreamState}
use Rattle.streams.specs.Messages.{fault_words, cause_words, is_closed_pipe, fault_message, message, WritesMessage, Reports}
use Rattle.streams.specs.Outbox.{Output, Puts, PutsProperPrefix, Sends}
use Rattle.streams.proofs.Sending.{PutsProperPrefix-sent}

-- a refusal, where nothing waited before
refused-is-written : {a b : Output} {text : List ℕ} {kind : ErrorKind} → a.unsent ≡ [] → PutsProperPrefix a b text kind
    → WritesMessage (change a.sink b.sink) text
refused-is-written {a = a} {b = b} {text = text} none h = grind (arith)

-- a text that was put where nothing waited, and then sent
sent-is-written : (a b c : Output) {text : List ℕ} (r : Result (Unit {0}) ErrorKind) → a.unsent ≡ [] → Puts a b text → Sends b c [] r
    → OnOk r (c.unsent ≡ []) → WritesMessage (change a.sink c.sink) text
sent-is-written a b c {text = text} (Ok u) none put sent all = grind (arith, nat_tests, common_steps, append-nil)
sent-is-written a b c (Err kind) none put sent all = refused-is-written none (PutsProperPrefix-sent put sent)

-- the same, where what waits and the sink stand by themselves
pub sent_is_written : (from mid to : StreamState) (before put after text : List ℕ) (r : Result (Unit {0}) ErrorKind) → before ≡ []
    → Puts (record { sink = from; unsent = before }) (record { sink = mid; unsent = put }) text
    → Sends (record { sink = mid; unsent = put }) (record { sink = to; unsent = after }) [] r → OnOk r (after ≡ [])
    → WritesMessage (change from to) text
sent_is_written from mid to before put after text r none h sent all =
    sent-is-written (record { sink = from; unsent = before }) (record { sink = mid; unsent = put }) (record { sink = to; unsent = after }) r
    none h sent all

-- the pieces of a fault's line
pub fault-pieces : (program : List ℕ) (fault : ToolError) → program
    ++ (codes ": " ++ (fault_words fault ++ (cause_words fault ++ (newline ∷ [] ++ []))))
    ≡ message program (fault_words fault ++ cause_words fault)
fault-pieces program fault =
    ap (λ xs. program ++ (codes ": " ++ xs)) (sym (append_assoc (fault_words fault) (cause_words fault) (newline ∷ [])))

-- a fault is told of, unless it is a closed pipe
pub fault-told : (telling : Change) (program : List ℕ) (fault : ToolError) → is_closed_pipe fault ≡ false
    → WritesMessage telling (message program (fault_words fault ++ cause_words fault))
    → Reports telling (fault_message program fault)
fault-told telling program fault alive said = rw alive said
