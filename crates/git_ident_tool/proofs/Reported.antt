-- What the program says of its end.
use Rattle.std.proofs.Common.{◌≡◌, ◌∙◌, ℕ, List, [], ◌∷◌, ◌++◌, sym, ap, subst, append_assoc, append-nil}
use Rattle.std.specs.Prelude.{codes}
use Rattle.gix_date.specs.Text.Characters.{newline}
use Rattle.streams.specs.Messages.{WritesMessage, Reports, message, fault_message as tool_message}
use Rattle.streams.specs.Changes.{Change, change}
use Rattle.gix_date.specs.Devices.StreamState.{StreamState}
use Rattle.git_ident_tool.specs.Faults.{fault_message, header_words, stream_words}
use Rattle.git_ident_tool.specs.Program.{Says, message_of, wrong_words}
use Rattle.git_ident_tool.specs.declared.error.Fault.{Fault}
use Rattle.git_ident_tool.specs.declared.error.Fault.TheVariants.{Tool, Refused, Stream}
use Rattle.git_ident_tool.specs.declared.error.HeaderFault.{HeaderFault}
use Rattle.git_ident_tool.specs.declared.error.StreamFault.{StreamFault}
use Rattle.streams.specs.declared.error.ToolError.{ToolError}
use Rattle.git_ident_tool.specs.declared.program.WrongWords.{WrongWords}
use Rattle.git_ident_tool.specs.declared.help.TheConstants.{USAGE}
use Rattle.git_ident_tool.specs.declared.program.Outcome.{Outcome}
use Rattle.git_ident_tool.specs.declared.program.Outcome.TheVariants.{Failed, Shown}

-- what is said of a fault, by what it is
fault-reported : (telling : Change) (fault this : Fault) → fault ≡ this → Reports telling (fault_message this)
    → Reports telling (fault_message fault)
fault-reported telling fault this is h = subst (λ e. Reports telling (fault_message e)) (sym is) h

-- a line that nothing follows
alone : (telling : Change) (words : List ℕ) → Says telling words [] → WritesMessage telling (message (codes "git_ident") words)
unfolding Says
alone telling words h = subst (WritesMessage telling) (append-nil (message (codes "git_ident") words)) h

pub tool_reported : (from to : StreamState) (fault : Fault) (tool : ToolError) → fault ≡ Tool tool
    → Reports (change from to) (tool_message (codes "git_ident") tool)
    → Reports (change from to) (fault_message fault)
tool_reported from to fault tool is h = fault-reported (change from to) fault (Tool tool) is h

pub refused_reported : (from to : StreamState) (fault : Fault) (why : HeaderFault) (words : List ℕ) → fault ≡ Refused why
    → words ≡ header_words why
    → Says (change from to) words [] → Reports (change from to) (fault_message fault)
refused_reported from to fault why words is e h = fault-reported (change from to) fault (Refused why) is
    (alone (change from to) (header_words why) (subst (λ words. Says (change from to) words []) e h))

pub stream_reported : (from to : StreamState) (fault : Fault) (why : StreamFault) (words : List ℕ) → fault ≡ Stream why
    → words ≡ stream_words why
    → Says (change from to) words [] → Reports (change from to) (fault_message fault)
stream_reported from to fault why words is e h = fault-reported (change from to) fault (Stream why) is
    (alone (change from to) (stream_words why) (subst (λ words. Says (change from to) words []) e h))

-- a line and what follows it, in pieces
pub said : (from to : StreamState) (words more : List ℕ)
    → WritesMessage (change from to) (codes "git_ident: " ++ (words ++ (newline ∷ [] ++ (more ++ []))))
    → Says (change from to) words more
unfolding Says
said from to words more h =
    subst (WritesMessage (change from to))
    (ap (λ (xs : List ℕ). codes "git_ident: " ++ (words ++ (newline ∷ xs))) (append-nil more)
    ∙ ap (λ (xs : List ℕ). codes "git_ident: " ++ xs) (sym (append_assoc words (newline ∷ []) more))
    ∙ sym (append_assoc (codes "git_ident: ") (words ++ newline ∷ []) more)) h

-- what is said of an end, by what it is
end-reported : (telling : Change) (outcome this : Outcome) → outcome ≡ this → Reports telling (message_of this)
    → Reports telling (message_of outcome)
end-reported telling outcome this is h = subst (λ e. Reports telling (message_of e)) (sym is) h

pub failed_reported : (from to : StreamState) (outcome : Outcome) (fault : Fault) → outcome ≡ Failed fault
    → Reports (change from to) (fault_message fault)
    → Reports (change from to) (message_of outcome)
failed_reported from to outcome fault is h = end-reported (change from to) outcome (Failed fault) is h

pub shown_reported : (from to : StreamState) (outcome : Outcome) (why : WrongWords) → outcome ≡ Shown why
    → Says (change from to) (wrong_words why) USAGE.now
    → Reports (change from to) (message_of outcome)
unfolding Says
shown_reported from to outcome why is h = end-reported (change from to) outcome (Shown why) is h
