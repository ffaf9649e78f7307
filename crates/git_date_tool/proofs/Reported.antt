-- What the program says of its end.
use Rattle.std.proofs.Common.{◌≡◌, ◌∙◌, Bool, ℕ, List, [], ◌∷◌, ◌++◌, sym, ap, ap₂, subst, append_assoc, append-nil, Option, None, Some}
use Rattle.std.specs.Prelude.{codes}
use Rattle.gix_date.specs.Text.Characters.{newline}
use Rattle.gix_date.specs.Devices.StreamState.{StreamState}
use Rattle.streams.specs.Messages.{WritesMessage, Reports, fault_message}
use Rattle.streams.specs.declared.error.ToolError.{ToolError}
use Rattle.streams.specs.Changes.{change}
use Rattle.git_date_tool.specs.Program.{Says, message_of}
use Rattle.git_date_tool.specs.CommandLine.Wrong.{about, about_any, place_digits, wrong_lead, wrong_place, wrong_subject, wrong_text}
use Rattle.git_date_tool.specs.CommandLine.Wrong.{wrong_words}
use Rattle.git_date_tool.specs.declared.help.TheConstants.{USAGE}
use Rattle.git_date_tool.specs.declared.program.Outcome.{Outcome}
use Rattle.git_date_tool.specs.declared.program.Outcome.TheVariants.{Fault, Shown, NoClock, Unquoted}
use Rattle.git_date_tool.specs.declared.program.wrong.WrongWords.{WrongWords}

-- a line and what follows it, in pieces
in-pieces : (front lead place text line usage : List ℕ)
    → front ++ (lead ++ (place ++ (text ++ (line ++ usage)))) ≡ ((front ++ (lead ++ (place ++ text))) ++ line) ++ usage
in-pieces front lead place text line usage =
    let more = line ++ usage in
    sym (append_assoc (front ++ (lead ++ (place ++ text))) line usage ∙ append_assoc front (lead ++ (place ++ text)) more
    ∙ ap (λ (xs : List ℕ). front ++ xs) (append_assoc lead (place ++ text) more)
    ∙ ap (λ (xs : List ℕ). front ++ (lead ++ xs)) (append_assoc place text more))

-- so that begins with a word
of-word : (front word mid lead place text more : List ℕ) → front ++ (word ++ (mid ++ (lead ++ (place ++ (text ++ more)))))
    ≡ (front ++ (word ++ (mid ++ (lead ++ (place ++ text))))) ++ more
of-word front word mid lead place text more =
    sym (append_assoc front (word ++ (mid ++ (lead ++ (place ++ text)))) more
    ∙ ap (λ (xs : List ℕ). front ++ xs) (append_assoc word (mid ++ (lead ++ (place ++ text))) more)
    ∙ ap (λ (xs : List ℕ). front ++ (word ++ xs)) (append_assoc mid (lead ++ (place ++ text)) more)
    ∙ ap (λ (xs : List ℕ). front ++ (word ++ (mid ++ xs))) (append_assoc lead (place ++ text) more)
    ∙ ap (λ (xs : List ℕ). front ++ (word ++ (mid ++ (lead ++ xs)))) (append_assoc place text more))

-- what is said of it, by its pieces
said-is : (lead place text l p t : List ℕ) → lead ≡ l → place ≡ p → text ≡ t → lead ++ (place ++ text) ≡ l ++ (p ++ t)
said-is lead place text l p t d e f = ap₂ (λ (xs ys : List ℕ). xs ++ ys) d (ap₂ (λ (xs ys : List ℕ). xs ++ ys) e f)

pub said : (from to : StreamState) (lead place text more : List ℕ)
    → WritesMessage (change from to) (codes "git_date: " ++ (lead ++ (place ++ (text ++ (newline ∷ [] ++ (more ++ []))))))
    → Says (change from to) (lead ++ (place ++ text)) more
unfolding Says
said from to lead place text more h =
    subst (WritesMessage (change from to))
    (ap (λ (xs : List ℕ). codes "git_date: " ++ (lead ++ (place ++ (text ++ (newline ∷ xs))))) (append-nil more)
    ∙ in-pieces (codes "git_date: ") lead place text (newline ∷ []) more) h

pub about_said : (from to : StreamState) (word lead place text more : List ℕ)
    → WritesMessage (change from to)
    (codes "git_date: '" ++ (word ++ (codes "' " ++ (lead ++ (place ++ (text ++ (newline ∷ [] ++ (more ++ []))))))))
    → Says (change from to) (about word (lead ++ (place ++ text))) more
unfolding Says
about_said from to word lead place text more h =
    let said = codes "git_date: '" ++ (word ++ (codes "' " ++ (lead ++ (place ++ text)))) in
    subst (WritesMessage (change from to))
    (ap (λ (xs : List ℕ). codes "git_date: '" ++ (word ++ (codes "' " ++ (lead ++ (place ++ (text ++ (newline ∷ xs))))))) (append-nil more)
    ∙ of-word (codes "git_date: '") word (codes "' ") lead place text (newline ∷ more) ∙ sym (append_assoc said (newline ∷ []) more)) h

-- what is wrong with the words, where it is a word and where it is none
pub wrong_told : (from to : StreamState) (why : WrongWords) (place : Option ℕ) (word lead digits text : List ℕ)
    → Some word ≡ wrong_subject why → lead ≡ wrong_lead why
    → place ≡ wrong_place why → digits ≡ place_digits place → text ≡ wrong_text why
    → Says (change from to) (about word (lead ++ (digits ++ text))) USAGE.now → Says (change from to) (wrong_words why) USAGE.now
wrong_told from to why place word lead digits text is l p d t h =
    subst (λ (said : List ℕ). Says (change from to) said USAGE.now)
    (ap (about word) (said-is lead digits text _ _ _ l (d ∙ ap place_digits p) t)
    ∙ ap (λ (s : Option (List ℕ)). about_any s (wrong_lead why ++ (place_digits (wrong_place why) ++ wrong_text why))) is) h

pub none_told : (from to : StreamState) (why : WrongWords) (place : Option ℕ) (lead digits text : List ℕ) → None ≡ wrong_subject why
    → lead ≡ wrong_lead why
    → place ≡ wrong_place why → digits ≡ place_digits place → text ≡ wrong_text why
    → Says (change from to) (lead ++ (digits ++ text)) USAGE.now → Says (change from to) (wrong_words why) USAGE.now
none_told from to why place lead digits text none l p d t h =
    subst (λ (said : List ℕ). Says (change from to) said USAGE.now)
    (said-is lead digits text _ _ _ l (d ∙ ap place_digits p) t
    ∙ ap (λ (s : Option (List ℕ)). about_any s (wrong_lead why ++ (place_digits (wrong_place why) ++ wrong_text why))) none) h

-- what is said of an end, by what it is
end-reported : (from to : StreamState) (outcome this : Outcome) → outcome ≡ this → Reports (change from to) (message_of this)
    → Reports (change from to) (message_of outcome)
end-reported from to outcome this is h = subst (λ e. Reports (change from to) (message_of e)) (sym is) h

pub fault_reported : (from to : StreamState) (outcome : Outcome) (fault : ToolError) → outcome ≡ Fault fault
    → Reports (change from to) (fault_message (codes "git_date") fault)
    → Reports (change from to) (message_of outcome)
fault_reported from to outcome fault is h = end-reported from to outcome (Fault fault) is h

pub shown_reported : (from to : StreamState) (outcome : Outcome) (why : WrongWords) → outcome ≡ Shown why
    → Says (change from to) (wrong_words why) USAGE.now
    → Reports (change from to) (message_of outcome)
unfolding Says
shown_reported from to outcome why is h = end-reported from to outcome (Shown why) is h

pub clock_reported : (from to : StreamState) (outcome : Outcome) → outcome ≡ NoClock
    → WritesMessage (change from to) (codes "git_date: the clock cannot be read\n")
    → Reports (change from to) (message_of outcome)
clock_reported from to outcome is h = end-reported from to outcome NoClock is h

pub quote_reported : (from to : StreamState) (outcome : Outcome) (all_read : Bool) → outcome ≡ Unquoted all_read
    → WritesMessage (change from to) (codes "git_date: each word is a text by itself; quote a text of several words\n")
    → Reports (change from to) (message_of outcome)
quote_reported from to outcome all_read is h = end-reported from to outcome (Unquoted all_read) is h
