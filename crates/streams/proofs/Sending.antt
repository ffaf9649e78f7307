-- Texts that are sent in pieces.
use Rattle.std.proofs.Common.{arith}
use Rattle.std.proofs.lemmas.Bool.Decides.{nat_tests}
use Rattle.std.proofs.lemmas.Grind.{common_steps}
use Rattle.std.proofs.Common.{◌≡◌, ℕ, ◌+◌, ◌<◌, List, [], ◌++◌, length, get_or, take, drop, sym, ap, ◌∙◌, subst, append_assoc, append-nil}
use Rattle.std.proofs.Common.{Bor, Option, None, Some, Result, Ok, Err}
use Rattle.std.proofs.lemmas.List.{take_more, take-append-drop}
use Rattle.std.proofs.lemmas.List.Concat.{flat_map-append}
use Rattle.std.specs.Prelude.{OnOk, OnErr, IfErr}
use Rattle.std.specs.Io.KnownBytes.{Appends}
use Rattle.std.specs.declared.io.ErrorKind.{ErrorKind}
use Rattle.gix_date.specs.Devices.StreamState.{StreamState, Takes, TakesProperPrefix}
use Rattle.gix_date.proofs.Text.KnownBytes.{Appends-append, Cut-after}
use Rattle.streams.specs.Outbox.{Output, pieces_text, all_sent, Puts, PutsProperPrefix, Sends}

-- nothing was appended
pub Appends-nil : (known : Option (List ℕ)) → Appends known known []
Appends-nil None = tt
Appends-nil (Some xs) = sym (append-nil xs)

-- what was unsent with a text that was put after it, and a text after both
put_after : (a b : Output) (x y : List ℕ) (h : Puts a b x) → a.unsent ++ (x ++ y) ≡ h.sent ++ (b.unsent ++ y)
put_after a b x y h = sym (append_assoc a.unsent x y) ∙ ap (λ xs. xs ++ y) h.cut ∙ append_assoc h.sent b.unsent y

-- nothing was put, and nothing was sent
pub Puts-nil : (a : Output) → Puts a a []
Puts-nil a = record { sent = []; cut = append-nil a.unsent; taken = Appends-nil a.sink.bytes }

-- one text, and then the next
pub Puts-then : {a b c : Output} {x y : List ℕ} → Puts a b x → Puts b c y → Puts a c (x ++ y)
Puts-then {a = a} {b = b} {c = c} {x = x} {y = y} h k = record {
  sent = h.sent ++ k.sent;
  cut = put_after a b x y h ∙ ap (λ xs. h.sent ++ xs) k.cut ∙ sym (append_assoc h.sent k.sent c.unsent);
  taken = Appends-append a.sink.bytes b.sink.bytes c.sink.bytes h.sent k.sent h.taken k.taken;
}

-- one text, and what was unsent of it
pub Puts-sent : {a b c : Output} {x : List ℕ} → Puts a b x → Puts b c [] → Puts a c x
Puts-sent {a = a} {c = c} {x = x} h k = subst (Puts a c) (append-nil x) (Puts-then h k)

-- all that was put for a sink was sent
pub Takes-all_sent : {sink : StreamState} {a : Output} {text : List ℕ} → Puts (all_sent sink) a text → a.unsent ≡ []
    → Takes sink a.sink text
Takes-all_sent {sink = sink} {a = a} h none = grind (arith, append-nil)

-- one text, and then a refusal
pub PutsProperPrefix-then : {a b c : Output} {x y : List ℕ} {kind : ErrorKind} → Puts a b x → PutsProperPrefix b c y kind
    → PutsProperPrefix a c (x ++ y) kind
PutsProperPrefix-then {a = a} {b = b} {c = c} {x = x} {y = y} h k = record {
  taken = subst (TakesProperPrefix a.sink c.sink) (sym (put_after a b x y h))
      (Cut-after a.sink b.sink c.sink h.sent (b.unsent ++ y) h.taken k.taken);
  fault = k.fault;
}

-- one text, and then a refusal of what was unsent of it
pub PutsProperPrefix-sent : {a b c : Output} {x : List ℕ} {kind : ErrorKind} → Puts a b x → PutsProperPrefix b c [] kind
    → PutsProperPrefix a c x kind
PutsProperPrefix-sent {a = a} {c = c} {x = x} {kind = kind} h k =
    subst (λ text. PutsProperPrefix a c text kind) (append-nil x) (PutsProperPrefix-then h k)

-- one text, and then what sending the next came to
pub Sends-then : {a b : Output} {x : List ℕ} (c : Output) (y : List ℕ) (r : Result (Unit {0}) ErrorKind) → Puts a b x → Sends b c y r
    → Sends a c (x ++ y) r
Sends-then c y (Ok u) h k = Puts-then h k
Sends-then c y (Err kind) h k = PutsProperPrefix-then h k

-- a refusal, whatever text was to follow
pub PutsProperPrefix-more : {a b : Output} {x : List ℕ} {kind : ErrorKind} (y : List ℕ) → PutsProperPrefix a b x kind
    → PutsProperPrefix a b (x ++ y) kind
PutsProperPrefix-more {a = a} {b = b} {x = x} y h = grind (arith, nat_tests, common_steps, append_assoc)

-- the pieces up to one and that one
pieces_text-next : (pieces : List (Bor (List ℕ))) (i : ℕ) (d : Bor (List ℕ)) → i < length pieces
    → pieces_text (take (i + 1) pieces) ≡ pieces_text (take i pieces) ++ (get_or pieces i d).now
pieces_text-next pieces i d h = grind (arith, nat_tests, common_steps, take_more, flat_map-append, append-nil)

-- the next piece of a text
pub Puts-piece : {a b c : Output} (pieces : List (Bor (List ℕ))) (i : ℕ) (d : Bor (List ℕ))
    → i < length pieces → Puts a b (pieces_text (take i pieces)) → Puts b c (get_or pieces i d).now
    → Puts a c (pieces_text (take (i + 1) pieces))
Puts-piece {a = a} {c = c} pieces i d within h k = subst (Puts a c) (sym (pieces_text-next pieces i d within)) (Puts-then h k)

-- a refusal of the next piece is one of the text
pub PutsProperPrefix-piece : {a b c : Output} (pieces : List (Bor (List ℕ))) (i : ℕ) (d : Bor (List ℕ)) {kind : ErrorKind}
    → i < length pieces → Puts a b (pieces_text (take i pieces)) → PutsProperPrefix b c (get_or pieces i d).now kind
    → PutsProperPrefix a c (pieces_text pieces) kind
PutsProperPrefix-piece {a = a} {c = c} pieces i d {kind = kind} within h k =
    let after = drop (i + 1) pieces in
    let whole : pieces_text (take (i + 1) pieces) ++ pieces_text after ≡ pieces_text pieces =
    sym (flat_map-append (λ p. p.now) (take (i + 1) pieces) after)
    ∙ ap pieces_text (take-append-drop (i + 1) pieces) in
    let front = subst (λ text. PutsProperPrefix a c text kind) (sym (pieces_text-next pieces i d within)) (PutsProperPrefix-then h k) in
    subst (λ text. PutsProperPrefix a c text kind) whole (PutsProperPrefix-more (pieces_text after) front)

-- What is sent at once where nothing waits.
pub Sends-at_once : {a b : Output} (sink : StreamState) (text : List ℕ) (r : Result (Unit {0}) ErrorKind) → Puts a b [] → b.unsent ≡ []
    → OnOk r (Takes b.sink sink text) → OnErr r (TakesProperPrefix b.sink sink text) → IfErr r (λ kind. sink.fault ≡ Some kind)
    → Sends a (record b { sink = sink }) text r
Sends-at_once {b = b} sink text (Ok u) h empty ok cut fault =
    Puts-then h
    (record { sent = text; cut = ap (λ xs. xs ++ text) empty ∙ sym (append-nil text) ∙ ap (λ xs. text ++ xs) (sym empty); taken = ok })
Sends-at_once {b = b} sink text (Err kind) h empty ok cut fault =
    PutsProperPrefix-then h
    (record { taken = subst (TakesProperPrefix b.sink sink) (ap (λ xs. xs ++ text) (sym empty)) cut; fault = fault })

pub sends_at_once : (a : Output) (from sink : StreamState) (unsent bytes text : List ℕ) (r : Result (Unit {0}) ErrorKind)
    → Puts a (record { sink = from; unsent = unsent }) [] → unsent ≡ [] → bytes ≡ text
    → OnOk r (Takes from sink bytes) → OnErr r (TakesProperPrefix from sink bytes) → IfErr r (λ kind. sink.fault ≡ Some kind)
    → Sends a (record { sink = sink; unsent = unsent }) text r
sends_at_once a from sink unsent bytes text r h empty same ok cut fault =
    Sends-at_once {b = record { sink = from; unsent = unsent }} sink text r h empty
    (subst (λ xs. OnOk r (Takes from sink xs)) same ok) (subst (λ xs. OnErr r (TakesProperPrefix from sink xs)) same cut) fault
