-- What was read and served, piece by piece.
use Rattle.std.proofs.Common.{◌≡◌, ◌≢◌, true, false, inl, inr, ℕ, ◌+◌, ◌≤◌, List, [], ◌∷◌, ◌++◌, length, refl, sym, ap, ◌∙◌, subst}
use Rattle.std.proofs.Common.{append_assoc, append-nil, length-append, arith, Option, None, Some, Result, Ok, Err}
use Rattle.std.proofs.lemmas.List.Elements.{All-append, All-nil, All-cons}
use Rattle.std.specs.Prelude.{All, OnOk}
use Rattle.std.specs.Io.KnownBytes.{Keeps, Consumes}
use Rattle.std.specs.declared.io.ErrorKind.{ErrorKind}
use Rattle.gix_date.specs.Text.Characters.{newline}
use Rattle.gix_date.specs.Devices.StreamState.{StreamState, TakesNothing, Gives, HasEnded}
use Rattle.streams.specs.declared.error.ToolError.{ToolError}
use Rattle.streams.specs.declared.error.ToolError.TheVariants as errors
use Rattle.streams.specs.declared.serving.Stop.{Stop}
use Rattle.streams.specs.declared.serving.Stop.TheVariants.{Reading, Serving}
use Rattle.streams.specs.Changes.{Change, change}
use Rattle.streams.specs.Lines.{last_line, with_last_line, IsShort, IsWithinLimits}
use Rattle.streams.specs.Serving.{Answer, EndsAt, Joins, Ran, Reached, Service, ServesLines, StopsAt, Unserved, answer_of, is_refused}
use Rattle.streams.specs.Progress.{EndsInput, Held, IsReady, Stage, TakesIn, first_held, stage}
use Rattle.streams.proofs.Taking.{TakesIn-settled, TakesIn-then, takes_nil}

pub Consumes-nil : (known : Option (List ℕ)) → Consumes known known []
Consumes-nil None = tt
Consumes-nil (Some xs) = refl

pub Consumes-append : (old mid new : Option (List ℕ)) (xs ys : List ℕ) → Consumes old mid xs → Consumes mid new ys
    → Consumes old new (xs ++ ys)
Consumes-append None mid new xs ys h k = tt
Consumes-append (Some us) None new xs ys h k = absurd h
Consumes-append (Some us) (Some vs) None xs ys h k = absurd k
Consumes-append (Some us) (Some vs) (Some ws) xs ys h k = h ∙ ap (λ zs. xs ++ zs) k ∙ sym (append_assoc xs ys ws)

pub Consumes-kept : (old mid new : Option (List ℕ)) (xs : List ℕ) → Consumes old mid xs → Keeps mid new → Consumes old new xs
Consumes-kept None mid new xs h k = tt
Consumes-kept (Some us) None new xs h k = absurd h
Consumes-kept (Some us) (Some vs) None xs h k = absurd k
Consumes-kept (Some us) (Some vs) (Some ws) xs h k = h ∙ ap (λ zs. xs ++ zs) (sym k)

-- Of a run that begins with this service: what was read so far was taken in.
pub record HasRead {S : Type 0} (serves : ServesLines S) (first s : Stage S) (reading : Change) : Type 0 where
  pub input : List ℕ
  pub read : Gives reading.old reading.new input
  pub took : TakesIn serves first s input (Ok tt)

-- nothing was read
pub HasRead-first : {S : Type 0} {serves : ServesLines S} (most : ℕ) (o : Held) (v : Service S) (reader : StreamState)
    → serves v v [] (Ok tt) → o ≡ first_held most
    → HasRead serves (stage (first_held most) v) (stage o v) (change reader reader)
HasRead-first {serves = serves} most o v reader stays fresh = record {
  input = [];
  read = Consumes-nil reader.bytes;
  took = subst (λ x. TakesIn serves (stage (first_held most) v) (stage x v) [] (Ok tt)) (sym fresh) (record {
    takes = takes_nil (record { is_line = All-nil (λ b. b ≢ newline); is_short = omega arith; few = omega arith; none_after = λ _. refl });
    served = stays;
  });
}

-- the same bytes with none beyond
with_none : {S : Type 0} {serves : ServesLines S} {first s : Stage S} (input : List ℕ) (r : Result (Unit {0}) Stop)
    → TakesIn serves first s (input ++ []) r
    → TakesIn serves first s input r
with_none {serves = serves} {first = first} {s = s} input r h = subst (λ bytes. TakesIn serves first s bytes r) (append-nil input) h

-- what waited was written
pub HasRead-settled : {S : Type 0} {serves : ServesLines S} {first s : Stage S} {reading : Change} (v : Service S) → Joins serves
    → HasRead serves first s reading
    → serves s.service v [] (Ok tt) → HasRead serves first (stage s.held v) reading
HasRead-settled {s = s} v joins h k = record {
  input = h.input;
  read = h.read;
  took =
      with_none h.input (Ok tt) (TakesIn-then (stage s.held v) [] (Ok tt) joins h.took (TakesIn-settled (Ok tt) h.took.takes.to.ready k));
}

-- a piece was read and taken in
pub HasRead-taken : {S : Type 0} {serves : ServesLines S} {first s s' : Stage S} {old mid : StreamState} (new : StreamState)
    {bytes : List ℕ} → Joins serves
    → HasRead serves first s (change old mid) → Gives mid new bytes → TakesIn serves s s' bytes (Ok tt)
    → HasRead serves first s' (change old new)
HasRead-taken {s' = s'} {old = old} {mid = mid} new {bytes = bytes} joins h read k = record {
  input = h.input ++ bytes;
  read = Consumes-append old.bytes mid.bytes new.bytes h.input bytes h.read read;
  took = TakesIn-then s' bytes (Ok tt) joins h.took k;
}

-- a run that was served but for what waits
abbrev pub RanBut : {S : Type 0} → ServesLines S → Stage S → Service S → Change → Result ℕ Stop → Type 0
RanBut serves first v reading ended = Ran (serves first.service v) (Unit {0}) first.held.most reading ended

-- the run ends within what was read
pub ran_within : {S : Type 0} {serves : ServesLines S} (most : ℕ) (u : Service S) (s : Stage S) (reading : Change) (input : List ℕ)
    (stop : Stop) → Gives reading.old reading.new input
    → TakesIn serves (stage (first_held most) u) s input (Err stop) → RanBut serves (stage (first_held most) u) s.service reading (Err stop)
ran_within most u s reading input (Serving fault) read h =
    record {
      reached = record { input = input; part = h.takes.part; due = h.takes.part.lines };
      read = read;
      ends = inl refl;
      served =
          h.served;
      settled = tt;
    }
ran_within most u s reading input (Reading (errors.Read kind)) read h = absurd h.takes.to
ran_within most u s reading input (Reading (errors.Write kind)) read h = absurd h.takes.to
ran_within most u s reading input (Reading errors.Memory) read h = record {
  reached = record { input = input; part = h.takes.part; due = h.takes.part.lines };
  read = read;
  ends = record {
    ended = refl;
    short = h.takes.short;
    stops =
        subst (λ n. StopsAt most errors.Memory n h.takes.part.rest h.takes.part.beyond) (omega arith) h.takes.to;
  };
  served = h.served;
  settled = tt;
}
ran_within most u s reading input (Reading errors.LineTooLong) read h = record {
  reached = record { input = input; part = h.takes.part; due = h.takes.part.lines };
  read = read;
  ends = record {
    ended = refl;
    short = h.takes.short;
    stops =
        subst (λ n. StopsAt most errors.LineTooLong n h.takes.part.rest h.takes.part.beyond) (omega arith) h.takes.to;
  };
  served = h.served;
  settled = tt;
}
ran_within most u s reading input (Reading errors.TooManyLines) read h = record {
  reached = record { input = input; part = h.takes.part; due = h.takes.part.lines };
  read = read;
  ends = record {
    ended = refl;
    short = h.takes.short;
    stops =
        subst (λ n. StopsAt most errors.TooManyLines n h.takes.part.rest h.takes.part.beyond) (omega arith) h.takes.to;
  };
  served = h.served;
  settled = tt;
}

-- the server refused to write what waited
pub Ran-unsettled : {S : Type 0} {serves : ServesLines S} {most : ℕ} {u : Service S} {s : Stage S} (v : Service S) {reading : Change}
    (fault : ToolError) → Joins serves
    → HasRead serves (stage (first_held most) u) s reading → serves s.service v [] (Err fault)
    → RanBut serves (stage (first_held most) u) v reading (Err (Serving fault))
Ran-unsettled {most = most} {u = u} {s = s} v {reading = reading} fault joins h k =
    let stop = Serving fault in
    let s' = stage s.held v in
    ran_within most u s' reading h.input stop h.read
    (with_none h.input (Err stop) (TakesIn-then s' [] (Err stop) joins h.took (TakesIn-settled (Err fault) h.took.takes.to.ready k)))

-- a piece was read, and the run ends within it
pub Ran-stopped : {S : Type 0} {serves : ServesLines S} {most : ℕ} {u : Service S} {s : Stage S} (s' : Stage S) {old mid : StreamState}
    (new : StreamState) (bytes : List ℕ) (stop : Stop) → Joins serves
    → HasRead serves (stage (first_held most) u) s (change old mid) → Gives mid new bytes → TakesIn serves s s' bytes (Err stop)
    → RanBut serves (stage (first_held most) u) s'.service (change old new) (Err stop)
Ran-stopped {most = most} {u = u} s' {old = old} {mid = mid} new bytes stop joins h read k =
    ran_within most u s' (change old new) (h.input ++ bytes) stop (Consumes-append old.bytes mid.bytes new.bytes h.input bytes h.read read)
    (TakesIn-then s' bytes (Err stop) joins h.took k)

last_short : (rest : List ℕ) → IsShort rest → All IsShort (last_line rest)
last_short [] h = All-nil IsShort
last_short (b ∷ bs) h = All-cons IsShort (b ∷ bs) [] h (All-nil IsShort)

room_for_last : (n most : ℕ) (rest : List ℕ) → n ≤ most → (n ≡ most → rest ≡ []) → n + length (last_line rest) ≤ most
room_for_last n most [] few none = omega arith
room_for_last n most (b ∷ bs) few none = grind (arith)

-- what was read is within the limits
within : {S : Type 0} {serves : ServesLines S} {most : ℕ} {u : Service S} {s : Stage S} {input : List ℕ}
    (took : TakesIn serves (stage (first_held most) u) s input (Ok tt))
    → IsWithinLimits most (with_last_line took.takes.part)
within {most = most} took =
    let part = took.takes.part in
    let ready = subst IsReady took.takes.to.same took.takes.to.ready in
    let room = room_for_last (0 + length part.lines) most part.rest ready.few ready.none_after in (
      All-append IsShort part.lines (last_line part.rest) took.takes.short (last_short part.rest ready.is_short),
      omega (arith, length-append part.lines (last_line part.rest), room),
    )

-- the reader refused
pub Ran-unread : {S : Type 0} {serves : ServesLines S} {most : ℕ} {u : Service S} {s : Stage S} {old mid : StreamState} (new : StreamState)
    {kind : ErrorKind}
    → HasRead serves (stage (first_held most) u) s (change old mid) → TakesNothing mid new → new.fault ≡ Some kind
    → RanBut serves (stage (first_held most) u) s.service (change old new) (Err (Reading (errors.Read kind)))
Ran-unread {old = old} {mid = mid} new h kept fault = record {
  reached = record { input = h.input; part = h.took.takes.part; due = h.took.takes.part.lines };
  read = Consumes-kept old.bytes mid.bytes new.bytes h.input h.read kept;
  ends = record { fault = fault; none_beyond = h.took.takes.to.none_beyond; ended = refl; within = within h.took };
  served = h.took.served;
  settled = tt;
}

-- what was read was served, and the last line
last_served : {S : Type 0} {serves : ServesLines S} {first s s' : Stage S} {reading : Change} (answer : Answer) → Joins serves
    → (h : HasRead serves first s reading)
    → EndsInput serves s s' answer → serves first.service s'.service (with_last_line h.took.takes.part) answer
last_served {serves = serves} {first = first} {s = s} {s' = s'} answer joins h k =
    let served = subst (λ o. serves s.service s'.service (last_line o.line) answer) h.took.takes.to.same k.served in
    joins first.service s.service s'.service h.took.takes.part.lines (last_line h.took.takes.part.rest) answer h.took.served served

-- nothing more was read
read_none : {S : Type 0} {serves : ServesLines S} {first s : Stage S} {old mid : StreamState} (new : StreamState)
    (h : HasRead serves first s (change old mid)) → Gives mid new []
    → Gives old new h.input
read_none {old = old} {mid = mid} new h read = grind (arith, append-nil, Consumes-append)

-- the input is at its end, and the last line was served
pub Ran-ended : {S : Type 0} {serves : ServesLines S} {most : ℕ} {u : Service S} {s : Stage S} (s' : Stage S) {old mid : StreamState}
    (new : StreamState) (count : ℕ) → Joins serves
    → HasRead serves (stage (first_held most) u) s (change old mid) → Gives mid new [] → HasEnded new → new.fault ≡ None
    → EndsInput serves s s' (Ok tt) → count ≡ s'.held.ended
    → RanBut serves (stage (first_held most) u) s'.service (change old new) (Ok count)
Ran-ended {s = s} s' new count joins h read end no_fault k counted =
    let part = h.took.takes.part in
    let last : s'.held.ended ≡ 0 + length part.lines + length (last_line part.rest) =
    subst (λ x. s'.held.ended ≡ x.ended + length (last_line x.line)) h.took.takes.to.same k.counted in
    record {
      reached = record { input = h.input; part = part; due = with_last_line part };
      read = read_none new h read;
      ends = record {
        whole = record { at_end = end; none_beyond = h.took.takes.to.none_beyond };
        no_fault = no_fault;
        all = refl;
        within = within h.took;
        count_is = omega (arith, length-append part.lines (last_line part.rest), counted, last);
      };
      served = last_served (Ok tt) joins h k;
      settled = tt;
    }

-- the input is at its end, and the server refused the last line
pub Ran-ended-unserved : {S : Type 0} {serves : ServesLines S} {most : ℕ} {u : Service S} {s : Stage S} (s' : Stage S)
    {old mid : StreamState} (new : StreamState) (fault : ToolError) → Joins serves
    → HasRead serves (stage (first_held most) u) s (change old mid) → Gives mid new [] → HasEnded new → EndsInput serves s s' (Err fault)
    → RanBut serves (stage (first_held most) u) s'.service (change old new) (Err (Serving fault))
Ran-ended-unserved s' new fault joins h read end k = record {
  reached = record { input = h.input; part = h.took.takes.part; due = with_last_line h.took.takes.part };
  read = read_none new h read;
  ends = inr (record { at_end = end; none_beyond = h.took.takes.to.none_beyond }, refl);
  served = last_served (Err fault) joins h k;
  settled = tt;
}

-- The server refused in the run.
pub Ran-refused : (Served : List (List ℕ) → Answer → Type 0) (Settled : Type 0) (most : ℕ) (reading : Change) (ended : Result ℕ Stop)
    → is_refused ended ≡ true
    → Ran Served (Unit {0}) most reading ended → Ran Served Settled most reading ended
Ran-refused Served Settled most reading (Ok count) is h = absurd cc
Ran-refused Served Settled most reading (Err (Reading fault)) is h = absurd cc
Ran-refused Served Settled most reading (Err (Serving fault)) is h =
    record { reached = h.reached; read = h.read; ends = h.ends; served = h.served; settled = tt }

-- the server answered well, unless the run says otherwise
answered : (ended : Result ℕ Stop) → is_refused ended ≡ false → answer_of ended ≡ Ok tt
answered (Ok count) not = refl
answered (Err (Reading fault)) not = refl
answered (Err (Serving fault)) not = absurd cc

-- What a run comes to once what waited is written.
pub Ran-settled : {S : Type 0} {serves : ServesLines S} (Settled : Type 0) (most : ℕ) (u v w : Service S) (reading : Change)
    (ended : Result ℕ Stop) → Joins serves → is_refused ended ≡ false
    → Ran (serves u v) (Unit {0}) most reading ended → serves v w [] (Ok tt) → Settled → Ran (serves u w) Settled most reading ended
Ran-settled {serves = serves} Settled most u v w reading ended joins not h k settled =
    let all = answered ended not in
    let before = subst (λ answer. serves u v h.reached.due answer) all h.served in
    let served = subst (λ lines. serves u w lines (Ok tt)) (append-nil h.reached.due) (joins u v w h.reached.due [] (Ok tt) before k) in
    record {
      reached = h.reached;
      read = h.read;
      ends = h.ends;
      served = subst (λ answer. serves u w h.reached.due answer) (sym all) served;
      settled = subst (λ answer. OnOk answer Settled) (sym all) settled;
    }

-- the lines that are due, where the server refuses what was left of them
due_unserved : (most : ℕ) (reader : StreamState) (reached : Reached) (ended : Result ℕ Stop) → EndsAt most ended reader reached
    → Unserved reader reached
due_unserved most reader reached (Ok count) h = inr (h.whole, h.all)
due_unserved most reader reached (Err (Serving fault)) h = h
due_unserved most reader reached (Err (Reading (errors.Read kind))) h = inl h.ended
due_unserved most reader reached (Err (Reading (errors.Write kind))) h = inl h.ended
due_unserved most reader reached (Err (Reading errors.Memory)) h = inl h.ended
due_unserved most reader reached (Err (Reading errors.LineTooLong)) h = inl h.ended
due_unserved most reader reached (Err (Reading errors.TooManyLines)) h = inl h.ended

-- What a run comes to where the server refuses to write what waited.
pub Ran-cut : {S : Type 0} {serves : ServesLines S} (Settled : Type 0) (most : ℕ) (u v w : Service S) (reading : Change)
    (ended : Result ℕ Stop) (fault : ToolError) → Joins serves
    → is_refused ended ≡ false → Ran (serves u v) (Unit {0}) most reading ended → serves v w [] (Err fault)
    → Ran (serves u w) Settled most reading (Err (Serving fault))
Ran-cut {serves = serves} Settled most u v w reading ended fault joins not h k =
    let before = subst (λ answer. serves u v h.reached.due answer) (answered ended not) h.served in
    record {
      reached = h.reached;
      read = h.read;
      ends = due_unserved most reading.new h.reached ended h.ends;
      served = subst (λ lines. serves u w lines (Err fault)) (append-nil h.reached.due) (joins u v w h.reached.due [] (Err fault) before k);
      settled = tt;
    }
