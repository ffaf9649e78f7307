-- What is taken in piece by piece.
use Rattle.std.proofs.Common.{◌≡◌, ◌≢◌, ℕ, ◌+◌, ◌-◌, ◌<◌, ◌≤◌, List, [], ◌∷◌, ◌++◌, length, take, drop, refl, sym, ap, ◌∙◌, subst}
use Rattle.std.proofs.Common.{append_assoc, append-nil, length-append, arith, Bool, true, false, Result, Ok, Err}
use Rattle.std.proofs.lemmas.Bool.Decides.{nat_tests}
use Rattle.std.proofs.lemmas.List.{take-append-drop, length-take-le}
use Rattle.std.proofs.lemmas.List.Concat.{flat_map-append}
use Rattle.std.proofs.lemmas.List.Elements.{All-append, All-nil, All-cons, All-head, All-take}
use Rattle.std.specs.List.{flat_map}
use Rattle.std.specs.Prelude.{◌==◌, OnOk}
use Rattle.gix_date.specs.Text.Characters.{newline}
use Rattle.streams.specs.declared.error.ToolError.{ToolError}
use Rattle.streams.specs.declared.error.ToolError.TheVariants as errors
use Rattle.streams.specs.declared.lines.TheConstants.{MAX_LINE_LEN}
use Rattle.streams.specs.declared.serving.Stop.{Stop}
use Rattle.streams.specs.declared.serving.Stop.TheVariants.{Reading, Serving}
use Rattle.streams.specs.Lines.{IsLine, LineGoesOn, Part, with_newline, IsShort}
use Rattle.streams.specs.Serving.{Answer, Front, Joins, Service, ServesLines, Stays, StopsAt, answer_of}
use Rattle.streams.specs.Progress.{Extends, IsReady, Held, Stage, Takes, TakesIn, TakesTo, stage}

-- a part that nothing is beyond, and then a part of its rest and more
Part-then : (start a b : List ℕ) (h : Part (start ++ a)) (k : Part (h.rest ++ b)) → h.beyond ≡ [] → Part (start ++ (a ++ b))
Part-then start a b h k none =
    let ended = flat_map with_newline h.lines in
    let taken : start ++ a ≡ ended ++ h.rest = h.whole ∙ ap (λ xs. h.front ++ xs) none ∙ append-nil h.front ∙ h.splits.whole in
    record {
      front = ended ++ k.front;
      beyond = k.beyond;
      lines = h.lines ++ k.lines;
      rest = k.rest;
      whole = sym (append_assoc start a b) ∙ ap (λ xs. xs ++ b) taken ∙ append_assoc ended h.rest b ∙ ap (λ xs. ended ++ xs) k.whole
          ∙ sym (append_assoc ended k.front k.beyond);
      splits = record {
        whole = ap (λ xs. ended ++ xs) k.splits.whole ∙ sym (append_assoc ended (flat_map with_newline k.lines) k.rest)
            ∙ ap (λ xs. xs ++ k.rest) (sym (flat_map-append with_newline h.lines k.lines));
        each = All-append IsLine h.lines k.lines h.splits.each k.splits.each;
        rest_is_line = k.splits.rest_is_line;
      };
    }

-- what taking in all of a part leads to
abbrev pub after : (o : Held) {bytes : List ℕ} → Part bytes → Held
after o part = record o { line = part.rest; ended = o.ended + length part.lines }

more_ended : (n : ℕ) (lines more : List (List ℕ)) → n + length lines + length more ≡ n + length (lines ++ more)
more_ended n lines more = omega (arith, length-append lines more)

TakesTo-then : (o o' : Held) (a b : List ℕ) (r : Result (Unit {0}) Stop) (h : Part (o.line ++ a)) (k : Part (h.rest ++ b))
    (none : h.beyond ≡ [])
    → TakesTo (after o h) o' k r → TakesTo o o' (Part-then o.line a b h k none) r
unfolding Part-then
TakesTo-then o o' a b (Ok u) h k none at = record {
  none_beyond = at.none_beyond;
  same = at.same ∙ ap (λ n. record o { line = k.rest; ended = n }) (more_ended o.ended h.lines k.lines);
  ready = at.ready;
}
TakesTo-then o o' a b (Err (Reading fault)) h k none at =
    subst (λ n. StopsAt o.most fault n k.rest k.beyond) (more_ended o.ended h.lines k.lines) at
TakesTo-then o o' a b (Err (Serving fault)) h k none at = tt

-- bytes that were taken in, and then more bytes, whatever came of these
pub TakesIn-then : {S : Type 0} {serves : ServesLines S} {s0 s1 : Stage S} {a : List ℕ} (s2 : Stage S) (b : List ℕ)
    (r : Result (Unit {0}) Stop) → Joins serves
    → TakesIn serves s0 s1 a (Ok tt) → TakesIn serves s1 s2 b r → TakesIn serves s0 s2 (a ++ b) r
unfolding Part-then
TakesIn-then {serves = serves} {s0 = s0} {s1 = s1} {a = a} s2 b r joins h k' =
    let k : TakesIn serves (stage (after s0.held h.takes.part) s1.service) s2 b r =
    subst (λ o. TakesIn serves (stage o s1.service) s2 b r) h.takes.to.same k' in
    record {
      takes = record {
        part = Part-then s0.held.line a b h.takes.part k.takes.part h.takes.to.none_beyond;
        short = All-append IsShort h.takes.part.lines k.takes.part.lines h.takes.short k.takes.short;
        to = TakesTo-then s0.held s2.held a b r h.takes.part k.takes.part h.takes.to.none_beyond k.takes.to;
      };
      served = joins s0.service s1.service s2.service h.takes.part.lines k.takes.part.lines (answer_of r) h.served k.served;
    }

-- the line goes on, whatever stands after that
goes-on-more : (beyond more : List ℕ) → LineGoesOn beyond → LineGoesOn (beyond ++ more)
goes-on-more [] more h = absurd h
goes-on-more (byte ∷ bytes) more h = h

-- a part of some bytes is one of more
Part-beyond : (start a b : List ℕ) → Part (start ++ a) → Part (start ++ (a ++ b))
Part-beyond start a b h = record {
  front = h.front;
  beyond = h.beyond ++ b;
  lines = h.lines;
  rest = h.rest;
  whole = sym (append_assoc start a b) ∙ ap (λ xs. xs ++ b) h.whole ∙ append_assoc h.front h.beyond b;
  splits = h.splits;
}

TakesTo-beyond : (o o' : Held) (a b : List ℕ) (stop : Stop) (h : Part (o.line ++ a)) → TakesTo o o' h (Err stop)
    → TakesTo o o' (Part-beyond o.line a b h) (Err stop)
unfolding Part-beyond
TakesTo-beyond o o' a b (Reading errors.LineTooLong) h at = at
TakesTo-beyond o o' a b (Reading errors.TooManyLines) h at =
    record { all = at.all; none_begun = at.none_begun; more = omega (arith, length-append h.beyond b, at.more) }
TakesTo-beyond o o' a b (Reading errors.Memory) h at = (at.0, at.1, goes-on-more h.beyond b at.2)
TakesTo-beyond o o' a b (Reading (errors.Read kind)) h at = at
TakesTo-beyond o o' a b (Reading (errors.Write kind)) h at = at
TakesTo-beyond o o' a b (Serving fault) h at = tt

-- a run that stopped within some bytes stopped within more
pub TakesIn-beyond : {S : Type 0} {serves : ServesLines S} (s s' : Stage S) (a b : List ℕ) (stop : Stop) → TakesIn serves s s' a (Err stop)
    → TakesIn serves s s' (a ++ b) (Err stop)
unfolding Part-beyond
TakesIn-beyond s s' a b stop h = record {
  takes = record {
    part = Part-beyond s.held.line a b h.takes.part;
    short = h.takes.short;
    to =
        TakesTo-beyond s.held s'.held a b stop h.takes.part h.takes.to;
  };
  served = h.served;
}

-- bytes that end no line, of which some are beyond
abbrev open_part : (start a b : List ℕ) → IsLine (start ++ a) → Part (start ++ (a ++ b))
open_part start a b line = record {
  front = start ++ a;
  beyond = b;
  lines = [];
  rest = start ++ a;
  whole = sym (append_assoc start a b);
  splits = record { whole = refl; each = All-nil IsLine; rest_is_line = line };
}

-- the open line, and bytes that it has not taken
abbrev untaken : (start a : List ℕ) → IsLine start → Part (start ++ a)
untaken start a line = record {
  front = start;
  beyond = a;
  lines = [];
  rest = start;
  whole = refl;
  splits = record { whole = refl; each = All-nil IsLine; rest_is_line = line };
}

-- the open line and a part of it that is read now
line_more : {o : Held} (part : List ℕ) → IsReady o → IsLine part → IsLine (o.line ++ part)
line_more {o = o} part ready line = All-append (λ b. b ≢ newline) o.line part ready.is_line line

-- a text that ends no line
abbrev whole_part : {text : List ℕ} → IsLine text → Part text
whole_part {text = text} line = record {
  front = text;
  beyond = [];
  lines = [];
  rest = text;
  whole = sym (append-nil text);
  splits = record { whole = refl; each = All-nil IsLine; rest_is_line = line };
}

-- nothing was taken in
abbrev pub takes_nil : {o : Held} → IsReady o → Takes o o [] (Ok tt)
takes_nil {o = o} ready = record {
  part = untaken o.line [] ready.is_line;
  short = All-nil IsShort;
  to = record { none_beyond = refl; same = ap (λ n. record o { ended = n }) (omega arith); ready = ready };
}

pub Extends-nil : {o : Held} → IsReady o → Extends o o [] (Ok tt)
Extends-nil ready = record { takes = takes_nil ready; none = refl; read = refl }

-- bytes that end no line were put after the open line
pub Extends-bytes : {o o' : Held} (bytes : List ℕ) → IsReady o → IsLine bytes → IsShort (o.line ++ bytes) → o.ended < o.most
    → o' ≡ record o { line = o.line ++ bytes } → Extends o o' bytes (Ok tt)
Extends-bytes {o = o} bytes ready line short few same = subst (λ x. Extends o x bytes (Ok tt)) (sym same) (record {
  takes = record {
    part = whole_part (line_more bytes ready line);
    short = All-nil IsShort;
    to = record {
      none_beyond = refl;
      same = ap (λ n. record o { line = o.line ++ bytes; ended = n }) (omega arith);
      ready = record {
        is_line = line_more bytes ready line;
        is_short = short;
        few = omega (arith, few);
        none_after =
            λ e. absurd (omega (arith, few, e));
      };
    };
  };
  none = refl;
  read = refl;
})

-- a byte stands where no line may begin any more
pub Extends-too_many : {o : Held} (bytes : List ℕ) → IsReady o → o.ended ≡ o.most → 0 < length bytes
    → Extends o o bytes (Err (Reading errors.TooManyLines))
Extends-too_many {o = o} bytes ready all more = record {
  takes = record {
    part = untaken o.line bytes ready.is_line;
    short = All-nil IsShort;
    to = record { all = omega (arith, all); none_begun = ready.none_after all; more = more };
  };
  none = refl;
  read = refl;
}

goes-on : (bytes : List ℕ) → IsLine bytes → 0 < length bytes → LineGoesOn bytes
goes-on [] line long = absurd (omega (arith, long))
goes-on (byte ∷ bytes) line long = All-head (λ b. b ≢ newline) byte bytes line

-- memory was refused for bytes that the open line may have
pub Extends-no_memory : {o : Held} (bytes : List ℕ) → IsReady o → IsLine bytes → o.ended < o.most → 0 < length bytes
    → length (o.line ++ bytes) ≤ MAX_LINE_LEN
    → Extends o o bytes (Err (Reading errors.Memory))
Extends-no_memory {o = o} bytes ready line few long short = record {
  takes = record {
    part = untaken o.line bytes ready.is_line;
    short = All-nil IsShort;
    to = (omega (arith, few), omega (arith, length-append o.line bytes, long, short), goes-on bytes line long);
  };
  none = refl;
  read = refl;
}

-- a line that would be too long is so at its first byte beyond the limit
pub Extends-too_long : {o : Held} (bytes : List ℕ) → IsReady o → IsLine bytes → o.ended < o.most → MAX_LINE_LEN < length (o.line ++ bytes)
    → Extends o o bytes (Err (Reading errors.LineTooLong))
Extends-too_long {o = o} bytes ready line few long =
    let n = MAX_LINE_LEN + 1 - length o.line in
    let short : length o.line ≤ MAX_LINE_LEN = ready.is_short in
    let room : n ≤ length bytes = omega (arith, length-append o.line bytes) in
    let size : length (o.line ++ take n bytes) ≡ MAX_LINE_LEN + 1 =
    omega (arith, length-append o.line (take n bytes), length-take-le n bytes room) in
    subst (λ xs. Extends o o xs (Err (Reading errors.LineTooLong))) (take-append-drop n bytes) (record {
      takes = record {
        part = open_part o.line (take n bytes) (drop n bytes) (line_more (take n bytes) ready (All-take (λ b. b ≢ newline) n bytes line));
        short = All-nil IsShort;
        to = (omega (arith, few), size);
      };
      none = refl;
      read = refl;
    })

-- bytes were taken in that end no line, and none was served
pub TakesIn-extended : {S : Type 0} {serves : ServesLines S} {o : Held} (o' : Held) (v : Service S) (bytes : List ℕ)
    (r : Result (Unit {0}) Stop) → Stays serves
    → Extends o o' bytes r → TakesIn serves (stage o v) (stage o' v) bytes r
TakesIn-extended {serves = serves} o' v bytes r stays h = record {
  takes = h.takes;
  served = subst (λ lines. serves v v lines (answer_of r)) (sym h.none) (subst (λ answer. serves v v [] answer) (sym h.read) (stays v));
}

-- what stands open, and the newline that ends it
abbrev ended_part : (line : List ℕ) → IsLine line → Part (line ++ newline ∷ [])
ended_part line h = record {
  front = line ++ newline ∷ [];
  beyond = [];
  lines = line ∷ [];
  rest = [];
  whole = sym (append-nil (line ++ newline ∷ []));
  splits = record {
    whole = sym (append-nil (flat_map with_newline (line ∷ [])) ∙ append-nil (with_newline line));
    each = All-cons IsLine line [] h (All-nil IsLine);
    rest_is_line = All-nil (λ b. b ≢ newline);
  };
}

-- how taking in ends by what a server answers
abbrev pub as_stop : Answer → Result (Unit {0}) Stop
as_stop (Ok _) = Ok tt
as_stop (Err fault) = Err (Serving fault)

-- a newline was taken in: the open line ended, whatever came of serving it
pub TakesIn-newline : {S : Type 0} {serves : ServesLines S} {s s' : Stage S} (answer : Answer) → IsReady s.held → s.held.ended < s.held.most
    → OnOk answer (s'.held ≡ record s.held { line = []; ended = s.held.ended + 1 }) → serves s.service s'.service (s.held.line ∷ []) answer
    → TakesIn serves s s' (newline ∷ []) (as_stop answer)
TakesIn-newline {s = s} (Ok u) ready few same served = record {
  takes = record {
    part = ended_part s.held.line ready.is_line;
    short = All-cons IsShort s.held.line [] ready.is_short (All-nil IsShort);
    to = record {
      none_beyond = refl;
      same = same;
      ready = subst IsReady (sym same)
          (record { is_line = All-nil (λ b. b ≢ newline); is_short = omega arith; few = omega (arith, few); none_after = λ _. refl });
    };
  };
  served = served;
}
TakesIn-newline {s = s} (Err fault) ready few same served = record {
  takes = record
      { part = ended_part s.held.line ready.is_line; short = All-cons IsShort s.held.line [] ready.is_short (All-nil IsShort); to = tt };
  served = served;
}

-- a line and its newline are some bytes
pub some_line : (line : List ℕ) → 0 < length (line ++ newline ∷ [])
some_line line = omega (arith, length-append line (newline ∷ []))

pub some_first : (bytes line after : List ℕ) → bytes ≡ (line ++ newline ∷ []) ++ after → 0 < length bytes
some_first bytes line after e = omega (arith, ap length e, length-append (line ++ newline ∷ []) after, some_line line)

-- a whole line was read where none stood open, whatever came of serving it
pub TakesIn-whole : {S : Type 0} {serves : ServesLines S} {s s' : Stage S} (line : List ℕ) (answer : Answer) → Stays serves → Joins serves
    → s.held.line ≡ [] → IsReady s.held
    → s.held.ended < s.held.most → IsLine line → IsShort line
    → OnOk answer (s'.held ≡ record s.held { line = []; ended = s.held.ended + 1 })
    → serves s.service s'.service (line ∷ []) answer → TakesIn serves s s' (line ++ newline ∷ []) (as_stop answer)
TakesIn-whole {serves = serves} {s = s} {s' = s'} line answer stays joins none ready few is_line short same served =
    let fits = subst (λ start. IsShort (start ++ line)) (sym none) short in
    let o = record s.held { line = s.held.line ++ line } in
    let took : TakesIn serves s (stage o s.service) line (Ok tt) =
    TakesIn-extended o s.service line (Ok tt) stays (Extends-bytes line ready is_line fits few refl) in
    TakesIn-then s' (newline ∷ []) (as_stop answer) joins took
    (TakesIn-newline answer took.takes.to.ready few same
    (subst (λ start. serves s.service s'.service ((start ++ line) ∷ []) answer) (sym none) served))

-- what the server knew by its bytes was taken in, and what stands after it was not
pub TakesIn-front : {S : Type 0} {serves : ServesLines S} {s s' : Stage S} (bytes after : List ℕ) (front : Front bytes after)
    (fault : ToolError) → Stays serves → Joins serves → s.held.line ≡ []
    → IsReady s.held → s.held.ended < s.held.most → serves s.service s'.service (front.line ∷ []) (Err fault)
    → TakesIn serves s s' bytes (Err (Serving fault))
TakesIn-front {serves = serves} {s = s} {s' = s'} bytes after front fault stays joins none ready few served =
    let took : TakesIn serves s s' (with_newline front.line) (Err (Serving fault)) =
    TakesIn-whole front.line (Err fault) stays joins none ready few front.is_line front.is_short tt served in
    subst (λ xs. TakesIn serves s s' xs (Err (Serving fault))) (sym front.whole)
    (TakesIn-beyond s s' (with_newline front.line) after (Serving fault) took)

-- nothing was taken in, and something that was served before was written, or not
pub TakesIn-settled : {S : Type 0} {serves : ServesLines S} {o : Held} {v v' : Service S} (answer : Answer) → IsReady o
    → serves v v' [] answer → TakesIn serves (stage o v) (stage o v') [] (as_stop answer)
TakesIn-settled {o = o} (Ok u) ready h = record { takes = takes_nil ready; served = h }
TakesIn-settled {o = o} (Err fault) ready h =
    record { takes = record { part = untaken o.line [] ready.is_line; short = All-nil IsShort; to = tt }; served = h }

-- bytes that are not empty by a test, and those that are
pub some_byte : (xs : List ℕ) (b : Bool) → b ≡ (length xs == 0) → b ≡ false → 0 < length xs
some_byte xs b e h = grind (arith, nat_tests)

pub no_byte : (xs : List ℕ) (b : Bool) → b ≡ (length xs == 0) → b ≡ true → xs ≡ []
no_byte [] b e h = refl
no_byte (x ∷ xs) b e h = absurd (grind (arith, nat_tests))
