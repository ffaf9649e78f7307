-- Objects judged one after the other.
use Rattle.std.proofs.Common.{rules}
use Rattle.std.proofs.Common.{◌≡◌, ◌∙◌, ◌+◌, ◌<◌, ◌≤◌, ℕ, suc, Bool, true, false, ◌&&◌, List, [], ◌∷◌, ◌++◌, length, take, refl, sym, ap}
use Rattle.std.proofs.Common.{ap₂, subst, append_assoc, append-nil, length-append, arith, Option, None, Some, Ok, Err, All}
use Rattle.std.proofs.lemmas.List.{nil_from_length}
use Rattle.std.proofs.lemmas.List.Concat.{flat_map-append}
use Rattle.std.proofs.lemmas.List.Elements.{All-append, All-cons, All-nil}
use Rattle.std.proofs.lemmas.List.Folds.{list_all-append}
use Rattle.std.specs.Io.KnownBytes.{Appends}
use Rattle.std.specs.List.{flat_map, list_all}
use Rattle.gix_date.specs.Devices.StreamState.{StreamState, Gives, Takes, TakesProperPrefix}
use Rattle.gix_date.specs.Text.Characters.{newline}
use Rattle.streams.specs.Lines.{IsLine, last_line, with_newline}
use Rattle.streams.specs.Changes.{Change, change}
use Rattle.streams.proofs.Running.{Consumes-append, Consumes-nil}
use Rattle.streams.specs.declared.error.ToolError.{ToolError}
use Rattle.streams.specs.declared.error.ToolError.TheVariants as errors
use Rattle.git_ident_tool.specs.Cursor.{ReadsLine}
use Rattle.git_ident_tool.specs.Judging.{Flow, flow, lines_due, are_clean, objects_due, is_clean_object, Wrote, IsFilledLine, JudgesAll}
use Rattle.git_ident_tool.specs.Judging.{JudgesPart, IsOfInput}
use Rattle.gix_signature.specs.Objects.{own_header}
use Rattle.git_ident_tool.specs.Objects.{Object, IsObject, has_own_header, lines_of, stream_text}
use Rattle.git_ident_tool.specs.Verdicts.{Tells, is_clean_in, line_due}
use Rattle.git_ident_tool.specs.declared.error.Fault.{Fault}
use Rattle.git_ident_tool.specs.declared.error.Fault.TheVariants.{Tool, Refused, Stream}
use Rattle.git_ident_tool.specs.declared.error.StreamFault.TheVariants.{EarlyEnd}
use Rattle.git_ident_tool.specs.declared.verdicts.Telling.{Telling}
use Rattle.git_ident_tool.specs.declared.stream.LineEnd.TheVariants.{Newline, Full, Input}
use Rattle.git_ident_tool.specs.declared.header.Header.{Header}
use Rattle.git_ident_tool.specs.declared.header.Kind.{Kind}
use Rattle.git_ident_tool.specs.declared.header.Kind.TheVariants.{Commit, Tag, Tree, Blob}
use Rattle.git_ident_tool.proofs.Headers.{own-last, own-lines}

-- these lines of an object's header were judged, and so many bytes of its contents are left
pub record LinesSoFar (telling : Telling) (id : List ℕ) (said : Header) (f : Flow) (answer : Bool × ℕ) : Type 0 where
  pub part : List ℕ
  pub lines : List (List ℕ)
  pub given : Gives f.reading.old f.reading.new part
  pub whole : part ≡ flat_map with_newline lines
  pub each : All IsFilledLine lines
  pub counted : length part + answer.1 ≡ said.size
  pub wrote : Takes f.writing.old f.writing.new (lines_due telling id said.kind lines)
  pub clean : answer.0 ≡ are_clean said.kind lines

-- these objects were judged
pub record ObjectsSoFar (telling : Telling) (f : Flow) (clean : Bool) (count : ℕ) : Type 0 where
  pub objects : List Object
  pub each : All IsObject objects
  pub given : Gives f.reading.old f.reading.new (stream_text objects)
  pub wrote : Takes f.writing.old f.writing.new (objects_due telling objects)
  pub clean_is : clean ≡ list_all is_clean_object objects
  pub counted : length objects ≡ count

pub Appends-nil : (known : Option (List ℕ)) → Appends known known []
Appends-nil None = tt
Appends-nil (Some xs) = sym (append-nil xs)

Appends-append : (old mid new : Option (List ℕ)) (xs ys : List ℕ) → Appends old mid xs → Appends mid new ys → Appends old new (xs ++ ys)
Appends-append None mid new xs ys h k = tt
Appends-append (Some us) None new xs ys h k = absurd h
Appends-append (Some us) (Some vs) None xs ys h k = absurd k
Appends-append (Some us) (Some vs) (Some ws) xs ys h k = k ∙ ap (λ (zs : List ℕ). zs ++ ys) h ∙ append_assoc us xs ys

-- two texts were taken
pub Takes-more : (a b c : StreamState) (xs ys : List ℕ) → Takes a b xs → Takes b c ys → Takes a c (xs ++ ys)
Takes-more a b c xs ys h k = Appends-append a.bytes b.bytes c.bytes xs ys h k

pub Gives-more : (a b c : StreamState) (xs ys : List ℕ) → Gives a b xs → Gives b c ys → Gives a c (xs ++ ys)
Gives-more a b c xs ys h k = Consumes-append a.bytes b.bytes c.bytes xs ys h k

take-more : (xs ys : List ℕ) (n : ℕ) → take (length xs + n) (xs ++ ys) ≡ xs ++ take n ys
take-more [] ys n = ap (λ (k : ℕ). take k ys) (omega arith)
take-more (x ∷ xs) ys n = ap (λ (k : ℕ). take k (x ∷ (xs ++ ys))) (suc-front (length xs) n) ∙ ap (λ zs. x ∷ zs) (take-more xs ys n)
  where
    suc-front : (a b : ℕ) → suc a + b ≡ suc (a + b)
    suc-front a b = omega arith

-- a text was taken, and then a proper prefix of another
pub Prefix-more : (a b c : StreamState) (xs ys : List ℕ) → Takes a b xs → TakesProperPrefix b c ys → TakesProperPrefix a c (xs ++ ys)
Prefix-more a b c xs ys h k = (
  length xs + k.0,
  omega (arith, length-append xs ys, k.1),
  subst (Takes a c) (sym (take-more xs ys k.0)) (Takes-more a b c xs (take k.0 ys) h k.2),
)

-- what is due was written, and then what is due where a fault came
pub Wrote-more : (a b c : StreamState) (xs ys : List ℕ) (fault : Fault) → Takes a b xs → Wrote (change b c) ys fault
    → Wrote (change a c) (xs ++ ys) fault
Wrote-more a b c xs ys (Tool (errors.Write kind)) h k = (Prefix-more a b c xs ys h k.0, k.1)
Wrote-more a b c xs ys (Tool (errors.Read kind)) h k = Takes-more a b c xs ys h k
Wrote-more a b c xs ys (Tool errors.Memory) h k = Takes-more a b c xs ys h k
Wrote-more a b c xs ys (Tool errors.LineTooLong) h k = Takes-more a b c xs ys h k
Wrote-more a b c xs ys (Tool errors.TooManyLines) h k = Takes-more a b c xs ys h k
Wrote-more a b c xs ys (Refused why) h k = Takes-more a b c xs ys h k
Wrote-more a b c xs ys (Stream why) h k = Takes-more a b c xs ys h k

-- all that is due was written where no writer refused
pub Wrote-all : (writing : Change) (due : List ℕ) (fault : Fault) → IsOfInput fault → Takes writing.old writing.new due
    → Wrote writing due fault
Wrote-all writing due (Tool (errors.Write kind)) h k = absurd h
Wrote-all writing due (Tool (errors.Read kind)) h k = k
Wrote-all writing due (Tool errors.Memory) h k = k
Wrote-all writing due (Tool errors.LineTooLong) h k = k
Wrote-all writing due (Tool errors.TooManyLines) h k = k
Wrote-all writing due (Refused why) h k = k
Wrote-all writing due (Stream why) h k = k

-- ---- lines of a header

and-true : (b : Bool) → (b && true) ≡ b
and-true true = refl
and-true false = refl

-- an empty line names nobody
none-due : (telling : Telling) (id : List ℕ) (kind : Kind) → line_due telling id kind [] ≡ []
none-due telling id Commit = refl
none-due telling id Tag = refl
none-due telling id Tree = refl
none-due telling id Blob = refl

none-clean : (kind : Kind) → is_clean_in kind [] ≡ true
none-clean Commit = refl
none-clean Tag = refl
none-clean Tree = refl
none-clean Blob = refl

last-due : (telling : Telling) (id : List ℕ) (kind : Kind) (line : List ℕ)
    → lines_due telling id kind (last_line line) ≡ line_due telling id kind line
last-due telling id kind [] = sym (none-due telling id kind)
last-due telling id kind (b ∷ bs) = append-nil (line_due telling id kind (b ∷ bs))

last-clean : (kind : Kind) (line : List ℕ) → are_clean kind (last_line line) ≡ is_clean_in kind line
last-clean kind [] = sym (none-clean kind)
last-clean kind (b ∷ bs) = and-true (is_clean_in kind (b ∷ bs))

own-rest : (line : List ℕ) → IsLine line → own_header line ≡ last_line line
own-rest [] h = refl
own-rest (b ∷ bs) h = own-last (b ∷ bs) (h, omega arith)

-- what is due for some lines and for one more
more-due : (telling : Telling) (id : List ℕ) (kind : Kind) (lines more : List (List ℕ))
    → lines_due telling id kind (lines ++ more) ≡ lines_due telling id kind lines ++ lines_due telling id kind more
more-due telling id kind lines more = flat_map-append (line_due telling id kind) lines more

more-clean : (kind : Kind) (lines more : List (List ℕ)) → are_clean kind (lines ++ more) ≡ (are_clean kind lines && are_clean kind more)
more-clean kind lines more = list_all-append (is_clean_in kind) lines more

pub first-lines : (telling : Telling) (id : List ℕ) (said : Header) (source sink : StreamState)
    → LinesSoFar telling id said (flow (change source source) (change sink sink)) (true, said.size)
first-lines telling id said source sink = record {
  part = [];
  lines = [];
  given = Consumes-nil source.bytes;
  whole = refl;
  each = All-nil IsFilledLine;
  counted = omega arith;
  wrote = Appends-nil sink.bytes;
  clean = refl;
}

one-more : (part line : List ℕ) (lines : List (List ℕ)) → part ≡ flat_map with_newline lines
    → part ++ with_newline line ≡ flat_map with_newline (lines ++ line ∷ [])
one-more part line lines whole = grind (arith, append-nil, flat_map-append)

-- a line of the header was read, with its newline, and judged
pub next-line : (telling : Telling) (id : List ℕ) (said : Header) (a b c : StreamState) (x y z : StreamState) (line : List ℕ)
    (clean one : Bool) (left less : ℕ)
    → LinesSoFar telling id said (flow (change a b) (change x y)) (clean, left) → ReadsLine left b c line (Ok Newline) → 0 < length line
    → less + (length line + 1) ≡ left → Tells (line_due telling id said.kind line) (is_clean_in said.kind line) (change y z) (Ok one)
    → LinesSoFar telling id said (flow (change a c) (change x z)) (clean && one, less)
next-line telling id said a b c x y z line clean one left less far read some fewer told =
    let kind = said.kind in
    record {
      part = far.part ++ with_newline line;
      lines = far.lines ++ line ∷ [];
      given = Gives-more a b c far.part (with_newline line) far.given read.ends.0;
      whole = one-more far.part line far.lines far.whole;
      each = All-append IsFilledLine far.lines (line ∷ []) far.each
          (All-cons IsFilledLine line [] (read.is_line, some) (All-nil IsFilledLine));
      counted = omega (arith, length-append far.part (with_newline line), length-append line (newline ∷ []), far.counted, fewer);
      wrote = subst (Takes x z) (sym (more-due telling id kind far.lines (line ∷ [])
          ∙ ap (λ (xs : List ℕ). lines_due telling id kind far.lines ++ xs) (append-nil (line_due telling id kind line))))
          (Takes-more x y z (lines_due telling id kind far.lines) (line_due telling id kind line) far.wrote told.0);
      clean = ap₂ (λ (p q : Bool). p && q) far.clean told.1
          ∙ sym
          (more-clean kind far.lines (line ∷ []) ∙ ap (λ (q : Bool). are_clean kind far.lines && q) (and-true (is_clean_in kind line)));
    }

-- the lines that are looked at of an object that has a header of its own
looked-at : (kind : Kind) (contents : List ℕ) → has_own_header kind ≡ true → lines_of kind contents ≡ own_header contents
looked-at Commit contents h = refl
looked-at Tag contents h = refl
looked-at Tree contents h = cc
looked-at Blob contents h = cc

-- an empty line ends the header
pub ends-header : (telling : Telling) (id : List ℕ) (said : Header) (a b c : StreamState) (x y : StreamState) (line : List ℕ) (clean : Bool)
    (left less : ℕ)
    → has_own_header said.kind ≡ true → LinesSoFar telling id said (flow (change a b) (change x y)) (clean, left)
    → ReadsLine left b c line (Ok Newline) → line ≡ []
    → less + (length line + 1) ≡ left → JudgesAll telling id said (flow (change a c) (change x y)) (clean, less)
ends-header telling id said a b c x y line clean left less has far read none fewer =
    grind (arith, Gives-more, length-append, looked-at, append_assoc, own-lines, append-nil)

nothing-beyond : (part beyond : List ℕ) → length (part ++ beyond) ≡ length part → beyond ≡ []
nothing-beyond part beyond e = nil_from_length beyond (omega (arith, length-append part beyond, e))

-- the object ends in the header, with a line or none
pub ends-object : (telling : Telling) (id : List ℕ) (said : Header) (a b c : StreamState) (x y z : StreamState) (line : List ℕ)
    (clean one : Bool) (left : ℕ)
    → has_own_header said.kind ≡ true → LinesSoFar telling id said (flow (change a b) (change x y)) (clean, left)
    → ReadsLine left b c line (Ok Full)
    → Tells (line_due telling id said.kind line) (is_clean_in said.kind line) (change y z) (Ok one)
    → JudgesAll telling id said (flow (change a c) (change x z)) (clean && one, 0)
ends-object telling id said a b c x y z line clean one left has far read told =
    let kind = said.kind in
    let lines = far.lines ++ last_line line in
    let all : length (far.part ++ line) ≡ said.size = omega (arith, length-append far.part line, far.counted, read.ends.1) in
    let own : own_header (far.part ++ line) ≡ lines =
    ap (λ (xs : List ℕ). own_header (xs ++ line)) far.whole ∙ own-lines far.lines line far.each
    ∙ ap (λ (more : List (List ℕ)). far.lines ++ more) (own-rest line read.is_line) in
    record {
      part = far.part ++ line;
      lines = lines;
      given = Gives-more a b c far.part line far.given read.ends.0;
      counted = omega (arith, all);
      settled = λ beyond fits.
          looked-at kind ((far.part ++ line) ++ beyond) has
          ∙ ap own_header (ap (λ (xs : List ℕ). (far.part ++ line) ++ xs) (nothing-beyond (far.part ++ line) beyond (fits ∙ sym all))
          ∙ append-nil (far.part ++ line)) ∙ own;
      wrote = subst (Takes x z) (sym (more-due telling id kind far.lines (last_line line)
          ∙ ap (λ (xs : List ℕ). lines_due telling id kind far.lines ++ xs) (last-due telling id kind line)))
          (Takes-more x y z (lines_due telling id kind far.lines) (line_due telling id kind line) far.wrote told.0);
      clean = ap₂ (λ (p q : Bool). p && q) far.clean told.1
          ∙ sym (more-clean kind far.lines (last_line line) ∙ ap (λ (q : Bool). are_clean kind far.lines && q) (last-clean kind line));
    }

-- the input ends, or a fault comes, within a line
pub stops-early : (telling : Telling) (id : List ℕ) (said : Header) (a b c : StreamState) (x y : StreamState) (line : List ℕ)
    (answer : Bool × ℕ)
    → LinesSoFar telling id said (flow (change a b) (change x y)) answer → ReadsLine answer.1 b c line (Ok Input)
    → JudgesPart telling id said (flow (change a c) (change x y)) (Stream EarlyEnd)
stops-early telling id said a b c x y line answer far read = search (rules, Gives-more, length-append)

pub stops-reading : (telling : Telling) (id : List ℕ) (said : Header) (a b c : StreamState) (x y : StreamState) (line : List ℕ)
    (answer : Bool × ℕ) (fault : ToolError)
    → LinesSoFar telling id said (flow (change a b) (change x y)) answer → ReadsLine answer.1 b c line (Err fault)
    → JudgesPart telling id said (flow (change a c) (change x y)) (Tool fault)
stops-reading telling id said a b c x y line answer errors.Memory far read = record {
  part = far.part ++ line;
  lines = far.lines;
  given = Gives-more a b c far.part line far.given read.ends.0;
  within = omega (arith, length-append far.part line, far.counted, read.ends.1);
  stops = (line, record { whole = ap (λ (xs : List ℕ). xs ++ line) far.whole; each = far.each });
  wrote = far.wrote;
  cause = tt;
}
stops-reading telling id said a b c x y line answer (errors.Read kind) far read = record {
  part = far.part ++ line;
  lines = far.lines;
  given = Gives-more a b c far.part line far.given read.ends.0;
  within = omega (arith, length-append far.part line, far.counted, read.ends.1);
  stops = (line, read.is_line, record { whole = ap (λ (xs : List ℕ). xs ++ line) far.whole; each = far.each });
  wrote = far.wrote;
  cause = read.ends.2;
}
stops-reading telling id said a b c x y line answer (errors.Write kind) far read = absurd read.ends
stops-reading telling id said a b c x y line answer errors.LineTooLong far read = absurd read.ends
stops-reading telling id said a b c x y line answer errors.TooManyLines far read = absurd read.ends

-- a line was read to its newline or to the object's end, and telling of it had a fault
pub stops-telling : (telling : Telling) (id : List ℕ) (said : Header) (a b c : StreamState) (x y z : StreamState) (line text : List ℕ)
    (answer : Bool × ℕ) (fault : ToolError)
    → LinesSoFar telling id said (flow (change a b) (change x y)) answer → Gives b c text → length text ≤ answer.1
    → ((part : List ℕ) (lines : List (List ℕ)) → part ≡ flat_map with_newline lines → All IsFilledLine lines
    → own_header (part ++ text) ≡ lines ++ last_line line)
    → Tells (line_due telling id said.kind line) (is_clean_in said.kind line) (change y z) (Err fault)
    → JudgesPart telling id said (flow (change a c) (change x z)) (Tool fault)
stops-telling telling id said a b c x y z line text answer (errors.Write kind) far given fits own told = record {
  part = far.part ++ text;
  lines = far.lines ++ last_line line;
  given = Gives-more a b c far.part text far.given given;
  within = omega (arith, length-append far.part text, far.counted, fits);
  stops = own far.part far.lines far.whole far.each;
  wrote = (
    subst (TakesProperPrefix x z) (sym (more-due telling id said.kind far.lines (last_line line)
        ∙ ap (λ (xs : List ℕ). lines_due telling id said.kind far.lines ++ xs) (last-due telling id said.kind line)))
        (Prefix-more x y z (lines_due telling id said.kind far.lines) (line_due telling id said.kind line) far.wrote told.0),
    told.1,
  );
  cause = tt;
}
stops-telling telling id said a b c x y z line text answer errors.Memory far given fits own told = record {
  part = far.part ++ text;
  lines = far.lines;
  given = Gives-more a b c far.part text far.given given;
  within = omega (arith, length-append far.part text, far.counted, fits);
  stops = (text, record { whole = ap (λ (xs : List ℕ). xs ++ text) far.whole; each = far.each });
  wrote = subst (λ (s : StreamState). Takes x s (lines_due telling id said.kind far.lines)) (sym told) far.wrote;
  cause = tt;
}
stops-telling telling id said a b c x y z line text answer (errors.Read kind) far given fits own told = absurd told
stops-telling telling id said a b c x y z line text answer errors.LineTooLong far given fits own told = absurd told
stops-telling telling id said a b c x y z line text answer errors.TooManyLines far given fits own told = absurd told

-- the lines of a part, and one more with its newline
pub own-with : (line : List ℕ) → IsFilledLine line → (part : List ℕ) (lines : List (List ℕ)) → part ≡ flat_map with_newline lines
    → All IsFilledLine lines
    → own_header (part ++ with_newline line) ≡ lines ++ last_line line
own-with [] filled part lines whole each = absurd (omega (arith, filled.1))
own-with (b ∷ bs) filled part lines whole each =
    let line = b ∷ bs in
    ap own_header (one-more part line lines whole ∙ sym (append-nil (flat_map with_newline (lines ++ line ∷ []))))
    ∙ own-lines (lines ++ line ∷ []) []
    (All-append IsFilledLine lines (line ∷ []) each (All-cons IsFilledLine line [] filled (All-nil IsFilledLine)))
    ∙ append-nil (lines ++ line ∷ [])

-- and one that ends with the object
pub own-without : (line : List ℕ) → IsLine line → (part : List ℕ) (lines : List (List ℕ)) → part ≡ flat_map with_newline lines
    → All IsFilledLine lines
    → own_header (part ++ line) ≡ lines ++ last_line line
own-without line is_line part lines whole each = grind (arith, own-lines, own-rest)

-- where there are no lines nothing is told
pub and_yes : (b : Bool) → (b && true) ≡ b
and_yes true = refl
and_yes false = refl

pub ruleset nothing_done = (Appends-nil, and_yes)
