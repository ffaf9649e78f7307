-- The objects of a stream judged one after the other.
use Rattle.std.proofs.lemmas.Bool.Decides.{nat_tests}
use Rattle.std.proofs.lemmas.Grind.{common_steps}
use Rattle.std.proofs.Common.{rules}
use Rattle.std.proofs.Common.{◌≡◌, ◌≢◌, ◌∙◌, ◌⊎◌, inl, inr, ◌+◌, ◌<◌, ℕ, Bool, true, false, ◌&&◌, List, [], ◌∷◌, ◌++◌, length, refl, sym}
use Rattle.std.proofs.Common.{ap, ap₂, subst, append_assoc, append-nil, length-append, arith, Option, None, Some, Ok, Err}
use Rattle.std.proofs.lemmas.List.Concat.{flat_map-append}
use Rattle.std.proofs.lemmas.List.Elements.{All-append, All-cons, All-head, All-nil}
use Rattle.std.proofs.lemmas.List.Folds.{list_all-append}
use Rattle.std.specs.Io.KnownBytes.{Consumes, IsAtEnd, prepend_known}
use Rattle.std.specs.List.{list_all}
use Rattle.gix_date.specs.Devices.StreamState.{StreamState, Gives, Takes}
use Rattle.gix_date.specs.Text.Characters.{newline}
use Rattle.streams.specs.Lines.{IsLine, with_newline}
use Rattle.streams.specs.Changes.{change}
use Rattle.streams.proofs.Running.{Consumes-nil}
use Rattle.streams.specs.declared.error.ToolError.{ToolError}
use Rattle.streams.specs.declared.error.ToolError.TheVariants as errors
use Rattle.streams.specs.declared.lines.TheConstants.{MAX_LINE_LEN}
use Rattle.git_ident_tool.specs.Cursor.{ReadsLine, Skips}
use Rattle.git_ident_tool.specs.Judging.{flow, lines_due, are_clean, object_due, objects_due, is_clean_object, Wrote, Causes, StopsWithin}
use Rattle.git_ident_tool.specs.Judging.{JudgesAll, JudgesPart, IsBeyond, IsOfInput, SkipsRest, StopsInRest, broken_due, JudgesWhole}
use Rattle.git_ident_tool.specs.Judging.{BreaksObject, JudgesObject, InHeader, AtHeader, AfterHeader, StopsAfterObjects, StopsHeader, id_of}
use Rattle.git_ident_tool.specs.Objects.{Object, IsObject, lines_of, object_text, read_header, stream_text}
use Rattle.git_ident_tool.specs.declared.error.Fault.{Fault}
use Rattle.git_ident_tool.specs.declared.error.Fault.TheVariants.{Tool, Refused, Stream}
use Rattle.git_ident_tool.specs.declared.error.StreamFault.TheVariants.{BadEnd, EarlyEnd, TooMany}
use Rattle.git_ident_tool.specs.declared.judging.TheConstants.{MAX_OBJECTS}
use Rattle.git_ident_tool.specs.declared.verdicts.Telling.{Telling}
use Rattle.git_ident_tool.specs.declared.stream.LineEnd.{LineEnd}
use Rattle.git_ident_tool.specs.declared.stream.LineEnd.TheVariants.{Newline, Full}
use Rattle.git_ident_tool.specs.declared.header.Header.{Header}
use Rattle.git_ident_tool.proofs.Judged.{ObjectsSoFar, Appends-nil, Gives-more, Takes-more, Wrote-more, Wrote-all}

-- ---- the end of an object

-- the bytes of the rest were skipped, and no newline was read
no-bytes : (line : List ℕ) → length line < 1 → line ≡ []
no-bytes [] h = refl
no-bytes (b ∷ bs) h = absurd (omega (arith, h))

-- another byte stands there
one-byte : (line : List ℕ) → IsLine line → length line ≡ 1 → (b : ℕ) × (b ≢ newline) × (line ≡ b ∷ [])
one-byte [] is_line h = absurd (omega (arith, h))
one-byte (b ∷ []) is_line h = (b, All-head (λ x. x ≢ newline) b [] is_line, refl)
one-byte (b ∷ c ∷ cs) is_line h = absurd (omega (arith, h))

pub skips_to_byte : (left : ℕ) (a b c : StreamState) (line : List ℕ) (all : Bool) (end : LineEnd) → Skips left a b (Ok all) → all ≡ true
    → ReadsLine 1 b c line (Ok end) → end ≡ Full → StopsInRest left (change a c) (Stream BadEnd)
skips_to_byte left a b c line all end skipped e ended f =
    let h = subst (λ all. Skips left a b (Ok all)) e skipped in
    let read = subst (λ end. ReadsLine 1 b c line (Ok end)) f ended in
    record {
      rest = h.bytes;
      beyond = line;
      given = Gives-more a b c h.bytes line h.given read.ends.0;
      within = omega (arith, h.ends);
      is_beyond = (h.ends, one-byte line read.is_line read.ends.1);
      of_input = tt;
      cause = tt;
    }

-- a fault came at that byte, which was not read
skips-to-fault : (left : ℕ) (a b c : StreamState) (line : List ℕ) (fault : ToolError) → Skips left a b (Ok true)
    → ReadsLine 1 b c line (Err fault)
    → StopsInRest left (change a c) (Tool fault)
skips-to-fault left a b c line errors.Memory h read = grind (arith, nat_tests, common_steps, no-bytes)
skips-to-fault left a b c line (errors.Read kind) h read = grind (arith, nat_tests, common_steps, no-bytes)
skips-to-fault left a b c line (errors.Write kind) h read = absurd read.ends
skips-to-fault left a b c line errors.LineTooLong h read = absurd read.ends
skips-to-fault left a b c line errors.TooManyLines h read = absurd read.ends

pub skips_to_fault : (left : ℕ) (a b c : StreamState) (line : List ℕ) (all : Bool) (fault : ToolError) → Skips left a b (Ok all)
    → all ≡ true
    → ReadsLine 1 b c line (Err fault) → StopsInRest left (change a c) (Tool fault)
skips_to_fault left a b c line all fault skipped e read =
    skips-to-fault left a b c line fault (subst (λ all. Skips left a b (Ok all)) e skipped) read

-- ---- an object

pub judges_object : (telling : Telling) (header id : List ℕ) (said : Header) (a b c x y : StreamState) (answer : Bool × ℕ)
    → id ≡ id_of header → read_header header ≡ Ok said
    → JudgesAll telling id said (flow (change a b) (change x y)) answer → SkipsRest answer.1 (change b c)
    → JudgesWhole telling header (flow (change a c) (change x y)) answer.0
judges_object telling header id said a b c x y answer is says h skipped =
    let contents = h.part ++ skipped.rest in
    let long : length contents ≡ said.size = omega (arith, length-append h.part skipped.rest, h.counted, skipped.all) in
    let lines = sym (h.settled skipped.rest long) in
    record {
      kind = said.kind;
      contents = contents;
      says = says ∙ ap (λ (n : ℕ). Ok (record { kind = said.kind; size = n })) (sym long);
      given = subst (Gives a c) (sym (append_assoc h.part skipped.rest (newline ∷ [])))
          (Gives-more a b c h.part (with_newline skipped.rest) h.given skipped.given);
      wrote = subst (λ (i : List ℕ). Takes x y (lines_due telling i said.kind (lines_of said.kind contents))) is
          (subst (λ (ls : List (List ℕ)). Takes x y (lines_due telling id said.kind ls)) lines h.wrote);
      clean_is = h.clean ∙ ap (are_clean said.kind) lines;
    }

-- nothing is beyond where a fault came within the lines
none-beyond : (fault : Fault) (size : ℕ) (part : List ℕ) (lines : List (List ℕ)) → StopsWithin fault part lines
    → IsBeyond fault size part []
none-beyond (Tool fault) size part lines h = refl
none-beyond (Stream EarlyEnd) size part lines h = refl
none-beyond (Refused why) size part lines h = refl
none-beyond (Stream BadEnd) size part lines h = absurd h
none-beyond (Stream TooMany) size part lines h = refl

pub breaks_lines : (telling : Telling) (header id : List ℕ) (said : Header) (a b x y : StreamState) (fault : Fault) → id ≡ id_of header
    → read_header header ≡ Ok said
    → JudgesPart telling id said (flow (change a b) (change x y)) fault → BreaksObject telling header (flow (change a b) (change x y)) fault
breaks_lines telling header id said a b x y fault is says h = record {
  broken = record {
    said = said;
    says = says;
    part = h.part;
    beyond = [];
    lines = h.lines;
    within = h.within;
    is_beyond = none-beyond fault said.size h.part h.lines h.stops;
    stops = inl h.stops;
  };
  given = subst (Gives a b) (sym (append-nil h.part)) h.given;
  wrote = subst (λ (i : List ℕ). Wrote (change x y) (lines_due telling i said.kind h.lines) fault) is h.wrote;
  cause = h.cause;
}

-- what is beyond the rest is beyond the contents
beyond-all : (fault : Fault) (left size : ℕ) (part rest beyond : List ℕ) → length part + left ≡ size → IsBeyond fault left rest beyond
    → IsBeyond fault size (part ++ rest) beyond
beyond-all (Tool fault) left size part rest beyond counted h = h
beyond-all (Stream EarlyEnd) left size part rest beyond counted h = h
beyond-all (Refused why) left size part rest beyond counted h = h
beyond-all (Stream TooMany) left size part rest beyond counted h = h
beyond-all (Stream BadEnd) left size part rest beyond counted h = (omega (arith, length-append part rest, counted, h.0), h.1)

pub breaks_rest : (telling : Telling) (header id : List ℕ) (said : Header) (a b c x y : StreamState) (answer : Bool × ℕ) (fault : Fault)
    → id ≡ id_of header → read_header header ≡ Ok said
    → JudgesAll telling id said (flow (change a b) (change x y)) answer → StopsInRest answer.1 (change b c) fault
    → BreaksObject telling header (flow (change a c) (change x y)) fault
breaks_rest telling header id said a b c x y answer fault is says h stops = record {
  broken = record {
    said = said;
    says = says;
    part = h.part ++ stops.rest;
    beyond = stops.beyond;
    lines = h.lines;
    within = omega (arith, length-append h.part stops.rest, h.counted, stops.within);
    is_beyond = beyond-all fault answer.1 said.size h.part stops.rest stops.beyond h.counted stops.is_beyond;
    stops = inr (λ more fits. ap (lines_of said.kind) (append_assoc h.part stops.rest more)
        ∙ h.settled (stops.rest ++ more) (ap length (sym (append_assoc h.part stops.rest more)) ∙ fits));
  };
  given = subst (Gives a c) (sym (append_assoc h.part stops.rest stops.beyond))
      (Gives-more a b c h.part (stops.rest ++ stops.beyond) h.given stops.given);
  wrote = subst (λ (i : List ℕ). Wrote (change x y) (lines_due telling i said.kind h.lines) fault) is
      (Wrote-all (change x y) (lines_due telling id said.kind h.lines) fault stops.of_input h.wrote);
  cause = stops.cause;
}

-- ---- a stream

pub fresh : (known : Option (List ℕ)) (unread : List ℕ) → unread ≡ [] → Consumes known (prepend_known unread known) []
fresh None unread e = tt
fresh (Some xs) unread e = sym (ap (λ (ys : List ℕ). ys ++ xs) e)

-- what is read ahead of what was looked at
pub ahead : (first known : Option (List ℕ)) (read unread : List ℕ) → Consumes first (prepend_known unread known) read
    → Consumes first known (read ++ unread)
ahead None known read unread h = tt
ahead (Some xs) None read unread h = absurd h
ahead (Some xs) (Some ys) read unread h = h ∙ sym (append_assoc read unread ys)

-- nothing is, where the input is over
pub none-ahead : (first known : Option (List ℕ)) (read unread : List ℕ) → Consumes first (prepend_known unread known) read
    → IsAtEnd (prepend_known unread known) → Consumes first known read
none-ahead None known read unread h end = tt
none-ahead (Some xs) None read unread h end = absurd h
none-ahead (Some xs) (Some ys) read unread h end =
    h ∙ ap (λ (zs : List ℕ). read ++ zs) (end ∙ sym (last-part unread ys end))
  where
    last-part : (us vs : List ℕ) → us ++ vs ≡ [] → vs ≡ []
    last-part [] vs e = e
    last-part (u ∷ us) vs e = cc

pub source-over : (known : Option (List ℕ)) (unread : List ℕ) → IsAtEnd (prepend_known unread known) → IsAtEnd known
source-over None unread end = tt
source-over (Some ys) [] end = end
source-over (Some ys) (u ∷ us) end = cc

-- an input of which this is unread
abbrev pub at : List ℕ → StreamState → StreamState
at unread source = record { bytes = prepend_known unread source.bytes; fault = source.fault }

-- what a fault says of the input holds of the source
pub source-causes : (source : StreamState) (unread : List ℕ) (fault : Fault) → Causes (at unread source) fault → Causes source fault
source-causes source unread (Tool (errors.Read kind)) h = h
source-causes source unread (Tool (errors.Write kind)) h = tt
source-causes source unread (Tool errors.Memory) h = tt
source-causes source unread (Tool errors.LineTooLong) h = tt
source-causes source unread (Tool errors.TooManyLines) h = tt
source-causes source unread (Stream EarlyEnd) h = (source-over source.bytes unread h.0, h.1)
source-causes source unread (Refused why) h = tt
source-causes source unread (Stream BadEnd) h = tt
source-causes source unread (Stream TooMany) h = tt

and-true : (b : Bool) → (b && true) ≡ b
and-true true = refl
and-true false = refl

-- one more object was judged
pub next-object : (telling : Telling) (a b c d x y z : StreamState) (header : List ℕ) (clean one : Bool) (count : ℕ)
    → ObjectsSoFar telling (flow (change a b) (change x y)) clean count → ReadsLine MAX_LINE_LEN b c header (Ok Newline)
    → JudgesWhole telling header (flow (change c d) (change y z)) one
    → ObjectsSoFar telling (flow (change a d) (change x z)) (clean && one) (count + 1)
next-object telling a b c d x y z header clean one count far read h =
    let object : Object = record { header = header; kind = h.kind; contents = h.contents } in
    let due = object_due telling object in
    record {
      objects = far.objects ++ object ∷ [];
      each = All-append IsObject far.objects (object ∷ []) far.each
          (All-cons IsObject object [] (record { is_line = read.is_line; says = h.says }) (All-nil IsObject));
      given = subst (Gives a d)
          (sym (flat_map-append object_text far.objects (object ∷ [])
          ∙ ap (λ (xs : List ℕ). stream_text far.objects ++ xs) (append-nil (object_text object))))
          (Gives-more a b d (stream_text far.objects) (object_text object) far.given
          (Gives-more b c d (with_newline header) (with_newline h.contents) read.ends.0 h.given));
      wrote = subst (Takes x z)
          (sym (flat_map-append (object_due telling) far.objects (object ∷ [])
          ∙ ap (λ (xs : List ℕ). objects_due telling far.objects ++ xs) (append-nil due)))
          (Takes-more x y z (objects_due telling far.objects) due far.wrote h.wrote);
      clean_is = ap₂ (λ (p q : Bool). p && q) far.clean_is h.clean_is
          ∙ sym (list_all-append is_clean_object far.objects (object ∷ [])
          ∙ ap (λ (q : Bool). list_all is_clean_object far.objects && q) (and-true (is_clean_object object)));
      counted = length-append far.objects (object ∷ []) ∙ ap (λ (n : ℕ). n + 1) far.counted;
    }

-- a fault came after some objects, of which this was read and this was due
stops-after : (telling : Telling) (a b source x y z : StreamState) (unread front due : List ℕ) (clean : Bool) (count : ℕ) (fault : Fault)
    → (far : ObjectsSoFar telling (flow (change a b) (change x y)) clean count) → Gives b (at unread source) front
    → InHeader front due fault (length far.objects) ⊎ (AtHeader front due fault ⊎ AfterHeader telling front due fault)
    → Wrote (change y z) due fault → Causes (at unread source) fault
    → StopsAfterObjects telling (flow (change a source) (change x z)) fault
stops-after telling a b source x y z unread front due clean count fault far given stops wrote cause = record {
  objects = far.objects;
  each = far.each;
  front = front;
  due = due;
  ahead = unread;
  given = ahead a.bytes source.bytes (stream_text far.objects ++ front) unread
      (Gives-more a b (at unread source) (stream_text far.objects) front far.given given);
  stops = stops;
  wrote = Wrote-more x y z (objects_due telling far.objects) due fault far.wrote wrote;
  cause = source-causes source unread fault cause;
}

-- where a header may begin
pub stops-header : (telling : Telling) (a b source x y : StreamState) (unread front : List ℕ) (clean : Bool) (count : ℕ) (fault : Fault)
    → ObjectsSoFar telling (flow (change a b) (change x y)) clean count → Gives b (at unread source) front → IsLine front
    → StopsHeader fault front count → IsOfInput fault
    → Causes (at unread source) fault → StopsAfterObjects telling (flow (change a source) (change x y)) fault
stops-header telling a b source x y unread front clean count fault far given is_line stops of_input cause =
    stops-after telling a b source x y y unread front [] clean count fault far given
    (inl (record { is_line = is_line; stops = subst (StopsHeader fault front) (sym far.counted) stops; none_due = refl }))
    (Wrote-all (change y y) [] fault of_input (Appends-nil y.bytes)) cause

pub stops-reading-header : (telling : Telling) (a b source x y : StreamState) (unread front : List ℕ) (clean : Bool) (count : ℕ)
    (fault : ToolError)
    → ObjectsSoFar telling (flow (change a b) (change x y)) clean count → ReadsLine MAX_LINE_LEN b (at unread source) front (Err fault)
    → StopsAfterObjects telling (flow (change a source) (change x y)) (Tool fault)
stops-reading-header telling a b source x y unread front clean count errors.Memory far read = search (rules, stops-header)
stops-reading-header telling a b source x y unread front clean count (errors.Read kind) far read = search (rules, stops-header)
stops-reading-header telling a b source x y unread front clean count (errors.Write kind) far read = absurd read.ends
stops-reading-header telling a b source x y unread front clean count errors.LineTooLong far read = absurd read.ends
stops-reading-header telling a b source x y unread front clean count errors.TooManyLines far read = absurd read.ends

-- too many objects
pub stops-full : (telling : Telling) (a source x y : StreamState) (unread : List ℕ) (clean : Bool) (count : ℕ)
    → ObjectsSoFar telling (flow (change a (at unread source)) (change x y)) clean count → count ≡ MAX_OBJECTS
    → StopsAfterObjects telling (flow (change a source) (change x y)) (Stream TooMany)
stops-full telling a source x y unread clean count far full =
    stops-header telling a (at unread source) source x y unread [] clean count (Stream TooMany) far
    (Consumes-nil (prepend_known unread source.bytes)) (All-nil (λ b. b ≢ newline)) (refl, full) tt tt

-- an object whose header was read is broken, or its header is none
pub stops-object : (telling : Telling) (a b c source x y z : StreamState) (unread header : List ℕ) (clean : Bool) (count : ℕ)
    (fault : Fault)
    → ObjectsSoFar telling (flow (change a b) (change x y)) clean count → ReadsLine MAX_LINE_LEN b c header (Ok Newline)
    → JudgesObject telling header (flow (change c (at unread source)) (change y z)) (Err fault)
    → StopsAfterObjects telling (flow (change a source) (change x z)) fault
stops-object telling a b c source x y z unread header clean count fault far read (inl h) =
    subst (λ (w : StreamState). StopsAfterObjects telling (flow (change a source) (change x w)) fault) (sym h.unwritten)
    (subst (λ (f : Fault). StopsAfterObjects telling (flow (change a source) (change x y)) f) (sym h.is)
    (stops-after telling a b source x y y unread (with_newline header) [] clean count (Refused h.why) far
    (subst (λ (s : StreamState). Gives b s (with_newline header)) (sym h.unread) read.ends.0)
    (inr (inl (record
    { header = header; is_line = read.is_line; front_is = refl; why = h.why; fault_is = refl; says = h.says; none_due = refl })))
    (Appends-nil y.bytes) tt))
stops-object telling a b c source x y z unread header clean count fault far read (inr h) =
    stops-after telling a b source x y z unread (with_newline header ++ (h.broken.part ++ h.broken.beyond)) (broken_due telling h.broken)
    clean count fault far
    (Gives-more b c (at unread source) (with_newline header) (h.broken.part ++ h.broken.beyond) read.ends.0 h.given)
    (inr (inr (record { header = header; is_line = read.is_line; broken = h.broken; front_is = refl; due_is = refl }))) h.wrote h.cause
