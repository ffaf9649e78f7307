-- The objects of a stream judged, one after the other.
use Rattle.std.specs.Prelude.{◌≡◌, ◌≢◌, ◌⊎◌, ◌<◌, ◌≤◌, ℕ, ◌+◌, Bool, List, [], ◌∷◌, ◌++◌, length, All, Some, Result, Ok, Err}
use Rattle.std.specs.List.{before_first, flat_map, list_all}
use Rattle.gix_date.specs.Devices.StreamState.{StreamState, Gives, Takes, TakesProperPrefix}
use Rattle.gix_date.specs.Text.Characters.{is_space, newline}
use Rattle.streams.specs.Lines.{IsLine, with_newline}
use Rattle.streams.specs.Changes.{Change}
use Rattle.streams.specs.declared.error.ToolError.TheVariants as errors
use Rattle.streams.specs.declared.lines.TheConstants.{MAX_LINE_LEN}
use Rattle.git_ident_tool.specs.Cursor.{IsOver}
use Rattle.gix_signature.specs.Objects.{own_header}
use Rattle.git_ident_tool.specs.Objects.{Object, IsObject, lines_of, read_header, stream_text}
use Rattle.git_ident_tool.specs.Verdicts.{line_due, is_clean_in}
use Rattle.git_ident_tool.specs.declared.error.Fault.{Fault}
use Rattle.git_ident_tool.specs.declared.error.Fault.TheVariants.{Tool, Refused, Stream}
use Rattle.git_ident_tool.specs.declared.error.HeaderFault.{HeaderFault}
use Rattle.git_ident_tool.specs.declared.error.HeaderFault.TheVariants.{BadHeader}
use Rattle.git_ident_tool.specs.declared.error.StreamFault.TheVariants.{BadEnd, EarlyEnd, TooMany}
use Rattle.git_ident_tool.specs.declared.judging.TheConstants.{MAX_OBJECTS}
use Rattle.git_ident_tool.specs.declared.verdicts.Telling.{Telling}
use Rattle.git_ident_tool.specs.declared.header.Header.{Header}
use Rattle.git_ident_tool.specs.declared.header.Kind.{Kind}

-- what is done with an input and an output
pub record Flow : Type 0 where
  pub reading : Change
  pub writing : Change

-- what was read and what was written
abbrev pub flow : Change → Change → Flow
flow reading writing = record { reading = reading; writing = writing }

-- what is due for lines of an object's header
abbrev pub lines_due : Telling → List ℕ → Kind → List (List ℕ) → List ℕ
lines_due telling id kind lines = flat_map (line_due telling id kind) lines

-- all of them are clean
abbrev pub are_clean : Kind → List (List ℕ) → Bool
are_clean kind lines = list_all (is_clean_in kind) lines

-- the id of an object, by its header
abbrev pub id_of : List ℕ → List ℕ
id_of header = before_first is_space header

-- what is due for an object
abbrev pub object_due : Telling → Object → List ℕ
object_due telling object = lines_due telling (id_of object.header) object.kind (lines_of object.kind object.contents)

-- what is due for objects
abbrev pub objects_due : Telling → List Object → List ℕ
objects_due telling objects = flat_map (object_due telling) objects

-- all identity lines of an object are clean
abbrev pub is_clean_object : Object → Bool
is_clean_object object = are_clean object.kind (lines_of object.kind object.contents)

-- all that is due was written, or the writer refused, and a proper prefix was
abbrev pub Wrote : Change → List ℕ → Fault → Type 0
Wrote writing due (Tool (errors.Write kind)) = TakesProperPrefix writing.old writing.new due × (writing.new.fault ≡ Some kind)
Wrote writing due _ = Takes writing.old writing.new due

-- what a fault says of the input as it is left
abbrev pub Causes : StreamState → Fault → Type 0
Causes input (Tool (errors.Read kind)) = input.fault ≡ Some kind
Causes input (Stream EarlyEnd) = IsOver input
Causes input _ = Unit {0}

-- a line with a byte
abbrev pub IsFilledLine : List ℕ → Type 0
IsFilledLine line = IsLine line × (0 < length line)

-- contents that begin with these lines, and go on with this
pub record BeginsWith (contents : List ℕ) (lines : List (List ℕ)) (rest : List ℕ) : Type 0 where
  pub whole : contents ≡ flat_map with_newline lines ++ rest
  pub each : All IsFilledLine lines

-- A fault came within the lines of a header, of which this part was read: the lines that had ended were judged.
abbrev pub StopsWithin : Fault → List ℕ → List (List ℕ) → Type 0
StopsWithin (Tool errors.Memory) part lines = (rest : List ℕ) × BeginsWith part lines rest
StopsWithin (Tool (errors.Read kind)) part lines = (rest : List ℕ) × IsLine rest × BeginsWith part lines rest
StopsWithin (Tool (errors.Write kind)) part lines = own_header part ≡ lines
StopsWithin (Stream EarlyEnd) part lines = (rest : List ℕ) × IsLine rest × BeginsWith part lines rest
StopsWithin _ part lines = ⊥

-- Whatever stands after this part of an object's contents, these are the lines that are looked at.
abbrev pub Settles : Header → List ℕ → List (List ℕ) → Type 0
Settles said part lines = (beyond : List ℕ) → length (part ++ beyond) ≡ said.size → lines_of said.kind (part ++ beyond) ≡ lines

-- the lines of an object were judged, and so many bytes of its contents are left
pub record JudgesAll (telling : Telling) (id : List ℕ) (said : Header) (f : Flow) (answer : Bool × ℕ) : Type 0 where
  pub part : List ℕ
  pub lines : List (List ℕ)
  pub given : Gives f.reading.old f.reading.new part
  pub counted : length part + answer.1 ≡ said.size
  pub settled : Settles said part lines
  pub wrote : Takes f.writing.old f.writing.new (lines_due telling id said.kind lines)
  pub clean : answer.0 ≡ are_clean said.kind lines

-- a fault came before
pub record JudgesPart (telling : Telling) (id : List ℕ) (said : Header) (f : Flow) (fault : Fault) : Type 0 where
  pub part : List ℕ
  pub lines : List (List ℕ)
  pub given : Gives f.reading.old f.reading.new part
  pub within : length part ≤ said.size
  pub stops : StopsWithin fault part lines
  pub wrote : Wrote f.writing (lines_due telling id said.kind lines) fault
  pub cause : Causes f.reading.new fault

abbrev pub JudgesHeader : Telling → List ℕ → Header → Flow → Result (Bool × ℕ) Fault → Type 0
JudgesHeader telling id said f (Ok answer) = JudgesAll telling id said f answer
JudgesHeader telling id said f (Err fault) = JudgesPart telling id said f fault

-- What was read beyond an object's contents, of which so many bytes were left: where that is the fault, a byte that is no newline.
abbrev pub IsBeyond : Fault → ℕ → List ℕ → List ℕ → Type 0
IsBeyond (Stream BadEnd) left rest beyond = (length rest ≡ left) × ((b : ℕ) × (b ≢ newline) × (beyond ≡ b ∷ []))
IsBeyond _ left rest beyond = beyond ≡ []

-- no writer refused
abbrev pub IsOfInput : Fault → Type 0
IsOfInput (Tool (errors.Write kind)) = ⊥
IsOfInput _ = Unit {0}

-- the rest of an object's contents was skipped, and the newline after it
pub record SkipsRest (left : ℕ) (reading : Change) : Type 0 where
  pub rest : List ℕ
  pub given : Gives reading.old reading.new (with_newline rest)
  pub all : length rest ≡ left

-- a fault came before
pub record StopsInRest (left : ℕ) (reading : Change) (fault : Fault) : Type 0 where
  pub rest : List ℕ
  pub beyond : List ℕ
  pub given : Gives reading.old reading.new (rest ++ beyond)
  pub within : length rest ≤ left
  pub is_beyond : IsBeyond fault left rest beyond
  pub of_input : IsOfInput fault
  pub cause : Causes reading.new fault

-- what skipping the rest of an object comes to, of whose contents so many bytes are left
abbrev pub EndsObject : ℕ → Change → Result (Unit {0}) Fault → Type 0
EndsObject left reading (Ok _) = SkipsRest left reading
EndsObject left reading (Err fault) = StopsInRest left reading fault

-- A fault came after this header: this part of the contents was read, and these lines in it were judged.
pub record Broken (header : List ℕ) (fault : Fault) : Type 0 where
  pub said : Header
  pub says : read_header header ≡ Ok said
  pub part : List ℕ
  pub beyond : List ℕ
  pub lines : List (List ℕ)
  pub within : length part ≤ said.size
  pub is_beyond : IsBeyond fault said.size part beyond
  pub stops : StopsWithin fault part lines ⊎ Settles said part lines

-- what was due there
abbrev pub broken_due : {header : List ℕ} {fault : Fault} → Telling → Broken header fault → List ℕ
broken_due {header = header} telling broken = lines_due telling (id_of header) broken.said.kind broken.lines

-- an object was judged, of which this is the header
pub record JudgesWhole (telling : Telling) (header : List ℕ) (f : Flow) (clean : Bool) : Type 0 where
  pub kind : Kind
  pub contents : List ℕ
  pub says : read_header header ≡ Ok (record { kind = kind; size = length contents })
  pub given : Gives f.reading.old f.reading.new (with_newline contents)
  pub wrote : Takes f.writing.old f.writing.new (lines_due telling (id_of header) kind (lines_of kind contents))
  pub clean_is : clean ≡ are_clean kind (lines_of kind contents)

-- the header is none: nothing was read or written
pub record RefusesHeader (header : List ℕ) (f : Flow) (fault : Fault) : Type 0 where
  pub why : HeaderFault
  pub is : fault ≡ Refused why
  pub says : read_header header ≡ Err why
  pub unread : f.reading.new ≡ f.reading.old
  pub unwritten : f.writing.new ≡ f.writing.old

-- a fault came after the header
pub record BreaksObject (telling : Telling) (header : List ℕ) (f : Flow) (fault : Fault) : Type 0 where
  pub broken : Broken header fault
  pub given : Gives f.reading.old f.reading.new (broken.part ++ broken.beyond)
  pub wrote : Wrote f.writing (broken_due telling broken) fault
  pub cause : Causes f.reading.new fault

-- what judging an object comes to, of which the header was read
abbrev pub JudgesObject : Telling → List ℕ → Flow → Result Bool Fault → Type 0
JudgesObject telling header f (Ok clean) = JudgesWhole telling header f clean
JudgesObject telling header f (Err fault) = RefusesHeader header f fault ⊎ BreaksObject telling header f fault

-- all objects of a stream were judged, to the end of the input
pub record JudgesAllObjects (telling : Telling) (f : Flow) (clean : Bool) : Type 0 where
  pub objects : List Object
  pub each : All IsObject objects
  pub given : Gives f.reading.old f.reading.new (stream_text objects)
  pub over : IsOver f.reading.new
  pub wrote : Takes f.writing.old f.writing.new (objects_due telling objects)
  pub clean_is : clean ≡ list_all is_clean_object objects

-- what ends a stream where a header may begin, of which this front was read, after so many objects
abbrev pub StopsHeader : Fault → List ℕ → ℕ → Type 0
StopsHeader (Tool errors.Memory) front count = Unit {0}
StopsHeader (Tool (errors.Read kind)) front count = Unit {0}
StopsHeader (Refused BadHeader) front count = length front ≡ MAX_LINE_LEN
StopsHeader (Stream EarlyEnd) front count = 0 < length front
StopsHeader (Stream TooMany) front count = (front ≡ []) × (count ≡ MAX_OBJECTS)
StopsHeader _ front count = ⊥

-- the stream stops before a header's newline
pub record InHeader (front due : List ℕ) (fault : Fault) (count : ℕ) : Type 0 where
  pub is_line : IsLine front
  pub stops : StopsHeader fault front count
  pub none_due : due ≡ []

-- it stops at a header that is none
pub record AtHeader (front due : List ℕ) (fault : Fault) : Type 0 where
  pub header : List ℕ
  pub is_line : IsLine header
  pub front_is : front ≡ with_newline header
  pub why : HeaderFault
  pub fault_is : fault ≡ Refused why
  pub says : read_header header ≡ Err why
  pub none_due : due ≡ []

-- it stops after a header
pub record AfterHeader (telling : Telling) (front due : List ℕ) (fault : Fault) : Type 0 where
  pub header : List ℕ
  pub is_line : IsLine header
  pub broken : Broken header fault
  pub front_is : front ≡ with_newline header ++ (broken.part ++ broken.beyond)
  pub due_is : due ≡ broken_due telling broken

-- Some objects were judged, and then a fault came in the next: of that this front was read, and this was due. What was read ahead is not
-- looked at.
pub record StopsAfterObjects (telling : Telling) (f : Flow) (fault : Fault) : Type 0 where
  pub objects : List Object
  pub each : All IsObject objects
  pub front : List ℕ
  pub due : List ℕ
  pub ahead : List ℕ
  pub given : Gives f.reading.old f.reading.new ((stream_text objects ++ front) ++ ahead)
  pub stops : InHeader front due fault (length objects) ⊎ (AtHeader front due fault ⊎ AfterHeader telling front due fault)
  pub wrote : Wrote f.writing (objects_due telling objects ++ due) fault
  pub cause : Causes f.reading.new fault

-- what judging the objects of a stream comes to
abbrev pub JudgesStream : Telling → Flow → Result Bool Fault → Type 0
JudgesStream telling f (Ok clean) = JudgesAllObjects telling f clean
JudgesStream telling f (Err fault) = StopsAfterObjects telling f fault
