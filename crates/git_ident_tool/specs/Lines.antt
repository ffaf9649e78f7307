-- The lines of an input judged, which stand in no object.
use Rattle.std.specs.Prelude.{◌≡◌, ℕ, Bool, ◌&&◌, List, [], ◌∷◌, ◌++◌, Some, Result, Ok, Err}
use Rattle.std.specs.List.{flat_map, list_all}
use Rattle.gix_date.specs.Devices.StreamState.{Takes, TakesProperPrefix}
use Rattle.streams.specs.Changes.{Change, change}
use Rattle.streams.specs.Serving.{Answer, Ran, Service, fault_of}
use Rattle.streams.specs.declared.error.ToolError.{ToolError}
use Rattle.streams.specs.declared.error.ToolError.TheVariants as errors
use Rattle.streams.specs.declared.serving.Stop.{Stop}
use Rattle.streams.specs.declared.serving.Stop.TheVariants.{Reading}
use Rattle.git_ident_tool.specs.Judging.{Flow}
use Rattle.git_ident_tool.specs.Verdicts.{is_clean, text_due}
use Rattle.git_ident_tool.specs.declared.error.Fault.{Fault}
use Rattle.git_ident_tool.specs.declared.error.Fault.TheVariants.{Tool, Stream}
use Rattle.git_ident_tool.specs.declared.error.StreamFault.TheVariants.{TooMany}
use Rattle.git_ident_tool.specs.declared.judging.Judging.{Judging}
use Rattle.git_ident_tool.specs.declared.judging.TheConstants.{MAX_OBJECTS}
use Rattle.git_ident_tool.specs.declared.verdicts.Telling.{Telling}

-- what is due for lines
abbrev pub texts_due : Telling → List (List ℕ) → List ℕ
texts_due telling lines = flat_map (text_due telling) lines

-- A fault came at the last of some lines: the writer refused, and took a proper prefix of what is due; or without memory nothing was
-- written of that line.
abbrev pub BreaksAt : Telling → Change → List (List ℕ) → ToolError → Type 0
BreaksAt telling writing lines (errors.Write kind) =
    TakesProperPrefix writing.old writing.new (texts_due telling lines) × (writing.new.fault ≡ Some kind)
BreaksAt telling writing lines errors.Memory =
    (judged : List (List ℕ)) × (line : List ℕ) × (lines ≡ judged ++ line ∷ []) × Takes writing.old writing.new (texts_due telling judged)
BreaksAt telling writing lines _ = ⊥

-- what judging the lines that are due comes to, all of them clean or not
abbrev pub JudgesTexts : Telling → Change → Bool → List (List ℕ) → Answer → Type 0
JudgesTexts telling writing clean lines (Ok _) = Takes writing.old writing.new (texts_due telling lines) × (clean ≡ list_all is_clean lines)
JudgesTexts telling writing clean lines (Err fault) = BreaksAt telling writing lines fault

-- the fault of an end
abbrev pub fault_in : Stop → Fault
fault_in (Reading errors.TooManyLines) = Stream TooMany
fault_in stop = Tool (fault_of stop)

-- what that comes to, by the end of a run over lines
abbrev pub result_of : Bool → Result ℕ Stop → Result Bool Fault
result_of clean (Ok count) = Ok clean
result_of clean (Err stop) = Err (fault_in stop)

-- What judging the lines of an input comes to: those that are due were judged.
unfoldable pub JudgesLines : Telling → Flow → Result Bool Fault → Type 0
JudgesLines telling f result =
    (ended : Result ℕ Stop) × (clean : Bool) × Ran (JudgesTexts telling f.writing clean) (Unit {0}) MAX_OBJECTS f.reading ended
    × (result ≡ result_of clean ended)

-- what judging some lines comes to, after others
abbrev pub JudgesTo : Service Judging → Service Judging → List (List ℕ) → Answer → Type 0
JudgesTo old new lines (Ok _) =
    Takes old.out new.out (texts_due old.server.judge.telling lines)
    × (new.server ≡ record old.server { clean = old.server.clean && list_all is_clean lines })
JudgesTo old new lines (Err fault) = BreaksAt old.server.judge.telling (change old.out new.out) lines fault
