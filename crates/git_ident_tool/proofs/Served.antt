-- The lines of an input judged by a server.
use Rattle.std.proofs.Common.{◌≡◌, ◌∙◌, ◌&&◌, ℕ, List, [], ◌∷◌, ap, refl, sym, subst, append-nil, true, Ok, Err, Result}
use Rattle.std.specs.List.{list_all}
use Rattle.gix_date.specs.Devices.StreamState.{StreamState, Takes, TakesProperPrefix}
use Rattle.streams.specs.Changes.{Change, change}
use Rattle.streams.specs.Serving.{Answer, Ran, Service, answer_of, service}
use Rattle.streams.specs.declared.error.ToolError.{ToolError}
use Rattle.streams.specs.declared.error.ToolError.TheVariants as errors
use Rattle.streams.specs.declared.serving.Stop.{Stop}
use Rattle.streams.proofs.Sending.{Appends-nil}
use Rattle.git_ident_tool.specs.Judging.{flow}
use Rattle.git_ident_tool.specs.Lines.{BreaksAt, JudgesLines, JudgesTexts, JudgesTo, fault_in}
use Rattle.git_ident_tool.specs.Verdicts.{Tells, is_clean, text_due}
use Rattle.git_ident_tool.specs.declared.error.Fault.{Fault}
use Rattle.git_ident_tool.specs.declared.judging.Judge.{Judge}
use Rattle.git_ident_tool.specs.declared.judging.Judging.{Judging}
use Rattle.git_ident_tool.specs.declared.judging.TheConstants.{MAX_OBJECTS}
use Rattle.git_ident_tool.specs.declared.verdicts.Telling.{Telling}

-- telling of the one line had a fault
pub breaks_one : (telling : Telling) (text : List ℕ) (old new : StreamState) (fault : ToolError)
    → Tells (text_due telling text) true (change old new) (Err fault)
    → BreaksAt telling (change old new) (text ∷ []) fault
breaks_one telling text old new (errors.Write kind) h =
    (subst (TakesProperPrefix old new) (sym (append-nil (text_due telling text))) h.0, h.1)
breaks_one telling text old new errors.Memory h = ([], text, refl, subst (λ s. Takes old s []) (sym h) (Appends-nil old.bytes))
breaks_one telling text old new (errors.Read kind) h = absurd h
breaks_one telling text old new errors.LineTooLong h = absurd h
breaks_one telling text old new errors.TooManyLines h = absurd h

-- what was judged from the first line on
judged-from : (u v : Service Judging) (lines : List (List ℕ)) (answer : Answer) → u.server.clean ≡ true → JudgesTo u v lines answer
    → JudgesTexts u.server.judge.telling (change u.out v.out) v.server.clean lines answer
judged-from u v lines (Ok t) fresh h = (h.0, ap (λ (s : Judging). s.clean) h.1 ∙ ap (λ b. b && list_all is_clean lines) fresh)
judged-from u v lines (Err fault) fresh h = h

ran-from : (u v : Service Judging) (most : ℕ) (reading : Change) (ended : Result ℕ Stop) → u.server.clean ≡ true
    → Ran (JudgesTo u v) (Unit {0}) most reading ended
    → Ran (JudgesTexts u.server.judge.telling (change u.out v.out) v.server.clean) (Unit {0}) most reading ended
ran-from u v most reading ended fresh h = record {
  reached = h.reached;
  read = h.read;
  ends = h.ends;
  served = judged-from u v h.reached.due (answer_of ended) fresh h.served;
  settled = h.settled;
}

pub lines_judged : (judge : Judge) (last : Judging) (x y m n : StreamState) (reading : Change) (ended : Result ℕ Stop) (count : ℕ)
    → Ran (JudgesTo (service (record { judge = judge; clean = true }) x m) (service last y n)) (Unit {0}) MAX_OBJECTS reading ended
    → ended ≡ Ok count → JudgesLines judge.telling (flow reading (change x y)) (Ok last.clean)
unfolding JudgesLines
lines_judged judge last x y m n reading ended count ran e =
    let first : Judging = record { judge = judge; clean = true } in
    (Ok count, last.clean, rw e at (ran-from (service first x m) (service last y n) _ _ _ refl ran), refl)

pub lines_stopped : (judge : Judge) (last : Judging) (x y m n : StreamState) (reading : Change) (ended : Result ℕ Stop) (stop : Stop)
    (fault : Fault)
    → Ran (JudgesTo (service (record { judge = judge; clean = true }) x m) (service last y n)) (Unit {0}) MAX_OBJECTS reading ended
    → ended ≡ Err stop → fault ≡ fault_in stop → JudgesLines judge.telling (flow reading (change x y)) (Err fault)
unfolding JudgesLines
lines_stopped judge last x y m n reading ended stop fault ran e f =
    let first : Judging = record { judge = judge; clean = true } in
    (Err stop, last.clean, rw e at (ran-from (service first x m) (service last y n) _ _ _ refl ran), ap Err f)
