use Rattle.std.proofs.Common.{rules, ◌≡◌, Bool, true, false, cond, Option, Some, None, IfSome, FitsSigned, w64}
use Rattle.std.proofs.lemmas.Int.{to_z-of_z}
use Rattle.gix_date.specs.Families.Answer.{Absolute, FamilyAnswer}
use Rattle.gix_date.specs.Families.Raw.{allows}
use Rattle.gix_date.specs.declared.time.Time.{Time}
use Rattle.gix_date.proofs.Families.Exclusive.{raw-first-family}
use Rattle.gix_date.proofs.Families.Shapes.{number-first}
use Rattle.gix_date.proofs.parsing.usual.usual_date.Goals as goal

-- where a condition decides both a time and what is first, that time is first
time-first : (b : Bool) (t : Time) (time : Option Time) (first : Option FamilyAnswer) → time ≡ cond b (Some t) None
    → first ≡ cond b (Some (Absolute t)) None
    → IfSome time (λ t. first ≡ Some (Absolute t))
time-first true t time first e f = rw e f
time-first false t time first e f = rw e tt

pub returns-in-Some-clause-first : goal.returns-in-Some-clause-first
returns-in-Some-clause-first c = raw-first-family (allows c.args.raw) c.args.input.now _ c.utf8.input c.in-Some.ensures.time

pub returns-in-Some-fast_number-clause-first : goal.returns-in-Some-fast_number-clause-first
returns-in-Some-fast_number-clause-first c =
    let seconds = c.in-Some-fast_number.seconds in
    let fits : FitsSigned w64 seconds = search rules in
    let said = simp to_z-of_z at c.epoch_time.ensures.time in
    time-first _ _ _ _ said (number-first (allows c.args.raw) c.args.input.now seconds c.utf8.input c.in-Some-fast_number.ensures)
