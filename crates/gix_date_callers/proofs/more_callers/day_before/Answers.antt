use Rattle.std.proofs.Common.{◌≡◌, pos, Some, refl}
use Rattle.std.specs.Prelude.{codes}
use Rattle.gix_date.specs.Computing.{computing}
use Rattle.gix_date.specs.Families.Answer.{Relative}
use Rattle.gix_date.specs.Families.Order.{first_family}
use Rattle.gix_date.specs.Relative.Dates.{MinusSeconds}
use Rattle.gix_date_callers.proofs.Outcomes.{before-is}
use Rattle.gix_date_callers.proofs.more_callers.day_before.Goals as goal

-- which answer that text has: it computes
yesterday-is : first_family (codes "yesterday") ≡ Some (Relative (MinusSeconds (pos 86_400)))
unfolding computing
yesterday-is = refl

pub returns : goal.returns
returns c =
    let typed = c.date_typed.ensures.typed c.requires in
    let back = before-is (MinusSeconds (pos 86_400)) (pos 86_400) (codes "yesterday") c.args.time typed.0 c.date_typed.result yesterday-is
    typed.1 c.earlier.ensures.yesterday typed.2 in
    record { time = back.0; exists = back.1 }
