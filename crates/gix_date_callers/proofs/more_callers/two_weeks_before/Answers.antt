use Rattle.std.proofs.Common.{◌≡◌, pos, ℤ, List, [], ◌∷◌, Some, refl}
use Rattle.std.specs.Prelude.{codes}
use Rattle.gix_date.specs.Computing.{computing}
use Rattle.gix_date.specs.Families.Answer.{Relative}
use Rattle.gix_date.specs.Families.Order.{first_family}
use Rattle.gix_date.specs.Relative.FixedZones.{less_seconds}
use Rattle.gix_date_callers.proofs.Outcomes.{before-is}
use Rattle.gix_date_callers.proofs.more_callers.two_weeks_before.Goals as goal

-- two weeks, as a count and a unit
abbrev two_weeks : List (ℤ × ℤ)
two_weeks = (pos 2, pos 604_800) ∷ []

-- which answer that text has: it computes
weeks-are : first_family (codes "2 weeks ago") ≡ Some (Relative (less_seconds two_weeks))
unfolding computing
weeks-are = refl

pub returns : goal.returns
returns c =
    let typed = c.date_typed.ensures.typed c.requires in
    (before-is (less_seconds two_weeks) (pos 1_209_600) (codes "2 weeks ago") c.args.time typed.0 c.date_typed.result weeks-are typed.1
    c.earlier.ensures.pairs typed.2).0
