use Rattle.std.proofs.Common.{FitsSigned, w64}
use Rattle.std.proofs.lemmas.Int.{to_z-of_z}
use Rattle.jiff.specs.Words.{plain_zoned}
use Rattle.gix_date.proofs.Relative.Steps.{shows-local, months-step, months-back, months-none, at_same}
use Rattle.gix_date.proofs.parsing.relative.steps.subtract_months.Goals as goal

pub returns-in_err-date-clause-step : goal.returns-in_err-date-clause-step
returns-in_err-date-clause-step c =
    let fm : FitsSigned w64 c.args.months = c.ranges.months in
    let z = plain_zoned c.args.moment in
    let none = rw c.date.ensures at (simp to_z-of_z at c.in_err-date.ensures) in
    rw c.from_residual.ensures (λ j h. months-none z.time_zone c.args.months z.timestamp.nanosecond j z.datetime (shows-local z) none h)

pub returns-clause-step : goal.returns-clause-step
returns-clause-step c =
    let fm : FitsSigned w64 c.args.months = c.ranges.months in
    let z = plain_zoned c.args.moment in
    let before = rw c.date.ensures at (simp to_z-of_z at c.in_ok-date.ensures) in
    let picked = rw (c.time_zone.ensures, c.time.ensures) at c.to_instant.ensures.instant in
    at_same c.to_instant.result _ _
    (λ j h. months-step z.time_zone c.args.months z.timestamp.nanosecond j z.datetime c.in_ok-date.date (shows-local z) before h)
    (λ j h. months-back z.time_zone c.args.months z.timestamp.nanosecond j z.datetime c.in_ok-date.date (shows-local z) before h)
    picked
