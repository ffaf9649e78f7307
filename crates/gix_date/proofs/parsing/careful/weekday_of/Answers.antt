use Rattle.std.proofs.Common.{rules, ◌≡◌, ◌∙◌, ap, ap₂, ℤ, pos, ◌+ℤ◌, unsigned_abs, FitsSigned, w64, w32}
use Rattle.std.proofs.lemmas.Int.{to_z-of_z}
use Rattle.std.specs.Int.{int_div_euclid, int_rem_euclid, w128}
use Rattle.jiff_core.specs.Calendar.{weekday_number}
use Rattle.gix_date.specs.Printing.LocalClocks.{local_day}
use Rattle.gix_date.proofs.parsing.careful.weekday_of.Goals as goal

pub returns : goal.returns
unfolding weekday_number
returns c =
    let t = c.args.time in
    let seconds_fits : FitsSigned w64 t.seconds = search rules in
    let offset_fits : FitsSigned w32 t.offset = search rules in
    let s = simp to_z-of_z at c.from.ensures in
    let o = simp to_z-of_z at c.from-2.ensures in
    let first_fits : FitsSigned w128 c.from.result = search rules in
    let second_fits : FitsSigned w128 c.from-2.result = search rules in
    let sum_fits : FitsSigned w128 (c.from.result +ℤ c.from-2.result) = search rules in
    let whole_fits : FitsSigned w128 c.from-3.result = search rules in
    let day_fits : FitsSigned w128 c.div_euclid-day.result = search rules in
    let div = simp to_z-of_z at c.div_euclid-day.ensures in
    let sum : c.from.result +ℤ c.from-2.result ≡ t.seconds +ℤ t.offset = ap₂ (λ (a b : ℤ). a +ℤ b) s o in
    let day : c.div_euclid-day.result ≡ local_day t = div ∙ ap₂ int_div_euclid sum c.from-3.ensures in
    let next_fits : FitsSigned w128 (c.div_euclid-day.result +ℤ pos 3) = search rules in
    let rem_fits : FitsSigned w128 c.rem_euclid.result = search rules in
    let rem = simp to_z-of_z at c.rem_euclid.ensures.value in
    simp to_z-of_z (ap unsigned_abs (rem ∙ ap (λ (n : ℤ). int_rem_euclid (n +ℤ pos 3) (pos 7)) day))
