use Rattle.std.proofs.Common.{◌≡◌, ◌∙◌, ℕ, Bool, true, false, refl, ap}
use mir.Val.{bool_byte}
use Rattle.std.proofs.Math.ListN.{set}
use Rattle.gix_date_c.specs.Git.Dates.{bool_for_c}
use Rattle.gix_date_c.proofs.Blocks.Steps.{Checking-all, Checking-next, Checking-none}
use Rattle.gix_date_c.proofs.lines.gix_date_check_lines.Goals as goal

byte-is : (b : Bool) → bool_byte b ≡ bool_for_c b
byte-is true = refl
byte-is false = refl

pub lines-init : goal.lines-init
lines-init c = Checking-none c.args.block.now c.args.canonical.now

pub lines-preserved : goal.lines-preserved
lines-preserved c =
    let checked = c.in-Some.ensures.1 in
    let put = ap (λ (cell : ℕ). set c.lines.canonical c.lines.done cell)
    (c.from.ensures ∙ byte-is c.in-Some.comes_back ∙ ap bool_for_c checked.is) in
    Checking-next c.args.block.now c.args.canonical.now c.lines.canonical _ c.lines.left.now checked.line c.in-Some.after.now
    c.lines.done
    c.lines.invariant c.in-Some.ensures.0 checked.cut put

pub returns : goal.returns
returns c = Checking-all c.args.block.now c.args.canonical.now c.lines.canonical c.lines.left.now c.lines.done c.lines.invariant
    c.in_default.ensures
