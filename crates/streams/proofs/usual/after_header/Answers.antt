use Rattle.std.proofs.Common.{◌≡◌, ◌∙◌, ◌-◌, ◌++◌, length, take, drop, sym, ap, subst, arith}
use Rattle.std.proofs.lemmas.List.{take_all, length-drop}
use Rattle.streams.specs.Usual.{HasHeaderInFront}
use Rattle.streams.proofs.HeaderLines.{six, header-in_front}
use Rattle.streams.proofs.usual.after_header.Goals as goal

pub returns-in-len6-up : goal.returns-in-len6-up
returns-in-len6-up c =
    let bytes = c.args.bytes.now in
    let seconds = c.in_ok-rest.field-0-0.now in
    let rest = c.in_ok-rest.rest.now in
    let cut = c.in_ok-rest.ensures in
    let whole : take (length rest - 6) (drop 6 rest) ≡ drop 6 rest =
    take_all (length rest - 6) (drop 6 rest) (omega (arith, length-drop 6 rest)) in
    subst (HasHeaderInFront bytes) (sym whole)
    (header-in_front bytes seconds (drop 6 rest) _ _ _ _ _ _ (cut.0 ∙ ap (λ xs. seconds ++ xs) (six rest c.in-len6-up.len_at_least))
    cut.1 cut.2 (sym c.is_usual_offset.ensures ∙ c.if-is_usual_offset.true))
