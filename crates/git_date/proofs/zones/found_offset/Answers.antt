use Rattle.std.proofs.Common.{rules, ◌≡◌, ◌∙◌, suc, ◌+◌, ◌-◌, ◌-ℤ◌, ℕ, ℤ, true, false, Some, refl, sym, subst, ap, arith, FitsSigned, w64}
use Rattle.std.proofs.Common.{w32}
use Rattle.std.proofs.lemmas.Bool.Decides.{Decides-int_eq}
use Rattle.std.proofs.lemmas.Int.{to_z-of_z}
use Rattle.jiff.specs.Words.{plain_zone}
use Rattle.jiff_core.proofs.SignedLemmas.{signed_arith}
use Rattle.gix_date.proofs.Fields.Instants.{instant_holds}
use Rattle.gix_date.specs.Fields.Zoned.{is_instant}
use Rattle.git_date.specs.Exact.Zones.{states_of, state_by, most_moves, is_back, by_flag, searched, found_offset}
use Rattle.git_date.specs.declared.zones.Trail.{Trail}
use Rattle.git_date.proofs.Exact.Searches.{leads, leads-nowhere, no-moves}
use Rattle.git_date.proofs.Exact.ZoneOffsets.{is-instant-there, same-bits, other-bits}
use Rattle.git_date.proofs.zones.found_offset.Goals.{After-state_at, In-Some}
use Rattle.git_date.proofs.zones.found_offset.Goals as goal

-- what the zone says there
said : (c : After-state_at) → c.state_at.result ≡ state_by (states_of (plain_zone c.args.zone)) c.args.asked.clock c.moves.trail.here
said c =
    let zone = states_of (plain_zone c.args.zone) in
    let clock = c.args.asked.clock in
    let fits : FitsSigned w64 clock = search rules in
    let here_fits : FitsSigned w32 c.moves.trail.here = search rules in
    let test : c.is_instant.result ≡ is_instant clock = simp to_z-of_z at c.is_instant.ensures in
    let within = instant_holds clock (sym test ∙ c.if-not-is_instant.false) in
    let from : c.from.result ≡ c.moves.trail.here = simp to_z-of_z at c.from.ensures in
    let from_fits : FitsSigned w64 c.from.result = search rules in
    let by_fits : FitsSigned w64 (clock -ℤ c.from.result) = omega (arith, signed_arith, within, here_fits, from) in
    let there : c.state_at.result ≡ zone (clock -ℤ c.from.result) = simp to_z-of_z at c.state_at.ensures.value in
    there ∙ ap (λ (offset : ℤ). zone (clock -ℤ offset)) from

-- the moves that are left come to what the whole search comes to
whole : (c : After-state_at)
    → searched (suc (most_moves - (c.moves._move + 1))) (states_of (plain_zone c.args.zone)) c.args.asked c.moves.trail
    ≡ found_offset (states_of (plain_zone c.args.zone)) c.args.asked c.args.guess
whole c =
    let zone = states_of (plain_zone c.args.zone) in
    let fits : FitsSigned w32 c.args.guess = search rules in
    let left : suc (most_moves - (c.moves._move + 1)) ≡ most_moves - c.moves._move = omega arith in
    let kept : searched (most_moves - c.moves._move) zone c.args.asked c.moves.trail ≡ found_offset zone c.args.asked c.args.guess =
    simp to_z-of_z at c.moves.invariant in
    ap (λ (n : ℕ). searched n zone c.args.asked c.moves.trail) left ∙ kept

pub returns-in_default-clause-value : goal.returns-in_default-clause-value
returns-in_default-clause-value c =
    let h = (goal.at.returns-in_default-clause-value c).After-state_at in
    leads-nowhere (states_of (plain_zone c.args.zone)) c.args.asked c.moves.trail (most_moves - (c.moves._move + 1))
    (sym c.in_default.is ∙ said h) ∙ whole h

pub by_flag-requires-clause-clock : goal.by_flag-requires-clause-clock
by_flag-requires-clause-clock c =
    let h = (goal.at.by_flag-requires-clause-clock c).After-state_at in
    let here = c.moves.trail.here in
    let there = c.in-Some.there in
    let here_fits : FitsSigned w32 here = search rules in
    let there_fits : FitsSigned w32 there.offset = search rules in
    let same : there.offset ≡ here =
    (Decides-int_eq there.offset here).0 (same-bits there.offset here there_fits here_fits c.if-there-trail.true) in
    subst (λ (offset : ℤ). is_instant (c.args.asked.clock -ℤ offset) ≡ true) (sym same)
    (is-instant-there (plain_zone c.args.zone) (c.args.asked.clock -ℤ here) there (sym c.in-Some.is ∙ said h))

pub returns-then-there-trail-clause-value : goal.returns-then-there-trail-clause-value
returns-then-there-trail-clause-value c =
    let h = (goal.at.returns-then-there-trail-clause-value c).After-state_at in
    let zone = states_of (plain_zone c.args.zone) in
    let here = c.moves.trail.here in
    let there = c.in-Some.there in
    let here_fits : FitsSigned w32 here = search rules in
    let there_fits : FitsSigned w32 there.offset = search rules in
    let same = same-bits there.offset here there_fits here_fits c.if-there-trail.true in
    let found : c.by_flag.result ≡ by_flag zone c.args.asked c.args.asked.daylight there = c.by_flag.ensures in
    let found_fits : FitsSigned w32 c.by_flag.result = search rules in
    simp to_z-of_z
    (ap Some found
    ∙ leads zone c.args.asked c.moves.trail (most_moves - (c.moves._move + 1)) there true
    (is_back c.moves.trail c.args.asked.daylight there.daylight) (sym c.in-Some.is ∙ said h) same refl
    ∙ whole h)

pub returns-then-is_back-clause-value : goal.returns-then-is_back-clause-value
returns-then-is_back-clause-value c =
    let h = (goal.at.returns-then-is_back-clause-value c).After-state_at in
    let here = c.moves.trail.here in
    let there = c.in-Some.there in
    let here_fits : FitsSigned w32 here = search rules in
    let there_fits : FitsSigned w32 there.offset = search rules in
    let other = other-bits there.offset here there_fits here_fits c.if-there-trail.false in
    simp to_z-of_z
    (leads (states_of (plain_zone c.args.zone)) c.args.asked c.moves.trail (most_moves - (c.moves._move + 1)) there false true
    (sym c.in-Some.is ∙ said h) other
    (sym c.is_back.ensures ∙ c.if-is_back.true)
    ∙ whole h)

pub moves-preserved : goal.moves-preserved
moves-preserved c =
    let h = (goal.at.moves-preserved c).After-state_at in
    let zone = states_of (plain_zone c.args.zone) in
    let here = c.moves.trail.here in
    let there = c.in-Some.there in
    let here_fits : FitsSigned w32 here = search rules in
    let there_fits : FitsSigned w32 there.offset = search rules in
    let guess_fits : FitsSigned w32 c.args.guess = search rules in
    let other = other-bits there.offset here there_fits here_fits c.if-there-trail.false in
    simp to_z-of_z
    (ap (λ (trail : Trail). searched (most_moves - (c.moves._move + 1)) zone c.args.asked trail) c.moved-trail.ensures
    ∙ leads zone c.args.asked c.moves.trail (most_moves - (c.moves._move + 1)) there false false (sym c.in-Some.is ∙ said h) other
    (sym c.is_back.ensures ∙ c.if-is_back.false)
    ∙ whole h)

pub returns-clause-value : goal.returns-clause-value
returns-clause-value c =
    let zone = states_of (plain_zone c.args.zone) in
    let fits : FitsSigned w32 c.args.guess = search rules in
    let ended : c.moves._move ≡ most_moves = omega arith in
    let kept : searched (most_moves - c.moves._move) zone c.args.asked c.moves.trail ≡ found_offset zone c.args.asked c.args.guess =
    simp to_z-of_z at c.moves.invariant in
    no-moves zone c.args.asked c.moves.trail ∙ ap (λ (n : ℕ). searched (most_moves - n) zone c.args.asked c.moves.trail) (sym ended) ∙ kept
