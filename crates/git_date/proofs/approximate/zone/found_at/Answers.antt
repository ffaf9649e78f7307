use Rattle.std.proofs.Common.{rules, ◌≡◌, ◌∙◌, ◌^◌, ◌-ℤ◌, ℤ, pos, neg_ℤ, true, Option, Some, ap, sym, subst, arith, FitsSigned, w64, w32}
use Rattle.std.proofs.lemmas.Int.{to_z-of_z}
use Rattle.jiff.specs.Words.{plain_zone}
use Rattle.jiff_core.proofs.SignedLemmas.{signed_arith}
use Rattle.jiff_core.specs.Calendar.{IsBetween}
use Rattle.gix_date.specs.Fields.Zoned.{is_instant}
use Rattle.git_date.specs.Exact.Zones.{states_of, before_leap, found_offset}
use Rattle.git_date.specs.declared.approximate.zone.Found.{Found}
use Rattle.git_date.proofs.Guesses.ZoneClocks.{found-near, found-there}
use Rattle.git_date.proofs.approximate.zone.found_at.Goals.{After-from}
use Rattle.git_date.proofs.approximate.zone.found_at.Goals as goal

-- the instant is near the clock
near : (c : After-from)
    → (c.from.result ≡ c.in_ok-guess.guess) × IsBetween (neg_ℤ (pos (10 ^ 15))) (pos (10 ^ 15)) (c.args.local -ℤ c.in_ok-guess.guess)
near c =
    let fits : FitsSigned w64 c.args.local = search rules in
    let asked : c.before_leap.result ≡ before_leap c.args.leap c.args.local = simp to_z-of_z at c.before_leap.ensures in
    let asked_fits : FitsSigned w64 c.before_leap.result = search rules in
    let guess_fits : FitsSigned w32 c.in_ok-guess.guess = search rules in
    let clock : is_instant c.before_leap.result ≡ true = simp to_z-of_z at c.in_ok-guess.ensures.clock in
    let from : c.from.result ≡ c.in_ok-guess.guess = simp to_z-of_z at c.from.ensures in
    (from, found-near c.args.leap c.args.local c.in_ok-guess.guess (subst (λ (s : ℤ). is_instant s ≡ true) asked clock) guess_fits)

left_fits : (c : After-from) → FitsSigned w64 (c.args.local -ℤ c.from.result)
left_fits c = let h = near c in omega (arith, signed_arith, h.0, h.1)

pub overflow_sub-result : goal.overflow_sub-result
overflow_sub-result c =
    let fits : FitsSigned w64 c.args.local = search rules in
    let from_fits : FitsSigned w64 c.from.result = search rules in
    simp to_z-of_z (left_fits (goal.at.overflow_sub-result c).After-from)

abbrev found_from : ℤ → ℤ → ℤ → Option Found
found_from local guess from = Some (record { instant = local -ℤ from; guess = guess })

pub returns-clause-value : goal.returns-clause-value
returns-clause-value c =
    let h = near (goal.at.returns-clause-value c).After-from in
    let fits : FitsSigned w64 c.args.local = search rules in
    let asked : c.before_leap.result ≡ before_leap c.args.leap c.args.local = simp to_z-of_z at c.before_leap.ensures in
    let asked_fits : FitsSigned w64 c.before_leap.result = search rules in
    let last_fits : FitsSigned w32 c.args.last.guess = search rules in
    let guess_fits : FitsSigned w32 c.in_ok-guess.guess = search rules in
    let from_fits : FitsSigned w64 c.from.result = search rules in
    let instant_fits : FitsSigned w64 (c.args.local -ℤ c.from.result) = left_fits (goal.at.returns-clause-value c).After-from in
    let there : Some c.in_ok-guess.guess ≡ found_offset (states_of (plain_zone c.args.zone.now))
    (record { clock = c.before_leap.result; daylight = Some c.args.last.daylight }) c.args.last.guess =
    simp to_z-of_z at c.in_ok-guess.ensures.value in
    let is : Some c.in_ok-guess.guess ≡ found_offset (states_of (plain_zone c.args.zone.now))
    (record { clock = before_leap c.args.leap c.args.local; daylight = Some c.args.last.daylight }) c.args.last.guess =
    rw asked at there in
    simp to_z-of_z
    (ap (found_from c.args.local c.in_ok-guess.guess) h.0
    ∙ found-there (states_of (plain_zone c.args.zone.now)) c.args.last c.args.leap c.args.local c.in_ok-guess.guess is)

pub returns-clause-small : goal.returns-clause-small
returns-clause-small c =
    let h = near (goal.at.returns-clause-small c).After-from in
    let fits : FitsSigned w64 c.args.local = search rules in
    let from_fits : FitsSigned w64 c.from.result = search rules in
    let instant_fits : FitsSigned w64 (c.args.local -ℤ c.from.result) = left_fits (goal.at.returns-clause-small c).After-from in
    let small : IsBetween (neg_ℤ (pos (10 ^ 15))) (pos (10 ^ 15)) (c.args.local -ℤ c.from.result) =
    subst (λ (o : ℤ). IsBetween (neg_ℤ (pos (10 ^ 15))) (pos (10 ^ 15)) (c.args.local -ℤ o)) (sym h.0) h.1 in
    simp to_z-of_z small
