use Rattle.std.proofs.Common.{◌≡◌, Bool, true, false, cond, ℤ, Result, Ok, Err, arith, refl, ◌∙◌, ap, rules, FitsSigned, w32, w64}
use Rattle.std.proofs.lemmas.Bool.{and_parts as both, and_from as join}
use Rattle.std.specs.Prelude.{◌&&◌, pos, neg_ℤ}
use Rattle.std.specs.Int.Signed.{le_z, ◌≤ℤ◌}
use Rattle.jiff.specs.Instant.{IsTimestampParts}
use Rattle.jiff.specs.Words.{nanos_of_seconds}
use Rattle.jiff_core.proofs.SignedLemmas.{signed_arith}
use Rattle.gix_date.proofs.Fields.Instants.{instant_from, instant_holds, z_holds, z_test}
use Rattle.gix_date.specs.Fields.Zoned.{first_second, is_instant}
use Rattle.gix_date_c.specs.Moments.{has_instant, is_part, nanos_in, nanos_of}
use Rattle.gix_date_c.specs.declared.moment.CInstant.{CInstant}
use Rattle.gix_date_c.specs.declared.values.status.Status.{Status}
use Rattle.gix_date_c.specs.declared.values.status.Status.TheVariants.{InvalidInstant}
use Rattle.std.proofs.lemmas.Int.{to_z-of_z}
use Rattle.gix_date_c.proofs.moment.timestamp_of.Goals as goal

-- the test says what `jiff`'s words say
instant-from : (i : CInstant) → IsTimestampParts i.seconds i.nanoseconds → has_instant i ≡ true
instant-from i (seconds, (low, high), total) =
    join (is_instant i.seconds && is_part i.nanoseconds) (le_z (nanos_of_seconds first_second) (nanos_in i))
    (join (is_instant i.seconds) (is_part i.nanoseconds) (instant_from i.seconds seconds) (join _ _ (z_holds _ _ low) (z_holds _ _ high)))
    (let start : nanos_of_seconds first_second ≤ℤ nanos_in i = omega (arith, signed_arith, total.0) in
    z_holds (nanos_of_seconds first_second) (nanos_in i) start)

instant-parts : (i : CInstant) → has_instant i ≡ true → IsTimestampParts i.seconds i.nanoseconds
instant-parts i h =
    let all = both (is_instant i.seconds && is_part i.nanoseconds) (le_z (nanos_of_seconds first_second) (nanos_in i)) h in
    let parts = both (is_instant i.seconds) (is_part i.nanoseconds) all.0 in
    let seconds = instant_holds i.seconds parts.0 in
    let part = both (le_z (neg_ℤ (pos 999_999_999)) i.nanoseconds) (le_z i.nanoseconds (pos 999_999_999)) parts.1 in
    let low = z_test (neg_ℤ (pos 999_999_999)) i.nanoseconds part.0 in
    let high = z_test i.nanoseconds (pos 999_999_999) part.1 in
    let first = z_test (nanos_of_seconds first_second) (nanos_in i) all.1 in
    (seconds, (low, high), (omega (arith, signed_arith, first), omega (arith, signed_arith, seconds.1, high)))

there-by : (has : Bool) (n : ℤ) → has ≡ true → (let r : Result ℤ Status = Ok n in r) ≡ cond has (Ok n) (Err InvalidInstant)
there-by true n h = refl
there-by false n h = absurd cc

none-by : (has : Bool) (n : ℤ) → (has ≡ true → ⊥)
    → (let r : Result ℤ Status = Err InvalidInstant in r) ≡ cond has (Ok n) (Err InvalidInstant)
none-by true n h = absurd (h refl)
none-by false n h = refl

-- an instant of such parts is there
instant-there : (i : CInstant) → IsTimestampParts i.seconds i.nanoseconds → Ok (nanos_in i) ≡ nanos_of i
unfolding nanos_of
instant-there i h = there-by (has_instant i) (nanos_in i) (instant-from i h)

-- and one of others is not
instant-none : (i : CInstant) → (IsTimestampParts i.seconds i.nanoseconds → ⊥) → Err InvalidInstant ≡ nanos_of i
unfolding nanos_of
instant-none i h = none-by (has_instant i) (nanos_in i) (λ has. h (instant-parts i has))

pub returns-in-Ok : goal.returns-in-Ok
returns-in-Ok c =
    let instant = c.args.instant.now in
    let long : FitsSigned w64 instant.seconds = search rules in
    let short : FitsSigned w32 instant.nanoseconds = search rules in
    let parts = simp to_z-of_z at c.in-Ok.ensures.succeeds in
    let is : c.in-Ok.now.nanosecond ≡ nanos_in instant = simp to_z-of_z at c.in-Ok.ensures.value in
    ap (λ (n : ℤ). let r : Result ℤ Status = Ok n in r) is ∙ instant-there instant (parts.0 refl)

pub returns-in-Err : goal.returns-in-Err
returns-in-Err c =
    let instant = c.args.instant.now in
    let long : FitsSigned w64 instant.seconds = search rules in
    let short : FitsSigned w32 instant.nanoseconds = search rules in
    let parts = simp to_z-of_z at c.in-Err.ensures.succeeds in
    instant-none instant (λ h. let clash = parts.1 h in absurd cc)
