-- In a zone of one offset pairs of seconds subtract exactly.
use Rattle.std.proofs.Common.{rules}
use Rattle.std.proofs.Common.{◌≡◌, ◌∙◌, ◌↔◌, ℤ, pos, ◌-ℤ◌, unsigned_abs, List, [], ◌∷◌, ap, sym, subst, arith}
use Rattle.std.specs.List.{All}
use Rattle.std.proofs.lemmas.List.Elements.{All-nil, All-head, All-tail, All-cons}
use Rattle.std.proofs.lemmas.List.Sorted.{All-permutation, IsPermutation-sym, sum_by-IsPermutation}
use Rattle.jiff.specs.Types.{TimeZone}
use Rattle.jiff.specs.Words.{plain_zoned, zoned_nanos, nanos_of_seconds, IsTimestampNanos}
use Rattle.jiff.specs.declared.zoned.Zoned.{Zoned}
use Rattle.jiff_core.proofs.SignedLemmas.{signed_arith}
use Rattle.jiff_tz.specs.Zone.{IsFixed}
use Rattle.gix_date.specs.Relative.Dates.{MinusSeconds, Reaches}
use Rattle.gix_date.specs.Relative.FixedZones.{product, total, ProductFits, less_seconds, IsNonnegativePair, NamesSum, NamesAlike}
use Rattle.gix_date.specs.Relative.FixedZones.{IgnoresOrder}
use Rattle.gix_date.specs.Relative.Steps.{zone_of, SecondsStep, Chain}
use Rattle.gix_date.proofs.Relative.FixedZones.{IsLoss, IsBefore, all-loss, one-loss, same-seconds, second_steps, total-loss, total-sum_by}
use Rattle.gix_date.proofs.Relative.FixedZones.{products-fit}
use Rattle.gix_date.proofs.Relative.FixedSteps.{fixed-keeps}
use Rattle.gix_date.proofs.Relative.Steps.{resolves-once}

-- a step of seconds is a plain difference
fixed-step : (tz : TimeZone) → IsFixed tz → (n i j : ℤ) → SecondsStep tz n i j
    → (j ≡ i -ℤ nanos_of_seconds n) × IsTimestampNanos j
fixed-step tz f n i j h = search (rules, resolves-once, fixed-keeps)

same-less-none : (i : ℤ) → i ≡ (i -ℤ nanos_of_seconds (pos 0))
same-less-none i = omega (arith, signed_arith)

fixed-chain : (tz : TimeZone) → IsFixed tz → (pairs : List (ℤ × ℤ)) (i j : ℤ) → IsTimestampNanos i
    → Chain tz (second_steps pairs) i j → IsBefore pairs i j
fixed-chain tz f [] i j range h = (h ∙ same-less-none i, All-nil ProductFits, subst IsTimestampNanos (sym h) range)
fixed-chain tz f (p ∷ more) i j range (between, step, rest) =
    let first = fixed-step tz f (product p) i between step.1 in
    let later = fixed-chain tz f more between j first.1 rest in
    (omega (arith, signed_arith, first.0, later.0), All-cons ProductFits p more step.0 later.1, later.2)

-- losses only fall: where the last is an instant, all between are
fixed-chain-back : (tz : TimeZone) → IsFixed tz → (pairs : List (ℤ × ℤ)) (i j : ℤ) → All IsLoss pairs → IsTimestampNanos i
    → IsBefore pairs i j → Chain tz (second_steps pairs) i j
fixed-chain-back tz f [] i j loss range h = h.0 ∙ sym (same-less-none i)
fixed-chain-back tz f (p ∷ more) i j loss range (e, fits, last) =
    let falls = All-head IsLoss p more loss in
    let left = total-loss more (All-tail IsLoss p more loss) in
    let next = i -ℤ nanos_of_seconds (product p) in
    let between : IsTimestampNanos next =
    (omega (arith, signed_arith, e, last, range, falls, left), omega (arith, signed_arith, range, falls)) in
    let due : j ≡ (next -ℤ nanos_of_seconds (total more)) = omega (arith, signed_arith, e) in
    let later = fixed-chain-back tz f more next j (All-tail IsLoss p more loss) between (due, All-tail ProductFits p more fits, last) in
    (next, (All-head ProductFits p more fits, record { in_range = between; resolves = fixed-keeps tz f next between }), later)

fixed-sum : (tz : TimeZone) → IsFixed tz → (pairs : List (ℤ × ℤ)) (i : ℤ) → All IsLoss pairs → IsTimestampNanos i
    → (j : ℤ) → Reaches (less_seconds pairs) tz i j ↔ IsBefore pairs i j
fixed-sum tz f pairs i loss range j =
    let here = fixed-keeps tz f i range in (
      λ h. fixed-chain tz f pairs i j range (subst (λ (k : ℤ). Chain tz (second_steps pairs) k j) (resolves-once tz i h.0 i h.1 here) h.2),
      λ h. (i, here, fixed-chain-back tz f pairs i j loss range h),
    )

pub names-sum : (z : Zoned) (pairs : List (ℤ × ℤ)) → IsFixed (zone_of z) → All IsLoss pairs → NamesSum pairs z
unfolding NamesSum
names-sum z pairs f loss = fixed-sum (zone_of z) f pairs (zoned_nanos z) loss (plain_zoned z).timestamp.in_range

-- an instant that is reached lies within `jiff`'s range, so an i64 holds what was taken off the moment
pub seconds-law : (z : Zoned) (pairs : List (ℤ × ℤ)) → IsFixed (zone_of z) → All IsLoss pairs
    → (j : ℤ) → Reaches (less_seconds pairs) (zone_of z) (zoned_nanos z) j ↔
    ((j ≡ zoned_nanos z -ℤ nanos_of_seconds (total pairs)) × IsTimestampNanos j)
unfolding NamesSum
seconds-law z pairs f loss j =
    let range = (plain_zoned z).timestamp.in_range in
    let law = names-sum z pairs f loss j in (
      λ h. let r = law.0 h in
          (r.0, r.2),
      λ h. law.1 (h.0, products-fit pairs loss (omega (arith, signed_arith, range, h.0, h.1, total-loss pairs loss)), h.1),
    )

-- what the laws promise: that `yesterday` is one day, and that pairs add up, in any order
pub yesterday_alike : (z : Zoned) → IsFixed (zone_of z)
    → NamesAlike z (MinusSeconds (pos 86_400)) (less_seconds ((pos 1, pos 86_400) ∷ []))
unfolding NamesAlike
yesterday_alike z f j =
    let law = seconds-law z ((pos 1, pos 86_400) ∷ []) f (one-loss (pos 1, pos 86_400) (omega (arith, signed_arith))) j in
    (λ h. law.1 h, λ h. law.0 h)

pub seconds_add : (z : Zoned) (pairs : List (ℤ × ℤ)) → IsFixed (zone_of z) → All IsNonnegativePair pairs → NamesSum pairs z
seconds_add z pairs f h = names-sum z pairs f (all-loss pairs h)

pub seconds_permute : (z : Zoned) (pairs : List (ℤ × ℤ)) → IsFixed (zone_of z) → All IsNonnegativePair pairs → IgnoresOrder pairs z
unfolding NamesSum NamesAlike IgnoresOrder
seconds_permute z pairs f nonnegative other h =
    let loss = all-loss pairs nonnegative in
    let other_loss = All-permutation IsLoss pairs other h loss in
    let sums = ap pos (sum_by-IsPermutation (λ p. unsigned_abs (product p)) pairs other h) in
    let same : total other ≡ total pairs = total-sum_by other other_loss ∙ sums ∙ sym (total-sum_by pairs loss) in
    same-seconds (zone_of z) pairs other (zoned_nanos z) same
    (All-permutation ProductFits pairs other h, All-permutation ProductFits other pairs (IsPermutation-sym pairs other h))
    (names-sum z pairs f loss) (names-sum z other f other_loss)
