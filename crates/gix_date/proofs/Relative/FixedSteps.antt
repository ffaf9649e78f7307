-- Steps at one offset, and in a zone that has no other.
use Rattle.std.proofs.Common.{arith}
use Rattle.std.proofs.Common.{rules}
use Rattle.std.proofs.Common.{◌≡◌, ◌∙◌, ◌↔◌, ◌≤◌, ℤ, pos, ◌+ℤ◌, ◌-ℤ◌, refl, sym, ap, List, [], ◌∷◌, FitsSigned, w64}
use Rattle.std.specs.List.{All}
use Rattle.jiff.proofs.ZoneFacts.{offset_at-fixed_zone, picked_instant-fixed_zone}
use Rattle.jiff.specs.Types.{TimeZone, DateTime, Offset}
use Rattle.jiff.specs.Words.{plain_zoned, zoned_nanos, fixed_zone, offset_at, picked_instant, civil_nanos, nanos_of_seconds}
use Rattle.jiff.specs.Words.{IsTimestampNanos}
use Rattle.jiff.specs.declared.zoned.Zoned.{Zoned}
use Rattle.jiff_tz.specs.Zone.{IsFixed, utc_offset, ambiguous_at}
use Rattle.jiff_tz.specs.declared.timezone.TimeZone.TheVariants.{Fixed, Posix, Tzif}
use Rattle.gix_date.specs.Relative.Dates.{RelativeDate, MinusSeconds, MinusPairs, Reaches}
use Rattle.gix_date.specs.Relative.FixedZones.{total, less_months, IsNonnegativePair, NamesAlike}
use Rattle.gix_date.specs.Relative.Steps.{zone_of, IsLocal, IsPicked, Resolves, PairStep, Chain, ChooseAlike}
use Rattle.gix_date.specs.Relative.Roles.{pairs}
use Rattle.gix_date.specs.declared.parsing.relative.words.TimeUnit.{TimeUnit}
use Rattle.gix_date.specs.declared.parsing.relative.words.TimeUnit.TheVariants.{Seconds, Months}
use Rattle.gix_date.proofs.Relative.FixedZones.{IsLoss, all-loss, months-fixed, fixed-resolves-exists}
use Rattle.gix_date.proofs.Relative.Steps.{shows-local}

picks : (tz : TimeZone) (o : Offset) → IsFixed tz → ((n : ℤ) → o.seconds ≡ offset_at tz n) → (dt : DateTime)
    → picked_instant tz dt ≡ civil_nanos dt -ℤ nanos_of_seconds o.seconds
unfolding offset_at ambiguous_at
picks (Posix r) o f h dt = absurd f
picks (Tzif z) o f h dt = absurd f
picks tz o f h dt = ap (λ (s : ℤ). civil_nanos dt -ℤ nanos_of_seconds s) (sym (h (pos 0)))

-- a zone of a kind that has one offset is like the one that is made of it
pub one-offset : (tz : TimeZone) (o : Offset) → IsFixed tz → ((n : ℤ) → o.seconds ≡ offset_at tz n) → ChooseAlike tz (fixed_zone o)
one-offset tz o f h = grind (arith, offset_at-fixed_zone, picks, picked_instant-fixed_zone)

pub turned : (a b : TimeZone) → ChooseAlike a b → ChooseAlike b a
turned a b h = record { offset = λ n. sym (h.offset n); picks = λ dt. sym (h.picks dt) }

local-alike : (a b : TimeZone) → ChooseAlike a b → (i : ℤ) (dt : DateTime) → IsLocal a i dt → IsLocal b i dt
local-alike a b h i dt l = l ∙ ap (λ (s : ℤ). i +ℤ nanos_of_seconds s) (h.offset i)

pub picked-alike : (a b : TimeZone) → ChooseAlike a b → (civil j : ℤ) → IsPicked a civil j → IsPicked b civil j
picked-alike a b h civil j p =
    record { shown = p.shown; civil_is = p.civil_is; is_choice = p.is_choice ∙ h.picks p.shown; in_range = p.in_range }

pub resolves-alike : (a b : TimeZone) → ChooseAlike a b → (i j : ℤ) → Resolves a i j → Resolves b i j
resolves-alike a b h i j s = record {
  local = s.local;
  local_is = local-alike a b h i s.local s.local_is;
  picked = picked-alike a b h (civil_nanos s.local) j s.picked;
}

step-alike : (a b : TimeZone) → ChooseAlike a b → (pair : ℤ × TimeUnit) (i j : ℤ) → PairStep a pair i j → PairStep b pair i j
step-alike a b h (n, Seconds size) i j (fits, s) = (fits, record { in_range = s.in_range; resolves = resolves-alike a b h _ j s.resolves })
step-alike a b h (n, Months size) i j (fits, s) = search (rules, local-alike, picked-alike)

chain-alike : (a b : TimeZone) → ChooseAlike a b → (list : List (ℤ × TimeUnit)) (i j : ℤ) → Chain a list i j → Chain b list i j
chain-alike a b h [] i j c = c
chain-alike a b h (pair ∷ more) i j (between, step, rest) =
    (between, step-alike a b h pair i between step, chain-alike a b h more between j rest)

pub reaches-alike : (a b : TimeZone) → ChooseAlike a b → (date : RelativeDate) (i j : ℤ) → Reaches date a i j → Reaches date b i j
reaches-alike a b h (MinusSeconds seconds) i j r = r
reaches-alike a b h (MinusPairs list) i j (start, s, c) = (start, resolves-alike a b h i start s, chain-alike a b h list start j c)

-- the offset of such a zone
pub fixed-offset : (tz : TimeZone) → IsFixed tz → (o : Offset) × ((n : ℤ) → o.seconds ≡ offset_at tz n)
unfolding offset_at
fixed-offset (Fixed o) f = (o, λ n. refl)
fixed-offset (Posix r) f = absurd f
fixed-offset (Tzif z) f = absurd f
fixed-offset tz f = (utc_offset, λ n. refl)

-- a zone that is made of an offset is one
pub fixed-zone : (o : Offset) → IsFixed (fixed_zone o)
fixed-zone o = grind (arith)

months-in : (tz : TimeZone) → IsFixed tz → (i : ℤ) (dt : DateTime) (pairs : List (ℤ × ℤ)) → IsLocal tz i dt → dt.date.day ≤ 28
    → IsTimestampNanos i
    → All IsLoss pairs → FitsSigned w64 (total pairs) → (j : ℤ)
    → Reaches (less_months pairs) tz i j ↔ Reaches (less_months ((total pairs, pos 1) ∷ [])) tz i j
months-in tz f i dt pairs local day range loss fits j =
    let o = fixed-offset tz f in
    let zone = fixed_zone o.0 in
    let alike = one-offset tz o.0 f o.1 in
    let many : RelativeDate = less_months pairs in
    let one : RelativeDate = less_months ((total pairs, pos 1) ∷ []) in
    let law = months-fixed o.0 i dt pairs (local-alike tz zone alike i dt local) day range loss fits j in (
      λ h. reaches-alike zone tz (turned tz zone alike) one i j (law.0 (reaches-alike tz zone alike many i j h)),
      λ h. reaches-alike zone tz (turned tz zone alike) many i j (law.1 (reaches-alike tz zone alike one i j h)),
    )

-- what the law promises of pairs of months
pub months_alike : (z : Zoned) (pairs : List (ℤ × ℤ)) → IsFixed (zone_of z) → All IsNonnegativePair pairs → FitsSigned w64 (total pairs)
    → (plain_zoned z).datetime.date.day ≤ 28 → NamesAlike z (less_months pairs) (less_months ((total pairs, pos 1) ∷ []))
unfolding NamesAlike
months_alike z pairs f nonnegative fits day =
    let plain = plain_zoned z in
    months-in (zone_of z) f (zoned_nanos z) plain.datetime pairs (shows-local plain) day plain.timestamp.in_range
    (all-loss pairs nonnegative) fits

-- a zone of one offset resolves each instant to itself
pub fixed-keeps : (tz : TimeZone) → IsFixed tz → (i : ℤ) → IsTimestampNanos i → Resolves tz i i
fixed-keeps tz f i range =
    let o = fixed-offset tz f in
    resolves-alike (fixed_zone o.0) tz (turned tz (fixed_zone o.0) (one-offset tz o.0 f o.1)) i i (fixed-resolves-exists o.0 i range)
