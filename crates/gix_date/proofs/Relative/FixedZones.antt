-- Steps in a zone that always has one offset.
use Rattle.std.proofs.lemmas.Bool.Decides.{nat_tests}
use Rattle.std.proofs.lemmas.Grind.{common_steps}
use Rattle.std.proofs.Common.{rules}
use Rattle.std.proofs.Common.{◌≡◌, ◌∙◌, ◌↔◌, ◌≤◌, ◌+◌, ◌-◌, ℕ, ℤ, pos, negsuc, ◌+ℤ◌, ◌-ℤ◌, ◌*ℤ◌, ◌≤ℤ◌, unsigned_abs, FitsSigned, w64, refl}
use Rattle.std.proofs.Common.{sym, ap, subst, arith, List, [], ◌∷◌, map, slice_index_or}
use Rattle.std.specs.Int.{int_div_euclid, int_rem_euclid}
use Rattle.std.specs.List.{All, sum_by}
use Rattle.std.proofs.lemmas.List.Elements.{All-nil, All-head, All-tail, All-cons}
use Rattle.std.proofs.lemmas.List.Sums.{sum_by-cons}
use Rattle.std.proofs.lemmas.Int.{by_lt_z}
use Rattle.jiff.proofs.ZoneFacts.{offset_at-fixed_zone, picked_instant-fixed_zone}
use Rattle.jiff.specs.Types.{DateTime, Time as TimeOfDay, Offset, TimeZone}
use Rattle.jiff.specs.Words.{IsYear, month_number, fixed_zone, civil_nanos, nanos_of_seconds, IsTimestampNanos, IsCivilNanos}
use Rattle.jiff_core.proofs.CalendarLemmas.{days_in_month_bounds}
use Rattle.jiff_core.proofs.DateLemmas.{days_from_civil-day}
use Rattle.jiff_core.specs.Calendar.{days_in_month}
use Rattle.jiff_span.proofs.MonthLemmas.{days_from_civil-month}
use Rattle.jiff_core.proofs.DateTimeLemmas.{civil_nanos-parts}
use Rattle.jiff_core.proofs.SignedLemmas.{signed_arith, one_part}
use Rattle.jiff_zoned.proofs.SameLemmas.{same_datetime}
use Rattle.gix_date.proofs.Fields.DateTimes.{datetime_exists}
use Rattle.gix_date.specs.Relative.FixedZones.{product, total, ProductFits, IsNonnegativePair, less_seconds, less_months}
use Rattle.gix_date.specs.Relative.Dates.{RelativeDate, MinusPairs, Reaches}
use Rattle.gix_date.specs.Relative.Steps.{IsLocal, IsPicked, Resolves, SecondsStep, MonthsStep, Chain, civil_of, month_start}
use Rattle.gix_date.proofs.Relative.Steps.{MonthsFrom, day_of, year_of}
use Rattle.gix_date.specs.declared.parsing.relative.words.TimeUnit.{TimeUnit}
use Rattle.gix_date.specs.declared.parsing.relative.words.TimeUnit.TheVariants.{Seconds, Months}

-- what such a zone picks is the clock less the offset
pub fixed-picked : (o : Offset) (civil j : ℤ) → IsPicked (fixed_zone o) civil j → j ≡ civil -ℤ nanos_of_seconds o.seconds
fixed-picked o civil j h = grind (arith, picked_instant-fixed_zone)

pub fixed-local : (o : Offset) (i : ℤ) (dt : DateTime) → IsLocal (fixed_zone o) i dt
    → civil_nanos dt ≡ i +ℤ nanos_of_seconds o.seconds
fixed-local o i dt h = h ∙ ap (λ (s : ℤ). i +ℤ nanos_of_seconds s) (offset_at-fixed_zone o i)

-- so what its clock shows resolves at the instant itself
pub fixed-resolves : (o : Offset) (i j : ℤ) → Resolves (fixed_zone o) i j → j ≡ i
fixed-resolves o i j h =
    let shown = fixed-local o i h.local h.local_is in
    let picked = fixed-picked o (civil_nanos h.local) j h.picked in
    omega (arith, signed_arith, shown, picked)

pub fixed-picks : (o : Offset) (dt : DateTime) (j : ℤ) → j ≡ civil_nanos dt -ℤ nanos_of_seconds o.seconds
    → IsTimestampNanos j → IsPicked (fixed_zone o) (civil_nanos dt) j
fixed-picks o dt j e range = record { shown = dt; civil_is = refl; is_choice = e ∙ sym (picked_instant-fixed_zone o dt); in_range = range }

pub fixed-resolves-exists : (o : Offset) (i : ℤ) → IsTimestampNanos i → Resolves (fixed_zone o) i i
fixed-resolves-exists o i range =
    let clock : IsCivilNanos (i +ℤ nanos_of_seconds o.seconds) =
    (omega (arith, signed_arith, range, o.in_range), omega (arith, signed_arith, range, o.in_range)) in
    let found = datetime_exists (i +ℤ nanos_of_seconds o.seconds) clock in
    let back : i ≡ (civil_nanos found.0 -ℤ nanos_of_seconds o.seconds) = omega (arith, signed_arith, found.1) in
    record {
      local = found.0;
      local_is = found.1 ∙ ap (λ (s : ℤ). i +ℤ nanos_of_seconds s) (sym (offset_at-fixed_zone o i));
      picked = fixed-picks o found.0 i back range;
    }

-- Lists of pairs.

-- a pair that takes nothing away from what was taken off
abbrev pub IsLoss : ℤ × ℤ → Type 0
IsLoss p = pos 0 ≤ℤ product p

-- their sum, by the list's own sum, which is the same in any order
pub total-sum_by : (pairs : List (ℤ × ℤ)) → All IsLoss pairs
    → total pairs ≡ pos (sum_by (λ p. unsigned_abs (product p)) pairs)
total-sum_by [] loss = refl
total-sum_by (p ∷ more) loss =
    let first = All-head IsLoss p more loss in
    let later = total-sum_by more (All-tail IsLoss p more loss) in
    omega (arith, signed_arith, sum_by-cons (λ (q : ℤ × ℤ). unsigned_abs (product q)) p more, first, later, one_part (product p))

pub total-loss : (pairs : List (ℤ × ℤ)) → All IsLoss pairs → pos 0 ≤ℤ total pairs
total-loss pairs loss = omega (arith, signed_arith, total-sum_by pairs loss)

-- where an i64 holds the sum, it holds each product
pub products-fit : (pairs : List (ℤ × ℤ)) → All IsLoss pairs → FitsSigned w64 (total pairs) → All ProductFits pairs
products-fit [] loss fits = All-nil ProductFits
products-fit (p ∷ more) loss fits =
    let first = All-head IsLoss p more loss in
    let later = All-tail IsLoss p more loss in
    let left = total-loss more later in
    let one : ProductFits p = omega (arith, signed_arith, fits, first, left) in
    let others : FitsSigned w64 (total more) = omega (arith, signed_arith, fits, first, left) in
    All-cons ProductFits p more one (products-fit more later others)

-- the instant so many seconds before, where an i64 holds each product and this is an instant
abbrev pub IsBefore : List (ℤ × ℤ) → ℤ → ℤ → Type 0
IsBefore pairs i j = (j ≡ i -ℤ nanos_of_seconds (total pairs)) × All ProductFits pairs × IsTimestampNanos j

abbrev pub second_steps : List (ℤ × ℤ) → List (ℤ × TimeUnit)
second_steps pairs = map (λ p. (p.0, Seconds p.1)) pairs

-- Relative dates of such pairs.

abbrev pub Alike : TimeZone → ℤ → RelativeDate → (ℤ → Type 0) → Type 0
Alike tz i date Such = (j : ℤ) → Reaches date tz i j ↔ Such j

from-start : (o : Offset) (i j : ℤ) (date : List (ℤ × TimeUnit)) → Reaches (MinusPairs date) (fixed_zone o) i j
    → Chain (fixed_zone o) date i j
from-start o i j date (start, resolves, chain) =
    subst (λ (k : ℤ). Chain (fixed_zone o) date k j) (fixed-resolves o i start resolves) chain

-- pairs with the same sum, which fit where the others do, name the same
pub same-seconds : (tz : TimeZone) (pairs other : List (ℤ × ℤ)) (i : ℤ) → total other ≡ total pairs
    → All ProductFits pairs ↔ All ProductFits other
    → Alike tz i (less_seconds pairs) (IsBefore pairs i) → Alike tz i (less_seconds other) (IsBefore other i)
    → (j : ℤ) → Reaches (less_seconds pairs) tz i j ↔ Reaches (less_seconds other) tz i j
same-seconds tz pairs other i same fit one two j = (
  λ h. let r = (one j).0 h in (two j).1 (r.0 ∙ ap (λ (n : ℤ). i -ℤ nanos_of_seconds n) (sym same), fit.0 r.1, r.2),
  λ h. let r = (two j).0 h in (one j).1 (r.0 ∙ ap (λ (n : ℤ). i -ℤ nanos_of_seconds n) same, fit.1 r.1, r.2),
)

pub product-low : (a b : ℤ) → pos 0 ≤ℤ a → pos 0 ≤ℤ b → pos 0 ≤ℤ (a *ℤ b)
product-low (pos a) (pos b) h k = omega (arith, signed_arith)
product-low (pos a) (negsuc b) h k = absurd (omega (arith, signed_arith))
product-low (negsuc a) b h k = absurd (omega (arith, signed_arith))

pair-loss : (p : ℤ × ℤ) → IsNonnegativePair p → IsLoss p
pair-loss (count, unit) (h, k) = product-low count unit h k

pub all-loss : (pairs : List (ℤ × ℤ)) → All IsNonnegativePair pairs → All IsLoss pairs
all-loss pairs h k d lt = pair-loss (slice_index_or pairs k d) (h k d lt)

pub one-loss : (p : ℤ × ℤ) → IsLoss p → All IsLoss (p ∷ [])
one-loss p h = All-cons IsLoss p [] h (All-nil IsLoss)

-- A day of the month that each month has, from the first to the 28th, with a time of day.

abbrev pub IsSmall : ℕ → Type 0
IsSmall day = (1 ≤ day) × (day ≤ 28)

-- the instant of that day and time in a month by its number
abbrev pub place : Offset → ℕ → TimeOfDay → ℤ → ℤ
place o day time m = civil_of (month_start m +ℤ (pos day -ℤ pos 1)) time -ℤ nanos_of_seconds o.seconds

-- the library has it
pub record IsPlaced (o : Offset) (day : ℕ) (time : TimeOfDay) (m : ℤ) : Type 0 where
  pub fits : FitsSigned w64 m
  pub year_in : IsYear (int_div_euclid m (pos 12))
  pub in_range : IsTimestampNanos (place o day time m)

pub month_found : (m : ℤ)
    → (1 ≤ unsigned_abs (int_rem_euclid m (pos 12)) + 1) × (unsigned_abs (int_rem_euclid m (pos 12)) + 1 ≤ 12)
month_found m = omega (arith, signed_arith)

long-enough : (m : ℤ) (day : ℕ) → IsSmall day
    → (1 ≤ day) × (day ≤ days_in_month (int_div_euclid m (pos 12)) (unsigned_abs (int_rem_euclid m (pos 12)) + 1))
long-enough m day small = grind (arith, days_in_month_bounds)

abbrev shown-there : (m : ℤ) (day : ℕ) (time : TimeOfDay) → IsSmall day → IsYear (int_div_euclid m (pos 12)) → DateTime
shown-there m day time small year = record {
  date = record {
    year = int_div_euclid m (pos 12);
    month = unsigned_abs (int_rem_euclid m (pos 12)) + 1;
    day = day;
    year_in = year;
    month_in = month_found m;
    day_in = long-enough m day small;
  };
  time = time;
}

pub number-there : (m : ℤ) → int_div_euclid m (pos 12) *ℤ pos 12 +ℤ pos (unsigned_abs (int_rem_euclid m (pos 12)) + 1 - 1) ≡ m
number-there m = omega (arith, signed_arith)

civil-there : (m : ℤ) (day : ℕ) (time : TimeOfDay) (small : IsSmall day) (year : IsYear (int_div_euclid m (pos 12)))
    → civil_nanos (shown-there m day time small year) ≡ civil_of (month_start m +ℤ (pos day -ℤ pos 1)) time
civil-there m day time small year =
    let dt = shown-there m day time small year in
    omega (
      arith,
      signed_arith,
      civil_nanos-parts dt,
      days_from_civil-day (int_div_euclid m (pos 12)) (unsigned_abs (int_rem_euclid m (pos 12)) + 1) 1 day (omega arith) small.0,
    )

local-there : (o : Offset) (m : ℤ) (day : ℕ) (time : TimeOfDay) (small : IsSmall day) (year : IsYear (int_div_euclid m (pos 12)))
    → IsLocal (fixed_zone o) (place o day time m) (shown-there m day time small year)
local-there o m day time small year = grind (arith, nat_tests, common_steps, signed_arith, civil-there, offset_at-fixed_zone)

picked-there : (o : Offset) (m : ℤ) (day : ℕ) (time : TimeOfDay) → IsSmall day → IsPlaced o day time m
    → IsPicked (fixed_zone o) (civil_of (month_start m +ℤ (pos day -ℤ pos 1)) time) (place o day time m)
picked-there o m day time small h =
    let dt = shown-there m day time small h.year_in in
    let civil = civil-there m day time small h.year_in in
    subst (λ (n : ℤ). IsPicked (fixed_zone o) n (place o day time m)) civil
    (fixed-picks o dt (place o day time m) (ap (λ (n : ℤ). n -ℤ nanos_of_seconds o.seconds) (sym civil)) h.in_range)

-- a step of months off that day of the month of this number
abbrev Goes : Offset → ℕ → TimeOfDay → ℤ → ℤ → ℤ → Type 0
Goes o day time n j number =
    FitsSigned w64 (number -ℤ n) × IsYear (int_div_euclid (number -ℤ n) (pos 12))
    × IsPicked (fixed_zone o) (civil_of (month_start (number -ℤ n) +ℤ (pos day -ℤ pos 1)) time) j

-- leads to the same day of an earlier month
pub months-to : (o : Offset) (day : ℕ) (time : TimeOfDay) (m n j : ℤ) → IsSmall day → IsPlaced o day time m
    → MonthsStep (fixed_zone o) n (place o day time m) j → IsPlaced o day time (m -ℤ n) × (j ≡ place o day time (m -ℤ n))
months-to o day time m n j small here h =
    let dt = shown-there m day time small here.year_in in
    let same : h.local ≡ dt = same_datetime h.local dt (h.local_is ∙ sym (local-there o m day time small here.year_in)) in
    let from : MonthsFrom (fixed_zone o) n j dt =
    subst (MonthsFrom (fixed_zone o) n j) same (h.fits, h.year_in, h.picked) in
    let goes : Goes o day time n j m = subst (Goes o day time n j) (number-there m) from in
    let is = fixed-picked o (civil_of (month_start (m -ℤ n) +ℤ (pos day -ℤ pos 1)) time) j goes.2 in
    (record { fits = goes.0; year_in = goes.1; in_range = subst IsTimestampNanos is goes.2.in_range }, is)

pub months-from : (o : Offset) (day : ℕ) (time : TimeOfDay) (m n : ℤ) → IsSmall day → IsPlaced o day time m
    → IsPlaced o day time (m -ℤ n) → MonthsStep (fixed_zone o) n (place o day time m) (place o day time (m -ℤ n))
months-from o day time m n small here there =
    let dt = shown-there m day time small here.year_in in
    let goes : Goes o day time n (place o day time (m -ℤ n)) m =
    (there.fits, there.year_in, picked-there o (m -ℤ n) day time small there) in
    let from : MonthsFrom (fixed_zone o) n (place o day time (m -ℤ n)) dt =
    subst (Goes o day time n (place o day time (m -ℤ n))) (sym (number-there m)) goes in
    record { local = dt; local_is = local-there o m day time small here.year_in; fits = from.0; year_in = from.1; picked = from.2 }

-- earlier months begin at least 28 days earlier, so what lies between two such days is such a day
pub month-shorter : (a b : ℤ) → IsYear (int_div_euclid a (pos 12)) → (a +ℤ pos 1) ≤ℤ b → (month_start a +ℤ pos 28) ≤ℤ month_start b
month-shorter a b year le =
    let y = int_div_euclid a (pos 12) in
    let m = unsigned_abs (int_rem_euclid a (pos 12)) + 1 in
    let before = days_from_civil-month y (int_div_euclid b (pos 12)) m (unsigned_abs (int_rem_euclid b (pos 12)) + 1) 28 1
    (year, month_found a, long-enough a 28 (omega arith, omega arith)) (month_found b).0 (month_found b).1 (omega arith)
    (omega (arith, signed_arith, le, number-there a, number-there b)) in
    omega (arith, signed_arith, before, days_from_civil-day y m 1 28 (omega arith) (omega arith))

months-order : (a b : ℤ) → IsYear (int_div_euclid a (pos 12)) → a ≤ℤ b → month_start a ≤ℤ month_start b
months-order a b year le =
    by_lt_z a b
    (λ lt. let before = month-shorter a b year (omega (arith, signed_arith, lt)) in omega (arith, signed_arith, before))
    (λ ge. let e : a ≡ b = omega (arith, signed_arith) in rw e (omega (arith, signed_arith)))

between-placed : (o : Offset) (day : ℕ) (time : TimeOfDay) (a b c : ℤ) → IsPlaced o day time a → IsPlaced o day time c → a ≤ℤ b
    → b ≤ℤ c → IsPlaced o day time b
between-placed o day time a b c low high le ge =
    let fits : FitsSigned w64 b = omega (arith, signed_arith, low.fits, high.fits, le, ge) in
    let year : IsYear (int_div_euclid b (pos 12)) =
    (omega (arith, signed_arith, low.year_in, le), omega (arith, signed_arith, high.year_in, ge)) in
    let first = months-order a b low.year_in le in
    let last = months-order b c year ge in
    record {
      fits = fits;
      year_in = year;
      in_range =
          (omega (arith, signed_arith, first, low.in_range), omega (arith, signed_arith, last, high.in_range));
    }

abbrev pub month_steps : List (ℤ × ℤ) → List (ℤ × TimeUnit)
month_steps pairs = map (λ p. (p.0, Months p.1)) pairs

pub months-chain : (o : Offset) (day : ℕ) (time : TimeOfDay) (pairs : List (ℤ × ℤ)) (m j : ℤ) → IsSmall day → All IsLoss pairs
    → IsPlaced o day time m
    → Chain (fixed_zone o) (month_steps pairs) (place o day time m) j
    → IsPlaced o day time (m -ℤ total pairs) × (j ≡ place o day time (m -ℤ total pairs))
months-chain o day time [] m j small loss here h =
    let same : m ≡ (m -ℤ pos 0) = omega (arith, signed_arith) in
    (subst (IsPlaced o day time) same here, h ∙ ap (place o day time) same)
months-chain o day time (p ∷ more) m j small loss here (between, step, rest) =
    let first = months-to o day time m (product p) between small here step.1 in
    let chain : Chain (fixed_zone o) (month_steps more) (place o day time (m -ℤ product p)) j =
    subst (λ (k : ℤ). Chain (fixed_zone o) (month_steps more) k j) first.1 rest in
    let later = months-chain o day time more (m -ℤ product p) j small (All-tail IsLoss p more loss) first.0 chain in
    let same : ((m -ℤ product p) -ℤ total more) ≡ (m -ℤ total (p ∷ more)) = omega (arith, signed_arith) in
    (subst (IsPlaced o day time) same later.0, later.1 ∙ ap (place o day time) same)

pub months-chain-back : (o : Offset) (day : ℕ) (time : TimeOfDay) (pairs : List (ℤ × ℤ)) (m : ℤ) → IsSmall day → All IsLoss pairs
    → FitsSigned w64 (total pairs) → IsPlaced o day time m
    → IsPlaced o day time (m -ℤ total pairs)
    → Chain (fixed_zone o) (month_steps pairs) (place o day time m) (place o day time (m -ℤ total pairs))
months-chain-back o day time [] m small loss fits here there = search (rules, signed_arith)
months-chain-back o day time (p ∷ more) m small loss fits here there =
    let falls = All-head IsLoss p more loss in
    let left = total-loss more (All-tail IsLoss p more loss) in
    let same : ((m -ℤ product p) -ℤ total more) ≡ (m -ℤ total (p ∷ more)) = omega (arith, signed_arith) in
    let below : (m -ℤ total (p ∷ more)) ≤ℤ (m -ℤ product p) = omega (arith, signed_arith, left) in
    let above : (m -ℤ product p) ≤ℤ m = omega (arith, signed_arith, falls) in
    let next = between-placed o day time (m -ℤ total (p ∷ more)) (m -ℤ product p) m there here below above in
    let one : FitsSigned w64 (product p) = omega (arith, signed_arith, left, fits, falls) in
    let others : FitsSigned w64 (total more) = omega (arith, signed_arith, left, fits, falls) in
    let last = months-chain-back o day time more (m -ℤ product p) small (All-tail IsLoss p more loss) others next
    (subst (IsPlaced o day time) (sym same) there) in (
      place o day time (m -ℤ product p),
      (one, months-from o day time m (product p) small here next),
      subst (λ (k : ℤ). Chain (fixed_zone o) (month_steps more) (place o day time (m -ℤ product p)) (place o day time k)) same last,
    )

-- what a list of such pairs leads to: the same day, so many months before
abbrev MonthsBefore : Offset → ℕ → TimeOfDay → ℤ → ℤ → Type 0
MonthsBefore o day time m j = IsPlaced o day time m × (j ≡ place o day time m)

months-of : (o : Offset) (day : ℕ) (time : TimeOfDay) (pairs : List (ℤ × ℤ)) (m : ℤ) → IsSmall day → All IsLoss pairs
    → FitsSigned w64 (total pairs) → IsPlaced o day time m
    → Alike (fixed_zone o) (place o day time m) (less_months pairs) (MonthsBefore o day time (m -ℤ total pairs))
months-of o day time pairs m small loss fits here j = (
  λ h. months-chain o day time pairs m j small loss here (from-start o (place o day time m) j (month_steps pairs) h),
  λ h. (
    place o day time m,
    fixed-resolves-exists o (place o day time m) here.in_range,
    subst (λ (k : ℤ). Chain (fixed_zone o) (month_steps pairs) (place o day time m) k) (sym h.1)
        (months-chain-back o day time pairs m small loss fits here h.0),
  ),
)

abbrev SameMonths : List (ℤ × ℤ) → TimeZone → ℤ → Type 0
SameMonths pairs tz i = (j : ℤ) → Reaches (less_months pairs) tz i j ↔ Reaches (less_months ((total pairs, pos 1) ∷ [])) tz i j

months-same : (o : Offset) (day : ℕ) (time : TimeOfDay) (pairs : List (ℤ × ℤ)) (m : ℤ) → IsSmall day → All IsLoss pairs
    → FitsSigned w64 (total pairs) → IsPlaced o day time m → SameMonths pairs (fixed_zone o) (place o day time m)
months-same o day time pairs m small loss fits here j =
    let one : ℤ × ℤ = (total pairs, pos 1) in
    let one_is : IsLoss one = omega (arith, signed_arith, total-loss pairs loss) in
    let sum : total (one ∷ []) ≡ total pairs = omega (arith, signed_arith) in
    let many = months-of o day time pairs m small loss fits here j in
    let single =
    subst (λ (n : ℤ). Reaches (less_months (one ∷ [])) (fixed_zone o) (place o day time m) j ↔ MonthsBefore o day time (m -ℤ n) j) sum
    (months-of o day time (one ∷ []) m small (one-loss one one_is) (subst (FitsSigned w64) (sym sum) fits) here j) in
    (λ h. single.1 (many.0 h), λ h. many.1 (single.0 h))

placed-here : (o : Offset) (i : ℤ) (dt : DateTime) → IsLocal (fixed_zone o) i dt
    → i ≡ place o dt.date.day dt.time (month_number dt.date)
placed-here o i dt h = omega (arith, signed_arith, fixed-local o i dt h, civil_nanos-parts dt, day_of dt.date)

pub months-fixed : (o : Offset) (i : ℤ) (dt : DateTime) (pairs : List (ℤ × ℤ)) → IsLocal (fixed_zone o) i dt → dt.date.day ≤ 28
    → IsTimestampNanos i → All IsLoss pairs → FitsSigned w64 (total pairs) → SameMonths pairs (fixed_zone o) i
months-fixed o i dt pairs local day range loss fits =
    let is = placed-here o i dt local in
    let date = dt.date in
    let year_in = date.year_in in
    let month_in = date.month_in in
    let day_in = date.day_in in
    let here : IsPlaced o date.day dt.time (month_number date) = record {
      fits = omega (arith, signed_arith, year_in, month_in);
      year_in = subst IsYear (sym (year_of date)) year_in;
      in_range = subst IsTimestampNanos is range;
    } in
    subst (SameMonths pairs (fixed_zone o)) (sym is)
    (months-same o date.day dt.time pairs (month_number date) (day_in.0, day) loss fits here)
