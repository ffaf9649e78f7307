-- The instant of fields, from what `jiff` says of dates, clocks and instants.
use Rattle.std.proofs.Common.{◌≡◌, ◌↔◌, ◌≤◌, ℤ, pos, ◌-ℤ◌, ◌*ℤ◌, Bool, true, false, cond, arith, refl, Some, None, unsigned_abs, int_div}
use Rattle.std.proofs.lemmas.Bool.{true_from_ne_false, and_parts as both, and_from as join, leb-true as n_test, le-leb as n_holds}
use Rattle.std.proofs.lemmas.Float.{T_from_true}
use Rattle.std.specs.Prelude.{◌&&◌}
use Rattle.std.specs.Int.Signed.{le_z, le_z_yes, ◌≤ℤ◌}
use Rattle.jiff_core.proofs.SignedLemmas.{signed_arith}
use Rattle.jiff_core.proofs.DateTimeLemmas.{civil_nanos-parts}
use Rattle.jiff_core.specs.Calendar.{IsDate, IsBetween, days_from_civil}
use Rattle.jiff_core.specs.Date.{IsYmd, epoch_day}
use Rattle.jiff_core.specs.DateTime.{civil_nanos, civil_seconds as shown_seconds}
use Rattle.jiff_core.specs.Time.{IsTime, IsHms}
use Rattle.jiff_core.specs.Timestamp.{IsTimestampNanos, nanos_of_seconds}
use Rattle.jiff_core.specs.declared.civil.date.Date.{Date}
use Rattle.jiff_core.specs.declared.civil.datetime.DateTime.{DateTime}
use Rattle.gix_date.specs.Fields.Civil.{is_date, is_clock, civil_seconds, civil_instant}
use Rattle.gix_date.specs.Fields.Zoned.{is_instant, first_second, last_second}
use Rattle.gix_date.specs.declared.clock.DateFields.{DateFields}
use Rattle.gix_date.specs.declared.clock.ClockFields.{ClockFields}

-- the seconds are those of an instant
abbrev pub IsInstantSeconds : ℤ → Type 0
IsInstantSeconds seconds = IsBetween first_second last_second seconds

-- both of two tests
pub z_test : (a b : ℤ) → le_z a b ≡ true → a ≤ℤ b
z_test a b h = le_z_yes (T_from_true (le_z a b) h)

pub z_holds : (a b : ℤ) → a ≤ℤ b → le_z a b ≡ true
z_holds a b h = true_from_ne_false (le_z a b) (λ n. absurd (rw n at h.le))

-- the tests say what `jiff`'s words say

date_holds : (d : DateFields) → d.year ≤ 9999 → is_date d ≡ true → IsDate (pos d.year) (pos d.month) (pos d.day)
date_holds d y h = grind (arith, both, n_test, signed_arith)

pub date_from : (d : DateFields) → IsDate (pos d.year) (pos d.month) (pos d.day) → is_date d ≡ true
date_from d h = grind (arith, signed_arith, join, n_holds)

clock_holds : (c : ClockFields) → is_clock c ≡ true → IsTime (pos c.hour) (pos c.minute) (pos c.second) (pos 0)
clock_holds c h = grind (arith, both, n_test, signed_arith)

pub clock_from : (c : ClockFields) → IsTime (pos c.hour) (pos c.minute) (pos c.second) (pos 0) → is_clock c ≡ true
clock_from c h = grind (arith, signed_arith, join, n_holds)

pub instant_holds : (s : ℤ) → is_instant s ≡ true → IsInstantSeconds s
instant_holds s h = let p = both (le_z first_second s) (le_z s last_second) h in (z_test _ _ p.0, z_test _ _ p.1)

pub instant_from : (s : ℤ) → IsInstantSeconds s → is_instant s ≡ true
instant_from s h = join _ _ (z_holds _ _ h.0) (z_holds _ _ h.1)

-- whole seconds from `jiff`'s nanoseconds

epoch_day_of : (date : Date) (y m d : ℤ) → IsYmd y m d date → epoch_day date ≡ days_from_civil y (unsigned_abs m) (unsigned_abs d)
epoch_day_of date y m d h = rw (← h.0, ← h.1, ← h.2) refl

pub local_nanos : (local : DateTime) (d : DateFields) (c : ClockFields) (offset : ℤ)
    → IsYmd (pos d.year) (pos d.month) (pos d.day) local.date
    → IsHms (pos c.hour) (pos c.minute) (pos c.second) (pos 0) local.time
    → civil_nanos local -ℤ nanos_of_seconds offset ≡ civil_seconds d c offset *ℤ pos 1_000_000_000
local_nanos local d c offset date time =
    let day = epoch_day_of local.date (pos d.year) (pos d.month) (pos d.day) date in
    omega (arith, signed_arith, civil_nanos-parts local, day, time.0, time.1, time.2, time.3)

-- the same in seconds, as the datetime says them
pub local_seconds : (local : DateTime) (d : DateFields) (c : ClockFields) (offset : ℤ)
    → IsYmd (pos d.year) (pos d.month) (pos d.day) local.date
    → IsHms (pos c.hour) (pos c.minute) (pos c.second) (pos 0) local.time → shown_seconds local -ℤ offset ≡ civil_seconds d c offset
unfolding shown_seconds
local_seconds local d c offset date time = grind (arith, epoch_day_of, signed_arith)

pub instant_range : (n s : ℤ) → n ≡ s *ℤ pos 1_000_000_000 → IsTimestampNanos n ↔ IsInstantSeconds s
instant_range n s e = (λ h. omega (arith, signed_arith), λ h. omega (arith, signed_arith))

pub whole_seconds : (n s : ℤ) → n ≡ s *ℤ pos 1_000_000_000 → int_div n (pos 1_000_000_000) ≡ s
whole_seconds n s e = omega (arith, signed_arith)

-- what the three tests choose

refused : (a b c : Bool) (s : ℤ) → ((a && b && c) ≡ true → ⊥) → None ≡ cond (a && b && c) (Some s) None
refused true true true s h = absurd (h refl)
refused a b c s h = refl

pub no_date_or_clock : (d : DateFields) (c : ClockFields) (offset : ℤ) → d.year ≤ 9999
    → (IsDate (pos d.year) (pos d.month) (pos d.day) × IsTime (pos c.hour) (pos c.minute) (pos c.second) (pos 0) → ⊥)
    → None ≡ civil_instant d c offset
unfolding civil_instant
no_date_or_clock d c offset y none = grind (arith, refused, both, date_holds, clock_holds)

pub no_instant : (d : DateFields) (c : ClockFields) (offset : ℤ) → (IsInstantSeconds (civil_seconds d c offset) → ⊥)
    → None ≡ civil_instant d c offset
unfolding civil_instant
no_instant d c offset none = grind (arith, refused, instant_holds, both)

pub an_instant : (d : DateFields) (c : ClockFields) (offset s : ℤ) → IsDate (pos d.year) (pos d.month) (pos d.day)
    → IsTime (pos c.hour) (pos c.minute) (pos c.second) (pos 0)
    → IsInstantSeconds (civil_seconds d c offset) → s ≡ civil_seconds d c offset → Some s ≡ civil_instant d c offset
unfolding civil_instant
an_instant d c offset s date time instant is = grind (arith, join, date_from, clock_from, instant_from)

-- a day that has an instant is a date

first-test : (a b c : Bool) (x s : ℤ) → Some s ≡ cond (a && b && c) (Some x) None → a ≡ true
first-test true b c x s e = refl
first-test false b c x s e = absurd cc

pub is-dated : (d : DateFields) (c : ClockFields) (offset s : ℤ) → Some s ≡ civil_instant d c offset → is_date d ≡ true
unfolding civil_instant
is-dated d c offset s e = first-test (is_date d) (is_clock c) (is_instant (civil_seconds d c offset)) (civil_seconds d c offset) s e
