-- What the clock of a time shows, and when.
use Rattle.std.proofs.Common.{◌≡◌, ◌∙◌, ℤ, pos, neg_ℤ, Bool, true, false, Some, None, ap, arith}
use Rattle.std.specs.Prelude.{◌&&◌}
use Rattle.jiff.specs.Types.{TimeZone}
use Rattle.jiff.specs.Words.{offset_at, nanos_of_seconds}
use Rattle.jiff_core.proofs.SignedLemmas.{signed_arith, one_part}
use Rattle.jiff_core.specs.Calendar.{IsBetween}
use Rattle.gix_date.specs.Fields.Layout.{LocalTime}
use Rattle.gix_date.specs.Printing.LocalClocks.{clock_of, last_of_year_9999, IsShowable}
use Rattle.gix_date.specs.Fields.Zoned.{last_second}
use Rattle.gix_date.specs.declared.time.Time.{Time}
use Rattle.git_date.specs.Show.Clocks.{has_own_clock, has_zone_clock, is_dated, known_offset, own_clock, zone_clock, time_at}
use Rattle.git_date.specs.Show.Clocks.{with_known_offset}
use Rattle.git_date.proofs.Rules.Conditions.{none-where, some-where}
use Rattle.git_date.proofs.Rules.HeldClocks.{within}

pub dated : (s : ℤ) → is_dated s ≡ true → IsBetween (pos 0) last_of_year_9999 s
dated s h = within (pos 0) last_of_year_9999 s h

pub zone_dated : (s : ℤ) → has_zone_clock s ≡ true → IsBetween (pos 0) last_second s
zone_dated s h = within (pos 0) last_second s h

pub near_zone : (s o : ℤ) → IsBetween (pos 0) last_second s → IsBetween (neg_ℤ (pos 93_599)) (pos 93_599) o
    → IsShowable (record { seconds = s; offset = o })
near_zone s o dated offset =
    record { in_years = (omega (arith, signed_arith), omega (arith, signed_arith)); offset = omega (arith, signed_arith, one_part o) }

pub and_last : (a b c r : Bool) → a ≡ true → b ≡ true → r ≡ c → r ≡ (a && b && c)
and_last true true c r p q e = e
and_last true false c r p q e = cc
and_last false b c r p q e = cc

-- a clock is that of its definition
pub an_own_clock : (t : Time) (l : LocalTime) → has_own_clock t ≡ true → l ≡ clock_of t → Some l ≡ own_clock t
unfolding own_clock
an_own_clock t l h e = some-where (has_own_clock t) l _ h e

pub no_own_clock : (t : Time) → has_own_clock t ≡ false → None ≡ own_clock t
unfolding own_clock
no_own_clock t h = none-where (has_own_clock t) _ h

pub a_zone_clock : (zone : TimeZone) (s : ℤ) (l : LocalTime) → has_zone_clock s ≡ true → l ≡ with_known_offset (clock_of (time_at zone s))
    → Some l ≡ zone_clock zone s
unfolding zone_clock
a_zone_clock zone s l h e = some-where (has_zone_clock s) l _ h e

pub no_zone_clock : (zone : TimeZone) (s : ℤ) → has_zone_clock s ≡ false → None ≡ zone_clock zone s
unfolding zone_clock
no_zone_clock zone s h = none-where (has_zone_clock s) _ h

-- a clock with the offset that Git knows
pub known : (u : LocalTime) (o : ℤ) (l : LocalTime) → u ≡ l → o ≡ known_offset u
    → ◌≡◌ {A = LocalTime} (record u { offset = o }) (with_known_offset l)
known u o l e h = ap (λ (n : ℤ). let r : LocalTime = record u { offset = n } in r) h ∙ ap (λ (v : LocalTime). with_known_offset v) e

abbrev timed : ℤ → ℤ → Time
timed s o = record { seconds = s; offset = o }

pub timed_at : (zone : TimeZone) (s o : ℤ) (t : Time) → t ≡ record { seconds = s; offset = o } → o ≡ offset_at zone (nanos_of_seconds s)
    → t ≡ time_at zone s
timed_at zone s o t e h = e ∙ ap (λ (n : ℤ). timed s n) h
