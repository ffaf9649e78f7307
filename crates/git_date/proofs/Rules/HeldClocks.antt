-- What the clock of a time shows, and that of UTC.
use Rattle.std.proofs.Common.{◌≡◌, ◌<◌, ◌≤◌, ℕ, ℤ, pos, true, false, Some, None, lit<, arith}
use Rattle.std.proofs.lemmas.Bool.{and_from as join, and_parts, false_from_ne_true}
use Rattle.std.specs.Prelude.{◌&&◌}
use Rattle.std.specs.Int.Signed.{le_z}
use Rattle.jiff_core.proofs.SignedLemmas.{signed_arith}
use Rattle.jiff_core.specs.Calendar.{IsBetween}
use Rattle.gix_date.specs.Families.Epoch.{utc_time}
use Rattle.gix_date.specs.Fields.Layout.{LocalTime}
use Rattle.gix_date.specs.Fields.Zoned.{is_instant, first_second, last_second}
use Rattle.gix_date.specs.Printing.LocalClocks.{clock_of, last_of_year_9999, IsShowable}
use Rattle.gix_date.proofs.Fields.Instants.{instant_holds, z_holds, z_test}
use Rattle.git_date.proofs.Rules.Conditions.{none-where, some-where}
use Rattle.git_date.specs.Rules.Clocks.{utc_clock, first_of_year_1900}

-- seconds within both bounds
pub within : (first last s : ℤ) → (le_z first s && le_z s last) ≡ true → IsBetween first last s
within first last s h = let parts = and_parts (le_z first s) (le_z s last) h in (z_test _ _ parts.0, z_test _ _ parts.1)

pub utc_showable : (s : ℤ) → IsBetween first_of_year_1900 last_of_year_9999 s → IsShowable (utc_time s)
utc_showable s within = record { in_years = (omega (arith, signed_arith, within), omega (arith, signed_arith, within)); offset = lit< tt }

pub is-instant : (n : ℕ) → n ≤ 253_402_207_200 → is_instant (pos n) ≡ true
is-instant n h =
    join _ _ (z_holds first_second (pos n) (omega (arith, signed_arith))) (z_holds (pos n) last_second (omega (arith, signed_arith)))

pub no-instant : (n : ℕ) → 253_402_207_200 < n → is_instant (pos n) ≡ false
no-instant n h =
    false_from_ne_true (is_instant (pos n)) (λ e. absurd (let in_range = instant_holds (pos n) e in omega (arith, signed_arith)))

pub no_clock : (n : ℕ) → 253_402_207_200 < n → None ≡ utc_clock n
unfolding utc_clock
no_clock n h = none-where (is_instant (pos n)) _ (no-instant n h)

pub a_clock : (n : ℕ) (c : LocalTime) → n ≤ 253_402_207_200 → c ≡ (clock_of (utc_time (pos n))) → Some c ≡ utc_clock n
unfolding utc_clock
a_clock n c h e = some-where (is_instant (pos n)) c _ (is-instant n h) e
