-- What a clock shows from 1900 on.
use Rattle.std.proofs.Common.{◌≡◌, ℤ, true, false, Some, None}
use Rattle.jiff_core.specs.Calendar.{IsBetween}
use Rattle.gix_date.specs.Families.Epoch.{utc_time}
use Rattle.gix_date.specs.Printing.LocalClocks.{clock_of, last_of_year_9999}
use Rattle.git_date.proofs.Rules.Conditions.{none-where, some-where}
use Rattle.git_date.proofs.Rules.HeldClocks.{within}
use Rattle.git_date.specs.Approximate.Clocks.{is_shown, clock_shown_at}
use Rattle.git_date.specs.Rules.Clocks.{first_of_year_1900}
use Rattle.gix_date.specs.Fields.Layout.{LocalTime}

pub shown_within : (s : ℤ) → is_shown s ≡ true → IsBetween first_of_year_1900 last_of_year_9999 s
shown_within s h = within first_of_year_1900 last_of_year_9999 s h

pub none_shown : (s : ℤ) → is_shown s ≡ false → None ≡ clock_shown_at s
unfolding clock_shown_at
none_shown s e = none-where (is_shown s) _ e

pub a_shown : (s : ℤ) (c : LocalTime) → is_shown s ≡ true → c ≡ (clock_of (utc_time s)) → Some c ≡ clock_shown_at s
unfolding clock_shown_at
a_shown s c h e = some-where (is_shown s) c _ h e
