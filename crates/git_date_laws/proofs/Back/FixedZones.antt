-- A zone of one offset.
use Rattle.std.proofs.Common.{arith}
use Rattle.std.proofs.Common.{◌≡◌, ℤ, Bool, false, cond, Some, None, ap, ap₂}
use Rattle.jiff.proofs.ZoneFacts.{offset_at-fixed_zone}
use Rattle.jiff.specs.Types.{Offset}
use Rattle.jiff.specs.Words.{fixed_zone, nanos_of_seconds}
use Rattle.gix_date.specs.Fields.Zoned.{is_instant}
use Rattle.git_date.specs.Exact.Zones.{daylight_at, state_there, states_of, one_offset}
use Rattle.git_date.specs.Types.Names.{ZoneState}

no-daylight : (o : Offset) (n : ℤ) → daylight_at (fixed_zone o) n ≡ false
unfolding daylight_at
no-daylight o n = grind (arith)

abbrev state : ℤ → Bool → ZoneState
state offset daylight = record { offset = offset; daylight = daylight }

state-is : (o : Offset) (n : ℤ) → state_there (fixed_zone o) n ≡ state o.seconds false
state-is o n = ap₂ state (offset_at-fixed_zone o n) (no-daylight o n)

pub fixed-states : (o : Offset) → states_of (fixed_zone o) ≡ one_offset o.seconds
fixed-states o = λ i s. (ap (λ (there : ZoneState). cond (is_instant s) (Some there) None) (state-is o (nanos_of_seconds s))) i
