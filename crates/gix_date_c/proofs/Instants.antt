-- The second in which an instant lies.
use Rattle.std.proofs.Common.{◌≡◌, ◌∙◌, ℤ, pos, ◌≤ℤ◌, Bool, true, false, ap, sym, refl, arith, Result, Ok, Err}
use Rattle.std.proofs.lemmas.Bool.{and_parts}
use Rattle.std.specs.Prelude.{◌&&◌, if◌then◌else◌, neg_ℤ}
use Rattle.std.specs.Result.{result_map_both}
use Rattle.std.specs.Int.Signed.{le_z}
use Rattle.jiff.specs.Words.{nanos_of_seconds}
use Rattle.jiff_core.proofs.SignedLemmas.{signed_arith}
use Rattle.gix_date.specs.Fields.Zoned.{is_instant, first_second}
use Rattle.gix_date.proofs.Fields.Instants.{z_test}
use Rattle.git_date.specs.Exact.RuleYears.{whole_second}
use Rattle.gix_date_c.specs.Moments.{nanos_of, nanos_in, is_part, has_instant}
use Rattle.gix_date_c.specs.declared.moment.CInstant.{CInstant}
use Rattle.gix_date_c.specs.declared.values.status.Status.{Status}

-- an instant that `jiff` has
record Has (i : CInstant) (n : ℤ) : Type 0 where
  known : has_instant i ≡ true
  is : nanos_in i ≡ n

abbrev nanos-or : Result ℤ Status → ℤ → ℤ
nanos-or (Ok n) other = n
nanos-or (Err e) other = other

chosen : (b : Bool) (i : CInstant) (n : ℤ) (e : Status) → (if b then Ok (nanos_in i) else Err e) ≡ Ok n → (b ≡ true) × (nanos_in i ≡ n)
chosen true i n e h = (refl, ap (λ r. nanos-or r n) h)
chosen false i n e h = absurd cc

has : (i : CInstant) (n : ℤ) → nanos_of i ≡ Ok n → Has i n
unfolding nanos_of
has i n h = let both = chosen (has_instant i) i n _ h in record { known = both.0; is = both.1 }

parts : (i : CInstant) (n : ℤ) → Has i n → (is_instant i.seconds ≡ true) × (is_part i.nanoseconds ≡ true)
parts i n h =
    let outer = and_parts (is_instant i.seconds && is_part i.nanoseconds) (le_z (nanos_of_seconds first_second) (nanos_in i)) h.known in
    and_parts (is_instant i.seconds) (is_part i.nanoseconds) outer.0

pub of_instant : (i : CInstant) (n : ℤ) → nanos_of i ≡ Ok n → is_instant i.seconds ≡ true
of_instant i n h = (parts i n (has i n h)).0

pub in_second : (i : CInstant) (n : ℤ) → nanos_of i ≡ Ok n → pos 0 ≤ℤ i.nanoseconds → whole_second n ≡ i.seconds
in_second i n h from =
    let is = (has i n h).is in
    let part = (parts i n (has i n h)).1 in
    let each = and_parts (le_z (neg_ℤ (pos 999_999_999)) i.nanoseconds) (le_z i.nanoseconds (pos 999_999_999)) part in
    let most = z_test i.nanoseconds (pos 999_999_999) each.1 in
    omega (arith, signed_arith)
