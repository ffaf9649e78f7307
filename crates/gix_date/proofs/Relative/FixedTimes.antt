-- What a date of seconds names from a time: its seconds less so many, at its offset.
use Rattle.std.proofs.Common.{rules}
use Rattle.std.proofs.Common.{◌≡◌, ◌∙◌, ◌↔◌, ℤ, pos, ◌-ℤ◌, ◌*ℤ◌, List, true, refl, sym, ap, subst, arith}
use Rattle.std.specs.List.{All}
use Rattle.jiff.proofs.ZoneFacts.{offset_at-fixed_zone}
use Rattle.jiff.specs.Types.{TimeZone}
use Rattle.jiff.specs.Words.{zoned_nanos, offset_at, nanos_of_seconds, IsTimestampNanos}
use Rattle.jiff.specs.declared.zoned.Zoned.{Zoned}
use Rattle.jiff_core.proofs.SignedLemmas.{signed_arith}
use Rattle.jiff_tz.specs.Zone.{IsFixed}
use Rattle.gix_date.specs.Relative.FixedZones.{total, less_seconds, earlier, NamesEarlier, NamesBefore}
use Rattle.gix_date.specs.Relative.Dates.{RelativeDate, Reaches, IsNamed}
use Rattle.gix_date.specs.Relative.Steps.{zone_of}
use Rattle.gix_date.specs.Fields.Zoned.{IsMoment, is_instant, time_in}
use Rattle.gix_date.specs.declared.time.Time.{Time}
use Rattle.gix_date.proofs.Relative.Chains.{same-time}
use Rattle.gix_date.proofs.Relative.FixedSteps.{fixed-zone}
use Rattle.gix_date.proofs.Relative.FixedZones.{IsLoss}
use Rattle.gix_date.proofs.Relative.FixedSeconds.{seconds-law}
use Rattle.gix_date.proofs.Fields.Instants.{instant_range, whole_seconds, instant_from, instant_holds}

zone-offset : (t : Time) (z : Zoned) → IsMoment t z → (n : ℤ) → offset_at (zone_of z) n ≡ t.offset
zone-offset t z m n = ap (λ (tz : TimeZone). offset_at tz n) m.zone.2 ∙ offset_at-fixed_zone m.zone.0 n ∙ m.zone.1

-- a moment of a time has such a zone
pub moment_fixed : (t : Time) (z : Zoned) → IsMoment t z → IsFixed (zone_of z)
moment_fixed t z m = subst IsFixed (sym m.zone.2) (fixed-zone m.zone.0)

abbrev IsEarlierInstant : Zoned → ℤ → ℤ → Type 0
IsEarlierInstant z n j = (j ≡ zoned_nanos z -ℤ nanos_of_seconds n) × IsTimestampNanos j

-- a date that reaches the instant so many seconds before, where it is one
pub names-earlier : (date : RelativeDate) (t : Time) (n : ℤ)
    → ((z : Zoned) → IsMoment t z → (j : ℤ) → Reaches date (zone_of z) (zoned_nanos z) j ↔ IsEarlierInstant z n j)
    → NamesEarlier date t n
names-earlier date t n law z m r =
    let nanos = nanos_of_seconds (t.seconds -ℤ n) in (
      λ h.
          let at = (law z m h.instant).0 h.reaches in
          let is : h.instant ≡ (t.seconds -ℤ n) *ℤ pos 1_000_000_000 = omega (arith, signed_arith, at.0, m.instant) in
          let seconds = h.seconds_is ∙ whole_seconds h.instant (t.seconds -ℤ n) is in
          let range = (instant_range h.instant (t.seconds -ℤ n) is).0 at.1 in (
            same-time r (earlier t n) seconds (h.offset_is ∙ zone-offset t z m h.instant),
            subst (λ (s : ℤ). is_instant s ≡ true) (sym seconds) (instant_from (t.seconds -ℤ n) range),
          ),
      λ h.
          let seconds : r.seconds ≡ t.seconds -ℤ n = ap (λ (q : Time). q.seconds) h.0 in
          let offset : r.offset ≡ t.offset = ap (λ (q : Time). q.offset) h.0 in
          let range = instant_holds (t.seconds -ℤ n) (subst (λ (s : ℤ). is_instant s ≡ true) seconds h.1) in
          let due : nanos ≡ zoned_nanos z -ℤ nanos_of_seconds n = omega (arith, signed_arith, m.instant) in
          record {
            instant = nanos;
            reaches = (law z m nanos).1 (due, (instant_range nanos (t.seconds -ℤ n) refl).1 range);
            seconds_is = seconds ∙ sym (whole_seconds nanos (t.seconds -ℤ n) refl);
            offset_is = offset ∙ sym (zone-offset t z m nanos);
          },
    )

pub seconds-earlier : (t : Time) (pairs : List (ℤ × ℤ)) → All IsLoss pairs
    → NamesEarlier (less_seconds pairs) t (total pairs)
seconds-earlier t pairs loss = search (rules, names-earlier, seconds-law, moment_fixed)

-- The same from each moment, by the instant that is reached.
abbrev NamesOnly : RelativeDate → Zoned → ℤ → Type 0
NamesOnly date z due = (t : Time) → IsNamed date z t ↔ ((t ≡ time_in (zone_of z) due) × IsTimestampNanos due)

pub names-before : (date : RelativeDate) (z : Zoned) (due : ℤ)
    → ((j : ℤ) → Reaches date (zone_of z) (zoned_nanos z) j ↔ ((j ≡ due) × IsTimestampNanos j)) → NamesOnly date z due
names-before date z due law t = grind (arith, same-time)
