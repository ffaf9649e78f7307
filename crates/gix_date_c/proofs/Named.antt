-- A zone that holds what was read of a text means what the text names.
use Rattle.std.specs.Prelude.{◌≡◌, Bool, true, false, List, ℕ, Option, Some, None, is_some, option_map, Result, Ok, Err, ℤ, MatchResult}
use Rattle.std.proofs.Common.{◌∙◌, sym, subst, ap, inl, inr, refl}
use Rattle.std.specs.Result.{is_ok, result_map_both}
use Rattle.std.specs.Borrow.{Bor}
use Rattle.std.specs.Global.{Global}
use Rattle.std.specs.declared.sync.Arc.{Arc}
use Rattle.jiff_tz.specs.declared.tzif.Tzif.{Tzif}
use Rattle.jiff.specs.Types.{Offset, TimeZone, Tzif as Table}
use Rattle.jiff.specs.Placed.{fixed_zone}
use Rattle.jiff.specs.Words.{plain_zone, IsOffsetSeconds}
use Rattle.jiff.specs.declared.tz.TimeZone.{TimeZone as LentZone}
use Rattle.git_date.specs.Exact.ZoneTexts.{zone_offset}
use Rattle.gix_date_c.specs.Moments.{IsOffsetZone, IsTextZone}
use Rattle.gix_date_c.specs.Zones.{HasZone, IsCopy, IsCopyOf, IsHeld, IsHeldNamed, IsHeldZone, IsKept, IsNamed, IsRead, IsShown, IsTaken}
use Rattle.gix_date_c.specs.Zones.{IsZone, IsZoneOf, Names, Reads, Shows, is_file}
use Rattle.gix_date_c.specs.Laws.{AreCopiesNamed, HasMomentsOf, HasPlacesOf}
use Rattle.gix_date_c.specs.Values.Statuses.{number_of}
use Rattle.gix_date_c.specs.declared.values.status.Status.{Status}
use Rattle.gix_date_c.specs.declared.values.status.Status.TheVariants.{Done, InvalidZone}
use Rattle.gix_date_c.specs.declared.zone.TakenZone.{TakenZone}
use Rattle.gix_date_c.specs.declared.handle.ShownZone.{ShownZone}
use Rattle.gix_date_c.specs.declared.zone.stored.CZone.{CZone}
use Rattle.gix_date_c.specs.declared.zone.held.Held.{Held}
use Rattle.gix_date_c.specs.declared.zone.held.Held.TheVariants.{Rule, Table as Rows}

held-named : (file : Bool) (text : List ℕ) (offset : ℤ) (held : Held) → IsHeld file text (Ok held) → (z : Result TimeZone Status)
    → IsZoneOf offset (Some held) z → IsHeldNamed file text z
held-named true text offset (Rows read) is (Ok zone) at = (Ok read.value, is, (at.0, at.1, ap Ok at.2))
held-named true text offset (Rule rule) is (Ok zone) at = absurd is
held-named false text offset (Rule rule) is (Ok zone) at = subst (λ (zone : TimeZone). IsTextZone text (Ok zone)) (sym at) is
held-named false text offset (Rows read) is (Ok zone) at = absurd is
held-named file text offset held is (Err status) at = absurd at

read-named : (text : List ℕ) (offset : ℤ) (held : Held) → IsRead text (Ok held) → (z : Result TimeZone Status)
    → IsZoneOf offset (Some held) z
    → IsHeldNamed (is_file text) text z
read-named text offset held (inl is) z at = held-named (is_file text) text offset held is z at
read-named text offset held (inr e) z at = absurd (subst (λ (r : Result Held Status). MatchResult r (λ _. Unit {0}) (λ _. ⊥)) e tt)

named : (said : Option ℤ) (text : List ℕ) (zone : CZone) (kept : TakenZone) → IsTaken zone kept → IsKept said text (Ok kept)
    → (z : Result TimeZone Status)
    → IsZone zone z → IsNamed said text z
named (Some offset) text zone kept is k z at =
    let none : zone.handle.held ≡ None = sym is.1 ∙ ap (option_map (λ held. held.value)) k.1 in
    subst (λ (o : ℤ). IsOffsetZone o z) (sym is.0 ∙ k.0) (subst (λ h. IsZoneOf zone.offset h z) none at)
named None text zone kept is k z at =
    read-named text zone.offset k.0 k.2 z (subst (λ h. IsZoneOf zone.offset h z) (sym is.1 ∙ k.1) at)

pub reads : (text : List ℕ) (old new : CZone) (kept : TakenZone) (status : ℕ) → IsTaken new kept → IsKept (zone_offset text) text (Ok kept)
    → status ≡ number_of Done → Reads text old new status
unfolding Reads
reads text old new kept status is k done = inl (named (zone_offset text) text new kept is k, done)

pub not_read : (text : List ℕ) (old new : CZone) (refusal : Status) (status : ℕ) → IsKept (zone_offset text) text (Err refusal) → new ≡ old
    → status ≡ number_of refusal → Reads text old new status
unfolding Reads
not_read text old new refusal status k same is = inr (refusal, k, same, is)

-- what C shows of such a zone means the same
shown-named : (text : List ℕ) (zone : CZone) (shown : ShownZone) → Names text zone → Shows zone shown → (z : Result TimeZone Status)
    → IsShown shown z
    → IsNamed (zone_offset text) text z
shown-named text zone shown names same z at =
    names z
    (subst (λ (held : Option Held). IsZoneOf zone.offset held z) same.1 (subst (λ (o : ℤ). IsZoneOf o shown.handle.held z) same.0 at))

pub moments : (text : List ℕ) (zone : CZone) (shown : ShownZone) → HasMomentsOf text zone shown
moments text zone shown instant now names same at = (at.0, shown-named text zone shown names same at.0 at.1, at.2)

pub places : (text : List ℕ) (zone : CZone) (shown : ShownZone) → HasPlacesOf text zone shown
places text zone shown instant place names same at = (at.0, shown-named text zone shown names same at.0 at.1, at.2)

copied-held : (from copy : Held) (z : TimeZone) → IsCopy from copy → IsHeldZone copy z → IsHeldZone from z
copied-held (Rule held) (Rule copy) z is at = at ∙ ap plain_zone is
copied-held (Rows held) (Rows copy) z is at = (at.0, at.1 ∙ is, at.2)
copied-held (Rule held) (Rows copy) z is at = absurd is
copied-held (Rows held) (Rule copy) z is at = absurd is

copied-zone : (offset : ℤ) (from copy : Option Held) (z : Result TimeZone Status) → IsCopyOf from copy → IsZoneOf offset copy z
    → IsZoneOf offset from z
copied-zone offset None None z is at = at
copied-zone offset (Some held) (Some copy) (Ok z) is at = copied-held held copy z is at
copied-zone offset (Some held) (Some copy) (Err status) is at = at
copied-zone offset None (Some copy) z is at = absurd is
copied-zone offset (Some held) None z is at = absurd is

pub copies : (text : List ℕ) (zone : CZone) (shown : ShownZone) → AreCopiesNamed text zone shown
unfolding AreCopiesNamed
copies text zone shown old new names same (inl copied) z at =
    shown-named text zone shown names same z
    (copied-zone shown.offset shown.handle.held new.handle.held z copied.1 (subst (λ (o : ℤ). IsZoneOf o new.handle.held z) copied.0 at))
copies text zone shown old new names same (inr refused) z at = absurd cc

-- the zone of a table that is lent
pub lent_zone : (held : Held) (read : Arc Tzif Global) (lent : Bor Tzif) → held ≡ Rows read → lent.now ≡ read.value
    → IsHeldZone held (Table lent)
lent_zone held read lent is same = subst (λ (h : Held). IsHeldZone h (Table lent)) (sym is) (lent, same, refl)

-- the zone of an offset, or none
pub offset_zone : (offset : ℤ) (o : Offset) (z : TimeZone) → o.seconds ≡ offset → z ≡ fixed_zone o → IsOffsetZone offset (Ok z)
unfolding IsOffsetZone
offset_zone offset o z is same = (o, is, same)

pub no_offset_zone : (offset : ℤ) → (IsOffsetSeconds offset → ⊥) → IsOffsetZone offset (Err InvalidZone)
unfolding IsOffsetZone
no_offset_zone offset h = (refl, h)

-- what is held is a zone, wherever its table lies
held-zone : (held : Held) → (z : TimeZone) × IsHeldZone held z
held-zone (Rule zone) = (plain_zone zone, refl)
held-zone (Rows read) = let lent : Bor Tzif = record { ref_ptr = (0, 0); now = read.value } in (Table lent, (lent, refl, refl))

-- a zone that is held is there
pub held_found : (shown : ShownZone) → is_some shown.handle.held ≡ true → HasZone shown
unfolding HasZone
held_found shown h = found shown.offset shown.handle.held h
  where
    found : (offset : ℤ) (held : Option Held) → is_some held ≡ true → (z : TimeZone) × IsZoneOf offset held (Ok z)
    found offset None h = absurd cc
    found offset (Some held) h = held-zone held

-- where none is held, there is a zone if there is that of the offset
pub offset_found : (shown : ShownZone) (zone : Result LentZone Status) → is_some shown.handle.held ≡ false
    → IsOffsetZone shown.offset (result_map_both plain_zone (λ status. status) zone)
    → is_ok zone ≡ true → HasZone shown
unfolding HasZone
offset_found shown zone h is ok = found shown.offset shown.handle.held zone h is ok
  where
    found : (offset : ℤ) (held : Option Held) (zone : Result LentZone Status) → is_some held ≡ false
        → IsOffsetZone offset (result_map_both plain_zone (λ status. status) zone)
        → is_ok zone ≡ true → (z : TimeZone) × IsZoneOf offset held (Ok z)
    found offset None (Ok z) h is ok = (plain_zone z, is)
    found offset None (Err status) h is ok = absurd cc
    found offset (Some held) zone h is ok = absurd cc
