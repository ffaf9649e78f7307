-- Zones that C holds.
use Rattle.std.specs.Prelude.{◌≡◌, ◌⊎◌, ◌==◌, option_map, ℕ, Bool, true, false, List, codes, ℤ, pos, Option, None, Some, Result, Ok, Err}
use Rattle.core.specs.List.{starts_with}
use Rattle.std.specs.Borrow.{Bor}
use Rattle.jiff.specs.Types.{TimeZone, Tzif as Table}
use Rattle.jiff.specs.Words.{plain_zone}
use Rattle.jiff_tz.specs.declared.tzif.Tzif.{Tzif}
use Rattle.git_date.specs.Exact.ZoneTexts.{zone_offset}
use Rattle.gix_date_c.specs.Moments.{IsFileZone, IsOffsetZone, IsPlaced, IsTable, IsTextZone, Place, offset_at}
use Rattle.gix_date_c.specs.Values.Statuses.{number_of}
use Rattle.gix_date_c.specs.declared.moment.CInstant.{CInstant}
use Rattle.gix_date_c.specs.declared.values.status.Status.{Status}
use Rattle.gix_date_c.specs.declared.values.status.Status.TheVariants as statuses
use Rattle.gix_date_c.specs.declared.handle.ShownZone.{ShownZone}
use Rattle.gix_date_c.specs.declared.zone.stored.CZone.{CZone}
use Rattle.gix_date_c.specs.declared.zone.TakenZone.{TakenZone}
use Rattle.gix_date_c.specs.declared.zone.held.Held.{Held}
use Rattle.gix_date_c.specs.declared.zone.held.Held.TheVariants.{Rule, Table as Rows}

-- what begins with `TZif` is a file, so that a rule for a zone of that name is refused
abbrev pub is_file : List ℕ → Bool
is_file text = starts_with (λ a b. a == b) text (codes "TZif")

-- what is held of a text that is a file, or else a rule
abbrev pub IsHeld : Bool → List ℕ → Result Held Status → Type 0
IsHeld true file (Ok (Rows read)) = IsTable file (Ok read.value)
IsHeld true file (Ok (Rule zone)) = ⊥
IsHeld true file (Err status) = IsTable file (Err status) ⊎ (status ≡ statuses.Memory)
IsHeld false rule (Ok (Rule zone)) = IsTextZone rule (Ok (plain_zone zone))
IsHeld false rule (Ok (Rows read)) = ⊥
IsHeld false rule (Err status) = IsTextZone rule (Err status)

-- the zone that is held
abbrev pub IsHeldZone : Held → TimeZone → Type 0
IsHeldZone (Rule held) zone = zone ≡ plain_zone held
IsHeldZone (Rows read) zone = (lent : Bor Tzif) × (lent.now ≡ read.value) × (zone ≡ Table lent)

-- the same zone once more
abbrev pub IsCopy : Held → Held → Type 0
IsCopy (Rule held) (Rule copy) = copy ≡ held
IsCopy (Rows read) (Rows copy) = copy.value ≡ read.value
IsCopy _ _ = ⊥

-- the same zone once more, where one is held
abbrev pub IsCopyOf : Option Held → Option Held → Type 0
IsCopyOf None None = Unit
IsCopyOf (Some held) (Some copy) = IsCopy held copy
IsCopyOf _ _ = ⊥

-- the zone that is held, or else the one that always has this offset
abbrev pub IsZoneOf : ℤ → Option Held → Result TimeZone Status → Type 0
IsZoneOf offset None zone = IsOffsetZone offset zone
IsZoneOf offset (Some held) (Ok zone) = IsHeldZone held zone
IsZoneOf offset (Some held) (Err status) = ⊥

-- the zone of C
abbrev pub IsZone : CZone → Result TimeZone Status → Type 0
IsZone zone = IsZoneOf zone.offset zone.handle.held

-- the zone that C shows
abbrev pub IsShown : ShownZone → Result TimeZone Status → Type 0
IsShown zone = IsZoneOf zone.offset zone.handle.held

-- there is such a zone
unfoldable pub HasZone : ShownZone → Type 0
HasZone shown = (zone : TimeZone) × IsShown shown (Ok zone)

-- the offset at an instant of a zone of which this is known, or why there is none
abbrev pub IsOffset : (Result TimeZone Status → Type 0) → CInstant → Result ℤ Status → Type 0
IsOffset IsZone instant offset =
    (place : Result Place Status) × IsPlaced IsZone instant place × (offset ≡ offset_at place)

-- UTC, with nothing held
abbrev pub IsUtc : CZone → Type 0
IsUtc zone = (zone.offset ≡ pos 0) × (zone.handle.held ≡ None)

-- a zone of C, and the same shown to a call
abbrev pub Shows : CZone → ShownZone → Type 0
Shows zone shown = (shown.offset ≡ zone.offset) × (shown.handle.held ≡ zone.handle.held)

-- a zone of C, and the same out of its hands
abbrev pub IsTaken : CZone → TakenZone → Type 0
IsTaken zone taken = (taken.offset ≡ zone.offset) × (option_map (λ held. held.value) taken.held ≡ zone.handle.held)

-- a zone that C shows, and another out of its hands that means the same
abbrev pub IsTakenCopy : ShownZone → TakenZone → Type 0
IsTakenCopy shown copy = (copy.offset ≡ shown.offset) × IsCopyOf shown.handle.held (option_map (λ held. held.value) copy.held)

-- a zone means what another does now, or what was there is as it was for want of memory
abbrev pub Copies : ShownZone → CZone → CZone → ℕ → Type 0
Copies from old new status =
    ((new.offset ≡ from.offset) × IsCopyOf from.handle.held new.handle.held × (status ≡ number_of statuses.Done))
    ⊎ ((new ≡ old) × (status ≡ number_of statuses.Memory))

-- what is held of a text, or that there is no memory for it
abbrev pub IsRead : List ℕ → Result Held Status → Type 0
IsRead text held = IsHeld (is_file text) text held ⊎ (held ≡ Err statuses.Memory)

-- the zone of an offset, or else what is held of a text
abbrev pub IsKept : Option ℤ → List ℕ → Result TakenZone Status → Type 0
IsKept (Some offset) text (Ok kept) = (kept.offset ≡ offset) × (kept.held ≡ None)
IsKept (Some offset) text (Err status) = ⊥
IsKept None text (Ok kept) = (held : Held) × (option_map (λ held. held.value) kept.held ≡ Some held) × IsRead text (Ok held)
IsKept None text (Err status) = IsRead text (Err status)

-- the zone of a file, or else of a rule
abbrev pub IsHeldNamed : Bool → List ℕ → Result TimeZone Status → Type 0
IsHeldNamed true file zone = IsFileZone file zone
IsHeldNamed false rule zone = IsTextZone rule zone

-- the zone that a text names: that of an offset, or else of a file, or else of a rule
abbrev pub IsNamed : Option ℤ → List ℕ → Result TimeZone Status → Type 0
IsNamed (Some offset) text zone = IsOffsetZone offset zone
IsNamed None text zone = IsHeldNamed (is_file text) text zone

-- a zone of C means what a text names
abbrev pub Names : List ℕ → CZone → Type 0
Names text zone = (z : Result TimeZone Status) → IsZone zone z → IsNamed (zone_offset text) text z

-- a zone means what a text names now, or what was there is as it was, and the status says why
unfoldable pub Reads : List ℕ → CZone → CZone → ℕ → Type 0
Reads text old new status =
    (Names text new × (status ≡ number_of statuses.Done))
    ⊎ ((refusal : Status) × IsKept (zone_offset text) text (Err refusal) × (new ≡ old) × (status ≡ number_of refusal))
