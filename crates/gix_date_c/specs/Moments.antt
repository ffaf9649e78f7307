-- Moments: instants in zones.
use Rattle.std.specs.Prelude.{◌≡◌, ℕ, if◌then◌else◌, Bool, true, false, ◌&&◌, List, Option, Some, None, Result, Ok, Err, ℤ, pos, neg_ℤ}
use Rattle.std.specs.Prelude.{◌+ℤ◌, MatchResult}
use Rattle.std.specs.Int.Signed.{le_z}
use Rattle.std.specs.Result.{result_map_both}
use Rattle.std.specs.Str.{is_utf8}
use Rattle.std.specs.Borrow.{Bor}
use Rattle.jiff.specs.Placed.{fixed_zone}
use Rattle.jiff.specs.Types.{Offset, TimeZone, Tzif as Table}
use Rattle.jiff.specs.Words.{nanos_of_seconds, offset_at as zone_offset_at, plain_zoned, zoned_nanos, IsOffsetSeconds}
use Rattle.jiff.specs.declared.zoned.Zoned.{Zoned}
use Rattle.jiff_tz.specs.declared.tzif.Tzif.{Tzif}
use Rattle.gix_date.specs.Fields.Zoned.{first_second, is_instant}
use Rattle.git_date.specs.Exact.Places as places
use Rattle.git_date.specs.declared.zone_texts.TableError.{TableError}
use Rattle.git_date.specs.declared.zone_texts.TableError.TheVariants as tables
use Rattle.gix_date_c.specs.declared.moment.CInstant.{CInstant}
use Rattle.gix_date_c.specs.declared.values.status.Status.{Status}
use Rattle.gix_date_c.specs.declared.values.status.Status.TheVariants as statuses

-- an instant in nanoseconds since 1970, and a zone
abbrev pub Place : Type 0
Place = ℤ × TimeZone

-- the nanoseconds since 1970 of seconds and of nanoseconds beside them
abbrev pub nanos_in : CInstant → ℤ
nanos_in instant = nanos_of_seconds instant.seconds +ℤ instant.nanoseconds

-- less than a second, either way
abbrev pub is_part : ℤ → Bool
is_part nanoseconds = le_z (neg_ℤ (pos 999_999_999)) nanoseconds && le_z nanoseconds (pos 999_999_999)

-- whether `jiff` has an instant: its seconds are an instant's, its nanoseconds a part of one, and it is none before the first
abbrev pub has_instant : CInstant → Bool
has_instant instant =
    is_instant instant.seconds && is_part instant.nanoseconds && le_z (nanos_of_seconds first_second) (nanos_in instant)

-- the nanoseconds since 1970 of an instant, where `jiff` has it
unfoldable pub nanos_of : CInstant → Result ℤ Status
nanos_of instant = if has_instant instant then Ok (nanos_in instant) else Err statuses.InvalidInstant

-- an instant and a zone where there are both, or why not: the zone is looked at first
abbrev pub placed : Result ℤ Status → Result TimeZone Status → Result Place Status
placed (Ok nanos) (Ok zone) = Ok (nanos, zone)
placed (Err status) (Ok zone) = Err status
placed nanos (Err status) = Err status

-- the instant and the zone of a moment
abbrev pub place_of : Result Zoned Status → Result Place Status
place_of now = result_map_both (λ z. (zoned_nanos z, (plain_zoned z).time_zone)) (λ status. status) now

-- an instant and a zone of which this is known, or why there are not both
abbrev pub IsPlaced : (Result TimeZone Status → Type 0) → CInstant → Result Place Status → Type 0
IsPlaced IsZone instant place = (zone : Result TimeZone Status) × IsZone zone × (place ≡ placed (nanos_of instant) zone)

-- the moment of an instant in a zone of which this is known, or why there is none
abbrev pub IsNow : (Result TimeZone Status → Type 0) → CInstant → Result Zoned Status → Type 0
IsNow IsZone instant now = IsPlaced IsZone instant (place_of now)

-- the offset of a zone at an instant, where there are both
abbrev pub offset_at : Result Place Status → Result ℤ Status
offset_at place = result_map_both (λ p. zone_offset_at p.1 p.0) (λ status. status) place

-- the zone that always has this offset
unfoldable pub IsOffsetZone : ℤ → Result TimeZone Status → Type 0
IsOffsetZone offset zone =
    MatchResult zone (λ z. (o : Offset) × (o.seconds ≡ offset) × (z ≡ fixed_zone o))
    (λ status. (status ≡ statuses.InvalidZone) × (IsOffsetSeconds offset → ⊥))

-- what a text says of a zone, as C is told
abbrev pub IsSaid : (Option TimeZone → Type 0) → Result TimeZone Status → Type 0
IsSaid Says zone = MatchResult zone (λ z. Says (Some z)) (λ status. (status ≡ statuses.InvalidZone) × Says None)

-- the same of bytes that are text, or not
abbrev pub IsSaidByText : Bool → (Option TimeZone → Type 0) → Result TimeZone Status → Type 0
IsSaidByText true Says zone = IsSaid Says zone
IsSaidByText false Says zone = zone ≡ Err statuses.NotText

-- the zone that a text means by itself
abbrev pub IsTextZone : List ℕ → Result TimeZone Status → Type 0
IsTextZone text zone = IsSaidByText (is_utf8 text) (places.IsTextZone text) zone

-- the zone that a value of `TZ` means where no file says it
abbrev pub IsZoneWithoutFile : List ℕ → Result TimeZone Status → Type 0
IsZoneWithoutFile tz zone = IsSaidByText (is_utf8 tz) (places.IsZoneWithoutFile tz) zone

-- the status of a file that says no zone
abbrev pub table_status : TableError → Status
table_status tables.OutOfMemory = statuses.Memory
table_status tables.NotTzif = statuses.InvalidZone
table_status tables.CountsLeapSeconds = statuses.ZoneCountsLeapSeconds

-- the table of a file, or why there is none
abbrev pub IsTable : List ℕ → Result Tzif Status → Type 0
IsTable file (Ok table) = places.IsTable file (Ok table)
IsTable file (Err status) = (why : TableError) × places.IsTable file (Err why) × (status ≡ table_status why)

-- the zone by a table, where there is the table
abbrev pub IsTableZone : Result Tzif Status → Result TimeZone Status → Type 0
IsTableZone (Ok read) zone = (lent : Bor Tzif) × (lent.now ≡ read) × (zone ≡ Ok (Table lent))
IsTableZone (Err status) zone = zone ≡ Err status

-- the zone of a TZif file, or why there is none
abbrev pub IsFileZone : List ℕ → Result TimeZone Status → Type 0
IsFileZone file zone = (table : Result Tzif Status) × IsTable file table × IsTableZone table zone
