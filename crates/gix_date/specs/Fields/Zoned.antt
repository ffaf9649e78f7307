-- The moment that a time names, in jiff's words.
use Rattle.std.specs.Prelude.{◌≡◌, Bool, ◌&&◌, ℤ, pos, neg_ℤ, int_div}
use Rattle.std.specs.Int.Signed.{le_z}
use Rattle.jiff.specs.Words.{plain_zoned, zoned_nanos, fixed_zone, offset_at, nanos_of_seconds, IsBetween}
use Rattle.jiff.specs.Types.{Offset, TimeZone}
use Rattle.jiff.specs.declared.zoned.Zoned.{Zoned}
use Rattle.gix_date.specs.declared.time.Time.{Time}

-- the first whole second of `jiff`'s instants
abbrev pub first_second : ℤ
first_second = neg_ℤ (pos 377_705_023_201)

-- the last whole second of `jiff`'s instants
abbrev pub last_second : ℤ
last_second = pos 253_402_207_200

-- the most seconds that the offset of a zone has, either way
abbrev pub max_zone_offset : ℤ
max_zone_offset = pos 93_599

-- the time converts: its seconds are an instant's, and its offset is at most 93599 seconds either way
abbrev pub IsConvertible : Time → Type 0
IsConvertible t =
    IsBetween (neg_ℤ max_zone_offset) max_zone_offset t.offset × IsBetween first_second last_second t.seconds

-- these seconds are an instant's: from -377705023201 to 253402207200
abbrev pub is_instant : ℤ → Bool
is_instant seconds = le_z first_second seconds && le_z seconds last_second

-- whether a time converts
abbrev pub is_convertible : Time → Bool
is_convertible t = le_z (neg_ℤ max_zone_offset) t.offset && le_z t.offset max_zone_offset && is_instant t.seconds

-- the zoned value is the time's instant, in the zone that always has its offset
pub record IsMoment (t : Time) (z : Zoned) : Type 0 where
  pub instant : zoned_nanos z ≡ nanos_of_seconds t.seconds
  pub offset_is : (plain_zoned z).offset.seconds ≡ t.offset
  pub zone : (o : Offset) × (o.seconds ≡ t.offset) × ((plain_zoned z).time_zone ≡ fixed_zone o)

-- the whole seconds of an instant, cut towards 1970
abbrev pub whole_seconds : ℤ → ℤ
whole_seconds instant = int_div instant (pos 1_000_000_000)

-- an instant as a time in UTC: the whole seconds of an instant in nanoseconds, cut towards 1970, with offset 0
abbrev pub time_in_utc : ℤ → Time
time_in_utc instant = record { seconds = whole_seconds instant; offset = pos 0 }

-- an instant as a time in a zone: the whole seconds of an instant in nanoseconds, cut towards 1970, with the zone's
-- offset there
abbrev pub time_in : TimeZone → ℤ → Time
time_in zone instant = record { seconds = whole_seconds instant; offset = offset_at zone instant }
