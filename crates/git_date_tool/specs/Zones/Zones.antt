-- Which zone a command line asks for. Offsets and rules are zones by their text alone. Of files no contract can say what the system has:
-- the
-- bytes of a file are some that it gave.
use Rattle.std.specs.Prelude.{◌≡◌, ◌⊎◌, ℕ, ◌≤◌, List, length, ℤ, Option, Some, None, Ok, IsSome}
use Rattle.jiff.specs.Placed.{fixed_zone}
use Rattle.jiff.specs.Types.{Offset, TimeZone}
use Rattle.jiff.specs.ZoneView.{plain_zone}
use Rattle.jiff_tz.specs.System.{IsTable as IsTableZone}
use Rattle.jiff_tz.specs.declared.tzif.Tzif.{Tzif}
use Rattle.git_date.specs.Exact.Places.{IsTable, IsZoneWithoutFile, file_of}
use Rattle.git_date.specs.Exact.ZoneTexts.{zone_offset}
use Rattle.git_date_tool.specs.declared.zones.TheConstants.{MAX_FILE_BYTES}
use Rattle.git_date_tool.specs.declared.zones.ZoneSource.{ZoneSource}
use Rattle.git_date_tool.specs.declared.zones.ZoneSource.TheVariants as sources
use Rattle.git_date_tool.specs.declared.zones.ZoneText.{ZoneText}
use Rattle.git_date_tool.specs.declared.zones.ZoneText.TheVariants as texts

-- the zone that always has this offset
unfoldable pub IsFixedAt : ℤ → TimeZone → Type 0
IsFixedAt seconds zone = (o : Offset) × (o.seconds ≡ seconds) × (zone ≡ fixed_zone o)

-- the zone of an offset, where there is one
abbrev pub IsOffsetZone : Option ℤ → Option TimeZone → Type 0
IsOffsetZone (Some seconds) (Some zone) = IsFixedAt seconds zone
IsOffsetZone None None = Unit {0}
IsOffsetZone _ _ = ⊥

-- the bytes of some file within the limit are this table
pub record IsOfFile (table : Tzif) : Type 0 where
  pub bytes : List ℕ
  pub fits : length bytes ≤ MAX_FILE_BYTES
  pub read : IsTable bytes (Ok table)

-- the zone is the table of some file
abbrev pub IsFileZone : TimeZone → Type 0
IsFileZone zone = (table : Tzif) × IsOfFile table × IsTableZone table (Ok zone)

-- the zone that a value of `TZ` means which names a file: that of the file, or else what it says by itself, as any other value does
abbrev pub IsNamedZone : Option (List ℕ) → List ℕ → TimeZone → Type 0
IsNamedZone (Some name) tz zone = IsFileZone zone ⊎ IsZoneWithoutFile tz (Some zone)
IsNamedZone None tz zone = IsZoneWithoutFile tz (Some zone)

-- the zone that ZONE means: that of an offset, or else as a value of `TZ`
abbrev pub IsTextZone : Option ℤ → List ℕ → TimeZone → Type 0
IsTextZone (Some seconds) text zone = IsFixedAt seconds zone
IsTextZone None text zone = IsNamedZone (file_of text) text zone

-- the zone that is asked for: by ZONE, or else by some value of `TZ`
abbrev pub IsAskedZone : Option (List ℕ) → TimeZone → Type 0
IsAskedZone (Some text) zone = IsTextZone (zone_offset text) text zone
IsAskedZone None zone = (tz : List ℕ) × IsNamedZone (file_of tz) tz zone

-- only a name may lack a zone
abbrev pub IsName : List ℕ → Type 0
IsName text = IsSome (file_of text)

-- a name, or nothing, and no offset
abbrev pub MayLackText : List ℕ → Type 0
MayLackText text = (zone_offset text ≡ None) × ((length text ≡ 0) ⊎ IsName text)

-- the zone that is asked for is that of a file, or of the system
abbrev pub NeedsSystem : Option (List ℕ) → Type 0
NeedsSystem (Some text) = MayLackText text
NeedsSystem None = Unit {0}

-- the text is that of the option exactly if one was given
abbrev pub IsTextOf : Option (List ℕ) → ZoneText → Type 0
IsTextOf asked (texts.Zone text) = asked ≡ Some text.now
IsTextOf asked _ = asked ≡ None

-- what the zone is taken from that a text says by itself
abbrev pub IsSaidSource : List ℕ → ZoneSource → Type 0
IsSaidSource tz (sources.Plain zone) = IsZoneWithoutFile tz (Some (plain_zone zone))
IsSaidSource tz (sources.Table table) = ⊥

-- what the zone of a file is taken from
abbrev pub IsFileSource : ZoneSource → Type 0
IsFileSource (sources.Plain zone) = ⊥
IsFileSource (sources.Table table) = IsOfFile table

-- what the zone of a value of `TZ` is taken from
abbrev pub IsNamedSource : Option (List ℕ) → List ℕ → ZoneSource → Type 0
IsNamedSource (Some name) tz source = IsFileSource source ⊎ IsSaidSource tz source
IsNamedSource None tz source = IsSaidSource tz source

-- what the zone of an offset is taken from
abbrev pub IsFixedSource : ℤ → ZoneSource → Type 0
IsFixedSource seconds (sources.Plain zone) = IsFixedAt seconds (plain_zone zone)
IsFixedSource seconds (sources.Table table) = ⊥

-- what the zone of ZONE is taken from
abbrev pub IsTextSource : Option ℤ → List ℕ → ZoneSource → Type 0
IsTextSource (Some seconds) text source = IsFixedSource seconds source
IsTextSource None text source = IsNamedSource (file_of text) text source

-- what the zone of whose text is taken from
abbrev pub IsSourceOf : ZoneText → ZoneSource → Type 0
IsSourceOf (texts.Zone text) source = IsTextSource (zone_offset text.now) text.now source
IsSourceOf (texts.Tz text) source = IsNamedSource (file_of text.now) text.now source
IsSourceOf texts.Machine source = (tz : List ℕ) × IsNamedSource (file_of tz) tz source
IsSourceOf _ source = ⊥

-- Which texts may lack a zone. That of the machine may.
abbrev pub MayLackZone : ZoneText → Type 0
MayLackZone (texts.Zone text) = MayLackText text.now
MayLackZone (texts.Tz text) = IsName text.now
MayLackZone _ = Unit {0}

-- the zone that is taken from there
abbrev pub IsTaken : ZoneSource → TimeZone → Type 0
IsTaken (sources.Plain zone) taken = taken ≡ plain_zone zone
IsTaken (sources.Table table) taken = IsTableZone table (Ok taken)
