-- Where the zone stands that a value of `TZ` means, and which zone a text or a file means: as the C library has it.
use Rattle.std.specs.Prelude.{◌≡◌, ◌||◌, ◌&&◌, ◌==◌, ◌++◌, ◌+◌, ◌*◌, not, nat_le, ℕ, Bool, true, false, List, [], ◌∷◌, length, drop}
use Rattle.std.specs.Prelude.{is_some, Option, Some, None, Result, Ok, Err, IsOk, codes, if◌then◌else◌}
use Rattle.std.specs.Option.{option_or}
use Rattle.std.specs.Str.{bytes_eq}
use Rattle.gix_date.specs.Text.Characters.{colon}
use Rattle.jiff.specs.Types.{TimeZone, UTC, Posix}
use Rattle.jiff_core.specs.declared.error.Error.{Error as JiffError}
use Rattle.jiff_core.specs.declared.error.Error.TheVariants as jiff_errors
use Rattle.jiff_tz.specs.Database.{lower}
use Rattle.jiff_tz.specs.PosixReader.{read_whole}
use Rattle.jiff_tz.specs.PosixText.{TzText, tz_view}
use Rattle.jiff_tz.specs.Tzif.{tzif_view, IsParseFailure, IsRefused}
use Rattle.jiff_tz.specs.TzifReader.{header_at, read_tzif}
use Rattle.jiff_tz.specs.declared.tzif.Tzif.{Tzif}
use Rattle.git_date.specs.Rules.Groups.{slash}
use Rattle.git_date.specs.declared.zone_texts.TheConstants.{MACHINE_ZONE, MAX_DATELESS, ZONE_FOLDER}
use Rattle.git_date.specs.declared.zone_texts.TheConstants.{HEADER_LEN}
use Rattle.git_date.specs.declared.zone_texts.TableError.{TableError}
use Rattle.git_date.specs.declared.zone_texts.TableError.TheVariants.{OutOfMemory, NotTzif, CountsLeapSeconds}

-- a colon in front of a value of `TZ` says nothing
abbrev pub without_colon : List ℕ → List ℕ
without_colon [] = []
without_colon (b ∷ bs) = if b == colon then bs else b ∷ bs

-- a path from the root
abbrev pub is_absolute : List ℕ → Bool
is_absolute [] = false
is_absolute (b ∷ bs) = b == slash

-- the folder of a name: none of a path from the root, or else the one that is said, or else the system's
abbrev pub folder_of : List ℕ → List ℕ → List ℕ
folder_of name folder = if is_absolute name then [] else if length folder == 0 then ZONE_FOLDER.now else folder

-- the name of the file that a value of `TZ` means, if it is neither nothing nor a rule
unfoldable pub file_of : List ℕ → Option (List ℕ)
file_of tz =
    let name = without_colon tz in if length name == 0 || is_some (read_whole name) then None else Some name

-- a name of UTC, which needs no file
abbrev pub is_utc : List ℕ → Bool
is_utc name = bytes_eq (lower name) (codes "utc") || bytes_eq (lower name) (codes "gmt")

-- those of the United States: from the second Sunday of March to the first of November
abbrev pub us_dates : List ℕ
us_dates = codes ",M3.2.0,M11.1.0"

-- the rule of a text; one without dates has those of the United States
unfoldable pub rule_of : List ℕ → Option TzText
rule_of text =
    option_or (read_whole text) (if nat_le (length text) MAX_DATELESS then read_whole (text ++ us_dates) else None)

-- the zone of a rule
abbrev pub IsRule : Option TzText → TimeZone → Type 0
IsRule rule (Posix zone) = rule ≡ Some (tz_view zone)
IsRule rule zone = ⊥

-- the zone that a text means by itself: UTC by its name, or that of a rule
abbrev pub IsUtcOrRule : Bool → List ℕ → Option TimeZone → Type 0
IsUtcOrRule true text zone = zone ≡ Some UTC
IsUtcOrRule false text (Some zone) = IsRule (rule_of text) zone
IsUtcOrRule false text None = rule_of text ≡ None

-- the same of a text: which of both it is says its name
abbrev pub IsTextZone : List ℕ → Option TimeZone → Type 0
IsTextZone text zone = IsUtcOrRule (is_utc text) text zone

-- The zone that a value of `TZ` means where no file says it. Without a text, and for the machine's file, that is UTC.
abbrev pub IsZoneWithoutFile : List ℕ → Option TimeZone → Type 0
IsZoneWithoutFile tz zone =
    let name = without_colon tz in
    IsUtcOrRule (length name == 0 || bytes_eq name MACHINE_ZONE.now || is_utc name) name zone

-- how many bytes stand between a header and the next, where times have four bytes
unfoldable pub data_len : List ℕ → ℕ
data_len header =
    let h = header_at 4 header in 5 * h.time_count + 6 * h.type_count + h.char_count + 8 * h.leap_count + h.std_count + h.utc_count

-- a header that says leap seconds
abbrev pub says_leap_seconds : List ℕ → Bool
says_leap_seconds block = nat_le HEADER_LEN (length block) && not ((header_at 4 block).leap_count == 0)

-- what stands behind the first header and its data
unfoldable pub behind_first : List ℕ → List ℕ
behind_first file = drop (HEADER_LEN + data_len file) file

-- A file of the first version has one header, and in others the second counts (RFC 9636).
unfoldable pub counts_leap_seconds : List ℕ → Bool
counts_leap_seconds file =
    nat_le HEADER_LEN (length file) && says_leap_seconds (if (header_at 4 file).version == 0 then file else behind_first file)

-- why a file is refused that `jiff` refuses
abbrev pub table_error : JiffError → TableError
table_error jiff_errors.OutOfMemory = OutOfMemory
table_error _ = NotTzif

-- a refusal of `jiff`; memory runs out only for a file that can be read
abbrev pub IsNoTable : List ℕ → TableError → Type 0
IsNoTable file why = (e : JiffError) × IsParseFailure e file × IsRefused {A = Tzif} (read_tzif file) (Err e) × (why ≡ table_error e)

-- the table of a file that counts no leap seconds, or why there is none
abbrev pub IsTable : List ℕ → Result Tzif TableError → Type 0
IsTable file (Ok table) = (read_tzif file ≡ Ok (tzif_view table)) × (counts_leap_seconds file ≡ false)
IsTable file (Err CountsLeapSeconds) = IsOk (read_tzif file) × (counts_leap_seconds file ≡ true)
IsTable file (Err why) = IsNoTable file why
