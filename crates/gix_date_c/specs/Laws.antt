-- Laws of zones that C holds, and of calls for many lines.
use Rattle.std.specs.Prelude.{◌≡◌, ℕ, ◌<◌, pos, List, [], slice_get, slice_index, slice_index_or, option_map, IfSome, IfOk, Result}
use Rattle.std.specs.Result.{result_unwrap_or}
use Rattle.jiff.specs.declared.zoned.Zoned.{Zoned}
use Rattle.git_date.specs.Exact.ZoneTexts.{zone_offset}
use Rattle.gix_signature.specs.Ident.Fsck.{fsck_of}
use Rattle.gix_signature.specs.Ident.Laws.{StandsAt}
use Rattle.gix_signature.specs.Ident.Parts.{DateText, IdentText, ident_parts}
use Rattle.gix_date_c.specs.Idents.{fsck_number}
use Rattle.gix_date_c.specs.Lines.Blocks.{DoesLines}
use Rattle.gix_date_c.specs.Lines.Columns.{Columns, status_after}
use Rattle.gix_date_c.specs.Lines.Idents.{IdentColumns, TellsIdents, ident_in_block, shown_offset_after, shown_seconds_after}
use Rattle.gix_date_c.specs.Lines.Readers.{IsLineRead}
use Rattle.gix_date_c.specs.Moments.{IsNow, IsPlaced, Place}
use Rattle.gix_date_c.specs.Values.Statuses.{number_of}
use Rattle.gix_date_c.specs.Values.Stores.{Stores}
use Rattle.gix_date_c.specs.Zones.{Copies, IsNamed, IsShown, Names, Shows}
use Rattle.gix_date_c.specs.declared.ident.CIdent.{CIdent}
use Rattle.gix_date_c.specs.declared.lines.reader.LineReader.{LineReader}
use Rattle.gix_date_c.specs.declared.moment.CInstant.{CInstant}
use Rattle.gix_date_c.specs.declared.values.status.Status.{Status}
use Rattle.gix_date_c.specs.declared.values.status.Status.TheVariants.{Done}
use Rattle.gix_date_c.specs.declared.values.time.CTime.{CTime}
use Rattle.gix_date_c.specs.declared.handle.ShownZone.{ShownZone}
use Rattle.gix_date_c.specs.declared.zone.stored.CZone.{CZone}

-- where a zone means what a text names, a moment in it, as C shows it, is one in the zone that the text names
abbrev pub HasMomentsOf : List ℕ → CZone → ShownZone → Type 0
HasMomentsOf text zone shown =
    (instant : CInstant) (now : Result Zoned Status) → Names text zone → Shows zone shown → IsNow (IsShown shown) instant now
    → IsNow (IsNamed (zone_offset text) text) instant now

-- so is an instant with the zone beside it
abbrev pub HasPlacesOf : List ℕ → CZone → ShownZone → Type 0
HasPlacesOf text zone shown =
    (instant : CInstant) (place : Result Place Status) → Names text zone → Shows zone shown → IsPlaced (IsShown shown) instant place
    → IsPlaced (IsNamed (zone_offset text) text) instant place

-- a copy means what the text names by which the zone was read
unfoldable pub AreCopiesNamed : List ℕ → CZone → ShownZone → Type 0
AreCopiesNamed text zone shown =
    (old new : CZone) → Names text zone → Shows zone shown → Copies shown old new (number_of Done) → Names text new

-- the time in the cells of the line of this index
abbrev pub time_at : Columns → ℕ → CTime
time_at columns i =
    record { seconds = slice_index_or columns.seconds i (pos 0); offset = slice_index_or columns.offsets i (pos 0) }

-- these cells hold what the call for one text stores of this line, where they held something before
abbrev pub HoldsLine : LineReader → Columns → Columns → ℕ → List ℕ → Type 0
HoldsLine reader old new i line =
    (answer : Result CTime Status) × IsLineRead reader line answer
    × Stores answer (time_at old i) (time_at new i) (slice_index new.statuses i)

-- the cells of each line that a call has read hold it
abbrev pub LinesAreTexts : LineReader → Type 0
LinesAreTexts reader =
    (block : List ℕ) (old new : Columns) (done : ℕ × ℕ) (does : DoesLines (IsLineRead reader) block old new done) (i : ℕ)
    → i < done.0 → HoldsLine reader old new i (slice_index_or does.lines i [])

-- the parts that Git shows of an identity stand at their places in a block
abbrev pub PartsStand : List ℕ → IdentText → CIdent → Type 0
PartsStand block i parts =
    StandsAt block parts.name.start i.name × StandsAt block parts.email.start i.email
    × IfSome i.date (λ (d : DateText). StandsAt block parts.seconds.start d.seconds × StandsAt block parts.offset.start d.offset)

-- The identity line stands so in the block, and so do its parts. The cells of this index hold what the calls for one line tell of it, as
-- far
-- as arrays have them.
pub record HoldsIdent (block : List ℕ) (old new : IdentColumns) (i : ℕ) (line : ℕ × List ℕ) : Type 0 where
  pub stands : StandsAt block line.0 line.1
  pub parts_stand : IfSome (ident_parts line.1) (λ (i : IdentText). IfOk (ident_in_block line) (PartsStand block i))
  pub parts : slice_get new.parts i ≡ option_map (result_unwrap_or (ident_in_block line)) (slice_get old.parts i)
  pub seconds : slice_get new.seconds i ≡ option_map (shown_seconds_after (ident_in_block line)) (slice_get old.seconds i)
  pub offsets : slice_get new.offsets i ≡ option_map (shown_offset_after (ident_in_block line)) (slice_get old.offsets i)
  pub messages : slice_get new.messages i ≡ option_map (λ cell. fsck_number (fsck_of line.1)) (slice_get old.messages i)
  pub statuses : slice_get new.statuses i ≡ option_map (status_after (ident_in_block line)) (slice_get old.statuses i)

-- each identity line that a call has told of stands somewhere in the block, and the cells of its index hold it
unfoldable pub IdentLinesAreTold : Type 0
IdentLinesAreTold =
    (block : List ℕ) (old new : IdentColumns) (done : ℕ × ℕ) (tells : TellsIdents block old new done) (i : ℕ) → i < done.0
    → (before : ℕ) × HoldsIdent block old new i (before, slice_index_or tells.lines i [])
