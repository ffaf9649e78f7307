-- The words of definitions. Made by scripts/words.
pub mod Careful
pub mod Found
pub mod Git
pub mod Handles
pub mod Idents
pub mod Laws
pub mod Lines
pub mod Moments
pub mod Parsing
pub mod Printing
pub mod Reading
pub mod Signatures
pub mod Values
pub mod Zones
unfoldable pub use Careful.{without_offset_of, texts_of, options_of, refusal_of, IsTextParsedCarefully, IsParsedByOptions}
unfoldable pub use Careful.{IsParsedCarefully}
unfoldable pub use Found.{joined, path_of, path_answer, IsLeft, IsFound, Finds}
unfoldable pub use Git.Ages.{counted, age_for_c, age_at}
unfoldable pub use Git.Dates.{date_refusal, ignored_place, bool_for_c, exact_of, approximate_of, expiry_of, IsExact, IsApproximate}
unfoldable pub use Git.Dates.{IsExpiry}
unfoldable pub use Git.Formats.{format_refusal, checked_bytes, IsTextAnswer, IsByFormat, IsByFormatAt, IsByFormatIn, text_of}
pub use Git.Formats.{Asked}
unfoldable pub use Git.Modes.{kinds, kind_numbered, kind_number, local_of, mode_of, mode_for_c, IsNumbered, mode_answer}
unfoldable pub use Git.Modes.{shown_answer, shown_at, IsShownIn}
unfoldable pub use Git.Own.{own_status, own_answer, own_shown_at, IsOwnShownIn}
unfoldable pub use Handles.{held_owns, held_shown, kind_of}
unfoldable pub use Idents.{span_at, seconds_written, offset_written, git_time_for_c, load_git_time, time_shown, rest_at}
unfoldable pub use Idents.{ident_for_c, ident_answer, message_number, fsck_number, fsck_place, ident_status, ident_time_answer}
unfoldable pub use Idents.{ident_line_answer, as_is_answer}
unfoldable pub use Laws.{HasMomentsOf, HasPlacesOf, AreCopiesNamed, time_at, HoldsLine, LinesAreTexts, PartsStand}
unfoldable pub use Laws.{IdentLinesAreTold}
pub use Laws.{HoldsIdent}
pub use Lines.Blocks.{AreFirstLines, DoesLines, IsFirstRead, IsChecked, ChecksLines}
unfoldable pub use Lines.Columns.{room_of, changed, seconds_after, offset_after, status_after, columns_after, with_answer}
pub use Lines.Columns.{Columns}
unfoldable pub use Lines.Idents.{lesser_room, ident_room, placed_lines, span_in_block, parts_in_block, answer_in_block}
unfoldable pub use Lines.Idents.{ident_in_block, shown_seconds_after, shown_offset_after, idents_after, with_ident}
pub use Lines.Idents.{IdentColumns, FitsInBlock, TellsIdents}
unfoldable pub use Lines.Readers.{Moment, line_reader, for_c, IsDate, IsCareful, time_of, IsExactLine, IsApproximateLine}
unfoldable pub use Lines.Readers.{IsLineRead}
unfoldable pub use Moments.{Place, nanos_in, is_part, has_instant, nanos_of, placed, place_of, IsPlaced, IsNow, offset_at}
unfoldable pub use Moments.{IsOffsetZone, IsSaid, IsSaidByText, IsTextZone, IsZoneWithoutFile, table_status, IsTable, IsTableZone}
unfoldable pub use Moments.{IsFileZone}
unfoldable pub use Parsing.{raw_rule, refusal_status, IsTextParsed, IsParsedIf, IsParsedWithRule, IsParsed, IsParsedAt}
unfoldable pub use Parsing.{IsMomentFor, IsParsedThere, IsParsedIfPlaced, IsParsedIn}
unfoldable pub use Printing.{IsFormat, print_status, printed_text, IsPrinted, PrintsSo, PrintsPatternSo, IsFormatted}
unfoldable pub use Printing.{IsPatternPrinted}
unfoldable pub use Reading.{IfText, IsReadAt, IsReadIn, IsReadPlaced}
unfoldable pub use Signatures.{IsCutAnswer, spans_of, StoresParts, line_status, line_answer, part_put, line_of_pieces}
unfoldable pub use Values.Buffers.{as_usize, outcome, with_text, text_outcome, outcome_of, Puts, PutsRead, header_text_answer}
pub use Values.Buffers.{Outcome}
unfoldable pub use Values.Refusals.{refused, refused_at, with_status, place_after}
unfoldable pub use Values.Statuses.{number_of, if_text}
unfoldable pub use Values.Stores.{Stores, StoresRead}
unfoldable pub use Values.Times.{load_time, time_for_c, StoresTime, header_answer}
unfoldable pub use Zones.{is_file, IsHeld, IsHeldZone, IsCopy, IsCopyOf, IsZoneOf, IsZone, IsShown, HasZone, IsOffset, IsUtc}
unfoldable pub use Zones.{Shows, IsTaken, IsTakenCopy, Copies, IsRead, IsKept, IsHeldNamed, IsNamed, Names, Reads}
