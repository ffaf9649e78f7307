-- The words of definitions. Made by scripts/words.
pub mod Ident
pub mod Objects
pub mod Signature
pub mod Writing
unfoldable pub use Ident.Again.{line_as_is, as_is_due, is_line_of_date, is_line_of}
unfoldable pub use Ident.Bytes.{tab, vertical_tab, form_feed, carriage_return, quote, apostrophe, semicolon, backslash, is_opening}
unfoldable pub use Ident.Bytes.{is_closing, is_bracket, is_newline, is_nul, ends_line, is_blank, is_white, is_minus, is_sign}
unfoldable pub use Ident.Bytes.{is_control_or_space, is_crud_mark, is_crud, is_kept}
unfoldable pub use Ident.Due.{trimmed, cleaned, part_put, parts_put, cleaned_parts, dated_line, ident_due, WritesIdent}
unfoldable pub use Ident.Fsck.{from_bracket, from_next_bracket, after_email, fsck_date, is_zero, number_is, after_number}
unfoldable pub use Ident.Fsck.{is_fsck_zone, has_date_fault, has_fault, from_fault, fsck_ids, first_fault, fault_at}
unfoldable pub use Ident.Fsck.{first_date_fault, fsck_of}
unfoldable pub use Ident.Laws.{CutIsShown, minutes_kept, in_minutes, WrittenPasses, CanonicalPasses, AsIsIsShown, StandsAt}
unfoldable pub use Ident.Laws.{PlacesHold}
pub use Ident.Laws.{PassesAs, IsLineTime, ShowsAgain, HaveTheirPlaces}
unfoldable pub use Ident.Parts.{date_text_of, ident_text_of, has_identity, shown_name, shown_email, date_text, after_seconds}
unfoldable pub use Ident.Parts.{begins_with_offset, offset_at_front, date_parts, line_parts, ident_parts, after_shown_email}
unfoldable pub use Ident.Parts.{line_places, ident_places}
pub use Ident.Parts.{DateText, IdentText}
unfoldable pub use Ident.Texts.{whole_line, from_first, without_front, without_end, begins_with, ends_with, CutsFront}
unfoldable pub use Ident.Times.{too_many_seconds, least_offset, greatest_offset, kept_offset, seconds_shown, is_minus_zero}
unfoldable pub use Ident.Times.{git_time_at, git_time, hours_written, minutes_written, digits_from_two, offset_digits, offset_mark}
unfoldable pub use Ident.Times.{git_time_text, widest_minutes, minutes_told, with_sign_of, time_of_git, numbers_of_64_bits}
unfoldable pub use Ident.Times.{held_number, c_value, without_sign, number_at_front, c_number}
unfoldable pub use Ident.Usual.{most_digits, is_usual_number}
pub use Ident.Usual.{IsUsualDate, AreUsualParts, IsToldOf}
unfoldable pub use Objects.{is_filled, own_header, role_start, names, after_role, first_named, last_named, first_with, last_with}
unfoldable pub use Objects.{lines_from}
unfoldable pub use Signature.{opening, closing, newline, nul, is_allowed, is_part, parts_of, line_of, are_parts, HasNoCut, OneCut}
pub use Signature.{Parts, IsCut}
unfoldable pub use Writing.{Puts, parts_due, line_due, WritesLine}
pub use Writing.{IsWritten}
