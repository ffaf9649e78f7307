-- What `git fsck` says of an identity line.
use Rattle.std.specs.Prelude.{ℕ, ◌-◌, Bool, false, not, ◌==◌, ◌&&◌, nat_lt, List, [], ◌∷◌, length, drop, Option, option_map}
use Rattle.std.specs.Char.{is_ascii_digit}
use Rattle.std.specs.List.{list_any, list_all, find, before_first, after_first}
use Rattle.std.specs.Option.{option_map_or}
use Rattle.gix_date.specs.Text.Characters.{is_space, digit_zero}
use Rattle.gix_signature.specs.Ident.Bytes.{is_opening, is_closing, is_bracket, is_newline, is_nul, is_sign}
use Rattle.gix_signature.specs.Ident.Texts.{from_first, begins_with, ends_with}
use Rattle.gix_signature.specs.Ident.Times.{c_number, too_many_seconds}
use Rattle.gix_signature.specs.declared.fsck.FsckId.{FsckId}
use Rattle.gix_signature.specs.declared.fsck.FsckId.TheVariants.{NulInHeader, MissingNameBeforeEmail, BadName, MissingEmail}
use Rattle.gix_signature.specs.declared.fsck.FsckId.TheVariants.{MissingSpaceBeforeEmail, BadEmail, MissingSpaceBeforeDate, ZeroPaddedDate}
use Rattle.gix_signature.specs.declared.fsck.FsckId.TheVariants.{BadDateOverflow, BadDate, BadTimezone}
use Rattle.gix_signature.specs.declared.fsck.FsckFault.{FsckFault}

-- what stands from the first bracket on
abbrev pub from_bracket : List ℕ → List ℕ
from_bracket line = from_first is_bracket line

-- what stands from the next bracket after the first `<` on
abbrev pub from_next_bracket : List ℕ → List ℕ
from_next_bracket line = from_first is_bracket (after_first is_opening line)

-- what stands after that bracket
abbrev pub after_email : List ℕ → List ℕ
after_email line = drop 1 (from_next_bracket line)

-- what stands after that bracket and one byte more
abbrev pub fsck_date : List ℕ → List ℕ
fsck_date line = drop 1 (after_email line)

-- `0`
abbrev pub is_zero : ℕ → Bool
is_zero c = c == digit_zero

-- the number there, if any, passes a test of it and of what stands after it
abbrev pub number_is : (ℕ → List ℕ → Bool) → List ℕ → Bool
number_is passes text = option_map_or (λ found. passes found.0 found.1) (c_number text) false

-- what stands after the number there and one byte more, or all without a number
abbrev pub after_number : List ℕ → List ℕ
after_number text = option_map_or (λ found. drop 1 found.1) (c_number text) text

-- a sign and four digits, and no more
abbrev pub is_fsck_zone : List ℕ → Bool
is_fsck_zone text = begins_with is_sign text && length text == 5 && list_all is_ascii_digit (drop 1 text)

-- what stands after the email and one byte has this fault, if the line has none of those before it
abbrev pub has_date_fault : List ℕ → FsckId → Bool
has_date_fault date ZeroPaddedDate = begins_with is_zero date && not (begins_with is_space (drop 1 date))
has_date_fault date BadDateOverflow = number_is (λ n rest. not (nat_lt n too_many_seconds)) date
has_date_fault date BadDate = not (number_is (λ n rest. begins_with is_space rest) date)
has_date_fault date BadTimezone = not (is_fsck_zone (after_number date))
has_date_fault date _ = false

-- the line has this fault, if it has none of those before it
abbrev pub has_fault : List ℕ → FsckId → Bool
has_fault line NulInHeader = list_any is_nul line
has_fault line MissingNameBeforeEmail = begins_with is_opening line
has_fault line BadName = begins_with is_closing (from_bracket line)
has_fault line MissingEmail = not (list_any is_bracket line)
has_fault line MissingSpaceBeforeEmail = not (ends_with is_space (before_first is_opening line))
has_fault line BadEmail = not (begins_with is_closing (from_next_bracket line))
has_fault line MissingSpaceBeforeDate = not (begins_with is_space (after_email line))
has_fault line id = has_date_fault (fsck_date line) id

-- what stands from the place of a fault on: the NUL, the bracket, the line's end, the date or the offset
abbrev pub from_fault : List ℕ → FsckId → List ℕ
from_fault line NulInHeader = from_first is_nul line
from_fault line MissingNameBeforeEmail = line
from_fault line BadName = from_bracket line
from_fault line MissingEmail = []
from_fault line MissingSpaceBeforeEmail = from_bracket line
from_fault line BadEmail = from_next_bracket line
from_fault line MissingSpaceBeforeDate = after_email line
from_fault line ZeroPaddedDate = fsck_date line
from_fault line BadDateOverflow = fsck_date line
from_fault line BadDate = fsck_date line
from_fault line BadTimezone = after_number (fsck_date line)

-- the faults in the order in which Git looks for them
abbrev pub fsck_ids : List FsckId
fsck_ids =
    NulInHeader ∷ MissingNameBeforeEmail ∷ BadName ∷ MissingEmail ∷ MissingSpaceBeforeEmail ∷ BadEmail ∷ MissingSpaceBeforeDate
    ∷ ZeroPaddedDate ∷ BadDateOverflow ∷ BadDate ∷ BadTimezone ∷ []

-- the first fault of a line without line feeds
unfoldable pub first_fault : List ℕ → Option FsckId
first_fault line = find (has_fault line) fsck_ids

-- a fault of a line, and how many bytes of the line stand before its place
abbrev pub fault_at : List ℕ → FsckId → FsckFault
fault_at line id = record { id = id; place = length line - length (from_fault line id) }

-- the first fault of what stands after the email and one byte, if the line has none before it
unfoldable pub first_date_fault : List ℕ → Option FsckId
first_date_fault date = find (has_date_fault date) fsck_ids

-- what `git fsck` says of the line at the front of a text, which ends at its first line feed: its first fault, and the place
unfoldable pub fsck_of : List ℕ → Option FsckFault
fsck_of text = option_map (fault_at (before_first is_newline text)) (first_fault (before_first is_newline text))
