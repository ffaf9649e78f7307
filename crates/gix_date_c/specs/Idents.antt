-- Identity lines, as C has them.
use Rattle.std.specs.Prelude.{ℕ, ◌-◌, ◌==◌, Bool, not, List, [], length, pos, Option, Some, None, is_some, option_map, Result, ok_or}
use Rattle.std.specs.Option.{option_map_or}
use Rattle.std.specs.Result.{result_map_both}
use Rattle.gix_date.specs.declared.time.Time.{Time}
use Rattle.gix_signature.specs.Ident.Texts.{whole_line}
use Rattle.gix_signature.specs.Ident.Parts.{DateText, IdentText, ident_parts, ident_places}
use Rattle.gix_signature.specs.Ident.Times.{git_time, time_of_git}
use Rattle.gix_signature.specs.Ident.Due.{ident_due}
use Rattle.gix_signature.specs.Ident.Again.{is_line_of, as_is_due}
use Rattle.gix_signature.specs.declared.error.IdentFault.{IdentFault}
use Rattle.gix_signature.specs.declared.error.IdentFault.TheVariants as faults
use Rattle.gix_signature.specs.declared.fsck.FsckFault.{FsckFault}
use Rattle.gix_signature.specs.declared.fsck.FsckId.{FsckId}
use Rattle.gix_signature.specs.declared.fsck.FsckId.TheVariants as messages
use Rattle.gix_signature.specs.declared.ident.IdentPlaces.{IdentPlaces}
use Rattle.gix_signature.specs.declared.ident.GitTime.{GitTime}
use Rattle.gix_date_c.specs.Git.Dates.{bool_for_c}
use Rattle.gix_date_c.specs.Signatures.{line_status}
use Rattle.gix_date_c.specs.declared.ident.CGitTime.{CGitTime}
use Rattle.gix_date_c.specs.declared.ident.CIdent.{CIdent}
use Rattle.gix_date_c.specs.declared.signature.CSpan.{CSpan}
use Rattle.gix_date_c.specs.declared.values.status.Status.{Status}
use Rattle.gix_date_c.specs.declared.values.status.Status.TheVariants as statuses

-- a part that stands there
abbrev pub span_at : ℕ → List ℕ → CSpan
span_at start part = record { start = start; len = length part }

-- the seconds of a date as they are written, and nothing where there is no date
abbrev pub seconds_written : Option DateText → List ℕ
seconds_written date = option_map_or (λ d. d.seconds) date []

-- the offset of a date as it is written, and nothing where there is no date
abbrev pub offset_written : Option DateText → List ℕ
offset_written date = option_map_or (λ d. d.offset) date []

-- a time of Git as C has it
abbrev pub git_time_for_c : GitTime → CGitTime
git_time_for_c t = record { seconds = t.seconds; offset = t.offset; minus_zero = bool_for_c t.minus_zero }

-- a time of Git that C has; each number but 0 says that a minus stands before 0
abbrev pub load_git_time : CGitTime → GitTime
load_git_time t = record { seconds = t.seconds; offset = t.offset; minus_zero = not (t.minus_zero == 0) }

-- the time that Git shows of a date, and the epoch where there is none
abbrev pub time_shown : Option DateText → CGitTime
time_shown (Some date) = git_time_for_c (git_time date)
time_shown None = record { seconds = pos 0; offset = pos 0; minus_zero = 0 }

-- what stands after the email and its `>`, up to the line's end
abbrev pub rest_at : IdentPlaces → CSpan
rest_at at = record { start = at.rest; len = at.end - at.rest }

-- the parts of a line at their places, the time that Git shows, and whether the line is written again of these
abbrev pub ident_for_c : IdentPlaces → Bool → IdentText → CIdent
ident_for_c at is_back i =
    record {
      name = span_at 0 i.name;
      email = span_at at.email i.email;
      rest = rest_at at;
      seconds = span_at at.seconds (seconds_written i.date);
      offset = span_at at.offset (offset_written i.date);
      shown = time_shown i.date;
      has_date = bool_for_c (is_some i.date);
      comes_back = bool_for_c is_back;
    }

-- what Git shows of a line
abbrev pub ident_answer : List ℕ → Result CIdent Status
ident_answer text =
    ok_or (option_map (λ i. ident_for_c (ident_places text) (is_line_of (whole_line text) i) i) (ident_parts text)) statuses.NoIdentity

-- the number of a message, which the header has under the same name
abbrev pub message_number : FsckId → ℕ
message_number messages.NulInHeader = 1
message_number messages.MissingNameBeforeEmail = 2
message_number messages.BadName = 3
message_number messages.MissingEmail = 4
message_number messages.MissingSpaceBeforeEmail = 5
message_number messages.BadEmail = 6
message_number messages.MissingSpaceBeforeDate = 7
message_number messages.ZeroPaddedDate = 8
message_number messages.BadDateOverflow = 9
message_number messages.BadDate = 10
message_number messages.BadTimezone = 11

-- the number of what fsck says, and 0 where it says nothing
abbrev pub fsck_number : Option FsckFault → ℕ
fsck_number found = option_map_or (λ fault. message_number fault.id) found 0

-- the place that a call leaves: that of the fault, and else what was there
abbrev pub fsck_place : Option FsckFault → ℕ → ℕ
fsck_place found old = option_map_or (λ fault. fault.place) found old

-- the status of a refusal; a buffer that is written to has no fault but its end
abbrev pub ident_status : IdentFault → Status
ident_status faults.NulInPart = statuses.NulInPart
ident_status faults.EmptyName = statuses.EmptyName
ident_status faults.OnlyCrud = statuses.OnlyCrud
ident_status faults.BeforeEpoch = statuses.BeforeEpoch
ident_status faults.OffsetTooWide = statuses.OffsetTooWide
ident_status (faults.Write _) = statuses.NoRoom

-- the time of what Git shows
abbrev pub ident_time_answer : CGitTime → Result Time Status
ident_time_answer t = result_map_both (λ time. time) ident_status (time_of_git (load_git_time t))

-- the line that Git writes of a name, an email and a time
abbrev pub ident_line_answer : List ℕ → List ℕ → Time → Result (List ℕ) Status
ident_line_answer name email t = result_map_both (λ line. line) ident_status (ident_due name email t)

-- the line of a name and an email as they are
abbrev pub as_is_answer : List ℕ → List ℕ → GitTime → Result (List ℕ) Status
as_is_answer name email t = result_map_both (λ line. line) line_status (as_is_due name email t)
