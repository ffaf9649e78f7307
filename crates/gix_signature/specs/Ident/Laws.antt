-- What the laws of identity lines say.
use Rattle.std.specs.Prelude.{◌≡◌, ℕ, ◌*◌, ◌/◌, true, List, ◌∷◌, ◌++◌, length, take, drop, Some, None, IfSome, if◌then◌else◌, IsSomeAnd, Ok}
use Rattle.std.specs.Prelude.{IfOk, ℤ, pos, neg_ℤ, int_lt, ◌≤ℤ◌}
use Rattle.std.specs.Prelude.{unsigned_abs}
use Rattle.gix_date.specs.Fields.ClockNumbers.{seconds_per_minute}
use Rattle.gix_date.specs.Header.Canonical.{is_canonical_header}
use Rattle.gix_date.specs.Header.Reading.{header_time}
use Rattle.gix_date.specs.declared.time.Time.{Time}
use Rattle.gix_signature.specs.Signature.{Parts, IsCut, is_part, closing}
use Rattle.gix_signature.specs.Ident.Bytes.{is_blank}
use Rattle.gix_signature.specs.Ident.Texts.{whole_line, without_end}
use Rattle.gix_signature.specs.Ident.Parts.{DateText, IdentText, ident_parts, ident_places}
use Rattle.gix_signature.specs.Ident.Times.{git_time, time_of_git, kept_offset}
use Rattle.gix_signature.specs.Ident.Fsck.{fsck_of}
use Rattle.gix_signature.specs.Ident.Due.{cleaned, ident_due}
use Rattle.gix_signature.specs.Ident.Again.{line_as_is, is_line_of}
use Rattle.gix_signature.specs.declared.ident.GitTime.{GitTime}
use Rattle.gix_signature.specs.declared.ident.IdentPlaces.{IdentPlaces}

-- a line that is cut is shown with its email, and with its name but for blanks at the end
abbrev pub CutIsShown : List ℕ → Type 0
CutIsShown line =
    (p : Parts) → IsCut line p
    → IsSomeAnd (ident_parts line) (λ (i : IdentText). (i.name ≡ without_end is_blank p.name) × (i.email ≡ p.email))

-- `git fsck` says nothing of a line, and Git shows it with this name and email, and with a date of this time
pub record PassesAs (name email : List ℕ) (t : Time) (line : List ℕ) : Type 0 where
  pub date : DateText
  pub passes : fsck_of line ≡ None
  pub is_shown : ident_parts line ≡ Some (record { name = name; email = email; date = Some date })
  pub is_dated : time_of_git (git_time date) ≡ Ok t

-- the seconds of the whole minutes in an offset, without its sign
abbrev pub minutes_kept : ℤ → ℕ
minutes_kept offset = seconds_per_minute * (unsigned_abs offset / seconds_per_minute)

-- a time whose offset is cut to whole minutes, as it is written
abbrev pub in_minutes : Time → Time
in_minutes t =
    record {
      seconds = t.seconds;
      offset = if int_lt t.offset (pos 0) then neg_ℤ (pos (minutes_kept t.offset)) else pos (minutes_kept t.offset);
    }

-- a line that Git writes passes, and is shown with the cleaned name and email and the time
abbrev pub WrittenPasses : List ℕ → List ℕ → Time → Type 0
WrittenPasses name email t = IfOk (ident_due name email t) (PassesAs (cleaned name) (cleaned email) (in_minutes t))

-- a line that is cut passes and is shown with its time, if this is canonical and not before the epoch
abbrev pub CanonicalPasses : List ℕ → Type 0
CanonicalPasses line =
    (p : Parts) (t : Time) → IsCut line p → is_canonical_header p.time ≡ true → header_time p.time ≡ Some t
    → pos 0 ≤ℤ t.seconds → PassesAs (without_end is_blank p.name) p.email t line

-- a time that a line can say: seconds from 0, an offset that is kept, and a minus before an offset of 0 alone
pub record IsLineTime (t : GitTime) : Type 0 where
  pub from : pos 0 ≤ℤ t.seconds
  pub kept : kept_offset t.offset ≡ t.offset
  pub zero : t.minus_zero ≡ true → t.offset ≡ pos 0

-- a line is shown with this name and email and with a date of this time, and so comes back
pub record ShowsAgain (name email : List ℕ) (t : GitTime) (line : List ℕ) : Type 0 where
  pub date : DateText
  pub is_shown : ident_parts line ≡ Some (record { name = name; email = email; date = Some date })
  pub is_dated : git_time date ≡ t
  pub is_back : line ≡ line_as_is name email t
      → is_line_of (whole_line line) (record { name = name; email = email; date = Some date }) ≡ true

-- a line that is written as it is is shown with its email and time, and with its name but for blanks at the end
abbrev pub AsIsIsShown : List ℕ → List ℕ → GitTime → Type 0
AsIsIsShown name email t =
    is_part name ≡ true → is_part email ≡ true → IsLineTime t
    → ShowsAgain (without_end is_blank name) email t (line_as_is name email t)

-- a part stands at a place of a line
abbrev pub StandsAt : List ℕ → ℕ → List ℕ → Type 0
StandsAt line place part = take (length part) (drop place line) ≡ part

-- The parts that Git shows of a line stand at their places. The line is what stands before the email, the email, `>` and the rest.
pub record HaveTheirPlaces (line : List ℕ) (at : IdentPlaces) (i : IdentText) : Type 0 where
  pub name : StandsAt line 0 i.name
  pub whole : line ≡ take at.email line ++ (i.email ++ (closing ∷ drop at.rest line))
  pub date : IfSome i.date (λ (d : DateText). StandsAt line at.seconds d.seconds × StandsAt line at.offset d.offset)

-- the parts that Git shows of the line at the front of a text stand at their places
abbrev pub PlacesHold : List ℕ → Type 0
PlacesHold text = IfSome (ident_parts text) (HaveTheirPlaces (whole_line text) (ident_places text))
