-- The formatted dates: what a time answers that was read of one, and of each the pieces and what it answers of a whole
-- text.
use Rattle.std.specs.Prelude.{◌≡◌, ℕ, List, [], ◌∷◌, pos, nat_lt, ℤ, unsigned_abs, if◌then◌else◌, Option, Some, None, option_map, unwrap_or}
use Rattle.std.specs.Prelude.{◌↔◌}
use Rattle.gix_date.specs.Families.Answer.{FamilyAnswer, Absolute, NoInstant, OffsetAboveDay}
use Rattle.gix_date.specs.Fields.Civil.{is_date, civil_instant}
use Rattle.gix_date.specs.Families.Epoch.{utc_time}
use Rattle.gix_date.specs.Text.Front.{◌>>=◌}
use Rattle.gix_date.specs.Fields.Layout.{LocalTime, Piece, DayName, Rfc2822DayName, MonthName, Day, Year, PlainDate, Clock, Rfc2822Clock}
use Rattle.gix_date.specs.Fields.Layout.{Spaces, LetterT, Offset, ColonOffset, Rfc2822Offset, layout_answer, ArePieces}
use Rattle.gix_date.specs.declared.time.TheConstants.{MAX_OFFSET_IN_SECONDS}
use Rattle.gix_date.specs.declared.clock.ClockFields.{ClockFields}
use Rattle.gix_date.specs.declared.clock.DateFields.{DateFields}

-- the widest offset of a formatted date's time, 86340 seconds: 23:59
abbrev pub max_date_offset : ℕ
max_date_offset = MAX_OFFSET_IN_SECONDS

-- What a formatted date answers, where there is such an instant: an offset beyond 23:59 is a refusal.
unfoldable pub date_answer : DateFields → ClockFields → ℤ → Option FamilyAnswer
date_answer date clock offset = do
  seconds ← civil_instant date clock offset
  if nat_lt max_date_offset (unsigned_abs offset) then Some OffsetAboveDay
      else Some (Absolute (record { seconds = seconds; offset = offset }))

-- a formatted date's answer: its instant and offset, or `OffsetAboveDay`; `None` without an instant
abbrev pub time_answer : LocalTime → Option FamilyAnswer
time_answer t = date_answer t.date t.clock t.offset

-- the first second of a day
abbrev pub midnight : ClockFields
midnight = record { hour = 0; minute = 0; second = 0 }

-- what a day alone answers: its midnight in UTC, where it is an instant
abbrev pub day_answer : DateFields → FamilyAnswer
day_answer date =
    unwrap_or (option_map (λ seconds. Absolute (utc_time seconds)) (civil_instant date midnight (pos 0))) NoInstant

-- a day's answer: its midnight in UTC, or `NoInstant`; `None` if the calendar has no such day
abbrev pub real_day_answer : LocalTime → Option FamilyAnswer
real_day_answer t = if is_date t.date then Some (day_answer t.date) else None

-- the pieces of a day: `YYYY-M-D`
abbrev pub short_layout : List Piece
short_layout = PlainDate ∷ []

-- what `Short` answers for the text
unfoldable pub short_answer : List ℕ → Option FamilyAnswer
short_answer text = layout_answer short_layout real_day_answer text

-- the pieces of RFC 2822: `Www, D Mmm YYYY h:m:s Z`, where the day's name and the seconds may be left out, and Z may be
-- a name
abbrev pub rfc2822_layout : List Piece
rfc2822_layout =
    Rfc2822DayName ∷ Day ∷ Spaces ∷ MonthName ∷ Spaces ∷ Year ∷ Spaces ∷ Rfc2822Clock ∷ Spaces ∷ Rfc2822Offset ∷ []

-- what `Rfc2822` answers for the text
unfoldable pub rfc2822_answer : List ℕ → Option FamilyAnswer
rfc2822_answer text = layout_answer rfc2822_layout time_answer text

-- the pieces of ISO 8601: `YYYY-M-D h:m:s Z`
abbrev pub iso8601_layout : List Piece
iso8601_layout = PlainDate ∷ Spaces ∷ Clock ∷ Spaces ∷ Offset ∷ []

-- what `Iso8601` answers for the text
unfoldable pub iso8601_answer : List ℕ → Option FamilyAnswer
iso8601_answer text = layout_answer iso8601_layout time_answer text

-- the pieces of strict ISO 8601: `YYYY-M-DTh:m:sZ`, with colons between the pairs of Z
abbrev pub iso8601_strict_layout : List Piece
iso8601_strict_layout = PlainDate ∷ LetterT ∷ Clock ∷ ColonOffset ∷ []

-- what `Iso8601Strict` answers for the text
unfoldable pub iso8601_strict_answer : List ℕ → Option FamilyAnswer
iso8601_strict_answer text = layout_answer iso8601_strict_layout time_answer text

-- the pieces of gitoxide's date: `Www Mmm D YYYY h:m:s Z`
abbrev pub gitoxide_layout : List Piece
gitoxide_layout =
    DayName ∷ Spaces ∷ MonthName ∷ Spaces ∷ Day ∷ Spaces ∷ Year ∷ Spaces ∷ Clock ∷ Spaces ∷ Offset ∷ []

-- what `Gitoxide` answers for the text
unfoldable pub gitoxide_answer : List ℕ → Option FamilyAnswer
gitoxide_answer text = layout_answer gitoxide_layout time_answer text

-- the pieces of Git's default date: `Www Mmm D h:m:s YYYY Z`
abbrev pub default_layout : List Piece
default_layout =
    DayName ∷ Spaces ∷ MonthName ∷ Spaces ∷ Day ∷ Spaces ∷ Clock ∷ Spaces ∷ Year ∷ Spaces ∷ Offset ∷ []

-- what `Default` answers for the text
unfoldable pub default_answer : List ℕ → Option FamilyAnswer
default_answer text = layout_answer default_layout time_answer text

-- a formatted text with this answer: the text is the pieces of some time by this layout, and the time has this answer
-- by `of_time`
pub record IsMeaning (layout : List Piece) (of_time : LocalTime → Option FamilyAnswer) (text : List ℕ)
    (answer : FamilyAnswer) : Type 0 where
  pub time : LocalTime
  pub are : ArePieces layout time text
  pub comes : of_time time ≡ Some answer

-- the family gives an answer to a text iff `Is` holds of both
abbrev pub Accepts : {A : Type 0} → (List ℕ → Option A) → (List ℕ → A → Type 0) → Type 0
Accepts {A} family Is = (text : List ℕ) (answer : A) → (family text ≡ Some answer) ↔ Is text answer
