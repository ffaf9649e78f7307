-- Formatted dates as lists of pieces: one list says how a text is read, which texts are written so, and what is
-- printed.
use Rattle.std.specs.Prelude.{◌≡◌, ℕ, ℤ, pos, List, [], ◌∷◌, ◌++◌, ◌⊎◌, if◌then◌else◌, Option, Some, None, unwrap_or}
use Rattle.gix_date.specs.Text.Characters.{space, comma, letter_t}
use Rattle.gix_date.specs.Text.Front.{ReadFront, skip_char, ◌>>=◌}
use Rattle.gix_date.specs.Fields.FieldTexts.{IsField, IsYear, AreSpaces, IsDayName, IsMonthName, IsPlainDate, IsClock, IsRfc2822Clock}
use Rattle.gix_date.specs.Fields.FieldTexts.{IsDayPrefix, four_digits, date_text, clock_text}
use Rattle.gix_date.specs.Fields.Offsets.{compact_offset_text}
use Rattle.gix_date.specs.Text.Names.{day_name, month_name}
use Rattle.gix_date.specs.Text.Numbers.{read_field, read_year}
use Rattle.gix_date.specs.Fields.DateFields.{skip_day_name, skip_spaces, skip_weekday, read_month, read_plain_date, read_clock}
use Rattle.gix_date.specs.Fields.DateFields.{read_rfc2822_clock}
use Rattle.gix_date.specs.Fields.DateOffsets.{compact_offset, strict_offset, rfc2822_zone, strict_offset_text}
use Rattle.gix_date.specs.Text.SpaceWords.{is_nonempty}
use Rattle.gix_date.specs.declared.clock.ClockFields.{ClockFields}
use Rattle.gix_date.specs.declared.clock.DateFields.{DateFields}

-- the fields of a date: `year`, `month` and `day`, under a name that another crate can import
abbrev pub LocalDate : Type 0
LocalDate = DateFields

-- the fields of a clock: `hour`, `minute` and `second`, under a name that another crate can import
abbrev pub LocalClock : Type 0
LocalClock = ClockFields

-- what a formatted date says: the day of the week (0 is Monday), the date, the clock, and the offset in seconds
pub record LocalTime : Type 0 where
  pub weekday : ℕ
  pub date : DateFields
  pub clock : ClockFields
  pub offset : ℤ

-- the pieces of formatted dates
pub data Piece : Type 0 where
  -- `Www`
  DayName : Piece
  -- `Www, `, which may be left out
  Rfc2822DayName : Piece
  -- `Mmm`
  MonthName : Piece
  -- the day of the month, one digit or two
  Day : Piece
  -- four digits
  Year : Piece
  -- `YYYY-M-D`
  PlainDate : Piece
  -- `h:m:s`
  Clock : Piece
  -- `h:m:s` or `h:m`
  Rfc2822Clock : Piece
  -- one space or more
  Spaces : Piece
  -- `T`
  LetterT : Piece
  -- `+hhmm`, or with seconds
  Offset : Piece
  -- `+hh:mm`, or with seconds
  ColonOffset : Piece
  -- `+hhmm`, or a zone's name
  Rfc2822Offset : Piece

-- How a piece is read off the front of a text: `t` is what was read before it, and the answer is `t` with what the
-- piece tells, and the rest of the text. A day's name may be any and is not kept; an offset is all that is left of the
-- text.
abbrev pub read_piece : Piece → LocalTime → List ℕ → ReadFront LocalTime
read_piece DayName t text = skip_weekday text >>= λ rest. Some (t, rest)
read_piece Rfc2822DayName t text = Some (t, unwrap_or (skip_day_name text) text)
read_piece MonthName t text =
    read_month text >>= λ month. Some (record t { date = record t.date { month = month.0 } }, month.1)
read_piece Day t text = read_field text >>= λ day. Some (record t { date = record t.date { day = day.0 } }, day.1)
read_piece Year t text = read_year text >>= λ year. Some (record t { date = record t.date { year = year.0 } }, year.1)
read_piece PlainDate t text = read_plain_date text >>= λ date. Some (record t { date = date.0 }, date.1)
read_piece Clock t text = read_clock text >>= λ clock. Some (record t { clock = clock.0 }, clock.1)
read_piece Rfc2822Clock t text = read_rfc2822_clock text >>= λ clock. Some (record t { clock = clock.0 }, clock.1)
read_piece Spaces t text = skip_spaces text >>= λ rest. Some (t, rest)
read_piece LetterT t text = skip_char letter_t text >>= λ rest. Some (t, rest)
read_piece Offset t text = compact_offset text >>= λ offset. Some (record t { offset = offset }, [])
read_piece ColonOffset t text = strict_offset text >>= λ offset. Some (record t { offset = offset }, [])
read_piece Rfc2822Offset t text = rfc2822_zone text >>= λ offset. Some (record t { offset = offset }, [])

-- pieces, one after the other, and nothing after the last
abbrev pub read_pieces : List Piece → LocalTime → List ℕ → Option LocalTime
read_pieces [] t text = if is_nonempty text then None else Some t
read_pieces (piece ∷ pieces) t text = read_piece piece t text >>= λ read. read_pieces pieces read.0 read.1

-- before the first piece
abbrev pub nothing_read : LocalTime
nothing_read = record {
  weekday = 0;
  date = record { year = 0; month = 0; day = 0 };
  clock = record { hour = 0; minute = 0; second = 0 };
  offset = pos 0;
}

-- a whole text is read by a layout, and what was read is answered
abbrev pub layout_answer : {B : Type 0} → List Piece → (LocalTime → Option B) → List ℕ → Option B
layout_answer layout answer text = read_pieces layout nothing_read text >>= answer

-- the text is this piece of the time
abbrev pub IsPiece : Piece → LocalTime → List ℕ → Type 0
IsPiece DayName t text = IsDayName text
IsPiece Rfc2822DayName t text = (text ≡ []) ⊎ IsDayPrefix text
IsPiece MonthName t text = IsMonthName text t.date.month
IsPiece Day t text = IsField text t.date.day
IsPiece Year t text = IsYear text t.date.year
IsPiece PlainDate t text = IsPlainDate text t.date
IsPiece Clock t text = IsClock text t.clock
IsPiece Rfc2822Clock t text = IsRfc2822Clock text t.clock
IsPiece Spaces t text = AreSpaces text
IsPiece LetterT t text = text ≡ letter_t ∷ []
IsPiece Offset t text = compact_offset text ≡ Some t.offset
IsPiece ColonOffset t text = strict_offset text ≡ Some t.offset
IsPiece Rfc2822Offset t text = rfc2822_zone text ≡ Some t.offset

-- the text begins with this piece of such a time, and the rest is more
pub record BeginsWith (piece : Piece) (t : LocalTime) (IsMore : List ℕ → Type 0) (text : List ℕ) : Type 0 where
  pub front : List ℕ
  pub rest : List ℕ
  pub whole : text ≡ front ++ rest
  pub is : IsPiece piece t front
  pub more : IsMore rest

-- the text is these pieces of the time, one after the other
abbrev pub ArePieces : List Piece → LocalTime → List ℕ → Type 0
ArePieces [] t text = text ≡ []
ArePieces (piece ∷ pieces) t text = BeginsWith piece t (ArePieces pieces t) text

-- how this piece of such a time is printed, with the day of the month by `day`
abbrev pub print_piece : (ℕ → List ℕ) → Piece → LocalTime → List ℕ
print_piece day DayName t = day_name t.weekday
print_piece day Rfc2822DayName t = day_name t.weekday ++ comma ∷ space ∷ []
print_piece day MonthName t = month_name t.date.month
print_piece day Day t = day t.date.day
print_piece day Year t = four_digits t.date.year
print_piece day PlainDate t = date_text t.date
print_piece day Clock t = clock_text t.clock
print_piece day Rfc2822Clock t = clock_text t.clock
print_piece day Spaces t = space ∷ []
print_piece day LetterT t = letter_t ∷ []
print_piece day Offset t = compact_offset_text t.offset
print_piece day ColonOffset t = strict_offset_text t.offset
print_piece day Rfc2822Offset t = compact_offset_text t.offset

-- the printed pieces of a time: one after the other, with the day of the month by `day`
abbrev pub print_pieces : (ℕ → List ℕ) → List Piece → LocalTime → List ℕ
print_pieces day [] t = []
print_pieces day (piece ∷ pieces) t = print_piece day piece t ++ print_pieces day pieces t
