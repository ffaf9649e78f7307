-- Git's own forms of a date.
use Rattle.std.specs.Prelude.{ℕ, Bool, not, ◌&&◌, ◌||◌, List, [], ◌∷◌, filter, length, ℤ, pos, ◌==◌, nat_le, codes, if◌then◌else◌, Option}
use Rattle.std.specs.Prelude.{Some, None}
use Rattle.std.specs.Option.{option_or}
use Rattle.std.specs.Str.{trim, bytes_eq}
use Rattle.gix_date.specs.Fields.ClockNumbers.{max_hour, max_minute}
use Rattle.gix_date.specs.Text.Characters.{space, dot, minus, colon, letter_t}
use Rattle.gix_date.specs.Fields.Civil.{civil_instant, read_date}
use Rattle.gix_date.specs.Git.ClockCut.{Cut, clock_cut}
use Rattle.gix_date.specs.Text.Front.{ReadFront, skip_char, ◌>>=◌}
use Rattle.gix_date.specs.Git.Clock.{git_clock}
use Rattle.gix_date.specs.Text.Numbers.{two_digit_value, read_two_digits}
use Rattle.gix_date.specs.Fields.Offsets.{read_sign, offset_by}
use Rattle.gix_date.specs.declared.clock.ClockFields.{ClockFields}
use Rattle.gix_date.specs.declared.clock.DateFields.{DateFields}
use Rattle.gix_date.specs.declared.parsing.offset.OffsetFields.{OffsetFields}
use Rattle.gix_date.specs.declared.parsing.offset.Sign.{Sign}
use Rattle.gix_date.specs.declared.time.Time.{Time}

-- a text with its colons struck out
abbrev pub without_colons : List ℕ → List ℕ
without_colons text = filter (λ b. not (b == colon)) text

-- the fields of a sign, hours and minutes, where there are both
abbrev pub fields_of : Sign → Option ℕ → Option ℕ → Option OffsetFields
fields_of sign (Some h) (Some m) = Some (record { sign = sign; hours = h; minutes = m; seconds = None })
fields_of sign (Some h) None = None
fields_of sign None m = None

-- two digits of hours, or four of hours and minutes
abbrev pub offset_of_digits : Sign → List ℕ → Option OffsetFields
offset_of_digits sign (h0 ∷ h1 ∷ []) = fields_of sign (two_digit_value h0 h1) (Some 0)
offset_of_digits sign (h0 ∷ h1 ∷ m0 ∷ m1 ∷ []) = fields_of sign (two_digit_value h0 h1) (two_digit_value m0 m1)
offset_of_digits sign _ = None

-- hours are at most 23, and minutes at most 59
abbrev pub is_within_a_day : OffsetFields → Bool
is_within_a_day f = nat_le f.hours max_hour && nat_le f.minutes max_minute

-- the offset of a Git text: none written or `Z` is 0; else a sign and, colons struck out, two or four digits
unfoldable pub git_offset : List ℕ → Option ℤ
git_offset text =
    if length text == 0 || bytes_eq text (codes "Z") then Some (pos 0) else (do
      sign ← read_sign text
      offset_of_digits sign.0 (without_colons sign.1) >>= offset_by is_within_a_day)

-- a year of four digits, a month of two and a day of two, with this mark between them
unfoldable pub read_marked_date : ℕ → List ℕ → ReadFront DateFields
read_marked_date mark text = read_date read_two_digits (skip_char mark) text

-- a date with no mark
unfoldable pub read_compact_date : List ℕ → ReadFront DateFields
read_compact_date text = read_date read_two_digits Some text

-- the time of a date and a clock at an offset
abbrev pub time_at : DateFields → ClockFields → ℤ → Option Time
time_at date clock offset = do
  seconds ← civil_instant date clock offset
  Some (record { seconds = seconds; offset = offset })

-- the time of a date and of what its clock and its offset are cut into
unfoldable pub time_of_cut : DateFields → Cut → Option Time
time_of_cut date cut = do
  clock ← git_clock cut.0
  offset ← git_offset cut.1
  time_at date clock offset

-- the time of a date and of the text after it
abbrev pub time_with_rest : DateFields → List ℕ → Option Time
time_with_rest date rest = time_of_cut date (clock_cut (trim rest))

-- the date that is read, and what stands after its gap
abbrev pub read_then_gap : (List ℕ → ReadFront DateFields) → (List ℕ → Option (List ℕ)) → List ℕ → ReadFront DateFields
read_then_gap read gap text = do
  date ← read text
  rest ← gap date.1
  Some (date.0, rest)

-- `YYYY.MM.DD`, and one space
unfoldable pub dotted_front : List ℕ → ReadFront DateFields
dotted_front text = read_then_gap (read_marked_date dot) (skip_char space) text

-- `YYYYMMDD`, and `T`
unfoldable pub compact_front : List ℕ → ReadFront DateFields
compact_front text = read_then_gap read_compact_date (skip_char letter_t) text

-- `YYYY-MM-DD`, and `T` or one space
unfoldable pub flexible_front : List ℕ → ReadFront DateFields
flexible_front text =
    read_then_gap (read_marked_date minus) (λ rest. option_or (skip_char letter_t rest) (skip_char space rest)) text

-- the date of one of the three forms, and what stands after its gap
unfoldable pub git_front : List ℕ → ReadFront DateFields
git_front text = option_or (dotted_front text) (option_or (compact_front text) (flexible_front text))

-- the time of a text, already trimmed, in one of the three forms
unfoldable pub git_form : List ℕ → Option Time
git_form text = do
  front ← git_front text
  time_with_rest front.0 front.1

-- the time of a Git text: in one of Git's own forms, with white space around it or none
unfoldable pub git_time : List ℕ → Option Time
git_time text = git_form (trim text)
