-- Where a text that is not careful stops being so: at the end of the longest front that some form has.
use Rattle.std.specs.Prelude.{ℕ, ◌-◌, List, [], ◌∷◌, length, drop, ℤ, nat_lt, if◌then◌else◌, Option, Some, None, is_some, option_map}
use Rattle.std.specs.Prelude.{unwrap_or, ◌≡◌, ◌++◌}
use Rattle.std.specs.Char.{is_ascii_digit}
use Rattle.std.specs.List.{prefix_len}
use Rattle.std.specs.Option.{option_or}
use Rattle.gix_date.specs.Fields.Civil.{is_date, is_clock}
use Rattle.gix_date.specs.Fields.DateFields.{skip_spaces, skip_weekday, skip_day_name, read_month, read_plain_date, read_clock}
use Rattle.gix_date.specs.Fields.DateFields.{read_rfc2822_clock}
use Rattle.gix_date.specs.Fields.DateOffsets.{compact_offset, strict_offset, rfc2822_zone}
use Rattle.gix_date.specs.Text.Front.{ReadFront, skip_char, ◌>>=◌}
use Rattle.gix_date.specs.Git.Forms.{git_front, git_offset}
use Rattle.gix_date.specs.Text.Characters.{colon, dot, letter_t}
use Rattle.gix_date.specs.Text.Numbers.{read_two_digits, read_field, read_year}
use Rattle.gix_date.specs.Text.SpaceWords.{is_nonempty}

-- a part of a form: what stands after it, where the text begins with it
abbrev pub Part : Type 0
Part = List ℕ → Option (List ℕ)

-- a text ends in this rest
unfoldable pub IsRestOf : List ℕ → List ℕ → Type 0
IsRestOf text rest = (front : List ℕ) × (text ≡ front ++ rest)

-- What is left where the parts stop: from `rest` on, and `whole` if they take all of it.
abbrev pub left_by : List Part → List ℕ → List ℕ → List ℕ
left_by [] whole rest = if is_nonempty rest then rest else whole
left_by (part ∷ parts) whole rest = unwrap_or (option_map (left_by parts whole) (part rest)) rest

-- a part that may be left out
abbrev pub perhaps : Part → Part
perhaps part text = Some (unwrap_or (part text) text)

-- what a reader takes, whatever it says
abbrev pub taken_by : {A : Type 0} → (List ℕ → ReadFront A) → Part
taken_by {A} read text = option_map (λ found. found.1) (read text)

-- digits
unfoldable pub skip_number : Part
skip_number [] = None
skip_number (c ∷ rest) = if is_ascii_digit c then Some (drop (prefix_len is_ascii_digit rest) rest) else None

-- a mark, and digits
unfoldable pub skip_marked : ℕ → Part
skip_marked mark text = skip_char mark text >>= skip_number

-- `YYYY-M-D`, a day of the calendar
unfoldable pub skip_day : Part
skip_day text = do
  date ← read_plain_date text
  if is_date date.0 then Some date.1 else None

-- `h:m:s`, a clock of the day
unfoldable pub skip_clock : Part
skip_clock text = do
  clock ← read_clock text
  if is_clock clock.0 then Some clock.1 else None

-- the name of a day, and spaces
unfoldable pub skip_named_day : Part
skip_named_day text = skip_weekday text >>= skip_spaces

-- all of a text that is an offset
abbrev pub skip_offset : (List ℕ → Option ℤ) → Part
skip_offset offset text = if is_some (offset text) then Some [] else None

-- a day of the calendar in one of Git's own forms, and the gap after it
unfoldable pub skip_git_day : Part
skip_git_day text = do
  front ← git_front text
  if is_date front.0 then Some front.1 else None

-- `HHMMSS.` and digits
unfoldable pub skip_bare_fraction : Part
skip_bare_fraction text = do
  hour ← read_two_digits text
  minute ← read_two_digits hour.1
  second ← read_two_digits minute.1
  skip_marked dot second.1

-- the clock of one of Git's own forms: digits, `h:m`, `h:m:s`, `h:m:s.digits` or `HHMMSS.digits`
unfoldable pub skip_git_clock : Part
skip_git_clock text =
    option_or (skip_bare_fraction text)
    (option_map (left_by (skip_marked colon ∷ skip_marked colon ∷ skip_marked dot ∷ []) []) (skip_number text))

-- one of Git's own forms: a day, a clock, and perhaps an offset
abbrev pub git_parts : List Part
git_parts =
    perhaps skip_spaces ∷ skip_git_day ∷ perhaps skip_spaces ∷ skip_git_clock ∷ perhaps skip_spaces
    ∷ skip_offset git_offset ∷ []

-- ISO 8601: `YYYY-M-D h:m:s Z`
abbrev pub iso8601_parts : List Part
iso8601_parts = skip_day ∷ skip_spaces ∷ skip_clock ∷ skip_spaces ∷ skip_offset compact_offset ∷ []

-- its strict form: `YYYY-M-DTh:m:sZ`
abbrev pub strict_parts : List Part
strict_parts = skip_day ∷ skip_char letter_t ∷ skip_clock ∷ skip_offset strict_offset ∷ []

-- RFC 2822: `Www, D Mmm YYYY h:m:s Z`
abbrev pub rfc2822_parts : List Part
rfc2822_parts =
    perhaps skip_day_name ∷ taken_by read_field ∷ skip_spaces ∷ taken_by read_month ∷ skip_spaces ∷ taken_by read_year
    ∷ skip_spaces ∷ taken_by read_rfc2822_clock ∷ skip_spaces ∷ skip_offset rfc2822_zone ∷ []

-- gitoxide's date: `Www Mmm D YYYY h:m:s Z`
abbrev pub gitoxide_parts : List Part
gitoxide_parts =
    skip_named_day ∷ taken_by read_month ∷ skip_spaces ∷ taken_by read_field ∷ skip_spaces ∷ taken_by read_year
    ∷ skip_spaces ∷ skip_clock ∷ skip_spaces ∷ skip_offset compact_offset ∷ []

-- Git's default date: `Www Mmm D h:m:s YYYY Z`
abbrev pub default_parts : List Part
default_parts =
    skip_named_day ∷ taken_by read_month ∷ skip_spaces ∷ taken_by read_field ∷ skip_spaces ∷ skip_clock ∷ skip_spaces
    ∷ taken_by read_year ∷ skip_spaces ∷ skip_offset compact_offset ∷ []

-- The later place: this one, or where a form stops. What is a form as a whole, and yet no date, has no front by it.
abbrev pub or_later : List ℕ → List Part → ℕ → ℕ
or_later text parts place =
    let front = length text - length (left_by parts text text) in
    if nat_lt place front then front else place

-- the end of the longest front that some form has, or where pairs end, if that is later
unfoldable pub longest_front : List ℕ → ℕ → ℕ
longest_front text pairs_end =
    or_later text git_parts (or_later text iso8601_parts (or_later text strict_parts
    (or_later text rfc2822_parts (or_later text gitoxide_parts (or_later text default_parts pairs_end)))))
