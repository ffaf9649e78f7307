-- The formatted dates that begin alike, with a day written with `-` or with names, and what they answer once that day
-- was read.
use Rattle.std.specs.Prelude.{ℕ, List, Option, Some}
use Rattle.std.specs.Option.{option_or}
use Rattle.gix_date.specs.Families.Answer.{FamilyAnswer}
use Rattle.gix_date.specs.Families.Patterns.{short_answer, iso8601_answer, iso8601_strict_answer, gitoxide_answer, default_answer}
use Rattle.gix_date.specs.Fields.DateFields.{skip_spaces, skip_weekday, read_month}
use Rattle.gix_date.specs.Text.Front.{ReadFront, ◌>>=◌}
use Rattle.gix_date.specs.Fields.Layout.{LocalTime, Piece, nothing_read, read_pieces}
use Rattle.gix_date.specs.Text.Numbers.{read_field}
use Rattle.gix_date.specs.declared.clock.DateFields.{DateFields}

-- the first answer of a day alone, ISO 8601 and its strict form
abbrev pub dashed_answer : List ℕ → Option FamilyAnswer
dashed_answer text = option_or (short_answer text) (option_or (iso8601_answer text) (iso8601_strict_answer text))

-- what a text answers by these pieces, after the day
abbrev pub answer_after : List Piece → (LocalTime → Option FamilyAnswer) → DateFields → List ℕ → Option FamilyAnswer
answer_after pieces of_time date rest = read_pieces pieces (record nothing_read { date = date }) rest >>= of_time

-- the first answer of gitoxide's form and Git's default form
abbrev pub named_day_answer : List ℕ → Option FamilyAnswer
named_day_answer text = option_or (gitoxide_answer text) (default_answer text)

-- `Www Mmm D` and the spaces after each, where the year is not read yet
unfoldable pub read_named_day : List ℕ → ReadFront DateFields
read_named_day text = do
  rest ← skip_weekday text
  rest ← skip_spaces rest
  month ← read_month rest
  rest ← skip_spaces month.1
  day ← read_field rest
  rest ← skip_spaces day.1
  Some (record { year = 0; month = month.0; day = day.0 }, rest)
