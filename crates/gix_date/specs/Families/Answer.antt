-- What a family answers.
use Rattle.jiff.specs.Words.{IsOffsetSeconds}
use Rattle.gix_date.specs.Relative.Dates.{RelativeDate, relative_date_of}
use Rattle.gix_date.specs.declared.time.Time.{Time}
use Rattle.gix_date.specs.declared.parsing.Answer.{Answer}
use Rattle.gix_date.specs.declared.parsing.Answer.TheVariants as answer

-- a family's answer for a text that it holds
pub data FamilyAnswer : Type 0 where
  -- a time, whatever the moment
  Absolute : Time → FamilyAnswer
  -- a formatted date whose offset is above 23:59
  OffsetAboveDay : FamilyAnswer
  -- a day whose midnight is no instant
  NoInstant : FamilyAnswer
  -- a relative date, whose time depends on the moment
  Relative : RelativeDate → FamilyAnswer

-- what a text says
abbrev pub answer_of : Answer → FamilyAnswer
answer_of (answer.Absolute t) = Absolute t
answer_of answer.OffsetAboveDay = OffsetAboveDay
answer_of answer.NoInstant = NoInstant
answer_of (answer.Relative found) = Relative (relative_date_of found)

-- an offset that is said is that of a zone
abbrev pub HasJiffOffset : Answer → Type 0
HasJiffOffset (answer.Absolute t) = IsOffsetSeconds t.offset
HasJiffOffset _ = Unit {0}
