-- What is promised of careful reading beside what it answers.
use Rattle.std.specs.Prelude.{◌≡◌, ◌↔◌, ◌⊎◌, ℕ, ℤ, List, Option, Some, None, Ok}
use Rattle.jiff.specs.declared.zoned.Zoned.{Zoned}
use Rattle.gix_date.specs.Careful.Dates.{unzoned_time}
use Rattle.gix_date.specs.Careful.Grammar.{IsCarefulOf, IsCarefulText}
use Rattle.gix_date.specs.Careful.Outcome.{careful_reading, CarefulOutcome}
use Rattle.gix_date.specs.Careful.Texts.{unclear_place}
use Rattle.gix_date.specs.Families.Answer.{Relative}
use Rattle.gix_date.specs.Families.Order.{first_family_by, ParseNoAllocOutcome}
use Rattle.gix_date.specs.Families.Raw.{OffsetRule, allows}
use Rattle.gix_date.specs.Relative.Dates.{MinusPairs}
use Rattle.gix_date.specs.declared.parsing.careful.CarefulOptions.{CarefulOptions}
use Rattle.gix_date.specs.declared.parsing.careful.WithoutOffset.TheVariants.{Utc, MomentsZone}
use Rattle.gix_date.specs.declared.parsing.relative.words.TimeUnit.{TimeUnit}
use Rattle.gix_date.specs.declared.time.Time.{Time}

-- the text gives no time as a date without an offset
abbrev pub HasNoLocalDate : List ℕ → Type 0
HasNoLocalDate text = unzoned_time text ≡ None

-- each time that is read is one that `parse_with` answers too, unless the text is a date of the moment's zone
abbrev pub IsParsedToo : CarefulOptions → List ℕ → Type 0
IsParsedToo options text =
    (options.without_offset ≡ Utc) ⊎ HasNoLocalDate text → (now : Option Zoned) (t : Time)
    → CarefulOutcome (careful_reading options text) now (Ok t)
    → ParseNoAllocOutcome (first_family_by (allows options.raw) text) now (Ok t)

-- the options with dates in the moment's zone
abbrev pub in_zone : CarefulOptions → CarefulOptions
in_zone options = record options { without_offset = MomentsZone }

-- careful texts are those that are clear at each place and end in `ago`
abbrev pub IsCarefulSo : List ℕ → Type 0
IsCarefulSo text = (unclear_place text ≡ None) ↔ IsCarefulText text

-- the first family answers a careful text's pairs
abbrev pub AnswersPairs : OffsetRule → List ℕ → Type 0
AnswersPairs rule text =
    (pairs : List (ℤ × TimeUnit)) → IsCarefulOf text pairs → first_family_by rule text ≡ Some (Relative (MinusPairs pairs))
