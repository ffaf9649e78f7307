-- Dates of fixed length, as programs print them, by their parts.
use Rattle.std.specs.Prelude.{◌≡◌, ◌≤◌, ℕ, ℤ, List, [], ◌∷◌, ◌++◌, Some, None, codes, unsigned_abs}
use Rattle.gix_date.specs.Families.Answer.{Absolute}
use Rattle.gix_date.specs.Families.Order.{first_family_by}
use Rattle.gix_date.specs.Families.Patterns.{date_answer, max_date_offset}
use Rattle.gix_date.specs.Families.Raw.{OffsetRule}
use Rattle.gix_date.specs.Fields.Civil.{DateFits, ClockFits}
use Rattle.gix_date.specs.Fields.FieldTexts.{IsDigit, IsField, IsYear, IsPlainDate, IsClock, IsSign}
use Rattle.gix_date.specs.Fields.Offsets.{offset_of}
use Rattle.gix_date.specs.Text.Characters.{colon}
use Rattle.gix_date.specs.Text.Numbers.{two_digit_value}
use Rattle.gix_date.specs.declared.clock.ClockFields.{ClockFields}
use Rattle.gix_date.specs.declared.clock.DateFields.{DateFields}
use Rattle.gix_date.specs.declared.parsing.offset.Sign.{Sign}
use Rattle.gix_date.specs.declared.time.Time.{Time}

-- as far as both go, no byte of the first is above that of the second
unfoldable pub AreAtMost : List ℕ → List ℕ → Type 0
AreAtMost (x ∷ xs) (y ∷ ys) = (x ≤ y) × AreAtMost xs ys
AreAtMost xs ys = Unit {0}

-- each byte of a text is within its own bounds
unfoldable pub AreWithin : List ℕ → List ℕ → List ℕ → Type 0
AreWithin low high text = AreAtMost low text × AreAtMost text high

-- a text looks like `2022-08-18`
abbrev pub LooksLikeDate : List ℕ → Type 0
LooksLikeDate text = AreWithin (codes "0000-00-00") (codes "9999-19-39") text

-- a text looks like `12:45:06`
abbrev pub LooksLikeClock : List ℕ → Type 0
LooksLikeClock text = AreWithin (codes "00:00:00") (codes "29:59:59") text

-- a text looks like `+0800`
abbrev pub LooksLikeOffset : List ℕ → Type 0
LooksLikeOffset text = AreWithin (codes "+0000") (codes "-2959") text

-- an offset within 23:59: a sign, two digits of hours, and after this gap two of minutes
pub record IsUsualOffset (gap text : List ℕ) (offset : ℤ) : Type 0 where
  pub mark : ℕ
  pub h0 : ℕ
  pub h1 : ℕ
  pub m0 : ℕ
  pub m1 : ℕ
  pub whole : text ≡ mark ∷ h0 ∷ h1 ∷ (gap ++ (m0 ∷ m1 ∷ []))
  pub sign : Sign
  pub hours : ℕ
  pub minutes : ℕ
  pub is_mark : IsSign mark sign
  pub are_hours : two_digit_value h0 h1 ≡ Some hours
  pub are_minutes : two_digit_value m0 m1 ≡ Some minutes
  pub within_hours : hours ≤ 23
  pub within_minutes : minutes ≤ 59
  pub is : offset ≡ offset_of (record { sign = sign; hours = hours; minutes = minutes; seconds = None })

-- two bytes are a field of this number, if they are digits
unfoldable pub SaysField : ℕ → ℕ → ℕ → Type 0
SaysField tens ones n = IsDigit tens → IsDigit ones → IsField (tens ∷ ones ∷ []) n

-- four bytes are this year, if they are digits
unfoldable pub SaysYear : ℕ → ℕ → ℕ → ℕ → ℕ → Type 0
SaysYear a b c d n = IsDigit a → IsDigit b → IsDigit c → IsDigit d → IsYear (a ∷ b ∷ c ∷ d ∷ []) n

-- a text is this date, if it looks like one
unfoldable pub SaysDate : List ℕ → DateFields → Type 0
SaysDate text date = LooksLikeDate text → IsPlainDate text date × DateFits date

-- a text is this clock, if it looks like one
unfoldable pub SaysClock : List ℕ → ClockFields → Type 0
SaysClock text clock = LooksLikeClock text → IsClock text clock × ClockFits clock

-- a sign and four digits are this offset, also with a colon between hours and minutes, if they look like one
unfoldable pub SaysOffset : ℕ → ℕ → ℕ → ℕ → ℕ → ℤ → Type 0
SaysOffset mark a b c d offset =
    LooksLikeOffset (mark ∷ a ∷ b ∷ c ∷ d ∷ [])
    → IsUsualOffset [] (mark ∷ a ∷ b ∷ c ∷ d ∷ []) offset × IsUsualOffset (colon ∷ []) (mark ∷ a ∷ b ∷ colon ∷ c ∷ d ∷ []) offset

-- the first family that holds the text answers this time, by whatever rule for raw offsets
abbrev pub AnswersFirst : List ℕ → Time → Type 0
AnswersFirst text t = (rule : OffsetRule) → first_family_by rule text ≡ Some (Absolute t)

-- what the first family says of a text that holds these fields
pub record Says (text : List ℕ) (fields : DateFields × ClockFields × ℤ) : Type 0 where
  pub date_fits : DateFits fields.0
  pub clock_fits : ClockFits fields.1
  pub within : unsigned_abs fields.2 ≤ max_date_offset
  pub first : (t : Time) → date_answer fields.0 fields.1 fields.2 ≡ Some (Absolute t) → AnswersFirst text t
