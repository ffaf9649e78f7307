-- Where `gix_date::parse_with` and `parse_date` read the same time.
use Rattle.std.specs.Prelude.{◌≡◌, ◌≤ℤ◌, pos, true, false, Bool, ℕ, List, ◌++◌, codes, Option, None, Ok}
use Rattle.jiff.specs.declared.zoned.Zoned.{Zoned}
use Rattle.gix_date.specs.Families.Laws.{Holds}
use Rattle.gix_date.specs.Families.Order.{Family, AtText, Rfc2822, Iso8601, Iso8601Strict, Gitoxide, Default, BareEpoch, RawText}
use Rattle.gix_date.specs.Families.Order.{first_family_by, ParseNoAllocOutcome}
use Rattle.gix_date.specs.Families.Raw.{OffsetRule}
use Rattle.gix_date.specs.declared.time.Time.{Time}
use Rattle.git_date.specs.Exact.Outcome.{DateOutcome}
use Rattle.git_date.specs.declared.reader.ExactDate.{ExactDate}

-- the family's texts are seconds since 1970
abbrev pub has_seconds : Family → Bool
has_seconds AtText = true
has_seconds BareEpoch = true
has_seconds RawText = true
has_seconds family = false

-- the family's texts are formatted dates with a clock
abbrev pub has_clock : Family → Bool
has_clock Rfc2822 = true
has_clock Iso8601 = true
has_clock Iso8601Strict = true
has_clock Gitoxide = true
has_clock Default = true
has_clock family = false

-- no second is written 60, which `gix_date` reads as 59
abbrev pub HasNoLeapSecond : List ℕ → Type 0
HasNoLeapSecond text = (before after : List ℕ) → text ≡ before ++ (codes ":60" ++ after) → ⊥

-- Both read a text of such a family, and Git its offset and all of it: then both read the same time.
abbrev pub AgreesOnSeconds : OffsetRule → Zoned → List ℕ → Type 0
AgreesOnSeconds rule moment text =
    (family : Family) (now : Option Zoned) (time : Time) (date : ExactDate) → has_seconds family ≡ true → Holds rule family text
    → ParseNoAllocOutcome (first_family_by rule text) now (Ok time)
    → DateOutcome moment text (Ok date) → date.has_offset ≡ true → date.ignored ≡ None → date.time ≡ time

-- so it is of formatted dates from 1970 on
abbrev pub AgreesOnDates : OffsetRule → Zoned → List ℕ → Type 0
AgreesOnDates rule moment text =
    (family : Family) (now : Option Zoned) (time : Time) (date : ExactDate) → has_clock family ≡ true → Holds rule family text
    → pos 0 ≤ℤ time.seconds → HasNoLeapSecond text → ParseNoAllocOutcome (first_family_by rule text) now (Ok time)
    → DateOutcome moment text (Ok date) → date.has_offset ≡ true → date.ignored ≡ None → date.time ≡ time
