-- Which families hold texts of one another, and what follows for the answer of the first.
use Rattle.std.specs.Prelude.{◌≡◌, ◌≢◌, ℕ, Bool, true, false, List, Option, Some, None, is_some, Result}
use Rattle.jiff.specs.declared.zoned.Zoned.{Zoned}
use Rattle.gix_date.specs.Families.Answer.{FamilyAnswer, Relative}
use Rattle.gix_date.specs.Families.Epoch.{epoch_time}
use Rattle.gix_date.specs.Families.Order.{Family, Iso8601, Iso8601Strict, GitForm, RelativeText, family_answer, first_family_by}
use Rattle.gix_date.specs.Families.Order.{ParseNoAllocOutcome}
use Rattle.gix_date.specs.Git.Forms.{git_time}
use Rattle.gix_date.specs.Families.Raw.{OffsetRule, raw_time_by}
use Rattle.gix_date.specs.Relative.Dates.{RelativeDate, relative_date}
use Rattle.gix_date.specs.declared.error.ParseError.{ParseError}
use Rattle.gix_date.specs.declared.time.Time.{Time}

-- a raw text is no bare epoch, and neither of the two is Git's or relative
pub record AreDisjoint (rule : OffsetRule) (text : List ℕ) : Type 0 where
  pub raw_epoch : (t : Time) → raw_time_by rule text ≡ Some t → epoch_time text ≡ None
  pub raw_git : (t : Time) → raw_time_by rule text ≡ Some t → git_time text ≡ None
  pub raw_relative : (t : Time) → raw_time_by rule text ≡ Some t → relative_date text ≡ None
  pub epoch_git : (t : Time) → epoch_time text ≡ Some t → git_time text ≡ None
  pub epoch_relative : (t : Time) → epoch_time text ≡ Some t → relative_date text ≡ None

-- the family holds the text
abbrev pub Holds : OffsetRule → Family → List ℕ → Type 0
Holds rule family text = is_some (family_answer rule family text) ≡ true

-- whether two different families share texts
abbrev pub overlap : Family → Family → Bool
overlap Iso8601 GitForm = true
overlap Iso8601Strict GitForm = true
overlap GitForm Iso8601 = true
overlap GitForm Iso8601Strict = true
overlap GitForm RelativeText = true
overlap RelativeText GitForm = true
overlap _ _ = false

-- a text of one family is of no other, unless the two overlap
abbrev pub AreExclusive : OffsetRule → List ℕ → Type 0
AreExclusive rule text =
    (a b : Family) → a ≢ b → overlap a b ≡ false → Holds rule a text → family_answer rule b text ≡ None

-- two families that hold the text answer alike
abbrev pub Agree : OffsetRule → Family → Family → List ℕ → Type 0
Agree rule a b text = Holds rule a text → Holds rule b text → family_answer rule a text ≡ family_answer rule b text

-- each family that holds the text gives the first answer, but `RelativeText` only if `GitForm` does not hold it
pub record ComesFirst (rule : OffsetRule) (text : List ℕ) : Type 0 where
  pub alone : (family : Family) → family ≢ GitForm → family ≢ RelativeText → Holds rule family text
      → first_family_by rule text ≡ family_answer rule family text
  pub git : Holds rule GitForm text → first_family_by rule text ≡ family_answer rule GitForm text
  pub relative : family_answer rule GitForm text ≡ None → Holds rule RelativeText text
      → first_family_by rule text ≡ family_answer rule RelativeText text
  -- the answer is a relative date only for a relative text
  pub counting : (date : RelativeDate) → first_family_by rule text ≡ Some (Relative date)
      → relative_date text ≡ Some date

-- one answer and one moment allow one result
abbrev pub HasOneOutcome : Type 0
HasOneOutcome =
    (answer : Option FamilyAnswer) (now : Option Zoned) (a b : Result Time ParseError)
    → ParseNoAllocOutcome answer now a → ParseNoAllocOutcome answer now b → a ≡ b
