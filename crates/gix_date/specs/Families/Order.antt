-- The families of texts that a date may have, in their order, and the answer of the first that holds a text.
use Rattle.std.specs.Prelude.{◌≡◌, ℕ, List, [], ◌∷◌, ◌++◌, map, Option, Some, None, option_map, Result, Ok, Err}
use Rattle.std.specs.Option.{option_or}
use Rattle.std.specs.Result.{IsErrAnd}
use Rattle.jiff.specs.declared.zoned.Zoned.{Zoned}
use Rattle.gix_date.specs.Families.Answer.{FamilyAnswer, Absolute, OffsetAboveDay, NoInstant, Relative}
use Rattle.gix_date.specs.Families.Patterns.{short_answer, rfc2822_answer, iso8601_answer, iso8601_strict_answer, gitoxide_answer}
use Rattle.gix_date.specs.Families.Patterns.{default_answer}
use Rattle.gix_date.specs.Families.Raw.{OffsetRule, is_quarter_offset, raw_time_by}
use Rattle.gix_date.specs.Families.Epoch.{at_time, epoch_time}
use Rattle.gix_date.specs.Git.Forms.{git_time}
use Rattle.gix_date.specs.Relative.Dates.{relative_date, RelativeOutcome}
use Rattle.gix_date.specs.declared.error.Error.{Error}
use Rattle.gix_date.specs.declared.error.Error.TheVariants as errors
use Rattle.gix_date.specs.declared.error.ParseError.{ParseError}
use Rattle.gix_date.specs.declared.error.ParseError.TheVariants.{UnknownFormat, DateConversion, MissingNow, Range}
use Rattle.gix_date.specs.declared.time.Time.{Time}

-- the eleven families, by name
pub data Family : Type 0 where
  AtText : Family
  -- a day alone
  Short : Family
  Rfc2822 : Family
  Iso8601 : Family
  Iso8601Strict : Family
  Gitoxide : Family
  -- Git's default format
  Default : Family
  BareEpoch : Family
  -- Git's own forms
  GitForm : Family
  RelativeText : Family
  RawText : Family

-- the family's answer for the text, by a rule for raw offsets; `None` if it does not hold the text
abbrev pub family_answer : OffsetRule → Family → List ℕ → Option FamilyAnswer
family_answer rule AtText text = option_map Absolute (at_time rule text)
family_answer rule Short text = short_answer text
family_answer rule Rfc2822 text = rfc2822_answer text
family_answer rule Iso8601 text = iso8601_answer text
family_answer rule Iso8601Strict text = iso8601_strict_answer text
family_answer rule Gitoxide text = gitoxide_answer text
family_answer rule Default text = default_answer text
family_answer rule BareEpoch text = option_map Absolute (epoch_time text)
family_answer rule GitForm text = option_map Absolute (git_time text)
family_answer rule RelativeText text = option_map Relative (relative_date text)
family_answer rule RawText text = option_map Absolute (raw_time_by rule text)

-- the families before Git's own forms, in their order
abbrev pub families_before_git : List Family
families_before_git = AtText ∷ Short ∷ Rfc2822 ∷ Iso8601 ∷ Iso8601Strict ∷ Gitoxide ∷ Default ∷ BareEpoch ∷ []

-- all families, in the order tried
abbrev pub families : List Family
families = families_before_git ++ GitForm ∷ RelativeText ∷ RawText ∷ []

-- the first answer, or `None` if there is none
abbrev pub first_answer_of : List (Option FamilyAnswer) → Option FamilyAnswer
first_answer_of [] = None
first_answer_of (answer ∷ answers) = option_or answer (first_answer_of answers)

-- what each family answers of a text, in their order
abbrev pub family_answers : OffsetRule → List ℕ → List (Option FamilyAnswer)
family_answers rule text = map (λ family. family_answer rule family text) families

-- the first answer, by a rule for raw offsets: that of the first family that holds the text
unfoldable pub first_family_by : OffsetRule → List ℕ → Option FamilyAnswer
first_family_by rule text = first_answer_of (family_answers rule text)

-- the answers of the families before Git's own forms, in their order
abbrev pub answers_before_git : OffsetRule → List ℕ → List (Option FamilyAnswer)
answers_before_git rule text = map (λ family. family_answer rule family text) families_before_git

-- the first matching family's answer: that of the first family that holds the text, with raw offsets in quarters of an
-- hour
abbrev pub first_family : List ℕ → Option FamilyAnswer
first_family = first_family_by is_quarter_offset

-- `UnknownFormat` carrying the bytes, or `Memory` if copying failed
abbrev pub RefusesUnknown : List ℕ → Error → Type 0
RefusesUnknown text (errors.UnknownFormat input) = input ≡ text
RefusesUnknown text errors.Memory = Unit {0}
RefusesUnknown text _ = ⊥

-- `DateConversion` carrying the bytes, or `Memory` if copying failed
abbrev pub RefusesDate : List ℕ → Error → Type 0
RefusesDate text (errors.DateConversion input) = input ≡ text
RefusesDate text errors.Memory = Unit {0}
RefusesDate text _ = ⊥

-- The result of `parse_no_alloc`: by the first answer and the moment the time, or `RelativeOutcome`; `DateConversion`
-- for a day without an instant; else `UnknownFormat`.
abbrev pub ParseNoAllocOutcome : Option FamilyAnswer → Option Zoned → Result Time ParseError → Type 0
ParseNoAllocOutcome (Some (Absolute t)) now result = result ≡ Ok t
ParseNoAllocOutcome (Some (Relative date)) now result = RelativeOutcome date now result
ParseNoAllocOutcome (Some OffsetAboveDay) now result = result ≡ Err UnknownFormat
ParseNoAllocOutcome (Some NoInstant) now result = result ≡ Err DateConversion
ParseNoAllocOutcome None now result = result ≡ Err UnknownFormat

-- the `Error` of a `ParseError`: `UnknownFormat` and `DateConversion` carry the text
abbrev pub RefusesWithCopy : List ℕ → ParseError → Error → Type 0
RefusesWithCopy text UnknownFormat e = RefusesUnknown text e
RefusesWithCopy text DateConversion e = RefusesDate text e
RefusesWithCopy text MissingNow e = e ≡ errors.MissingNow
RefusesWithCopy text Range e = e ≡ errors.Range

-- the time, or the refusal by `RefusesWithCopy`
abbrev pub WithCopy : List ℕ → Result Time ParseError → Result Time Error → Type 0
WithCopy text (Ok t) result = result ≡ Ok t
WithCopy text (Err refusal) result = IsErrAnd result (RefusesWithCopy text refusal)

-- The result of `parse` or `parse_with`: `ParseNoAllocOutcome`, and then the copy of a refused text. So `Memory` never
-- replaces a time, `MissingNow` or `Range`.
abbrev pub ParseOutcome : Option FamilyAnswer → List ℕ → Option Zoned → Result Time Error → Type 0
ParseOutcome answer text now result =
    (uncopied : Result Time ParseError) × ParseNoAllocOutcome answer now uncopied × WithCopy text uncopied result
