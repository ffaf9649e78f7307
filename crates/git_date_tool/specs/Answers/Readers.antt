-- What the readers make of a text.
use Rattle.std.specs.Prelude.{◌≡◌, ℕ, Bool, true, false, List, if◌then◌else◌, Option, Some, None, Result, Ok, Err, IfSome}
use Rattle.std.specs.Result.{result_map_both}
use Rattle.std.specs.Str.{is_utf8}
use Rattle.jiff.specs.declared.zoned.Zoned.{Zoned}
use Rattle.gix_date.specs.Careful.Outcome.{careful_reading, CarefulOutcome}
use Rattle.gix_date.specs.Families.Order.{first_family, ParseNoAllocOutcome}
use Rattle.gix_date.specs.Header.Canonical.{is_canonical_header}
use Rattle.gix_date.specs.Header.Reading.{header_time}
use Rattle.gix_date.specs.declared.error.CarefulError.{CarefulError}
use Rattle.gix_date.specs.declared.error.ParseError.{ParseError}
use Rattle.gix_date.specs.declared.parsing.careful.CarefulOptions.{CarefulOptions}
use Rattle.gix_date.specs.declared.parsing.careful.Texts.TheVariants.{Careful as CarefulTexts}
use Rattle.gix_date.specs.declared.parsing.careful.WithoutOffset.TheVariants.{MomentsZone}
use Rattle.gix_date.specs.declared.parsing.raw.RawOffsets.TheVariants.{Quarter}
use Rattle.gix_date.specs.declared.time.Time.{Time}
use Rattle.git_date.specs.Approximate.Reading.{ApproximateOutcome}
use Rattle.git_date.specs.Exact.Outcome.{DateOutcome, IsPlaceIn}
use Rattle.git_date.specs.declared.approximate.Approximate.{Approximate}
use Rattle.git_date.specs.declared.reader.ExactDate.{ExactDate}
use Rattle.git_date.specs.declared.error.DateError.{DateError}
use Rattle.git_date_tool.specs.Answers.Refusals.{of_git, of_careful, of_gix}
use Rattle.git_date_tool.specs.declared.answers.Reader.{Reader}
use Rattle.git_date_tool.specs.declared.answers.Reader.TheVariants.{Exact, Approxidate, Careful, Gix, Header}
use Rattle.git_date_tool.specs.declared.answers.Strictness.{Strictness}
use Rattle.git_date_tool.specs.declared.answers.Strictness.TheVariants.{Lenient, Usual, Strict}
use Rattle.git_date_tool.specs.declared.answers.refusals.Refusal.{Refusal}
use Rattle.git_date_tool.specs.declared.answers.refusals.Refusal.TheVariants.{NotText, NotUnderstood, Ignored, NoHeader, NotCanonical}

-- an exact date is understood
abbrev pub of_exact : ExactDate → Approximate
of_exact date = record { time = date.time; understood = true; ignored = date.ignored }

-- a time of which nothing was ignored
abbrev pub whole : Time → Approximate
whole t = record { time = t; understood = true; ignored = None }

-- how the careful reader reads: a date without an offset is in the moment's zone
abbrev pub careful_options : CarefulOptions
careful_options = record { raw = Quarter; without_offset = MomentsZone; texts = CarefulTexts }

-- the exact reader of Git finds this
abbrev pub IsExactly : Zoned → List ℕ → Result Approximate Refusal → Type 0
IsExactly now text found =
    (result : Result ExactDate DateError) × DateOutcome now text result × (found ≡ result_map_both of_exact of_git result)

-- the approximate reader of Git finds this
abbrev pub IsApproximately : Zoned → List ℕ → Result Approximate Refusal → Type 0
IsApproximately now text found =
    (result : Result Approximate DateError) × ApproximateOutcome now text result × (found ≡ result_map_both (λ a. a) of_git result)

-- the careful reader finds this
abbrev pub IsCarefully : Zoned → List ℕ → Result Approximate Refusal → Type 0
IsCarefully now text found =
    (result : Result Time CarefulError) × CarefulOutcome (careful_reading careful_options text) (Some now) result
    × (found ≡ result_map_both whole of_careful result)

-- the reader of gix-date finds this
abbrev pub IsByGix : Zoned → List ℕ → Result Approximate Refusal → Type 0
IsByGix now text found =
    (result : Result Time ParseError) × ParseNoAllocOutcome (first_family text) (Some now) result
    × (found ≡ result_map_both whole of_gix result)

-- how much of a header has to be canonical: all of it, or nothing
abbrev pub header_judged : Strictness → Bool → Time → Result Approximate Refusal
header_judged Strict canonical t = if canonical then Ok (whole t) else Err NotCanonical
header_judged _ canonical t = Ok (whole t)

abbrev pub header_if_any : Strictness → List ℕ → Option Time → Result Approximate Refusal
header_if_any strictness text (Some t) = header_judged strictness (is_canonical_header text) t
header_if_any strictness text None = Err NoHeader

-- the time of a header
abbrev pub header_found : Strictness → List ℕ → Result Approximate Refusal
header_found strictness text = header_if_any strictness text (header_time text)

abbrev pub IsHeader : Strictness → List ℕ → Result Approximate Refusal → Type 0
IsHeader strictness text found = found ≡ header_found strictness text

-- what a reader of text finds in bytes, by whether they are text
abbrev pub IsIfText : Bool → (List ℕ → Result Approximate Refusal → Type 0) → List ℕ → Result Approximate Refusal → Type 0
IsIfText true Finds text found = Finds text found
IsIfText false Finds text found = found ≡ Err NotText

-- what a reader of text finds in bytes, which are text or not
unfoldable pub IsOfText : (List ℕ → Result Approximate Refusal → Type 0) → List ℕ → Result Approximate Refusal → Type 0
IsOfText Finds text found = IsIfText (is_utf8 text) Finds text found

-- What a reader finds at a moment, as its own library says it. Git's readers take any bytes.
abbrev pub IsReadBy : Reader → Strictness → Zoned → List ℕ → Result Approximate Refusal → Type 0
IsReadBy Exact strictness now text found = IsExactly now text found
IsReadBy Approxidate strictness now text found = IsApproximately now text found
IsReadBy Careful strictness now text found = IsOfText (IsCarefully now) text found
IsReadBy Gix strictness now text found = IsOfText (IsByGix now) text found
IsReadBy Header strictness now text found = IsOfText (IsHeader strictness) text found

-- what was found, unless something was ignored
abbrev pub unless_ignored : Approximate → Option ℕ → Result Approximate Refusal
unless_ignored found None = Ok found
unless_ignored found (Some place) = Err (Ignored place)

-- what was found, where so much of it has to be understood
abbrev pub judged : Strictness → Approximate → Result Approximate Refusal
judged Lenient found = Ok found
judged Usual found = if found.understood then Ok found else Err NotUnderstood
judged Strict found = if found.understood then unless_ignored found found.ignored else Err NotUnderstood

-- what a reader found, if anything, judged so
abbrev pub judged_if_found : Strictness → Result Approximate Refusal → Result Approximate Refusal
judged_if_found strictness (Ok found) = judged strictness found
judged_if_found strictness (Err e) = Err e

-- what a text says at a moment
abbrev pub IsRead : Reader → Strictness → Zoned → List ℕ → Result Approximate Refusal → Type 0
IsRead reader strictness now text result =
    (found : Result Approximate Refusal) × IsReadBy reader strictness now text found
    × (result ≡ judged_if_found strictness found)

-- what was ignored stands in the text
abbrev pub HasPlace : List ℕ → Approximate → Type 0
HasPlace text found = IfSome found.ignored (IsPlaceIn text)
