-- Dates, as they are parsed carefully for C.
use Rattle.std.specs.Prelude.{◌≡◌, ℕ, ◌==◌, if◌then◌else◌, List, Option, Some, None, Result, Err}
use Rattle.std.specs.Result.{result_map_both}
use Rattle.std.specs.Str.{is_utf8}
use Rattle.jiff.specs.declared.zoned.Zoned.{Zoned}
use Rattle.gix_date.specs.Careful.Outcome.{CarefulOutcome, careful_reading}
use Rattle.gix_date.specs.Text.Front.{◌>>=◌}
use Rattle.gix_date.specs.declared.error.CarefulError.{CarefulError}
use Rattle.gix_date.specs.declared.error.CarefulError.TheVariants as errors
use Rattle.gix_date.specs.declared.parsing.careful.CarefulOptions.{CarefulOptions}
use Rattle.gix_date.specs.declared.parsing.careful.Texts.{Texts}
use Rattle.gix_date.specs.declared.parsing.careful.Texts.TheVariants as texts
use Rattle.gix_date.specs.declared.parsing.careful.WithoutOffset.{WithoutOffset}
use Rattle.gix_date.specs.declared.parsing.careful.WithoutOffset.TheVariants as meanings
use Rattle.gix_date.specs.declared.time.Time.{Time}
use Rattle.gix_date_c.specs.Parsing.{raw_rule, refusal_status}
use Rattle.gix_date_c.specs.Reading.{IfText}
use Rattle.gix_date_c.specs.Values.Refusals.{refused, refused_at}
use Rattle.gix_date_c.specs.Values.Times.{time_for_c}
use Rattle.gix_date_c.specs.declared.careful.CCarefulOptions.{CCarefulOptions}
use Rattle.gix_date_c.specs.declared.values.refusal.Refusal.{Refusal}
use Rattle.gix_date_c.specs.declared.values.status.Status.TheVariants as statuses
use Rattle.gix_date_c.specs.declared.values.time.CTime.{CTime}

-- what a date without an offset means, by this number
abbrev pub without_offset_of : ℕ → Option WithoutOffset
without_offset_of n = if n == 0 then Some meanings.Utc else if n == 1 then Some meanings.MomentsZone else None

-- which texts are read, by this number
abbrev pub texts_of : ℕ → Option Texts
texts_of n = if n == 0 then Some texts.Careful else if n == 1 then Some texts.All else None

-- the options of these numbers
abbrev pub options_of : CCarefulOptions → Option CarefulOptions
options_of numbers = do
  raw ← raw_rule numbers.raw_offsets
  meaning ← without_offset_of numbers.without_offset
  which ← texts_of numbers.texts
  Some (record { raw = raw; without_offset = meaning; texts = which })

-- the refusal that C is told for one of the library
abbrev pub refusal_of : CarefulError → Refusal
refusal_of (errors.Unclear place) = refused_at statuses.Unclear place
refusal_of errors.AfterYear9999 = refused statuses.AfterYear9999
refusal_of (errors.Refused error) = refused (refusal_status error)

-- what parsing a text by options comes to, at this moment or none, as the library says it
abbrev pub IsTextParsedCarefully : CarefulOptions → Option Zoned → List ℕ → Result CTime Refusal → Type 0
IsTextParsedCarefully options now text answer =
    (outcome : Result Time CarefulError) × CarefulOutcome (careful_reading options text) now outcome
    × (answer ≡ result_map_both time_for_c refusal_of outcome)

-- the same of bytes, by the numbers of options, which may be of none
abbrev pub IsParsedByOptions : Option CarefulOptions → Option Zoned → List ℕ → Result CTime Refusal → Type 0
IsParsedByOptions None now text answer = answer ≡ Err (refused statuses.NoSuchOption)
IsParsedByOptions (Some options) now text answer = IfText (is_utf8 text) (IsTextParsedCarefully options now text) answer

-- what careful parsing comes to by the options of a caller, each a number
abbrev pub IsParsedCarefully : CCarefulOptions → Option Zoned → List ℕ → Result CTime Refusal → Type 0
IsParsedCarefully numbers = IsParsedByOptions (options_of numbers)
