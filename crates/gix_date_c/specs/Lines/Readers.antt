-- How each line of a block is read.
use Rattle.std.specs.Prelude.{◌≡◌, ℕ, ◌==◌, if◌then◌else◌, List, Option, None, Some, Result, Ok, Err}
use Rattle.std.specs.Result.{result_map_both}
use Rattle.jiff.specs.declared.zoned.Zoned.{Zoned}
use Rattle.gix_date.specs.declared.time.Time.{Time}
use Rattle.gix_signature.specs.Signature.{Parts}
use Rattle.gix_date_c.specs.Careful.{IsParsedCarefully}
use Rattle.gix_date_c.specs.Git.Dates.{IsApproximate, IsExact}
use Rattle.gix_date_c.specs.Moments.{Place, place_of}
use Rattle.gix_date_c.specs.Parsing.{IsParsed, IsParsedAt}
use Rattle.gix_date_c.specs.Reading.{IsReadAt}
use Rattle.gix_date_c.specs.Signatures.{IsCutAnswer}
use Rattle.gix_date_c.specs.Values.Refusals.{with_status}
use Rattle.gix_date_c.specs.Values.Times.{header_answer, time_for_c}
use Rattle.gix_date_c.specs.declared.careful.CCarefulOptions.{CCarefulOptions}
use Rattle.gix_date_c.specs.declared.git.dates.CApproximate.{CApproximate}
use Rattle.gix_date_c.specs.declared.git.dates.CExact.{CExact}
use Rattle.gix_date_c.specs.declared.lines.reader.LineReader.{LineReader}
use Rattle.gix_date_c.specs.declared.lines.reader.LineReader.TheVariants as readers
use Rattle.gix_date_c.specs.declared.values.refusal.Refusal.{Refusal}
use Rattle.gix_date_c.specs.declared.values.status.Status.{Status}
use Rattle.gix_date_c.specs.declared.values.status.Status.TheVariants.{NoSuchOption}
use Rattle.gix_date_c.specs.declared.values.time.CTime.{CTime}

-- the moment of a call that has one, or why there is none
abbrev pub Moment : Type 0
Moment = Option (Result Zoned Status)

-- the reader of this number, with its options and the moment
abbrev pub line_reader : ℕ → CCarefulOptions → Moment → LineReader
line_reader n options now =
    if n == 0 then readers.Date options.raw_offsets now
    else if n == 1 then readers.Careful options now
    else if n == 2 then readers.Header
    else if n == 3 then readers.Signature
    else readers.NoSuch

-- a time, as C has it
abbrev pub for_c : Result Time Status → Result CTime Status
for_c answer = result_map_both time_for_c (λ status. status) answer

-- what parsing a line comes to, at a moment or at none
abbrev pub IsDate : ℕ → Moment → List ℕ → Result Time Status → Type 0
IsDate raw_offsets None = IsParsed raw_offsets None
IsDate raw_offsets (Some now) = IsParsedAt raw_offsets now

-- the same without guessing
abbrev pub IsCareful : CCarefulOptions → Moment → List ℕ → Result CTime Refusal → Type 0
IsCareful options None = IsParsedCarefully options None
IsCareful options (Some now) = IsReadAt (λ now. IsParsedCarefully options (Some now)) now

-- the time of a line that is cut into the parts of a signature line
abbrev pub time_of : Result Parts Status → Result Time Status
time_of (Ok parts) = header_answer parts.time
time_of (Err status) = Err status

-- what the exact reader of Git's dates comes to, with nothing but the time
abbrev pub IsExactLine : Result Place Status → List ℕ → Result CTime Status → Type 0
IsExactLine place line answer =
    (date : Result CExact Refusal) × IsReadAt IsExact place line date
    × (answer ≡ result_map_both (λ date. date.time) (λ status. status) (with_status date))

-- so the approximate reader
abbrev pub IsApproximateLine : Result Zoned Status → List ℕ → Result CTime Status → Type 0
IsApproximateLine now line answer =
    (date : Result CApproximate Refusal) × IsReadAt IsApproximate now line date
    × (answer ≡ result_map_both (λ date. date.time) (λ status. status) (with_status date))

-- what a reader comes to at a line: what the call for one text tells of it
abbrev pub IsLineRead : LineReader → List ℕ → Result CTime Status → Type 0
IsLineRead (readers.Date raw_offsets now) line answer =
    (time : Result Time Status) × IsDate raw_offsets now line time × (answer ≡ for_c time)
IsLineRead (readers.Careful options now) line answer =
    (time : Result CTime Refusal) × IsCareful options now line time × (answer ≡ with_status time)
IsLineRead readers.Header line answer = answer ≡ for_c (header_answer line)
IsLineRead readers.Signature line answer =
    (cut : Result Parts Status) × IsCutAnswer line cut × (answer ≡ for_c (time_of cut))
IsLineRead (readers.Exact now) line answer = IsExactLine (place_of now) line answer
IsLineRead (readers.Approximate now) line answer = IsApproximateLine now line answer
IsLineRead readers.NoSuch line answer = answer ≡ Err NoSuchOption
