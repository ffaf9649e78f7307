-- The approximate reader: one token after the other, and what the whole text comes to.
use Rattle.std.specs.Prelude.{◌≡◌, ℕ, Bool, true, false, List, length, pos, if◌then◌else◌, Option, Some, None, IfSome, Result, Ok, Err}
use Rattle.std.specs.Prelude.{option_map}
use Rattle.std.specs.Int.Signed.{le_z}
use Rattle.std.specs.Option.{option_or}
use Rattle.jiff.specs.Words.{zoned_nanos}
use Rattle.jiff.specs.declared.zoned.Zoned.{Zoned}
use Rattle.gix_date.specs.Relative.Steps.{zone_of}
use Rattle.gix_date.specs.declared.time.Time.{Time}
use Rattle.git_date.specs.Approximate.Drafts.{first_draft, settle}
use Rattle.git_date.specs.Approximate.Rules.{approximate_letters_rule, approximate_digits_rule}
use Rattle.git_date.specs.Approximate.Zones.{shown_in, filled_time}
use Rattle.git_date.specs.Exact.Zones.{States, states_of}
use Rattle.git_date.specs.Rules.Dates.{now_of}
use Rattle.git_date.specs.Exact.Outcome.{read_at, IsPlaceIn, IsErrorIn}
use Rattle.git_date.specs.Exact.Reading.{place_in, error_of, ended}
use Rattle.git_date.specs.Tokens.Steps.{and_then}
use Rattle.git_date.specs.Tokens.Strings.{nul_place, before_nul}
use Rattle.git_date.specs.Tokens.Tokens.{Token, Letters, Digits, Mark, tokens, walked}
use Rattle.git_date.specs.declared.approximate.Approximate.{Approximate}
use Rattle.git_date.specs.declared.approximate.Today.{Today}
use Rattle.git_date.specs.declared.approximate.drafts.Draft.{Draft}
use Rattle.git_date.specs.declared.approximate.zone.ZoneClock.{ZoneClock}
use Rattle.git_date.specs.declared.reader.ExactDate.{ExactDate}
use Rattle.git_date.specs.declared.fields.dates.Now.{Now}
use Rattle.git_date.specs.declared.error.DateError.{DateError}
use Rattle.git_date.specs.declared.error.DateError.TheVariants.{Unreadable, Range}
use Rattle.git_date.specs.declared.error.Fault.{Fault}

-- a draft, and the tokens that are left to read
abbrev pub Read : Type 0
Read = Result (Draft × List Token) Fault

-- the rule of a token: marks say nothing
abbrev pub approximate_rule : States → Today → Draft → Token → List Token → Read
approximate_rule zone today d (Letters run) more =
    and_then (approximate_letters_rule zone today.shown.clock d run more) (λ next. Ok (next, more))
approximate_rule zone today d (Digits run) more = ended (approximate_digits_rule today.now d run more)
approximate_rule zone today d (Mark byte) more = Ok (d, more)

abbrev pub approximate_step : States → Today → Draft → Token → List Token → (Draft → List Token → Result Draft Fault) → Result Draft Fault
approximate_step zone today d t more go = and_then (approximate_rule zone today d t more) (λ next. go next.0 next.1)

abbrev pub approximate_steps : States → Today → ℕ → Draft → List Token → Result Draft Fault
approximate_steps zone today n d ts = walked (approximate_step zone today) n d ts

-- what the tokens of a text say, one after the other: it has no more of them than bytes
unfoldable pub draft_of : States → Today → List ℕ → Result Draft Fault
draft_of zone today text = approximate_steps zone today (length text) (first_draft today.shown) (tokens text)

-- the answer is the time at which the zone's clock shows the draft; Git has none before 1970
abbrev pub answer : List ℕ → Draft → Option Time → Result Approximate DateError
answer text d (Some time) =
    if le_z (pos 0) time.seconds
    then Ok (record { time = time; understood = d.understood; ignored = option_map (place_in text) d.ignored })
    else Err Range
answer text d None = Err Range

abbrev pub answer_of : States → Today → List ℕ → Result Draft Fault → Result Approximate DateError
answer_of zone today text (Ok d) = answer text (settle d) (filled_time zone today.shown.clock (settle d).last (settle d).fields)
answer_of zone today text (Err e) = Err (error_of text e)

abbrev pub guess_by : States → Now → List ℕ → Option ZoneClock → Result Approximate DateError
guess_by zone now text (Some shown) =
    let today : Today = record { now = now; shown = shown } in answer_of zone today text (draft_of zone today text)
guess_by zone now text None = Err Range

-- what the approximate reader makes of a text without NUL
unfoldable pub string_guess : States → Now → List ℕ → Result Approximate DateError
string_guess zone now text = guess_by zone now text (shown_in zone now.seconds)

-- what is answered, where what begins at this place is ignored too, if there is one
abbrev pub answer_up_to : Option ℕ → Result Approximate DateError → Result Approximate DateError
answer_up_to place (Ok date) = Ok (record date { ignored = option_or date.ignored place })
answer_up_to place (Err e) = Err e

-- what the approximate reader makes of a text: of what stands before its first NUL
unfoldable pub guess : States → Now → List ℕ → Result Approximate DateError
guess zone now text = answer_up_to (nul_place text) (string_guess zone now (before_nul text))

abbrev pub is_unreadable : DateError → Bool
is_unreadable Unreadable = true
is_unreadable _ = false

-- the answer of the exact reader, where it reads or refuses the text by another name
abbrev pub exact_or_guess : Result ExactDate DateError → Result Approximate DateError → Result Approximate DateError
exact_or_guess (Ok date) guessed = Ok (record { time = date.time; understood = true; ignored = date.ignored })
exact_or_guess (Err e) guessed = if is_unreadable e then guessed else Err e

-- what `approxidate` reads: what the exact reader says, or else the guess
abbrev pub approximate : Zoned → List ℕ → Result Approximate DateError
approximate moment text =
    exact_or_guess (read_at (zoned_nanos moment) (zone_of moment) text) (guess (states_of (zone_of moment)) (now_of moment) text)

-- the result of `approxidate`
abbrev pub ApproximateOutcome : Zoned → List ℕ → Result Approximate DateError → Type 0
ApproximateOutcome moment text result = result ≡ approximate moment text

-- places are in the text: that of what was ignored, or that of a refusal
abbrev pub HasApproximatePlacesIn : List ℕ → Result Approximate DateError → Type 0
HasApproximatePlacesIn text (Ok date) = IfSome date.ignored (IsPlaceIn text)
HasApproximatePlacesIn text (Err e) = IsErrorIn text e
