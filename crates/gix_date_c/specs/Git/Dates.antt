-- Git's dates, as they are read for C.
use Rattle.std.specs.Prelude.{◌≡◌, ℕ, ◌^◌, ◌-◌, if◌then◌else◌, Bool, List, Option, unwrap_or, Result}
use Rattle.std.specs.Result.{result_map_both}
use Rattle.jiff.specs.declared.zoned.Zoned.{Zoned}
use Rattle.git_date.specs.Approximate.Reading.{ApproximateOutcome, HasApproximatePlacesIn}
use Rattle.git_date.specs.Approximate.Expiry.{ExpiryOutcome, HasExpiryPlacesIn}
use Rattle.git_date.specs.Exact.Outcome.{DateOutcomeAt, HasPlacesIn}
use Rattle.git_date.specs.declared.approximate.Approximate.{Approximate}
use Rattle.git_date.specs.declared.approximate.expiry.Expiry.{Expiry}
use Rattle.git_date.specs.declared.approximate.expiry.Expiry.TheVariants.{Never, All, Before}
use Rattle.git_date.specs.declared.reader.ExactDate.{ExactDate}
use Rattle.git_date.specs.declared.error.DateError.{DateError}
use Rattle.git_date.specs.declared.error.DateError.TheVariants as errors
use Rattle.gix_date_c.specs.Moments.{Place}
use Rattle.gix_date_c.specs.Values.Refusals.{refused, refused_at}
use Rattle.gix_date_c.specs.Values.Times.{time_for_c}
use Rattle.gix_date_c.specs.declared.git.dates.CApproximate.{CApproximate}
use Rattle.gix_date_c.specs.declared.git.dates.CExact.{CExact}
use Rattle.gix_date_c.specs.declared.git.dates.CExpiry.{CExpiry}
use Rattle.gix_date_c.specs.declared.values.refusal.Refusal.{Refusal}
use Rattle.gix_date_c.specs.declared.values.status.Status.TheVariants as statuses

-- the refusal that C is told for one of the library
abbrev pub date_refusal : DateError → Refusal
date_refusal errors.Unreadable = refused statuses.Unreadable
date_refusal (errors.NumberTooLarge place) = refused_at statuses.NumberTooLarge place
date_refusal (errors.BackTooFar place) = refused_at statuses.BackTooFar place
date_refusal (errors.YearRefused place) = refused_at statuses.YearRefused place
date_refusal errors.Range = refused statuses.GitRange

-- the place of what was ignored, or the greatest `usize` if nothing was: no text has that place
abbrev pub ignored_place : Option ℕ → ℕ
ignored_place ignored = unwrap_or ignored (2 ^ 64 - 1)

-- a `bool` of C
abbrev pub bool_for_c : Bool → ℕ
bool_for_c b = if b then 1 else 0

abbrev pub exact_of : ExactDate → CExact
exact_of date =
    record {
      time = time_for_c date.time;
      ignored = ignored_place date.ignored;
      has_offset = bool_for_c date.has_offset;
    }

abbrev pub approximate_of : Approximate → CApproximate
approximate_of date =
    record {
      time = time_for_c date.time;
      ignored = ignored_place date.ignored;
      understood = bool_for_c date.understood;
    }

-- what expires, where the date that was there before stays if none is read
abbrev pub expiry_of : CExpiry → Expiry → CExpiry
expiry_of old Never = record { kind = 0; before = old.before }
expiry_of old All = record { kind = 1; before = old.before }
expiry_of old (Before date) = record { kind = 2; before = approximate_of date }

-- what the exact reader comes to at an instant in a zone, as C has it: the library's outcome, of which each place is in the text
abbrev pub IsExact : Place → List ℕ → Result CExact Refusal → Type 0
IsExact place text answer =
    (date : Result ExactDate DateError) × DateOutcomeAt place.0 place.1 text date
    × HasPlacesIn text date × (answer ≡ result_map_both exact_of date_refusal date)

-- the same of the approximate reader
abbrev pub IsApproximate : Zoned → List ℕ → Result CApproximate Refusal → Type 0
IsApproximate now text answer =
    (date : Result Approximate DateError) × ApproximateOutcome now text date
    × HasApproximatePlacesIn text date × (answer ≡ result_map_both approximate_of date_refusal date)

-- the same of what expires
abbrev pub IsExpiry : CExpiry → Zoned → List ℕ → Result CExpiry Refusal → Type 0
IsExpiry old now text answer =
    (expiry : Result Expiry DateError) × ExpiryOutcome now text expiry
    × HasExpiryPlacesIn text expiry × (answer ≡ result_map_both (expiry_of old) date_refusal expiry)
