-- What expires: all, nothing, or what is older than a date.
use Rattle.std.specs.Prelude.{◌≡◌, ℕ, ◌||◌, List, bytes_eq, codes, if◌then◌else◌, Option, Some, None, Result, Ok, Err}
use Rattle.jiff.specs.declared.zoned.Zoned.{Zoned}
use Rattle.git_date.specs.Approximate.Reading.{approximate, HasApproximatePlacesIn}
use Rattle.git_date.specs.Exact.Outcome.{IsErrorIn}
use Rattle.git_date.specs.Tokens.Strings.{before_nul}
use Rattle.git_date.specs.declared.approximate.Approximate.{Approximate}
use Rattle.git_date.specs.declared.approximate.expiry.Expiry.{Expiry}
use Rattle.git_date.specs.declared.approximate.expiry.Expiry.TheVariants.{Never, All, Before}
use Rattle.git_date.specs.declared.error.DateError.{DateError}
use Rattle.git_date.specs.declared.error.DateError.TheVariants.{Unreadable}

-- the words that are no dates here, in small letters alone
abbrev pub fixed_expiry : List ℕ → Option Expiry
fixed_expiry text =
    if bytes_eq text (codes "never") || bytes_eq text (codes "false") then Some Never
    else (if bytes_eq text (codes "all") || bytes_eq text (codes "now") then Some All else None)

-- a date of which something was understood
abbrev pub expiry_of : Result Approximate DateError → Result Expiry DateError
expiry_of (Ok date) = if date.understood then Ok (Before date) else Err Unreadable
expiry_of (Err e) = Err e

abbrev pub expiry_by : Zoned → List ℕ → Option Expiry → Result Expiry DateError
expiry_by moment text (Some expiry) = Ok expiry
expiry_by moment text None = expiry_of (approximate moment text)

-- The result of `expiry_date`: that of one of four words, or else of a date. The word may stand before a NUL.
abbrev pub ExpiryOutcome : Zoned → List ℕ → Result Expiry DateError → Type 0
ExpiryOutcome moment text result = result ≡ expiry_by moment text (fixed_expiry (before_nul text))

-- places are in the text: those of a date, or that of a refusal
abbrev pub HasExpiryPlacesIn : List ℕ → Result Expiry DateError → Type 0
HasExpiryPlacesIn text (Ok (Before date)) = HasApproximatePlacesIn text (Ok date)
HasExpiryPlacesIn text (Ok Never) = Unit {0}
HasExpiryPlacesIn text (Ok All) = Unit {0}
HasExpiryPlacesIn text (Err e) = IsErrorIn text e
