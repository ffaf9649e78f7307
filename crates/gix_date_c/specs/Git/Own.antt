-- The dates of identity lines, as C has them.
use Rattle.std.specs.Prelude.{◌≡◌, ℕ, List, Option, Some, None, Result, Ok, Err}
use Rattle.std.specs.Result.{result_map_both}
use Rattle.jiff.specs.Types.{TimeZone}
use Rattle.git_date.specs.Show.Clocks.{moment_at}
use Rattle.git_date.specs.Show.OwnDates.{own_date_shown}
use Rattle.git_date.specs.declared.mode.DateMode.{DateMode}
use Rattle.git_date.specs.declared.show.own.OwnDateError.{OwnDateError}
use Rattle.git_date.specs.declared.show.own.OwnDateError.TheVariants as faults
use Rattle.gix_signature.specs.declared.ident.GitTime.{GitTime}
use Rattle.gix_date_c.specs.Git.Modes.{mode_of}
use Rattle.gix_date_c.specs.Moments.{IsPlaced, Place}
use Rattle.gix_date_c.specs.declared.git.show.CMode.{CMode}
use Rattle.gix_date_c.specs.declared.moment.CInstant.{CInstant}
use Rattle.gix_date_c.specs.declared.values.status.Status.{Status}
use Rattle.gix_date_c.specs.declared.values.status.Status.TheVariants as statuses

-- the status of a refusal
abbrev pub own_status : OwnDateError → Status
own_status faults.Range = statuses.GitRange
own_status faults.BeforeEpoch = statuses.BeforeEpoch
own_status faults.OffsetTooWide = statuses.OffsetTooWide

-- what Git shows of the time of a line at an instant in a zone, in a mode that may be none
abbrev pub own_answer : GitTime → Option DateMode → Place → Result (List ℕ) Status
own_answer t (Some mode) place = result_map_both (λ text. text) own_status (own_date_shown (moment_at place.0 place.1) mode t)
own_answer t None place = Err statuses.NoSuchOption

-- the same where there are both
abbrev pub own_shown_at : GitTime → CMode → Result Place Status → Result (List ℕ) Status
own_shown_at t mode (Ok place) = own_answer t (mode_of mode) place
own_shown_at t mode (Err status) = Err status

-- what Git shows of the time of a line at an instant in a zone of which this is known
abbrev pub IsOwnShownIn : GitTime → CMode → (Result TimeZone Status → Type 0) → CInstant → Result (List ℕ) Status → Type 0
IsOwnShownIn t mode IsZone instant answer =
    (place : Result Place Status) × IsPlaced IsZone instant place × (answer ≡ own_shown_at t mode place)
