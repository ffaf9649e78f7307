-- How Git shows dates, as C says it.
use Rattle.std.specs.Prelude.{◌≡◌, ℕ, ◌==◌, if◌then◌else◌, Bool, true, false, List, [], ◌∷◌, slice_get, Option, Some, None, ok_or, Result}
use Rattle.std.specs.Prelude.{Ok, Err}
use Rattle.std.specs.Result.{result_map_both}
use Rattle.jiff.specs.Types.{TimeZone}
use Rattle.gix_date.specs.Text.Front.{◌>>=◌}
use Rattle.gix_date.specs.declared.time.Time.{Time}
use Rattle.git_date.specs.Show.Modes.{mode_named}
use Rattle.git_date.specs.Show.Dates.{shown}
use Rattle.git_date.specs.Show.Clocks.{moment_at}
use Rattle.git_date.specs.declared.mode.DateKind.{DateKind}
use Rattle.git_date.specs.declared.mode.DateKind.TheVariants.{Relative, Iso8601Strict, Iso8601, Rfc2822, Short, Default, Human, Raw, Unix}
use Rattle.git_date.specs.declared.mode.DateMode.{DateMode}
use Rattle.gix_date_c.specs.Git.Dates.{bool_for_c}
use Rattle.gix_date_c.specs.Moments.{IsPlaced, Place}
use Rattle.gix_date_c.specs.Values.Statuses.{if_text}
use Rattle.gix_date_c.specs.declared.git.show.CMode.{CMode}
use Rattle.gix_date_c.specs.declared.moment.CInstant.{CInstant}
use Rattle.gix_date_c.specs.declared.values.status.Status.{Status}
use Rattle.gix_date_c.specs.declared.values.status.Status.TheVariants.{NoSuchOption, GitRange}

-- the kinds in the order of their numbers
abbrev pub kinds : List DateKind
kinds = Relative ∷ Iso8601Strict ∷ Iso8601 ∷ Rfc2822 ∷ Short ∷ Default ∷ Human ∷ Raw ∷ Unix ∷ []

abbrev pub kind_numbered : ℕ → Option DateKind
kind_numbered number = slice_get kinds number

abbrev pub kind_number : DateKind → ℕ
kind_number Relative = 0
kind_number Iso8601Strict = 1
kind_number Iso8601 = 2
kind_number Rfc2822 = 3
kind_number Short = 4
kind_number Default = 5
kind_number Human = 6
kind_number Raw = 7
kind_number Unix = 8

-- whether the clock is the zone's, by a `bool` of C
abbrev pub local_of : ℕ → Option Bool
local_of n = if n == 0 then Some false else if n == 1 then Some true else None

-- the mode of these numbers
abbrev pub mode_of : CMode → Option DateMode
mode_of mode = do
  kind ← kind_numbered mode.kind
  local ← local_of mode.local
  Some (record { kind = kind; local = local })

abbrev pub mode_for_c : DateMode → CMode
mode_for_c mode = record { kind = kind_number mode.kind; local = bool_for_c mode.local }

-- a kind is had back from its number, and a mode from both of its numbers
abbrev pub IsNumbered : DateMode → Type 0
IsNumbered mode = (kind_numbered (kind_number mode.kind) ≡ Some mode.kind) × (mode_of (mode_for_c mode) ≡ Some mode)

-- the mode that a name says
abbrev pub mode_answer : List ℕ → Result CMode Status
mode_answer name = if_text name (result_map_both mode_for_c (λ status. status) (ok_or (mode_named name) NoSuchOption))

-- what Git shows of a time at an instant in a zone, in a mode that may be none
abbrev pub shown_answer : Time → Option DateMode → Place → Result (List ℕ) Status
shown_answer t (Some mode) place = ok_or (shown (moment_at place.0 place.1) mode t) GitRange
shown_answer t None place = Err NoSuchOption

-- the same where there are both
abbrev pub shown_at : Time → CMode → Result Place Status → Result (List ℕ) Status
shown_at t mode (Ok place) = shown_answer t (mode_of mode) place
shown_at t mode (Err status) = Err status

-- what Git shows of a time at an instant in a zone of which this is known
abbrev pub IsShownIn : Time → CMode → (Result TimeZone Status → Type 0) → CInstant → Result (List ℕ) Status → Type 0
IsShownIn t mode IsZone instant answer =
    (place : Result Place Status) × IsPlaced IsZone instant place × (answer ≡ shown_at t mode place)
