-- Zones that values of `TZ` and `TZDIR` mean.
use Rattle.std.specs.Prelude.{◌≡◌, ◌⊎◌, ◌==◌, ◌++◌, ℕ, List, [], ◌∷◌, length, true, Some, Result, Ok, Err, pos, if◌then◌else◌}
use Rattle.jiff.specs.Words.{plain_zone}
use Rattle.std.specs.Option.{option_map_or}
use Rattle.git_date.specs.Exact.Places.{file_of, folder_of}
use Rattle.git_date.specs.Rules.Groups.{slash}
use Rattle.gix_date_c.specs.Moments.{IsZoneWithoutFile}
use Rattle.gix_date_c.specs.Values.Statuses.{if_text, number_of}
use Rattle.gix_date_c.specs.Zones.{IsHeld}
use Rattle.gix_date_c.specs.declared.values.status.Status.{Status}
use Rattle.gix_date_c.specs.declared.values.status.Status.TheVariants as statuses
use Rattle.gix_date_c.specs.declared.zone.found.Path.{Path}
use Rattle.gix_date_c.specs.declared.zone.held.Held.{Held}
use Rattle.gix_date_c.specs.declared.zone.held.Held.TheVariants.{Rule, Table as Rows}
use Rattle.gix_date_c.specs.declared.zone.stored.CZone.{CZone}

-- the path of a name below a folder; without a folder the name is the path
abbrev pub joined : List ℕ → List ℕ → List ℕ
joined folder name = if length folder == 0 then name else folder ++ slash ∷ name

-- the text of the pieces of a path
abbrev pub path_of : Path → List ℕ
path_of path = path.folder.now ++ (path.mark.now ++ path.name.now)

-- the path of the file that says the zone, if one does; only that needs the folder
abbrev pub path_answer : List ℕ → List ℕ → Result (List ℕ) Status
path_answer tz folder =
    if_text tz (option_map_or (λ name. if_text folder (Ok (joined (folder_of name folder) name))) (file_of tz) (Ok []))

-- what a value of `TZ` says where there are no bytes of its file
abbrev pub IsLeft : List ℕ → Result Held Status → Type 0
IsLeft tz (Ok (Rule zone)) = IsZoneWithoutFile tz (Ok (plain_zone zone))
IsLeft tz (Ok (Rows table)) = ⊥
IsLeft tz (Err status) = IsZoneWithoutFile tz (Err status)

-- what is held of a file, or else of a value of `TZ`
abbrev pub IsFound : List ℕ → List ℕ → Result Held Status → Type 0
IsFound tz [] held = IsLeft tz held
IsFound tz (b ∷ bs) held = IsHeld true (b ∷ bs) held

-- a zone means what a value of `TZ` and its file say, or what was there is as it was, and the status says why
abbrev pub Finds : List ℕ → List ℕ → CZone → CZone → ℕ → Type 0
Finds tz file old new status =
    ((held : Held) × IsFound tz file (Ok held) × (new.offset ≡ pos 0) × (new.handle.held ≡ Some held)
    × (status ≡ number_of statuses.Done))
    ⊎ ((refusal : Status) × (IsFound tz file (Err refusal) ⊎ (refusal ≡ statuses.Memory)) × (new ≡ old)
    × (status ≡ number_of refusal))
