-- The definition of the approximate reader in a zone whose clock and flag change, on worked texts: each row computes. The answers are
-- Git's, by TZ=AST-1ADT-2,J212/1,J360.
use Rattle.std.proofs.Common.{◌≡◌, refl, List, [], ◌∷◌, ℕ, ℤ, pos, true, false, if◌then◌else◌, map, Option, Some, None, Result, Ok, Err}
use Prim.Native.String.{String}
use Rattle.std.specs.Int.Signed.{le_z}
use Rattle.std.specs.Prelude.{codes}
use Rattle.git_date.specs.Approximate.Reading.{guess}
use Rattle.git_date.specs.Approximate.Computing.{approximating}
use Rattle.git_date.specs.Exact.Computing.{computing}
use Rattle.git_date.specs.Exact.Zones.{States}
use Rattle.git_date.specs.declared.approximate.Approximate.{Approximate}
use Rattle.git_date.specs.declared.error.DateError.{DateError}
use Rattle.git_date.specs.declared.fields.dates.Now.{Now}
use Rattle.gix_date.specs.declared.time.Time.{Time}
use Rattle.git_date.proofs.Rows.RowMoment.{row_now}

-- daylight saving time, an hour ahead, from 2009-07-31 01:00 on
abbrev ahead : States
ahead seconds =
    if le_z (pos 1_248_998_400) seconds then Some (record { offset = pos 7200; daylight = true })
    else Some (record { offset = pos 3600; daylight = false })

-- that day at 14:00
abbrev change_now : Now
change_now = record { seconds = pos 1_249_041_600 }

abbrev time_of : Result Approximate DateError → Option Time
time_of (Ok date) = Some date.time
time_of (Err e) = None

-- each row is a text, its seconds and the offset of the zone there
abbrev Guesses : Now → List (String × ℕ × ℤ) → Type 0
Guesses now rows =
    map (λ (row : String × ℕ × ℤ). time_of (guess ahead now (codes row.0))) rows
    ≡ map (λ (row : String × ℕ × ℤ). Some (record { seconds = pos row.1; offset = row.2 })) rows

-- a month after the change: a clock before it is read by the offset of daylight saving time
month_rows :
    Guesses row_now
    (("now", 1251660000, pos 7200)
    ∷ ("90 minutes ago", 1251654600, pos 7200)
    ∷ ("1 month ago", 1248981600, pos 3600)
    ∷ ("3 months ago", 1243711200, pos 3600)
    ∷ ("july 5th", 1246821600, pos 3600)
    ∷ ("noon yesterday", 1251540000, pos 7200) ∷ [])
unfolding computing approximating
month_rows = refl

-- on the day of the change, which skips the clocks from 1:00 to 2:00
change_rows :
    Guesses change_now
    (("now", 1249041600, pos 7200)
    ∷ ("yesterday", 1248955200, pos 3600)
    ∷ ("noon yesterday", 1248948000, pos 3600)
    ∷ ("midnight", 1248991200, pos 3600)
    ∷ ("tea", 1248969600, pos 3600)
    ∷ ("2 days ago", 1248868800, pos 3600)
    ∷ ("12 hours ago", 1248998400, pos 7200)
    ∷ ("1:30", 1248996600, pos 3600)
    ∷ ("1:59:60", 1248998400, pos 7200) ∷ [])
unfolding computing approximating
change_rows = refl
