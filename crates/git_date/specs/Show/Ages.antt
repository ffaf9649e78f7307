-- Ages: how long ago a time was, in one unit.
use Rattle.std.specs.Prelude.{ℕ, ◌+◌, ◌*◌, ◌/◌, ◌%◌, ◌==◌, nat_lt, List, [], ◌∷◌, ◌++◌, codes, decimal, ℤ, pos, ◌-ℤ◌, unsigned_abs, ◌||◌}
use Rattle.std.specs.Prelude.{if◌then◌else◌, Option, Some, None, Result, Ok, Err}
use Rattle.std.specs.Int.Signed.{lt_z}
use Rattle.gix_date.specs.Text.Characters.{space}
use Rattle.git_date.specs.declared.error.DateError.{DateError}
use Rattle.git_date.specs.declared.error.DateError.TheVariants.{Range}
use Rattle.git_date.specs.declared.show.ages.Age.{Age}
use Rattle.git_date.specs.declared.show.ages.Age.TheVariants.{Seconds, Minutes, Hours, Days, Weeks, Months, Years}

-- a count of a smaller unit in a larger one, rounded half up
abbrev pub rounded : ℕ → ℕ → ℕ
rounded n length = (n + length / 2) / length

abbrev pub minutes_of : ℕ → ℕ
minutes_of seconds = rounded seconds 60

abbrev pub hours_of : ℕ → ℕ
hours_of seconds = rounded (minutes_of seconds) 60

-- years and the months beyond them
abbrev pub in_years_and_months : ℕ → Age
in_years_and_months months = Years (months / 12) (months % 12)

-- From days on: days below two weeks, weeks below ten, months below a year, years and months below five years, years. There a month is one
-- of 730 hours.
unfoldable pub age_of_days : ℕ → Age
age_of_days days =
    if nat_lt days 14 then Days days
    else (if nat_lt days 70 then Weeks (rounded days 7)
    else (if nat_lt days 365 then Months (rounded days 30)
    else (if nat_lt days 1825 then in_years_and_months (rounded (24 * days) 730)
    else Years ((days + 183) / 365) 0)))

-- the age of so many seconds: seconds below 90, minutes below 90, hours below 36, and then by days
unfoldable pub age_of : ℕ → Age
age_of seconds =
    if nat_lt seconds 90 then Seconds seconds
    else (if nat_lt (minutes_of seconds) 90 then Minutes (minutes_of seconds)
    else (if nat_lt (hours_of seconds) 36 then Hours (hours_of seconds)
    else age_of_days (rounded (hours_of seconds) 24)))

-- a count and its unit: `1 day`, `2 days`
abbrev pub counted : ℕ → List ℕ → List ℕ
counted n unit = decimal n ++ space ∷ unit ++ (if n == 1 then [] else codes "s")

abbrev pub and_months : ℕ → List ℕ
and_months months = if months == 0 then [] else codes ", " ++ counted months (codes "month")

abbrev pub age_text : Age → List ℕ
age_text (Seconds n) = counted n (codes "second")
age_text (Minutes n) = counted n (codes "minute")
age_text (Hours n) = counted n (codes "hour")
age_text (Days n) = counted n (codes "day")
age_text (Weeks n) = counted n (codes "week")
age_text (Months n) = counted n (codes "month")
age_text (Years years months) = counted years (codes "year") ++ and_months months

-- the age of the time `seconds` at `now`; a later time has none
unfoldable pub age_between : ℤ → ℤ → Option Age
age_between now seconds = if lt_z now seconds then None else Some (age_of (unsigned_abs (now -ℤ seconds)))

-- an age, as it is shown
abbrev pub shown_age : Option Age → List ℕ
shown_age (Some age) = age_text age ++ codes " ago"
shown_age None = codes "in the future"

-- the time `seconds`, as it is shown at `now`
unfoldable pub relative_text : ℤ → ℤ → List ℕ
relative_text now seconds = shown_age (age_between now seconds)

-- The age of a time, or none of a later one. Git's moments have no sign, so that before 1970 a time is refused, and a moment too.
unfoldable pub age_answer : ℤ → ℤ → Result (Option Age) DateError
age_answer now seconds =
    if lt_z seconds (pos 0) || lt_z now (pos 0) then Err Range else Ok (age_between now seconds)
