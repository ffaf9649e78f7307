-- Ages, as C has them.
use Rattle.std.specs.Prelude.{ℕ, ℤ, Option, Some, None, Result, Ok, Err}
use Rattle.std.specs.Result.{result_map_both}
use Rattle.gix_date.specs.Fields.Zoned.{whole_seconds}
use Rattle.git_date.specs.Show.Ages.{age_answer}
use Rattle.git_date.specs.Types.AgeCases.{Seconds, Minutes, Hours, Days, Weeks, Months, Years}
use Rattle.git_date.specs.Types.Names.{Age}
use Rattle.gix_date_c.specs.declared.git.ages.CAge.{CAge}
use Rattle.gix_date_c.specs.declared.values.status.Status.{Status}
use Rattle.gix_date_c.specs.declared.values.status.Status.TheVariants.{GitRange}

-- a count of the unit of this number
abbrev pub counted : ℕ → ℕ → CAge
counted unit count = record { unit = unit; count = count; months = 0 }

-- the units have the numbers of the header, from seconds to years; a later time has the one after these
abbrev pub age_for_c : Option Age → CAge
age_for_c (Some (Seconds count)) = counted 0 count
age_for_c (Some (Minutes count)) = counted 1 count
age_for_c (Some (Hours count)) = counted 2 count
age_for_c (Some (Days count)) = counted 3 count
age_for_c (Some (Weeks count)) = counted 4 count
age_for_c (Some (Months count)) = counted 5 count
age_for_c (Some (Years years months)) = record { unit = 6; count = years; months = months }
age_for_c None = counted 7 0

-- the age of a time at an instant, or why there is none
abbrev pub age_at : ℤ → Result ℤ Status → Result CAge Status
age_at seconds (Ok nanos) = result_map_both age_for_c (λ refusal. GitRange) (age_answer (whole_seconds nanos) seconds)
age_at seconds (Err status) = Err status
