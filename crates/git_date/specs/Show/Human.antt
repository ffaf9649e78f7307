-- Human dates: as much as tells a date from now.
use Rattle.std.specs.Prelude.{ℕ, ◌+◌, ◌==◌, Bool, ◌&&◌, ◌||◌, not, nat_lt, nat_le, List, [], ◌∷◌, ◌++◌, ℤ, if◌then◌else◌}
use Rattle.std.specs.Ordering.{int_eq}
use Rattle.gix_date.specs.Fields.Layout.{LocalTime, LocalDate}
use Rattle.gix_date.specs.Fields.Offsets.{compact_offset_text}
use Rattle.gix_date.specs.Text.Characters.{space}
use Rattle.git_date.specs.Show.Texts.{year_text, day_and_clock_text, weekday_and_clock_text}
use Rattle.git_date.specs.declared.show.human.Distance.{Distance}
use Rattle.git_date.specs.declared.show.human.Distance.TheVariants.{OtherYear, SameDay, FewDays, SameYear}

abbrev pub is_same_day : LocalDate → LocalDate → Bool
is_same_day date today = date.month == today.month && date.day == today.day

-- one to four days before, in the same month
abbrev pub is_few_days_before : LocalDate → LocalDate → Bool
is_few_days_before date today = date.month == today.month && nat_lt date.day today.day && nat_le today.day (date.day + 4)

-- the first that applies: another year, the same day, a few days before, and otherwise the same year
abbrev pub distance_of : LocalDate → LocalDate → Distance
distance_of date today =
    if not (date.year == today.year) then OtherYear
    else (if is_same_day date today then SameDay
    else (if is_few_days_before date today then FewDays else SameYear))

-- an offset that is not that of today, after a space
abbrev pub other_offset_text : Bool → ℤ → ℤ → List ℕ
other_offset_text local offset today =
    if local || int_eq offset today then [] else space ∷ compact_offset_text offset

-- a clock of a few days ago: `Www hh:mm`, and its offset if that is another
abbrev pub few_days_text : Bool → LocalTime → LocalTime → List ℕ
few_days_text local t today =
    weekday_and_clock_text t ++ other_offset_text local t.offset today.offset

-- what is shown of a clock by its distance from today; of the same day it is the age
abbrev pub text_by_distance : Distance → Bool → LocalTime → LocalTime → List ℕ → List ℕ
text_by_distance OtherYear local t today age = year_text t
text_by_distance SameDay local t today age = age
text_by_distance FewDays local t today age = few_days_text local t today
text_by_distance SameYear local t today age = day_and_clock_text t

abbrev pub human_text : Bool → LocalTime → LocalTime → List ℕ → List ℕ
human_text local t today age = text_by_distance (distance_of t.date today.date) local t today age
