-- The numbers of the clock.
use Rattle.std.specs.Prelude.{ℕ, ◌/◌, ◌%◌}

-- the last hour of a day, minute of an hour, and second of a minute
abbrev pub max_hour : ℕ
max_hour = 23

abbrev pub max_minute : ℕ
max_minute = 59

abbrev pub max_second : ℕ
max_second = 59

abbrev pub seconds_per_minute : ℕ
seconds_per_minute = 60

abbrev pub seconds_per_hour : ℕ
seconds_per_hour = 3600

abbrev pub seconds_per_day : ℕ
seconds_per_day = 86_400

-- the whole hours of so many seconds
abbrev pub hours_in : ℕ → ℕ
hours_in seconds = seconds / seconds_per_hour

-- the whole minutes of so many seconds beyond whole hours
abbrev pub minutes_in : ℕ → ℕ
minutes_in seconds = seconds % seconds_per_hour / seconds_per_minute
