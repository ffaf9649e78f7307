-- The months and days of the week that words tell: by the first three letters of their names or more, in any letter case, as Git
-- reads them.
use Rattle.std.specs.Char.{to_ascii_lowercase}
use Rattle.std.specs.List.{position}
use Rattle.std.specs.Prelude.{ℕ, ◌+◌, ◌==◌, Bool, false, ◌&&◌, List, [], ◌∷◌, length, take, nat_le, codes, Option, option_map}
use Rattle.gix_date.specs.Text.Names.{is_name, whole_month_names}

-- a word is the front of a name, in any letter case
abbrev pub begins : List ℕ → List ℕ → Bool
begins word name = nat_le (length word) (length name) && is_name word (take (length word) name)

-- the least count of letters that tells a name
abbrev pub least : ℕ
least = 3

-- a word is the front of a name and has three letters or more
abbrev pub is_short : List ℕ → List ℕ → Bool
is_short word name = nat_le least (length word) && begins word name

-- the names of days, which Git knows with an `s` at their end
abbrev pub long_day_names : List (List ℕ)
long_day_names =
    codes "Mondays" ∷ codes "Tuesdays" ∷ codes "Wednesdays" ∷ codes "Thursdays" ∷ codes "Fridays" ∷ codes "Saturdays"
    ∷ codes "Sundays" ∷ []

-- the month that a word tells, from 1
unfoldable pub month_of_word : List ℕ → Option ℕ
month_of_word word = option_map (λ place. place + 1) (position (is_short word) whole_month_names)

-- the day of the week that a word tells, from 0 for Monday
unfoldable pub weekday_of_word : List ℕ → Option ℕ
weekday_of_word word = position (is_short word) long_day_names

-- a name begins with these small letters, in any letter case, and goes on with what begins so
abbrev pub tells : ℕ → ℕ → ℕ → List ℕ → List ℕ → Bool
tells u v w end (x ∷ y ∷ z ∷ rest) =
    u == to_ascii_lowercase x && (v == to_ascii_lowercase y && (w == to_ascii_lowercase z && begins end rest))
tells u v w end _ = false

-- the month and the day of the week that are told by three small letters and what follows them
abbrev pub month_by : ℕ → ℕ → ℕ → List ℕ → Option ℕ
month_by u v w end = option_map (λ place. place + 1) (position (tells u v w end) whole_month_names)

abbrev pub weekday_by : ℕ → ℕ → ℕ → List ℕ → Option ℕ
weekday_by u v w end = position (tells u v w end) long_day_names
