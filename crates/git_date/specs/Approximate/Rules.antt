-- The rules of the approximate reader: what digits and words make of a draft.
use Rattle.std.specs.Prelude.{ℕ, Bool, true, false, ◌||◌, List, ◌∷◌, pos, ◌==◌, if◌then◌else◌, Option, Some, None, Result, Ok, Err, ok_or}
use Rattle.gix_date.specs.Fields.ClockNumbers.{seconds_per_day}
use Rattle.gix_date.specs.Text.Characters.{digit_zero}
use Rattle.git_date.specs.Approximate.Drafts.{ignore, settle, dropped, without_number, with_hour, is_before, half, units, weekday_seconds}
use Rattle.git_date.specs.Approximate.Drafts.{less_months}
use Rattle.git_date.specs.Approximate.Words.{meaning_of}
use Rattle.git_date.specs.Approximate.Zones.{fill, moved_to}
use Rattle.git_date.specs.Exact.Zones.{States}
use Rattle.git_date.specs.Rules.Digits.{group_said}
use Rattle.git_date.specs.Tokens.Steps.{◌>>=◌}
use Rattle.git_date.specs.Tokens.Numbers.{number, is_too_large}
use Rattle.git_date.specs.Tokens.Tokens.{Token, Letters, Digits, bytes_left}
use Rattle.git_date.specs.Rules.Words.{is_filler}
use Rattle.git_date.specs.declared.approximate.drafts.Draft.{Draft}
use Rattle.git_date.specs.declared.approximate.meanings.Meaning.{Meaning}
use Rattle.git_date.specs.declared.approximate.zone.Found.{Found}
use Rattle.git_date.specs.declared.approximate.meanings.Meaning.TheVariants.{Month, Back, Never, Hour, Morning, Afternoon, Count}
use Rattle.git_date.specs.declared.approximate.meanings.Meaning.TheVariants as meaning
use Rattle.git_date.specs.declared.approximate.meanings.Unit.{Unit}
use Rattle.git_date.specs.declared.approximate.meanings.Unit.TheVariants.{Seconds, Weekday, Months}
use Rattle.git_date.specs.declared.fields.dates.Now.{Now}
use Rattle.git_date.specs.declared.error.Fault.{Fault}
use Rattle.git_date.specs.declared.error.Fault.TheVariants.{NumberTooLarge, BackTooFar}
use Rattle.git_date.specs.declared.fields.Fields.{Fields}
use Rattle.git_date.specs.declared.fields.groups.Number.{Number}
use Rattle.gix_date.specs.Fields.Layout.{LocalTime}

-- what a rule makes of a draft: `None` if it did nothing
abbrev pub Ruled : Type 0
Ruled = Result (Option Draft) Fault

abbrev pub used : Result Draft Fault → Ruled
used (Ok d) = Ok (Some d)
used (Err e) = Err e

-- `midnight`, `noon`, `tea`: where the clock is before that hour, the day before
abbrev pub hour_rule : States → LocalTime → Draft → ℕ → ℕ → Result Draft Fault
hour_rule zone today d hour left = do
  day ← if is_before (settle d).fields.hour hour then fill zone today (settle d) seconds_per_day left else Ok (settle d)
  Ok (with_hour day hour)

-- a number of seconds back: Git has no more than 32 bits for them
abbrev pub back_rule : States → LocalTime → Draft → ℕ → Number → Result Draft Fault
back_rule zone today d back n = if is_too_large back then Err (BackTooFar n.left) else fill zone today d back n.left

-- a number of months back: the date is filled in first
abbrev pub months_rule : States → LocalTime → Draft → ℕ → Number → Result Draft Fault
months_rule zone today d months n = do
  filled ← fill zone today d 0 n.left
  fields ← ok_or (less_months filled.fields months) (BackTooFar n.left)
  Ok (record filled { fields = fields })

-- what a number counts
abbrev pub unit_rule : States → LocalTime → Draft → Unit → Number → Result Draft Fault
unit_rule zone today d (Seconds size) n = back_rule zone today (without_number d) (units n.value size) n
unit_rule zone today d (Weekday day) n = back_rule zone today (without_number d) (weekday_seconds d.last.weekday day n.value) n
unit_rule zone today d (Months size) n = months_rule zone today (without_number d) (units n.value size) n

-- without a number that waits it says nothing
abbrev pub counted_by : States → LocalTime → Draft → Unit → Option Number → Ruled
counted_by zone today d unit (Some n) = used (unit_rule zone today d unit n)
counted_by zone today d unit None = Ok None

-- a number waits, where none waits yet
abbrev pub count_waits : Draft → ℕ → ℕ → Option Number → Option Draft
count_waits d n left None = Some (record d { waiting = Some (record { value = n; left = left }) })
count_waits d n left (Some other) = None

abbrev pub with_month : Draft → ℕ → Draft
with_month d month = record d { fields = record d.fields { month = Some month } }

-- the first instant of 1970, which no search finds
abbrev pub first_instant : Draft → Found
first_instant d = record { instant = pos 0; guess = d.last.guess }

-- what a word makes of a draft by what it says
unfoldable pub meaning_rule : States → LocalTime → Draft → ℕ → Meaning → Ruled
meaning_rule zone today d left (Month month) = Ok (Some (with_month d month))
meaning_rule zone today d left (Back seconds) = used (fill zone today (dropped d) seconds left)
meaning_rule zone today d left Never = used (moved_to zone (dropped d) left (first_instant d))
meaning_rule zone today d left (Hour hour) = used (hour_rule zone today d hour left)
meaning_rule zone today d left Morning = Ok (Some (half d 0))
meaning_rule zone today d left Afternoon = Ok (Some (half d 12))
meaning_rule zone today d left (Count n) = Ok (count_waits d n left d.waiting)
meaning_rule zone today d left (meaning.Unit unit) = counted_by zone today d unit d.waiting

abbrev pub word_by : States → LocalTime → Draft → ℕ → Option Meaning → Ruled
word_by zone today d left (Some meaning) = meaning_rule zone today d left meaning
word_by zone today d left None = Ok None

abbrev pub understood : Draft → Draft
understood d = record d { understood = true }

-- a word that did nothing is ignored, unless it is a filler
abbrev pub read_word : Draft → List ℕ → ℕ → Ruled → Result Draft Fault
read_word d word left (Ok (Some next)) = Ok (understood next)
read_word d word left (Ok None) = Ok (if is_filler word then d else ignore d left)
read_word d word left (Err e) = Err e

abbrev pub are_digits_next : List Token → Bool
are_digits_next (Digits run ∷ more) = true
are_digits_next more = false

-- letters: no word that has a digit is known
unfoldable pub approximate_letters_rule : States → LocalTime → Draft → List ℕ → List Token → Result Draft Fault
approximate_letters_rule zone today d run more =
    let left = bytes_left (Letters run ∷ more) in
    if are_digits_next more then Ok (ignore d left)
    else read_word d run left (word_by zone today d left (meaning_of run))

-- three digits or more that begin with 0
abbrev pub is_padded : List ℕ → Bool
is_padded (a ∷ b ∷ c ∷ run) = a == digit_zero
is_padded run = false

-- a number waits, unless it is 0 or padded
abbrev pub number_waits : Draft → List ℕ → ℕ → Draft
number_waits d run left =
    if number run == 0 || is_padded run then ignore d left
    else record d { waiting = Some (record { value = number run; left = left }) }

-- what a group said, or else a number that waits
abbrev pub group_or_number : Draft → List ℕ → List Token → Option (Fields × List Token) → Draft × List Token
group_or_number d run more (Some found) = (record d { fields = found.0 }, found.1)
group_or_number d run more None = (number_waits d run (bytes_left (Digits run ∷ more)), more)

-- digits: the number that waited is settled; then a group is taken, or this number waits
unfoldable pub approximate_digits_rule : Now → Draft → List ℕ → List Token → Result (Draft × List Token) Fault
approximate_digits_rule now d run more =
    let ready = understood (settle d) in
    if is_too_large (number run) then Err (NumberTooLarge (bytes_left (Digits run ∷ more)))
    else (group_said now ready.fields run more >>= λ said. Ok (group_or_number ready run more said))
