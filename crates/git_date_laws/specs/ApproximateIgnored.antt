-- What the approximate reader ignores: the earliest token that is not used.
use Rattle.std.specs.Prelude.{◌≡◌, ℕ, max, Bool, true, false, not, ◌&&◌, ◌||◌, ◌==◌, nat_le, nat_lt, List, [], ◌∷◌, ◌++◌, if◌then◌else◌}
use Rattle.std.specs.Prelude.{Option, Some, None, is_some, is_none, option_map, Ok, Err}
use Rattle.std.specs.Option.{option_or}
use Rattle.jiff.specs.declared.zoned.Zoned.{Zoned}
use Rattle.gix_date.specs.Relative.Steps.{zone_of}
use Rattle.git_date.specs.Approximate.Reading.{ApproximateOutcome}
use Rattle.git_date.specs.Approximate.Drafts.{first_draft, settle}
use Rattle.git_date.specs.Approximate.Rules.{are_digits_next, approximate_letters_rule, is_padded, approximate_digits_rule}
use Rattle.git_date.specs.Approximate.Words.{meaning_of}
use Rattle.git_date.specs.Approximate.Zones.{shown_in, filled_time}
use Rattle.git_date.specs.Exact.Zones.{States, states_of}
use Rattle.git_date.specs.Rules.Dates.{now_of}
use Rattle.git_date.specs.Rules.Groups.{group_of}
use Rattle.git_date.specs.Types.MeaningCases.{Back, Never, Hour, Count, Unit as Unit_}
use Rattle.git_date.specs.Tokens.Numbers.{number}
use Rattle.git_date.specs.Exact.Outcome.{DateOutcome}
use Rattle.git_date.specs.Exact.Reading.{place_in}
use Rattle.git_date.specs.Tokens.Strings.{before_nul, nul_place}
use Rattle.git_date.specs.Tokens.Tokens.{Token, Letters, Digits, Mark, tokens, bytes_left}
use Rattle.git_date.specs.Types.Names.{Now, Today, Draft, Fields, Meaning, Number, ZoneClock}
use Rattle.git_date.specs.declared.approximate.Approximate.{Approximate}
use Rattle.git_date.specs.declared.error.DateError.TheVariants.{Unreadable}
use Rattle.git_date.specs.Rules.Words.{is_filler}
use Rattle.git_date_laws.specs.Ignored.{takes_group, after_ending}

-- a number fits an unknown field: below 32 the day, below 13 the month, or the year
abbrev pub fits : Fields → ℕ → Bool
fits f n =
    (nat_lt n 32 && is_none f.day) || (nat_lt n 13 && is_none f.month)
    || (is_none f.year && ((nat_le 1970 n && nat_le n 2099) || (nat_le 70 n && nat_le n 99) || nat_lt n 38))

-- the place of a number that waits
abbrev pub place_of : Option Number → List ℕ
place_of (Some n) = n.left ∷ []
place_of None = []

-- that place, where the number fits no field
abbrev pub unfit : Fields → Option Number → List ℕ
unfit f (Some n) = if fits f n.value then [] else n.left ∷ []
unfit f None = []

-- A word does nothing where this number waits, or none: an unknown word, a unit without a number, or a count beside one.
abbrev pub does_nothing : Option Number → Option Meaning → Bool
does_nothing waiting None = true
does_nothing waiting (Some (Unit_ unit)) = is_none waiting
does_nothing waiting (Some (Count n)) = is_some waiting
does_nothing waiting (Some said) = false

-- The number that waits, where a word drops it: `now`, `yesterday` and `never` always do, `midnight`, `noon` and `tea` where it fits no
-- field.
abbrev pub left_by : Draft → Option Meaning → List ℕ
left_by d (Some (Back seconds)) = place_of d.waiting
left_by d (Some Never) = place_of d.waiting
left_by d (Some (Hour hour)) = unfit d.fields d.waiting
left_by d said = []

-- What is not used at letters: they themselves, if digits stand directly after them, or if they do nothing and are not passed over; or
-- else the number that they drop.
abbrev pub unused_letters : Draft → List ℕ → List Token → List ℕ
unused_letters d run more =
    if are_digits_next more || (does_nothing d.waiting (meaning_of run) && not (is_filler run))
    then bytes_left (Letters run ∷ more) ∷ [] else left_by d (meaning_of run)

-- What is not used at digits: the number that waited, if it fits no field; and they themselves, if no group is taken, and they are 0, or
-- three digits or more that begin with 0.
abbrev pub unused_digits : Now → Draft → List ℕ → List Token → List ℕ
unused_digits now d run more =
    unfit d.fields d.waiting
    ++ (if not (takes_group now (settle d).fields (group_of (number run) more)) && (number run == 0 || is_padded run)
    then bytes_left (Digits run ∷ more) ∷ [] else [])

-- A walk over tokens from a draft to the last one, with the places of what is not used. At the end the number that waits is settled.
pub data Drafted (zone : States) (today : Today) : Draft → List Token → List ℕ → Draft → Type 0 where
  AtEnd : (d : Draft) → Drafted zone today d [] (unfit d.fields d.waiting) (settle d)
  AtMark : (d last : Draft) (byte : ℕ) (more : List Token) (unused : List ℕ) → Drafted zone today d more unused last
      → Drafted zone today d (Mark byte ∷ more) unused last
  AtLetters : (d next last : Draft) (run : List ℕ) (more : List Token) (unused : List ℕ)
      → approximate_letters_rule zone today.shown.clock d run more ≡ Ok next → Drafted zone today next more unused last
      → Drafted zone today d (Letters run ∷ more) (unused_letters d run more ++ unused) last
  AtDigits : (d next last : Draft) (run : List ℕ) (more after : List Token) (unused : List ℕ)
      → approximate_digits_rule today.now d run more ≡ Ok (next, after) → Drafted zone today next (after_ending after) unused last
      → Drafted zone today d (Digits run ∷ more) (unused_digits today.now d run more ++ unused) last

-- the earliest of places, and of one more: there the most bytes are left
abbrev pub earliest : Option ℕ → List ℕ → Option ℕ
earliest first [] = first
earliest None (left ∷ more) = earliest (Some left) more
earliest (Some first) (left ∷ more) = earliest (Some (max left first)) more

-- The time is that of the last draft of a walk over the tokens. What is ignored is the earliest that is not used, or else what begins
-- at a NUL.
pub record IsEarliestUnused (moment : Zoned) (text : List ℕ) (date : Approximate) : Type 0 where
  pub unused : List ℕ
  pub last : Draft
  pub shown : ZoneClock
  pub is_shown : shown_in (states_of (zone_of moment)) (now_of moment).seconds ≡ Some shown
  pub walk : Drafted (states_of (zone_of moment)) (record { now = now_of moment; shown = shown }) (first_draft shown)
      (tokens (before_nul text)) unused last
  pub time : filled_time (states_of (zone_of moment)) shown.clock last.last last.fields ≡ Some date.time
  pub first : date.ignored ≡ option_or (option_map (place_in (before_nul text)) (earliest None unused)) (nul_place text)

-- so it is of every text that `parse_date` does not read
abbrev pub IgnoresEarliest : Zoned → List ℕ → Type 0
IgnoresEarliest moment text =
    (date : Approximate) → DateOutcome moment text (Err Unreadable) → ApproximateOutcome moment text (Ok date)
    → IsEarliestUnused moment text date
