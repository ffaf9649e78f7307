-- What the exact reader ignores: the first token that is not used.
use Rattle.std.specs.Prelude.{◌≡◌, ℕ, ◌+◌, ◌*◌, ◌/◌, ◌%◌, Bool, true, false, not, ◌&&◌, ◌||◌, ◌==◌, nat_le, nat_lt, List, [], ◌∷◌, length}
use Rattle.std.specs.Prelude.{ℤ, pos, neg_ℤ, codes, if◌then◌else◌, Option, Some, None, is_some, is_none, option_map, MatchOption, Ok}
use Rattle.std.specs.Option.{option_or}
use Rattle.jiff.specs.declared.zoned.Zoned.{Zoned}
use Rattle.gix_date.specs.Relative.Steps.{zone_of}
use Rattle.gix_date.specs.Text.Characters.{newline, minus, colon, dot}
use Rattle.gix_date.specs.Text.LongNames.{month_of_word}
use Rattle.gix_date.specs.Text.Names.{is_name}
use Rattle.git_date.specs.Approximate.Rules.{are_digits_next}
use Rattle.git_date.specs.Rules.Clocks.{utc_clock}
use Rattle.git_date.specs.Rules.Dates.{now_of, is_day_of_month, year_said, exact_seconds}
use Rattle.git_date.specs.Types.DatedCases.{Taken, Refused, YearRefused}
use Rattle.git_date.specs.Rules.Digits.{with_epoch}
use Rattle.git_date.specs.Rules.Fields.{unknown, knows_nothing, knows_date, with_date}
use Rattle.git_date.specs.Rules.Groups.{ReadTokens, group_of, group_rule}
use Rattle.git_date.specs.Rules.Offsets.{is_sign}
use Rattle.git_date.specs.Tokens.Names.{is_weekday, zone_named}
use Rattle.git_date.specs.Tokens.Numbers.{number}
use Rattle.git_date.specs.Rules.Offsets.{offset_said, known_minutes, at_text}
use Rattle.git_date.specs.Exact.Outcome.{DateOutcome, date_of}
use Rattle.git_date.specs.Exact.Reading.{place_in}
use Rattle.git_date.specs.Tokens.Strings.{before_nul, nul_place}
use Rattle.git_date.specs.Tokens.Tokens.{Token, Letters, Digits, Mark, tokens, bytes_left}
use Rattle.git_date.specs.Types.Names.{Now, Dated, Fields, Group, Said}
use Rattle.git_date.specs.Rules.Words.{is_any_of, is_filler, letters_rule}
use Rattle.git_date.specs.declared.reader.ExactDate.{ExactDate}

-- a known word: a month, a day of the week, a zone, `PM`, `AM`, or a filler
abbrev pub is_known : List ℕ → Bool
is_known word =
    is_some (month_of_word word) || is_weekday word || is_some (zone_named word) || is_name word (codes "PM") || is_name word (codes "AM")
    || is_filler word

-- a known word, with no digits directly after it
abbrev pub is_word : List ℕ → List Token → Bool
is_word run more = not (are_digits_next more) && is_known run

-- the ending of a number, or a `T` between digits
abbrev pub is_end_of_number : List ℕ → List Token → Bool
is_end_of_number run more =
    if are_digits_next more then is_name run (codes "T")
    else is_any_of (codes "st" ∷ codes "nd" ∷ codes "rd" ∷ codes "th" ∷ []) run

-- what stands after a number and its ending
abbrev pub after_ending : List Token → List Token
after_ending (Letters run ∷ more) = if is_end_of_number run more then more else Letters run ∷ more
after_ending more = more

-- a clock: hours to 24, minutes to 59, seconds to 60
abbrev pub is_clock : ℕ → ℕ → ℕ → Bool
is_clock hour minute second = nat_le hour 24 && nat_le minute 59 && nat_le second 60

abbrev pub is_short : ℕ → Bool
is_short width = width == 1 || width == 2

-- what is known after a group that is taken: by colons a clock, or else a month and a day
abbrev pub is_set : Group → Fields → Bool
is_set g f =
    if g.mark == colon then is_some f.hour && is_some f.minute && is_some f.second else is_some f.month && is_some f.day

-- the rules take a group
abbrev pub is_taken : Dated → Bool
is_taken (Taken f) = true
is_taken Refused = false
is_taken YearRefused = false

abbrev pub takes_group : Now → Fields → ReadTokens Group → Bool
takes_group now f (Some found) = is_taken (group_rule now f found.0)
takes_group now f None = false

-- What a number of so many digits sets alone, the first of these that fits: a date by eight, a clock by six; by four an offset, if it
-- is unknown, or a year; by one or two an unknown day, by two an unknown year, by one or two an unknown month.
unfoldable pub alone : Fields → ℕ → ℕ → Option Fields
alone f width n =
    if width == 8 && is_day_of_month (n / 100 % 100) (n % 100)
    then option_map (λ year. with_date f year (n / 100 % 100) (n % 100)) (year_said (n / 10_000))
    else (if width == 6 && is_clock (n / 10_000) (n / 100 % 100) (n % 100)
    then Some (record f { hour = Some (n / 10_000); minute = Some (n / 100 % 100); second = Some (n % 100) })
    else (if width == 4 && nat_le n 1400 && is_none f.offset then Some (record f { offset = Some (pos (60 * (n / 100) + n % 100)) })
    else (if width == 4 && nat_lt 1900 n && nat_le n 2099 then Some (record f { year = Some n })
    else (if is_short width && nat_le 1 n && nat_le n 31 && is_none f.day then Some (record f { day = Some n })
    else (if width == 2 && nat_lt n 10 && is_some f.day && is_none f.year then Some (record f { year = Some (2000 + n) })
    else (if width == 2 && nat_le 70 n && nat_le n 99 && is_none f.year then Some (record f { year = Some (1900 + n) })
    else (if is_short width && nat_le 1 n && nat_le n 12 && is_none f.month then Some (record f { month = Some n }) else None)))))))

-- a number that may be seconds since 1970: one from 100000000, where neither date nor clock is known
abbrev pub may_be_epoch : Fields → ℕ → Bool
may_be_epoch f n = nat_le 100_000_000 n && knows_nothing f

-- what stands after digits and their fraction, where one may follow
abbrev pub after_fraction : Bool → List Token → List Token
after_fraction true (Mark byte ∷ Digits run ∷ more) = if byte == dot then more else Mark byte ∷ Digits run ∷ more
after_fraction may_follow more = more

-- What digits say before other tokens, and which of these are left: an epoch; or else a group that is taken; or else a number alone. A
-- fraction may follow a clock of six digits, and a clock of a group where the date is known.
pub data Says (now : Now) (f : Fields) (run : List ℕ) (more : List Token) : Fields → List Token → Type 0 where
  Epoch : (next : Fields) → may_be_epoch f (number run) ≡ true → option_map (with_epoch f) (utc_clock (number run)) ≡ Some next
      → Says now f run more next more
  InGroup : (g : Group) (next : Fields) (after : List Token) → may_be_epoch f (number run) ≡ false
      → group_of (number run) more ≡ Some (g, after) → group_rule now f g ≡ Taken next → is_set g next ≡ true
      → Says now f run more next (after_fraction (g.mark == colon && knows_date next) after)
  Alone : (next : Fields) → may_be_epoch f (number run) ≡ false → takes_group now f (group_of (number run) more) ≡ false
      → alone f (length run) (number run) ≡ Some next → Says now f run more next (after_fraction (length run == 6) more)

-- The tokens that stand first are used: a known word, digits that say something, a sign directly before digits that say an offset, or
-- another mark. Other fields are known then, and other tokens are left.
pub data Used (now : Now) (f : Fields) : List Token → Fields → List Token → Type 0 where
  Word : (run : List ℕ) (more : List Token) (next : Fields) → is_word run more ≡ true → letters_rule f run more ≡ Some next
      → Used now f (Letters run ∷ more) next more
  Number : (run : List ℕ) (more after : List Token) (next : Fields) → Says now f run more next after
      → Used now f (Digits run ∷ more) next (after_ending after)
  Sign : (sign : ℕ) (run : List ℕ) (more after : List Token) (minutes : ℤ) → is_sign sign ≡ true
      → offset_said run more ≡ Ok (Some minutes, after)
      → Used now f (Mark sign ∷ Digits run ∷ more) (record f { offset = known_minutes (if sign == minus then neg_ℤ minutes else minutes) })
      (after_ending after)
  Other : (byte : ℕ) (more : List Token) → (is_sign byte && are_digits_next more) ≡ false → Used now f (Mark byte ∷ more) f more

-- They are not used: other letters, digits that say nothing, or a sign directly before digits that say no offset. Other tokens are
-- left.
pub data Unused (now : Now) (f : Fields) : List Token → List Token → Type 0 where
  NoWord : (run : List ℕ) (more : List Token) → is_word run more ≡ false → Unused now f (Letters run ∷ more) more
  NoNumber : (run : List ℕ) (more : List Token) → may_be_epoch f (number run) ≡ false
      → takes_group now f (group_of (number run) more) ≡ false → alone f (length run) (number run) ≡ None
      → Unused now f (Digits run ∷ more) (after_ending more)
  NoSign : (sign : ℕ) (run : List ℕ) (more after : List Token) → is_sign sign ≡ true → offset_said run more ≡ Ok (None, after)
      → Unused now f (Mark sign ∷ Digits run ∷ more) (after_ending after)

-- a line feed stands first
abbrev pub begins_line : List Token → Bool
begins_line (Mark byte ∷ more) = byte == newline
begins_line ts = false

-- A walk over tokens, from the fields that are known to those at the end, with the places of the tokens that are not used. It ends
-- with the tokens, or at a line feed.
pub data Walk (now : Now) : Fields → List Token → List ℕ → Fields → Type 0 where
  NoMore : (f : Fields) → Walk now f [] [] f
  LineEnds : (f : Fields) (more : List Token) → Walk now f (Mark newline ∷ more) [] f
  Uses : (f next last : Fields) (ts rest : List Token) (unused : List ℕ) → begins_line ts ≡ false → Used now f ts next rest
      → Walk now next rest unused last → Walk now f ts unused last
  Passes : (f last : Fields) (ts rest : List Token) (unused : List ℕ) → Unused now f ts rest → Walk now f rest unused last
      → Walk now f ts (bytes_left ts ∷ unused) last

abbrev pub first_of : List ℕ → Option ℕ
first_of [] = None
first_of (left ∷ more) = Some left

-- The date is that of the last fields of a walk over the tokens. What is ignored is the first token that is not used, or else what
-- begins at a NUL.
pub record IsFirstUnused (moment : Zoned) (text : List ℕ) (date : ExactDate) : Type 0 where
  pub unused : List ℕ
  pub last : Fields
  pub said : Said
  pub walk : Walk (now_of moment) unknown (tokens (before_nul text)) unused last
  pub seconds : exact_seconds last ≡ Some said.seconds
  pub offset : last.offset ≡ said.offset
  pub epoch : last.epoch ≡ said.epoch
  pub is_date : date_of (zone_of moment) (Ok said) ≡ Ok date
  pub first : date.ignored ≡ option_or (option_map (place_in (before_nul text)) (first_of unused)) (nul_place text)

-- So it is of every text that is read. Of one that begins with `@`, seconds and an offset nothing is ignored but what begins at a NUL.
abbrev pub IgnoresUnused : Zoned → List ℕ → Type 0
IgnoresUnused moment text =
    (date : ExactDate) → DateOutcome moment text (Ok date)
    → MatchOption (at_text (tokens (before_nul text))) (IsFirstUnused moment text date) (λ at. date.ignored ≡ nul_place text)
