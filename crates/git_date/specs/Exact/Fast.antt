-- What usual texts say, which are recognised at once.
use Rattle.std.specs.Char.{is_ascii_digit}
use Rattle.std.specs.List.{count_by, list_all, list_any}
use Rattle.std.specs.Prelude.{◌≡◌, ◌<◌, ◌≤◌, ℕ, ◌%◌, Bool, not, ◌&&◌, ◌||◌, ◌==◌, nat_lt, true, false, ◌⊎◌, decimal, List, [], ◌∷◌, ◌++◌, ℤ}
use Rattle.std.specs.Prelude.{pos, negsuc, ◌*ℤ◌, unsigned_abs, Some, None, Result, Ok}
use Rattle.gix_date.specs.Fields.FieldTexts.{four_digits, clock_text}
use Rattle.gix_date.specs.Fields.DateOffsets.{strict_offset_text}
use Rattle.gix_date.specs.Fields.Offsets.{compact_offset_text}
use Rattle.gix_date.specs.Text.Characters.{comma, dot, letter_t, minus, space, colon}
use Rattle.git_date.specs.Rules.Dates.{first_of_year_2100}
use Rattle.git_date.specs.Rules.Digits.{min_epoch}
use Rattle.git_date.specs.Rules.Fields.{unknown}
use Rattle.git_date.specs.Rules.Groups.{slash}
use Rattle.git_date.specs.Tokens.Numbers.{number}
use Rattle.gix_date.specs.Text.Names.{day_name, month_name}
use Rattle.gix_date.specs.Text.Numbers.{two_digits}
use Rattle.git_date.specs.Exact.Outcome.{date_of}
use Rattle.git_date.specs.Exact.Reading.{fields_said, said_by}
use Rattle.jiff.specs.Types.{TimeZone}
use Rattle.git_date.specs.declared.fields.dates.Now.{Now}
use Rattle.git_date.specs.declared.fields.Fields.{Fields}
use Rattle.git_date.specs.declared.error.DateError.{DateError}
use Rattle.git_date.specs.declared.reader.ExactDate.{ExactDate}
use Rattle.git_date.specs.declared.reader.Said.{Said}

-- two digits write a number in these bounds
pub record WritesTwo (low high tens ones n : ℕ) : Type 0 where
  pub least : low ≤ n
  pub most : n ≤ high
  pub is : two_digits n ≡ tens ∷ ones ∷ []

-- a text is a year that Git knows
pub record WritesYear (text : List ℕ) (n : ℕ) : Type 0 where
  pub first : 1970 ≤ n
  pub last : n ≤ 2099
  pub is : four_digits n ≡ text

-- a text is the name of a month, as it is printed
pub record WritesMonth (text : List ℕ) (n : ℕ) : Type 0 where
  pub first : 1 ≤ n
  pub last : n ≤ 12
  pub is : month_name n ≡ text

-- a text is the name of a day of the week, as it is printed
pub record WritesWeekday (text : List ℕ) (n : ℕ) : Type 0 where
  pub small : n < 7
  pub is : day_name n ≡ text

-- year, month and day, perhaps a day that the month does not have
pub record IsGitDate (date : ℕ × ℕ × ℕ) : Type 0 where
  pub first_year : 1970 ≤ date.0
  pub last_year : date.0 ≤ 2099
  pub first_month : 1 ≤ date.1
  pub last_month : date.1 ≤ 12
  pub first_day : 1 ≤ date.2
  pub last_day : date.2 ≤ 31

-- a mark that may stand between the numbers of a date
abbrev pub is_date_mark : ℕ → Bool
is_date_mark mark = mark == minus || mark == dot || mark == slash

-- a date with such a mark: `2022-08-18`, `2022.08.18`
abbrev pub marked_date : ℕ → ℕ × ℕ × ℕ → List ℕ
marked_date mark date = four_digits date.0 ++ (mark ∷ (two_digits date.1 ++ (mark ∷ two_digits date.2)))

-- a text is such a date
pub record WritesDate (text : List ℕ) (date : ℕ × ℕ × ℕ) : Type 0 where
  pub within : IsGitDate date
  pub mark : ℕ
  pub is_mark : is_date_mark mark ≡ true
  pub is : marked_date mark date ≡ text

-- a text is a day of a month, in two digits or without a zero before it
pub record WritesDay (text : List ℕ) (day : ℕ) : Type 0 where
  pub first : 1 ≤ day
  pub last : day ≤ 31
  pub is : (two_digits day ≡ text) ⊎ (decimal day ≡ text)

-- a text is a month and a year: ` Aug 2022`
pub record WritesMonthYear (text : List ℕ) (date : ℕ × ℕ) : Type 0 where
  pub month : List ℕ
  pub is_month : WritesMonth month date.0
  pub year : List ℕ
  pub is_year : WritesYear year date.1
  pub is : space ∷ (month ++ (space ∷ year)) ≡ text

-- a text is a day, a month and a year: `18 Aug 2022`
pub record WritesMailDate (text : List ℕ) (date : ℕ × ℕ × ℕ) : Type 0 where
  pub day : List ℕ
  pub is_day : WritesDay day date.2
  pub rest : List ℕ
  pub is_rest : WritesMonthYear rest (date.1, date.0)
  pub is : day ++ rest ≡ text

-- a text is that after the name of a day of the week: `Thu, 18 Aug 2022`
pub record WritesMailDay (text : List ℕ) (date : ℕ × ℕ × ℕ) : Type 0 where
  pub weekday : ℕ
  pub name : List ℕ
  pub is_name : WritesWeekday name weekday
  pub rest : List ℕ
  pub is_rest : WritesMailDate rest date
  pub is : name ++ (comma ∷ (space ∷ rest)) ≡ text

-- a text is the name of a day of the week, a month and a day: `Thu Aug 18`
pub record WritesNamedDay (text : List ℕ) (date : ℕ × ℕ) : Type 0 where
  pub weekday : ℕ
  pub name : List ℕ
  pub is_name : WritesWeekday name weekday
  pub month : List ℕ
  pub is_month : WritesMonth month date.0
  pub day : List ℕ
  pub is_day : WritesDay day date.1
  pub is : name ++ (space ∷ (month ++ (space ∷ day))) ≡ text

-- a text is a clock
pub record WritesClock (text : List ℕ) (clock : ℕ × ℕ × ℕ) : Type 0 where
  pub hour : clock.0 < 24
  pub minute : clock.1 < 60
  pub second : clock.2 < 60
  pub is : clock_text (record { hour = clock.0; minute = clock.1; second = clock.2 }) ≡ text

-- a text is a clock without seconds: `10:00`
pub record WritesShortClock (text : List ℕ) (clock : ℕ × ℕ × ℕ) : Type 0 where
  pub hour : clock.0 < 24
  pub minute : clock.1 < 60
  pub second : clock.2 ≡ 0
  pub is : two_digits clock.0 ++ (colon ∷ two_digits clock.1) ≡ text

-- a text is a clock, with or without seconds
abbrev pub WritesAnyClock : List ℕ → ℕ × ℕ × ℕ → Type 0
WritesAnyClock text clock = WritesShortClock text clock ⊎ WritesClock text clock

-- a text is a space and a clock
pub record WritesSpacedClock (text : List ℕ) (clock : ℕ × ℕ × ℕ) : Type 0 where
  pub rest : List ℕ
  pub is_clock : WritesAnyClock rest clock
  pub is : space ∷ rest ≡ text

-- a text is an offset of so many minutes, which Git knows, as it is shown
pub record WritesOffset (show : ℤ → List ℕ) (text : List ℕ) (minutes : ℤ) : Type 0 where
  pub within : unsigned_abs (pos 60 *ℤ minutes) ≤ 86_340
  pub whole : unsigned_abs (pos 60 *ℤ minutes) % 60 ≡ 0
  pub known : minutes ≡ negsuc 0 → ⊥
  pub is : show (pos 60 *ℤ minutes) ≡ text

-- a text is a clock and an offset: ` 12:45:06 +0800`
pub record WritesTime (text : List ℕ) (time : (ℕ × ℕ × ℕ) × ℤ) : Type 0 where
  pub clock : List ℕ
  pub is_clock : WritesClock clock time.0
  pub offset : List ℕ
  pub is_offset : WritesOffset compact_offset_text offset time.1
  pub is : space ∷ (clock ++ (space ∷ offset)) ≡ text

-- the same as in a date of a format of ISO 8601: `T12:45:06+08:00`
pub record WritesStrictTime (text : List ℕ) (time : (ℕ × ℕ × ℕ) × ℤ) : Type 0 where
  pub clock : List ℕ
  pub is_clock : WritesClock clock time.0
  pub offset : List ℕ
  pub is_offset : WritesOffset strict_offset_text offset time.1
  pub is : letter_t ∷ (clock ++ offset) ≡ text

-- a year and an offset: ` 2022 +0800`
pub record WritesYearOffset (text : List ℕ) (found : ℕ × ℤ) : Type 0 where
  pub year : List ℕ
  pub is_year : WritesYear year found.0
  pub offset : List ℕ
  pub is_offset : WritesOffset compact_offset_text offset found.1
  pub is : space ∷ (year ++ (space ∷ offset)) ≡ text

-- a clock before them: ` 12:45:06 2022 +0800`
pub record WritesYearTime (text : List ℕ) (found : (ℕ × ℕ × ℕ) × ℕ × ℤ) : Type 0 where
  pub clock : List ℕ
  pub is_clock : WritesClock clock found.0
  pub rest : List ℕ
  pub is_rest : WritesYearOffset rest (found.1, found.2)
  pub is : space ∷ (clock ++ rest) ≡ text

-- a text is digits: seconds since 1970 that are read alone, to the end of 2099
pub record WritesSeconds (text : List ℕ) (n : ℕ) : Type 0 where
  pub first : min_epoch ≤ n
  pub last : n < first_of_year_2100
  pub digits : list_all is_ascii_digit text ≡ true
  pub is : number text ≡ n

-- a text is such seconds and an offset: `1660797906 +0800`
pub record WritesRaw (text : List ℕ) (raw : ℕ × ℤ) : Type 0 where
  pub seconds : List ℕ
  pub is_seconds : WritesSeconds seconds raw.0
  pub offset : List ℕ
  pub is_offset : WritesOffset compact_offset_text offset raw.1
  pub is : seconds ++ (space ∷ offset) ≡ text

-- the fields of a date, a clock and an offset
abbrev pub fields_in : ℕ × ℕ × ℕ → ℕ × ℕ × ℕ → ℤ → Fields
fields_in date clock offset = record {
  year = Some date.0;
  month = Some date.1;
  day = Some date.2;
  hour = Some clock.0;
  minute = Some clock.1;
  second = Some clock.2;
  offset = Some offset;
  epoch = false;
}

-- the fields of a date alone
abbrev pub day_fields : ℕ × ℕ × ℕ → Fields
day_fields date = record unknown { year = Some date.0; month = Some date.1; day = Some date.2 }

-- and those of a date and a clock without an offset
abbrev pub local_fields : ℕ × ℕ × ℕ → ℕ × ℕ × ℕ → Fields
local_fields date clock = record (day_fields date) { hour = Some clock.0; minute = Some clock.1; second = Some clock.2 }

-- a text says these fields, whatever the moment
abbrev pub SaysFields : List ℕ → Fields → Type 0
SaysFields text f = (now : Now) → said_by now text ≡ fields_said text (Ok (record { fields = f; ignored = None }))

-- seconds alone say this, whose offset the zone has
abbrev pub said_alone : ℕ → Said
said_alone n = record { seconds = pos n; offset = None; epoch = true; leap = false; ignored = None }

-- a text says this, whatever the moment
abbrev pub Says : List ℕ → Said → Type 0
Says text said = (now : Now) → said_by now text ≡ Ok said

-- a text says this date, whatever the moment and the zone
abbrev pub SaysDate : List ℕ → ExactDate → Type 0
SaysDate text date = (now : Now) (tz : TimeZone) → date_of tz (said_by now text) ≡ Ok date

-- a text says this or is refused so, whatever the moment
unfoldable pub Tells : List ℕ → Result Said DateError → Type 0
Tells text said = (now : Now) → said_by now text ≡ said

-- a text has fewer than three digits, and no colon: it says no clock
abbrev pub has_few_digits : List ℕ → Bool
has_few_digits text = not (list_any (λ c. c == colon) text) && nat_lt (count_by is_ascii_digit text) 3
