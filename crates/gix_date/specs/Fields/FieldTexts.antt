-- How the fields of formatted dates are written: which texts are written so, and of what value; and what is printed.
use Rattle.std.specs.Prelude.{◌≡◌, ℕ, ◌+◌, ◌-◌, ◌*◌, ◌/◌, ◌%◌, true, ◌&&◌, List, [], ◌∷◌, ◌++◌, ◌⊎◌, Some, ◌<◌, length}
use Rattle.std.specs.Char.{is_ascii_digit, is_ascii_alphabetic}
use Rattle.std.specs.List.{list_all}
use Rattle.std.specs.Str.{all_ascii_digits}
use Rattle.std.specs.Str.Parse.{digits_value}
use Rattle.gix_date.specs.Text.Characters.{minus, comma, colon, digit_zero, is_space, plus}
use Rattle.gix_date.specs.Text.Numbers.{two_digits}
use Rattle.gix_date.specs.Fields.DateFields.{is_weekday, month_named, without_leap_second}
use Rattle.gix_date.specs.declared.clock.ClockFields.{ClockFields}
use Rattle.gix_date.specs.declared.clock.DateFields.{DateFields}
use Rattle.gix_date.specs.declared.parsing.offset.Sign.{Sign}
use Rattle.gix_date.specs.declared.parsing.offset.Sign.TheVariants.{Plus, Minus}

abbrev pub IsDigit : ℕ → Type 0
IsDigit c = is_ascii_digit c ≡ true

abbrev pub digit_value : ℕ → ℕ
digit_value c = c - digit_zero

-- one digit or two
abbrev pub IsField : List ℕ → ℕ → Type 0
IsField (ones ∷ []) n = IsDigit ones × (n ≡ digit_value ones)
IsField (tens ∷ ones ∷ []) n = IsDigit tens × IsDigit ones × (n ≡ 10 * digit_value tens + digit_value ones)
IsField text n = ⊥

-- four digits
abbrev pub IsYear : List ℕ → ℕ → Type 0
IsYear (a ∷ b ∷ c ∷ d ∷ []) n =
    IsDigit a × IsDigit b × IsDigit c × IsDigit d
    × (n ≡ 100 * (10 * digit_value a + digit_value b) + (10 * digit_value c + digit_value d))
IsYear text n = ⊥

-- one or more digits, of this number
abbrev pub AreDigits : List ℕ → ℕ → Type 0
AreDigits text n = (0 < length text) × (all_ascii_digits text ≡ true) × (n ≡ digits_value 10 text)

-- two digits, of this number
abbrev pub IsPair : List ℕ → ℕ → Type 0
IsPair (tens ∷ ones ∷ []) n = IsDigit tens × IsDigit ones × (n ≡ 10 * digit_value tens + digit_value ones)
IsPair text n = ⊥

-- the character is the sign's mark
abbrev pub IsSign : ℕ → Sign → Type 0
IsSign mark sign = ((mark ≡ plus) × (sign ≡ Plus)) ⊎ ((mark ≡ minus) × (sign ≡ Minus))

-- one space or more
abbrev pub AreSpaces : List ℕ → Type 0
AreSpaces [] = ⊥
AreSpaces (c ∷ text) = (is_space c ≡ true) × (list_all is_space text ≡ true)

abbrev pub AreThreeLetters : List ℕ → Type 0
AreThreeLetters (a ∷ b ∷ c ∷ []) =
    (is_ascii_alphabetic a && is_ascii_alphabetic b && is_ascii_alphabetic c) ≡ true
AreThreeLetters text = ⊥

-- three letters that name a day of the week, whichever it is
abbrev pub IsDayName : List ℕ → Type 0
IsDayName text = AreThreeLetters text × (is_weekday text ≡ true)

-- three letters that name a month
abbrev pub IsMonthName : List ℕ → ℕ → Type 0
IsMonthName text month = AreThreeLetters text × (month_named text ≡ Some month)

-- `YYYY-M-D`
pub record IsPlainDate (text : List ℕ) (date : DateFields) : Type 0 where
  pub year : List ℕ
  pub month : List ℕ
  pub day : List ℕ
  pub whole : text ≡ year ++ minus ∷ month ++ minus ∷ day
  pub is_year : IsYear year date.year
  pub is_month : IsField month date.month
  pub is_day : IsField day date.day

-- `h:m`, which is the clock at its beginning
pub record AreMinutes (text : List ℕ) (clock : ClockFields) : Type 0 where
  pub hour : List ℕ
  pub minute : List ℕ
  pub whole : text ≡ hour ++ colon ∷ minute
  pub is_hour : IsField hour clock.hour
  pub is_minute : IsField minute clock.minute
  pub at_its_start : clock.second ≡ 0

-- `h:m:s`, where 60 seconds are 59
pub record IsClock (text : List ℕ) (clock : ClockFields) : Type 0 where
  pub hour : List ℕ
  pub minute : List ℕ
  pub second : List ℕ
  pub seconds : ℕ
  pub whole : text ≡ hour ++ colon ∷ minute ++ colon ∷ second
  pub is_hour : IsField hour clock.hour
  pub is_minute : IsField minute clock.minute
  pub is_second : IsField second seconds
  pub without_leap : clock.second ≡ without_leap_second seconds

-- `h:m:s`, or `h:m`
abbrev pub IsRfc2822Clock : List ℕ → ClockFields → Type 0
IsRfc2822Clock text clock = IsClock text clock ⊎ AreMinutes text clock

-- `Www, `
pub record IsDayPrefix (text : List ℕ) : Type 0 where
  pub name : List ℕ
  pub gap : List ℕ
  pub whole : text ≡ name ++ comma ∷ gap
  pub is_name : IsDayName name
  pub are_spaces : AreSpaces gap

-- the four digits of a year
abbrev pub four_digits : ℕ → List ℕ
four_digits n = two_digits (n / 100) ++ two_digits (n % 100)

-- the ten digits of a number below 10000000000
abbrev pub ten_digits : ℕ → List ℕ
ten_digits n = two_digits (n / 100_000_000) ++ (four_digits (n % 100_000_000 / 10_000) ++ four_digits (n % 100_000_000 % 10_000))

-- a date as `YYYY-MM-DD`
abbrev pub date_text : DateFields → List ℕ
date_text d = four_digits d.year ++ minus ∷ two_digits d.month ++ minus ∷ two_digits d.day

-- a clock as `hh:mm:ss`
abbrev pub clock_text : ClockFields → List ℕ
clock_text c = two_digits c.hour ++ colon ∷ two_digits c.minute ++ colon ∷ two_digits c.second
