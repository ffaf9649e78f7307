-- What digits say: an epoch, a group, or by their width a date, a clock, an offset, a year, a day or a month.
use Rattle.std.specs.Prelude.{ℕ, ◌+◌, ◌*◌, ◌/◌, ◌%◌, Bool, ◌&&◌, ◌||◌, List, ◌∷◌, length, pos, true, ◌==◌, nat_le, nat_lt, if◌then◌else◌}
use Rattle.std.specs.Prelude.{Option, Some, None, Result, Ok, Err, is_some, is_none, ok_or, option_map}
use Rattle.std.specs.Option.{option_or, option_map_or}
use Rattle.git_date.specs.Tokens.Tokens.{Token, Digits, bytes_left}
use Rattle.git_date.specs.Tokens.Numbers.{number, is_too_large}
use Rattle.git_date.specs.Tokens.Steps.{◌>>=◌}
use Rattle.git_date.specs.Rules.Fields.{knows_nothing, with_clock}
use Rattle.git_date.specs.Rules.Clocks.{utc_clock}
use Rattle.git_date.specs.Rules.Dates.{year_date, last_year}
use Rattle.git_date.specs.Rules.Groups.{group_of, group_rule, large_in, without_fraction, after_group}
use Rattle.git_date.specs.declared.fields.Fields.{Fields}
use Rattle.git_date.specs.declared.fields.dates.Now.{Now}
use Rattle.git_date.specs.declared.fields.dates.Dated.{Dated}
use Rattle.git_date.specs.declared.fields.dates.Dated.TheVariants.{Taken, Refused}
use Rattle.git_date.specs.declared.fields.dates.Dated.TheVariants as dated
use Rattle.git_date.specs.declared.error.Fault.{Fault}
use Rattle.git_date.specs.declared.error.Fault.TheVariants.{NumberTooLarge, YearRefused, Range}
use Rattle.git_date.specs.declared.fields.groups.Group.{Group}
use Rattle.gix_date.specs.Fields.Layout.{LocalTime}

-- What a rule makes of the tokens that stand first: the fields, or `None` if no rule used them, and the tokens after those
-- that it took; or why the whole text is refused.
abbrev pub Stepped : Type 0
Stepped = Result (Option Fields × List Token) Fault

-- the least number that may be seconds since 1970
abbrev pub min_epoch : ℕ
min_epoch = 100_000_000

-- seconds since 1970: a number so large, where nothing is known
abbrev pub is_epoch : Fields → ℕ → Bool
is_epoch f n = nat_le min_epoch n && knows_nothing f

-- the fields of a clock of UTC, which are those of an epoch
abbrev pub with_epoch : Fields → LocalTime → Fields
with_epoch f shown = record f {
  year = Some shown.date.year;
  month = Some shown.date.month;
  day = Some shown.date.day;
  hour = Some shown.clock.hour;
  minute = Some shown.clock.minute;
  second = Some shown.clock.second;
  epoch = true;
}

-- the fields of an epoch, by the clock of UTC; `Range` if it is no instant
abbrev pub epoch_rule : Fields → ℕ → List Token → Stepped
epoch_rule f n more = ok_or (option_map (λ shown. (Some (with_epoch f shown), more)) (utc_clock n)) Range

-- eight digits: a date, which begins with its year
abbrev pub by_date : List ℕ → List Token → Dated → Stepped
by_date run more (Taken next) = Ok (Some next, more)
by_date run more Refused = Ok (None, more)
by_date run more dated.YearRefused = Err (YearRefused (bytes_left (Digits run ∷ more)))

abbrev pub eight_digits : Fields → List ℕ → List Token → Stepped
eight_digits f run more =
    by_date run more (year_date f (number run / 10_000) (number run / 100 % 100) (number run % 100))

-- six digits: a clock, and a fraction after it is taken
abbrev pub six_digits : Fields → ℕ → List Token → Option Fields × List Token
six_digits f n more =
    let found = with_clock f (n / 10_000) (n / 100 % 100) (n % 100) in
    (found, if is_some found then without_fraction more else more)

-- four digits: the offset, where none is known, or else the year
unfoldable pub four_digits : Fields → ℕ → Option Fields
four_digits f n =
    if nat_le n 1400 && is_none f.offset then Some (record f { offset = Some (pos (60 * (n / 100) + n % 100)) })
    else (if nat_lt 1900 n && nat_le n last_year then Some (record f { year = Some n }) else None)

-- two digits where no year is known: the year
abbrev pub two_digit_year : Fields → ℕ → Option ℕ
two_digit_year f n =
    if is_some f.year then None
    else (if nat_lt n 10 && is_some f.day then Some (2000 + n)
    else (if nat_le 70 n && nat_le n 99 then Some (1900 + n) else None))

-- a month, where none is known
abbrev pub or_month : Fields → ℕ → Option Fields
or_month f n = if nat_le 1 n && nat_le n 12 && is_none f.month then Some (record f { month = Some n }) else None

-- one digit or two: the day, where none is known, or else the year, or else the month
unfoldable pub few_digits : Fields → ℕ → ℕ → Option Fields
few_digits f width n =
    if nat_le 1 n && nat_le n 31 && is_none f.day then Some (record f { day = Some n })
    else option_or (option_map (λ year. record f { year = Some year }) (if width == 2 then two_digit_year f n else None)) (or_month f n)

-- digits that are no group, by their width
unfoldable pub bare_digits : Fields → List ℕ → List Token → Stepped
bare_digits f run more =
    if length run == 8 then eight_digits f run more
    else (if length run == 6 then Ok (six_digits f (number run) more)
    else (if length run == 4 then Ok (four_digits f (number run), more)
    else (if length run == 1 || length run == 2 then Ok (few_digits f (length run) (number run), more) else Ok (None, more))))

-- the text is refused where a number of a group is too large
abbrev pub unless_large : {A : Type 0} → Group → Result A Fault → Result A Fault
unless_large g said = option_map_or (λ left. Err (NumberTooLarge left)) (large_in g) said

-- A group that is taken, and so is a year that is refused, refuses the text where a number of it is too large.
abbrev pub grouped : ℕ → Group → List Token → Dated → Result (Option (Fields × List Token)) Fault
grouped left g more (Taken next) = unless_large g (Ok (Some (next, after_group next g more)))
grouped left g more Refused = Ok None
grouped left g more dated.YearRefused = unless_large g (Err (YearRefused left))

-- what the group says that begins with these digits, and what stands after it, if there is one and it is taken
unfoldable pub group_said : Now → Fields → List ℕ → List Token → Result (Option (Fields × List Token)) Fault
group_said now f run more =
    option_map_or (λ found. grouped (bytes_left (Digits run ∷ more)) found.0 found.1 (group_rule now f found.0))
    (group_of (number run) more) (Ok None)

-- what a group said, or else digits by their width
abbrev pub group_or_bare : Fields → List ℕ → List Token → Option (Fields × List Token) → Stepped
group_or_bare f run more (Some found) = Ok (Some found.0, found.1)
group_or_bare f run more None = bare_digits f run more

-- what digits say
unfoldable pub digits_rule : Now → Fields → List ℕ → List Token → Stepped
digits_rule now f run more =
    if is_epoch f (number run) then epoch_rule f (number run) more
    else (if is_too_large (number run) then Err (NumberTooLarge (bytes_left (Digits run ∷ more)))
    else (group_said now f run more >>= group_or_bare f run more))
