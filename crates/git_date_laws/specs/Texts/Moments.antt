-- Which texts the moment's instant matters to.
use Rattle.std.specs.Prelude.{◌≡◌, ℕ, zero, suc, Bool, false, not, ◌&&◌, ◌||◌, List, [], ◌∷◌, length, ◌==◌, nat_le, if◌then◌else◌, Option}
use Rattle.std.specs.Prelude.{Some, None, Ok, Err}
use Rattle.gix_date.specs.Text.Characters.{colon}
use Rattle.git_date.specs.Rules.Digits.{Stepped}
use Rattle.git_date.specs.Rules.Groups.{ReadTokens, group_of}
use Rattle.git_date.specs.Tokens.Numbers.{number}
use Rattle.git_date.specs.Tokens.Strings.{before_nul}
use Rattle.git_date.specs.Tokens.Tokens.{Token, Digits, tokens, bytes_left, is_end}
use Rattle.git_date.specs.Exact.Reading.{nothing_read, read_on, rule}
use Rattle.git_date.specs.Types.Names.{Now}
use Rattle.git_date.specs.Types.Names.{Fields}
use Rattle.git_date.specs.Types.Names.{Group}
use Rattle.git_date.specs.Types.Names.{Reading}

-- a date by dots, slashes or dashes that does not begin with its year
abbrev pub is_day_month : Group → Bool
is_day_month g = not (g.mark == colon) && nat_le g.first 70

abbrev pub is_any_day_month : ReadTokens Group → Bool
is_any_day_month (Some found) = is_day_month found.0
is_any_day_month None = false

abbrev pub begins_day_month : Token → List Token → Bool
begins_day_month (Digits run) more = is_any_day_month (group_of (number run) more)
begins_day_month t more = false

-- such a date begins somewhere in the tokens
unfoldable pub has_day_month : List Token → Bool
has_day_month [] = false
has_day_month (t ∷ more) = begins_day_month t more || has_day_month more

abbrev pub goes_on : Stepped → (Option Fields × List Token → Bool) → Bool
goes_on (Ok found) later = later found
goes_on (Err e) later = false

-- the reader comes to such a date within so many steps
unfoldable pub meets_day_month : Now → ℕ → Reading → List Token → Bool
meets_day_month now n r [] = false
meets_day_month now zero r (t ∷ more) = false
meets_day_month now (suc n) r (t ∷ more) =
    if is_end t then false
    else begins_day_month t more
    || goes_on (rule now r.fields t more) (λ next. meets_day_month now n (read_on r (bytes_left (t ∷ more)) next.0) next.1)

-- the reader of the text comes to no such date
abbrev pub HasNoDayMonth : Now → List ℕ → Type 0
HasNoDayMonth now text = meets_day_month now (length (before_nul text)) nothing_read (tokens (before_nul text)) ≡ false
