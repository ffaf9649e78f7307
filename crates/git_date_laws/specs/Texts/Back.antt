-- `n UNIT ago`, and how far back it reaches.
use Rattle.std.specs.Prelude.{◌≡◌, ◌≤◌, ◌<◌, ℕ, ◌==◌, true, false, List, [], ◌∷◌, length, codes, ℤ, pos, ◌-ℤ◌, Some, None}
use Rattle.git_date.specs.Approximate.Rules.{is_padded}
use Rattle.git_date.specs.Approximate.Words.{meaning_of}
use Rattle.git_date.specs.Rules.Digits.{min_epoch}
use Rattle.git_date.specs.Tokens.Numbers.{number}
use Rattle.git_date.specs.Tokens.Strings.{before_nul}
use Rattle.git_date.specs.Tokens.Tokens.{Letters, Digits, Mark, tokens}
use Rattle.git_date.specs.declared.approximate.Approximate.{Approximate}
use Rattle.git_date.specs.Types.MeaningCases as meaning
use Rattle.git_date.specs.Types.UnitCases.{Seconds}

-- `n UNIT ago`, up to a NUL: a count in digits, a mark, the word of a unit of so many seconds, a mark, and `ago`. The digits are
-- neither an epoch nor a date of eight digits, which the exact reader would take.
pub record CountsBack (text : List ℕ) (count size : ℕ) : Type 0 where
  pub digits : List ℕ
  pub gap : ℕ
  pub unit : List ℕ
  pub last : ℕ
  pub is : tokens (before_nul text) ≡ Digits digits ∷ Mark gap ∷ Letters unit ∷ Mark last ∷ Letters (codes "ago") ∷ []
  pub counts : number digits ≡ count
  pub not_zero : 1 ≤ count
  pub no_epoch : count < min_epoch
  pub no_date : (length digits == 8) ≡ false
  pub not_padded : is_padded digits ≡ false
  pub means : meaning_of unit ≡ Some (meaning.Unit (Seconds size))

abbrev pub exactly_back : ℤ → ℤ → ℕ → Approximate
exactly_back now offset back = record {
  time = record { seconds = now -ℤ pos back; offset = offset };
  understood = true;
  ignored = None;
}
