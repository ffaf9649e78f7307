-- The texts of `n UNIT ago`, on worked texts.
use Rattle.std.proofs.Common.{◌≡◌, ◌≤◌, ◌<◌, refl, arith, ℕ, false, List, [], ◌∷◌, length, map, Option, Some}
use Prim.Native.String.{String}
use Rattle.std.specs.Prelude.{◌==◌, codes}
use Rattle.git_date_laws.specs.Texts.Back.{CountsBack}
use Rattle.git_date.specs.Approximate.Computing.{approximating}
use Rattle.git_date.specs.Approximate.Rules.{is_padded}
use Rattle.git_date.specs.Approximate.Words.{meaning_of}
use Rattle.git_date.specs.Exact.Computing.{computing}
use Rattle.git_date.specs.Rules.Digits.{min_epoch}
use Rattle.git_date.specs.Tokens.Numbers.{number}
use Rattle.git_date.specs.Tokens.Strings.{before_nul}
use Rattle.git_date.specs.Tokens.Tokens.{Letters, Digits, Mark, tokens}
use Rattle.git_date.specs.Types.Names.{Meaning}
use Rattle.git_date.specs.Types.MeaningCases as meaning
use Rattle.git_date.specs.Types.UnitCases.{Seconds}

-- each row is a word and the seconds of the unit that it means
abbrev Mean : List (String × ℕ) → Type 0
Mean rows =
    map (λ row. meaning_of (codes row.0)) rows
    ≡ map (λ row. let said : Option Meaning = Some (meaning.Unit (Seconds row.1)) in said) rows

unit_rows :
    Mean
    (("second", 1) ∷ ("seconds", 1) ∷ ("minute", 60) ∷ ("minutes", 60) ∷ ("hour", 3600) ∷ ("hours", 3600) ∷ ("day", 86_400) ∷
    ("days", 86_400)
    ∷ ("week", 604_800) ∷ ("weeks", 604_800) ∷ ("Weeks", 604_800) ∷ ("HOUR", 3600) ∷ [])
unfolding computing approximating
unit_rows = refl

-- a text counts what its parts say
counted : (text digits unit : List ℕ) (gap last count size : ℕ)
    → tokens (before_nul text) ≡ Digits digits ∷ Mark gap ∷ Letters unit ∷ Mark last ∷ Letters (codes "ago") ∷ []
    → number digits ≡ count → 1 ≤ count → count < min_epoch → (length digits == 8) ≡ false → is_padded digits ≡ false
    → meaning_of unit ≡ Some (meaning.Unit (Seconds size))
    → CountsBack text count size
counted text digits unit gap last count size is number some few short bare means = grind (arith)

dotted : CountsBack (codes "2.weeks.ago") 2 604_800
unfolding computing approximating
dotted = counted (codes "2.weeks.ago") (codes "2") (codes "weeks") 46 46 2 604_800 refl refl (omega arith) (omega arith) refl refl refl

spaced : CountsBack (codes "90000 Second ago") 90_000 1
unfolding computing approximating
spaced =
    counted (codes "90000 Second ago") (codes "90000") (codes "Second") 32 32 90_000 1 refl refl (omega arith) (omega arith) refl refl refl
