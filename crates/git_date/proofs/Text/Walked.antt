-- Walks over tokens that are over: nothing is left to walk over.
use Rattle.std.proofs.Common.{◌≡◌, ℕ, zero, suc, List, [], refl, Result, Ok}
use Rattle.git_date.specs.Tokens.Tokens.{Token, walked}
use Rattle.git_date.specs.declared.error.Fault.{Fault}

abbrev pub Go : Type 0 → Type 0
Go S = S → List Token → Result S Fault

abbrev pub Step : Type 0 → Type 0
Step S = S → Token → List Token → Go S → Result S Fault

pub nothing-left : {S : Type 0} (step : Step S) (n : ℕ) (s : S) → walked step n s [] ≡ Ok s
unfolding walked
nothing-left step zero s = refl
nothing-left step (suc n) s = refl
