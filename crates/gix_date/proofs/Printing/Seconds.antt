-- Seconds in the place of a text by a pattern.
use Rattle.std.proofs.Common.{◌≡◌, List, ℕ, Bool, true, false, Result, Ok, Err, inl, inr}
use Rattle.std.specs.Prelude.{String, IsTrue, ◌↔◌}
use Rattle.std.specs.Global.{Global}
use Rattle.gix_date.specs.Printing.Formats.{PrintsPattern, PrintsPatternOrSeconds, PrintsSeconds, HasNoPatternText}
use Rattle.gix_date.specs.declared.error.Error.{Error}
use Rattle.gix_date.specs.declared.error.Error.TheVariants as errors
use Rattle.gix_date.specs.declared.time.Time.{Time}

-- a refusal for which memory is no reason: the time has no text by the pattern
unprinted : (t : Time) (pattern : List ℕ) (e : Error) (is_memory : Bool) → PrintsPattern t pattern (Err e)
    → (IsTrue is_memory ↔ (e ≡ errors.Memory)) → is_memory ≡ false → HasNoPatternText t pattern
unprinted t pattern e b (inl (is, none)) told other = inl none
unprinted t pattern e true (inr (inl (is, converts))) told other = absurd cc
unprinted t pattern e false (inr (inl (is, converts))) told other = let clash : false ≡ true = told.1 is in absurd cc
unprinted t pattern e b (inr (inr (is, none))) told other = inr none

-- and then its seconds are what is printed
pub seconds-in_place : (t : Time) (pattern : List ℕ) (e : Error) (is_memory : Bool) (printed : Result (String Global) Error)
    → PrintsPattern t pattern (Err e) → (IsTrue is_memory ↔ (e ≡ errors.Memory)) → is_memory ≡ false → PrintsSeconds t printed
    → PrintsPatternOrSeconds t pattern printed
seconds-in_place t pattern e b (Ok text) refused told other seconds = inr (unprinted t pattern e b refused told other, seconds)
seconds-in_place t pattern e b (Err fault) refused told other memory = memory
