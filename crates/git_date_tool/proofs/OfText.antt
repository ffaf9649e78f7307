-- Bytes that are text, and bytes that are none.
use Rattle.std.proofs.Common.{◌≡◌, ℕ, List, Result, Err, refl, sym, subst}
use Rattle.std.proofs.lemmas.Str.{is_utf8-from_IsUtf8}
use Rattle.std.specs.Prelude.{IsUtf8}
use Rattle.git_date.specs.declared.approximate.Approximate.{Approximate}
use Rattle.gix_date.proofs.Text.Texts.{no_text}
use Rattle.git_date_tool.specs.Answers.Readers.{IsIfText, IsOfText}
use Rattle.git_date_tool.specs.declared.answers.refusals.Refusal.{Refusal}
use Rattle.git_date_tool.specs.declared.answers.refusals.Refusal.TheVariants.{NotText}

pub of_text : (Finds : List ℕ → Result Approximate Refusal → Type 0) (text bytes : List ℕ) (found : Result Approximate Refusal)
    → text ≡ bytes → IsUtf8 bytes → Finds text found → IsOfText Finds bytes found
unfolding IsOfText
of_text Finds text bytes found same is_text h =
    subst (λ b. IsIfText b Finds bytes found) (sym (is_utf8-from_IsUtf8 bytes is_text)) (subst (λ t. Finds t found) same h)

pub of_bytes : (Finds : List ℕ → Result Approximate Refusal → Type 0) (bytes : List ℕ) → (IsUtf8 bytes → ⊥)
    → IsOfText Finds bytes (Err NotText)
unfolding IsOfText
of_bytes Finds bytes h = subst (λ b. IsIfText b Finds bytes (Err NotText)) (sym (no_text bytes h)) refl
