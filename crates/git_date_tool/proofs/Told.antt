-- Lines of warnings, in pieces.
use Rattle.std.proofs.Common.{◌≡◌, ◌∙◌, Bool, true, false, ℕ, List, [], ◌∷◌, ◌++◌, refl, sym, ap, append_assoc, None}
use Rattle.std.specs.Prelude.{codes, is_none}
use Rattle.gix_date.specs.Text.Characters.{newline}
use Rattle.streams.specs.Lines.{with_newline}
use Rattle.git_date_tool.specs.Answers.Warnings.{words_by}

pub number_told : (called number said : List ℕ)
    → called ++ (number ++ (said ++ (newline ∷ [] ++ []))) ≡ with_newline (called ++ (number ++ said))
number_told called number said =
    sym (append_assoc called (number ++ said) (newline ∷ []) ∙ ap (λ (xs : List ℕ). called ++ xs) (append_assoc number said (newline ∷ [])))

in-six : (a b c d e f : List ℕ) → a ++ (b ++ (c ++ (d ++ (e ++ (f ++ newline ∷ []))))) ≡ with_newline (a ++ (b ++ (c ++ (d ++ (e ++ f)))))
in-six a b c d e f =
    let end = newline ∷ [] in
    sym (append_assoc a (b ++ (c ++ (d ++ (e ++ f)))) end
    ∙ ap (λ (xs : List ℕ). a ++ xs) (append_assoc b (c ++ (d ++ (e ++ f))) end)
    ∙ ap (λ (xs : List ℕ). a ++ (b ++ xs)) (append_assoc c (d ++ (e ++ f)) end)
    ∙ ap (λ (xs : List ℕ). a ++ (b ++ (c ++ xs))) (append_assoc d (e ++ f) end)
    ∙ ap (λ (xs : List ℕ). a ++ (b ++ (c ++ (d ++ xs)))) (append_assoc e f end))

pub word_told : (called number front place word : List ℕ)
    → called ++ (number ++ (front ++ (place ++ (codes ": " ++ (word ++ (newline ∷ [] ++ []))))))
    ≡ with_newline (called ++ (number ++ (front ++ (place ++ (codes ": " ++ word)))))
word_told called number front place word = in-six called number front place (codes ": ") word

-- nothing is said where nothing was ignored and something understood
pub unsaid : (understood : Bool) → understood ≡ is_none (words_by understood None)
unsaid true = refl
unsaid false = refl
