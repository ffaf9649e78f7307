-- Texts that begin with a front.
use Rattle.std.proofs.Common.{◌≡◌, ◌∙◌, ℕ, Bool, true, false, List, Option, Some, None, option_map, cond, ap, subst, sym}
use Rattle.std.proofs.lemmas.Str.Pattern.{starts_text}
use Rattle.std.specs.Borrow.{Bor}
use Rattle.std.specs.Prelude.{MatchOption, IsCharBoundary, drop, length}
use Rattle.std.specs.Str.Pattern.{FindsTextPrefix, StripsPrefix}
use Rattle.git_date_tool.specs.Answers.Shown.{after_front}

-- what is left without a front
pub after_front_is : (front text : List ℕ) (rest : Option (Bor (List ℕ)))
    → MatchOption rest (FindsTextPrefix front text None) (λ x. StripsPrefix (FindsTextPrefix front) text x.now)
    → option_map (λ (rest : Bor (List ℕ)). rest.now) rest ≡ after_front front text
after_front_is front text None h = ap (λ (b : Bool). cond b (Some (drop (length front) text)) None) (starts_text false front text h)
after_front_is front text (Some x) h =
    let boundary = subst (IsCharBoundary text) (sym h.1.0) h.1.2 in
    ap Some (h.2 ∙ ap (λ (k : ℕ). drop k text) h.1.0)
    ∙ ap (λ (b : Bool). cond b (Some (drop (length front) text)) None) (starts_text true front text (h.0, h.1, boundary))
