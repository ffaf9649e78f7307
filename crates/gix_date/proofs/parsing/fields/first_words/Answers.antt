use Rattle.std.proofs.Common.{◌≡◌, ℕ, List, ◌∷◌, sym, ap, ◌∙◌, subst, Bool, true, false, cond, Option, Some, None}
use Rattle.std.specs.Borrow.{Bor}
use Rattle.std.specs.Prelude.{is_some, option_copied, if◌then◌else◌}
use Rattle.std.specs.Str.{IsUtf8}
use Rattle.std.specs.Str.Iter.{split_whitespace_rest, split_whitespace_steps}
use Rattle.std.specs.declared.str.SplitWhitespace.{SplitWhitespace}
use Rattle.gix_date.specs.Text.SpaceWords.{space_words, first_words}
use Rattle.gix_date.proofs.Text.WordSteps.{step}
use Rattle.gix_date.proofs.parsing.fields.first_words.Goals as goal

-- what three steps say, the first of which gave a word
of_steps : (s t u v : SplitWhitespace) (first : Bor (List ℕ)) (second third : Option (Bor (List ℕ))) → IsUtf8 (split_whitespace_rest s)
    → split_whitespace_steps s (Some first) t → split_whitespace_steps t second u → split_whitespace_steps u third v
    → first_words (space_words (split_whitespace_rest s)) ≡ Some (first.now, (if is_some third then None else option_copied second))
of_steps s t u v first None None text a b c =
    let one = step s (Some first) t text a in
    ap first_words (one.0 ∙ ap (λ ws. first.now ∷ ws) (step t None u one.1 b))
of_steps s t u v first None (Some third) text a b c =
    let one = step s (Some first) t text a in
    ap first_words (one.0 ∙ ap (λ ws. first.now ∷ ws) (step t None u one.1 b))
of_steps s t u v first (Some second) None text a b c =
    let one = step s (Some first) t text a in
    let two = step t (Some second) u one.1 b in
    ap first_words (one.0 ∙ ap (λ ws. first.now ∷ ws) (two.0 ∙ ap (λ ws. second.now ∷ ws) (step u None v two.1 c)))
of_steps s t u v first (Some second) (Some third) text a b c =
    let one = step s (Some first) t text a in
    let two = step t (Some second) u one.1 b in
    let three = step u (Some third) v two.1 c in
    ap first_words (one.0 ∙ ap (λ ws. first.now ∷ ws) (two.0 ∙ ap (λ ws. second.now ∷ ws) three.0))

-- what the words of the text are, by a third step that gave a word or none
found : (s t u v : SplitWhitespace) (text : List ℕ) (first : Bor (List ℕ)) (second third : Option (Bor (List ℕ))) (more : Bool)
    → split_whitespace_rest s ≡ text → IsUtf8 text
    → split_whitespace_steps s (Some first) t → split_whitespace_steps t second u → split_whitespace_steps u third v → is_some third ≡ more
    → Some (first.now, (if more then None else option_copied second)) ≡ first_words (space_words text)
found s t u v text first second third more whole utf8 a b c is =
    sym (ap (λ xs. first_words (space_words xs)) (sym whole) ∙ of_steps s t u v first second third (subst IsUtf8 (sym whole) utf8) a b c
    ∙ ap (λ x. Some (first.now, cond x None (option_copied second))) is)

pub returns-in_err-first : goal.returns-in_err-first
returns-in_err-first c =
    let whole = c.split_whitespace-words.ensures.rest in
    let text = subst IsUtf8 (sym whole) c.utf8.text in
    rw c.from_residual.ensures (sym (ap (λ xs. first_words (space_words xs)) (sym whole)
    ∙ ap first_words (step c.split_whitespace-words.result None c.next.new.self text c.in_err-first.ensures.steps)))

pub returns : goal.returns
returns c =
    found c.split_whitespace-words.result c.next.new.self c.next-second.new.self c.next-2.new.self c.args.text.now c.in_ok-first.first
    c.next-second.result c.next-2.result false
    c.split_whitespace-words.ensures.rest c.utf8.text c.in_ok-first.ensures.steps c.next-second.ensures.steps c.next-2.ensures.steps
    (sym c.is_some.ensures ∙ c.if-is_some.false)

pub returns-then-is_some : goal.returns-then-is_some
returns-then-is_some c =
    found c.split_whitespace-words.result c.next.new.self c.next-second.new.self c.next-2.new.self c.args.text.now c.in_ok-first.first
    c.next-second.result c.next-2.result true
    c.split_whitespace-words.ensures.rest c.utf8.text c.in_ok-first.ensures.steps c.next-second.ensures.steps c.next-2.ensures.steps
    (sym c.is_some.ensures ∙ c.if-is_some.true)
