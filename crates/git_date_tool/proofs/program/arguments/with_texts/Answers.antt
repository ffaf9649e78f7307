use Rattle.std.proofs.Common.{◌≡◌, refl, Bool, true, false, cond, ℕ, List, [], ◌∷◌, map, string_bytes, Option, Some, option_map, ◌∙◌, ap}
use Rattle.std.proofs.Common.{sym, Ok}
use Rattle.std.specs.Global.{Global}
use Rattle.std.specs.List.{find}
use Rattle.std.specs.Prelude.{String}
use Rattle.git_date_tool.specs.CommandLine.Command.{first_option, is_option, Answer, Asked, request_view, with_texts_by}
use Rattle.git_date_tool.proofs.program.arguments.with_texts.Goals as goal

-- The first option among words of the code.

-- a word is it, or it is that of the words after it
first-or : (word : String Global) (later : Option (String Global)) (b : Bool) (found : Option (List ℕ))
    → found ≡ option_map string_bytes later
    → cond b (Some (string_bytes word)) found ≡ option_map string_bytes (cond b (Some word) later)
first-or word later true found h = refl
first-or word later false found h = h

first_option_of : (words : List (String Global)) → first_option (map string_bytes words)
    ≡ option_map string_bytes (find (λ (word : String Global). is_option (string_bytes word)) words)
first_option_of [] = refl
first_option_of (w ∷ ws) =
    first-or w (find (λ (word : String Global). is_option (string_bytes word)) ws) (is_option (string_bytes w))
    (first_option (map string_bytes ws)) (first_option_of ws)

by-first : (a : Asked) (texts : List (String Global)) (found : Option (List ℕ)) → found ≡ first_option (map string_bytes texts)
    → with_texts_by (first_option (map string_bytes texts)) a (map string_bytes texts) ≡ with_texts_by found a (map string_bytes texts)
by-first a texts found is = ap (λ (o : Option (List ℕ)). with_texts_by o a (map string_bytes texts)) (sym is)

pub returns-in-Some : goal.returns-in-Some
returns-in-Some c =
    sym (by-first (request_view c.args.request) c.args.texts.now _ (c.in-Some.ensures ∙ sym (first_option_of c.args.texts.now)))

pub returns-in-None : goal.returns-in-None
returns-in-None c =
    ap (λ (a : Asked). Ok (Answer a)) c.with_all.ensures
    ∙ sym (by-first (request_view c.args.request) c.args.texts.now _ (c.in-None.ensures ∙ sym (first_option_of c.args.texts.now)))
