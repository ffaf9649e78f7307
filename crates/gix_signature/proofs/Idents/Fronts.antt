-- What stands after texts at the front of another.
use Rattle.std.proofs.Common.{◌≡◌, ◌≢◌, ◌∙◌, ℕ, Bool, true, false, List, ◌++◌, length, take, drop, Option, Some, None, option_map}
use Rattle.std.proofs.Common.{ap, sym, arith}
use Rattle.std.proofs.Common.{append_assoc, eqb, ◌+◌}
use Rattle.std.proofs.lemmas.Bool.Decides.{Decides-eqb}
use Rattle.std.proofs.lemmas.List.{append_cancel_left}
use Rattle.std.proofs.lemmas.Slice.Eq.{bytes_eq-Decides, strip_prefix_is}
use Rattle.std.specs.Borrow.{Bor}
use Rattle.std.specs.Cmp.Lexicographic.{pointwise}
use Rattle.std.specs.Prelude.{MatchOption, codes}
use Rattle.std.specs.Str.{bytes_eq}
use Rattle.gix_signature.specs.Ident.Texts.{CutsFront}
use Rattle.gix_signature.specs.Signature.{line_of}

-- after one text, and then after another
pub cut_both : (a b text rest : List ℕ) (o : Option (List ℕ)) → text ≡ a ++ rest → CutsFront b rest o → CutsFront (a ++ b) text o
cut_both a b text rest (Some end) h k = h ∙ ap (λ l. a ++ l) k ∙ sym (append_assoc a b end)
cut_both a b text rest None h k =
    λ end e. k end (append_cancel_left a rest (b ++ end) (sym h ∙ e ∙ append_assoc a b end))

pub cut_none : (a b text : List ℕ) → ((rest : List ℕ) → text ≢ a ++ rest) → (rest : List ℕ) → text ≢ (a ++ b) ++ rest
cut_none a b text h rest e = h (b ++ rest) (e ∙ append_assoc a b rest)

-- at the front of a text stands what `strip_prefix` cuts
pub cut : (front text : List ℕ) (r : Option (Bor (List ℕ)))
    → MatchOption r (pointwise eqb (take (length front) text) front ≡ false)
    (λ x. (pointwise eqb (take (length front) text) front ≡ true) × (x.now ≡ drop (length front) text)
    × (length x.now + length front ≡ length text))
    → CutsFront front text (option_map (λ x. x.now) r)
cut front text None h = strip_prefix_is Decides-eqb text front None h
cut front text (Some x) h = strip_prefix_is Decides-eqb text front (Some x) h

-- one test is another
same-tests : (a b : Bool) → (a ≡ true → b ≡ true) → (b ≡ true → a ≡ true) → a ≡ b
same-tests a b to from = grind arith

module _ (line name email time : List ℕ) where
  abbrev front : List ℕ
  front = (name ++ codes " <") ++ (email ++ codes "> ")

  abbrev whole : List ℕ
  whole = line_of (record { name = name; email = email; time = time })

  joined : front ++ time ≡ whole
  joined =
      append_assoc (name ++ codes " <") (email ++ codes "> ") time ∙ append_assoc name (codes " <") ((email ++ codes "> ") ++ time)
      ∙ ap (λ l. name ++ (codes " <" ++ l)) (append_assoc email (codes "> ") time)

  pub is_whole : (rest : List ℕ) → line ≡ front ++ rest → bytes_eq rest time ≡ bytes_eq line whole
  is_whole rest h =
      let these = bytes_eq-Decides rest time in
      let those = bytes_eq-Decides line whole in
      same-tests (bytes_eq rest time) (bytes_eq line whole) (λ e. those.1 (h ∙ ap (λ l. front ++ l) (these.0 e) ∙ joined))
      (λ e. these.1 (append_cancel_left front rest time (sym h ∙ those.0 e ∙ sym joined)))

  pub is_not : ((rest : List ℕ) → line ≢ front ++ rest) → false ≡ bytes_eq line whole
  is_not none =
      same-tests false (bytes_eq line whole) (λ e. absurd cc) (λ e. absurd (none time ((bytes_eq-Decides line whole).0 e ∙ sym joined)))
