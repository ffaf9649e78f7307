-- The lines of an object's own header, one after the other.
use Rattle.std.proofs.Common.{◌≡◌, ◌∙◌, ℕ, ◌+◌, Bool, true, false, cond, ◌||◌, ◌==◌, List, [], ◌∷◌, ◌++◌, length, take, drop, reverse}
use Rattle.std.proofs.Common.{Option, Some, None, option_map, refl, ap, ap₂, sym, arith, append_assoc}
use Rattle.std.proofs.lemmas.Bool.Decides.{nat_tests}
use Rattle.std.proofs.lemmas.List.{append-nil, length-drop, reverse-append, take_all}
use Rattle.std.proofs.lemmas.List.Elements.{All-cons, All-nil}
use Rattle.std.proofs.lemmas.List.Folds.{find-append}
use Rattle.std.proofs.lemmas.List.Splits.{slice_split_first, slice_split_none}
use Rattle.std.proofs.lemmas.List.Sums.{take_while-cons}
use Rattle.std.specs.List.{find, list_any, position_or_len, slice_split}
use Rattle.std.specs.Option.{option_or}
use Rattle.std.specs.Prelude.{All, nat_lt, take_while}
use Rattle.gix_signature.specs.Ident.Bytes.{is_newline}
use Rattle.gix_signature.specs.Objects.{is_filled, own_header, names, after_role, first_named, last_named, first_with, last_with}
use Rattle.gix_signature.specs.declared.object.Role.{Role}
use Rattle.gix_signature.proofs.Texts.{after_place, place_within}

filled : (line : List ℕ) (b : Bool) → (length line == 0) ≡ b → is_filled line ≡ cond b false true
filled line b h = grind (arith, nat_tests, h)

-- the first of a header's lines
front-by : (line : List ℕ) (lines : List (List ℕ)) (b : Bool) → (length line == 0) ≡ b
    → take_while is_filled (line ∷ lines) ≡ cond b [] (line ∷ take_while is_filled lines)
front-by line lines true h = take_while-cons is_filled line lines
    ∙ ap (λ t. cond t (line ∷ take_while is_filled lines) []) (filled line true h)
front-by line lines false h = take_while-cons is_filled line lines
    ∙ ap (λ t. cond t (line ∷ take_while is_filled lines) []) (filled line false h)

left-parts : (a b : Bool) → (a || b) ≡ false → (a ≡ false) × (b ≡ false)
left-parts a b h = (grind (arith, h), grind (arith, h))

all-other : (p : ℕ → Bool) (xs : List ℕ) → list_any p xs ≡ false → All (λ x. p x ≡ false) xs
all-other p [] h = All-nil (λ x. p x ≡ false)
all-other p (x ∷ xs) h =
    let each = left-parts (p x) (list_any p xs) h in All-cons (λ x. p x ≡ false) x xs each.0 (all-other p xs each.1)

module _ (text : List ℕ) where
  abbrev place : ℕ
  place = position_or_len is_newline text

  abbrev line : List ℕ
  line = take place text

  abbrev rest : List ℕ
  rest = drop 1 (drop place text)

  -- a header that a line begins
  header-by : (room b : Bool) → nat_lt place (length text) ≡ room → (length line == 0) ≡ b
      → own_header text ≡ cond b [] (line ∷ own_header rest)
  header-by true b r h =
      let split = slice_split_first is_newline text 0 (grind (arith, nat_tests, r)) in
      ap (take_while is_filled) split ∙ front-by line (slice_split is_newline (drop (place + 1) text)) b h
      ∙ ap (λ t. cond b [] (line ∷ own_header t)) (sym (after_place place text))
  header-by false b r h =
      let none : list_any is_newline text ≡ false = sym (place_within is_newline text) ∙ r in
      let whole : line ≡ text = take_all place text (grind (arith, nat_tests, r)) in
      let over : rest ≡ [] = nothing (drop place text) (grind (arith, nat_tests, length-drop, r)) in
      ap (take_while is_filled) (slice_split_none is_newline text (all-other is_newline text none) ∙ ap (λ t. t ∷ []) (sym whole))
      ∙ front-by line [] b h ∙ ap (λ t. cond b [] (line ∷ own_header t)) (sym over)
    where
      nothing : (xs : List ℕ) → length xs ≡ 0 → drop 1 xs ≡ []
      nothing [] e = refl
      nothing (x ∷ xs) e = absurd (omega (arith, e))

  header : (b : Bool) → (length line == 0) ≡ b → own_header text ≡ cond b [] (line ∷ own_header rest)
  header b h = header-by (nat_lt place (length text)) b refl h

pub header_ends : (text line : List ℕ) (n : ℕ) → n ≡ position_or_len is_newline text → line ≡ take n text → (length line == 0) ≡ true
    → own_header text ≡ []
header_ends text line n at is h =
    header text true (ap (λ k. length (take k text) == 0) (sym at) ∙ ap (λ (l : List ℕ). length l == 0) (sym is) ∙ h)

pub header_goes_on : (text line rest : List ℕ) (n : ℕ) → n ≡ position_or_len is_newline text → line ≡ take n text → rest ≡ drop n text
    → (length line == 0) ≡ false → own_header text ≡ line ∷ own_header (drop 1 rest)
header_goes_on text line rest n at is_line is_rest h =
    header text false (ap (λ k. length (take k text) == 0) (sym at) ∙ ap (λ (l : List ℕ). length l == 0) (sym is_line) ∙ h)
    ∙ ap₂ (λ a b. a ∷ own_header (drop 1 b)) (ap (λ k. take k text) (sym at) ∙ sym is_line) (ap (λ k. drop k text) (sym at) ∙ sym is_rest)

-- The lines of a header that are read, and whom these name in a role.
pub record SoFar (role : Role) (contents left : List ℕ) (first last : Option (List ℕ)) : Type 0 where
  pub lines : List (List ℕ)
  pub whole : own_header contents ≡ lines ++ own_header left
  pub first_is : first ≡ option_map (after_role role) (find (names role) lines)
  pub last_is : last ≡ option_map (after_role role) (find (names role) (reverse lines))

pub nothing_read : (role : Role) (contents : List ℕ) → SoFar role contents contents None None
nothing_read role contents = record { lines = []; whole = refl; first_is = refl; last_is = refl }

first-more : (role : Role) (found : Option (List ℕ)) (line : List ℕ) (b : Bool) → names role line ≡ b
    → cond b (option_or (option_map (after_role role) found) (Some (after_role role line))) (option_map (after_role role) found)
    ≡ option_map (after_role role) (option_or found (cond b (Some line) None))
first-more role (Some x) line true e = refl
first-more role None line true e = refl
first-more role (Some x) line false e = refl
first-more role None line false e = refl

last-more : (role : Role) (found : Option (List ℕ)) (line : List ℕ) (b : Bool)
    → cond b (Some (after_role role line)) (option_map (after_role role) found) ≡ option_map (after_role role) (cond b (Some line) found)
last-more role found line true = refl
last-more role found line false = refl

-- a line more
pub line_more : (role : Role) (contents left line rest : List ℕ) (first last : Option (List ℕ)) → SoFar role contents left first last
    → own_header left ≡ line ∷ own_header rest → SoFar role contents rest (first_with role first line) (last_with role last line)
line_more role contents left line rest first last far e =
    let one : List (List ℕ) = line ∷ [] in
    record {
      lines = far.lines ++ one;
      whole = far.whole ∙ ap (λ l. far.lines ++ l) e ∙ sym (append_assoc far.lines one (own_header rest));
      first_is =
          ap (λ o. first_with role o line) far.first_is
          ∙ first-more role (find (names role) far.lines) line (names role line) refl
          ∙ ap (option_map (after_role role)) (sym (find-append (names role) far.lines one));
      last_is =
          ap (λ o. last_with role o line) far.last_is
          ∙ last-more role (find (names role) (reverse far.lines)) line (names role line)
          ∙ ap (λ l. option_map (after_role role) (find (names role) l)) (sym (reverse-append far.lines one));
    }

-- all is read
all-read : (role : Role) (contents left : List ℕ) (first last : Option (List ℕ)) (far : SoFar role contents left first last)
    → own_header left ≡ [] → far.lines ≡ own_header contents
all-read role contents left first last far e = sym (far.whole ∙ ap (λ l. far.lines ++ l) e ∙ append-nil far.lines)

pub first_read : (role : Role) (contents left : List ℕ) (first last : Option (List ℕ)) → SoFar role contents left first last
    → own_header left ≡ [] → first ≡ first_named role contents
first_read role contents left first last far e =
    far.first_is ∙ ap (λ l. option_map (after_role role) (find (names role) l)) (all-read role contents left first last far e)

pub last_read : (role : Role) (contents left : List ℕ) (first last : Option (List ℕ)) → SoFar role contents left first last
    → own_header left ≡ [] → last ≡ last_named role contents
last_read role contents left first last far e =
    far.last_is ∙ ap (λ l. option_map (after_role role) (find (names role) (reverse l))) (all-read role contents left first last far e)
