-- How an input is split into lines.
use Rattle.std.proofs.Common.{◌≡◌, ◌≢◌, ℕ, List, [], ◌∷◌, ◌++◌, refl, sym, ap, ◌∙◌, append_assoc, append-nil}
use Rattle.std.proofs.lemmas.List.{flat_map_more}
use Rattle.std.proofs.lemmas.List.Elements.{All-push, All-nil, All-head, All-tail}
use Rattle.std.specs.List.{flat_map}
use Rattle.std.specs.Prelude.{All}
use Rattle.gix_date.specs.Text.Characters.{newline}
use Rattle.streams.specs.Lines.{IsLine, with_newline, Splits, SplitsAreUnique}

-- one line, not ended
pub Splits-open : (line : List ℕ) → IsLine line → Splits line [] line
Splits-open line h = record { whole = refl; each = All-nil IsLine; rest_is_line = h }

-- a newline ends the rest
pub Splits-newline : (input : List ℕ) (lines : List (List ℕ)) (rest : List ℕ) → Splits input lines rest
    → Splits (input ++ newline ∷ []) (lines ++ rest ∷ []) []
Splits-newline input lines rest h = record {
  whole = ap with_newline h.whole ∙ append_assoc (flat_map with_newline lines) rest (newline ∷ [])
      ∙ flat_map_more with_newline [] lines rest
      ∙ sym (append-nil (flat_map with_newline (lines ++ rest ∷ [])));
  each = All-push IsLine lines rest h.each h.rest_is_line;
  rest_is_line = All-nil (λ b. b ≢ newline);
}

-- a line that begins with a newline is none
no_newline_first : (x : ℕ) (xs : List ℕ) → IsLine (x ∷ xs) → newline ≡ x → ⊥
no_newline_first x xs h e = All-head (λ b. b ≢ newline) x xs h (sym e)

-- a newline ends a line at one place
same_cut : (a b xs ys : List ℕ) → IsLine a → IsLine b → a ++ newline ∷ xs ≡ b ++ newline ∷ ys → (a ≡ b) × (xs ≡ ys)
same_cut [] [] xs ys h k e = (refl, cc)
same_cut [] (y ∷ b) xs ys h k e = absurd (no_newline_first y b k (cc))
same_cut (x ∷ a) [] xs ys h k e = absurd (no_newline_first x a h (cc))
same_cut (x ∷ a) (y ∷ b) xs ys h k e =
    let head : x ≡ y = cc in
    let tail : a ++ newline ∷ xs ≡ b ++ newline ∷ ys = cc in
    let rest = same_cut a b xs ys (All-tail (λ b. b ≢ newline) x a h) (All-tail (λ b. b ≢ newline) y b k) tail in
    let front : a ≡ b = rest.0 in
    (cc, rest.1)

-- a text with a newline is no line
no_newline_within : (a xs rest : List ℕ) → IsLine rest → a ++ newline ∷ xs ≡ rest → ⊥
no_newline_within [] xs [] h e = cc
no_newline_within [] xs (r ∷ rest) h e = no_newline_first r rest h (cc)
no_newline_within (x ∷ a) xs [] h e = cc
no_newline_within (x ∷ a) xs (r ∷ rest) h e = no_newline_within a xs rest (All-tail (λ b. b ≢ newline) r rest h) (cc)

-- the front of what is split, cut at its first newline
cut_first : (line : List ℕ) (lines : List (List ℕ)) (rest : List ℕ)
    → flat_map with_newline (line ∷ lines) ++ rest ≡ line ++ newline ∷ (flat_map with_newline lines ++ rest)
cut_first line lines rest = append_assoc (with_newline line) (flat_map with_newline lines) rest
    ∙ append_assoc line (newline ∷ []) (flat_map with_newline lines ++ rest)

same_lines : (lines others : List (List ℕ)) (rest other : List ℕ) → All IsLine lines → All IsLine others → IsLine rest → IsLine other
    → flat_map with_newline lines ++ rest ≡ flat_map with_newline others ++ other → (lines ≡ others) × (rest ≡ other)
same_lines [] [] rest other h k i j e = (refl, e)
same_lines [] (o ∷ others) rest other h k i j e =
    absurd (no_newline_within o (flat_map with_newline others ++ other) rest i (sym (cut_first o others other) ∙ sym e))
same_lines (l ∷ lines) [] rest other h k i j e =
    absurd (no_newline_within l (flat_map with_newline lines ++ rest) other j (sym (cut_first l lines rest) ∙ e))
same_lines (l ∷ lines) (o ∷ others) rest other h k i j e =
    let first = same_cut l o (flat_map with_newline lines ++ rest) (flat_map with_newline others ++ other) (All-head IsLine l lines h)
    (All-head IsLine o others k) (sym (cut_first l lines rest) ∙ e ∙ cut_first o others other) in
    let more = same_lines lines others rest other (All-tail IsLine l lines h) (All-tail IsLine o others k) i j first.1 in
    let front : l ≡ o = first.0 in
    let back : lines ≡ others = more.0 in
    (cc, more.1)

-- there is one way to split an input
pub splits_unique : SplitsAreUnique
unfolding SplitsAreUnique
splits_unique input lines others rest other h k =
    same_lines lines others rest other h.each k.each h.rest_is_line k.rest_is_line (sym h.whole ∙ k.whole)
