-- The lines of a block that are read so far.
use Rattle.std.proofs.Common.{◌≡◌, ◌≢◌, ◌∙◌, ◌⊎◌, inl, inr, ℕ, ◌-◌, ◌≤◌, List, [], ◌∷◌, ◌++◌, length, refl, sym, ap, arith, append_assoc}
use Rattle.std.proofs.Common.{append-nil, length-append}
use Rattle.std.proofs.lemmas.List.Elements.{All-nil}
use Rattle.std.specs.List.{flat_map}
use Rattle.gix_date.specs.Text.Characters.{newline}
use Rattle.streams.specs.Lines.{IsCutAfter, IsLine, Part, Splits, last_line, with_last_line, with_newline}
use Rattle.streams.proofs.Splitting.{Splits-newline, Splits-open}
use Rattle.gix_date_c.specs.Lines.Blocks.{AreFirstLines}

-- the lines of a front of the block, beyond which this is left; they may go on if they end at a newline
pub record SoFar (block left : List ℕ) (lines : List (List ℕ)) : Type 0 where
  pub part : Part block
  pub lines_are : lines ≡ with_last_line part
  pub left_is : left ≡ part.beyond
  pub goes_on : (part.beyond ≡ []) ⊎ (part.rest ≡ [])

pub SoFar-none : (block : List ℕ) → SoFar block block []
SoFar-none block = record {
  part = record { front = []; beyond = block; lines = []; rest = []; whole = refl; splits = Splits-open [] (All-nil (λ b. b ≢ newline)) };
  lines_are = refl;
  left_is = refl;
  goes_on = inr refl;
}

-- a line that has not ended, after lines that have
Splits-more : (front line rest : List ℕ) (lines : List (List ℕ)) → Splits front lines rest → rest ≡ [] → IsLine line
    → Splits (front ++ line) lines line
Splits-more front line rest lines h ended is_line = record {
  whole = ap (λ xs. xs ++ line) (h.whole ∙ ap (λ xs. flat_map with_newline lines ++ xs) ended ∙ append-nil (flat_map with_newline lines));
  each = h.each;
  rest_is_line = is_line;
}

-- lines that have ended, with one more
with_line : (lines all : List (List ℕ)) (rest line : List ℕ) → all ≡ lines ++ last_line rest → rest ≡ []
    → all ++ line ∷ [] ≡ lines ++ line ∷ []
with_line lines all rest line is ended =
    ap (λ xs. xs ++ line ∷ []) (is ∙ ap (λ xs. lines ++ last_line xs) ended ∙ append-nil lines)

last_line-is : (line : List ℕ) → line ≢ [] → last_line line ≡ line ∷ []
last_line-is [] some = absurd (some refl)
last_line-is (b ∷ bs) some = refl

-- a line with its newline
ended-next : (block left line after : List ℕ) (lines : List (List ℕ)) (far : SoFar block left lines) → far.part.rest ≡ [] → IsLine line
    → left ≡ line ++ newline ∷ after → SoFar block after (lines ++ line ∷ [])
ended-next block left line after lines far ended is_line cut =
    let p = far.part in
    let front = p.front ++ line in
    record {
      part = record {
        front = front ++ newline ∷ [];
        beyond = after;
        lines = p.lines ++ line ∷ [];
        rest = [];
        whole = p.whole ∙ ap (λ xs. p.front ++ xs) (sym far.left_is ∙ cut) ∙ sym (append_assoc p.front line (newline ∷ after))
            ∙ sym (append_assoc front (newline ∷ []) after);
        splits = Splits-newline front p.lines line (Splits-more p.front line p.rest p.lines p.splits ended is_line);
      };
      lines_are = with_line p.lines lines p.rest line far.lines_are ended ∙ sym (append-nil (p.lines ++ line ∷ []));
      left_is = refl;
      goes_on = inr refl;
    }

-- the last line, without a newline
last-next : (block left line after : List ℕ) (lines : List (List ℕ)) (far : SoFar block left lines) → far.part.rest ≡ [] → IsLine line
    → left ≡ line → after ≡ [] → line ≢ [] → SoFar block after (lines ++ line ∷ [])
last-next block left line after lines far ended is_line cut none some =
    let p = far.part in
    record {
      part = record {
        front = p.front ++ line;
        beyond = after;
        lines = p.lines;
        rest = line;
        whole = p.whole ∙ ap (λ xs. p.front ++ xs) (sym far.left_is ∙ cut) ∙ sym (append-nil (p.front ++ line))
            ∙ ap (λ xs. (p.front ++ line) ++ xs) (sym none);
        splits = Splits-more p.front line p.rest p.lines p.splits ended is_line;
      };
      lines_are = with_line p.lines lines p.rest line far.lines_are ended ∙ ap (λ xs. p.lines ++ xs) (sym (last_line-is line some));
      left_is = refl;
      goes_on = inl none;
    }

-- nothing is left after a last line
no-more : (left line after : List ℕ) → left ≡ [] → IsCutAfter left (line, after) → ⊥
no-more left [] after none (is_line, inl cut) = let clash : newline ∷ after ≡ [] = sym cut ∙ none in cc
no-more left (b ∷ bs) after none (is_line, inl cut) = let clash : (b ∷ bs) ++ newline ∷ after ≡ [] = sym cut ∙ none in cc
no-more left line after none (is_line, inr last) = last.2 (sym last.0 ∙ none)

next : (block left line after : List ℕ) (lines : List (List ℕ)) (far : SoFar block left lines)
    → (far.part.beyond ≡ []) ⊎ (far.part.rest ≡ [])
    → IsCutAfter left (line, after) → SoFar block after (lines ++ line ∷ [])
next block left line after lines far (inl none) cut = absurd (no-more left line after (far.left_is ∙ none) cut)
next block left line after lines far (inr ended) (is_line, inl cut) = ended-next block left line after lines far ended is_line cut
next block left line after lines far (inr ended) (is_line, inr last) =
    last-next block left line after lines far ended is_line last.0 last.1 last.2

-- one line more
pub SoFar-next : (block left line after : List ℕ) (lines : List (List ℕ)) → SoFar block left lines → IsCutAfter left (line, after)
    → SoFar block after (lines ++ line ∷ [])
SoFar-next block left line after lines far cut = next block left line after lines far far.goes_on cut

-- why no line follows
until : (beyond rest left : List ℕ) (done room : ℕ) → (beyond ≡ []) ⊎ (rest ≡ []) → left ≡ beyond → (left ≡ []) ⊎ (done ≡ room)
    → (beyond ≡ []) ⊎ ((rest ≡ []) × (done ≡ room))
until beyond rest left done room on is (inl none) = inl (sym is ∙ none)
until beyond rest left done room (inl none) is (inr full) = inl none
until beyond rest left done room (inr ended) is (inr full) = inr (ended, full)

-- how many bytes are not left
front-bytes : (block left front beyond : List ℕ) → block ≡ front ++ beyond → left ≡ beyond → length block - length left ≡ length front
front-bytes block left front beyond whole is = omega (arith, length-append front beyond, ap length whole, ap length is)

before : (block left line after : List ℕ) (lines : List (List ℕ)) (far : SoFar block left lines)
    → (far.part.beyond ≡ []) ⊎ (far.part.rest ≡ []) → IsCutAfter left (line, after)
    → length block - length left ≡ length (flat_map with_newline lines)
before block left line after lines far (inl none) cut = absurd (no-more left line after (far.left_is ∙ none) cut)
before block left line after lines far (inr ended) cut =
    let p = far.part in
    let same : lines ≡ p.lines = far.lines_are ∙ ap (λ xs. p.lines ++ last_line xs) ended ∙ append-nil p.lines in
    let front : p.front ≡ flat_map with_newline p.lines =
    p.splits.whole ∙ ap (λ xs. flat_map with_newline p.lines ++ xs) ended ∙ append-nil (flat_map with_newline p.lines) in
    front-bytes block left p.front p.beyond p.whole far.left_is
    ∙ ap (λ (xs : List ℕ). length xs) (front ∙ ap (λ ls. flat_map with_newline ls) (sym same))

-- how many bytes stand before one line more
pub SoFar-before : (block left line after : List ℕ) (lines : List (List ℕ)) → SoFar block left lines → IsCutAfter left (line, after)
    → length block - length left ≡ length (flat_map with_newline lines)
SoFar-before block left line after lines far cut = before block left line after lines far far.goes_on cut

-- no line follows, or there is no room for it
pub SoFar-first : (block left : List ℕ) (lines : List (List ℕ)) (room : ℕ) → SoFar block left lines → length lines ≤ room
    → (left ≡ []) ⊎ (length lines ≡ room) → AreFirstLines block room lines (length block - length left)
SoFar-first block left lines room far within end = record {
  part = far.part;
  lines_are = far.lines_are;
  bytes_are = front-bytes block left far.part.front far.part.beyond far.part.whole far.left_is;
  within = within;
  until = until far.part.beyond far.part.rest left (length lines) room far.goes_on far.left_is end;
}
