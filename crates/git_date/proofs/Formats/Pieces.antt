-- The first piece of a format, and where it ends.
use Rattle.std.proofs.Common.{◌≡◌, ◌∙◌, ◌+◌, ◌-◌, ◌<◌, ℕ, suc, Bool, true, false, not, List, [], ◌∷◌, length, take, drop, get_or, refl, ap}
use Rattle.std.proofs.Common.{sym, subst, arith, Result, Ok, Err, IsUtf8}
use Rattle.std.proofs.lemmas.Grind.{get_or_after_one}
use Rattle.std.proofs.lemmas.List.{get_or-drop, length-drop}
use Rattle.std.proofs.lemmas.Bool.Decides.{nat_tests}
use Rattle.std.proofs.lemmas.List.Sums.{prefix_len-le-length}
use Rattle.std.proofs.lemmas.Str.{IsCharBoundary-after_ascii}
use Rattle.std.specs.List.{slice_get}
use Rattle.std.specs.Str.{IsCharBoundary}
use Rattle.git_date.specs.declared.format.error.FormatFault.{FormatFault}
use Rattle.git_date.specs.Formats.Pieces.{Made, Piece, Text, Begun, made_if, made_at, begun, next_piece, text_piece, is_percent, percent}
use Rattle.git_date.specs.Formats.Pieces.{text_len, marks_len, digits_len, after_marks, after_digits, letter_place}
use Rattle.git_date.proofs.Formats.Letters.{made-ascii}

letter-by : (left : ℕ) (marks digits rest : List ℕ) (m : Made) → made_if left marks digits (slice_get rest 0) ≡ Ok m
    → (0 < length rest) × (get_or rest 0 0 < 128)
letter-by left marks digits [] m e = absurd cc
letter-by left marks digits (c ∷ rest) m e = (omega arith, made-ascii left marks digits c m e)

letter-in : (text : List ℕ) (k d : ℕ) → get_or (drop d (drop k text)) 0 0 ≡ get_or text (k + d) 0
letter-in text k d =
    let e : k + (d + 0) ≡ k + d = omega arith in
    get_or-drop d (drop k text) 0 0 ∙ get_or-drop k text (d + 0) 0 ∙ ap (λ (n : ℕ). get_or text n 0) e

-- the letter of a directive
pub made-letter : (text : List ℕ) (m : Made) → made_at text ≡ Ok m
    → (letter_place text < length text) × (get_or text (letter_place text) 0 < 128)
unfolding made_at
made-letter text m e =
    let p = letter-by (length text + 1) (take (marks_len text) text) (take (digits_len text) (after_marks text)) (after_digits text) m e in
    let P : ℕ → Type 0 = λ c. c < 128 in (
      omega (arith, p.0, length-drop (digits_len text) (after_marks text), length-drop (marks_len text) text),
      subst P (letter-in text (marks_len text) (digits_len text)) p.1,
    )

-- a format may be cut after it
pub cut_after : (text after : List ℕ) (place : ℕ) (m : Made) → 0 < length text → IsUtf8 text → after ≡ drop 1 text → Ok m ≡ made_at after
    → place ≡ letter_place after → IsCharBoundary text (place + 2)
cut_after text after place m h u is e at =
    let p = made-letter after m (sym e) in
    let place_is : letter_place after ≡ place = sym at in
    let len : length after ≡ length text - 1 = ap (λ (xs : List ℕ). length xs) is ∙ length-drop 1 text in
    let letter : get_or after (letter_place after) 0 ≡ get_or text (1 + place) 0 =
    ap (λ (n : ℕ). get_or after n 0) place_is ∙ ap (λ (xs : List ℕ). get_or xs place 0) is ∙ get_or_after_one text place 0 in
    let one : 1 + place ≡ place + 1 = omega arith in
    let P : ℕ → Type 0 = λ c. c < 128 in
    let small = subst P (letter ∙ ap (λ (n : ℕ). get_or text n 0) one) p.1 in
    let two : place + 1 + 1 ≡ place + 2 = omega arith in
    subst (λ (n : ℕ). IsCharBoundary text n) two (IsCharBoundary-after_ascii text (place + 1) u (omega (arith, p.0, len, place_is)) small)

pub percent-first : (c : ℕ) (rest : List ℕ) → c ≡ percent → next_piece (c ∷ rest) ≡ begun rest (made_at rest)
unfolding next_piece
percent-first c rest e = ap (λ (x : ℕ). next_piece (x ∷ rest)) e

pub next_fault : (text after : List ℕ) (fault : FormatFault) → 0 < length text → get_or text 0 0 ≡ percent → after ≡ drop 1 text
    → Err fault ≡ made_at after → Err fault ≡ next_piece text
next_fault [] after fault h p is e = absurd (omega arith)
next_fault (c ∷ rest) after fault h p is e =
    sym (percent-first c rest p ∙ ap (begun rest) (ap made_at (sym is) ∙ sym e))

drop-more : (place : ℕ) (c : ℕ) (rest : List ℕ) → drop (place + 2) (c ∷ rest) ≡ drop (place + 1) rest
drop-more place c rest =
    let e : place + 2 ≡ suc (place + 1) = omega arith in
    ap (λ (n : ℕ). drop n (c ∷ rest)) e

pub next_made : (text after back : List ℕ) (place : ℕ) (m : Made) → 0 < length text → get_or text 0 0 ≡ percent → after ≡ drop 1 text
    → Ok m ≡ made_at after → place ≡ letter_place after → back ≡ drop (place + 2) text → Ok (Begun m, back) ≡ next_piece text
next_made [] after back place m h p is e at left = absurd (omega arith)
next_made (c ∷ rest) after back place m h p is e at left =
    let place_is : place ≡ letter_place rest = at ∙ ap letter_place is in
    let back_is : back ≡ drop (letter_place rest + 1) rest = left ∙ drop-more place c rest ∙ ap (λ (n : ℕ). drop (n + 1) rest) place_is in
    ap (λ (xs : List ℕ). let r : Result (Piece × List ℕ) FormatFault = Ok (Begun m, xs) in r) back_is
    ∙ sym (percent-first c rest p ∙ ap (begun rest) (ap made_at (sym is) ∙ sym e))

text-by : (c : ℕ) (rest : List ℕ) (b : Bool) → is_percent c ≡ b → (text_len (c ∷ rest) ≡ 0 → ⊥)
    → next_piece (c ∷ rest) ≡ Ok (text_piece (c ∷ rest))
unfolding next_piece
text-by c rest true e no_text = absurd (no_text (rw e refl))
text-by c rest false e no_text = rw e refl

pub next_text : (text front back : List ℕ) (place : ℕ) → 0 < length text → place ≡ text_len text → (place ≡ 0 → ⊥) → front ≡ take place text
    → back ≡ drop place text → Ok (Text front, back) ≡ next_piece text
next_text [] front back place h at some f g = absurd (omega arith)
next_text (c ∷ rest) front back place h at some f g =
    let no_text : text_len (c ∷ rest) ≡ 0 → ⊥ = λ e. some (at ∙ e) in
    let same : Ok (Text front, back) ≡ Ok (text_piece (c ∷ rest)) = rw (f, g, at) refl in
    same ∙ sym (text-by c rest (is_percent c) refl no_text)

-- the byte at which text ends is a percent sign
get_or-next : (c : ℕ) (rest : List ℕ) (k : ℕ) → get_or (c ∷ rest) (1 + k) 0 ≡ get_or rest k 0
get_or-next c rest k =
    let e : 1 + k ≡ suc k = omega arith in
    ap (λ (n : ℕ). get_or (c ∷ rest) n 0) e

end-by : (c : ℕ) (rest : List ℕ) (b : Bool) → is_percent c ≡ b → text_len (c ∷ rest) < length (c ∷ rest)
    → (text_len rest < length rest → get_or rest (text_len rest) 0 ≡ percent) → get_or (c ∷ rest) (text_len (c ∷ rest)) 0 ≡ percent
end-by c rest true e h more =
    let n : text_len (c ∷ rest) ≡ 0 = rw e refl in
    let is : c ≡ percent = grind (arith, nat_tests, e) in
    ap (λ (k : ℕ). get_or (c ∷ rest) k 0) n ∙ is
end-by c rest false e h more =
    let n : text_len (c ∷ rest) ≡ 1 + text_len rest = rw e refl in
    ap (λ (k : ℕ). get_or (c ∷ rest) k 0) n ∙ get_or-next c rest (text_len rest) ∙ more (omega (arith, n))

pub text-end : (text : List ℕ) → text_len text < length text → get_or text (text_len text) 0 ≡ percent
text-end [] h = absurd (omega arith)
text-end (c ∷ rest) h = end-by c rest (is_percent c) refl h (text-end rest)

pub cut_before : (text : List ℕ) (place : ℕ) → place ≡ text_len text → IsCharBoundary text place
cut_before text place at = (
  omega (arith, at, prefix_len-le-length (λ (c : ℕ). not (is_percent c)) text),
  λ h high.
      let within : text_len text < length text = omega (arith, at) in
      let byte : get_or text place 0 ≡ percent = ap (λ (n : ℕ). get_or text n 0) at ∙ text-end text within in
      absurd (omega (arith, byte)),
)
