-- The lines of an object's own header.
use Rattle.std.proofs.Common.{◌≡◌, ◌≢◌, ◌∙◌, ◌<◌, ℕ, true, false, List, [], ◌∷◌, ◌++◌, length, refl, ap, append_assoc, arith}
use Rattle.std.proofs.lemmas.Bool.{ne_eqb}
use Rattle.std.proofs.lemmas.Bool.Decides.{nat_tests}
use Rattle.std.proofs.lemmas.List.Elements.{All-cons, All-head, All-nil, All-tail}
use Rattle.std.proofs.lemmas.List.Splits.{slice_split_at, slice_split_none}
use Rattle.std.proofs.lemmas.List.Sums.{take_while-cons}
use Rattle.std.specs.List.{flat_map}
use Rattle.std.specs.Prelude.{All, take_while}
use Rattle.gix_date.specs.Text.Characters.{newline}
use Rattle.streams.specs.Lines.{IsLine, with_newline}
use Rattle.gix_signature.specs.Ident.Bytes.{is_newline}
use Rattle.git_ident_tool.specs.Judging.{IsFilledLine}
use Rattle.gix_signature.specs.Objects.{is_filled, own_header}

-- no byte of a line is a newline
no-newline : (line : List ℕ) → IsLine line → All (λ c. is_newline c ≡ false) line
no-newline [] h = All-nil (λ c. is_newline c ≡ false)
no-newline (c ∷ line) h =
    All-cons (λ x. is_newline x ≡ false) c line (ne_eqb c newline (All-head (λ b. b ≢ newline) c line h))
    (no-newline line (All-tail (λ b. b ≢ newline) c line h))

filled : (line : List ℕ) → 0 < length line → is_filled line ≡ true
filled line h = grind (arith, nat_tests, h)

-- a line with a byte is the first
first-line : (line : List ℕ) (parts : List (List ℕ)) → 0 < length line
    → take_while is_filled (line ∷ parts) ≡ line ∷ take_while is_filled parts
first-line line parts h = grind (arith, take_while-cons, filled)

pub own-line : (line rest : List ℕ) → IsFilledLine line → own_header (with_newline line ++ rest) ≡ line ∷ own_header rest
own-line line rest h = grind (arith, append_assoc, slice_split_at, no-newline, first-line)

-- the lines that stand at the front
pub own-lines : (lines : List (List ℕ)) (rest : List ℕ) → All IsFilledLine lines
    → own_header (flat_map with_newline lines ++ rest) ≡ lines ++ own_header rest
own-lines [] rest h = refl
own-lines (line ∷ lines) rest h =
    ap own_header (append_assoc (with_newline line) (flat_map with_newline lines) rest)
    ∙ own-line line (flat_map with_newline lines ++ rest) (All-head IsFilledLine line lines h)
    ∙ ap (λ more. line ∷ more) (own-lines lines rest (All-tail IsFilledLine line lines h))

-- a line that no newline ends is the last, if it has a byte
pub own-last : (line : List ℕ) → IsFilledLine line → own_header line ≡ line ∷ []
own-last line h = ap (take_while is_filled) (slice_split_none is_newline line (no-newline line h.0)) ∙ first-line line [] h.1
