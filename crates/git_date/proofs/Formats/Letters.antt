-- A directive ends with an ASCII letter, so that a format may be cut after it; and before a percent sign.
use Rattle.std.proofs.Common.{◌≡◌, ◌<◌, ◌≤◌, ℕ, Bool, true, false, List, [], ◌∷◌, length, eqb, refl, arith, Option, Some, None, Ok}
use Rattle.std.proofs.lemmas.Bool.{and_parts}
use Rattle.std.proofs.lemmas.Bool.Decides.{nat_tests}
use Rattle.std.specs.Char.{is_ascii}
use Rattle.std.proofs.lemmas.List.Sums.{prefix_len-le-length}
use Rattle.std.specs.List.{list_all, prefix_len}
use Rattle.std.specs.Str.{bytes_eq}
use Rattle.git_date.specs.declared.format.directives.Directive.{Directive}
use Rattle.git_date.specs.declared.format.directives.Plain.{Plain}
use Rattle.git_date.specs.Formats.Directives.{lettered, plain_lettered, directive_lettered, plain_rows, number_rows, name_rows}
use Rattle.git_date.specs.Formats.Directives.{composite_rows}
use Rattle.git_date.specs.Formats.Pieces.{Made, made_by, plain_or_directive}

pub front_fits : (p : ℕ → Bool) (xs : List ℕ) → prefix_len p xs ≤ length xs
front_fits p xs = prefix_len-le-length p xs

differ : (letter : ℕ) (text : List ℕ) → is_ascii letter ≡ false → list_all is_ascii text ≡ true → bytes_eq (letter ∷ []) text ≡ false
differ letter [] h ascii = refl
differ letter (c ∷ more) h ascii =
    let small = (and_parts (is_ascii c) (list_all is_ascii more) ascii).0 in
    let e : eqb letter c ≡ false = grind (arith, nat_tests, small, h) in
    rw e refl

abbrev ascii_row : {A : Type 0} → List ℕ × A → Bool
ascii_row row = list_all is_ascii row.0

in-no-row : {A : Type 0} (rows : List (List ℕ × A)) (letter : ℕ) → is_ascii letter ≡ false → list_all ascii_row rows ≡ true
    → lettered rows letter ≡ None
in-no-row [] letter h all = refl
in-no-row (row ∷ rows) letter h all =
    let parts = and_parts (ascii_row row) (list_all ascii_row rows) all in
    rw (differ letter row.0 h parts.0) (in-no-row rows letter h parts.1)

no-plain : (letter : ℕ) → is_ascii letter ≡ false → plain_lettered letter ≡ None
no-plain letter h = in-no-row plain_rows letter h refl

no-directive : (letter : ℕ) → is_ascii letter ≡ false → directive_lettered letter ≡ None
no-directive letter h =
    rw (in-no-row number_rows letter h refl, in-no-row name_rows letter h refl, in-no-row composite_rows letter h refl) refl

unknown-by : (left : ℕ) (marks digits : List ℕ) (plain : Option Plain) (directive : Option Directive) (m : Made) → plain ≡ None
    → directive ≡ None
    → plain_or_directive left marks digits plain directive ≡ Ok m → ⊥
unknown-by left marks digits None None m p d e = cc
unknown-by left marks digits None (Some directive) m p d e = cc
unknown-by left marks digits (Some plain) directive m p d e = cc

ascii-by : (left : ℕ) (marks digits : List ℕ) (letter : ℕ) (m : Made) (b : Bool) → is_ascii letter ≡ b
    → made_by left marks digits letter ≡ Ok m → is_ascii letter ≡ true
ascii-by left marks digits letter m true h e = h
ascii-by left marks digits letter m false h e = absurd (unknown-by left marks digits _ _ m (no-plain letter h) (no-directive letter h) e)

pub made-ascii : (left : ℕ) (marks digits : List ℕ) (letter : ℕ) (m : Made) → made_by left marks digits letter ≡ Ok m → letter < 128
made-ascii left marks digits letter m e =
    let h = ascii-by left marks digits letter m (is_ascii letter) refl e in
    grind (arith, nat_tests, h)
