-- Identity lines as most are.
use Rattle.std.specs.Prelude.{◌≡◌, ℕ, ◌+◌, Bool, true, false, not, ◌&&◌, nat_lt, List, [], ◌∷◌, ◌++◌, length, codes, Some, None}
use Rattle.std.specs.Char.{is_ascii_digit}
use Rattle.std.specs.List.{list_all}
use Rattle.gix_date.specs.Text.Characters.{space}
use Rattle.gix_signature.specs.Signature.{is_part, opening, closing}
use Rattle.gix_signature.specs.Ident.Bytes.{is_blank}
use Rattle.gix_signature.specs.Ident.Again.{is_line_of}
use Rattle.gix_signature.specs.Ident.Texts.{whole_line, without_end}
use Rattle.gix_signature.specs.Ident.Parts.{DateText, IdentText, date_text_of, ident_parts, ident_places}
use Rattle.gix_signature.specs.declared.ident.usual.UsualLine.{UsualLine}
use Rattle.gix_signature.specs.Ident.Fsck.{fsck_of, is_fsck_zone, is_zero}
use Rattle.gix_signature.specs.declared.ident.IdentPlaces.{IdentPlaces}

-- the most digits of the seconds
abbrev pub most_digits : ℕ
most_digits = 18

-- digits without a needless zero at the front, and not too many
abbrev pub is_usual_number : List ℕ → Bool
is_usual_number [] = false
is_usual_number (c ∷ []) = true
is_usual_number (c ∷ more) = not (is_zero c) && nat_lt (length (c ∷ more)) (most_digits + 1)

-- a date of such digits, a space, a sign and four digits
pub record IsUsualDate (date : List ℕ) (parts : DateText) : Type 0 where
  pub whole : date ≡ parts.seconds ++ (space ∷ parts.offset)
  pub digits : list_all is_ascii_digit parts.seconds ≡ true
  pub number : is_usual_number parts.seconds ≡ true
  pub zone : is_fsck_zone parts.offset ≡ true

-- the parts of a line: a name that no blank ends, a space, `<`, an email, `>`, a space and such a date
pub record AreUsualParts (line : List ℕ) (u : UsualLine) : Type 0 where
  pub whole : line ≡ (u.name.now ++ (space ∷ [])) ++ (opening ∷ u.inside.now)
  pub front : is_part (u.name.now ++ (space ∷ [])) ≡ true
  pub ends : without_end is_blank u.name.now ≡ u.name.now
  pub inside : u.inside.now ≡ u.email.now ++ (closing ∷ u.rest.now)
  pub email : is_part u.email.now ≡ true
  pub rest : u.rest.now ≡ codes " " ++ u.date.now
  pub date : IsUsualDate u.date.now (date_text_of u.parts)

-- the line has these parts at these places, `git fsck` says nothing of it, and it is the line that is written of these parts
pub record IsToldOf (line : List ℕ) (i : IdentText) (at : IdentPlaces) : Type 0 where
  pub parts : ident_parts line ≡ Some i
  pub places : at ≡ ident_places line
  pub clean : fsck_of line ≡ None
  pub back : is_line_of (whole_line line) i ≡ true
