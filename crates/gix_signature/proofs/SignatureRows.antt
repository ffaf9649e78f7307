-- Lines that the definitions are checked on.
use Rattle.std.proofs.Common.{arith}
use Rattle.std.proofs.Common.{◌≡◌, ◌≢◌, true, false, List, ℕ, [], ◌∷◌, ◌++◌, pos, negsuc, Ok, Err, Some, refl}
use Rattle.std.specs.Fmt.{digits}
use Rattle.std.specs.Prelude.{codes}
use Rattle.gix_date.specs.Header.Reading.{header_time}
use Rattle.gix_date.specs.Header.Text.{header_text}
use Rattle.gix_date.specs.declared.time.Time.{Time}
use Rattle.gix_signature.specs.Signature.{Parts, IsCut, HasNoCut, is_allowed, are_parts, line_of, opening, closing, newline, nul}
use Rattle.gix_signature.specs.Writing.{line_due, IsWritten}
use Rattle.gix_signature.specs.declared.error.SignatureError.TheVariants.{BadPart, OffsetTooWide}
use Rattle.gix_signature.proofs.Cuts.{no-cut}
use Rattle.gix_signature.proofs.Written.{differs}

abbrev parts : List ℕ → List ℕ → List ℕ → Parts
parts name email time = record { name = name; email = email; time = time }

author : IsCut (codes "A U Thor <author@example.com> 1660874655 +0800")
    (parts (codes "A U Thor") (codes "author@example.com") (codes "1660874655 +0800"))
author = record { whole = refl; allowed = refl }

two_spaces : IsCut (codes "A  <a> 0 +0000") (parts (codes "A ") (codes "a") (codes "0 +0000"))
two_spaces = record { whole = refl; allowed = refl }

empty_name_and_mail : IsCut (codes " <> 0 +0000") (parts [] [] (codes "0 +0000"))
empty_name_and_mail = record { whole = refl; allowed = refl }

time_after_a_space : IsCut (codes "A <a>  0 +0000") (parts (codes "A") (codes "a") (codes " 0 +0000"))
time_after_a_space = record { whole = refl; allowed = refl }

return_in_the_time : IsCut (codes "A <a> 5 -0130\r") (parts (codes "A") (codes "a") (codes "5 -0130\r"))
return_in_the_time = record { whole = refl; allowed = refl }

no_time : HasNoCut (codes "A <a> ")
no_time = no-cut _ (parts (codes "A") (codes "a") []) refl refl

second_bracket : HasNoCut (codes "A <a> <b> 0 +0000")
second_bracket = no-cut _ (parts (codes "A") (codes "a") (codes "<b> 0 +0000")) refl refl

newline_after : HasNoCut (codes "A <a> 0 +0000\n")
newline_after = no-cut _ (parts (codes "A") (codes "a") (codes "0 +0000\n")) refl refl

-- each of the four, in the name, the email and the time
none : (name email time : List ℕ) → are_parts (parts name email time) ≡ false → HasNoCut (line_of (parts name email time))
none name email time bad = no-cut _ (parts name email time) refl bad

opening_in_a_part : HasNoCut (codes "A< <a> 0") × HasNoCut (codes "A <a<b> 0") × HasNoCut (codes "A <a> 0<")
opening_in_a_part = (
  none (codes "A<") (codes "a") (codes "0") refl,
  none (codes "A") (codes "a<b") (codes "0") refl,
  none (codes "A") (codes "a") (codes "0<") refl,
)

closing_in_a_part : HasNoCut (codes "A> <a> 0") × HasNoCut (codes "A <a>b> 0") × HasNoCut (codes "A <a> 0>")
closing_in_a_part = (
  none (codes "A>") (codes "a") (codes "0") refl,
  none (codes "A") (codes "a>b") (codes "0") refl,
  none (codes "A") (codes "a") (codes "0>") refl,
)

newline_in_a_part : HasNoCut (codes "A\n <a> 0") × HasNoCut (codes "A <a\nb> 0") × HasNoCut (codes "A <a> 0\n")
newline_in_a_part = (
  none (codes "A\n") (codes "a") (codes "0") refl,
  none (codes "A") (codes "a\nb") (codes "0") refl,
  none (codes "A") (codes "a") (codes "0\n") refl,
)

nul_in_a_part : HasNoCut (0 ∷ codes " <a> 0") × HasNoCut (codes "A <" ++ 0 ∷ codes "> 0") × HasNoCut (codes "A <a> " ++ 0 ∷ [])
nul_in_a_part =
    (none (0 ∷ []) (codes "a") (codes "0") refl, none (codes "A") (0 ∷ []) (codes "0") refl, none (codes "A") (codes "a") (0 ∷ []) refl)

-- every other byte may stand
only_four : (c : ℕ) → c ≢ 60 → c ≢ 62 → c ≢ 10 → c ≢ 0 → is_allowed c ≡ true
only_four c a b d e = rw (differs c opening a, differs c closing b, differs c newline d, differs c nul e) refl

-- a tab, U+00E9 and the byte 255 may stand, and NUL not
others : (is_allowed 9 ≡ true) × (is_allowed 195 ≡ true) × (is_allowed 169 ≡ true) × (is_allowed 255 ≡ true) × (is_allowed 0 ≡ false)
others = (refl, refl, refl, refl, refl)

-- What is due.
due_without_parts : line_due [] [] (record { seconds = pos 0; offset = negsuc 29 }) ≡ Ok (codes " <> 0 -0000")
unfolding header_text digits
due_without_parts = refl

bad_before_wide : line_due (codes "A<") (codes "a") (record { seconds = pos 0; offset = pos 360000 }) ≡ Err BadPart
bad_before_wide = refl

wide : line_due (codes "A") (codes "a") (record { seconds = pos 0; offset = pos 360000 }) ≡ Err OffsetTooWide
unfolding header_text digits
wide = refl

bad_email : line_due (codes "A") (codes "a\n") (record { seconds = pos 0; offset = pos 0 }) ≡ Err BadPart
bad_email = refl

-- What was written.
abbrev behind_utc : Time
behind_utc = record { seconds = pos 5; offset = negsuc 5399 }

written : (line : List ℕ) → (h : IsWritten (codes "A") (codes "a") behind_utc line)
    → (line ≡ codes "A <a> 5 -0130") × (header_time h.text ≡ Some behind_utc)
unfolding header_text digits
written line h = grind (arith)
