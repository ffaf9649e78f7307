-- Fields that are written so are read.
use Rattle.std.proofs.Common.{◌≡◌, ◌∙◌, ℕ, Bool, true, false, List, [], ◌∷◌, ◌++◌, length, refl, ap, sym, Option, Some, None, append_assoc}
use Rattle.std.proofs.Common.{arith, ℤ, inl, inr}
use Rattle.std.proofs.Math.Seq.{drop-append_seam}
use Rattle.std.proofs.lemmas.Bool.{and_parts as both}
use Rattle.std.proofs.lemmas.Bool.Decides.{nat_tests}
use Rattle.std.specs.Prelude.{◌==◌, nat_lt}
use Rattle.std.specs.Char.{is_ascii_digit, is_ascii_alphabetic}
use Rattle.std.specs.List.{prefix_len, list_all}
use Rattle.gix_date.specs.Text.Characters.{colon, space, is_space}
use Rattle.gix_date.specs.Fields.FieldTexts.{IsField, IsYear, AreSpaces, AreThreeLetters, IsDayName, IsMonthName, IsPlainDate, IsClock}
use Rattle.gix_date.specs.Fields.FieldTexts.{IsRfc2822Clock, IsDayPrefix}
use Rattle.gix_date.specs.Text.Front.{skip_char}
use Rattle.gix_date.specs.Text.Numbers.{read_two_digits, read_digit, read_field, read_year}
use Rattle.gix_date.specs.Fields.Offsets.{offset_fields, read_sign}
use Rattle.gix_date.specs.Fields.DateFields.{skip_day_name, skip_spaces, read_name, read_month, skip_weekday, read_plain_date, read_minutes}
use Rattle.gix_date.specs.Fields.DateFields.{read_second, read_clock, read_rfc2822_clock}
use Rattle.gix_date.specs.Fields.DateOffsets.{compact_offset, strict_offset, rfc2822_zone, rfc2822_offset, named_zone}
use Rattle.gix_date.specs.declared.clock.ClockFields.{ClockFields}
use Rattle.gix_date.specs.declared.clock.DateFields.{DateFields}

-- What begins with such a character, and what does not begin with one.
abbrev pub Begins : (ℕ → Bool) → List ℕ → Type 0
Begins test [] = ⊥
Begins test (c ∷ t) = test c ≡ true

abbrev pub BeginsNot : (ℕ → Bool) → List ℕ → Type 0
BeginsNot test [] = Unit {0}
BeginsNot test (c ∷ t) = test c ≡ false

pub begins-append : (test : ℕ → Bool) (t rest : List ℕ) → Begins test t → Begins test (t ++ rest)
begins-append test [] rest h = absurd h
begins-append test (c ∷ t) rest h = h

-- a test that fails wherever another holds
abbrev pub Excludes : (ℕ → Bool) → (ℕ → Bool) → Type 0
Excludes one other = (c : ℕ) → one c ≡ true → other c ≡ false

pub begins_not : (one other : ℕ → Bool) (t : List ℕ) → Excludes one other → Begins one t → BeginsNot other t
begins_not one other [] x h = absurd h
begins_not one other (c ∷ t) x h = x c h

pub digit-no-space : Excludes is_ascii_digit is_space
digit-no-space c h = grind (arith, nat_tests, h)

pub letter-no-space : Excludes is_ascii_alphabetic is_space
letter-no-space c h = grind (arith, nat_tests, h)

pub letter-no-digit : Excludes is_ascii_alphabetic is_ascii_digit
letter-no-digit c h = grind (arith, nat_tests, h)

pub space-no-digit : Excludes is_space is_ascii_digit
space-no-digit c h = grind (arith, nat_tests, h)

pub digit-no-letter : Excludes is_ascii_digit is_ascii_alphabetic
digit-no-letter c h = grind (arith, nat_tests, h)

pub field-begins : (t : List ℕ) (n : ℕ) → IsField t n → Begins is_ascii_digit t
field-begins (a ∷ []) n h = h.0
field-begins (a ∷ b ∷ []) n h = h.0
field-begins t n h = absurd h

pub year-begins : (t : List ℕ) (n : ℕ) → IsYear t n → Begins is_ascii_digit t
year-begins (a ∷ b ∷ c ∷ d ∷ []) n h = h.0
year-begins t n h = absurd h

pub name-begins : (t : List ℕ) → AreThreeLetters t → Begins is_ascii_alphabetic t
name-begins (a ∷ b ∷ c ∷ []) h = grind (arith, both)
name-begins t h = absurd h

pub spaces-begin : (t : List ℕ) → AreSpaces t → Begins is_space t
spaces-begin [] h = absurd h
spaces-begin (c ∷ t) h = h.0

found : ℕ → List ℕ → Option (ℕ × List ℕ)
found n rest = Some (n, rest)

pub field-read : (t rest : List ℕ) (n : ℕ) → IsField t n → BeginsNot is_ascii_digit rest → read_field (t ++ rest) ≡ Some (n, rest)
unfolding read_field read_two_digits read_digit found
field-read (a ∷ []) [] n h s = rw h.0 (ap (λ k. found k []) (sym h.1))
field-read (a ∷ []) (c ∷ rs) n h s = rw (h.0, s) (ap (λ k. found k (c ∷ rs)) (sym h.1))
field-read (a ∷ b ∷ []) rest n h s = rw (h.0, h.1) (ap (λ k. found k rest) (sym h.2))
field-read t rest n h s = absurd h

pub year-read : (t rest : List ℕ) (n : ℕ) → IsYear t n → read_year (t ++ rest) ≡ Some (n, rest)
unfolding read_year read_two_digits found
year-read (a ∷ b ∷ c ∷ d ∷ []) rest n h = rw (h.0, h.1, h.2, h.3) (ap (λ k. found k rest) (sym h.4))
year-read t rest n h = absurd h

spaces_len : (gap rest : List ℕ) → list_all is_space gap ≡ true → BeginsNot is_space rest → prefix_len is_space (gap ++ rest) ≡ length gap
spaces_len [] [] h s = refl
spaces_len [] (c ∷ t) h s = rw s refl
spaces_len (c ∷ gap) rest h s =
    let parts = both (is_space c) (list_all is_space gap) h in
    rw parts.0 (omega (arith, spaces_len gap rest parts.1 s))

pub spaces-read : (gap rest : List ℕ) → AreSpaces gap → BeginsNot is_space rest → skip_spaces (gap ++ rest) ≡ Some rest
unfolding skip_spaces
spaces-read [] rest h s = absurd h
spaces-read (c ∷ gap) rest h s =
    let len : prefix_len is_space ((c ∷ gap) ++ rest) ≡ length (c ∷ gap) = spaces_len (c ∷ gap) rest (rw h.0 h.1) s in
    let some : nat_lt 0 (length (c ∷ gap)) ≡ true = grind (arith, nat_tests) in
    rw (len, some) (ap Some (drop-append_seam gap rest))

pub name-read : (t rest : List ℕ) → AreThreeLetters t → read_name (t ++ rest) ≡ Some (t, rest)
unfolding read_name
name-read (a ∷ b ∷ c ∷ []) rest h = rw h refl
name-read t rest h = absurd h

pub month-read : (t rest : List ℕ) (month : ℕ) → IsMonthName t month → read_month (t ++ rest) ≡ Some (month, rest)
unfolding read_month
month-read t rest month h = rw (name-read t rest h.0, h.1) refl

pub weekday-read : (t rest : List ℕ) → IsDayName t → skip_weekday (t ++ rest) ≡ Some rest
unfolding skip_weekday
weekday-read t rest h = rw (name-read t rest h.0, h.1) refl

pub date-read : (t rest : List ℕ) (date : DateFields) → IsPlainDate t date → BeginsNot is_ascii_digit rest
    → read_plain_date (t ++ rest) ≡ Some (date, rest)
unfolding read_plain_date skip_char
date-read t rest date h s = grind (arith, append_assoc, year-read, field-read)

pub prefix-read : (t rest : List ℕ) → IsDayPrefix t → BeginsNot is_space rest → skip_day_name (t ++ rest) ≡ Some rest
unfolding skip_day_name skip_char
prefix-read t rest h s = grind (arith, append_assoc, weekday-read, spaces-read)

-- no name of a day stands before a digit
pub no-prefix : (t : List ℕ) → Begins is_ascii_digit t → skip_day_name t ≡ None
unfolding skip_day_name skip_weekday read_name
no-prefix [] h = absurd h
no-prefix (a ∷ b ∷ c ∷ t) h = rw (digit-no-letter a h) refl
no-prefix t h = refl

abbrev minutes : ℕ → ℕ → ClockFields
minutes hour minute = record { hour = hour; minute = minute; second = 0 }

with_second : ℕ → ℕ → List ℕ → ℕ → Option (ClockFields × List ℕ)
with_second hour minute rest second = Some (record { hour = hour; minute = minute; second = second }, rest)

pub clock-read : (t rest : List ℕ) (clock : ClockFields) → IsClock t clock → BeginsNot is_ascii_digit rest
    → read_clock (t ++ rest) ≡ Some (clock, rest)
unfolding read_clock read_minutes read_second skip_char with_second
clock-read t rest clock h s = grind (arith, append_assoc, field-read, with_second)

-- what no second stands after
abbrev pub NoColon : List ℕ → Type 0
NoColon t = BeginsNot (λ c. c == colon) t

no-second : (clock : ClockFields) (t : List ℕ) → NoColon t → read_second clock t ≡ None
unfolding read_second skip_char
no-second clock [] h = refl
no-second clock (c ∷ t) h = rw h refl

second-read : {t : List ℕ} {clock : ClockFields} (h : IsClock t clock) (rest : List ℕ) → BeginsNot is_ascii_digit rest
    → read_second (minutes clock.hour clock.minute) (colon ∷ (h.second ++ rest)) ≡ Some (clock, rest)
unfolding read_second skip_char with_second
second-read {clock = clock} h rest s = grind (arith, field-read, with_second)

pub rfc2822-clock-read : (t rest : List ℕ) (clock : ClockFields) → IsRfc2822Clock t clock → BeginsNot is_ascii_digit rest → NoColon rest
    → read_rfc2822_clock (t ++ rest) ≡ Some (clock, rest)
unfolding read_rfc2822_clock read_minutes skip_char with_second
rfc2822-clock-read t rest clock (inl h) s e =
    let split : t ++ rest ≡ h.hour ++ (colon ∷ (h.minute ++ (colon ∷ (h.second ++ rest)))) = rw h.whole (simp append_assoc) in
    let second : read_second (minutes clock.hour clock.minute) (colon ∷ (h.second ++ rest)) ≡ Some (clock, rest) = second-read h rest s in
    ap read_rfc2822_clock split ∙ rw (
      field-read h.hour (colon ∷ (h.minute ++ (colon ∷ (h.second ++ rest)))) clock.hour h.is_hour refl,
      field-read h.minute (colon ∷ (h.second ++ rest)) clock.minute h.is_minute refl,
      second,
    ) refl
rfc2822-clock-read t rest clock (inr h) s e = grind (arith, append_assoc, field-read, no-second, with_second)

pub is-space : (c : ℕ) → is_space c ≡ true → c ≡ space
is-space c h = grind (arith, nat_tests, h)

-- no offset begins with a space
space_no_compact : (t : List ℕ) → compact_offset (space ∷ t) ≡ None
unfolding compact_offset offset_fields read_sign skip_char
space_no_compact t = refl

space_no_rfc2822 : (t : List ℕ) → rfc2822_zone (space ∷ t) ≡ None
unfolding rfc2822_zone rfc2822_offset named_zone offset_fields read_sign skip_char
space_no_rfc2822 t = refl

never : (zone : List ℕ → Option ℤ) (c : ℕ) (t : List ℕ) (offset : ℤ) (b : Bool) → ((t : List ℕ) → zone (space ∷ t) ≡ None) → is_space c ≡ b
    → zone (c ∷ t) ≡ Some offset → b ≡ false
never zone c t offset false refused e h = refl
never zone c t offset true refused e h = grind (arith, is-space)

zone-no-space : (zone : List ℕ → Option ℤ) → ((t : List ℕ) → zone (space ∷ t) ≡ None) → (t : List ℕ) (offset : ℤ) → zone t ≡ Some offset
    → BeginsNot is_space t
zone-no-space zone refused [] offset h = tt
zone-no-space zone refused (c ∷ t) offset h = never zone c t offset (is_space c) refused refl h

pub compact-no-space : (t : List ℕ) (offset : ℤ) → compact_offset t ≡ Some offset → BeginsNot is_space t
compact-no-space = zone-no-space compact_offset space_no_compact

pub rfc2822-no-space : (t : List ℕ) (offset : ℤ) → rfc2822_zone t ≡ Some offset → BeginsNot is_space t
rfc2822-no-space = zone-no-space rfc2822_zone space_no_rfc2822

-- nor with a digit
digit_no_strict : (c : ℕ) (t : List ℕ) → is_ascii_digit c ≡ true → strict_offset (c ∷ t) ≡ None
unfolding strict_offset read_sign skip_char
digit_no_strict c t h = grind (arith, nat_tests)

never-digit : (c : ℕ) (t : List ℕ) (offset : ℤ) (b : Bool) → is_ascii_digit c ≡ b → strict_offset (c ∷ t) ≡ Some offset → b ≡ false
never-digit c t offset false e h = refl
never-digit c t offset true e h = grind (arith, digit_no_strict)

pub strict-no-digit : (t : List ℕ) (offset : ℤ) → strict_offset t ≡ Some offset → BeginsNot is_ascii_digit t
strict-no-digit [] offset h = tt
strict-no-digit (c ∷ t) offset h = never-digit c t offset (is_ascii_digit c) refl h

-- what a clock or a date begins with
pub clock-begins : (t rest : List ℕ) (clock : ClockFields) → IsClock t clock → Begins is_ascii_digit (t ++ rest)
clock-begins t rest clock h = grind (arith, append_assoc, begins-append, field-begins)

pub rfc2822-clock-begins : (t rest : List ℕ) (clock : ClockFields) → IsRfc2822Clock t clock → Begins is_ascii_digit (t ++ rest)
rfc2822-clock-begins t rest clock (inl h) = clock-begins t rest clock h
rfc2822-clock-begins t rest clock (inr h) = grind (arith, append_assoc, begins-append, field-begins)

-- what may stand after spaces, and after a field
pub digit-front : (t rest : List ℕ) → Begins is_ascii_digit t → BeginsNot is_space (t ++ rest)
digit-front t rest h = begins_not is_ascii_digit is_space (t ++ rest) digit-no-space (begins-append is_ascii_digit t rest h)

pub name-front : (t rest : List ℕ) → AreThreeLetters t → BeginsNot is_space (t ++ rest)
name-front t rest h = grind (arith, begins_not, letter-no-space, begins-append, name-begins)

pub gap-front : (t rest : List ℕ) → AreSpaces t → BeginsNot is_ascii_digit (t ++ rest)
gap-front t rest h = begins_not is_space is_ascii_digit (t ++ rest) space-no-digit (begins-append is_space t rest (spaces-begin t h))

space-no-colon : Excludes is_space (λ c. c == colon)
space-no-colon c h = grind (arith, nat_tests, h)

pub gap-no-colon : (t rest : List ℕ) → AreSpaces t → NoColon (t ++ rest)
gap-no-colon t rest h = begins_not is_space (λ c. c == colon) (t ++ rest) space-no-colon (begins-append is_space t rest (spaces-begin t h))
