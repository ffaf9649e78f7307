-- What is told of a line as most are.
use Rattle.std.proofs.Common.{◌≡◌, ◌∙◌, ℕ, ◌+◌, ◌-◌, ◌<◌, ◌≤◌, Bool, true, false, not, ◌&&◌, ◌==◌, List, [], ◌∷◌, ◌++◌}
use Rattle.std.proofs.Common.{length, take, drop, get_or}
use Rattle.std.proofs.Common.{Some, None, refl, ap, ap₂, sym, subst, arith}
use Rattle.std.proofs.lemmas.Bool.{and_from, and_parts}
use Rattle.std.proofs.lemmas.Bool.Decides.{nat_tests}
use Rattle.std.proofs.lemmas.Str.Parse.{digits_value_short}
use Rattle.gix_date.proofs.Text.Ints.{own}
use Rattle.std.proofs.lemmas.List.{length-drop, take-append-drop, take_all}
use Rattle.std.proofs.lemmas.Grind.{take_at_read}
use Rattle.std.proofs.lemmas.List.Folds.{list_all-append}
use Rattle.std.specs.Char.{is_ascii_digit}
use Rattle.std.specs.List.{list_all, list_any, position_or_len, after_first}
use Rattle.std.specs.Prelude.{codes, nat_lt}
use Rattle.std.specs.Str.Parse.{digits_value}
use Rattle.gix_date.proofs.Text.AsciiCuts.{all-append}
use Rattle.gix_date.specs.Text.Characters.{space}
use Rattle.gix_signature.specs.Signature.{is_allowed, is_part, line_of, opening, closing}
use Rattle.gix_signature.specs.Ident.Bytes.{is_opening, is_closing, is_blank, is_sign}
use Rattle.gix_signature.specs.Ident.Texts.{whole_line, without_end, begins_with}
use Rattle.gix_signature.specs.Ident.Parts.{DateText, date_text_of, ident_parts, line_places, ident_places, date_text}
use Rattle.gix_signature.specs.Ident.Parts.{after_seconds}
use Rattle.gix_signature.specs.Ident.Times.{too_many_seconds, git_time, git_time_text}
use Rattle.gix_signature.specs.Ident.Again.{is_line_of, line_as_is}
use Rattle.gix_signature.specs.Ident.Fsck.{fsck_of, is_fsck_zone, is_zero}
use Rattle.gix_signature.specs.Ident.Usual.{AreUsualParts, IsUsualDate, IsToldOf, is_usual_number}
use Rattle.gix_signature.specs.declared.ident.usual.UsualLine.{UsualLine}
use Rattle.gix_signature.specs.declared.ident.IdentPlaces.{IdentPlaces}
use Rattle.gix_signature.proofs.Cuts.{ArePlain, all-of, marked}
use Rattle.gix_signature.proofs.Idents.Shown.{Cut, after-at, end-stays, no-closing}
use Rattle.gix_signature.proofs.Texts.{place_within}
use Rattle.gix_signature.proofs.DateTexts.{IsDate, zone-next}
use Rattle.std.proofs.lemmas.Slice.Eq.{bytes_eq-Decides}
use Rattle.std.specs.Str.{bytes_eq}
use Rattle.gix_signature.proofs.Idents.UsualDates.{are-pairs, usual-back}
use Rattle.gix_signature.proofs.Idents.Passing.{cut, tail, shown, no-message, is_whole}

abbrev text_of : List ℕ → List ℕ → DateText
text_of seconds offset = record { seconds = seconds; offset = offset }

-- a sign and four digits
pub record IsZone (s : ℕ) (zs : List ℕ) : Type 0 where
  pub sign : is_sign s ≡ true
  pub digits : list_all is_ascii_digit zs ≡ true
  pub four : length zs ≡ 4

zone-is : (s : ℕ) (zs : List ℕ) → is_fsck_zone (s ∷ zs) ≡ true → IsZone s zs
zone-is s zs h =
    let outer = and_parts (is_sign s && (length (s ∷ zs) == 5)) (list_all is_ascii_digit zs) h in
    let inner = and_parts (is_sign s) (length (s ∷ zs) == 5) outer.0 in
    record { sign = inner.0; digits = outer.1; four = grind (arith, nat_tests, inner.1) }

some-digit : (zs : List ℕ) → length zs ≡ 4 → list_all is_ascii_digit zs ≡ true → begins_with is_ascii_digit zs ≡ true
some-digit [] e h = absurd (omega (arith, e))
some-digit (z ∷ zs) e h = (and_parts (is_ascii_digit z) (list_all is_ascii_digit zs) h).0

-- digits have a value below 2^63 if they are at most 18
small-value : (xs : List ℕ) → list_all is_ascii_digit xs ≡ true → length xs ≤ 18 → digits_value 10 xs < too_many_seconds
small-value xs h short = omega (arith, digits_value_short own xs 18 h short)

-- what stands of the digits
pub record IsNumber (d : ℕ) (ds : List ℕ) : Type 0 where
  pub alone : is_zero d ≡ true → ds ≡ []
  pub short : length (d ∷ ds) ≤ 18

not-true : (b : Bool) → not b ≡ true → b ≡ true → ⊥
not-true b h k = grind arith

number-is : (d : ℕ) (ds : List ℕ) → is_usual_number (d ∷ ds) ≡ true → IsNumber d ds
number-is d [] h = record { alone = λ z. refl; short = omega arith }
number-is d (e ∷ ds) h =
    let each = and_parts (not (is_zero d)) (nat_lt (length (d ∷ (e ∷ ds))) 19) h in
    record { alone = λ z. absurd (not-true (is_zero d) each.0 z); short = grind (arith, nat_tests, each.1) }

date-of : (d : ℕ) (ds : List ℕ) (s : ℕ) (zs : List ℕ) → list_all is_ascii_digit (d ∷ ds) ≡ true → IsNumber d ds → IsZone s zs
    → IsDate (digits_value 10 (d ∷ ds)) d ds s zs
date-of d ds s zs h number zone =
    let each = and_parts (is_ascii_digit d) (list_all is_ascii_digit ds) h in
    record {
      digit = each.0;
      digits = each.1;
      alone = number.alone;
      value = refl;
      small = small-value (d ∷ ds) h number.short;
      sign = zone.sign;
      zone = zone.digits;
      some = some-digit zs zone.four zone.digits;
    }

-- the last byte of a text tells that no blank ends it
pub plain_end : (text : List ℕ) (n : ℕ) → (length text == 0) ≡ false → n ≡ length text - 1 → 32 < get_or text n 0
    → without_end is_blank text ≡ text
plain_end text n some at above =
    let i = length text - 1 in
    let room : i < length text = grind (arith, nat_tests, some) in
    let c = get_or text i 0 in
    let same : get_or text n 0 ≡ c = ap (λ k. get_or text k 0) at in
    let no-blank : is_blank c ≡ false = grind (arith, nat_tests, same, above) in
    let whole : take i text ++ (c ∷ []) ≡ text = sym (take_at_read text i 0 room).1 ∙ take_all (i + 1) text (omega arith) in
    subst (λ xs. without_end is_blank xs ≡ xs) whole (end-stays is_blank (take i text) c no-blank)

pub date_is : (date seconds rest offset : List ℕ) (n : ℕ) → list_all is_ascii_digit (take n date) ≡ true → seconds ≡ take n date
    → rest ≡ drop n date
    → rest ≡ codes " " ++ offset → is_usual_number seconds ≡ true → is_fsck_zone offset ≡ true
    → IsUsualDate date (record { seconds = seconds; offset = offset })
date_is date seconds rest offset n are is_seconds is_rest after number zone =
    record {
      whole = sym (take-append-drop n date) ∙ ap₂ (λ a b. a ++ b) (sym is_seconds) (sym is_rest ∙ after);
      digits = ap (λ l. list_all is_ascii_digit l) is_seconds ∙ are;
      number = number;
      zone = zone;
    }

-- the places of a line of these parts
module _ (name email : List ℕ) (d : ℕ) (ds : List ℕ) (s : ℕ) (zs : List ℕ) (h : list_all is_ascii_digit (d ∷ ds) ≡ true)
    (number : IsNumber d ds) (zone : IsZone s zs) (a : is_part name ≡ true) (b : is_part email ≡ true) where
  abbrev date : List ℕ
  date = d ∷ (ds ++ (32 ∷ (s ∷ zs)))

  abbrev line : List ℕ
  line = line_of (record { name = name; email = email; time = date })

  is : IsDate (digits_value 10 (d ∷ ds)) d ds s zs
  is = date-of d ds s zs h number zone

  digits-stand : (xs : List ℕ) → list_all is_ascii_digit xs ≡ true → is_part xs ≡ true
  digits-stand = all-of is_ascii_digit is_allowed (λ c k. grind (arith, nat_tests, k))

  sign-stands : (c : ℕ) → is_sign c ≡ true → is_allowed c ≡ true
  sign-stands c k = grind (arith, nat_tests, k)

  plain : ArePlain (record { name = name; email = email; time = date })
  plain =
      record {
        name = a;
        email = b;
        time =
            all-append is_allowed (d ∷ ds) (32 ∷ (s ∷ zs)) (digits-stand (d ∷ ds) h)
            (and_from (is_allowed 32) (is_part (s ∷ zs)) refl
            (and_from (is_allowed s) (is_part zs) (sign-stands s zone.sign) (digits-stand zs zone.digits)));
      }

  the-cut : Cut line (record { name = name; email = email; time = date })
  the-cut = cut name email (digits_value 10 (d ∷ ds)) d ds s zs is plain

  inside : after_first is_opening line ≡ email ++ (closing ∷ (32 ∷ date))
  inside = the-cut.rest

  rest : after_first is_closing (after_first is_opening line) ≡ 32 ∷ date
  rest = ap (λ l. after_first is_closing l) inside ∙ after-at is_closing email (32 ∷ date) closing (no-closing email b) refl

  opens : position_or_len is_opening line + 1 ≡ length line - length (email ++ (closing ∷ (32 ∷ date)))
  opens =
      let len = ap (λ (l : List ℕ). length l) inside in
      let has : list_any is_opening line ≡ true = (and_parts (list_any is_opening line) _ the-cut.has).0 in
      let room : position_or_len is_opening line < length line = grind (arith, nat_tests, place_within is_opening line, has) in
      omega (arith, len, room, length-drop (position_or_len is_opening line + 1) line)

  abbrev at : ℕ → ℕ → ℕ → ℕ → IdentPlaces
  at e r n o = record { email = e; rest = r; seconds = n; offset = o; end = length line }

  dated-so : date_text line ≡ date
  dated-so = tail name email (digits_value 10 (d ∷ ds)) d ds s zs is plain

  offset-so : after_seconds (date_text line) ≡ s ∷ zs
  offset-so = ap after_seconds dated-so ∙ zone-next (digits_value 10 (d ∷ ds)) d ds s zs is

  places-are : line_places line
      ≡ at (length line - length (email ++ (closing ∷ (32 ∷ date)))) (length line - length (32 ∷ date)) (length line - length date)
      (length line - length (s ∷ zs))
  places-are =
      ap₂ (λ e r. at e r (length line - length (date_text line)) (length line - length (after_seconds (date_text line)))) opens
      (ap (λ l. length line - length l) rest)
      ∙ ap₂ (λ n o. at (length line - length (email ++ (closing ∷ (32 ∷ date)))) (length line - length (32 ∷ date)) n o)
      (ap (λ l. length line - length l) dated-so) (ap (λ l. length line - length l) offset-so)

  comes-back : is_line_of (whole_line line) (record { name = name; email = email; date = Some (text_of (d ∷ ds) (s ∷ zs)) }) ≡ true
  comes-back =
      let t = git_time (text_of (d ∷ ds) (s ∷ zs)) in
      let same : git_time_text t ≡ date = usual-back d ds s zs h number.alone is.small zone.sign (are-pairs zs zone.four zone.digits) in
      let equal = (bytes_eq-Decides (whole_line line) (line_as_is name email t)).1
      (is_whole name email (digits_value 10 (d ∷ ds)) d ds s zs is plain
      ∙ ap (λ x. line_of (record { name = name; email = email; time = x })) (sym same)) in
      and_from (is_part name && is_part email) (bytes_eq (whole_line line) (line_as_is name email t))
      (and_from (is_part name) (is_part email) a b) equal

  told-so : without_end is_blank name ≡ name
      → IsToldOf line (record { name = name; email = email; date = Some (text_of (d ∷ ds) (s ∷ zs)) }) (record {
        email = length line - length (email ++ (closing ∷ (32 ∷ date)));
        rest = length line - length (32 ∷ date);
        seconds = length line - length date;
        offset = length line - length (s ∷ zs);
        end = length line;
      })
  told-so ends =
      let n = digits_value 10 (d ∷ ds) in
      record {
        parts =
            shown name email n d ds s zs is plain
            ∙ ap (λ x. Some (record { name = x; email = email; date = Some (text_of (d ∷ ds) (s ∷ zs)) })) ends;
        places = sym (ap line_places (is_whole name email n d ds s zs is plain) ∙ places-are);
        clean = no-message name email n d ds s zs is plain zone.four;
        back = comes-back;
      }

-- a part of more is a part
front-part : (name : List ℕ) → is_part (name ++ (32 ∷ [])) ≡ true → is_part name ≡ true
front-part name h = (and_parts (is_part name) (is_part (32 ∷ [])) (sym (list_all-append is_allowed name (32 ∷ [])) ∙ h)).0

abbrev Told : (name email rest date seconds offset : List ℕ) → List ℕ → Type 0
Told name email rest date seconds offset line =
    IsToldOf line (record { name = name; email = email; date = Some (text_of seconds offset) }) (record {
      email = length line - length (email ++ (closing ∷ rest));
      rest = length line - length rest;
      seconds = length line - length date;
      offset = length line - length offset;
      end = length line;
    })

told-by : (name email seconds offset : List ℕ) → list_all is_ascii_digit seconds ≡ true → is_usual_number seconds ≡ true
    → is_fsck_zone offset ≡ true → is_part name ≡ true → is_part email ≡ true → without_end is_blank name ≡ name
    → Told name email (32 ∷ (seconds ++ (32 ∷ offset))) (seconds ++ (32 ∷ offset)) seconds offset
    (line_of (record { name = name; email = email; time = seconds ++ (32 ∷ offset) }))
told-by name email [] offset h number zone a b ends = absurd cc
told-by name email (d ∷ ds) [] h number zone a b ends = absurd cc
told-by name email (d ∷ ds) (s ∷ zs) h number zone a b ends =
    told-so name email d ds s zs h (number-is d ds number) (zone-is s zs zone) a b ends

told : (line : List ℕ) (u : UsualLine) → AreUsualParts line u
    → IsToldOf line (record { name = u.name.now; email = u.email.now; date = Some (date_text_of u.parts) }) (record {
      email = length line - length u.inside.now;
      rest = length line - length u.rest.now;
      seconds = length line - length u.date.now;
      offset = length line - length u.parts.offset.now;
      end = length line;
    })
told line u are =
    let name = u.name.now in
    let email = u.email.now in
    let parts = date_text_of u.parts in
    let is = are.date in
    let tail = parts.seconds ++ (32 ∷ parts.offset) in
    let date_line = line_of (record { name = name; email = email; time = tail }) in
    let whole : line ≡ date_line =
    are.whole
    ∙ ap (λ y. (name ++ (space ∷ [])) ++ (opening ∷ y))
    (are.inside ∙ ap (λ l. email ++ (closing ∷ l)) (are.rest ∙ ap (λ l. 32 ∷ l) is.whole))
    ∙ sym (marked name (email ++ (closing ∷ (32 ∷ tail)))) in
    let so = told-by name email parts.seconds parts.offset is.digits is.number is.zone (front-part name are.front) are.email are.ends in
    let by-date : Told name email u.rest.now u.date.now parts.seconds parts.offset date_line =
    subst (λ l. Told name email l u.date.now parts.seconds parts.offset date_line) (sym are.rest)
    (subst (λ l. Told name email (32 ∷ l) l parts.seconds parts.offset date_line) (sym is.whole) so) in
    subst (λ l. IsToldOf line (record { name = name; email = email; date = Some parts }) (record {
      email = length line - length l;
      rest = length line - length u.rest.now;
      seconds = length line - length u.date.now;
      offset = length line - length parts.offset;
      end = length line;
    })) (sym are.inside) (subst (λ l. Told name email u.rest.now u.date.now parts.seconds parts.offset l) (sym whole) by-date)

pub told_parts : (line : List ℕ) (u : UsualLine) → AreUsualParts line u
    → ident_parts line ≡ Some (record { name = u.name.now; email = u.email.now; date = Some (date_text_of u.parts) })
told_parts line u are = (told line u are).parts

pub told_places : (line : List ℕ) (u : UsualLine) → AreUsualParts line u
    → record {
      email = length line - length u.inside.now;
      rest = length line - length u.rest.now;
      seconds = length line - length u.date.now;
      offset = length line - length u.parts.offset.now;
      end = length line;
    }
    ≡ ident_places line
told_places line u are = (told line u are).places

pub told_clean : (line : List ℕ) (u : UsualLine) → AreUsualParts line u → fsck_of line ≡ None
told_clean line u are = (told line u are).clean

pub told_back : (line : List ℕ) (u : UsualLine) → AreUsualParts line u
    → is_line_of (whole_line line) (record { name = u.name.now; email = u.email.now; date = Some (date_text_of u.parts) }) ≡ true
told_back line u are = (told line u are).back
