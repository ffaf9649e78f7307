-- A line of plain parts, a decimal number and an offset has no fault, and is shown so.
use Rattle.std.proofs.Common.{◌≡◌, ◌∙◌, ℕ, ◌+◌, ◌-◌, Bool, true, false, cond, not, ◌<◌, ℤ, pos, unsigned_abs, List, [], ◌∷◌}
use Rattle.std.proofs.Common.{◌++◌, length, drop, reverse, Some, None, option_map, refl, ap, ap₂, sym, subst, arith, length-append}
use Rattle.std.proofs.Common.{append_assoc}
use Rattle.std.proofs.Math.Seq.{drop-append_seam, drop-append-add}
use Rattle.std.proofs.lemmas.Bool.{and_from, and_parts}
use Rattle.std.proofs.lemmas.Bool.Decides.{nat_tests}
use Rattle.std.proofs.lemmas.List.{reverse-append, length-reverse}
use Rattle.std.specs.List.{list_all, list_any, find, prefix_len, suffix_len, before_first, after_first, after_last}
use Rattle.std.specs.Prelude.{nat_lt}
use Rattle.gix_date.proofs.Text.AsciiCuts.{all-append}
use Rattle.gix_date.specs.Text.Characters.{space, is_space}
use Rattle.gix_date.specs.Fields.Offsets.{compact_offset_text, offset_sign, hours_and_minutes}
use Rattle.std.specs.Fmt.{decimal}
use Rattle.gix_signature.specs.Signature.{Parts, is_allowed, is_part, line_of, opening, closing}
use Rattle.gix_signature.specs.Ident.Bytes.{is_opening, is_closing, is_bracket, is_newline, is_nul, is_blank, ends_line}
use Rattle.gix_signature.specs.Ident.Texts.{whole_line, from_first, begins_with, ends_with, without_front, without_end}
use Rattle.gix_signature.specs.Ident.Parts.{ident_parts, line_parts, date_parts, date_text}
use Rattle.gix_signature.specs.Ident.Fsck.{fsck_of, fsck_ids, first_fault, fault_at, has_fault, from_bracket, from_next_bracket, fsck_date}
use Rattle.gix_signature.specs.Ident.Fsck.{has_date_fault}
use Rattle.gix_signature.specs.Ident.Times.{too_many_seconds}
use Rattle.gix_signature.specs.Ident.Laws.{PassesAs, in_minutes}
use Rattle.gix_signature.specs.declared.fsck.FsckId.{FsckId}
use Rattle.gix_signature.specs.declared.fsck.FsckId.TheVariants.{NulInHeader, MissingNameBeforeEmail, BadName, MissingEmail}
use Rattle.gix_signature.specs.declared.fsck.FsckId.TheVariants.{MissingSpaceBeforeEmail, BadEmail, MissingSpaceBeforeDate, ZeroPaddedDate}
use Rattle.gix_signature.specs.declared.fsck.FsckId.TheVariants.{BadDateOverflow, BadDate, BadTimezone}
use Rattle.gix_signature.proofs.Cuts.{ArePlain, all-of, marked, no-opening, after_name}
use Rattle.gix_signature.proofs.Texts.{none_there}
use Rattle.gix_signature.proofs.Idents.Shown.{Cut, cut-of, run-len, run-all, place-at, there-at, last-len, end-more, all_stand_before}
use Rattle.gix_signature.proofs.Idents.Shown.{all-on}
use Rattle.gix_signature.proofs.Idents.Shown.{goes_on, no-closing}
use Rattle.gix_signature.proofs.DateTexts.{IsDate, no-date-fault, parts, stays, front-more, are-decimal, date-is, time-is}

-- a line without a fault has no first one
find-none : (p : FsckId → Bool) → ((id : FsckId) → p id ≡ false) → (ids : List FsckId) → find p ids ≡ None
find-none p none [] = refl
find-none p none (id ∷ ids) = ap (λ b. cond b (Some id) (find p ids)) (none id) ∙ find-none p none ids

first-none : (line : List ℕ) → ((id : FsckId) → has_fault line id ≡ false) → first_fault line ≡ None
unfolding first_fault
first-none line none = find-none (has_fault line) none fsck_ids

-- no byte of a text passes
pub none-passes : (p : ℕ → Bool) (xs : List ℕ) → list_all (λ c. not (p c)) xs ≡ true → list_any p xs ≡ false
none-passes p xs h = none_there p xs (run-all (λ c. not (p c)) xs h)

pub from-at : (p : ℕ → Bool) (xs ys : List ℕ) (c : ℕ) → list_all (λ b. not (p b)) xs ≡ true → p c ≡ true
    → from_first p (xs ++ (c ∷ ys)) ≡ c ∷ ys
from-at p xs ys c others is = ap (λ n. drop n (xs ++ (c ∷ ys))) (place-at p xs ys c others is) ∙ drop-append_seam xs (c ∷ ys)

not-false : (b : Bool) → not b ≡ true → b ≡ false
not-false b h = grind arith

begins-other : (p : ℕ → Bool) (xs ys : List ℕ) (c : ℕ) → list_all (λ b. not (p b)) xs ≡ true → p c ≡ false
    → begins_with p (xs ++ (c ∷ ys)) ≡ false
begins-other p [] ys c others is = is
begins-other p (x ∷ xs) ys c others is = not-false (p x) (and_parts (not (p x)) (list_all (λ b. not (p b)) xs) others).0

all-turned : (p : ℕ → Bool) (xs : List ℕ) → list_all p xs ≡ true → list_all p (reverse xs) ≡ true
all-turned p [] h = refl
all-turned p (x ∷ xs) h =
    let each = and_parts (p x) (list_all p xs) h in
    ap (λ ys. list_all p ys) (reverse-append (x ∷ []) xs)
    ∙ all-append p (reverse xs) (x ∷ []) (all-turned p xs each.1) (and_from (p x) true each.0 refl)

-- what stands after the last byte that passes
after-last : (p : ℕ → Bool) (xs ys : List ℕ) (c : ℕ) → list_all (λ b. not (p b)) ys ≡ true → p c ≡ true → after_last p (xs ++ (c ∷ ys)) ≡ ys
after-last p xs ys c others is =
    let turned : reverse (xs ++ (c ∷ ys)) ≡ reverse ys ++ (c ∷ reverse xs) =
    reverse-append xs (c ∷ ys) ∙ ap (λ zs. zs ++ reverse xs) (reverse-append (c ∷ []) ys)
    ∙ append_assoc (reverse ys) (c ∷ []) (reverse xs) in
    let len : suffix_len (λ b. not (p b)) (xs ++ (c ∷ ys)) ≡ length ys =
    ap (λ zs. prefix_len (λ b. not (p b)) zs) turned
    ∙ run-len (λ b. not (p b)) (reverse ys) (reverse xs) c (all-turned (λ b. not (p b)) ys others) (ap not is) ∙ length-reverse ys in
    let place : length (xs ++ (c ∷ ys)) - suffix_len (λ b. not (p b)) (xs ++ (c ∷ ys)) ≡ length xs + 1 =
    omega (arith, len, length-append xs (c ∷ ys)) in
    ap (λ n. drop n (xs ++ (c ∷ ys))) place ∙ drop-append-add xs (c ∷ ys) 1

abbrev not_bracket : ℕ → Bool
not_bracket c = not (is_bracket c)

abbrev not_newline : ℕ → Bool
not_newline c = not (is_newline c)

abbrev not_nul : ℕ → Bool
not_nul c = not (is_nul c)

no-bracket : (xs : List ℕ) → is_part xs ≡ true → list_all not_bracket xs ≡ true
no-bracket = all-of is_allowed not_bracket (λ c h. grind (arith, nat_tests, h))

module _ (name email : List ℕ) (n d : ℕ) (ds : List ℕ) (s : ℕ) (zs : List ℕ) (is : IsDate n d ds s zs) where
  abbrev zone : List ℕ
  zone = s ∷ zs

  abbrev date : List ℕ
  date = d ∷ (ds ++ (32 ∷ zone))

  abbrev the_parts : Parts
  the_parts = record { name = name; email = email; time = date }

  abbrev line : List ℕ
  line = line_of the_parts

  abbrev named : List ℕ
  named = name ++ (32 ∷ [])

  abbrev dated : List ℕ
  dated = closing ∷ (32 ∷ date)

  module _ (are : ArePlain the_parts) where
    pub cut : Cut line the_parts
    cut = cut-of the_parts are

    same : line ≡ named ++ (opening ∷ after_name the_parts)
    same = marked name (after_name the_parts)

    goes-on : list_all goes_on line ≡ true
    goes-on = all-on the_parts are

    no-nul : list_all not_nul line ≡ true
    no-nul = all-of goes_on not_nul (λ c h. grind (arith, nat_tests, h)) line goes-on

    no-newline : list_all not_newline line ≡ true
    no-newline = all-of goes_on not_newline (λ c h. grind (arith, nat_tests, h)) line goes-on

    no-mark : list_all not_bracket named ≡ true
    no-mark = all-append not_bracket name (32 ∷ []) (no-bracket name are.name) refl

    bracket : from_bracket line ≡ opening ∷ after_name the_parts
    bracket = ap (λ l. from_bracket l) same ∙ from-at is_bracket named (after_name the_parts) opening no-mark refl

    next : from_next_bracket line ≡ dated
    next = ap (λ l. from_first is_bracket l) cut.rest ∙ from-at is_bracket email (32 ∷ date) closing (no-bracket email are.email) refl

    fault-date : length zs ≡ 4 → (id : FsckId) → has_date_fault (fsck_date line) id ≡ false
    fault-date four id = ap (λ l. has_date_fault (drop 1 (drop 1 l)) id) next ∙ no-date-fault n d ds s zs is four id

    spaced : ends_with is_space named ≡ true
    spaced = ap (λ k. nat_lt 0 k) (last-len is_space name 32) ∙ grind (arith, nat_tests)

    no-fault : length zs ≡ 4 → (id : FsckId) → has_fault line id ≡ false
    no-fault four NulInHeader = none-passes is_nul line no-nul
    no-fault four MissingNameBeforeEmail = begins-other is_opening name (opening ∷ after_name the_parts) 32 (no-opening name are.name) refl
    no-fault four BadName = ap (λ l. begins_with is_closing l) bracket
    no-fault four MissingEmail = ap (λ l. not (list_any is_bracket l)) same
        ∙ ap not (there-at is_bracket named (after_name the_parts) opening no-mark refl)
    no-fault four MissingSpaceBeforeEmail = ap (λ l. not (ends_with is_space l)) cut.name ∙ ap not spaced
    no-fault four BadEmail = ap (λ l. not (begins_with is_closing l)) next
    no-fault four MissingSpaceBeforeDate = ap (λ l. not (begins_with is_space (drop 1 l))) next
    no-fault four ZeroPaddedDate = fault-date four ZeroPaddedDate
    no-fault four BadDateOverflow = fault-date four BadDateOverflow
    no-fault four BadDate = fault-date four BadDate
    no-fault four BadTimezone = fault-date four BadTimezone

    pub no-message : length zs ≡ 4 → fsck_of line ≡ None
    unfolding fsck_of
    no-message four = ap (λ l. option_map (fault_at l) (first_fault l)) (all_stand_before is_newline line no-newline)
        ∙ ap (λ o. option_map (fault_at line) o) (first-none line (no-fault four))

    pub tail : date_text line ≡ date
    tail =
        ap (λ l. without_front is_blank (after_last is_closing l)) (sym (append_assoc name (32 ∷ (opening ∷ email)) dated))
        ∙ ap (λ l. without_front is_blank l)
        (after-last is_closing (name ++ (32 ∷ (opening ∷ email))) (32 ∷ date) closing (no-closing date are.time) refl)
        ∙ front-more is_blank 32 date refl ∙ stays n d ds s zs is

    shown-so : line_parts line
        ≡ Some (record { name = without_end is_blank name; email = email; date = Some (record { seconds = d ∷ ds; offset = zone }) })
    unfolding line_parts
    shown-so =
        ap (λ b. cond b (Some (record {
          name = without_end is_blank (before_first is_opening line);
          email =
              before_first is_closing (after_first is_opening line);
          date = date_parts (date_text line);
        })) None) cut.has
        ∙ ap₂ (λ x y. Some (record { name = x; email = y; date = date_parts (date_text line) }))
        (ap (λ l. without_end is_blank l) cut.name ∙ end-more is_blank name 32 refl) cut.email
        ∙ ap (λ o. Some (record { name = without_end is_blank name; email = email; date = o })) (ap date_parts tail ∙ parts n d ds s zs is)

    pub is_whole : whole_line line ≡ line
    is_whole = all_stand_before ends_line line goes-on

    pub shown : ident_parts line
        ≡ Some (record { name = without_end is_blank name; email = email; date = Some (record { seconds = d ∷ ds; offset = zone }) })
    shown = ap line_parts is_whole ∙ shown-so

-- The line of plain parts and a time from the epoch on.
pub passes-as : (name email : List ℕ) (n : ℕ) (o : ℤ) → n < too_many_seconds → unsigned_abs o < 360000
    → (text : List ℕ) → text ≡ decimal n ++ (space ∷ compact_offset_text o) → ArePlain (record { name = name; email = email; time = text })
    → PassesAs (without_end is_blank name) email (in_minutes (record { seconds = pos n; offset = o }))
    (line_of (record { name = name; email = email; time = text }))
passes-as name email n o small short text whole are =
    let k = are-decimal n (omega (arith, small)) in
    let is = date-is n o k small short in
    let ds = k.first ∷ k.rest in
    let zone = compact_offset_text o in
    let same : text ≡ ds ++ (32 ∷ zone) = whole ∙ ap (λ xs. xs ++ (32 ∷ zone)) k.whole in
    let at : (t : List ℕ) → Parts = λ t. record { name = name; email = email; time = t } in
    let plain = subst (λ t. ArePlain (at t)) same are in
    subst (λ t. PassesAs (without_end is_blank name) email (in_minutes (record { seconds = pos n; offset = o })) (line_of (at t)))
    (sym same)
    (record {
      date = record { seconds = ds; offset = zone };
      passes = no-message name email n k.first k.rest (offset_sign o) (hours_and_minutes (unsigned_abs o)) is plain refl;
      is_shown = shown name email n k.first k.rest (offset_sign o) (hours_and_minutes (unsigned_abs o)) is plain;
      is_dated = time-is n o ds small short is.value;
    })
