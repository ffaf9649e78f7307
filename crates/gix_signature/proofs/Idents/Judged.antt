-- What `git fsck` says of a line, found from its front to its end.
use Rattle.std.proofs.Common.{◌≡◌, ◌∙◌, ℕ, ◌+◌, ◌-◌, ◌<◌, Bool, true, false, cond, not, ◌||◌, ◌&&◌, ◌==◌, List, [], ◌∷◌, ◌++◌, length, take}
use Rattle.std.proofs.Common.{drop, get_or}
use Rattle.std.proofs.Common.{Option, Some, None, option_map, refl, ap, ap₂, sym, suc, arith}
use Rattle.std.proofs.lemmas.Bool.Decides.{nat_tests}
use Rattle.std.proofs.Math.Nat.{add-zero}
use Rattle.std.proofs.lemmas.List.{get_or-drop, length-drop, length-take-le, take-append-drop}
use Rattle.std.proofs.lemmas.List.Sums.{prefix_len-le-length, passes_at_first}
use Rattle.std.specs.List.{find, list_any, list_all, position_or_len, before_first, after_first}
use Rattle.std.specs.Option.{option_map_or}
use Rattle.std.specs.Prelude.{nat_lt}
use Rattle.gix_date.specs.Text.Characters.{is_space}
use Rattle.gix_signature.specs.Signature.{opening}
use Rattle.gix_signature.specs.Ident.Bytes.{is_opening, is_closing, is_bracket, is_newline, is_nul, ends_line}
use Rattle.gix_signature.specs.Ident.Texts.{from_first, begins_with, ends_with}
use Rattle.gix_signature.specs.Ident.Times.{c_number, too_many_seconds}
use Rattle.gix_signature.specs.Ident.Fsck.{fsck_of, fsck_ids, first_fault, fault_at, from_bracket, has_fault, has_date_fault}
use Rattle.gix_signature.specs.Ident.Fsck.{first_date_fault, is_zero, is_fsck_zone}
use Rattle.gix_signature.specs.declared.fsck.FsckId.{FsckId}
use Rattle.gix_signature.specs.declared.fsck.FsckId.TheVariants.{NulInHeader, MissingNameBeforeEmail, BadName, MissingEmail}
use Rattle.gix_signature.specs.declared.fsck.FsckId.TheVariants.{MissingSpaceBeforeEmail, BadEmail, MissingSpaceBeforeDate, ZeroPaddedDate}
use Rattle.gix_signature.specs.declared.fsck.FsckId.TheVariants.{BadDateOverflow, BadDate, BadTimezone}
use Rattle.gix_signature.proofs.Idents.Shown.{before-at, after-at, there-at}
use Rattle.gix_signature.proofs.Cuts.{all-of}
use Rattle.gix_signature.proofs.Idents.Passing.{from-at, none-passes}
use Rattle.gix_signature.proofs.Idents.Near.{run-passes}
use Rattle.gix_signature.proofs.Texts.{add-one-front, none_there, none_is}

-- none of a text passes, said of each byte
none-all : (p : ℕ → Bool) (xs : List ℕ) → list_any p xs ≡ false → list_all (λ c. not (p c)) xs ≡ true
none-all p xs h = none_is p xs ∙ ap not h

-- Where a line ends at NUL, the line of `git fsck` holds it there. Else it is the line, and holds none.
abbrev Ended : (n k : ℕ) (text : List ℕ) → Type 0
Ended n k text =
    (begins_with is_nul (drop n text) ≡ true
    → (list_any is_nul (take k text) ≡ true) × (position_or_len is_nul (take k text) ≡ n))
    × (begins_with is_nul (drop n text) ≡ false → (k ≡ n) × (list_any is_nul (take n text) ≡ false))

no-both : (x : ℕ) → is_newline x ≡ true → is_nul x ≡ true → ⊥
no-both x e k = absurd (grind (arith, nat_tests, e, k))

no-cross : true ≡ false → ⊥
no-cross k = absurd cc

ended-by : (x : ℕ) (xs : List ℕ) (b c : Bool) → is_newline x ≡ b → is_nul x ≡ c
    → Ended (position_or_len ends_line xs) (position_or_len is_newline xs) xs
    → Ended (cond (not (b || c)) (1 + position_or_len ends_line xs) 0) (cond (not b) (1 + position_or_len is_newline xs) 0) (x ∷ xs)
ended-by x xs true c e f h = (λ k. absurd (no-both x e k), λ k. (refl, refl))
ended-by x xs false true e f h =
    rw (add-one-front (position_or_len is_newline xs)) (
      λ k. (
        ap (λ t. t || list_any is_nul (take (position_or_len is_newline xs) xs)) f,
        ap (λ t. cond (not t) (1 + position_or_len is_nul (take (position_or_len is_newline xs) xs)) 0) f,
      ),
      λ k. absurd (no-cross (sym f ∙ k)),
    )
ended-by x xs false false e f h =
    rw (add-one-front (position_or_len ends_line xs), add-one-front (position_or_len is_newline xs)) (
      λ k.
          (ap₂ (λ t r. t || r) f (h.0 k).0, ap₂ (λ t n. cond (not t) (1 + n) 0) f (h.0 k).1 ∙ add-one-front (position_or_len ends_line xs)),
      λ k. (ap suc (h.1 k).0, ap₂ (λ t r. t || r) f (h.1 k).1),
    )

ended : (text : List ℕ) → Ended (position_or_len ends_line text) (position_or_len is_newline text) text
ended [] = (λ k. absurd cc, λ k. (refl, refl))
ended (x ∷ xs) = ended-by x xs (is_newline x) (is_nul x) refl refl (ended xs)

-- NUL is the first fault of all
nul-first : (line : List ℕ) → list_any is_nul line ≡ true → first_fault line ≡ Some NulInHeader
unfolding first_fault
nul-first line h = ap (λ b. cond b (Some NulInHeader) (find (has_fault line) (drop 1 fsck_ids))) h

place-of-nul : (line : List ℕ) → length line - length (from_first is_nul line) ≡ position_or_len is_nul line
place-of-nul line = omega (arith, length-drop (position_or_len is_nul line) line, prefix_len-le-length (λ c. not (is_nul c)) line)

pub nul_found : (text line rest : List ℕ) (n : ℕ) → n ≡ position_or_len ends_line text → line ≡ take n text → rest ≡ drop n text
    → begins_with is_nul rest ≡ true → Some (record { id = NulInHeader; place = length line }) ≡ fsck_of text
unfolding fsck_of
nul_found text part rest n at is_part is_rest k =
    let line = before_first is_newline text in
    let found = (ended text).0 (ap (λ m. begins_with is_nul (drop m text)) (sym at) ∙ ap (λ l. begins_with is_nul l) (sym is_rest) ∙ k) in
    let same : length part ≡ length (take (position_or_len ends_line text) text) =
    ap (λ (l : List ℕ). length l) is_part ∙ ap (λ m. length (take m text)) at in
    let room : length (take (position_or_len ends_line text) text) ≡ position_or_len ends_line text =
    length-take-le (position_or_len ends_line text) text (prefix_len-le-length (λ c. not (ends_line c)) text) in
    ap (λ n. Some (record { id = NulInHeader; place = n })) (same ∙ room ∙ sym found.1 ∙ sym (place-of-nul line))
    ∙ sym (ap (λ o. option_map (fault_at line) o) (nul-first line found.0))

not-nul : (text rest : List ℕ) (n : ℕ) → n ≡ position_or_len ends_line text → rest ≡ drop n text → begins_with is_nul rest ≡ false
    → begins_with is_nul (drop (position_or_len ends_line text) text) ≡ false
not-nul text rest n at is_rest h = ap (λ m. begins_with is_nul (drop m text)) (sym at) ∙ ap (λ l. begins_with is_nul l) (sym is_rest) ∙ h

pub without_nul : (text line rest : List ℕ) (n : ℕ) → n ≡ position_or_len ends_line text → line ≡ take n text → rest ≡ drop n text
    → begins_with is_nul rest ≡ false → list_any is_nul line ≡ false
without_nul text line rest n at is_line is_rest h =
    ap (λ l. list_any is_nul l) (is_line ∙ ap (λ m. take m text) at) ∙ ((ended text).1 (not-nul text rest n at is_rest h)).1

pub judged : (text line rest : List ℕ) (n : ℕ) → n ≡ position_or_len ends_line text → line ≡ take n text → rest ≡ drop n text
    → begins_with is_nul rest ≡ false → option_map (fault_at line) (first_fault line) ≡ fsck_of text
unfolding fsck_of
judged text line rest n at is_line is_rest h =
    let found = (ended text).1 (not-nul text rest n at is_rest h) in
    ap (λ l. option_map (fault_at l) (first_fault l)) (is_line ∙ ap (λ m. take m text) at ∙ ap (λ m. take m text) (sym found.0))

-- the first fault of a line in its parts
abbrev by_parts : (nul opens closes none : Bool) (front next : List ℕ) → Option FsckId
by_parts nul opens closes none front next =
    cond nul (Some NulInHeader) (cond opens (Some MissingNameBeforeEmail) (cond closes (Some BadName) (cond none (Some MissingEmail)
    (cond (not (ends_with is_space front)) (Some MissingSpaceBeforeEmail) (cond (not (begins_with is_closing next)) (Some BadEmail)
    (cond (not (begins_with is_space (drop 1 next))) (Some MissingSpaceBeforeDate)
    (first_date_fault (drop 1 (drop 1 next)))))))))

in-parts : (line : List ℕ) → first_fault line
    ≡ by_parts (list_any is_nul line) (begins_with is_opening line) (begins_with is_closing (from_bracket line))
    (not (list_any is_bracket line)) (before_first is_opening line) (from_bracket (after_first is_opening line))
unfolding first_fault first_date_fault
in-parts line = refl

none-left : (xs : List ℕ) → drop (position_or_len is_bracket xs) xs ≡ [] → list_any is_bracket xs ≡ false
none-left xs e =
    let none : length (drop (position_or_len is_bracket xs) xs) ≡ 0 = ap (λ (l : List ℕ). length l) e in
    let most = prefix_len-le-length (λ c. not (is_bracket c)) xs in
    none_there is_bracket xs (omega (arith, none, most, length-drop (position_or_len is_bracket xs) xs))

left-false : (a b c : Bool) → ((a || b) || c) ≡ false → a ≡ false
left-false a b c e = grind (arith, e)

right-true : (a b : Bool) → a ≡ false → (a || b) ≡ true → b ≡ true
right-true a b h k = grind arith

no-opening-first : (xs : List ℕ) → list_any is_bracket xs ≡ false → begins_with is_opening xs ≡ false
no-opening-first [] e = refl
no-opening-first (x ∷ xs) e = left-false (is_opening x) (is_closing x) (list_any is_bracket xs) e

-- a line without a bracket
no-bracket : (line : List ℕ) → list_any is_nul line ≡ false → drop (position_or_len is_bracket line) line ≡ []
    → Some MissingEmail ≡ first_fault line
no-bracket line nul h =
    let none : list_any is_bracket line ≡ false = none-left line h in
    sym (in-parts line
    ∙ ap (λ b. by_parts b (begins_with is_opening line) (begins_with is_closing (from_bracket line)) (not (list_any is_bracket line))
    (before_first is_opening line) (from_bracket (after_first is_opening line))) nul
    ∙ ap₂ (λ a b. cond a (Some MissingNameBeforeEmail) (cond b (Some BadName) (cond (not (list_any is_bracket line)) (Some MissingEmail)
    (by_parts false false false false (before_first is_opening line) (from_bracket (after_first is_opening line))))))
    (no-opening-first line none) (ap (λ l. begins_with is_closing l) h)
    ∙ ap (λ b. cond (not b) (Some MissingEmail)
    (by_parts false false false false (before_first is_opening line) (from_bracket (after_first is_opening line)))) none)

-- A line whose first bracket is `<`, in what stands before and after it.
bracket-off : (name inside : List ℕ) → list_any is_bracket name ≡ false → from_bracket (name ++ (opening ∷ inside)) ≡ opening ∷ inside
bracket-off name inside none = from-at is_bracket name inside opening (none-all is_bracket name none) refl

not-opening : (name : List ℕ) → list_any is_bracket name ≡ false → list_all (λ c. not (is_opening c)) name ≡ true
not-opening name none = all-of (λ c. not (is_bracket c)) (λ c. not (is_opening c)) (λ c h. grind (arith, nat_tests, h)) name
    (none-all is_bracket name none)

begins-by : (xs ys : List ℕ) → list_any is_bracket xs ≡ false → begins_with is_opening (xs ++ (opening ∷ ys)) ≡ (length xs == 0)
begins-by [] ys e = refl
begins-by (x ∷ xs) ys e =
    let some : (length (x ∷ xs) == 0) ≡ false = grind (arith, nat_tests) in
    left-false (is_opening x) (is_closing x) (list_any is_bracket xs) e ∙ sym some

pub opened : (name inside : List ℕ) → list_any is_nul (name ++ (opening ∷ inside)) ≡ false → list_any is_bracket name ≡ false
    → first_fault (name ++ (opening ∷ inside))
    ≡ cond (length name == 0) (Some MissingNameBeforeEmail) (cond (not (ends_with is_space name)) (Some MissingSpaceBeforeEmail)
    (cond (not (begins_with is_closing (from_bracket inside))) (Some BadEmail)
    (cond (not (begins_with is_space (drop 1 (from_bracket inside)))) (Some MissingSpaceBeforeDate)
    (first_date_fault (drop 1 (drop 1 (from_bracket inside)))))))
opened name inside nul none =
    let line = name ++ (opening ∷ inside) in
    let front = not-opening name none in
    in-parts line
    ∙ ap₂ (λ a b. by_parts a b (begins_with is_closing (from_bracket line)) (not (list_any is_bracket line)) (before_first is_opening line)
    (from_bracket (after_first is_opening line))) nul (begins-by name inside none)
    ∙ ap₂ (λ l b. by_parts false (length name == 0) (begins_with is_closing l) (not b) (before_first is_opening line)
    (from_bracket (after_first is_opening line))) (bracket-off name inside none)
    (there-at is_bracket name inside opening (none-all is_bracket name none) refl)
    ∙ ap₂ (λ f l. by_parts false (length name == 0) false false f (from_bracket l)) (before-at is_opening name inside opening front refl)
    (after-at is_opening name inside opening front refl)

none-before : (p : ℕ → Bool) (xs : List ℕ) → list_any p (take (position_or_len p xs) xs) ≡ false
none-before p xs = none-passes p (take (position_or_len p xs) xs) (run-passes (λ c. not (p c)) xs)

-- what a line is, whose first bracket is this
head-is : (c : ℕ) (rest : List ℕ) → is_opening c ≡ true → c ∷ rest ≡ opening ∷ rest
head-is c rest h = let same : c ≡ opening = grind (arith, nat_tests, h) in ap (λ x. x ∷ rest) same

opens : (rest : List ℕ) → begins_with is_opening rest ≡ true → rest ≡ opening ∷ drop 1 rest
opens [] h = absurd cc
opens (c ∷ rest) h = head-is c rest h

pub whole_line_is : (line name rest : List ℕ) (n : ℕ) → n ≡ position_or_len is_bracket line → name ≡ take n line
    → rest ≡ drop n line → begins_with is_opening rest ≡ true → line ≡ name ++ (opening ∷ drop 1 rest)
whole_line_is line name rest n at is_name is_rest h =
    sym (take-append-drop n line) ∙ ap₂ (λ a b. a ++ b) (sym is_name) (sym is_rest ∙ opens rest h)

pub none_before : (line name : List ℕ) (n : ℕ) → n ≡ position_or_len is_bracket line → name ≡ take n line → list_any is_bracket name ≡ false
none_before line name n at is_name = ap (λ l. list_any is_bracket l) (is_name ∙ ap (λ k. take k line) at) ∙ none-before is_bracket line

opens-other : (line : List ℕ) (c : ℕ) (rest : List ℕ) → drop (position_or_len is_bracket line) line ≡ c ∷ rest → is_opening c ≡ false
    → begins_with is_opening line ≡ false
opens-other [] c rest h other = refl
opens-other (x ∷ xs) c rest h other = by (is_opening x) refl
  where
    by : (b : Bool) → is_opening x ≡ b → b ≡ false
    by false e = refl
    by true e =
        let at : position_or_len is_bracket (x ∷ xs) ≡ 0 =
        ap (λ t. cond (not (t || is_closing x)) (1 + position_or_len is_bracket xs) 0) e in
        sym e ∙ ap is_opening (ap (λ l. get_or l 0 0) (ap (λ n. drop n (x ∷ xs)) (sym at) ∙ h)) ∙ other

closing-first : (line : List ℕ) (c : ℕ) (rest : List ℕ) → list_any is_nul line ≡ false
    → drop (position_or_len is_bracket line) line ≡ c ∷ rest → is_opening c ≡ false → Some BadName ≡ first_fault line
closing-first line c rest nul h other =
    let n = position_or_len is_bracket line in
    let room : n < length line = omega (arith, ap (λ (l : List ℕ). length l) h, length-drop n line) in
    let first : c ≡ get_or line n 0 =
    sym (ap (λ l. get_or l 0 0) h) ∙ get_or-drop n line 0 0 ∙ ap (λ k. get_or line k 0) (add-zero n) in
    let is : is_bracket c ≡ true = ap is_bracket first ∙ passes_at_first is_bracket line 0 room in
    sym (in-parts line
    ∙ ap₂ (λ a b. by_parts a b (begins_with is_closing (from_bracket line)) (not (list_any is_bracket line)) (before_first is_opening line)
    (from_bracket (after_first is_opening line))) nul (opens-other line c rest h other)
    ∙ ap (λ l. by_parts false false (begins_with is_closing l) (not (list_any is_bracket line)) (before_first is_opening line)
    (from_bracket (after_first is_opening line))) h
    ∙ ap (λ b. by_parts false false b (not (list_any is_bracket line)) (before_first is_opening line)
    (from_bracket (after_first is_opening line))) (right-true (is_opening c) (is_closing c) other is))

empty : (rest : List ℕ) → (length rest == 0) ≡ true → rest ≡ []
empty [] h = refl
empty (x ∷ rest) h = absurd (grind (arith, nat_tests, h))

pub no_bracket : (line rest : List ℕ) (n : ℕ) → list_any is_nul line ≡ false → n ≡ position_or_len is_bracket line → rest ≡ drop n line
    → (length rest == 0) ≡ true → Some MissingEmail ≡ first_fault line
no_bracket line rest n nul at is_rest h = no-bracket line nul (ap (λ k. drop k line) (sym at) ∙ sym is_rest ∙ empty rest h)

closing-by : (line rest : List ℕ) → list_any is_nul line ≡ false → drop (position_or_len is_bracket line) line ≡ rest
    → (length rest == 0) ≡ false → begins_with is_opening rest ≡ false → Some BadName ≡ first_fault line
closing-by line [] nul e some h = absurd (grind (arith, nat_tests, some))
closing-by line (c ∷ rest) nul e some h = closing-first line c rest nul e h

pub closing_first : (line rest : List ℕ) (n : ℕ) → list_any is_nul line ≡ false → n ≡ position_or_len is_bracket line
    → rest ≡ drop n line → (length rest == 0) ≡ false → begins_with is_opening rest ≡ false → Some BadName ≡ first_fault line
closing_first line rest n nul at is_rest some h = closing-by line rest nul (ap (λ k. drop k line) (sym at) ∙ sym is_rest) some h

-- what is said of a date
pub padded : (date : List ℕ) → (begins_with is_zero date && not (begins_with is_space (drop 1 date))) ≡ true
    → Some ZeroPaddedDate ≡ first_date_fault date
unfolding first_date_fault
padded date h = sym (ap (λ b. cond b (Some ZeroPaddedDate) (find (has_date_fault date) (drop 8 fsck_ids))) h)

abbrev by-number : (date : List ℕ) (o : Option (ℕ × List ℕ)) → Option FsckId
by-number date o =
    cond (option_map_or (λ r. not (nat_lt r.0 too_many_seconds)) o false) (Some BadDateOverflow)
    (cond (not (option_map_or (λ r. begins_with is_space r.1) o false)) (Some BadDate)
    (cond (not (is_fsck_zone (option_map_or (λ r. drop 1 r.1) o date))) (Some BadTimezone) None))

unpadded : (date : List ℕ) → (begins_with is_zero date && not (begins_with is_space (drop 1 date))) ≡ false
    → first_date_fault date ≡ by-number date (c_number date)
unfolding first_date_fault
unpadded date h = ap (λ b. cond b (Some ZeroPaddedDate) (by-number date (c_number date))) h

pub no_number : (date : List ℕ) → (begins_with is_zero date && not (begins_with is_space (drop 1 date))) ≡ false
    → c_number date ≡ None → Some BadDate ≡ first_date_fault date
no_number date h e = sym (unpadded date h ∙ ap (λ o. by-number date o) e)

pub numbered : (date : List ℕ) (n : ℕ) (rest : List ℕ) → (begins_with is_zero date && not (begins_with is_space (drop 1 date))) ≡ false
    → c_number date ≡ Some (n, rest)
    → first_date_fault date
    ≡ cond (not (nat_lt n too_many_seconds)) (Some BadDateOverflow)
    (cond (not (begins_with is_space rest)) (Some BadDate) (cond (not (is_fsck_zone (drop 1 rest))) (Some BadTimezone) None))
numbered date n rest h e = unpadded date h ∙ ap (λ o. by-number date o) e
