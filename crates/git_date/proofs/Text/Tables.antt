-- What the tables of modes and of zones say, behind references or not.
use Rattle.std.proofs.Common.{◌≡◌, ◌∙◌, ◌≤◌, ◌<◌, ◌+◌, ◌-◌, ℕ, zero, suc, nat_le, Bool, true, false, cond, List, [], ◌∷◌, length, take}
use Rattle.std.proofs.Common.{drop, get_or, drop-drop, map, refl, ap, sym, subst, arith, Option, Some, None, Bor, ℤ, option_map}
use Rattle.std.specs.Char.{to_ascii_lowercase}
use Rattle.std.specs.Prelude.{◌==◌, ◌&&◌, ◌||◌, not}
use Rattle.std.specs.Str.{bytes_eq}
use Rattle.std.proofs.lemmas.Bool.{and_parts, not-true}
use Rattle.std.proofs.lemmas.List.{drop-map, take-map}
use Rattle.std.specs.List.{find, list_all}
use Rattle.gix_date.specs.Text.Names.{is_name}
use Rattle.git_date.specs.Show.Modes.{mode_row, mode_rows, mode_held, mode_named}
use Rattle.git_date.specs.Tokens.Names.{is_zone_name, has_initial, stand_between, zone_rows, zone_held, zone_named, AreZones}
use Rattle.git_date.specs.declared.mode.DateKind.{DateKind}
use Rattle.git_date.specs.declared.mode.DateMode.{DateMode}

-- the row that is found, and what is found of it
module _ (A B C : Type 0) (f : A → B) (q : B → Bool) (k : B → C) where
  by-row : (b : Bool) (row : A) (rest : Option A) (plain : Option B) → option_map (λ (a : A). k (f a)) rest ≡ option_map k plain
      → option_map (λ (a : A). k (f a)) (cond b (Some row) rest) ≡ option_map k (cond b (Some (f row)) plain)
  by-row true row rest plain e = refl
  by-row false row rest plain e = e

  held : (rows : List A) → option_map (λ (a : A). k (f a)) (find (λ (a : A). q (f a)) rows) ≡ option_map k (find q (map f rows))
  held [] = refl
  held (row ∷ rows) = by-row (q (f row)) row _ _ (held rows)

-- each mode is named by its name
abbrev HeldMode : Type 0
HeldMode = Bor (List ℕ) × DateKind × Bool

abbrev mode : List ℕ × DateMode → DateMode
mode row = row.1

pub mode_is : (text : List ℕ) (rows : List HeldMode) → map mode_row rows ≡ mode_rows
    → mode_held text rows ≡ mode_named text
unfolding mode_named mode_held
mode_is text rows same =
    held HeldMode (List ℕ × DateMode) DateMode mode_row (λ (row : List ℕ × DateMode). bytes_eq text row.0) mode rows
    ∙ ap (λ (rows : List (List ℕ × DateMode)). option_map mode (find (λ (row : List ℕ × DateMode). bytes_eq text row.0) rows)) same

-- a name that begins with another letter is not told
and-no : (b c : Bool) → (b && (c && false)) ≡ false
and-no true true = refl
and-no x c = refl

no-initial : (a : ℕ) (word name : List ℕ) → has_initial (to_ascii_lowercase a) name ≡ false → is_zone_name (a ∷ word) name ≡ false
no-initial a word [] e = and-no (nat_le 3 (length (a ∷ word))) (nat_le (length (a ∷ word)) 0)
no-initial a word (c ∷ name) e =
    by (to_ascii_lowercase a == to_ascii_lowercase c) (is_name word name) (is_name word (take (length word) name)) e
  where
    by : (same x y : Bool) → same ≡ false
        → ((same && x) || (nat_le 3 (length (a ∷ word)) && (nat_le (length (a ∷ word)) (length (c ∷ name)) && (same && y)))) ≡ false
    by true x y e = absurd cc
    by false x y e = and-no (nat_le 3 (length (a ∷ word))) (nat_le (length (a ∷ word)) (length (c ∷ name)))

-- The first zone that a word tells stands between the places of its first letter.
module _ (a : ℕ) (word : List ℕ) where
  abbrev told : List ℕ × ℤ → Bool
  told row = is_zone_name (a ∷ word) row.0

  abbrev other : List ℕ × ℤ → Bool
  other row = not (has_initial (to_ascii_lowercase a) row.0)

  untold : (row : List ℕ × ℤ) → other row ≡ true → told row ≡ false
  untold row e = no-initial a word row.0 (not-true (has_initial (to_ascii_lowercase a) row.0) e)

  none-told : (rows : List (List ℕ × ℤ)) → list_all other rows ≡ true → find told rows ≡ None
  none-told [] h = refl
  none-told (row ∷ rows) h = let both = and_parts (other row) (list_all other rows) h in rw (untold row both.0) (none-told rows both.1)

  skipped : (rows : List (List ℕ × ℤ)) (n : ℕ) → list_all other (take n rows) ≡ true → find told rows ≡ find told (drop n rows)
  skipped rows zero h = refl
  skipped [] (suc n) h = refl
  skipped (row ∷ rows) (suc n) h = let both = and_parts (other row) (list_all other (take n rows)) h in
      rw (untold row both.0) (skipped rows n both.1)

  trimmed : (rows : List (List ℕ × ℤ)) (n : ℕ) → list_all other (drop n rows) ≡ true → find told rows ≡ find told (take n rows)
  trimmed rows zero h = none-told rows h
  trimmed [] (suc n) h = refl
  trimmed (row ∷ rows) (suc n) h = ap (λ (found : Option (List ℕ × ℤ)). cond (told row) (Some row) found) (trimmed rows n h)

  stands-between : (first end : ℕ) → first ≤ end → stand_between (to_ascii_lowercase a) first end ≡ true
      → find told zone_rows ≡ find told (take (end - first) (drop first zone_rows))
  unfolding stand_between
  stands-between first end h e =
      let both = and_parts (list_all other (take first zone_rows)) (list_all other (drop end zone_rows)) e in
      let last : drop (end - first) (drop first zone_rows) ≡ drop end zone_rows =
      let sum : first + (end - first) ≡ end = omega arith in
      drop-drop (end - first) first zone_rows ∙ ap (λ (n : ℕ). drop n zone_rows) sum in
      skipped zone_rows first both.0
      ∙ trimmed (drop first zone_rows) (end - first) (subst (λ (rows : List (List ℕ × ℤ)). list_all other rows ≡ true) (sym last) both.1)

abbrev HeldZone : Type 0
HeldZone = Bor (List ℕ) × ℤ

abbrev plain : HeldZone → List ℕ × ℤ
plain row = (row.0.now, row.1)

abbrev minutes : List ℕ × ℤ → ℤ
minutes row = row.1

pub no_zone : (word : List ℕ) → length word < 1 → None ≡ zone_named word
unfolding zone_named
no_zone [] h = refl
no_zone (a ∷ word) h = absurd (omega arith)

pub zone_is : (word : List ℕ) (rows : List HeldZone) (first end : ℕ) → 1 ≤ length word → first ≤ end
    → stand_between (to_ascii_lowercase (get_or word 0 0)) first end ≡ true → AreZones rows
    → zone_held word rows first end ≡ zone_named word
unfolding zone_named zone_held AreZones
zone_is [] rows first end some h e same = absurd (omega arith)
zone_is (a ∷ word) rows first end some h e same =
    let part : map plain (take (end - first) (drop first rows)) ≡ take (end - first) (drop first zone_rows) =
    sym (take-map plain (end - first) (drop first rows))
    ∙ ap (take (end - first)) (sym (drop-map plain first rows) ∙ ap (drop first) same) in
    held HeldZone (List ℕ × ℤ) ℤ plain (λ (row : List ℕ × ℤ). is_zone_name (a ∷ word) row.0) minutes (take (end - first) (drop first rows))
    ∙ ap (λ (found : Option (List ℕ × ℤ)). option_map minutes found)
    (ap (find (λ (row : List ℕ × ℤ). is_zone_name (a ∷ word) row.0)) part ∙ sym (stands-between a word first end h e))
