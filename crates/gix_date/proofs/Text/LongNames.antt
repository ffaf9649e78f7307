-- Names: those told by three letters and what stands after them, and those of tables.
use Rattle.std.proofs.Common.{◌≡◌, ◌∙◌, ◌<◌, ℕ, suc, Bool, true, false, nat_le, List, [], ◌∷◌, length, take, drop, get_or, drop-cons}
use Rattle.std.proofs.Common.{length-drop, ◌-◌, ◌≤◌, option_map, Option, Some, None, IfSome, refl, ap, sym, subst, arith, map, cond, Bor}
use Rattle.std.specs.Prelude.{◌==◌, ◌&&◌, ◌+◌}
use Rattle.std.specs.Char.{to_ascii_lowercase}
use Rattle.std.specs.List.{find, position}
use Rattle.std.specs.Str.{bytes_eq}
use Rattle.std.proofs.lemmas.List.{take_all}
use Rattle.std.proofs.lemmas.Bool.{and_left, and_right}
use Rattle.std.proofs.lemmas.Bool.Decides.{nat_tests}
use Rattle.std.proofs.lemmas.List.Quantifiers.{position-Some}
use Rattle.std.specs.Int.{IsInRange}
use Rattle.gix_date.specs.Text.Names.{is_name, name_row, value_named, whole_month_names}
use Rattle.gix_date.specs.Text.LongNames.{begins, is_short, tells, month_of_word, month_by, long_day_names, weekday_of_word, weekday_by}

le-three : (m n : ℕ) (b : Bool) → nat_le m n ≡ b → nat_le (suc (suc (suc m))) (suc (suc (suc n))) ≡ b
le-three m n true e = grind (arith, nat_tests)
le-three m n false e = grind (arith, nat_tests)

moved : (x p q r s : Bool) → (x && (p && (q && (r && s)))) ≡ (p && (q && (r && (x && s))))
moved false true true true s = refl
moved x p q r s = refl

no-room : (word name : List ℕ) → length name < length word → is_short word name ≡ false
no-room word name h =
    let long : nat_le (length word) (length name) ≡ false = grind (arith, nat_tests) in
    and_right (nat_le 3 (length word)) (begins word name) (and_left (nat_le (length word) (length name)) _ long)

short-tells : (a b c : ℕ) (end name : List ℕ)
    → is_short (a ∷ b ∷ c ∷ end) name ≡ tells (to_ascii_lowercase a) (to_ascii_lowercase b) (to_ascii_lowercase c) end name
short-tells a b c end [] = no-room (a ∷ b ∷ c ∷ end) [] (omega arith)
short-tells a b c end (x ∷ []) = no-room (a ∷ b ∷ c ∷ end) (x ∷ []) (omega arith)
short-tells a b c end (x ∷ y ∷ []) = no-room (a ∷ b ∷ c ∷ end) (x ∷ y ∷ []) (omega arith)
short-tells a b c end (x ∷ y ∷ z ∷ rest) =
    let enough : nat_le 3 (length (a ∷ b ∷ c ∷ end)) ≡ true = grind (arith, nat_tests) in
    rw (enough, le-three (length end) (length rest) (nat_le (length end) (length rest)) refl)
    (moved (nat_le (length end) (length rest)) (to_ascii_lowercase a == to_ascii_lowercase x) (to_ascii_lowercase b == to_ascii_lowercase y)
    (to_ascii_lowercase c == to_ascii_lowercase z) (is_name end (take (length end) rest)))

pub month-letters : (a b c : ℕ) (end : List ℕ)
    → month_of_word (a ∷ b ∷ c ∷ end) ≡ month_by (to_ascii_lowercase a) (to_ascii_lowercase b) (to_ascii_lowercase c) end
unfolding month_of_word
month-letters a b c end = λ i. option_map (λ place. place + 1) (position (λ name. short-tells a b c end name i) whole_month_names)

pub weekday-letters : (a b c : ℕ) (end : List ℕ)
    → weekday_of_word (a ∷ b ∷ c ∷ end) ≡ weekday_by (to_ascii_lowercase a) (to_ascii_lowercase b) (to_ascii_lowercase c) end
unfolding weekday_of_word
weekday-letters a b c end = λ i. position (λ name. short-tells a b c end name i) long_day_names

-- two letters or fewer tell none
two-tell : (word name : List ℕ) → length word < 3 → is_short word name ≡ false
two-tell word name h = let few : nat_le 3 (length word) ≡ false = grind (arith, nat_tests) in
    and_left (nat_le 3 (length word)) (begins word name) few

pub no_month : (word : List ℕ) → length word < 3 → month_of_word word ≡ None
unfolding month_of_word
no_month word h = λ i. option_map (λ place. place + 1) (position (λ name. two-tell word name h i) whole_month_names)

pub no_weekday : (word : List ℕ) → length word < 3 → weekday_of_word word ≡ None
unfolding weekday_of_word
no_weekday word h = λ i. position (λ name. two-tell word name h i) long_day_names

-- a word of three letters or more
module _ (word : List ℕ) (u v w : ℕ) (long : 3 ≤ length word) (first : u ≡ to_ascii_lowercase (get_or word 0 0))
    (second : v ≡ to_ascii_lowercase (get_or word 1 0))
    (third : w ≡ to_ascii_lowercase (get_or word 2 0)) where
  abbrev rest : List ℕ
  rest = take (length word - 3) (drop 3 word)

  whole : get_or word 0 0 ∷ get_or word 1 0 ∷ get_or word 2 0 ∷ rest ≡ word
  whole =
      ap (λ (x : List ℕ). get_or word 0 0 ∷ get_or word 1 0 ∷ get_or word 2 0 ∷ x)
      (take_all (length word - 3) (drop 3 word) (omega (arith, length-drop 3 word)))
      ∙ ap (λ (x : List ℕ). get_or word 0 0 ∷ get_or word 1 0 ∷ x) (sym (drop-cons word 2 0 (omega (arith, long))))
      ∙ ap (λ (x : List ℕ). get_or word 0 0 ∷ x) (sym (drop-cons word 1 0 (omega (arith, long))))
      ∙ sym (drop-cons word 0 0 (omega (arith, long)))

  letters : (F : ℕ → ℕ → ℕ → List ℕ → Option ℕ) → F u v w rest
      ≡ F (to_ascii_lowercase (get_or word 0 0)) (to_ascii_lowercase (get_or word 1 0)) (to_ascii_lowercase (get_or word 2 0)) rest
  letters F = λ i. F (first i) (second i) (third i) rest

  pub month_found : month_by u v w rest ≡ month_of_word word
  month_found = letters month_by ∙ sym (month-letters (get_or word 0 0) (get_or word 1 0) (get_or word 2 0) rest) ∙ ap month_of_word whole

  pub weekday_found : weekday_by u v w rest ≡ weekday_of_word word
  weekday_found = letters weekday_by ∙ sym (weekday-letters (get_or word 0 0) (get_or word 1 0) (get_or word 2 0) rest)
      ∙ ap weekday_of_word whole

-- months are counted from 1 to 12
pub month_in_range : (word : List ℕ) (found : Option ℕ) → found ≡ month_of_word word → IfSome found (λ month. IsInRange 1 12 month)
unfolding month_of_word
month_in_range word found e =
    subst (λ (o : Option ℕ). IfSome o (λ month. IsInRange 1 12 month)) (sym e) (by (position (is_short word) whole_month_names) refl)
  where
    by : (o : Option ℕ) → position (is_short word) whole_month_names ≡ o
        → IfSome (option_map (λ place. place + 1) o) (λ month. IsInRange 1 12 month)
    by None e = tt
    by (Some k) e = let at = position-Some (is_short word) whole_month_names k [] e in omega (arith, at.0)

pub weekday_in_range : (word : List ℕ) (found : Option ℕ) → found ≡ weekday_of_word word → IfSome found (λ weekday. weekday < 7)
unfolding weekday_of_word
weekday_in_range word found e =
    subst (λ (o : Option ℕ). IfSome o (λ weekday. weekday < 7)) (sym e) (by (position (is_short word) long_day_names) refl)
  where
    by : (o : Option ℕ) → position (is_short word) long_day_names ≡ o → IfSome o (λ weekday. weekday < 7)
    by None e = tt
    by (Some k) e = let at = position-Some (is_short word) long_day_names k [] e in omega (arith, at.0)

-- What a table of names says, behind references or not.
told-by : {A : Type 0} (b : Bool) (row : Bor (List ℕ) × A) (rest : Option (Bor (List ℕ) × A)) (plain : Option (List ℕ × A))
    → option_map (λ (r : Bor (List ℕ) × A). r.1) rest ≡ option_map (λ (r : List ℕ × A). r.1) plain
    → option_map (λ (r : Bor (List ℕ) × A). r.1) (cond b (Some row) rest)
    ≡ option_map (λ (r : List ℕ × A). r.1) (cond b (Some (name_row row)) plain)
told-by true row rest plain e = refl
told-by false row rest plain e = e

seen-by : {A B : Type 0} (b : Bool) (see : A → B) (row : List ℕ × A) (rest : Option (List ℕ × B)) (plain : Option (List ℕ × A))
    → option_map (λ (r : List ℕ × B). r.1) rest ≡ option_map see (option_map (λ (r : List ℕ × A). r.1) plain)
    → option_map (λ (r : List ℕ × B). r.1) (cond b (Some (row.0, see row.1)) rest)
    ≡ option_map see (option_map (λ (r : List ℕ × A). r.1) (cond b (Some row) plain))
seen-by true see row rest plain e = refl
seen-by false see row rest plain e = e

pub same_names : {A : Type 0} (word : List ℕ) (rows : List (Bor (List ℕ) × A))
    → option_map (λ (row : Bor (List ℕ) × A). row.1) (find (λ (row : Bor (List ℕ) × A). bytes_eq word row.0.now) rows)
    ≡ value_named (map name_row rows) word
same_names word [] = refl
same_names word (row ∷ rows) = told-by (bytes_eq word row.0.now) row _ _ (same_names word rows)

pub value_is : {A : Type 0} (word : List ℕ) (rows : List (Bor (List ℕ) × A)) (found : Option A)
    → found ≡ option_map (λ (row : Bor (List ℕ) × A). row.1) (find (λ (row : Bor (List ℕ) × A). bytes_eq word row.0.now) rows)
    → found ≡ value_named (map name_row rows) word
value_is word rows found e = e ∙ same_names word rows

-- a table whose values are seen otherwise says the same of them
pub seen_by : {A B : Type 0} (see : A → B) (rows : List (List ℕ × A)) (word : List ℕ)
    → value_named (map (λ (row : List ℕ × A). (row.0, see row.1)) rows) word ≡ option_map see (value_named rows word)
seen_by see [] word = refl
seen_by see (row ∷ rows) word = seen-by (bytes_eq word row.0) see row _ _ (seen_by see rows word)
