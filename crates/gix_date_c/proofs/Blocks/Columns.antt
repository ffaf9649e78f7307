-- Arrays in which one answer more is stored.
use Rattle.std.proofs.Common.{◌≡◌, ℕ, ℤ, Bool, true, false, cond, List, [], ◌∷◌, ◌++◌, length, refl, sym, ap, Result, Ok, Err}
use Rattle.std.proofs.Math.ListN.{set}
use Rattle.gix_date_c.specs.Lines.Columns.{Columns, changed, columns_after, offset_after, seconds_after, status_after, with_answer}
use Rattle.gix_date_c.specs.Values.Statuses.{number_of}
use Rattle.gix_date_c.specs.declared.values.status.Status.{Status}
use Rattle.gix_date_c.specs.declared.values.status.Status.TheVariants.{Done}
use Rattle.gix_date_c.specs.declared.values.time.CTime.{CTime}

-- one value more that gives its cell this content, where it has one
pub changed-set : {A B : Type 0} (change : B → A → A) (values : List B) (value : B) (cells : List A) (cell : A)
    → ((old : A) → change value old ≡ cell)
    → changed change (values ++ value ∷ []) cells ≡ set (changed change values cells) (length values) cell
changed-set change [] value [] cell is = refl
changed-set change [] value (c ∷ cs) cell is = ap (λ x. x ∷ cs) (is c)
changed-set change (v ∷ vs) value [] cell is = refl
changed-set change (v ∷ vs) value (c ∷ cs) cell is = ap (λ xs. change v c ∷ xs) (changed-set change vs value cs cell is)

-- one value more that leaves its cell as it was
pub changed-kept : {A B : Type 0} (change : B → A → A) (values : List B) (value : B) (cells : List A)
    → ((old : A) → change value old ≡ old) → changed change (values ++ value ∷ []) cells ≡ changed change values cells
changed-kept change [] value [] is = refl
changed-kept change [] value (c ∷ cs) is = ap (λ x. x ∷ cs) (is c)
changed-kept change (v ∷ vs) value [] is = refl
changed-kept change (v ∷ vs) value (c ∷ cs) is = ap (λ xs. change v c ∷ xs) (changed-kept change vs value cs is)

-- one value more that leaves its cell so by a test, and else gives it this content
pub changed-by : {A B : Type 0} (is_kept : Bool) (change : B → A → A) (values : List B) (value : B) (cells : List A) (cell : A)
    → ((old : A) → change value old ≡ cond is_kept old cell)
    → changed change (values ++ value ∷ []) cells
    ≡ cond is_kept (changed change values cells) (set (changed change values cells) (length values) cell)
changed-by true change values value cells cell is = changed-kept change values value cells is
changed-by false change values value cells cell is = changed-set change values value cells cell is

abbrev columns : List ℤ → List ℤ → List ℕ → Columns
columns a b c = record { seconds = a; offsets = b; statuses = c }

same-columns : (a a' b b' : List ℤ) (c c' : List ℕ) → a ≡ a' → b ≡ b' → c ≡ c' → columns a b c ≡ columns a' b' c'
same-columns a a' b b' c c' p q r = cc

-- one answer more
pub stored-next : (answers : List (Result CTime Status)) (answer : Result CTime Status) (old : Columns)
    → with_answer (length answers) answer (columns_after answers old) ≡ columns_after (answers ++ answer ∷ []) old
stored-next answers (Ok time) old = same-columns _ _ _ _ _ _
    (sym (changed-set seconds_after answers (Ok time) old.seconds time.seconds (λ _. refl)))
    (sym (changed-set offset_after answers (Ok time) old.offsets time.offset (λ _. refl)))
    (sym (changed-set status_after answers (Ok time) old.statuses (number_of Done) (λ _. refl)))
stored-next answers (Err status) old = same-columns _ _ _ _ _ _
    (sym (changed-kept seconds_after answers (Err status) old.seconds (λ _. refl)))
    (sym (changed-kept offset_after answers (Err status) old.offsets (λ _. refl)))
    (sym (changed-set status_after answers (Err status) old.statuses (number_of status) (λ _. refl)))
