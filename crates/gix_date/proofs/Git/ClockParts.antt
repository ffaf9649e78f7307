-- The parts of a clock.
use Rattle.std.proofs.Common.{◌≡◌, ℕ, ◌<◌, ◌≤◌, ◌^◌, Bool, true, false, cond, List, [], ◌∷◌, length, take, refl, sym, ap, ◌∙◌, Option, Some}
use Rattle.std.proofs.Common.{None, Result, Ok, Err, arith}
use Rattle.std.proofs.lemmas.Bool.{not-true as unpassed}
use Rattle.std.proofs.Math.Seq.{take-length}
use Rattle.std.proofs.lemmas.Bool.Decides.{nat_tests}
use Rattle.std.proofs.lemmas.List.Splits.{slice_split_first, slice_split_none}
use Rattle.std.proofs.lemmas.List.Sums.{prefix_len_passes, prefix_len-le-length}
use Rattle.std.proofs.lemmas.Str.Parse.{parse_digits}
use Rattle.std.specs.Char.{is_ascii_digit}
use Rattle.std.specs.List.{list_all, slice_split, before_first, after_first, position_or_len}
use Rattle.std.specs.Prelude.{nat_lt, unwrap_or, ◌&&◌}
use Rattle.std.specs.Result.{result_ok}
use Rattle.std.specs.Str.{all_ascii_digits}
use Rattle.std.specs.Str.Parse.{ParsesUnsigned, digits_value}
use Rattle.gix_date.specs.Text.Characters.{is_colon}
use Rattle.gix_date.specs.Git.Clock.{at_most, digits_at_most, clock_of_fields, clock_of_parts, clock_with_colons}
use Rattle.gix_date.proofs.Text.Ints.{own}

pub all_digits : (w : List ℕ) → list_all is_ascii_digit w ≡ all_ascii_digits w
all_digits [] = refl
all_digits (c ∷ cs) = ap (λ b. is_ascii_digit c && b) (all_digits cs)

pub field_no : (most : ℕ) (t : List ℕ) → list_all is_ascii_digit t ≡ false → None ≡ digits_at_most most t
unfolding digits_at_most
field_no most [] h = refl
field_no most (c ∷ cs) h = ap (λ b. cond b (at_most most (digits_value 10 (c ∷ cs))) None) (sym h)

above : (most n : ℕ) → most < n → None ≡ at_most most n
above most n h = let test : nat_lt most n ≡ true = grind (arith, nat_tests, h) in ap (λ b. cond b None (Some n)) (sym test)

pub below : (most n : ℕ) → n ≤ most → Some n ≡ at_most most n
below most n h = let test : nat_lt most n ≡ false = grind (arith, nat_tests, h) in ap (λ b. cond b None (Some n)) (sym test)

pub field_yes : (most : ℕ) (t : List ℕ) → list_all is_ascii_digit t ≡ true → 0 < length t
    → at_most most (digits_value 10 t) ≡ digits_at_most most t
unfolding digits_at_most
field_yes most [] h long = absurd (omega arith)
field_yes most (c ∷ cs) h long = ap (λ b. cond b (at_most most (digits_value 10 (c ∷ cs))) None) (sym h)

big : (most : ℕ) (t : List ℕ) → list_all is_ascii_digit t ≡ true → most < 2 ^ 32 → ((0 < length t) × (digits_value 10 t < 2 ^ 32) → ⊥)
    → None ≡ digits_at_most most t
unfolding digits_at_most
big most [] d fits h = refl
big most (c ∷ cs) d fits h = grind (arith, above)

-- what `parse` of a u32 gives at digits
pub field_none : {E : Type 0} (most : ℕ) (t : List ℕ) (r : Result ℕ E) → list_all is_ascii_digit t ≡ true → most < 2 ^ 32
    → ParsesUnsigned 32 10 t r → None ≡ result_ok r → None ≡ digits_at_most most t
field_none most t (Ok n) d fits h e = cc
field_none most t (Err x) d fits h e = big most t d fits (parse_digits own 32 t (Err x) h (sym (all_digits t) ∙ d))

read_some : {E : Type 0} (n : ℕ) (t : List ℕ) (r : Result ℕ E) → list_all is_ascii_digit t ≡ true → ParsesUnsigned 32 10 t r
    → Some n ≡ result_ok r → (n ≡ digits_value 10 t) × (0 < length t)
read_some {E} n t (Ok m) d h e = grind (arith, parse_digits, own, all_digits)
read_some n t (Err x) d h e = cc

pub field_above : {E : Type 0} (most n : ℕ) (t : List ℕ) (r : Result ℕ E) → list_all is_ascii_digit t ≡ true → ParsesUnsigned 32 10 t r
    → Some n ≡ result_ok r → most < n → None ≡ digits_at_most most t
field_above most n t r d h e up =
    let read = read_some n t r d h e in
    above most n up ∙ ap (at_most most) read.0 ∙ field_yes most t d read.1

pub field_is : {E : Type 0} (most n : ℕ) (t : List ℕ) (r : Result ℕ E) → list_all is_ascii_digit t ≡ true → ParsesUnsigned 32 10 t r
    → Some n ≡ result_ok r → n ≤ most → Some n ≡ digits_at_most most t
field_is most n t r d h e up =
    let read = read_some n t r d h e in
    below most n up ∙ ap (at_most most) read.0 ∙ field_yes most t d read.1

-- the same, where the most is said otherwise
pub over_most : {E : Type 0} (most m n : ℕ) (t : List ℕ) (r : Result ℕ E) → list_all is_ascii_digit t ≡ true → ParsesUnsigned 32 10 t r
    → Some n ≡ result_ok r → m ≡ most → m < n
    → None ≡ digits_at_most most t
over_most most m n t r d h e is up = field_above most n t r d h e (omega (arith, is, up))

pub up_to_most : {E : Type 0} (most m n : ℕ) (t : List ℕ) (r : Result ℕ E) → list_all is_ascii_digit t ≡ true → ParsesUnsigned 32 10 t r
    → Some n ≡ result_ok r → m ≡ most → n ≤ m
    → Some n ≡ digits_at_most most t
up_to_most most m n t r d h e is up = field_is most n t r d h e (omega (arith, is, up))

-- where no element passes, all stand before the first
pub before_none : (p : ℕ → Bool) (t : List ℕ) → position_or_len p t ≡ length t → before_first p t ≡ t
before_none p t e = ap (λ n. take n t) e ∙ take-length t

pub one_part : (p : ℕ → Bool) (t : List ℕ) → position_or_len p t ≡ length t → slice_split p t ≡ t ∷ []
one_part p t e = grind (arith, slice_split_none, unpassed, prefix_len_passes)

-- the first part, and the parts after it
pub more_parts : (p : ℕ → Bool) (t front rest : List ℕ) → position_or_len p t < length t → front ≡ before_first p t → rest ≡ after_first p t
    → slice_split p t ≡ front ∷ slice_split p rest
more_parts p t front rest l e f = grind (arith, slice_split_first)

pub by_one : (t : List ℕ) → position_or_len is_colon t ≡ length t
    → clock_of_fields (digits_at_most 23 t) (Some 0) (Some 0) ≡ clock_with_colons t
unfolding clock_with_colons
by_one t e = ap clock_of_parts (sym (one_part is_colon t e))

pub by_two : (t h m : List ℕ) → slice_split is_colon t ≡ h ∷ slice_split is_colon m → position_or_len is_colon m ≡ length m
    → clock_of_fields (digits_at_most 23 h) (digits_at_most 59 m) (Some 0) ≡ clock_with_colons t
unfolding clock_with_colons
by_two t h m e f = ap (λ ps. clock_of_parts (h ∷ ps)) (sym (one_part is_colon m f)) ∙ ap clock_of_parts (sym e)

-- by the test whether an element passes
first_by : (p : ℕ → Bool) (t : List ℕ) (b : Bool) → nat_lt (position_or_len p t) (length t) ≡ b
    → (more : List (List ℕ)) × (slice_split p t ≡ before_first p t ∷ more)
first_by p t true e = (slice_split p (after_first p t), slice_split_first p t 0 (grind (arith, nat_tests, e)))
first_by p t false e = grind (arith, nat_tests, prefix_len-le-length, one_part, before_none)

pub by_three : (t h m r s rest : List ℕ) → slice_split is_colon t ≡ h ∷ slice_split is_colon r
    → slice_split is_colon r ≡ m ∷ slice_split is_colon rest → s ≡ before_first is_colon rest
    → clock_of_fields (digits_at_most 23 h) (digits_at_most 59 m) (digits_at_most 59 s) ≡ clock_with_colons t
unfolding clock_with_colons
by_three t h m r s rest e f g =
    let first = first_by is_colon rest _ refl in
    ap (λ x. clock_of_fields (digits_at_most 23 h) (digits_at_most 59 m) (digits_at_most 59 x)) g
    ∙ ap (λ ps. clock_of_parts (h ∷ m ∷ ps)) (sym first.1)
    ∙ ap (λ ps. clock_of_parts (h ∷ ps)) (sym f)
    ∙ ap clock_of_parts (sym e)

-- an offset without seconds
pub no_seconds : (seconds : Option ℕ) → seconds ≡ None → unwrap_or seconds 0 ≡ 0
no_seconds seconds e = ap (λ (o : Option ℕ). unwrap_or o 0) e
