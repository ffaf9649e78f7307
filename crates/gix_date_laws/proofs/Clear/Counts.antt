-- Counts of careful texts, as a test and as a fact, and that no word is two of a count, a unit, `and` and `ago`.
use Rattle.std.proofs.lemmas.Bool.Decides.{nat_tests}
use Rattle.std.proofs.lemmas.Grind.{common_steps}
use Rattle.std.proofs.Common.{◌≡◌, ◌∙◌, inl, inr, ℕ, ℤ, pos, ◌<◌, length, arith, Bool, true, false, cond, List, [], ◌∷◌, refl, ap, sym}
use Rattle.std.proofs.Common.{subst, Option, Some, None, FitsSigned, w64}
use Rattle.std.proofs.lemmas.Bool.{and_parts as both, false_from_ne_true as not-true, not-true as not-is, not-true as not_is}
use Rattle.std.specs.Char.{is_ascii_digit}
use Rattle.std.specs.List.{list_all}
use Rattle.std.specs.Option.{is_some}
use Rattle.std.specs.Prelude.{◌&&◌, not, codes, nat_lt}
use Rattle.std.specs.Str.{all_ascii_digits}
use Rattle.std.specs.Str.Parse.{digits_value, signed_digits_value, without_leading_sign}
use Rattle.gix_date.specs.Careful.Texts.{is_and, is_plain_count}
use Rattle.gix_date.specs.Relative.Dates.{named_date}
use Rattle.gix_date.specs.Relative.Roles.{has_unit, is_count_word}
use Rattle.gix_date.specs.Relative.Words.{count_of, is_ago, named_count, number_named, unit_of, singular, named_unit}
use Rattle.gix_date.specs.Text.Names.{is_name, named_in}
use Rattle.gix_date.specs.Text.Numbers.{fits_i64, int_value}
use Rattle.gix_date.proofs.Families.Apart.{digit-no-minus as not-minus, digit-no-plus as not-plus}
use Rattle.gix_date.proofs.Fast.FastHeaders.{int-taken}
use Rattle.gix_date.proofs.Text.Ints.{each_of, fits_from}
use Rattle.gix_date.proofs.Relative.QuietWords.{says_nothing, like-any, like-ago, like-name, like-named, like-singular, lower-same}
use Rattle.gix_date.proofs.Relative.QuietWords.{named-any, names_of, one-run-word}
use Rattle.gix_date.proofs.Relative.QuietDates.{quiet-digits, digits-run as digit-letters}
use Rattle.gix_date.specs.Careful.Grammar.{IsPlainCount, number_words}
use Rattle.gix_date_laws.proofs.Numbers.Grammars.{bare_int}
use Rattle.gix_date_laws.proofs.Letters.LetterCase.{count-low, digits-low}

pub some-of : {A : Type 0} (o : Option A) → is_some o ≡ true → (x : A) × (o ≡ Some x)
some-of (Some x) e = (x, refl)
some-of None e = absurd cc

-- the ten names, as a table and by their places
number-is : (w : List ℕ) → number_named w ≡ named_in number_words w
unfolding number_named
number-is w = grind (arith, nat_tests, common_steps)

-- digits are no name
pub all-digits : (t : List ℕ) → all_ascii_digits t ≡ list_all is_ascii_digit t
all-digits [] = refl
all-digits (c ∷ t) = ap (λ b. is_ascii_digit c && b) (all-digits t)

digits-no-name : (w name : List ℕ) → list_all is_ascii_digit w ≡ true → list_all is_ascii_digit name ≡ false → is_name w name ≡ false
digits-no-name w name d n = grind (arith, not-true, digits-low, lower-same)

digits-no-named : {A : Type 0} (table : List (List ℕ × A)) (w : List ℕ) → list_all is_ascii_digit w ≡ true
    → list_all (λ row. not (list_all is_ascii_digit row.0)) table ≡ true → named_in table w ≡ None
digits-no-named {A} [] w d h = refl
digits-no-named {A} ((name, said) ∷ rows) w d h =
    let p = both (not (list_all is_ascii_digit name)) (list_all (λ row. not (list_all is_ascii_digit row.0)) rows) h in
    rw (digits-no-name w name d (not_is (list_all is_ascii_digit name) p.0), digits-no-named rows w d p.1) refl

digits-no-number : (w : List ℕ) → list_all is_ascii_digit w ≡ true → named_in number_words w ≡ None
digits-no-number w d = digits-no-named number_words w d refl

last-no-number : (w : List ℕ) → is_name w (codes "last") ≡ true → named_in number_words w ≡ None
last-no-number w e = like-named number_words w (codes "last") (lower-same w (codes "last") e)

-- counts
pub record Counts (w : List ℕ) (n : ℤ) : Type 0 where
  pub plain : is_plain_count w ≡ true
  pub value : count_of w ≡ Some n

plain-by : (w : List ℕ) (n : ℤ) → count_of w ≡ Some n → is_name w (codes "last") ≡ false → Counts w n
unfolding is_count_word
plain-by w n e l = record { plain = rw (e, l) refl; value = e }

pub count-plain : (w : List ℕ) (n : ℤ) → IsPlainCount w n → Counts w n
unfolding count_of named_count
count-plain w n (inl h) =
    let d : list_all is_ascii_digit w ≡ true = sym (all-digits w) ∙ h.1.1 in
    let e : count_of w ≡ Some n = ap (λ b. cond b (int_value w) (named_count w)) d ∙ bare_int w h.0 n h.1 h.2 h.3 in
    plain-by w n e (digits-no-name w (codes "last") d refl)
count-plain w n (inr e) =
    let d : list_all is_ascii_digit w ≡ false =
    not-true (list_all is_ascii_digit w) (λ d. let bad : None ≡ Some n = sym (digits-no-number w d) ∙ e in cc) in
    let l : is_name w (codes "last") ≡ false =
    not-true (is_name w (codes "last")) (λ l. let bad : None ≡ Some n = sym (last-no-number w l) ∙ e in cc) in
    let c : count_of w ≡ Some n = ap (λ b. cond b (int_value w) (named_count w)) d ∙ ap (λ b. cond b (Some (pos 1)) (number_named w)) l
    ∙ number-is w ∙ e in
    plain-by w n c l

digits-count : (w : List ℕ) (n : ℤ) → list_all is_ascii_digit w ≡ true → int_value w ≡ Some n → IsPlainCount w n
digits-count [] n d v = let t = (int-taken [] n v).0 in absurd cc
digits-count (c ∷ t) n d v =
    let taken = int-taken (c ∷ t) n v in
    let parts = each_of (nat_lt 0 (length (without_leading_sign (c ∷ t)))) (all_ascii_digits (without_leading_sign (c ∷ t)))
    (fits_i64 (signed_digits_value 10 (c ∷ t))) taken.0 in
    let first = (both (is_ascii_digit c) (list_all is_ascii_digit t) d).0 in
    let bare : signed_digits_value 10 (c ∷ t) ≡ pos (digits_value 10 (c ∷ t)) = rw (not-minus c first, not-plus c first) refl in
    inl (
      digits_value 10 (c ∷ t),
      (omega arith, all-digits (c ∷ t) ∙ d, refl),
      sym taken.1
          ∙ bare,
      subst (FitsSigned w64) taken.1 (fits_from (signed_digits_value 10 (c ∷ t)) parts.2),
    )

pub plain-count : (w : List ℕ) → is_plain_count w ≡ true → (n : ℤ) × IsPlainCount w n
unfolding is_count_word count_of named_count
plain-count w h = grind (arith, both, some-of, digits-count, number-is)

-- a count says nothing else
names-quiet : list_all says_nothing (names_of number_words) ≡ true
unfolding has_unit unit_of singular named_unit named_date
names-quiet = refl

pub digits-quiet : (w : List ℕ) → all_ascii_digits w ≡ true → 0 < length w → says_nothing w ≡ true
digits-quiet [] h l = absurd (omega (arith, l))
digits-quiet (c ∷ t) h l =
    let one = one-run-word c t (digit-letters (c ∷ t) h) in
    let is : list_all says_nothing ((c ∷ t) ∷ []) ≡ true = ap (list_all says_nothing) (sym one) ∙ quiet-digits (c ∷ t) h in
    (both (says_nothing (c ∷ t)) true is).0

pub count-quiet : (w : List ℕ) (n : ℤ) → IsPlainCount w n → says_nothing w ≡ true
count-quiet w n (inl h) = digits-quiet w h.1.1 h.1.0
count-quiet w n (inr e) = like-any w (names_of number_words) names-quiet (named-any number_words w n e)

pub record Quiet (w : List ℕ) : Type 0 where
  pub unit : has_unit w ≡ false
  pub ago : is_ago w ≡ false

pub quiet-of : (w : List ℕ) → says_nothing w ≡ true → Quiet w
quiet-of w h = grind (arith, both, not-is)

pub count-no-unit : (w : List ℕ) → is_plain_count w ≡ true → has_unit w ≡ false
count-no-unit w h = let c = plain-count w h in (quiet-of w (count-quiet w c.0 c.1)).unit

pub count-no-ago : (w : List ℕ) → is_plain_count w ≡ true → is_ago w ≡ false
count-no-ago w h = let c = plain-count w h in (quiet-of w (count-quiet w c.0 c.1)).ago

-- a word that is a name counts what the name counts
like-count : (w name : List ℕ) → is_name w name ≡ true → count_of name ≡ None → is_plain_count w ≡ false
unfolding is_count_word
like-count w name e n =
    let same : count_of w ≡ None = sym (count-low w) ∙ ap count_of (lower-same w name e) ∙ count-low name ∙ n in
    rw same refl

and-none : count_of (codes "and") ≡ None
unfolding count_of named_count number_named
and-none = refl

ago-none : count_of (codes "ago") ≡ None
unfolding count_of named_count number_named
ago-none = refl

and-none-unit : has_unit (codes "and") ≡ false
unfolding has_unit unit_of singular named_unit
and-none-unit = refl

ago-none-unit : has_unit (codes "ago") ≡ false
unfolding has_unit unit_of singular named_unit
ago-none-unit = refl

pub and-no-count : (w : List ℕ) → is_and w ≡ true → is_plain_count w ≡ false
and-no-count w e = like-count w (codes "and") e and-none

pub and-no-unit : (w : List ℕ) → is_and w ≡ true → has_unit w ≡ false
and-no-unit w e = like-singular w (codes "and") (lower-same w (codes "and") e) ∙ and-none-unit

pub and-no-ago : (w : List ℕ) → is_and w ≡ true → is_ago w ≡ false
and-no-ago w e = like-ago w (codes "and") (lower-same w (codes "and") e)

pub ago-no-count : (w : List ℕ) → is_ago w ≡ true → is_plain_count w ≡ false
ago-no-count w e = like-count w (codes "ago") e ago-none

pub ago-no-unit : (w : List ℕ) → is_ago w ≡ true → has_unit w ≡ false
ago-no-unit w e = like-singular w (codes "ago") (lower-same w (codes "ago") e) ∙ ago-none-unit

pub ago-no-and : (w : List ℕ) → is_ago w ≡ true → is_and w ≡ false
ago-no-and w e = ap (λ (is : List ℕ → Bool). is (codes "and")) (like-name w (codes "ago") (lower-same w (codes "ago") e))

pub unit-no-count : (w : List ℕ) → has_unit w ≡ true → is_plain_count w ≡ false
unit-no-count w u = not-true (is_plain_count w) (λ e. let bad : true ≡ false = sym u ∙ count-no-unit w e in cc)

pub unit-no-and : (w : List ℕ) → has_unit w ≡ true → is_and w ≡ false
unit-no-and w u = not-true (is_and w) (λ e. let bad : true ≡ false = sym u ∙ and-no-unit w e in cc)

pub unit-no-ago : (w : List ℕ) → has_unit w ≡ true → is_ago w ≡ false
unit-no-ago w u = not-true (is_ago w) (λ e. let bad : true ≡ false = sym u ∙ ago-no-unit w e in cc)

pub count-no-and : (w : List ℕ) → is_plain_count w ≡ true → is_and w ≡ false
count-no-and w c = not-true (is_and w) (λ e. let bad : true ≡ false = sym c ∙ and-no-count w e in cc)

-- what a careful text's words count
pub count-word : (w : List ℕ) (n : ℤ) → IsPlainCount w n → is_count_word w ≡ true
unfolding is_count_word
count-word w n h = ap is_some (count-plain w n h).value

pub and-counts : (w : List ℕ) → is_and w ≡ true → count_of w ≡ None
and-counts w e = sym (count-low w) ∙ ap count_of (lower-same w (codes "and") e) ∙ count-low (codes "and") ∙ and-none

pub and-no-word : (w : List ℕ) → is_and w ≡ true → is_count_word w ≡ false
unfolding is_count_word
and-no-word w e = ap is_some (and-counts w e)
