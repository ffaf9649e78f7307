-- A line that is written as it is is shown so, and comes back.
use Rattle.std.proofs.Common.{◌≡◌, ◌∙◌, ℕ, ◌<◌, Bool, true, false, cond, ◌&&◌, List, [], ◌∷◌, ◌++◌, length, ℤ, pos}
use Rattle.std.proofs.Common.{negsuc, zero, suc, ◌-◌, take, drop}
use Rattle.std.proofs.Common.{neg_ℤ, unsigned_abs, Some, None, FitsSigned, w32, w64, refl, ap, ap₂, sym, subst, arith}
use Rattle.std.proofs.lemmas.Bool.{and_from, and_parts}
use Rattle.std.proofs.lemmas.Bool.Decides.{nat_tests}
use Rattle.std.proofs.lemmas.Fmt.{decimal_is_IsNumeral}
use Rattle.std.proofs.lemmas.Int.{ints}
use Rattle.std.proofs.lemmas.List.{take-append-drop}
use Rattle.std.proofs.lemmas.List.Folds.{list_all-append}
use Rattle.std.proofs.lemmas.Slice.Eq.{bytes_eq-Decides}
use Rattle.std.specs.Char.{is_ascii_digit}
use Rattle.std.specs.Fmt.{decimal}
use Rattle.std.specs.List.{list_all, suffix_len}
use Rattle.std.specs.Ordering.{int_eq}
use Rattle.std.specs.Prelude.{nat_lt, int_lt, if◌then◌else◌}
use Rattle.std.specs.Str.{bytes_eq}
use Rattle.std.specs.Str.Parse.{digits_value, signed_digits_value}
use Rattle.gix_date.proofs.Text.AsciiCuts.{all-append}
use Rattle.gix_date.specs.Text.Characters.{space, plus, minus}
use Rattle.gix_date.specs.Fields.Offsets.{offset_sign}
use Rattle.gix_signature.specs.Signature.{Parts, is_allowed, is_part, line_of}
use Rattle.gix_signature.specs.Ident.Bytes.{is_blank, is_minus, is_sign}
use Rattle.gix_signature.specs.Ident.Texts.{whole_line, without_end}
use Rattle.gix_signature.specs.Ident.Parts.{DateText}
use Rattle.gix_signature.specs.Ident.Times.{git_time, git_time_at, git_time_text, offset_mark, offset_digits, kept_offset, too_many_seconds}
use Rattle.gix_signature.specs.Ident.Times.{seconds_shown, is_minus_zero}
use Rattle.gix_signature.specs.Ident.Again.{line_as_is}
use Rattle.gix_signature.specs.Ident.Laws.{IsLineTime, ShowsAgain, AsIsIsShown}
use Rattle.gix_signature.specs.declared.ident.GitTime.{GitTime}
use Rattle.gix_signature.proofs.Cuts.{ArePlain, all-of}
use Rattle.gix_signature.proofs.DateTexts.{AreDecimal, are-decimal, IsDate, sign-value}
use Rattle.gix_signature.proofs.Idents.Passing.{shown, is_whole}
use Rattle.gix_signature.proofs.TimeTexts.{AreDigits, offset-digits-are}
use Rattle.gix_signature.proofs.Written.{decimal-stands}

abbrev time_of : ℕ → ℤ → Bool → GitTime
time_of n o kept0 = record { seconds = pos n; offset = o; minus_zero = kept0 }

mark-signs : (b c : Bool) → is_sign (if b then minus else if c then minus else plus) ≡ true
mark-signs true c = refl
mark-signs false true = refl
mark-signs false false = refl

signed-back : (z : ℤ) → cond (int_lt z (pos 0)) (neg_ℤ (pos (unsigned_abs z))) (pos (unsigned_abs z)) ≡ z
signed-back (pos k) =
    let no : int_lt (pos k) (pos 0) ≡ false = grind (arith, ints) in ap (λ b. cond b (neg_ℤ (pos k)) (pos k)) no
signed-back (negsuc k) = refl

and-none : (b : Bool) → (b && false) ≡ false
and-none b = grind arith

not-so : (b : Bool) → (b ≡ true → ⊥) → b ≡ false
not-so b h = grind arith

no-zero : (k : ℕ) → int_eq (pos (suc k)) (pos 0) ≡ false
no-zero k = grind (arith, ints)

pub no-neg : (k : ℕ) → int_eq (negsuc k) (pos 0) ≡ false
no-neg k = grind (arith, ints)

cc-pos : (k : ℕ) → pos (suc k) ≡ pos 0 → ⊥
cc-pos k e = absurd cc

cc-neg : (k : ℕ) → negsuc k ≡ pos 0 → ⊥
cc-neg k e = absurd cc

-- a part without the blanks at its end is one
front-stands : (name : List ℕ) → is_part name ≡ true → is_part (without_end is_blank name) ≡ true
front-stands name h =
    let n = length name - suffix_len is_blank name in
    (and_parts (is_part (take n name)) (is_part (drop n name))
    (sym (list_all-append is_allowed (take n name) (drop n name)) ∙ ap is_part (take-append-drop n name) ∙ h)).0

-- what a mark and digits write
module _ (n : ℕ) (o : ℤ) (kept0 : Bool) (small : n < too_many_seconds) (kept : kept_offset o ≡ o) (short : unsigned_abs o < 2147483648)
    (at : kept0 ≡ true → o ≡ pos 0) where
  abbrev t : GitTime
  t = time_of n o kept0

  abbrev zs : List ℕ
  zs = offset_digits [] o

  are : AreDigits (unsigned_abs o) zs
  are = offset-digits-are o (omega (arith, short))

  -- the number of the offset
  value-by : (z : ℤ) (b : Bool) → (b ≡ true → z ≡ pos 0) → (ds : List ℕ) → digits_value 10 ds ≡ unsigned_abs z
      → signed_digits_value 10 ((if b && int_eq z (pos 0) then minus else offset_sign z) ∷ ds) ≡ z
  value-by z false h ds v =
      sign-value (int_lt z (pos 0)) ds ∙ ap (λ m. cond (int_lt z (pos 0)) (neg_ℤ (pos m)) (pos m)) v ∙ signed-back z
  value-by z true h ds v =
      ap (λ o. signed_digits_value 10 ((if true && int_eq o (pos 0) then minus else offset_sign o) ∷ ds)) (h refl)
      ∙ ap (λ m. neg_ℤ (pos m)) (v ∙ ap unsigned_abs (h refl)) ∙ sym (h refl)

  value : signed_digits_value 10 (offset_mark t ∷ zs) ≡ o
  value = value-by o kept0 at zs are.value

  -- the minus of a zero
  minus-by : (z : ℤ) (b : Bool) → (b ≡ true → z ≡ pos 0)
      → is_minus_zero (is_minus (if b && int_eq z (pos 0) then minus else offset_sign z)) z ≡ b
  minus-by (pos zero) true h = refl
  minus-by (pos zero) false h = refl
  minus-by (pos (suc k)) b h =
      ap (λ e. is_minus (if b && e then minus else offset_sign (pos (suc k))) && e) (no-zero k)
      ∙ and-none (is_minus (if b && false then minus else offset_sign (pos (suc k)))) ∙ sym (not-so b (λ e. cc-pos k (h e)))
  minus-by (negsuc k) b h =
      ap (λ e. is_minus (if b && e then minus else offset_sign (negsuc k)) && e) (no-neg k)
      ∙ and-none (is_minus (if b && false then minus else offset_sign (negsuc k))) ∙ sym (not-so b (λ e. cc-neg k (h e)))

  k : AreDecimal n (decimal n)
  k = are-decimal n (omega (arith, small))

  sign : is_sign (offset_mark t) ≡ true
  sign = mark-signs (kept0 && int_eq o (pos 0)) (int_lt o (pos 0))

  is : IsDate n k.first k.rest (offset_mark t) zs
  is =
      record {
        digit = k.digit;
        digits = k.digits;
        alone = λ z. (k.alone z).1;
        value = ap (λ xs. digits_value 10 xs) (sym k.whole) ∙ (decimal_is_IsNumeral n (omega (arith, small))).1;
        small = small;
        sign = sign;
        zone = are.all;
        some = are.some;
      }

  few : nat_lt n too_many_seconds ≡ true
  few = grind (arith, nat_tests, small)

  dated : git_time (record { seconds = k.first ∷ k.rest; offset = offset_mark t ∷ zs }) ≡ t
  unfolding git_time
  dated =
      ap₂ (λ v z. git_time_at (seconds_shown v) (is_minus (offset_mark t)) z) is.value value
      ∙ ap (λ b. git_time_at (cond b (Some (pos n)) None) (is_minus (offset_mark t)) o) few
      ∙ ap (λ z. time_of n z (is_minus_zero (is_minus (offset_mark t)) z)) kept ∙ ap (λ b. time_of n o b) (minus-by o kept0 at)

  text-is : git_time_text t ≡ k.first ∷ (k.rest ++ (space ∷ (offset_mark t ∷ zs)))
  text-is = ap (λ ds. ds ++ (space ∷ (offset_mark t ∷ zs))) k.whole

  -- a digit and a sign may stand in a line
  digits-stand : (xs : List ℕ) → list_all is_ascii_digit xs ≡ true → is_part xs ≡ true
  digits-stand = all-of is_ascii_digit is_allowed (λ c h. grind (arith, nat_tests, h))

  sign-stands : is_allowed (offset_mark t) ≡ true
  sign-stands = by (offset_mark t) sign
    where
      by : (c : ℕ) → is_sign c ≡ true → is_allowed c ≡ true
      by c h = grind (arith, nat_tests, h)

  text-stands : is_part (git_time_text t) ≡ true
  text-stands =
      all-append is_allowed (decimal n) (space ∷ (offset_mark t ∷ zs)) (decimal-stands n (omega (arith, small)))
      (and_from (is_allowed space) (is_part (offset_mark t ∷ zs)) refl
      (and_from (is_allowed (offset_mark t)) (is_part zs) sign-stands (digits-stand zs are.all)))

  as-is : (name email : List ℕ) → is_part name ≡ true → is_part email ≡ true
      → ShowsAgain (without_end is_blank name) email t (line_as_is name email t)
  as-is name email a b =
      let text = k.first ∷ (k.rest ++ (space ∷ (offset_mark t ∷ zs))) in
      let parts : List ℕ → Parts = λ time. record { name = name; email = email; time = time } in
      let plain : ArePlain (parts text) = subst (λ x. ArePlain (parts x)) text-is (record { name = a; email = b; time = text-stands }) in
      let d : DateText = record { seconds = k.first ∷ k.rest; offset = offset_mark t ∷ zs } in
      let line = line_of (parts text) in
      subst (λ x. ShowsAgain (without_end is_blank name) email t (line_of (parts x))) (sym text-is) (record {
        date = d;
        is_shown = shown name email n k.first k.rest (offset_mark t) zs is plain;
        is_dated = dated;
        is_back = λ same.
            let front = without_end is_blank name in
            let equal = (bytes_eq-Decides (whole_line line) (line_as_is front email (git_time d))).1
            (is_whole name email n k.first k.rest (offset_mark t) zs is plain ∙ same ∙ ap (λ x. line_as_is front email x) (sym dated)) in
            and_from (is_part front && is_part email) (bytes_eq (whole_line line) (line_as_is front email (git_time d)))
            (and_from (is_part front) (is_part email) (front-stands name a) b) equal;
      })

of-seconds : (name email : List ℕ) (z o : ℤ) (kept0 : Bool) → FitsSigned w64 z → FitsSigned w32 o
    → is_part name ≡ true → is_part email ≡ true
    → IsLineTime (record { seconds = z; offset = o; minus_zero = kept0 })
    → ShowsAgain (without_end is_blank name) email (record { seconds = z; offset = o; minus_zero = kept0 })
    (line_as_is name email (record { seconds = z; offset = o; minus_zero = kept0 }))
of-seconds name email (pos n) o kept0 f g a b t =
    as-is n o kept0 (omega (arith, f.sfits)) t.kept (kept-short o t.kept) t.zero name email a b
  where
    kept-short : (z : ℤ) → kept_offset z ≡ z → unsigned_abs z < 2147483648
    kept-short z h = grind (arith, ints, h)
of-seconds name email (negsuc n) o kept0 f g a b t = absurd (grind (arith, ints, t.from))

pub as_is_is_shown : (name email : List ℕ) (t : GitTime) → FitsSigned w64 t.seconds → FitsSigned w32 t.offset → AsIsIsShown name email t
as_is_is_shown name email t f g a b is = of-seconds name email t.seconds t.offset t.minus_zero f g a b is
