-- Where the rest of a Git text is cut that ends in a usual offset: a sign, two digits of hours and two of minutes, perhaps with a colon
-- between.
use Rattle.std.proofs.lemmas.Grind.{common_steps}
use Rattle.std.proofs.Common.{◌≡◌, ◌∙◌, ℕ, suc, zero, ◌+◌, ◌-◌, ◌<◌, Bool, true, false, List, [], ◌∷◌, ◌++◌, inl, inr, length, get_or, refl}
use Rattle.std.proofs.Common.{ap, sym, Option, Some, None, arith, append_assoc, length-append}
use Rattle.std.proofs.Math.Seq.{get_or-append_seam, take-append_seam, drop-append-add, drop-append_seam}
use Rattle.std.proofs.lemmas.Bool.{and_parts as both, and_from as join, not-true as not_is}
use Rattle.std.proofs.lemmas.Bool.Decides.{nat_tests}
use Rattle.std.proofs.lemmas.List.{get_or-append-add}
use Rattle.std.proofs.lemmas.Str.{IsUtf8-from_ascii}
use Rattle.std.specs.Char.{is_ascii_digit, is_ascii_graphic}
use Rattle.std.specs.List.{list_all}
use Rattle.std.specs.Option.{option_or}
use Rattle.std.specs.Prelude.{◌==◌, ◌&&◌, ◌||◌, nat_lt, not, slice_index, unwrap_or}
use Rattle.std.specs.Str.{trim}
use Rattle.gix_date.specs.Fields.FieldTexts.{IsSign, IsDigit}
use Rattle.gix_date.specs.Git.ClockCut.{is_sign, has_offset_at, trimmed_after, last_space, last_sign, cut_at_z, cut_at_space, cut_at_sign}
use Rattle.gix_date.specs.Git.ClockCut.{clock_cut}
use Rattle.gix_date.specs.Text.Characters.{space, colon, letter_z, is_colon}
use Rattle.gix_date.specs.Fields.Offsets.{OffsetSign as Sign}
use Rattle.gix_date.proofs.Text.AsciiCuts.{ascii-by, all-append}
use Rattle.gix_date.proofs.Git.ClockCuts.{z_none, space_none, space_found, sign_found}
use Rattle.gix_date.proofs.Text.LastPlaces.{last_is, last_none}
use Rattle.gix_date.proofs.Text.Trimmed.{trim_ends, graphic-ascii}

abbrev pub is_clock_byte : ℕ → Bool
is_clock_byte c = is_ascii_digit c || c == colon

-- one byte
pub digit-byte : (c : ℕ) → IsDigit c → is_clock_byte c ≡ true
digit-byte c h = grind (arith, nat_tests, h)

pub digit-no-colon : (c : ℕ) → IsDigit c → is_colon c ≡ false
digit-no-colon c h = grind (arith, nat_tests, h)

byte-graphic : (c : ℕ) → is_clock_byte c ≡ true → is_ascii_graphic c ≡ true
byte-graphic c h = grind (arith, nat_tests, h)

pub byte-no-space : (c : ℕ) → is_clock_byte c ≡ true → (c == space) ≡ false
byte-no-space c h = grind (arith, nat_tests, h)

byte-no-z : (c : ℕ) → is_clock_byte c ≡ true → (c == letter_z) ≡ false
byte-no-z c h = grind (arith, nat_tests, h)

byte-no-sign : (c : ℕ) → is_clock_byte c ≡ true → is_sign c ≡ false
byte-no-sign c h = grind (arith, nat_tests, h)

sign-graphic : (c : ℕ) → is_sign c ≡ true → is_ascii_graphic c ≡ true
sign-graphic c h = grind (arith, nat_tests, h)

sign-no-space : (c : ℕ) → is_sign c ≡ true → (c == space) ≡ false
sign-no-space c h = grind (arith, nat_tests, h)

-- all bytes
pub all-get : (p : ℕ → Bool) (xs : List ℕ) → list_all p xs ≡ true → (i : ℕ) → i < length xs → p (get_or xs i 0) ≡ true
all-get p [] h i l = absurd (omega arith)
all-get p (x ∷ xs) h zero l = (both (p x) (list_all p xs) h).0
all-get p (x ∷ xs) h (suc i) l = all-get p xs (both (p x) (list_all p xs) h).1 i (omega arith)

pub all-imply : (p q : ℕ → Bool) (xs : List ℕ) → ((c : ℕ) → p c ≡ true → q c ≡ true) → list_all p xs ≡ true → list_all q xs ≡ true
all-imply p q [] f h = refl
all-imply p q (x ∷ xs) f h = let parts = both (p x) (list_all p xs) h in join _ _ (f x parts.0) (all-imply p q xs f parts.1)

-- a sign, a digit, and digits and colons
pub record IsOffsetText (text : List ℕ) : Type 0 where
  pub sign : ℕ
  pub rest : List ℕ
  pub whole : text ≡ sign ∷ rest
  pub is_sign : is_sign sign ≡ true
  pub some : 0 < length rest
  pub first : is_ascii_digit (get_or rest 0 0) ≡ true
  pub bytes : list_all is_clock_byte rest ≡ true

pub mark-sign : (c : ℕ) (s : Sign) → IsSign c s → is_sign c ≡ true
mark-sign c s (inl h) = ap is_sign h.0
mark-sign c s (inr h) = ap is_sign h.0

-- what stands behind a front
behind : (front more : List ℕ) (i k : ℕ) → i ≡ length front + k → get_or (front ++ more) i 0 ≡ get_or more k 0
behind front more i k e = ap (λ j. get_or (front ++ more) j 0) e ∙ get_or-append-add front more k 0

-- a text that ends so does not end in `Z`
ends-so : (front rest : List ℕ) → 0 < length rest → list_all is_clock_byte rest ≡ true → cut_at_z (front ++ rest) ≡ None
ends-so front rest some bytes = grind (arith, nat_tests, common_steps, behind, length-append, z_none, byte-no-z, all-get)

offset-trimmed : (s : ℕ) (rest : List ℕ) → is_sign s ≡ true → 0 < length rest → list_all is_clock_byte rest ≡ true
    → trim (s ∷ rest) ≡ s ∷ rest
offset-trimmed s rest h some bytes =
    let ascii = ascii-by is_ascii_graphic graphic-ascii (s ∷ rest)
    (join _ _ (sign-graphic s h) (all-imply is_clock_byte is_ascii_graphic rest byte-graphic bytes)) in
    let k = length rest - 1 in
    let place : length (s ∷ rest) - 1 ≡ suc k = omega arith in
    let last : get_or (s ∷ rest) (length (s ∷ rest) - 1) 0 ≡ get_or rest k 0 = ap (λ j. get_or (s ∷ rest) j 0) place in
    trim_ends (s ∷ rest) (IsUtf8-from_ascii (s ∷ rest) ascii) (omega arith) (sign-graphic s h)
    (ap is_ascii_graphic last ∙ byte-graphic (get_or rest k 0) (all-get is_clock_byte rest bytes k (omega arith)))

-- after the space is none
after-gap : (front : List ℕ) (s : ℕ) (rest : List ℕ) → is_sign s ≡ true → list_all is_clock_byte rest ≡ true → (i : ℕ) → length front < i
    → i < length front + suc (suc (length rest))
    → (get_or (front ++ space ∷ s ∷ rest) i 0 == space) ≡ false
after-gap front s rest h bytes i a b =
    grind (arith, nat_tests, common_steps, behind, join, sign-no-space, all-imply, byte-no-space, not_is, all-get)

-- the last space, and what stands before the offset there
pub gap-at : (front : List ℕ) (s : ℕ) (rest : List ℕ) → is_sign s ≡ true → list_all is_clock_byte rest ≡ true
    → last_space (front ++ space ∷ s ∷ rest) ≡ Some (length front)
unfolding last_space
gap-at front s rest h bytes =
    let zone = s ∷ rest in
    let u = front ++ space ∷ zone in
    let n = length front in
    let size = length-append front (space ∷ zone) in
    let after : (i : ℕ) → n < i → i < length u
    → (slice_index u i == space) ≡ false = λ i a b. after-gap front s rest h bytes i a (omega (arith, size)) in
    last_is (λ i. slice_index u i == space) (length u) n (record {
      within = omega (arith, size);
      passes = ap (λ c. c == space) (get_or-append_seam front space zone 0);
      last = after;
    })

-- one space before the offset
pub cut-after-space : (front : List ℕ) (s : ℕ) (rest : List ℕ) → 5 < length front → is_sign s ≡ true → 0 < length rest
    → list_all is_clock_byte rest ≡ true
    → clock_cut (front ++ space ∷ s ∷ rest) ≡ (front, s ∷ rest)
unfolding clock_cut
cut-after-space front s rest long h some bytes =
    let zone = s ∷ rest in
    let u = front ++ space ∷ zone in
    let n = length front in
    let no_z : cut_at_z u ≡ None = ap cut_at_z (sym (append_assoc front (space ∷ s ∷ []) rest))
    ∙ ends-so (front ++ space ∷ s ∷ []) rest some bytes in
    let at = gap-at front s rest h bytes in
    let trimmed : trimmed_after u n ≡ zone = ap trim (drop-append-add front (space ∷ zone) 1) ∙ offset-trimmed s rest h some bytes in
    let cut : cut_at_space u ≡ Some (front, zone) =
    space_found u zone front n (sym at) (sym trimmed) (sym (take-append_seam front (space ∷ zone))) long h in
    ap (λ (r : Option (List ℕ × List ℕ)). unwrap_or (option_or r (option_or (cut_at_space u) (cut_at_sign u))) (u, [])) no_z
    ∙ ap (λ (r : Option (List ℕ × List ℕ)). unwrap_or (option_or r (cut_at_sign u)) (u, [])) cut

-- no space before the offset, nor anywhere else
abbrev pub is_no_space : ℕ → Bool
is_no_space c = not (c == space)

pub byte-is-no-space : (c : ℕ) → is_clock_byte c ≡ true → is_no_space c ≡ true
byte-is-no-space c h = ap not (byte-no-space c h)

no-offset : (a b c : Bool) → b ≡ false → (a && b && c) ≡ false
no-offset true b c h = ap (λ q. q && c) h
no-offset false b c h = refl

-- a sign begins the offset, where no space does
pub cut-by-sign : (front : List ℕ) (s : ℕ) (rest : List ℕ) → 1 < length front → cut_at_space (front ++ s ∷ rest) ≡ None → is_sign s ≡ true
    → 0 < length rest
    → is_ascii_digit (get_or rest 0 0) ≡ true → list_all is_clock_byte rest ≡ true → clock_cut (front ++ s ∷ rest) ≡ (front, s ∷ rest)
unfolding clock_cut last_sign
cut-by-sign front s rest long no_space h some first bytes =
    let zone = s ∷ rest in
    let u = front ++ zone in
    let n = length front in
    let size = length-append front zone in
    let no_z : cut_at_z u ≡ None = ap cut_at_z (sym (append_assoc front (s ∷ []) rest)) ∙ ends-so (front ++ s ∷ []) rest some bytes in
    let high : nat_lt 1 n ≡ true = grind (arith, nat_tests, long) in
    let here : is_sign (get_or u n 0) ≡ true = ap is_sign (get_or-append_seam front s rest 0) ∙ h in
    let next : is_ascii_digit (get_or u (n + 1) 0) ≡ true = ap is_ascii_digit (behind front zone (n + 1) 1 refl) ∙ first in
    let after : (i : ℕ) → n < i → i < length u → has_offset_at u i ≡ false = λ i a b.
    let k = i - n - 1 in
    let byte : get_or u i 0 ≡ get_or rest k 0 = behind front zone i (suc k) (omega arith) in
    no-offset (nat_lt 1 i) (is_sign (get_or u i 0)) (is_ascii_digit (get_or u (i + 1) 0))
    (ap is_sign byte ∙ byte-no-sign (get_or rest k 0) (all-get is_clock_byte rest bytes k (omega (arith, size)))) in
    let at : last_sign u ≡ Some n = last_is (has_offset_at u) (length u) n
    (record { within = omega (arith, size); passes = join _ _ (join _ _ high here) next; last = after }) in
    let cut : cut_at_sign u ≡ Some (front, zone) =
    sign_found u front zone n (sym at) (sym (take-append_seam front zone)) (sym (drop-append_seam front zone)) in
    ap (λ (r : Option (List ℕ × List ℕ)). unwrap_or (option_or r (option_or (cut_at_space u) (cut_at_sign u))) (u, [])) no_z
    ∙ ap (λ (r : Option (List ℕ × List ℕ)). unwrap_or (option_or r (cut_at_sign u)) (u, [])) no_space
    ∙ ap (λ (r : Option (List ℕ × List ℕ)). unwrap_or r (u, [])) cut

pub cut-at-a-sign : (front : List ℕ) (s : ℕ) (rest : List ℕ) → 1 < length front → list_all is_no_space front ≡ true → is_sign s ≡ true
    → 0 < length rest
    → is_ascii_digit (get_or rest 0 0) ≡ true → list_all is_clock_byte rest ≡ true → clock_cut (front ++ s ∷ rest) ≡ (front, s ∷ rest)
unfolding last_space
cut-at-a-sign front s rest long quiet h some first bytes =
    let u = front ++ s ∷ rest in
    let none : list_all is_no_space u ≡ true = all-append is_no_space front (s ∷ rest) quiet
    (join _ _ (ap not (sign-no-space s h)) (all-imply is_clock_byte is_no_space rest byte-is-no-space bytes)) in
    let no_space : cut_at_space u ≡ None = space_none u (sym
    (last_none (λ i. slice_index u i == space) (length u) (λ i l. not_is (get_or u i 0 == space) (all-get is_no_space u none i l)))) in
    cut-by-sign front s rest long no_space h some first bytes
