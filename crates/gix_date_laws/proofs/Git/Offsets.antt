-- Offsets of Git's own forms are read where they are so written, and nowhere else.
use Rattle.std.proofs.lemmas.Grind.{common_steps}
use Rattle.std.proofs.Common.{◌≡◌, ◌∙◌, ◌≤◌, ℕ, ℤ, pos, true, false, List, [], ◌∷◌, ◌++◌, length, refl, ap, sym, subst, arith, Some, None}
use Rattle.std.proofs.Common.{Option, inl, inr, ◌⊎◌}
use Rattle.std.proofs.lemmas.Option.{cond_some as guard, same_Some as same_some}
use Rattle.std.proofs.lemmas.Bool.{and_parts as both}
use Rattle.std.proofs.lemmas.Bool.Decides.{nat_tests}
use Rattle.std.proofs.lemmas.Slice.Eq.{bytes_eq-Decides}
use Rattle.std.specs.Prelude.{◌==◌, codes}
use Rattle.std.specs.Str.{bytes_eq}
use Rattle.gix_date.specs.Fields.FieldTexts.{IsPair, IsSign}
use Rattle.gix_date.specs.Text.Front.{◌>>=◌}
use Rattle.gix_date.specs.Fields.Offsets.{read_sign, offset_of, offset_by, SignedPairs, OffsetSign}
use Rattle.gix_date.specs.Git.Forms.{git_offset, offset_of_digits, fields_of, without_colons, is_within_a_day}
use Rattle.gix_date.specs.Git.Grammar.{IsGitOffset, IsSignedOffset}
use Rattle.gix_date.specs.Text.Characters.{letter_z}
use Rattle.gix_date.specs.Text.Numbers.{two_digit_value}
use Rattle.gix_date.proofs.Fast.FastHeaders.{sign-taken}
use Rattle.gix_date.proofs.Fields.FieldsTaken.{went}
use Rattle.gix_date_laws.proofs.Numbers.Grammars.{sign-of}

abbrev fields_at : OffsetSign → ℕ → ℕ → SignedPairs
fields_at sign h m = record { sign = sign; hours = h; minutes = m; seconds = None }

-- Two digits.
pair-is : (a b n : ℕ) → two_digit_value a b ≡ Some n → IsPair (a ∷ b ∷ []) n
pair-is a b n h = grind (arith, guard, both)

is-pair : (a b n : ℕ) → IsPair (a ∷ b ∷ []) n → two_digit_value a b ≡ Some n
is-pair a b n h = rw (h.0, h.1) (ap (λ (k : ℕ). Some k) (sym h.2))

-- Two digits, or four.
abbrev AreMinutes : List ℕ → ℕ → Type 0
AreMinutes text n = IsPair text n ⊎ ((text ≡ []) × (n ≡ 0))

record AreDigitsOf (sign : OffsetSign) (digits : List ℕ) (f : SignedPairs) : Type 0 where
  hours : List ℕ
  minutes : List ℕ
  whole : digits ≡ hours ++ minutes
  are_hours : IsPair hours f.hours
  are_minutes : AreMinutes minutes f.minutes
  none : f.seconds ≡ None
  same : sign ≡ f.sign

fields-by : (sign : OffsetSign) (h m : Option ℕ) (f : SignedPairs) → fields_of sign h m ≡ Some f
    → (h ≡ Some f.hours) × (m ≡ Some f.minutes) × (f.seconds ≡ None) × (sign ≡ f.sign)
fields-by sign (Some h) (Some m) f e = grind (arith, same_some)
fields-by sign h m f e = absurd cc

digits-are : (sign : OffsetSign) (digits : List ℕ) (f : SignedPairs) → offset_of_digits sign digits ≡ Some f → AreDigitsOf sign digits f
digits-are sign (a ∷ b ∷ []) f e =
    let k = fields-by sign (two_digit_value a b) (Some 0) f e in
    record {
      hours = a ∷ b ∷ [];
      minutes = [];
      whole = refl;
      are_hours = pair-is a b f.hours k.0;
      are_minutes =
          inr (refl, sym (same_some 0 f.minutes k.1));
      none = k.2;
      same = k.3;
    }
digits-are sign (a ∷ b ∷ c ∷ d ∷ []) f e =
    let k = fields-by sign (two_digit_value a b) (two_digit_value c d) f e in
    record {
      hours = a ∷ b ∷ [];
      minutes = c ∷ d ∷ [];
      whole = refl;
      are_hours = pair-is a b f.hours k.0;
      are_minutes =
          inl (pair-is c d f.minutes k.1);
      none = k.2;
      same = k.3;
    }
digits-are sign digits f e = absurd cc

are-digits : (hours minutes : List ℕ) (f : SignedPairs) → IsPair hours f.hours → AreMinutes minutes f.minutes → f.seconds ≡ None
    → offset_of_digits f.sign (hours ++ minutes) ≡ Some f
are-digits (a ∷ b ∷ []) [] f h (inl m) n = absurd m
are-digits (a ∷ b ∷ []) [] f h (inr m) n = rw (is-pair a b f.hours h) (rw (sym m.1, sym n) refl)
are-digits (a ∷ b ∷ []) (c ∷ []) f h (inl m) n = absurd m
are-digits (a ∷ b ∷ []) (c ∷ d ∷ []) f h (inl m) n = rw (is-pair a b f.hours h, is-pair c d f.minutes m) (rw (sym n) refl)
are-digits (a ∷ b ∷ []) (c ∷ d ∷ x ∷ t) f h (inl m) n = absurd m
are-digits (a ∷ b ∷ []) (c ∷ t) f h (inr m) n = absurd cc
are-digits hours minutes f h m n = absurd h

-- The limits.
within-is : (f : SignedPairs) → is_within_a_day f ≡ true → (f.hours ≤ 23) × (f.minutes ≤ 59)
within-is f h = grind (arith, both, nat_tests)

is-within : (f : SignedPairs) → f.hours ≤ 23 → f.minutes ≤ 59 → is_within_a_day f ≡ true
is-within f h m = grind (arith, nat_tests, h, m)

-- The offset.
empty : (x : List ℕ) → (length x == 0) ≡ true → x ≡ []
empty [] h = refl
empty (c ∷ x) h = let none : length (c ∷ x) ≡ 0 = grind (arith, nat_tests, h) in absurd (omega (arith, none))

nonempty : (c : ℕ) (x : List ℕ) → (length (c ∷ x) == 0) ≡ false
nonempty c x = grind (arith, nat_tests)

signed-is : (text : List ℕ) (n : ℤ)
    → (read_sign text >>= λ g. offset_of_digits g.0 (without_colons g.1) >>= offset_by is_within_a_day) ≡ Some n → IsSignedOffset text n
signed-is text n e =
    let sign = went (read_sign text) (λ g. offset_of_digits g.0 (without_colons g.1) >>= offset_by is_within_a_day) n e in
    let f = went (offset_of_digits sign.0.0 (without_colons sign.0.1)) (λ f. offset_by is_within_a_day f) n sign.2 in
    let g = guard (is_within_a_day f.0) (offset_of f.0) n f.2 in
    let a = sign-taken text sign.0.0 sign.0.1 sign.1 in
    let d = digits-are sign.0.0 (without_colons sign.0.1) f.0 f.1 in
    let w = within-is f.0 g.0 in
    record {
      mark = a.mark;
      body = sign.0.1;
      hours = d.hours;
      minutes = d.minutes;
      fields = f.0;
      whole = a.whole;
      digits = d.whole;
      is_mark = subst (IsSign a.mark) d.same a.is_mark;
      are_hours = (d.are_hours, w.0);
      are_minutes = limited d.minutes f.0.minutes w.1 d.are_minutes;
      no_seconds = d.none;
      value = sym g.1;
    }
  where
    limited : (x : List ℕ) (m : ℕ) → m ≤ 59 → AreMinutes x m → (IsPair x m × (m ≤ 59)) ⊎ ((x ≡ []) × (m ≡ 0))
    limited x m w (inl p) = inl (p, w)
    limited x m w (inr p) = inr p

abbrev first : List ℕ → ℕ
first [] = 0
first (c ∷ x) = c

pub sign-no-z : (mark : ℕ) (sign : OffsetSign) → IsSign mark sign → mark ≡ letter_z → ⊥
sign-no-z mark sign (inl p) z = let is : mark ≡ 43 = p.0 in omega (arith, z, is)
sign-no-z mark sign (inr p) z = let is : mark ≡ 45 = p.0 in omega (arith, z, is)

no-z : (mark : ℕ) (body : List ℕ) (sign : OffsetSign) → IsSign mark sign → bytes_eq (mark ∷ body) (codes "Z") ≡ false
no-z mark body sign m = grind (arith, sign-no-z, bytes_eq-Decides)

is-signed : (text : List ℕ) (n : ℤ) → IsSignedOffset text n → git_offset text ≡ Some n
unfolding git_offset
is-signed text n h =
    let minutes : AreMinutes h.minutes h.fields.minutes = elim h.are_minutes [ inl p ↦ inl p.0 | inr p ↦ inr p ] in
    let low : h.fields.minutes ≤ 59 = elim h.are_minutes [ inl p ↦ p.1 | inr p ↦ omega (arith, p.1) ] in
    let fields : offset_of_digits h.fields.sign (without_colons h.body) ≡ Some h.fields =
    ap (offset_of_digits h.fields.sign) h.digits ∙ are-digits h.hours h.minutes h.fields h.are_hours.0 minutes h.no_seconds in
    ap git_offset h.whole
    ∙ rw (
      nonempty h.mark h.body,
      no-z h.mark h.body h.fields.sign h.is_mark,
      sign-of h.mark h.fields.sign h.body h.is_mark,
      fields,
      is-within h.fields h.are_hours.1 low,
    )
    (ap (λ (k : ℤ). Some k) (sym h.value))

pub offset-is : (text : List ℕ) (n : ℤ) → git_offset text ≡ Some n → IsGitOffset text n
unfolding git_offset
offset-is text n e = grind (arith, nat_tests, common_steps, empty, same_some, bytes_eq-Decides, signed-is)

none-is : git_offset [] ≡ Some (pos 0)
unfolding git_offset
none-is = refl

z-is : git_offset (letter_z ∷ []) ≡ Some (pos 0)
unfolding git_offset
z-is = refl

pub is-offset : (text : List ℕ) (n : ℤ) → IsGitOffset text n → git_offset text ≡ Some n
is-offset text n (inl (inl e, v)) = ap git_offset e ∙ none-is ∙ ap (λ (k : ℤ). Some k) (sym v)
is-offset text n (inl (inr e, v)) = ap git_offset e ∙ z-is ∙ ap (λ (k : ℤ). Some k) (sym v)
is-offset text n (inr h) = is-signed text n h
