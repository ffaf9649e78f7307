-- What is written of a name, an email and a time, and how it is cut.
use Rattle.std.proofs.Common.{◌≡◌, ◌≢◌, ℕ, ◌+◌, ◌/◌, ◌%◌, ◌^◌, ◌<◌, suc, Bool, true, false, cond, not, ◌&&◌, ◌==◌, List, [], ◌∷◌, ◌++◌}
use Rattle.std.proofs.Common.{length, ℤ, pos, negsuc, Option, Some, None, Result, Ok, Err, IsSomeAnd, IfOk, OnOk, ok_or, option_map}
use Rattle.std.proofs.Common.{unwrap_or, unsigned_abs, FitsSigned, w64, refl, ap, subst, arith, length-append}
use Rattle.std.proofs.lemmas.Bool.{and_from}
use Rattle.std.proofs.lemmas.Bool.Decides.{nat_tests}
use Rattle.std.proofs.lemmas.Fmt.{decimal_by_steps}
use Rattle.std.specs.Fmt.{decimal}
use Rattle.std.specs.Prelude.{if◌then◌else◌}
use Rattle.gix_date.specs.Text.Characters.{space, plus, minus}
use Rattle.gix_date.specs.Header.Reading.{header_time}
use Rattle.gix_date.specs.Header.Text.{header_text}
use Rattle.gix_date.specs.Fields.Offsets.{compact_offset_text}
use Rattle.gix_date.specs.Devices.StreamState.{StreamState, Takes}
use Rattle.gix_date.specs.Text.Numbers.{decimal_text, two_digits}
use Rattle.gix_date.specs.declared.time.Time.{Time}
use Rattle.gix_date.proofs.Header.HeaderLaws.{written_text_is_read}
use Rattle.gix_signature.specs.Signature.{is_allowed, is_part, line_of}
use Rattle.gix_signature.specs.Writing.{line_due, parts_due, WritesLine, IsWritten}
use Rattle.gix_signature.specs.declared.error.SignatureError.{SignatureError}
use Rattle.gix_signature.specs.declared.error.SignatureError.TheVariants.{BadPart, OffsetTooWide}
use Rattle.gix_date.proofs.Text.AsciiCuts.{all-append}

pub differs : (a b : ℕ) → a ≢ b → (a == b) ≡ false
differs a b h = grind (arith, nat_tests, h)

-- A header text may stand in a line.
digit-stands : (n : ℕ) → n < 10 → is_allowed (48 + n) ≡ true
digit-stands n h = grind (arith, differs)

one-stands : (n : ℕ) → n < 10 → is_part ((48 + n) ∷ []) ≡ true
one-stands n h = and_from (is_allowed (48 + n)) true (digit-stands n h) refl

pub decimal-stands : (n : ℕ) → n < 2 ^ 64 → is_part (decimal n) ≡ true
decimal-stands = decimal_by_steps (λ n ds. is_part ds ≡ true) one-stands
    (λ n ds more k. all-append is_allowed ds ((48 + n % 10) ∷ []) k (one-stands (n % 10) (omega arith)))

seconds-stand : (z : ℤ) → FitsSigned w64 z → is_part (decimal_text z) ≡ true
seconds-stand (pos n) f = decimal-stands n (omega (arith, f.sfits))
seconds-stand (negsuc n) f = decimal-stands (suc n) (omega (arith, f.sfits))

pair-stands : (n : ℕ) → n < 100 → is_part (two_digits n) ≡ true
pair-stands n h = and_from (is_allowed (48 + n / 10)) _ (digit-stands (n / 10) (omega arith)) (one-stands (n % 10) (omega arith))

sign-stands : (b : Bool) → is_allowed (if b then minus else plus) ≡ true
sign-stands true = refl
sign-stands false = refl

zone-stands : (o : ℤ) → unsigned_abs o < 360000 → is_part (compact_offset_text o) ≡ true
zone-stands o h = grind (arith, and_from, sign-stands, all-append, pair-stands)

text-of : (b : Bool) (xs text : List ℕ) → cond b (Some xs) None ≡ Some text → (b ≡ true) × (xs ≡ text)
text-of true xs text e = (refl, ap (λ o. unwrap_or o []) e)
text-of false xs text e = absurd cc

filled : (xs ys : List ℕ) → not (length (xs ++ (space ∷ ys)) == 0) ≡ true
filled xs ys = rw (differs (length (xs ++ (space ∷ ys))) 0 (λ e. omega (arith, e, length-append xs (space ∷ ys)))) refl

-- what stands of a header text
pub record IsText (t : Time) (text : List ℕ) : Type 0 where
  pub short : unsigned_abs t.offset < 360000
  pub whole : text ≡ decimal_text t.seconds ++ (space ∷ compact_offset_text t.offset)
  pub stands : is_part text ≡ true
  pub some : not (length text == 0) ≡ true

pub text-is : (t : Time) (text : List ℕ) → FitsSigned w64 t.seconds → header_text t ≡ Some text → IsText t text
unfolding header_text
text-is t text f e = grind (arith, text-of, nat_tests, all-append, seconds-stand, zone-stands, filled)

-- What is due is cut so again.
due-by : (name email : List ℕ) (t : Time) → FitsSigned w64 t.seconds → (b : Bool) → (is_part name && is_part email) ≡ b
    → (o : Option (List ℕ)) → header_text t ≡ o
    → IfOk (cond b (ok_or (option_map line_of (option_map (λ text. record { name = name; email = email; time = text }) o)) OffsetTooWide)
    (Err BadPart)) (IsWritten name email t)
due-by name email t f false parts o h = tt
due-by name email t f true parts None h = tt
due-by name email t f true parts (Some text) h =
    let is = text-is t text f h in
    record {
      text = text;
      is_text = h;
      cut = record {
        whole = refl;
        allowed =
            and_from (is_part name && is_part email && is_part text) _ (and_from (is_part name && is_part email) _ parts is.stands) is.some;
      };
      back = λ whole. subst (λ r. IsSomeAnd r (λ x. header_time x ≡ Some t)) h (written_text_is_read t f is.short whole);
    }

pub written_is_cut : (name email : List ℕ) (t : Time) → FitsSigned w64 t.seconds → IfOk (line_due name email t) (IsWritten name email t)
written_is_cut name email t f = due-by name email t f (is_part name && is_part email) refl (header_text t) refl

-- What writing comes to.
pub due-is : (name email : List ℕ) (t : Time) → is_part name ≡ true → is_part email ≡ true
    → line_due name email t ≡ ok_or (option_map line_of (parts_due name email t)) OffsetTooWide
due-is name email t h k = grind (arith, and_from)

wrote-by : (due : Result (List ℕ) SignatureError) (Is : List ℕ → Type 0) (old new : StreamState) (r : Result (Unit {0}) SignatureError)
    → IfOk due Is → WritesLine due old new r
    → OnOk r ((line : List ℕ) × Is line × Takes old new line)
wrote-by (Ok line) Is old new (Ok u) is h = (line, is, h)
wrote-by (Err e) Is old new (Ok u) is h = absurd h
wrote-by (Ok line) Is old new (Err e) is h = tt
wrote-by (Err d) Is old new (Err e) is h = tt

pub wrote : (name email : List ℕ) (t : Time) (old new : StreamState) (r : Result (Unit {0}) SignatureError) → FitsSigned w64 t.seconds
    → WritesLine (line_due name email t) old new r
    → OnOk r ((line : List ℕ) × IsWritten name email t line × Takes old new line)
wrote name email t old new r f h = wrote-by (line_due name email t) (IsWritten name email t) old new r (written_is_cut name email t f) h
