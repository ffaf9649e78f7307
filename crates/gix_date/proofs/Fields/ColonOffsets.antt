-- An offset with colons that is read is written so.
use Rattle.std.proofs.Common.{◌≡◌, ◌+◌, ◌-◌, ◌*◌, ℕ, ℤ, Bool, true, cond, List, [], ◌∷◌, ◌⊎◌, inl, Option, Some, None, option_map, refl}
use Rattle.std.proofs.Common.{sym, arith}
use Rattle.std.proofs.lemmas.Option.{cond_some as guard, same_Some as same_some}
use Rattle.std.proofs.lemmas.Bool.Decides.{nat_tests}
use Rattle.std.specs.Char.{is_ascii_digit}
use Rattle.std.specs.Prelude.{◌==◌, ◌&&◌}
use Rattle.gix_date.specs.Fields.FieldTexts.{IsDigit}
use Rattle.gix_date.specs.Fields.DateOffsets.{is_jiff_offset, jiff_offset, last_colon_pair, strict_offset}
use Rattle.gix_date.specs.Text.Front.{skip_char, ◌>>=◌}
use Rattle.gix_date.specs.Fields.Offsets.{read_sign, offset_of}
use Rattle.gix_date.specs.Text.Characters.{colon}
use Rattle.gix_date.specs.Text.Numbers.{read_two_digits}
use Rattle.gix_date.specs.declared.parsing.offset.OffsetFields.{OffsetFields}
use Rattle.gix_date.proofs.Fast.FastHeaders.{sign-taken, fields_at, IsOffsetBy, offset-by}
use Rattle.gix_date.proofs.Fields.FieldsTaken.{went, after-taken, two-taken}

-- nothing, or a colon and two digits
abbrev pub AreLastSeconds : List ℕ → Option ℕ → Type 0
AreLastSeconds x seconds =
    ((x ≡ []) × (seconds ≡ None)) ⊎ ((tens : ℕ) × (ones : ℕ) × (x ≡ colon ∷ tens ∷ ones ∷ []) × IsDigit tens × IsDigit ones
    × (seconds ≡ Some (10 * (tens - 48) + (ones - 48))))

last-by : (c a b : ℕ) (m p q : Bool) (seconds : Option ℕ) → (c == colon) ≡ m → is_ascii_digit a ≡ p → is_ascii_digit b ≡ q
    → cond m (option_map {U = Option ℕ} (λ n. Some n) (cond (p && q) (Some (10 * (a - 48) + (b - 48))) None)) None ≡ Some seconds
    → AreLastSeconds (c ∷ a ∷ b ∷ []) seconds
last-by c a b true true true seconds m e f h = grind (arith, nat_tests, same_some)
last-by c a b x p q seconds m e f h = absurd cc

last-taken : (x : List ℕ) (seconds : Option ℕ) → last_colon_pair x ≡ Some seconds → AreLastSeconds x seconds
unfolding last_colon_pair
last-taken [] seconds e = inl (refl, sym (same_some None seconds e))
last-taken (c ∷ a ∷ b ∷ []) seconds e = last-by c a b (c == colon) (is_ascii_digit a) (is_ascii_digit b) seconds refl refl refl e
last-taken x seconds e = absurd cc

-- a sign, two digits, a colon, two digits, and perhaps a colon and two more
abbrev pub IsColonOffset : List ℕ → OffsetFields → Type 0
IsColonOffset x f = IsOffsetBy (colon ∷ []) AreLastSeconds x f

pub strict-fields : (x : List ℕ) (o : ℤ) → strict_offset x ≡ Some o → (f : OffsetFields) × IsColonOffset x f × (jiff_offset f ≡ Some o)
unfolding strict_offset
strict-fields x o e =
    let sign = went (read_sign x) (λ sign. read_two_digits sign.1 >>= λ h. skip_char colon h.1 >>= λ r. read_two_digits r
    >>= λ m. last_colon_pair m.1 >>= λ s. jiff_offset (fields_at sign.0 h.0 m.0 s)) o e in
    let hours = went (read_two_digits sign.0.1) (λ h. skip_char colon h.1 >>= λ r. read_two_digits r >>= λ m. last_colon_pair m.1
    >>= λ s. jiff_offset (fields_at sign.0.0 h.0 m.0 s)) o sign.2 in
    let next = went (skip_char colon hours.0.1)
    (λ r. read_two_digits r >>= λ m. last_colon_pair m.1 >>= λ s. jiff_offset (fields_at sign.0.0 hours.0.0 m.0 s)) o hours.2 in
    let minutes =
    went (read_two_digits next.0) (λ m. last_colon_pair m.1 >>= λ s. jiff_offset (fields_at sign.0.0 hours.0.0 m.0 s)) o next.2 in
    let seconds = went (last_colon_pair minutes.0.1) (λ s. jiff_offset (fields_at sign.0.0 hours.0.0 minutes.0.0 s)) o minutes.2 in
    let f = fields_at sign.0.0 hours.0.0 minutes.0.0 seconds.0 in
    let a = sign-taken x sign.0.0 sign.0.1 sign.1 in
    let b = two-taken sign.0.1 hours.0.0 hours.0.1 hours.1 in
    let c = two-taken next.0 minutes.0.0 minutes.0.1 minutes.1 in
    let gap = after-taken colon hours.0.1 next.0 next.1 in
    let is = offset-by (colon ∷ []) AreLastSeconds x sign.0.1 hours.0.1 next.0 minutes.0.1 f a b gap c
    (last-taken minutes.0.1 seconds.0 seconds.1) in
    (f, is, seconds.2)

pub strict-taken : (x : List ℕ) (o : ℤ) → strict_offset x ≡ Some o → (f : OffsetFields) × IsColonOffset x f × (o ≡ offset_of f)
strict-taken x o e = let s = strict-fields x o e in (s.0, s.1, sym (guard (is_jiff_offset s.0) (offset_of s.0) o s.2).1)
