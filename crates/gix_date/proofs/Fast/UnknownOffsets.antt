-- Headers as nearly all are, of the offset `-0000`.
use Rattle.std.proofs.Common.{◌≡◌, ◌∙◌, ℕ, List, ◌++◌, Bool, true, false, Some, None, refl, ap, pos, codes}
use Rattle.std.proofs.lemmas.Slice.Eq.{bytes_eq-Decides}
use Rattle.std.specs.List.{before_first}
use Rattle.std.specs.Prelude.{◌&&◌}
use Rattle.std.specs.Str.{bytes_eq}
use Rattle.std.specs.Str.Parse.{digits_value}
use Rattle.gix_date.specs.Fields.Offsets.{offset_fields, read_sign, last_pair}
use Rattle.gix_date.specs.Header.Canonical.{is_canonical_header, is_canonical_offset, is_decimal_text}
use Rattle.gix_date.specs.Header.CanonicalBytes.{are_usual_seconds}
use Rattle.gix_date.specs.Header.Reading.{header_time}
use Rattle.gix_date.specs.Text.Characters.{is_space}
use Rattle.gix_date.specs.Text.Front.{skip_char}
use Rattle.gix_date.specs.Text.Numbers.{decimal_text, read_two_digits}
use Rattle.gix_date.specs.declared.parsing.offset.OffsetFields.{OffsetFields}
use Rattle.gix_date.specs.declared.parsing.offset.Sign.TheVariants.{Minus}
use Rattle.gix_date.proofs.Fast.CanonicalBytes.{usual-seconds}
use Rattle.gix_date.proofs.Fast.FastHeaders.{int-number, plain_time}
use Rattle.gix_date.proofs.Header.HeaderLaws.{after-of, number-bytes}

-- `-0000`, as its fields
abbrev unknown_fields : OffsetFields
unknown_fields = record { sign = Minus; hours = 0; minutes = 0; seconds = None }

are-unknown : offset_fields (codes "-0000") ≡ Some unknown_fields
unfolding offset_fields read_sign skip_char read_two_digits last_pair
are-unknown = refl

not-canonical-offset : is_canonical_offset (codes "-0000") ≡ false
unfolding offset_fields read_sign skip_char read_two_digits last_pair
not-canonical-offset = refl

and_false : (b : Bool) → (b && false) ≡ false
and_false true = refl
and_false false = refl

pub unknown-not-canonical : (ds : List ℕ) → are_usual_seconds ds ≡ true → is_canonical_header (ds ++ codes " -0000") ≡ false
unknown-not-canonical ds h =
    let n = pos (digits_value 10 ds) in
    let bytes = number-bytes ds (int-number ds n (usual-seconds ds h).is_int) in
    let decimal = is_decimal_text (before_first is_space (ds ++ codes " -0000")) in
    ap (λ (zone : List ℕ). decimal && is_canonical_offset zone) (after-of ds (codes "-0000") bytes)
    ∙ ap (λ (b : Bool). decimal && b) not-canonical-offset ∙ and_false decimal

pub unknown-time : (ds : List ℕ) → are_usual_seconds ds ≡ true
    → header_time (ds ++ codes " -0000") ≡ Some (record { seconds = pos (digits_value 10 ds); offset = pos 0 })
unknown-time ds h =
    plain_time (ds ++ codes " -0000") (pos (digits_value 10 ds)) unknown_fields
    (record { front = ds; zone = codes "-0000"; whole = refl; is_seconds = (usual-seconds ds h).is_int; are_fields = are-unknown })

-- digits are the decimal text of their value
pub usual-written : (ds : List ℕ) → are_usual_seconds ds ≡ true → decimal_text (pos (digits_value 10 ds)) ≡ ds
usual-written ds h =
    let seconds = usual-seconds ds h in
    let test : bytes_eq (decimal_text (pos (digits_value 10 ds))) ds ≡ true = rw seconds.is_int at seconds.is_decimal in
    (bytes_eq-Decides (decimal_text (pos (digits_value 10 ds))) ds).0 test
