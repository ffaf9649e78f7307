-- Header texts with raw offsets, and bare seconds, are parsed back.
use Rattle.std.proofs.Common.{◌≡◌, ◌∙◌, ◌*◌, ◌/◌, ◌%◌, ◌<◌, ◌≤◌, ◌≤ℤ◌, ℕ, ℤ, true, List, [], ◌∷◌, ◌++◌, refl, ap, sym, subst, arith, Some}
use Rattle.std.proofs.Common.{Option, IsUtf8, unsigned_abs, FitsSigned, w64, suc, IsSomeAnd, rules}
use Rattle.std.proofs.lemmas.Bool.Decides.{nat_tests}
use Rattle.std.proofs.lemmas.Str.{IsUtf8-from_ascii}
use Rattle.std.specs.Int.Signed.{le_z}
use Rattle.std.specs.Prelude.{◌==◌, ◌||◌, nat_le}
use Rattle.gix_date.specs.Families.Answer.{Absolute}
use Rattle.gix_date.specs.Text.Characters.{space}
use Rattle.gix_date.specs.Families.Epoch.{epoch_time, utc_time}
use Rattle.gix_date.specs.Families.Order.{first_family_by}
use Rattle.gix_date.specs.Header.Text.{header_text}
use Rattle.gix_date.specs.Fields.Offsets.{compact_offset_text, offset_fields, offset_of}
use Rattle.gix_date.specs.Text.Numbers.{int_value, decimal_text}
use Rattle.gix_date.specs.Printing.ReadingBack.{IsQuarterOffset, IsMinuteOffset}
use Rattle.gix_date.specs.Families.Raw.{OffsetRule, raw_time_by, raw_offset_by, is_quarter_offset, is_minute_offset}
use Rattle.gix_date.specs.Text.SpaceWords.{space_words}
use Rattle.gix_date.specs.declared.parsing.dates.TheConstants.{MIN_EPOCH}
use Rattle.gix_date.specs.declared.parsing.offset.OffsetFields.{OffsetFields}
use Rattle.gix_date.specs.declared.time.Time.{Time}
use Rattle.gix_date.proofs.Fields.FieldsTaken.{time_at}
use Rattle.gix_date.proofs.Header.HeaderLaws.{written-by, decimal-int, zone-read, back-to, written_fields, number-bytes, two-utf8}
use Rattle.gix_date.proofs.Fast.FastHeaders.{int-number, offset-number, two-words, IsNumber, are_ascii}
use Rattle.gix_date.proofs.Families.Exclusive.{raw-first-family, epoch-first-family}

-- Which written offsets the rules allow.
quarter-minutes : (m k : ℕ) → m ≡ 15 * k → k < 4 → (m == 0 || m == 15 || m == 30 || m == 45) ≡ true
quarter-minutes m (suc (suc (suc (suc k)))) e h = absurd (omega arith)
quarter-minutes m k e h = rw e refl

quarters : (n : ℕ) → n % 900 ≡ 0 → n % 3600 / 60 ≡ 15 * (n % 3600 / 900)
quarters n h = omega arith

few-hours : (n : ℕ) → n < 54000 → nat_le (n / 3600) 14 ≡ true
few-hours n h = let few : n / 3600 ≤ 14 = omega arith in grind (arith, nat_tests)

is-quarter-of : (o : ℤ) → unsigned_abs o % 900 ≡ 0 → unsigned_abs o < 54000 → is_quarter_offset (written_fields o) ≡ true
is-quarter-of o m h = grind (arith, few-hours, quarter-minutes, quarters)

hours-of-day : (n : ℕ) → n < 86400 → nat_le (n / 3600) 23 ≡ true
hours-of-day n h = let few : n / 3600 ≤ 23 = omega arith in grind (arith, nat_tests)

minutes-of-hour : (n : ℕ) → nat_le (n % 3600 / 60) 59 ≡ true
minutes-of-hour n = let few : n % 3600 / 60 ≤ 59 = omega arith in grind (arith, nat_tests)

-- A header text is a raw text by each rule that allows its offset.
by-raw-words : (rule : OffsetRule) (text a b : List ℕ) (n : ℤ) (f : OffsetFields) → space_words text ≡ a ∷ b ∷ [] → int_value a ≡ Some n
    → offset_fields b ≡ Some f → rule f ≡ true → raw_time_by rule text ≡ Some (record { seconds = n; offset = offset_of f })
unfolding raw_time_by raw_offset_by
by-raw-words rule text a b n f w e h q = rw (w, e, h, q) refl

words-of-two : (front zone : List ℕ) → IsNumber front → IsNumber zone → space_words (front ++ (space ∷ zone)) ≡ front ∷ zone ∷ []
words-of-two front zone a b = rw (a.whole, b.whole) (two-words a.first b.first a.rest b.rest a.bytes b.bytes)

back-by : (rule : OffsetRule) (t : Time) → FitsSigned w64 t.seconds → unsigned_abs t.offset < 360000 → unsigned_abs t.offset % 60 ≡ 0
    → rule (written_fields t.offset) ≡ true
    → IsSomeAnd (header_text t) (λ text. first_family_by rule text ≡ Some (Absolute t))
back-by rule t f short minutes allowed =
    let front = decimal_text t.seconds in
    let zone = compact_offset_text t.offset in
    let text = front ++ (space ∷ zone) in
    let int = decimal-int t.seconds f in
    let fields = zone-read t.offset short in
    let a = int-number front t.seconds int in
    let b = offset-number zone (written_fields t.offset) fields in
    let words = words-of-two front zone a b in
    let read = by-raw-words rule text front zone t.seconds (written_fields t.offset) words int fields allowed in
    let same : raw_time_by rule text ≡ Some t = read ∙ ap (λ (o : ℤ). Some (time_at t.seconds o)) (back-to t.offset minutes) in
    subst (λ (r : Option (List ℕ)). IsSomeAnd r (λ text. first_family_by rule text ≡ Some (Absolute t))) (sym (written-by t short))
    (raw-first-family rule text t (two-utf8 front zone (number-bytes front a) (number-bytes zone b)) same)

pub raw_back : (t : Time) → FitsSigned w64 t.seconds → IsQuarterOffset t.offset
    → IsSomeAnd (header_text t) (λ text. first_family_by is_quarter_offset text ≡ Some (Absolute t))
raw_back t f raw = grind (arith, back-by, is-quarter-of, quarters)

pub wide_back : (t : Time) → FitsSigned w64 t.seconds → IsMinuteOffset t.offset
    → IsSomeAnd (header_text t) (λ text. first_family_by is_minute_offset text ≡ Some (Absolute t))
wide_back t f wide = grind (arith, back-by, hours-of-day, minutes-of-hour)

-- bare seconds
pub seconds_back : (rule : OffsetRule) (n : ℤ) → FitsSigned w64 n → MIN_EPOCH ≤ℤ n
    → first_family_by rule (decimal_text n) ≡ Some (Absolute (utc_time n))
unfolding epoch_time
seconds_back rule n f least =
    let h : le_z MIN_EPOCH n ≡ true = search rules in
    let text = decimal_text n in
    let int = decimal-int n f in
    let u : IsUtf8 text = IsUtf8-from_ascii text (are_ascii text (number-bytes text (int-number text n int))) in
    epoch-first-family rule text (utc_time n) u (rw (int, h) refl)
