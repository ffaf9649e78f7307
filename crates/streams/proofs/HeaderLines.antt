-- Lines at the front of bytes that are headers.
use Rattle.std.proofs.Common.{◌≡◌, ◌≢◌, ◌∙◌, ℕ, ◌+◌, ◌≤◌, Bool, true, false, List, [], ◌∷◌, ◌++◌, length, drop, get_or, refl, sym, ap}
use Rattle.std.proofs.Common.{append_assoc, append-nil, length-append, arith, IsAscii, codes}
use Rattle.std.proofs.lemmas.Bool.{and_parts}
use Rattle.std.proofs.lemmas.Bool.Decides.{nat_tests}
use Rattle.std.proofs.lemmas.List.Elements.{All-append, All-cons, All-nil}
use Rattle.std.proofs.lemmas.Str.Ascii.{IsAscii-nil, IsAscii-cons}
use Rattle.std.proofs.Math.Seq.{take-append_seam, drop-append_seam}
use Rattle.std.specs.Char.{is_ascii_digit}
use Rattle.std.specs.List.{list_all}
use Rattle.std.specs.Prelude.{◌==◌, ◌&&◌, ◌||◌, not, nat_lt}
use Rattle.gix_date.specs.Header.Canonical.{is_canonical_header}
use Rattle.gix_date.specs.Header.CanonicalBytes.{are_usual_seconds, are_hours_and_minutes, is_usual_offset}
use Rattle.gix_date.specs.Header.Reading.{IsHeaderLine}
use Rattle.gix_date.specs.declared.time.Time.{Time}
use Rattle.gix_date.specs.Text.Characters.{newline, space, plus, minus, digit_zero}
use Rattle.gix_date.proofs.Fast.CanonicalBytes.{usual_canonical}
use Rattle.streams.specs.Lines.{IsLine, with_newline}
use Rattle.streams.specs.Usual.{BeginsWithHeader, BeginsWithTime, BeginsWithUnknown, HasHeaderInFront}

-- digits, few and the first no zero, are seconds
pub few_are_seconds : (ds : List ℕ) → 1 ≤ length ds → length ds ≤ 16 → list_all is_ascii_digit ds ≡ true → get_or ds 0 0 ≢ 48
    → are_usual_seconds ds ≡ true
unfolding are_usual_seconds
few_are_seconds [] some few digits first = absurd (omega arith)
few_are_seconds (d ∷ ds) some few digits first =
    let parts = and_parts (is_ascii_digit d) (list_all is_ascii_digit ds) digits in
    let short : nat_lt (length ds) 18 ≡ true = grind (arith, nat_tests, few) in
    let nonzero : not (d == digit_zero) ≡ true = grind (arith, nat_tests, first) in
    rw (parts.0, nonzero, short, parts.1) refl

no-newline : (b : ℕ) → is_ascii_digit b ≡ true → b ≢ newline
no-newline b h = grind (arith, nat_tests, h)

digits-line : (ds : List ℕ) → list_all is_ascii_digit ds ≡ true → IsLine ds
digits-line [] h = All-nil (λ b. b ≢ newline)
digits-line (d ∷ ds) h =
    let parts = and_parts (is_ascii_digit d) (list_all is_ascii_digit ds) h in
    All-cons (λ b. b ≢ newline) d ds (no-newline d parts.0) (digits-line ds parts.1)

seconds-line : (ds : List ℕ) → are_usual_seconds ds ≡ true → IsLine ds
unfolding are_usual_seconds
seconds-line [] h = absurd cc
seconds-line (d ∷ ds) h =
    let all = and_parts (is_ascii_digit d && not (d == digit_zero) && nat_lt (length ds) 18) (list_all is_ascii_digit ds) h in
    let few = and_parts (is_ascii_digit d && not (d == digit_zero)) (nat_lt (length ds) 18) all.0 in
    let first = and_parts (is_ascii_digit d) (not (d == digit_zero)) few.0 in
    All-cons (λ b. b ≢ newline) d ds (no-newline d first.0) (digits-line ds all.1)

sign-line : (s a b : ℕ) → ((s == plus) || (s == minus) && not ((a == digit_zero) && (b == digit_zero))) ≡ true → s ≢ newline
sign-line s a b h e = let clash : false ≡ true = rw e at h in absurd cc

offset-line : (x s a b c d : ℕ) → is_usual_offset (x ∷ s ∷ a ∷ b ∷ c ∷ d ∷ []) ≡ true → IsLine (x ∷ s ∷ a ∷ b ∷ c ∷ d ∷ [])
unfolding is_usual_offset
offset-line x s a b c d h =
    let sign : Bool = (s == plus) || (s == minus) && not ((a == digit_zero) && (b == digit_zero)) in
    let parts = and_parts ((x == space) && are_hours_and_minutes a b c d) sign h in
    let marked = and_parts (x == space) (are_hours_and_minutes a b c d) parts.0 in
    let last =
    and_parts (is_ascii_digit a && is_ascii_digit b && is_ascii_digit c && nat_lt c (digit_zero + 6)) (is_ascii_digit d) marked.1 in
    let third = and_parts (is_ascii_digit a && is_ascii_digit b && is_ascii_digit c) (nat_lt c (digit_zero + 6)) last.0 in
    let more = and_parts (is_ascii_digit a && is_ascii_digit b) (is_ascii_digit c) third.0 in
    let two = and_parts (is_ascii_digit a) (is_ascii_digit b) more.0 in
    let P : ℕ → Type 0 = λ n. n ≢ newline in
    let blank : x ≢ newline = grind (arith, nat_tests, marked.0) in
    All-cons P x (s ∷ a ∷ b ∷ c ∷ d ∷ []) blank
    (All-cons P s (a ∷ b ∷ c ∷ d ∷ []) (sign-line s a b parts.1) (All-cons P a (b ∷ c ∷ d ∷ []) (no-newline a two.0)
    (All-cons P b (c ∷ d ∷ []) (no-newline b two.1)
    (All-cons P c (d ∷ []) (no-newline c more.1) (All-cons P d [] (no-newline d last.1) (All-nil P))))))

-- seven bytes, and those after them
pub seven : (r : List ℕ) → 7 ≤ length r
    → r ≡ get_or r 0 0 ∷ get_or r 1 0 ∷ get_or r 2 0 ∷ get_or r 3 0 ∷ get_or r 4 0 ∷ get_or r 5 0 ∷ get_or r 6 0 ∷ drop 7 r
seven (x ∷ s ∷ a ∷ b ∷ c ∷ d ∷ e ∷ r) h = refl
seven [] h = absurd (omega arith)
seven (x ∷ []) h = absurd (omega arith)
seven (x ∷ s ∷ []) h = absurd (omega arith)
seven (x ∷ s ∷ a ∷ []) h = absurd (omega arith)
seven (x ∷ s ∷ a ∷ b ∷ []) h = absurd (omega arith)
seven (x ∷ s ∷ a ∷ b ∷ c ∷ []) h = absurd (omega arith)
seven (x ∷ s ∷ a ∷ b ∷ c ∷ d ∷ []) h = absurd (omega arith)

-- six bytes, and those after them
pub six : (r : List ℕ) → 6 ≤ length r
    → r ≡ get_or r 0 0 ∷ get_or r 1 0 ∷ get_or r 2 0 ∷ get_or r 3 0 ∷ get_or r 4 0 ∷ get_or r 5 0 ∷ drop 6 r
six (x ∷ s ∷ a ∷ b ∷ c ∷ d ∷ r) h = refl
six [] h = absurd (omega arith)
six (x ∷ []) h = absurd (omega arith)
six (x ∷ s ∷ []) h = absurd (omega arith)
six (x ∷ s ∷ a ∷ []) h = absurd (omega arith)
six (x ∷ s ∷ a ∷ b ∷ []) h = absurd (omega arith)
six (x ∷ s ∷ a ∷ b ∷ c ∷ []) h = absurd (omega arith)

-- seconds and an offset are a header in front
pub header-in_front : (bytes seconds after : List ℕ) (x s a b c d : ℕ) → bytes ≡ seconds ++ (x ∷ s ∷ a ∷ b ∷ c ∷ d ∷ after)
    → are_usual_seconds seconds ≡ true
    → length seconds ≤ 16 → is_usual_offset (x ∷ s ∷ a ∷ b ∷ c ∷ d ∷ []) ≡ true → HasHeaderInFront bytes after
header-in_front bytes seconds after x s a b c d e h few k =
    let offset = x ∷ s ∷ a ∷ b ∷ c ∷ d ∷ [] in
    let header = seconds ++ offset in
    record {
      header = header;
      whole = e ∙ sym (append_assoc seconds offset after);
      is_line = All-append (λ n. n ≢ newline) seconds offset (seconds-line seconds h) (offset-line x s a b c d k);
      is_canonical = usual_canonical header seconds offset (length seconds) (sym (take-append_seam seconds offset))
          (sym (drop-append_seam seconds offset)) h k;
      is_short = omega (arith, length-append seconds offset, few);
    }

-- such a header before a newline is a line
pub header_is_line : (bytes rest after : List ℕ) → HasHeaderInFront bytes rest → rest ≡ newline ∷ after → BeginsWithHeader bytes after
header_is_line bytes rest after h e = record {
  line = h.header;
  whole = h.whole ∙ ap (λ xs. h.header ++ xs) e ∙ sym (append_assoc h.header (newline ∷ []) after);
  is_line = h.is_line;
  is_canonical = h.is_canonical;
  is_short = h.is_short;
}

-- and where nothing stands after it, it is all
pub header_is_all : (bytes rest : List ℕ) → HasHeaderInFront bytes rest → rest ≡ [] → is_canonical_header bytes ≡ true
header_is_all bytes rest h e =
    ap is_canonical_header (h.whole ∙ ap (λ xs. h.header ++ xs) e ∙ append-nil h.header) ∙ h.is_canonical

-- a header of a time before a newline is a line
pub time_is_line : (bytes line rest after : List ℕ) (t : Time) → bytes ≡ line ++ rest → rest ≡ newline ∷ after → IsHeaderLine line t
    → BeginsWithTime bytes t after
time_is_line bytes line rest after t cut e h = record {
  line = line;
  whole = cut ∙ ap (λ xs. line ++ xs) e ∙ sym (append_assoc line (newline ∷ []) after);
  is_header = h;
}

zero-line : IsLine (codes " -0000")
zero-line =
    let P : ℕ → Type 0 = λ n. n ≢ newline in
    All-cons P 32 (codes "-0000") (λ e. omega arith)
    (All-cons P 45 (codes "0000") (λ e. omega arith) (All-cons P 48 (codes "000") (λ e. omega arith)
    (All-cons P 48 (codes "00") (λ e. omega arith)
    (All-cons P 48 (codes "0") (λ e. omega arith) (All-cons P 48 [] (λ e. omega arith) (All-nil P))))))

-- seconds, the unknown offset and a newline are a line at the front
pub zero-header : (bytes seconds after : List ℕ) (x s a b c d : ℕ) → bytes ≡ seconds ++ (x ∷ s ∷ a ∷ b ∷ c ∷ d ∷ newline ∷ after)
    → are_usual_seconds seconds ≡ true
    → length seconds ≤ 16 → x ∷ s ∷ a ∷ b ∷ c ∷ d ∷ [] ≡ codes " -0000" → BeginsWithUnknown bytes seconds after
zero-header bytes seconds after x s a b c d e h few k =
    let offset = x ∷ s ∷ a ∷ b ∷ c ∷ d ∷ [] in
    let line = seconds ++ offset in
    let cut = append_assoc line (newline ∷ []) after ∙ append_assoc seconds offset (newline ∷ after) in
    record {
      whole = e ∙ sym cut ∙ ap (λ zone. with_newline (seconds ++ zone) ++ after) k;
      is_line = All-append (λ n. n ≢ newline) seconds (codes " -0000") (seconds-line seconds h) zero-line;
      are_seconds = h;
      is_short = omega (arith, length-append seconds (codes " -0000"), few);
    }

digits-ascii : (ds : List ℕ) → list_all is_ascii_digit ds ≡ true → IsAscii ds
digits-ascii [] h = IsAscii-nil
digits-ascii (d ∷ ds) h =
    let parts = and_parts (is_ascii_digit d) (list_all is_ascii_digit ds) h in
    IsAscii-cons d ds (grind (arith, nat_tests, parts.0)) (digits-ascii ds parts.1)

pub seconds-ascii : (ds : List ℕ) → are_usual_seconds ds ≡ true → IsAscii ds
unfolding are_usual_seconds
seconds-ascii [] h = absurd cc
seconds-ascii (d ∷ ds) h =
    let all = and_parts (is_ascii_digit d && not (d == digit_zero) && nat_lt (length ds) 18) (list_all is_ascii_digit ds) h in
    let few = and_parts (is_ascii_digit d && not (d == digit_zero)) (nat_lt (length ds) 18) all.0 in
    let first = and_parts (is_ascii_digit d) (not (d == digit_zero)) few.0 in
    IsAscii-cons d ds (grind (arith, nat_tests, first.0)) (digits-ascii ds all.1)
