-- A text that begins and ends with a visible character has no white space round it.
use Rattle.std.proofs.lemmas.Grind.{common_steps}
use Rattle.std.proofs.Common.{◌≡◌, ◌∙◌, ℕ, ◌-◌, ◌<◌, Bool, true, false, cond, List, [], ◌∷◌, ◌++◌, length, get_or, take, refl, ap, sym}
use Rattle.std.proofs.Common.{arith, encode_utf8_all, IsUtf8}
use Rattle.std.proofs.lemmas.Bool.Decides.{nat_tests}
use Rattle.std.proofs.lemmas.List.Prefix.{end_from_reads}
use Rattle.std.proofs.lemmas.Str.{chars_past_char, chars-append, chars-IsAscii, encodes-chars, encode_ascii, IsUtf8-take}
use Rattle.std.proofs.lemmas.Str.{IsCharBoundary-before_ascii}
use Rattle.std.proofs.lemmas.Str.Ascii.{IsAscii-nil, IsAscii-cons}
use Rattle.std.specs.Char.{is_ascii_graphic, is_whitespace}
use Rattle.std.specs.Prelude.{◌==◌, ◌&&◌}
use Rattle.std.specs.Str.{chars, trim, trim_start, trim_end, skip_leading_whitespace, drop_trailing_whitespace}

pub graphic-ascii : (c : ℕ) → is_ascii_graphic c ≡ true → c < 128
graphic-ascii c h = grind (arith, nat_tests, h)

graphic-stays : (c : ℕ) → is_ascii_graphic c ≡ true → is_whitespace c ≡ false
graphic-stays c h = grind (arith, nat_tests, h)

pub skips-none : (c : ℕ) (cs : List ℕ) → is_whitespace c ≡ false → skip_leading_whitespace (c ∷ cs) ≡ c ∷ cs
skips-none c cs h = ap (λ b. cond b (skip_leading_whitespace cs) (c ∷ cs)) h

some-left : (xs : List ℕ) (c : ℕ) → (length (xs ++ c ∷ []) == 0) ≡ false
some-left [] c = refl
some-left (x ∷ xs) c = grind (arith, nat_tests)

pub kept : (a b : Bool) (ts : List ℕ) → b ≡ false → cond (a && b) [] ts ≡ ts
kept true b ts h = ap (λ q. cond q [] ts) h
kept false b ts h = refl

drops-none : (cs : List ℕ) (c : ℕ) → is_whitespace c ≡ false → drop_trailing_whitespace (cs ++ c ∷ []) ≡ cs ++ c ∷ []
drops-none [] c h = ap (λ b. cond (b && true) [] (c ∷ [])) h
drops-none (x ∷ cs) c h =
    ap (λ (ts : List ℕ). cond (is_whitespace x && length ts == 0) [] (x ∷ ts)) (drops-none cs c h)
    ∙ kept (is_whitespace x) (length (cs ++ c ∷ []) == 0) (x ∷ (cs ++ c ∷ [])) (some-left cs c)

by-last : (t : List ℕ) → 0 < length t → t ≡ take (length t - 1) t ++ get_or t (length t - 1) 0 ∷ []
by-last t some = grind (arith, nat_tests, common_steps, end_from_reads)

-- the characters that stay at the end
ends : (t : List ℕ) → IsUtf8 t → 0 < length t → is_ascii_graphic (get_or t (length t - 1) 0) ≡ true
    → drop_trailing_whitespace (chars t) ≡ chars t
ends t u some h =
    let n = length t - 1 in
    let last = get_or t n 0 in
    let ascii = graphic-ascii last h in
    let one = IsAscii-cons last [] ascii IsAscii-nil in
    let split : chars t ≡ chars (take n t) ++ last ∷ [] =
    ap chars (by-last t some)
    ∙ chars-append (take n t) (last ∷ []) (IsUtf8-take t n u (IsCharBoundary-before_ascii t n (omega arith) ascii))
    ∙ ap (λ (cs : List ℕ). chars (take n t) ++ cs) (chars-IsAscii (last ∷ []) one) in
    ap drop_trailing_whitespace split ∙ drops-none (chars (take n t)) last (graphic-stays last h) ∙ sym split

pub trim_ends : (t : List ℕ) → IsUtf8 t → 0 < length t → is_ascii_graphic (get_or t 0 0) ≡ true
    → is_ascii_graphic (get_or t (length t - 1) 0) ≡ true → trim t ≡ t
unfolding trim_start trim_end
trim_ends [] u some first last = absurd (omega arith)
trim_ends (c ∷ rest) u some first last =
    let t = c ∷ rest in
    let cs : chars t ≡ c ∷ chars rest =
    chars_past_char t rest c u (ap (λ (bs : List ℕ). bs ++ rest) (sym (encode_ascii c (graphic-ascii c first)))) in
    let skipped : skip_leading_whitespace (chars t) ≡ chars t = ap skip_leading_whitespace cs
    ∙ skips-none c (chars rest) (graphic-stays c first) ∙ sym cs in
    let front : encode_utf8_all (skip_leading_whitespace (chars t)) ≡ t = ap encode_utf8_all skipped ∙ encodes-chars t u in
    ap (λ (x : List ℕ). encode_utf8_all (drop_trailing_whitespace (chars x))) front
    ∙ ap encode_utf8_all (ends t u some last) ∙ encodes-chars t u
