-- What formats usually ask for, which one walk over a format shows at once.
use Rattle.std.proofs.Common.{◌≡◌, ◌∙◌, ◌+◌, ◌<◌, ◌≤◌, ℕ, true, false, List, [], ◌∷◌, ◌++◌, length, take, drop}
use Rattle.std.proofs.Common.{get_or, decimal, refl, ap, sym}
use Rattle.std.proofs.Common.{arith, append-nil, append_assoc, ◌-◌, Option, Some}
use lib.Utf8.{encode}
use Rattle.std.proofs.lemmas.Fmt.{decimal_digit}
use Rattle.std.proofs.lemmas.Str.{encode_ascii}
use Rattle.std.proofs.lemmas.Bool.Decides.{nat_tests}
use Rattle.gix_date.proofs.Printing.ShownPieces.{decimal-two}
use Rattle.gix_date.specs.Fields.FieldTexts.{four_digits, date_text, clock_text}
use Rattle.gix_date.specs.Text.Characters.{colon, minus}
use Rattle.gix_date.specs.Text.Numbers.{two_digits}
use Rattle.gix_date.specs.Text.Names.{day_name, month_name}
use Rattle.git_date.specs.Formats.Flags.{filled}
use Rattle.git_date.specs.Formats.Names.{cased}
use Rattle.git_date.specs.declared.format.names.Case.TheVariants.{Kept}
use Rattle.git_date.specs.Formats.Pieces.{Text, is_percent, percent}
use Rattle.git_date.specs.Formats.Short.{date_and_clock_text, letter_text, Passes}
use Rattle.git_date.specs.Formats.Shown.{Shown}
use Rattle.git_date.specs.Tokens.Numbers.{number as digits_number}
use Rattle.git_date.proofs.Formats.Pieces.{next_text}
use Rattle.git_date.proofs.Formats.Short.{two_filled, four_filled}

-- one byte before a percent sign
mark-first : (shown : Shown) (mark : ℕ) (rest old : List ℕ) → is_percent mark ≡ false
    → Passes shown (mark ∷ percent ∷ rest) (percent ∷ rest) old (old ++ mark ∷ [])
mark-first shown mark rest old e = record {
  piece = Text (mark ∷ []);
  first =
      next_text (mark ∷ percent ∷ rest) (mark ∷ []) (percent ∷ rest) 1 (omega arith) (rw e refl) (λ e. absurd (omega (arith, e))) refl refl;
  shorter = omega arith;
  said = refl;
}

-- one byte before a percent sign
pub mark_goes : (shown : Shown) (text bytes mark rest old new : List ℕ) → bytes ≡ text → 2 ≤ length bytes → (get_or bytes 0 0 ≡ percent → ⊥)
    → get_or bytes 1 0 ≡ percent → mark ≡ take 1 text → rest ≡ drop 1 text → new ≡ old ++ mark → Passes shown text rest old new
mark_goes shown text [] mark rest old new same len bare at front back is = absurd (omega (arith, len))
mark_goes shown text (a ∷ []) mark rest old new same len bare at front back is = absurd (omega (arith, len))
mark_goes shown text (a ∷ b ∷ more) mark rest old new same len bare at front back is =
    let back_is : rest ≡ percent ∷ more = back ∙ ap (λ (xs : List ℕ). drop 1 xs) (sym same) ∙ ap (λ (c : ℕ). c ∷ more) at in
    let text_is : text ≡ a ∷ percent ∷ more = sym same ∙ ap (λ (c : ℕ). a ∷ c ∷ more) at in
    let new_is : new ≡ old ++ a ∷ [] = is ∙ ap (λ (xs : List ℕ). old ++ xs) (front ∙ ap (λ (xs : List ℕ). take 1 xs) (sym same)) in
    let e : is_percent a ≡ false = grind (arith, nat_tests, bare) in
    rw (text_is, back_is, new_is) (mark-first shown a more old e)

-- no width fills nothing, and no flag keeps the letter case
bare-filled : (text : List ℕ) → filled false 0 text ≡ text
bare-filled text =
    let none : 0 - length text ≡ 0 = omega arith in
    rw none refl

kept-is : (text : List ℕ) → cased Kept text ≡ text
kept-is [] = refl
kept-is (c ∷ text) = ap (λ (xs : List ℕ). c ∷ xs) (kept-is text)

bare-name : (text : List ℕ) → filled false 0 (cased Kept text) ≡ text
bare-name text = bare-filled (cased Kept text) ∙ kept-is text

joined : (mark : ℕ) (x y z a b c : List ℕ) → x ≡ a → y ≡ b → z ≡ c
    → filled false 0 (x ++ ((mark ∷ []) ++ (y ++ ((mark ∷ []) ++ (z ++ []))))) ≡ a ++ (mark ∷ (b ++ (mark ∷ c)))
joined mark x y z a b c ex ey ez =
    bare-filled (x ++ (mark ∷ (y ++ (mark ∷ (z ++ [])))))
    ∙ ap (λ (w : List ℕ). w ++ (mark ∷ (y ++ (mark ∷ (z ++ []))))) ex
    ∙ ap (λ (w : List ℕ). a ++ (mark ∷ (w ++ (mark ∷ (z ++ []))))) ey
    ∙ ap (λ (w : List ℕ). a ++ (mark ∷ (b ++ (mark ∷ w)))) (append-nil z ∙ ez)

abbrev Told : Type 0
Told = Option (List ℕ)

-- `%a`
pub day_shown : (shown : Shown) (letter : ℕ) → letter ≡ 97 → letter_text shown letter ≡ Some (day_name shown.clock.weekday)
unfolding digits_number
day_shown shown letter e = ap (letter_text shown) e
    ∙ ap (λ (xs : List ℕ). let r : Told = Some xs in r) (bare-name (day_name shown.clock.weekday))

-- `%b`
pub month_shown : (shown : Shown) (letter : ℕ) → letter ≡ 98 → letter_text shown letter ≡ Some (month_name shown.clock.date.month)
unfolding digits_number
month_shown shown letter e =
    ap (letter_text shown) e ∙ ap (λ (xs : List ℕ). let r : Told = Some xs in r) (bare-name (month_name shown.clock.date.month))

-- `%T`
pub clock_is_shown : (shown : Shown) (letter : ℕ) → letter ≡ 84 → shown.clock.clock.hour < 100 → shown.clock.clock.minute < 100
    → shown.clock.clock.second < 100 → letter_text shown letter ≡ Some (clock_text shown.clock.clock)
unfolding digits_number
clock_is_shown shown letter e hour minute second =
    let t = shown.clock.clock in
    ap (letter_text shown) e
    ∙ ap (λ (xs : List ℕ). let r : Told = Some xs in r) (joined colon (filled true 2 (decimal t.hour)) (filled true 2 (decimal t.minute))
    (filled true 2 (decimal t.second)) (two_digits t.hour) (two_digits t.minute) (two_digits t.second) (two_filled t.hour hour)
    (two_filled t.minute minute) (two_filled t.second second))

-- `%F`
pub date_shown : (shown : Shown) (letter : ℕ) → letter ≡ 70 → 1000 ≤ shown.clock.date.year → shown.clock.date.year ≤ 9999
    → shown.clock.date.month < 100 → shown.clock.date.day < 100 → letter_text shown letter ≡ Some (date_text shown.clock.date)
unfolding digits_number
date_shown shown letter e low high month day =
    let d = shown.clock.date in
    ap (letter_text shown) e
    ∙ ap (λ (xs : List ℕ). let r : Told = Some xs in r) (joined minus (filled true 4 (decimal d.year)) (filled true 2 (decimal d.month))
    (filled true 2 (decimal d.day)) (four_digits d.year) (two_digits d.month) (two_digits d.day) (four_filled d.year low high)
    (two_filled d.month month) (two_filled d.day day))

-- a day after a space in place of a zero
spaced_one : (day : ℕ) → day < 10 → 32 ∷ (48 + day) ∷ [] ≡ filled false 2 (decimal day)
spaced_one day h = rw (decimal_digit day h) refl

pub spaced_two : (day : ℕ) → 10 ≤ day → day < 100 → two_digits day ≡ filled false 2 (decimal day)
spaced_two day low high = rw (decimal-two day low high) refl

pub spaced-appended : (old n1 n2 : List ℕ) (day n digit : ℕ) → day < 10 → n ≡ day → digit ≡ 48 + n → n1 ≡ old ++ (32 ∷ [])
    → n2 ≡ n1 ++ encode digit → n2 ≡ old ++ filled false 2 (decimal day)
spaced-appended old n1 n2 day n digit h en ed e1 e2 =
    e2 ∙ ap (λ (xs : List ℕ). xs ++ encode digit) e1 ∙ append_assoc old (32 ∷ []) (encode digit)
    ∙ ap (λ (xs : List ℕ). old ++ (32 ∷ xs)) (encode_ascii digit (omega (arith, h, en, ed)))
    ∙ ap (λ (k : ℕ). old ++ (32 ∷ k ∷ [])) (ed ∙ ap (λ (k : ℕ). 48 + k) en)
    ∙ ap (λ (xs : List ℕ). old ++ xs) (spaced_one day h)

-- `%e`
pub spaced_shown : (shown : Shown) (letter : ℕ) → letter ≡ 101
    → letter_text shown letter ≡ Some (filled false 2 (decimal shown.clock.date.day))
unfolding digits_number
spaced_shown shown letter e = ap (letter_text shown) e

-- `%c`
all-joined : (name month day h m s y a b d e f g : List ℕ) → name ≡ a → month ≡ b → h ≡ d → m ≡ e → s ≡ f → y ≡ g
    → filled false 0 (name ++ (32 ∷ (month ++ (32 ∷ (day ++ (32 ∷ (h ++ (58 ∷ (m ++ (58 ∷ (s ++ (32 ∷ (y ++ [])))))))))))))
    ≡ a ++ (32 ∷ (b ++ (32 ∷ (day ++ (32 ∷ (d ++ (58 ∷ (e ++ (58 ∷ (f ++ (32 ∷ g)))))))))))
all-joined name month day h m s y a b d e f g en em eh emi es ey =
    bare-filled (name ++ (32 ∷ (month ++ (32 ∷ (day ++ (32 ∷ (h ++ (58 ∷ (m ++ (58 ∷ (s ++ (32 ∷ (y ++ [])))))))))))))
    ∙ rw (append-nil y, en, em, eh, emi, es, ey) refl

pub all_shown : (shown : Shown) (letter : ℕ) → letter ≡ 99 → 1000 ≤ shown.clock.date.year → shown.clock.date.year ≤ 9999
    → shown.clock.clock.hour < 100 → shown.clock.clock.minute < 100 → shown.clock.clock.second < 100
    → letter_text shown letter ≡ Some (date_and_clock_text shown.clock)
unfolding digits_number date_and_clock_text
all_shown shown letter e low high hour minute second =
    let t = shown.clock in
    ap (letter_text shown) e
    ∙ ap (λ (xs : List ℕ). let r : Told = Some xs in r) (all-joined _ _ (filled false 2 (decimal t.date.day)) _ _ _ _ _ _ _ _ _ _
    (bare-name (day_name t.weekday)) (bare-name (month_name t.date.month)) (two_filled t.clock.hour hour)
    (two_filled t.clock.minute minute) (two_filled t.clock.second second) (four_filled t.date.year low high))

-- one after the other
pub all-appended : (old a b c d e n1 n2 n3 n4 n5 n6 n7 : List ℕ) → n1 ≡ old ++ (a ++ (32 ∷ [])) → n2 ≡ n1 ++ (b ++ (32 ∷ [])) → n3 ≡ n2 ++ c
    → n4 ≡ n3 ++ (32 ∷ []) → n5 ≡ n4 ++ d → n6 ≡ n5 ++ (32 ∷ []) → n7 ≡ n6 ++ e
    → n7 ≡ old ++ (a ++ (32 ∷ (b ++ (32 ∷ (c ++ (32 ∷ (d ++ (32 ∷ e))))))))
all-appended old a b c d e n1 n2 n3 n4 n5 n6 n7 e1 e2 e3 e4 e5 e6 e7 = rw (e7, e6, e5, e4, e3, e2, e1) (simp append_assoc refl)
