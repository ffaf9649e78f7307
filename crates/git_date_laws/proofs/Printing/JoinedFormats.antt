-- Formats that are joined: what the first and the second say is what both say.
use Rattle.std.proofs.Common.{rules, pos}
use Rattle.gix_date.specs.Printing.LocalClocks.{clock_of}
use Rattle.std.proofs.Common.{◌≡◌, ◌∙◌, ◌+◌, ◌-◌, ◌<◌, ◌≤◌, ℕ, zero, suc, Bool, true, false, cond, List, [], ◌∷◌, ◌++◌, length}
use Rattle.std.proofs.Common.{length-append, take, drop, refl, ap, sym, subst, arith, Option, Some, None, Result, Ok, Err}
use Rattle.std.proofs.lemmas.Bool.{false≢true}
use Rattle.std.proofs.lemmas.Bool.Decides.{nat_tests}
use Rattle.std.proofs.lemmas.List.{length-drop, take-append-le, drop-append-le}
use Rattle.std.proofs.lemmas.List.Folds.{prefix_len-append}
use Rattle.std.specs.List.{prefix_len, slice_get}
use Rattle.std.specs.Prelude.{◌&&◌, ◌||◌, is_none, option_map}
use Rattle.std.specs.Result.{result_err, result_map_both, result_unwrap_or, is_ok}
use Rattle.jiff.specs.Types.{TimeZone}
use Rattle.gix_date.specs.Text.Front.{◌>>=◌}
use Rattle.gix_date.specs.declared.time.Time.{Time}
use Rattle.git_date.specs.declared.format.error.FormatFault.{FormatFault}
use Rattle.git_date.specs.declared.format.error.FormatFault.TheVariants.{FlagRefused, UnknownDirective, WidthTooLarge}
use Rattle.git_date.specs.Formats.Format.{is_seconds, piece_text, shown_by_format, shown_pieces}
use Rattle.git_date.specs.Formats.Pieces.{Made, Begun, is_percent, marks_len, digits_len, after_marks, after_digits, letter_place, made_at}
use Rattle.git_date.specs.Formats.Pieces.{made_if, pieces, pieces_in, pieces_or_none, is_format, placed, checked, checked_by}
use Rattle.git_date.specs.Formats.Shown.{Shown, own_shown_by, shown_at}
use Rattle.git_date.proofs.Formats.Pieces.{made-letter}
use Rattle.git_date_laws.specs.Formats.{ChecksJoined, ShowsJoined, joined, moved}
use Rattle.git_date_laws.proofs.Printing.FormatSteps.{Pieces, Said, said, sense, before, before-before, left_of, SameBut, made-left}
use Rattle.git_date_laws.proofs.Printing.FormatSteps.{fault-in, format_said, directive-said, fault-said, byte-said}

-- a front that ends within a text is that of the text and more
front-within : (p : ℕ → Bool) (xs ys : List ℕ) → prefix_len p xs < length xs → prefix_len p (xs ++ ys) ≡ prefix_len p xs
front-within p xs ys h = grind (arith, nat_tests, prefix_len-append)

first-within : (xs ys : List ℕ) → 0 < length xs → slice_get (xs ++ ys) 0 ≡ slice_get xs 0
first-within [] ys h = absurd (omega arith)
first-within (x ∷ xs) ys h = refl

-- what a percent sign begins within a text it begins in the text and more
record Within (rest second : List ℕ) : Type 0 where
  marks : marks_len (rest ++ second) ≡ marks_len rest
  after : after_marks (rest ++ second) ≡ after_marks rest ++ second
  digits : digits_len (rest ++ second) ≡ digits_len rest
  letter : after_digits (rest ++ second) ≡ after_digits rest ++ second

within : (rest second : List ℕ) → letter_place rest < length rest → Within rest second
within rest second h = grind (arith, front-within, drop-append-le, length-drop)

made-more : (rest second : List ℕ) (m : Made) → made_at rest ≡ Ok m → made_at (rest ++ second) ≡ Ok m
unfolding made_at
made-more rest second m e =
    let ends = (made-letter rest m e).0 in
    let w = within rest second ends in
    let left = length rest + 1 in
    let other = length (rest ++ second) + 1 in
    let k = marks_len rest in
    let d = digits_len rest in
    let few = length-drop k rest in
    let marks = ap (λ (n : ℕ). take n (rest ++ second)) w.marks ∙ take-append-le k rest second (omega (arith, ends)) in
    let digits = ap (λ (n : ℕ). take n (after_marks (rest ++ second))) w.digits ∙ ap (take d) w.after
    ∙ take-append-le d (after_marks rest) second (omega (arith, ends, few)) in
    let letter = ap (λ (xs : List ℕ). slice_get xs 0) w.letter
    ∙ first-within (after_digits rest) second (omega (arith, ends, few, length-drop d (after_marks rest))) in
    let same = made-left left other (take k rest) (take d (after_marks rest)) (slice_get (after_digits rest) 0) in
    let alone = made_if other (take k rest) (take d (after_marks rest)) (slice_get (after_digits rest) 0) in
    (λ i. made_if other (marks i) (digits i) (letter i)) ∙ subst (λ (r : Result Made FormatFault). SameBut left other r alone) e same

further-more : (rest second : List ℕ) (m : Made) → made_at rest ≡ Ok m
    → drop (letter_place (rest ++ second) + 1) (rest ++ second) ≡ drop (letter_place rest + 1) rest ++ second
further-more rest second m e = grind (arith, made-letter, within, drop-append-le)

-- what both say after a piece
abbrev Says : Shown → ℕ → List ℕ → Type 0
Says shown n second =
    (first : List ℕ) (s : Bool × List ℕ) → length first ≤ n → format_said shown first ≡ Ok s
    → format_said shown (first ++ second) ≡ before s (format_said shown second)

nothing-before : (r : Said) → r ≡ before (false, []) r
nothing-before (Ok y) = refl
nothing-before (Err e) = refl

after-piece : (x s : Bool × List ℕ) (part whole r : Said) → before x part ≡ Ok s → ((y : Bool × List ℕ) → part ≡ Ok y → whole ≡ before y r)
    → before x whole ≡ before s r
after-piece x s (Ok y) whole r e next =
    let same : (x.0 || y.0, x.1 ++ y.1) ≡ s = cc in
    ap (before x) (next y refl) ∙ before-before x y r ∙ ap (λ (t : Bool × List ℕ). before t r) same
after-piece x s (Err fault) whole r e next = absurd cc

module _ (shown : Shown) (n : ℕ) (c : ℕ) (rest second : List ℕ) (s : Bool × List ℕ) (fits : length rest ≤ n)
    (e : format_said shown (c ∷ rest) ≡ Ok s) (shorter : Says shown n second) where
  by-directive : is_percent c ≡ true → (r : Result Made FormatFault) → made_at rest ≡ r
      → format_said shown (c ∷ (rest ++ second)) ≡ before s (format_said shown second)
  by-directive percent (Err fault) is = absurd (let none = fault-said shown c rest fault percent is in cc)
  by-directive percent (Ok m) is =
      let further = drop (letter_place rest + 1) rest in
      let x : Bool × List ℕ = (is_seconds (Begun m), piece_text shown (Begun m)) in
      let fewer = length-drop (letter_place rest + 1) rest in
      directive-said shown c (rest ++ second) m percent (made-more rest second m is)
      ∙ ap (λ (xs : List ℕ). before x (format_said shown xs)) (further-more rest second m is)
      ∙ after-piece x s (format_said shown further) (format_said shown (further ++ second)) (format_said shown second)
      (sym (directive-said shown c rest m percent is) ∙ e) (λ y so. shorter further y (omega (arith, fits, fewer)) so)

  by-byte : (b : Bool) → is_percent c ≡ b → format_said shown (c ∷ (rest ++ second)) ≡ before s (format_said shown second)
  by-byte true percent = by-directive percent (made_at rest) refl
  by-byte false plain =
      byte-said shown c (rest ++ second) plain
      ∙ after-piece (false, c ∷ []) s (format_said shown rest) (format_said shown (rest ++ second)) (format_said shown second)
      (sym (byte-said shown c rest plain) ∙ e) (λ y so. shorter rest y fits so)

says : (shown : Shown) (n : ℕ) (second : List ℕ) → Says shown n second
unfolding pieces pieces_in
says shown zero second [] s h e = grind (arith, nothing-before, format_said, before)
says shown zero second (c ∷ rest) s h e = absurd (omega arith)
says shown (suc n) second [] s h e = grind (arith, nothing-before, format_said, before)
says shown (suc n) second (c ∷ rest) s h e = by-byte shown n c rest second s (omega arith) e (says shown n second) (is_percent c) refl

-- what a format says, and then another
pub both-said : (shown : Shown) (first second : List ℕ) (s : Bool × List ℕ) → format_said shown first ≡ Ok s
    → format_said shown (first ++ second) ≡ before s (format_said shown second)
both-said shown first second s e = says shown (length first) second first s (omega arith) e

-- a fault in the second stands so much later in both
place-moves : (first second : List ℕ) (left : ℕ) → left ≤ length second
    → length (first ++ second) - left ≡ length first + (length second - left)
place-moves first second left h = omega (arith, h, length-append first second)

fault-moves : (first second : List ℕ) (e : FormatFault) → left_of e ≤ length second
    → placed (length (first ++ second)) e ≡ moved (length first) (placed (length second) e)
fault-moves first second (FlagRefused left) h = ap FlagRefused (place-moves first second left h)
fault-moves first second (UnknownDirective left) h = ap UnknownDirective (place-moves first second left h)
fault-moves first second (WidthTooLarge left) h = ap WidthTooLarge (place-moves first second left h)

-- the fault of what is said is that of the pieces
fault-kept : (shown : Shown) (r : Pieces) → result_err (said shown r) ≡ result_err r
fault-kept shown (Ok ps) = refl
fault-kept shown (Err e) = refl

fault-after : (s : Bool × List ℕ) (r : Said) → result_err (before s r) ≡ result_err r
fault-after s (Ok y) = refl
fault-after s (Err e) = refl

pub whole-said : (shown : Shown) (text : List ℕ) → is_format text ≡ true → (s : Bool × List ℕ) × (format_said shown text ≡ Ok s)
whole-said shown text h = by (pieces text) refl
  where
    by : (r : Pieces) → pieces text ≡ r → (s : Bool × List ℕ) × (format_said shown text ≡ Ok s)
    by (Ok ps) is = (sense shown ps, ap (said shown) is)
    by (Err e) is = absurd (false≢true (sym (ap is_ok is) ∙ h))

same-fault : (shown : Shown) (first second : List ℕ) → is_format first ≡ true
    → result_err (pieces (first ++ second)) ≡ result_err (pieces second)
same-fault shown first second whole =
    let s = whole-said shown first whole in
    sym (fault-kept shown (pieces (first ++ second))) ∙ ap (λ (r : Said). result_err r) (both-said shown first second s.0 s.1)
    ∙ fault-after s.0 (format_said shown second) ∙ fault-kept shown (pieces second)

checked-after : (first second : List ℕ) (fault : Option FormatFault) → result_err (pieces second) ≡ fault
    → checked_by (first ++ second) (option_map (placed (length (first ++ second))) fault)
    ≡ result_map_both (λ whole. first ++ whole) (moved (length first)) (checked_by second (option_map (placed (length second)) fault))
checked-after first second None is = refl
checked-after first second (Some e) is = ap Err (fault-moves first second e (fault-in second e is))

checks-joined : (shown : Shown) (first second : List ℕ) → ChecksJoined first second
unfolding checked ChecksJoined
checks-joined shown first second whole = search (rules, same-fault, checked-after)

-- whatever is shown
pub checks_joined : (first second : List ℕ) → ChecksJoined first second
checks_joined first second =
    let t : Time = record { seconds = pos 0; offset = pos 0 } in checks-joined (own_shown_by t (clock_of t)) first second

-- what is shown of what a format says
abbrev shown_said : Bool → Bool × List ℕ → Option (List ℕ)
shown_said none s = cond (none && s.0) None (Some s.1)

both-shown : (none asks also : Bool) (xs ys : List ℕ)
    → shown_said none (asks || also, xs ++ ys) ≡ joined (shown_said none (asks, xs)) (shown_said none (also, ys))
both-shown false asks also xs ys = refl
both-shown true true also xs ys = refl
both-shown true false true xs ys = refl
both-shown true false false xs ys = refl

said-shown : (shown : Shown) (r : Pieces) (s : Bool × List ℕ) → said shown r ≡ Ok s
    → shown_pieces (result_unwrap_or r []) shown ≡ shown_said (is_none shown.seconds) s
said-shown shown (Ok ps) s e = grind (arith, sense)
said-shown shown (Err fault) s e = absurd cc

joined-by : (found : Option Shown) (first second : List ℕ) → is_format first ≡ true → is_format second ≡ true
    → (found >>= shown_pieces (pieces_or_none (first ++ second)))
    ≡ joined (found >>= shown_pieces (pieces_or_none first)) (found >>= shown_pieces (pieces_or_none second))
joined-by None first second whole also = refl
joined-by (Some shown) first second whole also =
    let a = whole-said shown first whole in
    let b = whole-said shown second also in
    let both = both-said shown first second a.0 a.1 ∙ ap (before a.0) b.1 in
    let first_shown = said-shown shown (pieces first) a.0 a.1 in
    let second_shown = said-shown shown (pieces second) b.0 b.1 in
    said-shown shown (pieces (first ++ second)) (a.0.0 || b.0.0, a.0.1 ++ b.0.1) both
    ∙ both-shown (is_none shown.seconds) a.0.0 b.0.0 a.0.1 b.0.1
    ∙ sym (λ i. joined (first_shown i) (second_shown i))

pub shows_joined : (zone : TimeZone) (local : Bool) (first second : List ℕ) (t : Time) → ShowsJoined zone local first second t
unfolding shown_by_format ShowsJoined
shows_joined zone local first second t whole also = joined-by (shown_at zone local t) first second whole also
