-- Texts that say the same: their words may be spelled otherwise, and a line feed and more may follow. What letters and digits say of the
-- tokens they say of the changed ones: what is left is changed too, and places are farther from the end.
use Rattle.std.proofs.Common.{◌≡◌, ◌∙◌, ◌+◌, ℕ, Bool, true, false, cond, List, [], ◌∷◌, length, refl, ap, arith, length-append, Option}
use Rattle.std.proofs.Common.{Some, None, option_map, Result, Ok, Err}
use Rattle.std.specs.Prelude.{is_some, ok_or, codes, ◌==◌, ◌&&◌, ◌||◌, ◌/◌, ◌%◌}
use Rattle.std.specs.Option.{option_or, option_map_or}
use Rattle.std.proofs.lemmas.Bool.Decides.{nat_tests}
use Rattle.gix_date.specs.Text.Characters.{newline, colon, dot}
use Rattle.gix_date.specs.Text.Front.{◌>>=◌}
use Rattle.gix_date.specs.Text.Names.{is_name}
use Rattle.gix_date.specs.Fields.Layout.{LocalTime}
use Rattle.git_date.specs.Types.Names.{Dated, Fault, Fields, Group, Now, Number, Reading}
use Rattle.git_date.specs.Types.DatedCases as dated
use Rattle.git_date.specs.Types.FaultCases.{NumberTooLarge, BackTooFar, YearRefused, Range}
use Rattle.git_date.specs.Tokens.Numbers.{number, is_too_large}
use Rattle.git_date.specs.Tokens.Steps.{and_then}
use Rattle.git_date.specs.Tokens.Tokens.{Token, Letters, Digits, Mark, texts, bytes_left}
use Rattle.git_date.specs.Rules.Clocks.{utc_clock}
use Rattle.git_date.specs.Rules.Dates.{year_date}
use Rattle.git_date.specs.Rules.Digits.{Stepped, is_epoch, with_epoch, by_date, bare_digits, unless_large, grouped, group_said}
use Rattle.git_date.specs.Rules.Digits.{group_or_bare, digits_rule}
use Rattle.git_date.specs.Rules.Fields.{with_clock, knows_date}
use Rattle.git_date.specs.Rules.Groups.{ReadTokens, number_at, marked_number, is_group_mark, third_or_none, group_of, day_month_group}
use Rattle.git_date.specs.Rules.Groups.{group_rule, large_number, large_in, without_fraction, after_group}
use Rattle.git_date.specs.Rules.Words.{with_word, letters_rule, without_ending, is_ending}
use Rattle.git_date.specs.Exact.Reading.{ended}
use Rattle.git_date_laws.proofs.Alike.Spelling.{IsSpelling, ending-agrees, word-agrees}

-- what follows the tokens: nothing, or a line feed and others
abbrev pub after : Option (List Token) → List Token
after None = []
after (Some lines) = Mark newline ∷ lines

-- tokens so spelled, and what follows them
abbrev pub changed : (List ℕ → List ℕ) → Option (List Token) → List Token → List Token
changed spell stop [] = after stop
changed spell stop (Letters run ∷ more) = Letters (spell run) ∷ changed spell stop more
changed spell stop (Digits run ∷ more) = Digits run ∷ changed spell stop more
changed spell stop (Mark byte ∷ more) = Mark byte ∷ changed spell stop more

-- what is read then: places, by the bytes left, are so many bytes farther from the end
abbrev pub farther_fault : ℕ → Fault → Fault
farther_fault k (NumberTooLarge left) = NumberTooLarge (left + k)
farther_fault k (BackTooFar left) = BackTooFar (left + k)
farther_fault k (YearRefused left) = YearRefused (left + k)
farther_fault k Range = Range

abbrev pub farther : ℕ → Reading → Reading
farther k r = record r { ignored = option_map (λ left. left + k) r.ignored }

abbrev pub read_farther : ℕ → Result Reading Fault → Result Reading Fault
read_farther k (Ok r) = Ok (farther k r)
read_farther k (Err e) = Err (farther_fault k e)

-- what a group says, and what stands after it
abbrev pub SaidGroup : Type 0
SaidGroup = Result (Option (Fields × List Token)) Fault

-- tests
pub by-true : {A B : Type 0} (m : A → B) (b : Bool) (x y : A) (p q : B) → (b ≡ true → p ≡ m x) → q ≡ m y → cond b p q ≡ m (cond b x y)
by-true m true x y p q e f = e refl
by-true m false x y p q e f = f

-- the first of two places
pub first-farther : (k : ℕ) (a b : Option ℕ)
    → option_or (option_map (λ left. left + k) a) (option_map (λ left. left + k) b) ≡ option_map (λ left. left + k) (option_or a b)
first-farther k None b = refl
first-farther k (Some left) b = refl

-- where the tokens end: a line feed says what nothing says
no-newline : (mark : ℕ) → is_group_mark mark ≡ true → (newline == mark) ≡ false
no-newline mark h = grind (arith, nat_tests)

group-end : (stop : Option (List Token)) (first : ℕ) → group_of first (after stop) ≡ None
unfolding group_of marked_number
group-end None first = refl
group-end (Some (Digits run ∷ more)) first = refl
group-end (Some ts) first = refl

group-mark-end : (stop : Option (List Token)) (first byte : ℕ) → group_of first (Mark byte ∷ after stop) ≡ None
unfolding group_of marked_number
group-mark-end None first byte = refl
group-mark-end (Some lines) first byte = refl

abbrev group_by : ℕ → ℕ → Number → Option Number → Group
group_by mark first second third = record { mark = mark; first = first; second = second; third = third }

third-end : (stop : Option (List Token)) (mark first : ℕ) (second : Number) → (newline == mark) ≡ false
    → third_or_none mark first second (after stop) (marked_number (after stop)) ≡ (group_by mark first second None, after stop)
unfolding marked_number
third-end None mark first second e = refl
third-end (Some (Digits run ∷ more)) mark first second e = rw e refl
third-end (Some ts) mark first second e = refl

third-mark-end : (stop : Option (List Token)) (mark first : ℕ) (second : Number) (byte : ℕ)
    → third_or_none mark first second (Mark byte ∷ after stop) (marked_number (Mark byte ∷ after stop))
    ≡ (group_by mark first second None, Mark byte ∷ after stop)
unfolding marked_number
third-mark-end None mark first second byte = refl
third-mark-end (Some lines) mark first second byte = refl

fraction-end : (stop : Option (List Token)) → without_fraction (after stop) ≡ after stop
unfolding without_fraction
fraction-end None = refl
fraction-end (Some (Digits run ∷ more)) = refl
fraction-end (Some ts) = refl

fraction-mark-end : (stop : Option (List Token)) (byte : ℕ) → without_fraction (Mark byte ∷ after stop) ≡ Mark byte ∷ after stop
unfolding without_fraction
fraction-mark-end None byte = refl
fraction-mark-end (Some lines) byte = refl

ending-end : (stop : Option (List Token)) → without_ending (after stop) ≡ after stop
unfolding without_ending
ending-end None = refl
ending-end (Some lines) = refl

word-end : (stop : Option (List Token)) (run : List ℕ)
    → without_ending (Letters run ∷ after stop) ≡ cond (is_ending run) (after stop) (Letters run ∷ after stop)
unfolding without_ending
word-end None run = refl
word-end (Some lines) run = refl

letters-end : (stop : Option (List Token)) (f : Fields) (run : List ℕ) → letters_rule f run (after stop) ≡ with_word f run
unfolding letters_rule
letters-end None f run = refl
letters-end (Some lines) f run = refl

module _ (spell : List ℕ → List ℕ) (same : IsSpelling spell) (stop : Option (List Token)) where
  -- the same tokens, so changed, and how many bytes follow them
  abbrev φ : List Token → List Token
  φ ts = changed spell stop ts

  abbrev k : ℕ
  k = bytes_left (after stop)

  pub left-is : (ts : List Token) → bytes_left (φ ts) ≡ bytes_left ts + k
  left-is [] = omega arith
  left-is (Letters run ∷ more) =
      omega (arith, length-append (spell run) (texts (φ more)), length-append run (texts more), same.sized run, left-is more)
  left-is (Digits run ∷ more) = omega (arith, length-append run (texts (φ more)), length-append run (texts more), left-is more)
  left-is (Mark byte ∷ more) = omega (arith, left-is more)

  -- what is made of the changed tokens
  abbrev far : Number → Number
  far n = record n { left = n.left + k }

  abbrev far_group : Group → Group
  far_group g = record g { second = far g.second; third = option_map far g.third }

  abbrev moved_group : Group × List Token → Group × List Token
  moved_group found = (far_group found.0, φ found.1)

  abbrev pub moved : {A : Type 0} → Result (A × List Token) Fault → Result (A × List Token) Fault
  moved (Ok found) = Ok (found.0, φ found.1)
  moved (Err e) = Err (farther_fault k e)

  abbrev pub moved_said : SaidGroup → SaidGroup
  moved_said (Ok (Some found)) = Ok (Some (found.0, φ found.1))
  moved_said (Ok None) = Ok None
  moved_said (Err e) = Err (farther_fault k e)

  -- groups
  number-is : (run : List ℕ) (more : List Token) → number_at run (φ more) ≡ far (number_at run more)
  number-is run more = ap (λ (left : ℕ). let n : Number = record { value = number run; left = left } in n) (left-is (Digits run ∷ more))

  third-is : (mark first : ℕ) (second : Number) (ts : List Token) → is_group_mark mark ≡ true
      → third_or_none mark first (far second) (φ ts) (marked_number (φ ts))
      ≡ moved_group (third_or_none mark first second ts (marked_number ts))
  unfolding marked_number
  third-is mark first second [] h = third-end stop mark first (far second) (no-newline mark h)
  third-is mark first second (Letters run ∷ more) h = refl
  third-is mark first second (Digits run ∷ more) h = refl
  third-is mark first second (Mark byte ∷ []) h = third-mark-end stop mark first (far second) byte
  third-is mark first second (Mark byte ∷ Letters run ∷ more) h = refl
  third-is mark first second (Mark byte ∷ Mark other ∷ more) h = refl
  third-is mark first second (Mark byte ∷ Digits run ∷ more) h =
      by-true moved_group (byte == mark) _ _ _ _
      (λ e. ap (λ (n : Number). (group_by mark first (far second) (Some n), φ more)) (number-is run more)) refl

  group-is : (first : ℕ) (ts : List Token) → group_of first (φ ts) ≡ option_map moved_group (group_of first ts)
  unfolding group_of marked_number
  group-is first [] = group-end stop first
  group-is first (Letters run ∷ more) = refl
  group-is first (Digits run ∷ more) = refl
  group-is first (Mark byte ∷ []) = group-mark-end stop first byte
  group-is first (Mark byte ∷ Letters run ∷ more) = refl
  group-is first (Mark byte ∷ Mark other ∷ more) = refl
  group-is first (Mark byte ∷ Digits run ∷ more) =
      by-true (option_map moved_group) (is_group_mark byte) _ _ _ _
      (λ e. ap Some (ap (λ (n : Number). third_or_none byte first n (φ more) (marked_number (φ more))) (number-is run more)
      ∙ third-is byte first (number_at run more) more e)) refl

  rule-same : (now : Now) (f : Fields) (g : Group) → group_rule now f (far_group g) ≡ group_rule now f g
  unfolding group_rule day_month_group
  rule-same now f g = by g.third
    where
      by : (third : Option Number) → group_rule now f (group_by g.mark g.first (far g.second) (option_map far third))
          ≡ group_rule now f (group_by g.mark g.first g.second third)
      by None = refl
      by (Some n) = refl

  large-is : (n : Number) → large_number (far n) ≡ option_map (λ left. left + k) (large_number n)
  large-is n = by-true (option_map (λ left. left + k)) (is_too_large n.value) (Some n.left) None _ _ (λ e. refl) refl

  third-large : (third : Option Number) → (option_map far third >>= large_number) ≡ option_map (λ left. left + k) (third >>= large_number)
  third-large None = refl
  third-large (Some n) = large-is n

  unless-is : (g : Group) (said : SaidGroup) → unless_large (far_group g) (moved_said said) ≡ moved_said (unless_large g said)
  unless-is g said =
      ap (λ (large : Option ℕ). option_map_or (λ left. Err (NumberTooLarge left)) large (moved_said said))
      ((λ i. option_or (large-is g.second i) (third-large g.third i)) ∙ first-farther k (large_number g.second) (g.third >>= large_number))
      ∙ by (large_in g)
    where
      by : (large : Option ℕ) → option_map_or (λ left. Err (NumberTooLarge left)) (option_map (λ left. left + k) large) (moved_said said)
          ≡ moved_said (option_map_or (λ left. Err (NumberTooLarge left)) large said)
      by None = refl
      by (Some left) = refl

  fraction-is : (ts : List Token) → without_fraction (φ ts) ≡ φ (without_fraction ts)
  unfolding without_fraction
  fraction-is [] = fraction-end stop
  fraction-is (Letters run ∷ more) = refl
  fraction-is (Digits run ∷ more) = refl
  fraction-is (Mark byte ∷ []) = fraction-mark-end stop byte
  fraction-is (Mark byte ∷ Letters run ∷ more) = refl
  fraction-is (Mark byte ∷ Mark other ∷ more) = refl
  fraction-is (Mark byte ∷ Digits run ∷ more) = by-true φ (byte == dot) _ _ _ _ (λ e. refl) refl

  after-is : (f : Fields) (g : Group) (more : List Token) → after_group f (far_group g) (φ more) ≡ φ (after_group f g more)
  after-is f g more = by-true φ (g.mark == colon && knows_date f) _ _ _ _ (λ e. fraction-is more) refl

  grouped-is : (left : ℕ) (g : Group) (more : List Token) (d : Dated)
      → grouped (left + k) (far_group g) (φ more) d ≡ moved_said (grouped left g more d)
  grouped-is left g more (dated.Taken f) =
      ap (λ (rest : List Token). unless_large (far_group g) (Ok (Some (f, rest)))) (after-is f g more)
      ∙ unless-is g (Ok (Some (f, after_group f g more)))
  grouped-is left g more dated.Refused = refl
  grouped-is left g more dated.YearRefused = unless-is g (Err (YearRefused left))

  pub said-is : (now : Now) (f : Fields) (run : List ℕ) (more : List Token)
      → group_said now f run (φ more) ≡ moved_said (group_said now f run more)
  unfolding group_said
  said-is now f run more =
      (λ i. option_map_or
      (λ (found : Group × List Token). grouped (left-is (Digits run ∷ more) i) found.0 found.1 (group_rule now f found.0))
      (group-is (number run) more i) (Ok None))
      ∙ by (group_of (number run) more)
    where
      by : (found : ReadTokens Group)
          → option_map_or
          (λ (found : Group × List Token). grouped (bytes_left (Digits run ∷ more) + k) found.0 found.1 (group_rule now f found.0))
          (option_map moved_group found) (Ok None)
          ≡ moved_said (option_map_or
          (λ (found : Group × List Token). grouped (bytes_left (Digits run ∷ more)) found.0 found.1 (group_rule now f found.0)) found
          (Ok None))
      by None = refl
      by (Some found) =
          ap (grouped (bytes_left (Digits run ∷ more) + k) (far_group found.0) (φ found.1)) (rule-same now f found.0)
          ∙ grouped-is (bytes_left (Digits run ∷ more)) found.0 found.1 (group_rule now f found.0)

  -- endings
  word-ended : (run : List ℕ) (more : List Token)
      → cond (is_ending (spell run)) (φ more) (Letters (spell run) ∷ φ more) ≡ φ (cond (is_ending run) more (Letters run ∷ more))
  word-ended run more =
      ap (λ (b : Bool). cond b (φ more) (Letters (spell run) ∷ φ more)) (ending-agrees spell same run)
      ∙ by-true φ (is_ending run) more (Letters run ∷ more) _ _ (λ e. refl) refl

  pub ending-is : (ts : List Token) → without_ending (φ ts) ≡ φ (without_ending ts)
  unfolding without_ending
  ending-is [] = ending-end stop
  ending-is (Letters run ∷ []) = word-end stop (spell run) ∙ word-ended run []
  ending-is (Letters run ∷ Letters other ∷ more) = word-ended run (Letters other ∷ more)
  ending-is (Letters run ∷ Mark byte ∷ more) = word-ended run (Mark byte ∷ more)
  ending-is (Letters run ∷ Digits next ∷ more) =
      ap (λ (b : Bool). cond b (Digits next ∷ φ more) (Letters (spell run) ∷ Digits next ∷ φ more)) (same.named run (codes "T"))
      ∙ by-true φ (is_name run (codes "T")) (Digits next ∷ more) (Letters run ∷ Digits next ∷ more) _ _ (λ e. refl) refl
  ending-is (Digits run ∷ more) = refl
  ending-is (Mark byte ∷ more) = refl

  pub ended-is : {A : Type 0} (x : Result (A × List Token) Fault) → ended (moved x) ≡ moved (ended x)
  ended-is (Ok found) = ap (λ (rest : List Token). Ok (found.0, rest)) (ending-is found.1)
  ended-is (Err e) = refl

  -- letters
  pub letters-is : (f : Fields) (run : List ℕ) (more : List Token) → letters_rule f (spell run) (φ more) ≡ letters_rule f run more
  unfolding letters_rule
  letters-is f run [] = letters-end stop f (spell run) ∙ word-agrees spell same f run
  letters-is f run (Letters other ∷ more) = word-agrees spell same f run
  letters-is f run (Digits next ∷ more) = refl
  letters-is f run (Mark byte ∷ more) = word-agrees spell same f run

  -- digits
  date-is : (run : List ℕ) (more : List Token) (d : Dated) → by_date run (φ more) d ≡ moved (by_date run more d)
  date-is run more (dated.Taken f) = refl
  date-is run more dated.Refused = refl
  date-is run more dated.YearRefused = ap (λ (left : ℕ). Err (YearRefused left)) (left-is (Digits run ∷ more))

  clock-is : (more : List Token) (found : Option Fields)
      → ◌≡◌ {A = Stepped} (Ok (found, cond (is_some found) (without_fraction (φ more)) (φ more)))
      (moved (Ok (found, cond (is_some found) (without_fraction more) more)))
  clock-is more None = refl
  clock-is more (Some f) = ap (λ (rest : List Token). Ok (Some f, rest)) (fraction-is more)

  bare-is : (f : Fields) (run : List ℕ) (more : List Token) → bare_digits f run (φ more) ≡ moved (bare_digits f run more)
  unfolding bare_digits
  bare-is f run more =
      let n = number run in
      by-true moved (length run == 8) _ _ _ _ (λ e. date-is run more (year_date f (n / 10_000) (n / 100 % 100) (n % 100)))
      (by-true moved (length run == 6) _ _ _ _ (λ e. clock-is more (with_clock f (n / 10_000) (n / 100 % 100) (n % 100)))
      (by-true moved (length run == 4) _ _ _ _ (λ e. refl) (by-true moved (length run == 1 || length run == 2) _ _ _ _ (λ e. refl) refl)))

  epoch-is : (f : Fields) (more : List Token) (shown : Option LocalTime)
      → ok_or (option_map (λ shown. (Some (with_epoch f shown), φ more)) shown) Range
      ≡ moved (ok_or (option_map (λ shown. (Some (with_epoch f shown), more)) shown) Range)
  epoch-is f more None = refl
  epoch-is f more (Some shown) = refl

  or-bare-is : (f : Fields) (run : List ℕ) (more : List Token) (said : SaidGroup)
      → and_then (moved_said said) (group_or_bare f run (φ more)) ≡ moved (and_then said (group_or_bare f run more))
  or-bare-is f run more (Ok None) = bare-is f run more
  or-bare-is f run more (Ok (Some found)) = refl
  or-bare-is f run more (Err e) = refl

  pub digits-is : (now : Now) (f : Fields) (run : List ℕ) (more : List Token)
      → digits_rule now f run (φ more) ≡ moved (digits_rule now f run more)
  unfolding digits_rule
  digits-is now f run more =
      by-true moved (is_epoch f (number run)) _ _ _ _ (λ e. epoch-is f more (utc_clock (number run)))
      (by-true moved (is_too_large (number run)) _ _ _ _ (λ e. ap (λ (left : ℕ). Err (NumberTooLarge left)) (left-is (Digits run ∷ more)))
      (ap (λ (said : SaidGroup). and_then said (group_or_bare f run (φ more))) (said-is now f run more)
      ∙ or-bare-is f run more (group_said now f run more)))
