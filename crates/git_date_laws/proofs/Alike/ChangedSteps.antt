-- What offsets, rules and steps make of changed tokens.
use Rattle.std.proofs.Common.{arith}
use Rattle.std.proofs.Common.{rules}
use Rattle.std.proofs.Common.{◌≡◌, ◌∙◌, ◌+◌, ℕ, zero, suc, ℤ, Bool, true, false, cond, List, [], ◌∷◌, length, refl, ap, sym, Option, Some}
use Rattle.std.proofs.Common.{None, option_map, Result, Ok, Err}
use Rattle.std.specs.Prelude.{◌==◌, ◌&&◌, ◌||◌}
use Rattle.std.specs.Option.{option_map_or}
use Rattle.std.proofs.Math.Bool.{and-false}
use Rattle.std.proofs.lemmas.Bool.{and_from, or_parts}
use Rattle.gix_date.specs.Text.Characters.{space, plus, minus, colon, at_sign}
use Rattle.gix_date.specs.Text.Front.{◌>>=◌}
use Rattle.git_date.specs.Types.Names.{Fault, Fields, Now, Padded, Reading}
use Rattle.git_date.specs.Types.FaultCases.{NumberTooLarge}
use Rattle.git_date.specs.Tokens.Numbers.{number, is_too_large}
use Rattle.git_date.specs.Tokens.Steps.{and_then}
use Rattle.git_date.specs.Tokens.Tokens.{Token, Letters, Digits, Mark, bytes_left, is_end, walked}
use Rattle.git_date.specs.Rules.Digits.{Stepped, digits_rule}
use Rattle.git_date.specs.Rules.Groups.{ReadTokens}
use Rattle.git_date.specs.Rules.Offsets.{is_white, is_sign, without_white, white, padded_by, padded_after, padded_number, offset_minutes}
use Rattle.git_date.specs.Rules.Offsets.{minutes_said, SaidOffset, colon_minutes, two_digit_offset, offset_said, with_offset, offset_rule}
use Rattle.git_date.specs.Rules.Offsets.{ends, wide_minutes, by_sign, at_text}
use Rattle.git_date.specs.Exact.Reading.{read_on, ended, sign_rule, rule, step, steps}
use Rattle.git_date.proofs.Text.Walked.{nothing-left}
use Rattle.git_date.proofs.Rules.Kept.{IsKept, Leaves, rule-left, token-place}
use Rattle.git_date_laws.specs.Texts.Lines.{are_white, awaits_minutes, awaits_offset, end_before_minutes}
use Rattle.git_date_laws.proofs.Alike.Spelling.{IsSpelling}
use Rattle.git_date_laws.proofs.Alike.Changed.{after, changed, farther, read_farther, by-true, first-farther, left-is, moved, ended-is}
use Rattle.git_date_laws.proofs.Alike.Changed.{letters-is, digits-is}

-- what minutes need: the white space is followed by something, or nothing follows the tokens
abbrev HasMinutes : Option (List Token) → List Token → Type 0
HasMinutes None ts = Unit {0}
HasMinutes (Some lines) ts = are_white ts ≡ false

abbrev pub IsClosed : Option (List Token) → List Token → Type 0
IsClosed None ts = Unit {0}
IsClosed (Some lines) ts = end_before_minutes ts ≡ false

abbrev pub IsClosedAt : Option (List Token) → List Token → Type 0
IsClosedAt None ts = Unit {0}
IsClosedAt (Some lines) ts = awaits_offset ts ≡ false

-- tests
and-second : (a b : Bool) → a ≡ true → (a && b) ≡ false → b ≡ false
and-second true b e h = h
and-second false b e h = absurd cc

same-both : {A : Type 0} (b : Bool) (x : A) → cond b x x ≡ x
same-both true x = refl
same-both false x = refl

or-left : (a b : Bool) → a ≡ true → (a || b) ≡ true
or-left true b h = refl
or-left false b h = absurd cc

or-right : (a b : Bool) → b ≡ true → (a || b) ≡ true
or-right true b h = refl
or-right false b h = h

-- closed tokens
closed-next : (stop : Option (List Token)) (t : Token) (more : List Token) → IsClosed stop (t ∷ more) → IsClosed stop more
unfolding end_before_minutes
closed-next None t more h = tt
closed-next (Some lines) t more h = (or_parts (awaits_minutes (t ∷ more)) (end_before_minutes more) h).1

closed-kept : (stop : Option (List Token)) → IsKept (IsClosed stop) (λ left. Unit {0})
closed-kept stop = grind (arith, closed-next)

-- what a rule leaves of them
closed-left : (stop : Option (List Token)) (now : Now) (f : Fields) (t : Token) (more : List Token) → IsClosed stop (t ∷ more)
    → Leaves (IsClosed stop) (λ left. Unit {0}) (rule now f t more)
closed-left stop now f t more h = search (rules, rule-left, closed-kept, token-place, closed-next)

white-next : (stop : Option (List Token)) (t : Token) (more : List Token) → HasMinutes stop (t ∷ more) → is_white t ≡ true
    → HasMinutes stop more
unfolding are_white
white-next None t more h e = tt
white-next (Some lines) t more h e = and-second (is_white t) (are_white more) e h

closed-minutes : (stop : Option (List Token)) (sign byte : ℕ) (run : List ℕ) (more : List Token)
    → IsClosed stop (Mark sign ∷ Digits run ∷ Mark byte ∷ more)
    → is_sign sign ≡ true → (length run == 2) ≡ true → (byte == colon) ≡ true → HasMinutes stop more
unfolding end_before_minutes
closed-minutes None sign byte run more h s two e = tt
closed-minutes (Some lines) sign byte run more h s two e = grind (arith, and-second, and_from, or_parts)

closed-at : (stop : Option (List Token)) (at : ℕ) (run : List ℕ) (gap sign : ℕ) (more : List Token)
    → IsClosedAt stop (Mark at ∷ Digits run ∷ Mark gap ∷ Mark sign ∷ more)
    → (at == at_sign && gap == space) ≡ true → is_sign sign ≡ true → HasMinutes stop more
closed-at None at run gap sign more h e s = tt
closed-at (Some lines) at run gap sign more h e s = grind (arith, and-second, and_from)

-- where the tokens end: a line feed says what nothing says
white-after : (stop : Option (List Token)) → HasMinutes stop [] → (white (after stop) ≡ 0) × (without_white (after stop) ≡ after stop)
unfolding white without_white are_white
white-after None h = (refl, refl)
white-after (Some lines) h = absurd cc

padded-end : (stop : Option (List Token)) (before : ℕ) → padded_after before (after stop) ≡ None
padded-end None before = refl
padded-end (Some (Digits run ∷ more)) before = refl
padded-end (Some ts) before = refl

padded-mark-end : (stop : Option (List Token)) (before mark : ℕ) → padded_after before (Mark mark ∷ after stop) ≡ None
padded-mark-end None before mark = refl
padded-mark-end (Some lines) before mark = refl

two-end : (stop : Option (List Token)) (hours : ℕ) → two_digit_offset hours (after stop) ≡ Ok (offset_minutes hours false 0, after stop)
unfolding two_digit_offset
two-end None hours = refl
two-end (Some lines) hours = refl

sign-end : (stop : Option (List Token)) (f : Fields) (behind : Bool) → sign_rule f behind (after stop) ≡ Ok (Some f, after stop)
unfolding sign_rule
sign-end None f behind = refl
sign-end (Some lines) f behind = refl

steps-end : (stop : Option (List Token)) (now : Now) (n : ℕ) (r : Reading) → steps now n r (after stop) ≡ Ok r
unfolding walked
steps-end None now zero r = refl
steps-end None now (suc n) r = refl
steps-end (Some lines) now zero r = refl
steps-end (Some lines) now (suc n) r = refl

ends-end : (stop : Option (List Token)) → ends (after stop) ≡ true
ends-end None = refl
ends-end (Some lines) = refl

at-end : (stop : Option (List Token)) → at_text (after stop) ≡ None
unfolding at_text
at-end None = refl
at-end (Some (Digits run ∷ Mark gap ∷ Mark sign ∷ more)) = refl
at-end (Some ts) = refl

at-mark-end : (at : ℕ) (stop : Option (List Token)) → at_text (Mark at ∷ after stop) ≡ None
unfolding at_text
at-mark-end at None = refl
at-mark-end at (Some lines) = refl

at-digits-end : (at : ℕ) (run : List ℕ) (stop : Option (List Token)) → at_text (Mark at ∷ Digits run ∷ after stop) ≡ None
unfolding at_text
at-digits-end at run (Some (Mark sign ∷ more)) = rw (and-false (at == at_sign))
at-digits-end at run ts = refl

at-gap-end : (at gap : ℕ) (run : List ℕ) (stop : Option (List Token)) → at_text (Mark at ∷ Digits run ∷ Mark gap ∷ after stop) ≡ None
unfolding at_text
at-gap-end at gap run None = refl
at-gap-end at gap run (Some lines) = same-both (at == at_sign && gap == space) None

module _ (spell : List ℕ → List ℕ) (same : IsSpelling spell) (stop : Option (List Token)) where
  abbrev φ : List Token → List Token
  φ ts = changed spell stop ts

  abbrev k : ℕ
  k = bytes_left (after stop)

  abbrev here : (ts : List Token) → bytes_left (φ ts) ≡ bytes_left ts + k
  here ts = left-is spell same stop ts

  abbrev step_moved : Stepped → Stepped
  step_moved step = moved spell same stop step

  abbrev offset_moved : SaidOffset → SaidOffset
  offset_moved said = moved spell same stop said

  abbrev moved_padded : Padded × List Token → Padded × List Token
  moved_padded found = (record found.0 { left = found.0.left + k }, φ found.1)

  -- white space, and a number after it
  whites-are : (ts : List Token) → HasMinutes stop ts → (white (φ ts) ≡ white ts) × (without_white (φ ts) ≡ φ (without_white ts))
  unfolding white without_white
  whites-are [] h = white-after stop h
  whites-are (Letters run ∷ more) h = (refl, refl)
  whites-are (Digits run ∷ more) h = (refl, refl)
  whites-are (Mark byte ∷ more) h = (
    by-true (λ (n : ℕ). n) (is_white (Mark byte)) (1 + white more) 0 (1 + white (φ more)) 0
        (λ e. ap (λ n. 1 + n) (whites-are more (white-next stop (Mark byte) more h e)).0) refl,
    by-true φ (is_white (Mark byte)) (without_white more) (Mark byte ∷ more) (without_white (φ more)) (Mark byte ∷ φ more)
        (λ e. (whites-are more (white-next stop (Mark byte) more h e)).1) refl,
  )

  one-padded : (negative : Bool) (before : ℕ) (run : List ℕ) (more : List Token)
      → Some (padded_by negative before run (φ more)) ≡ option_map moved_padded (Some (padded_by negative before run more))
  one-padded negative before run more =
      ap (λ (left : ℕ). let n : Padded = record { negative = negative; value = number run; width = before + length run; left = left } in
      Some (n, φ more)) (here (Digits run ∷ more))

  padded-is : (before : ℕ) (ts : List Token) → padded_after before (φ ts) ≡ option_map moved_padded (padded_after before ts)
  padded-is before [] = padded-end stop before
  padded-is before (Letters run ∷ more) = refl
  padded-is before (Digits run ∷ more) = one-padded false before run more
  padded-is before (Mark mark ∷ []) = padded-mark-end stop before mark
  padded-is before (Mark mark ∷ Letters run ∷ more) = refl
  padded-is before (Mark mark ∷ Mark other ∷ more) = refl
  padded-is before (Mark mark ∷ Digits run ∷ more) =
      by-true (option_map moved_padded) (mark == plus) _ _ _ _ (λ e. one-padded false (1 + before) run more)
      (by-true (option_map moved_padded) (mark == minus) _ _ _ _ (λ e. one-padded true (1 + before) run more) refl)

  padded-number-is : (ts : List Token) → HasMinutes stop ts → padded_number (φ ts) ≡ option_map moved_padded (padded_number ts)
  unfolding padded_number
  padded-number-is ts h =
      let whites = whites-are ts h in (λ i. padded_after (whites.0 i) (whites.1 i)) ∙ padded-is (white ts) (without_white ts)

  -- offsets
  minutes-are : (hours : ℕ) (ts : List Token) (found : ReadTokens Padded)
      → option_map_or (minutes_said hours) (option_map moved_padded found) (Ok (None, φ ts))
      ≡ offset_moved (option_map_or (minutes_said hours) found (Ok (None, ts)))
  minutes-are hours ts None = refl
  minutes-are hours ts (Some (n, more)) = by-true offset_moved (is_too_large n.value) _ _ _ _ (λ e. refl) refl

  colon-is : (hours : ℕ) (ts : List Token) → HasMinutes stop ts → colon_minutes hours (φ ts) ≡ offset_moved (colon_minutes hours ts)
  unfolding colon_minutes
  colon-is hours ts h =
      ap (λ (found : ReadTokens Padded). option_map_or (minutes_said hours) found (Ok (None, φ ts))) (padded-number-is ts h)
      ∙ minutes-are hours ts (padded_number ts)

  -- what minutes need after two digits
  abbrev MayHaveMinutes : List Token → Type 0
  MayHaveMinutes (Mark byte ∷ more) = (byte == colon) ≡ true → HasMinutes stop more
  MayHaveMinutes ts = Unit {0}

  two-is : (hours : ℕ) (ts : List Token) → MayHaveMinutes ts → two_digit_offset hours (φ ts) ≡ offset_moved (two_digit_offset hours ts)
  unfolding two_digit_offset
  two-is hours [] h = two-end stop hours
  two-is hours (Letters run ∷ more) h = refl
  two-is hours (Digits run ∷ more) h = refl
  two-is hours (Mark byte ∷ more) h = by-true offset_moved (byte == colon) _ _ _ _ (λ e. colon-is hours more (h e)) refl

  offset-is : (run : List ℕ) (more : List Token) → ((length run == 2) ≡ true → MayHaveMinutes more)
      → offset_said run (φ more) ≡ offset_moved (offset_said run more)
  unfolding offset_said
  offset-is run more h =
      by-true offset_moved (is_too_large (number run)) _ _ _ _
      (λ e. ap (λ (left : ℕ). Err (NumberTooLarge left)) (here (Digits run ∷ more)))
      (by-true offset_moved (length run == 2) _ _ _ _ (λ e. two-is (number run) more (h e)) refl)

  with-offset-is : (f : Fields) (behind : Bool) (said : SaidOffset)
      → and_then (offset_moved said) (λ said. Ok (option_map (with_offset f behind) said.0, said.1))
      ≡ step_moved (and_then said (λ said. Ok (option_map (with_offset f behind) said.0, said.1)))
  with-offset-is f behind (Ok found) = refl
  with-offset-is f behind (Err e) = refl

  may-have : (sign : ℕ) (run : List ℕ) (more : List Token) → IsClosed stop (Mark sign ∷ Digits run ∷ more) → is_sign sign ≡ true
      → (length run == 2) ≡ true → MayHaveMinutes more
  may-have sign run (Mark byte ∷ more) h s two = λ e. closed-minutes stop sign byte run more h s two e
  may-have sign run ts h s two = tt

  sign-is : (f : Fields) (behind : Bool) (sign : ℕ) (ts : List Token) → IsClosed stop (Mark sign ∷ ts) → is_sign sign ≡ true
      → sign_rule f behind (φ ts) ≡ step_moved (sign_rule f behind ts)
  unfolding sign_rule
  sign-is f behind sign [] h s = sign-end stop f behind
  sign-is f behind sign (Letters run ∷ more) h s = refl
  sign-is f behind sign (Mark byte ∷ more) h s = refl
  sign-is f behind sign (Digits run ∷ more) h s =
      ap (λ (said : SaidOffset). ended (and_then said (λ said. Ok (option_map (with_offset f behind) said.0, said.1))))
      (offset-is run more (may-have sign run more h s))
      ∙ ap (λ (step : Stepped). ended step) (with-offset-is f behind (offset_said run more))
      ∙ ended-is spell same stop (offset_rule f behind run more)

  -- steps
  read-on-is : (r : Reading) (left : ℕ) (said : Option Fields) → read_on (farther k r) (left + k) said ≡ farther k (read_on r left said)
  read-on-is r left (Some next) = refl
  read-on-is r left None = ap (λ (ignored : Option ℕ). record r { ignored = ignored }) (first-farther k r.ignored (Some left))

  module _ (now : Now) (n : ℕ)
      (again : (r : Reading) (ts : List Token) → IsClosed stop ts → steps now n (farther k r) (φ ts) ≡ read_farther k (steps now n r ts))
    where
      abbrev go_on : Reading → ℕ → Stepped → Result Reading Fault
      go_on r left step = and_then step (λ next. steps now n (read_on r left next.0) next.1)

      then-is : (r : Reading) (left other : ℕ) (x y : Stepped) → other ≡ left + k → Leaves (IsClosed stop) (λ left. Unit {0}) x
          → y ≡ step_moved x
          → go_on (farther k r) other y ≡ read_farther k (go_on r left x)
      then-is r left other x y e h is = (λ i. go_on (farther k r) (e i) (is i)) ∙ by x h
        where
          by : (x : Stepped) → Leaves (IsClosed stop) (λ left. Unit {0}) x
              → go_on (farther k r) (left + k) (step_moved x) ≡ read_farther k (go_on r left x)
          by (Ok found) h = ap (λ (r : Reading). steps now n r (φ found.1)) (read-on-is r left found.0)
              ∙ again (read_on r left found.0) found.1 h
          by (Err fault) h = refl

  pub steps-is : (now : Now) (n : ℕ) (r : Reading) (ts : List Token) → IsClosed stop ts
      → steps now n (farther k r) (φ ts) ≡ read_farther k (steps now n r ts)
  unfolding walked
  steps-is now n r [] h = steps-end stop now n (farther k r) ∙ sym (ap (read_farther k) (nothing-left (step now) n r))
  steps-is now zero r (Letters run ∷ more) h = refl
  steps-is now zero r (Digits run ∷ more) h = refl
  steps-is now zero r (Mark byte ∷ more) h = refl
  steps-is now (suc n) r (Letters run ∷ more) h =
      then-is now n (λ r ts h. steps-is now n r ts h) r _ _ (rule now r.fields (Letters run) more) _ (here (Letters run ∷ more))
      (closed-left stop now r.fields (Letters run) more h)
      (ap (λ (said : Option Fields). Ok (said, φ more)) (letters-is spell same stop r.fields run more))
  steps-is now (suc n) r (Digits run ∷ more) h =
      then-is now n (λ r ts h. steps-is now n r ts h) r _ _ (rule now r.fields (Digits run) more) _ (here (Digits run ∷ more))
      (closed-left stop now r.fields (Digits run) more h)
      (ap (λ (step : Stepped). ended step) (digits-is spell same stop now r.fields run more)
      ∙ ended-is spell same stop (digits_rule now r.fields run more))
  steps-is now (suc n) r (Mark byte ∷ more) h =
      by-true (read_farther k) (is_end (Mark byte)) _ _ _ _ (λ e. refl)
      (then-is now n (λ r ts h. steps-is now n r ts h) r _ _ (rule now r.fields (Mark byte) more) _ (here (Mark byte ∷ more))
      (closed-left stop now r.fields (Mark byte) more h)
      (by-true step_moved (byte == plus) _ _ _ _ (λ e. sign-is r.fields false byte more h (or-left (byte == plus) (byte == minus) e))
      (by-true step_moved (byte == minus) _ _ _ _ (λ e. sign-is r.fields true byte more h (or-right (byte == plus) (byte == minus) e))
      refl)))

  -- `@`
  ends-are : (ts : List Token) → ends (φ ts) ≡ ends ts
  ends-are [] = ends-end stop
  ends-are (Letters run ∷ more) = refl
  ends-are ts = refl

  wide-is : (behind : Bool) (found : ReadTokens Padded)
      → (option_map moved_padded found >>= (λ (found : Padded × List Token). wide_minutes behind found.0 found.1))
      ≡ (found >>= (λ (found : Padded × List Token). wide_minutes behind found.0 found.1))
  wide-is behind None = refl
  wide-is behind (Some (n, more)) = rw (ends-are more) refl

  wide-after-is : (behind : Bool) (ts : List Token) → HasMinutes stop ts
      → (padded_number (φ ts) >>= (λ (found : Padded × List Token). wide_minutes behind found.0 found.1))
      ≡ (padded_number ts >>= (λ (found : Padded × List Token). wide_minutes behind found.0 found.1))
  wide-after-is behind ts h =
      ap (λ (found : ReadTokens Padded). found >>= (λ (found : Padded × List Token). wide_minutes behind found.0 found.1))
      (padded-number-is ts h) ∙ wide-is behind (padded_number ts)

  by-sign-is : (sign : ℕ) (ts : List Token) → (is_sign sign ≡ true → HasMinutes stop ts) → by_sign sign (φ ts) ≡ by_sign sign ts
  by-sign-is sign ts h =
      by-true (λ (said : Option ℤ). said) (sign == plus) _ _ _ _
      (λ e. wide-after-is false ts (h (or-left (sign == plus) (sign == minus) e)))
      (by-true (λ (said : Option ℤ). said) (sign == minus) _ _ _ _
      (λ e. wide-after-is true ts (h (or-right (sign == plus) (sign == minus) e))) refl)

  pub at-is : (ts : List Token) → IsClosedAt stop ts → at_text (φ ts) ≡ at_text ts
  unfolding at_text
  at-is [] h = at-end stop
  at-is (Letters run ∷ more) h = refl
  at-is (Digits run ∷ more) h = refl
  at-is (Mark at ∷ []) h = at-mark-end at stop
  at-is (Mark at ∷ Letters run ∷ more) h = refl
  at-is (Mark at ∷ Mark byte ∷ more) h = refl
  at-is (Mark at ∷ Digits run ∷ []) h = at-digits-end at run stop
  at-is (Mark at ∷ Digits run ∷ Letters other ∷ more) h = refl
  at-is (Mark at ∷ Digits run ∷ Digits other ∷ more) h = refl
  at-is (Mark at ∷ Digits run ∷ Mark gap ∷ []) h = at-gap-end at gap run stop
  at-is (Mark at ∷ Digits run ∷ Mark gap ∷ Letters other ∷ more) h = refl
  at-is (Mark at ∷ Digits run ∷ Mark gap ∷ Digits other ∷ more) h = refl
  at-is (Mark at ∷ Digits run ∷ Mark gap ∷ Mark sign ∷ more) h =
      by-true (λ (said : Option (ℕ × ℤ)). said) (at == at_sign && gap == space) _ _ _ _
      (λ e. ap (option_map (λ minutes. (number run, minutes))) (by-sign-is sign more (λ s. closed-at stop at run gap sign more h e s))) refl
