-- What the rules leave of the tokens: what holds of tokens and of all that follows holds of what is left; and places of faults and of
-- what is ignored stand at letters, digits or signs.
use Rattle.std.proofs.Common.{◌≡◌, ◌<◌, ℕ, zero, suc, refl, Bool, true, false, cond, List, [], ◌∷◌, length, arith, option_map, is_some}
use Rattle.std.proofs.Common.{Option, Some, None, Result, Ok, Err}
use Rattle.std.specs.Prelude.{◌==◌, ◌||◌, ◌&&◌, ◌/◌, ◌%◌, ok_or, codes, option_and_then}
use Rattle.std.specs.Option.{option_or, option_map_or}
use Rattle.std.proofs.lemmas.Bool.Decides.{nat_tests}
use Rattle.gix_date.specs.Fields.Layout.{LocalTime}
use Rattle.gix_date.specs.Text.Characters.{plus, minus, colon, dot}
use Rattle.gix_date.specs.Text.Names.{is_name}
use Rattle.git_date.specs.Tokens.Tokens.{Token, Letters, Digits, Mark, bytes_left, is_end, walked}
use Rattle.git_date.specs.Tokens.Numbers.{number, is_too_large}
use Rattle.git_date.specs.Tokens.Steps.{and_then}
use Rattle.git_date.specs.Rules.Clocks.{utc_clock}
use Rattle.git_date.specs.Rules.Dates.{year_date}
use Rattle.git_date.specs.Rules.Digits.{Stepped, is_epoch, with_epoch, by_date, bare_digits, grouped, group_said, group_or_bare}
use Rattle.git_date.specs.Rules.Digits.{digits_rule}
use Rattle.git_date.specs.Rules.Fields.{with_clock, knows_date}
use Rattle.git_date.specs.Rules.Groups.{ReadTokens, marked_number, is_group_mark, third_or_none, group_of, group_rule, large_number}
use Rattle.git_date.specs.Rules.Groups.{large_in, without_fraction}
use Rattle.git_date.specs.Rules.Offsets.{is_white, without_white, white, padded_after, padded_number, minutes_said, colon_minutes}
use Rattle.git_date.specs.Rules.Offsets.{two_digit_offset, SaidOffset, offset_said, with_offset}
use Rattle.git_date.specs.Rules.Words.{without_ending, is_ending}
use Rattle.git_date.specs.Exact.Reading.{read_on, ended, sign_rule, rule, steps}
use Rattle.git_date.specs.declared.error.Fault.{Fault}
use Rattle.git_date.specs.declared.error.Fault.TheVariants.{NumberTooLarge, BackTooFar, YearRefused, Range}
use Rattle.git_date.specs.declared.fields.Fields.{Fields}
use Rattle.git_date.specs.declared.fields.dates.Dated.{Dated}
use Rattle.git_date.specs.declared.fields.dates.Dated.TheVariants as dated
use Rattle.git_date.specs.declared.fields.dates.Now.{Now}
use Rattle.git_date.specs.declared.fields.groups.Group.{Group}
use Rattle.git_date.specs.declared.fields.groups.Number.{Number}
use Rattle.git_date.specs.declared.fields.offsets.Padded.{Padded}
use Rattle.git_date.specs.declared.reader.Reading.{Reading}

-- Of tokens `R` holds, and of what follows each; there `P` holds of the places of letters, digits and ASCII marks.
pub record IsKept (R : List Token → Type 0) (P : ℕ → Type 0) : Type 0 where
  pub next : (t : Token) (more : List Token) → R (t ∷ more) → R more
  pub at_letters : (run : List ℕ) (more : List Token) → R (Letters run ∷ more) → P (bytes_left (Letters run ∷ more))
  pub at_digits : (run : List ℕ) (more : List Token) → R (Digits run ∷ more) → P (bytes_left (Digits run ∷ more))
  pub at_mark : (byte : ℕ) (more : List Token) → byte < 128 → R (Mark byte ∷ more) → P (bytes_left (Mark byte ∷ more))

abbrev pub IsFaultAt : (ℕ → Type 0) → Fault → Type 0
IsFaultAt P (NumberTooLarge left) = P left
IsFaultAt P (BackTooFar left) = P left
IsFaultAt P (YearRefused left) = P left
IsFaultAt P Range = Unit {0}

-- what a rule leaves, or where its fault is
abbrev pub Leaves : {A : Type 0} → (List Token → Type 0) → (ℕ → Type 0) → Result (A × List Token) Fault → Type 0
Leaves R P (Ok found) = R found.1
Leaves R P (Err fault) = IsFaultAt P fault

abbrev pub IsAt : (ℕ → Type 0) → Option ℕ → Type 0
IsAt P None = Unit {0}
IsAt P (Some left) = P left

-- what is read, or where its fault is
abbrev pub IsReadAt : (ℕ → Type 0) → Result Reading Fault → Type 0
IsReadAt P (Ok r) = IsAt P r.ignored
IsReadAt P (Err e) = IsFaultAt P e

-- either way
pub either : {A : Type 0} (F : A → Type 0) (b : Bool) (x y : A) → F x → F y → F (cond b x y)
either F true x y p q = p
either F false x y p q = q

pub white-left : (F : List Token → Type 0) → ((t : Token) (more : List Token) → F (t ∷ more) → F more) → (ts : List Token) → F ts
    → F (without_white ts)
unfolding without_white
white-left F next [] q = q
white-left F next (t ∷ more) q = either F (is_white t) (without_white more) (t ∷ more) (white-left F next more (next t more q)) q

-- the group that begins with a number, by the mark and the number after it
abbrev pub group_after : ℕ → ReadTokens (ℕ × Number) → ReadTokens Group
group_after first next =
    option_and_then
    (λ found. cond (is_group_mark found.0.0) (Some (third_or_none found.0.0 first found.0.1 found.1 (marked_number found.1))) None) next

or-at : (P : ℕ → Type 0) (a b : Option ℕ) → IsAt P a → IsAt P b → IsAt P (option_or a b)
or-at P None b p q = q
or-at P (Some left) b p q = p

-- a mark that says nothing is not ignored, unless it is a sign
unused-mark : (now : Now) (f : Fields) (byte : ℕ) (more rest : List Token) → rule now f (Mark byte) more ≡ Ok (None, rest) → byte < 128
unused-mark now f byte more rest e = grind (arith, nat_tests)

module _ (R : List Token → Type 0) (P : ℕ → Type 0) (k : IsKept R P) where
  fraction-left : (ts : List Token) → R ts → R (without_fraction ts)
  unfolding without_fraction
  fraction-left (Mark byte ∷ Digits run ∷ more) r = either R (byte == dot) _ _ (k.next _ _ (k.next _ _ r)) r
  fraction-left ts r = r

  pub ending-left : (ts : List Token) → R ts → R (without_ending ts)
  unfolding without_ending
  ending-left (Letters run ∷ Digits after ∷ more) r = either R (is_name run (codes "T")) _ _ (k.next _ _ r) r
  ending-left (Letters run ∷ more) r = either R (is_ending run) _ _ (k.next _ _ r) r
  ending-left ts r = r

  -- groups
  abbrev IsMarkedAt : ReadTokens (ℕ × Number) → Type 0
  IsMarkedAt None = Unit {0}
  IsMarkedAt (Some found) = P found.0.1.left × R found.1

  abbrev IsGroupAt : ReadTokens Group → Type 0
  IsGroupAt None = Unit {0}
  IsGroupAt (Some found) = IsAt P (large_in found.0) × R found.1

  -- what a group says, or where its fault is
  abbrev pub IsSaidAt : Result (Option (Fields × List Token)) Fault → Type 0
  IsSaidAt (Ok None) = Unit {0}
  IsSaidAt (Ok (Some found)) = R found.1
  IsSaidAt (Err fault) = IsFaultAt P fault

  marked-at : (ts : List Token) → R ts → IsMarkedAt (marked_number ts)
  unfolding marked_number
  marked-at (Mark byte ∷ Digits run ∷ more) r = (k.at_digits run more (k.next _ _ r), k.next _ _ (k.next _ _ r))
  marked-at ts r = tt

  number-at : (n : Number) → P n.left → IsAt P (large_number n)
  number-at n p = either (IsAt P) (is_too_large n.value) _ _ p tt

  third-at : (mark first : ℕ) (second : Number) (more : List Token) (found : ReadTokens (ℕ × Number)) → P second.left → R more
      → IsMarkedAt found
      → IsGroupAt (Some (third_or_none mark first second more found))
  third-at mark first second more None p r h = (or-at P (large_number second) None (number-at second p) tt, r)
  third-at mark first second more (Some found) p r h =
      either (λ (g : Group × List Token). IsGroupAt (Some g)) (found.0.0 == mark) _ _
      (or-at P (large_number second) (large_number found.0.1) (number-at second p) (number-at found.0.1 h.0), h.1)
      (or-at P (large_number second) None (number-at second p) tt, r)

  group-at : (first : ℕ) (found : ReadTokens (ℕ × Number)) → IsMarkedAt found → IsGroupAt (group_after first found)
  group-at first None h = tt
  group-at first (Some found) h =
      either IsGroupAt (is_group_mark found.0.0) _ _
      (third-at found.0.0 first found.0.1 found.1 (marked_number found.1) h.0 h.1 (marked-at found.1 h.1)) tt

  unless-at : (large : Option ℕ) (said : Result (Option (Fields × List Token)) Fault) → IsAt P large → IsSaidAt said
      → IsSaidAt (option_map_or (λ left. Err (NumberTooLarge left)) large said)
  unless-at None said h s = s
  unless-at (Some left) said h s = h

  grouped-at : (left : ℕ) (g : Group) (more : List Token) (d : Dated) → P left → IsAt P (large_in g) → R more
      → IsSaidAt (grouped left g more d)
  grouped-at left g more (dated.Taken f) p h r =
      unless-at (large_in g) _ h (either R (g.mark == colon && knows_date f) _ _ (fraction-left more r) r)
  grouped-at left g more dated.Refused p h r = tt
  grouped-at left g more dated.YearRefused p h r = unless-at (large_in g) _ h p

  read-at : (now : Now) (f : Fields) (left : ℕ) (found : ReadTokens Group) → P left → IsGroupAt found
      → IsSaidAt (option_map_or (λ found. grouped left found.0 found.1 (group_rule now f found.0)) found (Ok None))
  read-at now f left None p h = tt
  read-at now f left (Some found) p h = grouped-at left found.0 found.1 (group_rule now f found.0) p h.0 h.1

  pub group-said-at : (now : Now) (f : Fields) (run : List ℕ) (more : List Token) → P (bytes_left (Digits run ∷ more)) → R more
      → IsSaidAt (group_said now f run more)
  unfolding group_said group_of
  group-said-at now f run more p r =
      read-at now f _ (group_after (number run) (marked_number more)) p (group-at (number run) (marked_number more) (marked-at more r))

  -- digits
  dated-at : (run : List ℕ) (more : List Token) (d : Dated) → P (bytes_left (Digits run ∷ more)) → R more → Leaves R P (by_date run more d)
  dated-at run more (dated.Taken f) p r = r
  dated-at run more dated.Refused p r = r
  dated-at run more dated.YearRefused p r = p

  epoch-at : (f : Fields) (more : List Token) (shown : Option LocalTime) → R more
      → Leaves R P (ok_or (option_map (λ shown. (Some (with_epoch f shown), more)) shown) Range)
  epoch-at f more None r = tt
  epoch-at f more (Some shown) r = r

  bare-at : (f : Fields) (run : List ℕ) (more : List Token) → P (bytes_left (Digits run ∷ more)) → R more
      → Leaves R P (bare_digits f run more)
  unfolding bare_digits
  bare-at f run more p r =
      let n = number run in
      either (Leaves R P) (length run == 8) _ _ (dated-at run more (year_date f (n / 10_000) (n / 100 % 100) (n % 100)) p r)
      (either (Leaves R P) (length run == 6) _ _
      (either R (is_some (with_clock f (n / 10_000) (n / 100 % 100) (n % 100))) _ _ (fraction-left more r) r)
      (either (Leaves R P) (length run == 4) _ _ r (either (Leaves R P) (length run == 1 || length run == 2) _ _ r r)))

  or-bare-at : (f : Fields) (run : List ℕ) (more : List Token) (said : Result (Option (Fields × List Token)) Fault)
      → P (bytes_left (Digits run ∷ more)) → R more
      → IsSaidAt said → Leaves R P (and_then said (group_or_bare f run more))
  or-bare-at f run more (Ok None) p r h = bare-at f run more p r
  or-bare-at f run more (Ok (Some found)) p r h = h
  or-bare-at f run more (Err fault) p r h = h

  digits-at : (now : Now) (f : Fields) (run : List ℕ) (more : List Token) → P (bytes_left (Digits run ∷ more)) → R more
      → Leaves R P (digits_rule now f run more)
  unfolding digits_rule
  digits-at now f run more p r =
      either (Leaves R P) (is_epoch f (number run)) _ _ (epoch-at f more (utc_clock (number run)) r)
      (either (Leaves R P) (is_too_large (number run)) _ _ p
      (or-bare-at f run more (group_said now f run more) p r (group-said-at now f run more p r)))

  -- offsets
  abbrev IsPaddedAt : ReadTokens Padded → Type 0
  IsPaddedAt None = Unit {0}
  IsPaddedAt (Some found) = P found.0.left × R found.1

  padded-at : (before : ℕ) (ts : List Token) → R ts → IsPaddedAt (padded_after before ts)
  padded-at before (Digits run ∷ more) r = (k.at_digits run more r, k.next _ _ r)
  padded-at before (Mark m ∷ Digits run ∷ more) r =
      let here : P (bytes_left (Digits run ∷ more)) × R more = (k.at_digits run more (k.next _ _ r), k.next _ _ (k.next _ _ r)) in
      either IsPaddedAt (m == plus) _ _ here (either IsPaddedAt (m == minus) _ _ here tt)
  padded-at before ts r = tt

  minutes-at : (hours : ℕ) (ts : List Token) (found : ReadTokens Padded) → R ts → IsPaddedAt found
      → Leaves R P (option_map_or (minutes_said hours) found (Ok (None, ts)))
  minutes-at hours ts None r h = r
  minutes-at hours ts (Some found) r h = either (Leaves R P) (is_too_large found.0.value) _ _ h.0 h.1

  two-at : (hours : ℕ) (ts : List Token) → R ts → Leaves R P (two_digit_offset hours ts)
  unfolding two_digit_offset colon_minutes padded_number
  two-at hours (Mark byte ∷ more) r =
      let after = k.next _ _ r in
      either (Leaves R P) (byte == colon) _ _
      (minutes-at hours more (padded_number more) after (padded-at (white more) (without_white more) (white-left R k.next more after)))
      r
  two-at hours ts r = r

  said-at : (run : List ℕ) (more : List Token) → P (bytes_left (Digits run ∷ more)) → R more → Leaves R P (offset_said run more)
  unfolding offset_said
  said-at run more p r =
      either (Leaves R P) (is_too_large (number run)) _ _ p (either (Leaves R P) (length run == 2) _ _ (two-at (number run) more r) r)

  offset-at : (f : Fields) (behind : Bool) (said : SaidOffset) → Leaves R P said
      → Leaves R P (and_then said (λ said. Ok (option_map (with_offset f behind) said.0, said.1)))
  offset-at f behind (Ok found) h = h
  offset-at f behind (Err fault) h = h

  -- rules
  ended-at : {A : Type 0} (step : Result (A × List Token) Fault) → Leaves R P step → Leaves R P (ended step)
  ended-at (Ok found) h = ending-left found.1 h
  ended-at (Err fault) h = h

  sign-at : (f : Fields) (behind : Bool) (ts : List Token) → R ts → Leaves R P (sign_rule f behind ts)
  unfolding sign_rule
  sign-at f behind (Digits run ∷ more) r =
      ended-at _ (offset-at f behind (offset_said run more) (said-at run more (k.at_digits run more r) (k.next _ _ r)))
  sign-at f behind ts r = r

  -- the place of letters and digits, where a rule may refuse or ignore them
  abbrev pub IsTokenAt : Token → List Token → Type 0
  IsTokenAt (Mark byte) more = Unit {0}
  IsTokenAt t more = P (bytes_left (t ∷ more))

  pub rule-left : (now : Now) (f : Fields) (t : Token) (more : List Token) → IsTokenAt t more → R more → Leaves R P (rule now f t more)
  rule-left now f (Letters run) more p r = r
  rule-left now f (Digits run) more p r = ended-at _ (digits-at now f run more p r)
  rule-left now f (Mark byte) more p r =
      either (Leaves R P) (byte == plus) _ _ (sign-at f false more r) (either (Leaves R P) (byte == minus) _ _ (sign-at f true more r) r)

  pub token-place : (t : Token) (more : List Token) → R (t ∷ more) → IsTokenAt t more
  token-place (Letters run) more r = k.at_letters run more r
  token-place (Digits run) more r = k.at_digits run more r
  token-place (Mark byte) more r = tt

  -- the reader
  unused-place : (now : Now) (f : Fields) (t : Token) (more rest : List Token) → R (t ∷ more) → rule now f t more ≡ Ok (None, rest)
      → P (bytes_left (t ∷ more))
  unused-place now f (Letters run) more rest r e = k.at_letters run more r
  unused-place now f (Digits run) more rest r e = k.at_digits run more r
  unused-place now f (Mark byte) more rest r e = k.at_mark byte more (unused-mark now f byte more rest e) r

  read-then : (now : Now) (n : ℕ) (r : Reading) (t : Token) (more : List Token) (step : Stepped)
      → ((next : Reading) (rest : List Token) → R rest → IsAt P next.ignored → IsReadAt P (steps now n next rest))
      → R (t ∷ more) → IsAt P r.ignored → rule now r.fields t more ≡ step → Leaves R P step
      → IsReadAt P (and_then step (λ next. steps now n (read_on r (bytes_left (t ∷ more)) next.0) next.1))
  read-then now n r t more (Ok (Some f, rest)) all q h e left = all (read_on r (bytes_left (t ∷ more)) (Some f)) rest left h
  read-then now n r t more (Ok (None, rest)) all q h e left =
      all (read_on r (bytes_left (t ∷ more)) None) rest left
      (or-at P r.ignored (Some (bytes_left (t ∷ more))) h (unused-place now r.fields t more rest q e))
  read-then now n r t more (Err fault) all q h e left = left

  pub steps-at : (now : Now) (n : ℕ) (r : Reading) (ts : List Token) → R ts → IsAt P r.ignored → IsReadAt P (steps now n r ts)
  unfolding walked
  steps-at now zero r [] q h = h
  steps-at now zero r (t ∷ more) q h = h
  steps-at now (suc n) r [] q h = h
  steps-at now (suc n) r (t ∷ more) q h =
      either (IsReadAt P) (is_end t) (Ok r) _ h
      (read-then now n r t more (rule now r.fields t more) (λ next rest q h. steps-at now n next rest q h) q h refl
      (rule-left now r.fields t more (token-place t more q) (k.next t more q)))
