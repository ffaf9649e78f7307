-- What `raw` shows, after `@`.
use Rattle.std.proofs.Common.{◌≡◌, ◌∙◌, ◌≤◌, ◌<◌, ◌+◌, ◌/◌, ◌%◌, ◌^◌, ℕ, ℤ, pos, negsuc, ◌*ℤ◌, Bool, true, false, List, [], ◌∷◌, ◌++◌}
use Rattle.std.proofs.Common.{length, length-append, Option, Some, None, Result, Ok, refl, ap, arith}
use Rattle.std.specs.Char.{is_ascii_digit}
use Rattle.std.specs.Fmt.{decimal}
use Rattle.std.specs.Int.Signed.{lt_z}
use Rattle.std.specs.List.{fold, list_all}
use Rattle.std.proofs.lemmas.Bool.{and_parts}
use Rattle.std.proofs.lemmas.Fmt.{decimal_by_steps}
use Rattle.std.proofs.lemmas.List.Folds.{list_all-append}
use Rattle.std.proofs.lemmas.List.Sums.{fold-append}
use Rattle.jiff.specs.Types.{TimeZone}
use Rattle.jiff_core.proofs.SignedLemmas.{signed_arith}
use Rattle.gix_date.proofs.Fields.Instants.{instant_holds, z_holds}
use Rattle.gix_date.specs.Fields.Zoned.{is_instant}
use Rattle.gix_date.specs.Header.Text.{written_text}
use Rattle.gix_date.specs.Text.Characters.{at_sign, space}
use Rattle.gix_date.specs.Text.Numbers.{two_digits}
use Rattle.gix_date.specs.declared.time.Time.{Time}
use Rattle.git_date.proofs.Exact.PrintedReads.{minutes-back, sign-free}
use Rattle.git_date.proofs.Text.StringEnds.{has_nul, no-nul, whole-said}
use Rattle.git_date.proofs.Exact.FastSeconds.{sign_byte, minutes_of, raw_tokens, at-is, said_at, said-is}
use Rattle.git_date.proofs.Exact.PrintedClocks.{IsNumber, digit-test, number-before, pairs-number, sign-before}
use Rattle.git_date.proofs.Text.TokenRuns.{mark-first}
use Rattle.git_date.specs.Show.Modes.{own}
use Rattle.git_date.specs.Tokens.Numbers.{digit_more, number}
use Rattle.git_date.specs.Rules.Offsets.{at_text}
use Rattle.git_date.specs.Exact.Outcome.{date_of, date_at}
use Rattle.git_date.specs.Exact.Reading.{string_said, said_by, at_or_fields}
use Rattle.git_date.specs.Show.Dates.{shown, shown_offset}
use Rattle.git_date.specs.Show.Clocks.{Moment, is_written_offset}
use Rattle.git_date.specs.Tokens.Tokens.{Token, Digits, Mark, tokens}
use Rattle.git_date.specs.declared.reader.ExactDate.{ExactDate}
use Rattle.git_date.specs.Types.Names.{Now}
use Rattle.git_date.specs.declared.error.DateError.{DateError}
use Rattle.git_date.specs.declared.mode.DateKind.TheVariants.{Raw}
use Rattle.git_date_laws.proofs.Printing.ShownLaws.{mapped, when-shown}

-- digits that write a number
record IsRun (n : ℕ) (run : List ℕ) : Type 0 where
  number_is : fold digit_more 0 run ≡ n
  digits : list_all is_ascii_digit run ≡ true
  some : 1 ≤ length run

one-run : (n : ℕ) → n < 10 → IsRun n ((48 + n) ∷ [])
one-run n h = let e = digit-test n h in record { number_is = omega arith; digits = rw e refl; some = omega arith }

more-run : (n : ℕ) (run : List ℕ) → 10 ≤ n → IsRun (n / 10) run → IsRun n (run ++ ((48 + n % 10) ∷ []))
more-run n run h is = grind (arith, digit-test, fold-append, list_all-append, length-append)

decimal-is : (n : ℕ) → n < 2 ^ 64 → IsRun n (decimal n)
decimal-is n h = decimal_by_steps IsRun one-run more-run n h

pub decimal-number : (n : ℕ) → n < 2 ^ 64 → IsNumber (decimal n) n
unfolding number
decimal-number n h = let run = decimal-is n h in let is = run.number_is in record { some = run.some; digits = run.digits; is = omega arith }

raw-are : (n a b : ℕ) (behind : Bool) → n < 2 ^ 64 → a < 100 → b < 100
    → tokens (at_sign ∷ (decimal n ++ (space ∷ sign_byte behind ∷ (two_digits a ++ two_digits b))))
    ≡ raw_tokens (decimal n) behind (two_digits a ++ two_digits b)
unfolding tokens
raw-are n a b behind h f g =
    let pairs = two_digits a ++ two_digits b in
    let last : tokens (space ∷ sign_byte behind ∷ pairs) ≡ Mark space ∷ Mark (sign_byte behind) ∷ Digits pairs ∷ [] =
    mark-first space (sign_byte behind ∷ pairs) refl refl
    ∙ ap (λ (ts : List Token). Mark space ∷ ts) (sign-before behind pairs
    ∙ ap (λ (ts : List Token). Mark (sign_byte behind) ∷ ts) (number-before pairs [] [] _ (pairs-number a b f g) refl tt)) in
    mark-first at_sign (decimal n ++ (space ∷ sign_byte behind ∷ pairs)) refl refl
    ∙ ap (λ (ts : List Token). Mark at_sign ∷ ts)
    (number-before (decimal n) (space ∷ sign_byte behind ∷ pairs) _ n (decimal-number n h) last tt)

raw-said : (now : Now) (n a b : ℕ) (behind : Bool) → n < 2 ^ 64 → a < 100 → b < 100 → is_instant (pos n) ≡ true
    → said_by now (at_sign ∷ (decimal n ++ (space ∷ sign_byte behind ∷ (two_digits a ++ two_digits b))))
    ≡ Ok (said_at n (minutes_of behind a b))
unfolding string_said
raw-said now n a b behind h f g e =
    let text = at_sign ∷ (decimal n ++ (space ∷ sign_byte behind ∷ (two_digits a ++ two_digits b))) in
    let are = raw-are n a b behind h f g in
    let free : has_nul (raw_tokens (decimal n) behind (two_digits a ++ two_digits b)) ≡ false = rw (sign-free behind) refl in
    let found : at_text (tokens text) ≡ Some (n, minutes_of behind a b) =
    ap at_text are ∙ at-is (decimal n) a b behind f g ∙ ap (λ (k : ℕ). Some (k, minutes_of behind a b)) (decimal-number n h).is in
    whole-said now text (no-nul text (ap has_nul are ∙ free)) ∙ ap (λ (o : Option (ℕ × ℤ)). at_or_fields now text o) found
    ∙ said-is n (minutes_of behind a b) e

pub date-is : (n : ℕ) (minutes offset : ℤ) → pos 60 *ℤ minutes ≡ offset
    → date_at (said_at n minutes) minutes
    ≡ Ok (record { time = record { seconds = pos n; offset = offset }; has_offset = true; ignored = None })
unfolding date_at
date-is n minutes offset e = grind (arith, z_holds, signed_arith)

raw-parts : (now : Moment) (t : Time) (text : List ℕ) → shown now (own Raw) t ≡ Some text
    → (lt_z t.seconds (pos 0) ≡ false) × (is_written_offset t.offset ≡ true) × (written_text t ≡ text)
unfolding shown shown_offset
raw-parts now t text e = grind (arith, when-shown, mapped)

by-seconds : (tz : TimeZone) (this : Now) (s o : ℤ) (result : Result ExactDate DateError) → lt_z s (pos 0) ≡ false
    → is_written_offset o ≡ true → is_instant s ≡ true
    → result ≡ date_of tz (said_by this (at_sign ∷ written_text (record { seconds = s; offset = o })))
    → result ≡ Ok (record { time = record { seconds = s; offset = o }; has_offset = true; ignored = None })
by-seconds tz this (negsuc n) o result past written instant h = absurd cc
by-seconds tz this (pos n) o result past written instant h =
    grind (arith, instant_holds, and_parts, said_at, minutes_of, raw-said, signed_arith, date-is, minutes-back)

pub raw_back : (tz : TimeZone) (this : Now) (now : Moment) (t : Time) (text : List ℕ) (result : Result ExactDate DateError)
    → is_instant t.seconds ≡ true
    → shown now (own Raw) t ≡ Some text → result ≡ date_of tz (said_by this (at_sign ∷ text))
    → result ≡ Ok (record { time = t; has_offset = true; ignored = None })
raw_back tz this now t text result instant e h = grind (arith, raw-parts, by-seconds)
