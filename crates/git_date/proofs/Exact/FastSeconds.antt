-- Seconds since 1970 and an offset, as `raw` shows them, say themselves: alone and after `@`.
use Rattle.std.proofs.Common.{◌≡◌, ◌∙◌, ◌≤◌, ◌<◌, ◌+◌, ◌-◌, ◌*◌, ◌/◌, ◌%◌, ℕ, ℤ, pos, neg_ℤ, nat_le, Bool, true, false, cond, List, [], ◌∷◌}
use Rattle.std.proofs.Common.{◌++◌, length, take, drop, get_or, Option, Some, None, Ok, refl, ap, sym, subst, arith, append-nil, suc}
use Rattle.std.specs.Char.{is_ascii_digit}
use Rattle.std.specs.List.{list_all}
use Rattle.std.specs.Prelude.{nat_lt, ◌^◌}
use Rattle.std.specs.Str.{all_ascii_digits}
use Rattle.std.specs.Str.Parse.{digits_value}
use Rattle.std.proofs.lemmas.Bool.{and_parts}
use Rattle.std.proofs.lemmas.List.{take_all}
use Rattle.std.proofs.lemmas.Bool.Decides.{nat_tests}
use Rattle.jiff_core.proofs.SignedLemmas.{signed_arith}
use Rattle.gix_date.proofs.Fields.Instants.{instant_from, z_test}
use Rattle.std.proofs.Common.{FitsSigned, w64}
use Rattle.std.specs.Int.Signed.{le_z}
use Rattle.gix_date.specs.Fields.FieldTexts.{clock_text}
use Rattle.gix_date.specs.Fields.Layout.{LocalTime}
use Rattle.gix_date.specs.Fields.Offsets.{compact_offset_text}
use Rattle.gix_date.specs.Fields.Zoned.{is_instant, first_second, last_second}
use Rattle.gix_date.specs.Text.Characters.{at_sign, space, plus, minus}
use Rattle.gix_date.specs.Text.Numbers.{two_digits}
use Rattle.git_date.specs.Rules.Clocks.{utc_clock}
use Rattle.git_date.specs.Rules.Dates.{exact_seconds, month_start, first_of_year_2100}
use Rattle.git_date.specs.Rules.Digits.{digits_rule, min_epoch, with_epoch}
use Rattle.git_date.specs.Exact.Fast.{IsGitDate, WritesClock, WritesOffset, WritesSeconds, WritesRaw, Says, said_alone}
use Rattle.git_date.specs.Rules.Fields.{unknown}
use Rattle.git_date.specs.Tokens.Numbers.{number}
use Rattle.git_date.specs.Rules.Offsets.{at_text, padded_number, white, without_white}
use Rattle.git_date.specs.Exact.Reading.{ended, step, steps, at_said, by_seconds, fields_said, string_said, at_or_fields}
use Rattle.git_date.specs.Tokens.Tokens.{Token, Digits, Mark, tokens}
use Rattle.git_date.specs.Rules.Words.{without_ending}
use Rattle.git_date.specs.declared.fields.dates.Now.{Now}
use Rattle.git_date.specs.declared.fields.Fields.{Fields}
use Rattle.git_date.specs.declared.reader.Said.{Said}
use Rattle.git_date.proofs.Rules.ClocksBack.{shown_of, clock-is, no-leap, known-month}
use Rattle.git_date.proofs.Exact.FastTexts.{t, git-clock, minutes-are}
use Rattle.git_date.proofs.Exact.PrintedClocks.{IsGitClock, pairs-number, run-before, at, go, skip-space, go-offset, offset_tokens}
use Rattle.git_date.proofs.Exact.PrintedClocks.{spaced-offset, offset_in_minutes, hours_of, is_behind, minutes_of as minutes_in}
use Rattle.git_date.proofs.Exact.PrintedReads.{reads-are, sign-free}
use Rattle.git_date.proofs.Rules.Saturated.{number-is}
use Rattle.git_date.proofs.Text.StringEnds.{has_nul, no-nul, whole-said}
use Rattle.git_date.proofs.Text.TokenRuns.{mark-first}
use Rattle.git_date.proofs.Text.Walked.{nothing-left}

-- ten digits, by the value that std reads of them
pub ten_digits : (text : List ℕ) (n : ℕ) → all_ascii_digits text ≡ true → n ≡ digits_value 10 text → n < 10 ^ 18 → min_epoch ≤ n
    → n < first_of_year_2100 → WritesSeconds text n
ten_digits text n digits value small first last =
    record { first = first; last = last; digits = digits; is = number-is text digits (omega (arith, value, small)) ∙ sym value }

-- `@`
abbrev pub sign_byte : Bool → ℕ
sign_byte behind = cond behind minus plus

abbrev pub minutes_of : Bool → ℕ → ℕ → ℤ
minutes_of behind a b = cond behind (neg_ℤ (pos (60 * a + b))) (pos (60 * a + b))

abbrev pub raw_tokens : List ℕ → Bool → List ℕ → List Token
raw_tokens run behind pairs = Mark at_sign ∷ Digits run ∷ Mark space ∷ Mark (sign_byte behind) ∷ Digits pairs ∷ []

small : (k : ℕ) → k < 10_000 → nat_lt k 10_000 ≡ true
small k h = grind (arith, nat_tests)

pub at-is : (run : List ℕ) (a b : ℕ) (behind : Bool) → a < 100 → b < 100
    → at_text (raw_tokens run behind (two_digits a ++ two_digits b)) ≡ Some (number run, minutes_of behind a b)
unfolding at_text padded_number white without_white
at-is run a b true h g =
    let hundreds : (100 * a + b) / 100 ≡ a = omega arith in
    let ones : (100 * a + b) % 100 ≡ b = omega arith in
    rw ((pairs-number a b h g).is, small (100 * a + b) (omega arith), hundreds, ones) refl
at-is run a b false h g =
    let hundreds : (100 * a + b) / 100 ≡ a = omega arith in
    let ones : (100 * a + b) % 100 ≡ b = omega arith in
    rw ((pairs-number a b h g).is, small (100 * a + b) (omega arith), hundreds, ones) refl

abbrev pub said_at : ℕ → ℤ → Said
said_at n minutes = record { seconds = pos n; offset = Some minutes; epoch = true; leap = false; ignored = None }

pub said-is : (n : ℕ) (minutes : ℤ) → is_instant (pos n) ≡ true → at_said (n, minutes) ≡ Ok (said_at n minutes)
unfolding at_said
said-is n minutes e = rw e refl

-- an epoch, where nothing is known
seconds-instant : (n : ℕ) → n < first_of_year_2100 → is_instant (pos n) ≡ true
seconds-instant n h = instant_from (pos n) (omega (arith, signed_arith), omega (arith, signed_arith))

pub epoch-by : (now : Now) (n : ℕ) (run : List ℕ) (more : List Token) → number run ≡ n → min_epoch ≤ n → n < first_of_year_2100
    → digits_rule now unknown run more ≡ Ok (Some (with_epoch unknown (shown_of (pos n))), more)
unfolding digits_rule utc_clock
epoch-by now n run more e first last =
    let large : nat_le 100_000_000 (number run) ≡ true = grind (arith, nat_tests) in
    let instant : is_instant (pos (number run)) ≡ true = seconds-instant (number run) (omega arith) in
    rw (large, instant) (ap (λ (k : ℕ). Ok (Some (with_epoch unknown (shown_of (pos k))), more)) e)

-- its fields say its seconds, with an offset or without one
pub epoch-says : (n : ℕ) (offset : Option ℤ) (text : List ℕ) → n < first_of_year_2100
    → fields_said text (Ok (at (record (with_epoch unknown (shown_of (pos n))) { offset = offset })))
    ≡ Ok (record { seconds = pos n; offset = offset; epoch = true; leap = false; ignored = None })
unfolding fields_said exact_seconds month_start
epoch-says n offset text last =
    let fields : Fields = record (with_epoch unknown (shown_of (pos n))) { offset = offset } in
    let month = known-month (pos n) (omega (arith, signed_arith)) (omega (arith, signed_arith, last)) in
    let seconds : exact_seconds fields ≡ Some (pos n) =
    rw month (ap (λ (x : ℤ). Some x) (clock-is (pos n) (omega (arith, signed_arith), omega (arith, signed_arith, last))).seconds) in
    ap (by_seconds text (at fields)) seconds ∙ rw (seconds-instant n last, no-leap (pos n)) refl

midnight-is : WritesClock (clock_text (record { hour = 0; minute = 0; second = 0 })) (0, 0, 0)
midnight-is = record { hour = omega arith; minute = omega arith; second = omega arith; is = refl }

some-day : IsGitDate (2000, 1, 1)
some-day = record {
  first_year = omega arith;
  last_year = omega arith;
  first_month = omega arith;
  last_month = omega arith;
  first_day = omega arith;
  last_day = omega arith;
}

monday : 0 < 7
monday = omega arith

module _ (seconds offset_is : List ℕ) (n : ℕ) (offset : ℤ) (s : WritesSeconds seconds n)
    (o : WritesOffset compact_offset_text offset_is offset) where
  -- some clock at this offset
  abbrev l : LocalTime
  l = t 0 (2000, 1, 1) (0, 0, 0) offset _ offset_is compact_offset_text monday some-day midnight-is o

  clock : IsGitClock l
  clock = git-clock 0 (2000, 1, 1) (0, 0, 0) offset _ offset_is compact_offset_text monday some-day midnight-is o

  minutes : offset_in_minutes l ≡ offset
  minutes = minutes-are 0 (2000, 1, 1) (0, 0, 0) offset _ offset_is compact_offset_text monday some-day midnight-is o

  spaced : tokens (space ∷ offset_is) ≡ Mark space ∷ offset_tokens l
  spaced = subst (λ (shown : List ℕ). tokens (space ∷ shown) ≡ Mark space ∷ offset_tokens l) o.is (spaced-offset l clock)

  run-are : (run : List ℕ) → list_all is_ascii_digit run ≡ true → 1 ≤ number run
      → tokens (run ++ (space ∷ offset_is)) ≡ Digits run ∷ Mark space ∷ offset_tokens l
  unfolding number
  run-are [] digits h = absurd (omega (arith, h))
  run-are (c ∷ run) digits h = run-before (c ∷ run) (space ∷ offset_is) (Mark space ∷ offset_tokens l) (omega arith) digits spaced tt

  tokens-are : tokens (seconds ++ (space ∷ offset_is)) ≡ Digits seconds ∷ Mark space ∷ offset_tokens l
  tokens-are = let first = s.first in let is = s.is in run-are seconds s.digits (omega (arith, first, is))

  instant : is_instant (pos n) ≡ true
  instant = seconds-instant n s.last

  abbrev fields : Fields
  fields = record (with_epoch unknown (shown_of (pos n))) { offset = Some (offset_in_minutes l) }

  raw-steps : (now : Now) → steps now 40 (at unknown) (Digits seconds ∷ Mark space ∷ offset_tokens l) ≡ Ok (at fields)
  unfolding without_ending
  raw-steps now =
      go now 39 unknown (with_epoch unknown (shown_of (pos n))) (Digits seconds) (Mark space ∷ offset_tokens l)
      (Mark space ∷ offset_tokens l) refl
      (ap ended (epoch-by now n seconds (Mark space ∷ offset_tokens l) s.is s.first s.last))
      ∙ skip-space now 38 (with_epoch unknown (shown_of (pos n))) (offset_tokens l)
      ∙ go-offset now 37 (with_epoch unknown (shown_of (pos n))) l clock

  fields-say : (text : List ℕ) → fields_said text (Ok (at fields)) ≡ Ok (said_at n offset)
  fields-say text = epoch-says n (Some (offset_in_minutes l)) text s.last ∙ ap (λ (m : ℤ). Ok (said_at n m)) minutes

  pub raw-says : Says (seconds ++ (space ∷ offset_is)) (said_at n offset)
  unfolding at_text
  raw-says now =
      reads-are now (seconds ++ (space ∷ offset_is)) (Digits seconds ∷ Mark space ∷ offset_tokens l) 40 fields tokens-are
      (rw (sign-free (is_behind l)) refl) (omega arith) refl (raw-steps now)
      ∙ fields-say (seconds ++ (space ∷ offset_is))

  pub at-says : Says (at_sign ∷ (seconds ++ (space ∷ offset_is))) (said_at n offset)
  unfolding string_said
  at-says now =
      let text = at_sign ∷ (seconds ++ (space ∷ offset_is)) in
      let hours = clock.hours in
      let rest = clock.minutes in
      let are = mark-first at_sign (seconds ++ (space ∷ offset_is)) refl refl ∙ ap (λ (ts : List Token). Mark at_sign ∷ ts) tokens-are in
      let free : has_nul (Mark at_sign ∷ Digits seconds ∷ Mark space ∷ offset_tokens l) ≡ false = rw (sign-free (is_behind l)) refl in
      let found : at_text (tokens text) ≡ Some (n, offset) =
      ap at_text are
      ∙ at-is seconds (hours_of l) (minutes_in l) (is_behind l) (omega (arith, hours)) (omega (arith, rest))
      ∙ (λ i. Some (s.is i, minutes i)) in
      whole-said now text (no-nul text (ap has_nul are ∙ free)) ∙ ap (λ (o : Option (ℕ × ℤ)). at_or_fields now text o) found
      ∙ said-is n offset instant

-- seconds alone, whose offset the zone has
alone-run : (run : List ℕ) → list_all is_ascii_digit run ≡ true → 1 ≤ number run → tokens run ≡ Digits run ∷ []
unfolding number tokens
alone-run [] digits h = absurd (omega (arith, h))
alone-run (c ∷ run) digits h =
    subst (λ (text : List ℕ). tokens text ≡ Digits (c ∷ run) ∷ []) (append-nil (c ∷ run))
    (run-before (c ∷ run) [] [] (omega arith) digits refl tt)

module _ (seconds : List ℕ) (n : ℕ) (s : WritesSeconds seconds n) where
  abbrev epoch : Fields
  epoch = with_epoch unknown (shown_of (pos n))

  alone-are : tokens seconds ≡ Digits seconds ∷ []
  alone-are = let first = s.first in let is = s.is in alone-run seconds s.digits (omega (arith, first, is))

  alone-steps : (now : Now) (k : ℕ) → steps now (suc k) (at unknown) (Digits seconds ∷ []) ≡ Ok (at epoch)
  unfolding without_ending
  alone-steps now k =
      go now k unknown epoch (Digits seconds) [] [] refl (ap ended (epoch-by now n seconds [] s.is s.first s.last))
      ∙ nothing-left (step now) k (at epoch)

  pub alone-says : Says seconds (said_alone n)
  unfolding at_text
  alone-says now =
      reads-are now seconds (Digits seconds ∷ []) 40 epoch alone-are refl (omega arith) refl (alone-steps now 39)
      ∙ epoch-says n None seconds s.last

  pub at-alone-says : Says (at_sign ∷ seconds) (said_alone n)
  unfolding at_text
  at-alone-says now =
      reads-are now (at_sign ∷ seconds) (Mark at_sign ∷ Digits seconds ∷ []) 40 epoch
      (mark-first at_sign seconds refl refl ∙ ap (λ (ts : List Token). Mark at_sign ∷ ts) alone-are) refl (omega arith) refl
      (go now 39 unknown unknown (Mark at_sign) (Digits seconds ∷ []) (Digits seconds ∷ []) refl refl ∙ alone-steps now 38)
      ∙ epoch-says n None (at_sign ∷ seconds) s.last

pub alone_is : (text : List ℕ) (n : ℕ) → WritesSeconds text n → Says text (said_alone n)
alone_is text n w = alone-says text n w

pub alone_instant : (text : List ℕ) (n : ℕ) → WritesSeconds text n → is_instant (pos n) ≡ true
alone_instant text n w = seconds-instant n w.last

pub instant_fits : (n : ℕ) → is_instant (pos n) ≡ true → FitsSigned w64 (pos n)
instant_fits n h =
    let each = and_parts (le_z first_second (pos n)) (le_z (pos n) last_second) h in
    let most = z_test (pos n) last_second each.1 in
    record { sfits = omega (arith, signed_arith) }

pub at_alone_is : (text : List ℕ) (n : ℕ) → 1 ≤ length text → get_or text 0 0 ≡ at_sign
    → WritesSeconds (take (length text - 1) (drop 1 text)) n
    → Says text (said_alone n)
at_alone_is [] n some is w = absurd (omega arith)
at_alone_is (c ∷ text) n some is w =
    let rest : take (length (c ∷ text) - 1) text ≡ text = take_all (length (c ∷ text) - 1) text (omega arith) in
    subst (λ (text : List ℕ). Says text (said_alone n)) (λ i. sym is i ∷ text)
    (at-alone-says text n (subst (λ (text : List ℕ). WritesSeconds text n) rest w))

pub raw_text_is : (text : List ℕ) (n : ℕ) (minutes : ℤ) → WritesRaw text (n, minutes) → Says text (said_at n minutes)
raw_text_is text n minutes w =
    subst (λ (text : List ℕ). Says text (said_at n minutes)) w.is (raw-says w.seconds w.offset n minutes w.is_seconds w.is_offset)

pub at_text_is : (text : List ℕ) (n : ℕ) (minutes : ℤ) → 1 ≤ length text → get_or text 0 0 ≡ at_sign
    → WritesRaw (take (length text - 1) (drop 1 text)) (n, minutes)
    → Says text (said_at n minutes)
at_text_is [] n minutes some is w = absurd (omega arith)
at_text_is (c ∷ text) n minutes some is w =
    let rest : take (length (c ∷ text) - 1) text ≡ text = take_all (length (c ∷ text) - 1) text (omega arith) in
    subst (λ (text : List ℕ). Says text (said_at n minutes)) (λ i. sym is i ∷ (w.is ∙ rest) i)
    (at-says w.seconds w.offset n minutes w.is_seconds w.is_offset)
