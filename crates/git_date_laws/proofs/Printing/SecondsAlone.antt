-- Seconds without `@`: alone, as `unix` shows them, and before an offset, as `raw` does.
use Rattle.std.proofs.Common.{◌≡◌, ◌∙◌, ◌≤◌, ◌<◌, ◌+◌, ◌*◌, ◌%◌, ◌^◌, ℕ, ℤ, pos, negsuc, ◌*ℤ◌, unsigned_abs, Bool, true, false, List, []}
use Rattle.std.proofs.Common.{◌∷◌, append-nil, Option, Some, None, Ok, refl, sym, ap, subst, arith}
use Rattle.std.specs.Fmt.{decimal}
use Rattle.std.specs.Int.Signed.{lt_z}
use Rattle.std.specs.Prelude.{option_map, int_lt}
use Rattle.jiff.specs.Types.{TimeZone}
use Rattle.jiff.specs.declared.zoned.Zoned.{Zoned}
use Rattle.jiff_core.proofs.SignedLemmas.{signed_arith}
use Rattle.gix_date.specs.Fields.ClockNumbers.{hours_in, minutes_in}
use Rattle.gix_date.specs.Fields.Offsets.{compact_offset_text}
use Rattle.gix_date.specs.Printing.LocalClocks.{clock_of}
use Rattle.gix_date.specs.Text.Numbers.{decimal_text}
use Rattle.gix_date.specs.declared.time.Time.{Time}
use Rattle.git_date.proofs.Rules.ClocksBack.{shown_of}
use Rattle.git_date.proofs.Exact.FastSeconds.{epoch-by, epoch-says, raw-says}
use Rattle.git_date.proofs.Exact.PrintedClocks.{number-before, at, go, signed}
use Rattle.git_date.proofs.Exact.PrintedReads.{minutes-back, reads-are}
use Rattle.git_date.proofs.Text.Walked.{nothing-left}
use Rattle.git_date.specs.Rules.Dates.{now_of, first_of_year_2100}
use Rattle.git_date.specs.Rules.Digits.{min_epoch, with_epoch}
use Rattle.git_date.specs.Exact.Fast.{WritesOffset, WritesSeconds}
use Rattle.git_date.specs.Rules.Fields.{unknown}
use Rattle.git_date.specs.Rules.Offsets.{at_text}
use Rattle.git_date.specs.Exact.Outcome.{date_at, date_in, date_of, instant_seconds}
use Rattle.git_date_laws.specs.Texts.Printed.{IsGitTime}
use Rattle.git_date.specs.Exact.Reading.{ended, said_by, step}
use Rattle.git_date.specs.Show.Dates.{raw_text, shown, shown_offset}
use Rattle.git_date.specs.Show.Clocks.{Moment}
use Rattle.git_date.specs.Tokens.Tokens.{Digits, tokens}
use Rattle.git_date.specs.Types.Names.{Now, Said}
use Rattle.git_date.specs.Rules.Words.{without_ending}
use Rattle.git_date.specs.declared.reader.ExactDate.{ExactDate}
use Rattle.git_date.specs.declared.mode.DateKind.TheVariants.{Raw, Unix}
use Rattle.git_date_laws.proofs.Printing.PrintedBack.{zone-is}
use Rattle.git_date_laws.proofs.Printing.RawBack.{date-is, decimal-number}
use Rattle.git_date_laws.proofs.Printing.ShownLaws.{when-shown}
use Rattle.git_date_laws.specs.Headline.{IsEpoch, IsReadAs, shown_time}

abbrev said_alone : ℕ → Said
said_alone n = record { seconds = pos n; offset = None; epoch = true; leap = false; ignored = None }

alone-said : (now : Now) (n : ℕ) → min_epoch ≤ n → n < first_of_year_2100 → said_by now (decimal n) ≡ Ok (said_alone n)
unfolding without_ending at_text tokens
alone-said now n first last =
    let is = decimal-number n (omega (arith, last)) in
    let fields = with_epoch unknown (shown_of (pos n)) in
    reads-are now (decimal n) (Digits (decimal n) ∷ []) 40 fields
    (ap tokens (sym (append-nil (decimal n))) ∙ number-before (decimal n) [] [] n is refl tt) refl (omega arith) refl
    (go now 39 unknown fields (Digits (decimal n)) [] [] refl (ap ended (epoch-by now n (decimal n) [] is.is first last))
    ∙ nothing-left (step now) 39 (at fields))
    ∙ epoch-says n None (decimal n) last

-- the time of such seconds
at-seconds : (said : Said) (minutes : ℤ) (date : ExactDate) → date_at said minutes ≡ Ok date
    → (date.time.seconds ≡ instant_seconds said minutes) × (date.ignored ≡ said.ignored)
unfolding date_at
at-seconds said minutes date e = grind (arith)

alone-in : (n : ℕ) (offset : Option ℤ) (date : ExactDate) → date_in (said_alone n) offset ≡ Ok date
    → (date.time.seconds ≡ pos n) × (date.ignored ≡ None)
alone-in n (Some offset) date e = at-seconds (said_alone n) _ date e
alone-in n None date e = absurd cc

alone-read : (this : Now) (tz : TimeZone) (s : ℤ) (date : ExactDate) → IsEpoch s → date_of tz (said_by this (decimal_text s)) ≡ Ok date
    → (date.time.seconds ≡ s) × (date.ignored ≡ None)
alone-read this tz (negsuc n) date h e = absurd (omega (arith, signed_arith, h))
alone-read this tz (pos n) date h e = grind (arith, alone-in, alone-said, signed_arith)

pub unix-alone : (this : Now) (at : Moment) (local : Bool) (tz : TimeZone) (t : Time) (text : List ℕ) (date : ExactDate) → IsEpoch t.seconds
    → shown at (record { kind = Unix; local = local }) t ≡ Some text → date_of tz (said_by this text) ≡ Ok date
    → (date.time.seconds ≡ t.seconds) × (date.ignored ≡ None)
unfolding shown
unix-alone this at local tz t text date h e read = grind (arith, when-shown, alone-read)

-- seconds before an offset
raw-read : (this : Now) (tz : TimeZone) (s o : ℤ) → IsEpoch s → IsGitTime (record { seconds = s; offset = o })
    → date_of tz (said_by this (raw_text s o))
    ≡ Ok (record { time = record { seconds = s; offset = o }; has_offset = true; ignored = None })
raw-read this tz (negsuc n) o epoch h = absurd (omega (arith, signed_arith, epoch))
raw-read this tz (pos n) o epoch h =
    let minutes = signed (int_lt o (pos 0)) (60 * hours_in (unsigned_abs o) + minutes_in (unsigned_abs o)) in
    let back : pos 60 *ℤ minutes ≡ o = minutes-back o h.round_trips.four_digits.minutes in
    let small : n < 2 ^ 64 = omega (arith, signed_arith, epoch) in
    let seconds : WritesSeconds (decimal n) n = record {
      first = omega (arith, signed_arith, epoch);
      last = omega (arith, signed_arith, epoch);
      digits = (decimal-number n small).digits;
      is = (decimal-number n small).is;
    } in
    let offset : WritesOffset compact_offset_text (compact_offset_text o) minutes = record {
      within = subst (λ (x : ℤ). unsigned_abs x ≤ 86_340) (sym back) h.round_trips.within;
      whole = subst (λ (x : ℤ). unsigned_abs x % 60 ≡ 0) (sym back) h.round_trips.four_digits.minutes;
      known = λ one. h.known (omega (arith, signed_arith, back, one));
      is = ap compact_offset_text back;
    } in
    ap (date_of tz) (raw-says (decimal n) (compact_offset_text o) n minutes seconds offset this) ∙ date-is n minutes o back

-- the offset that is shown
offset-is : (at : Moment) (local : Bool) (t : Time) (o : ℤ) → IsGitTime (shown_time at local t) → shown_offset at local t ≡ Some o
    → o ≡ (shown_time at local t).offset
unfolding shown_offset clock_of
offset-is at false t o h e = grind (arith)
offset-is at true t o h e = grind (arith, zone-is)

pub raw-alone : (moment : Zoned) (at : Moment) (local : Bool) (t : Time) (text : List ℕ) → IsEpoch t.seconds
    → IsGitTime (shown_time at local t)
    → shown at (record { kind = Raw; local = local }) t ≡ Some text → IsReadAs moment text (shown_time at local t)
unfolding shown
raw-alone moment at local t text epoch h e tz = by (shown_offset at local t) refl (when-shown (lt_z t.seconds (pos 0)) _ text e).1
  where
    seconds-are : (local : Bool) → (shown_time at local t).seconds ≡ t.seconds
    seconds-are true = refl
    seconds-are false = refl

    by : (o : Option ℤ) → shown_offset at local t ≡ o → option_map (raw_text t.seconds) o ≡ Some text
        → date_of tz (said_by (now_of moment) text) ≡ Ok (record { time = shown_time at local t; has_offset = true; ignored = None })
    by (Some o) is e =
        let same : raw_text t.seconds o ≡ text = cc in
        let text-is : raw_text (shown_time at local t).seconds (shown_time at local t).offset ≡ text =
        (λ i. raw_text (seconds-are local i) (sym (offset-is at local t o h is) i)) ∙ same in
        ap (λ (shown : List ℕ). date_of tz (said_by (now_of moment) shown)) (sym text-is)
        ∙ raw-read (now_of moment) tz (shown_time at local t).seconds (shown_time at local t).offset
        (subst IsEpoch (sym (seconds-are local)) epoch) h
    by None is e = absurd cc
