-- What callers have from the outcomes of `parse`, `approxidate` and the clock.
use Rattle.std.proofs.Common.{◌≡◌, ◌∙◌, ◌↔◌, ◌-ℤ◌, refl, true, ℤ, unwrap_or, ℕ, List, Option, Some, None, Result, Ok, Err, IsOk}
use Rattle.std.proofs.Common.{MatchResult}
use Rattle.std.proofs.Common.{is_some, option_map, ap, subst, sym}
use Rattle.std.specs.Result.{IsErrAnd}
use Rattle.jiff.specs.Words.{plain_zone}
use Rattle.jiff.specs.declared.tz.timezone.TimeZone.{TimeZone}
use Rattle.jiff.specs.declared.zoned.Zoned.{Zoned}
use Rattle.git_date.specs.Approximate.Reading.{ApproximateOutcome}
use Rattle.git_date.specs.declared.approximate.Approximate.{Approximate}
use Rattle.gix_date.specs.Fields.Zoned.{IsMoment, is_instant, time_in, time_in_utc}
use Rattle.gix_date.specs.Families.Answer.{FamilyAnswer, Absolute, Relative}
use Rattle.gix_date.specs.Families.Order.{RawText, first_family, first_family_by, ParseNoAllocOutcome, ParseOutcome, WithCopy}
use Rattle.gix_date.specs.Families.Laws.{ComesFirst, Holds}
use Rattle.gix_date.specs.Families.Raw.{OffsetRule, is_minute_offset, is_quarter_offset, raw_time_by}
use Rattle.gix_date.specs.Relative.Dates.{RelativeDate, RelativeOutcome}
use Rattle.gix_date.specs.Relative.FixedZones.{earlier, NamesEarlier}
use Rattle.gix_date.specs.declared.error.Error.{Error}
use Rattle.gix_date.specs.declared.error.Error.TheVariants.{Range}
use Rattle.gix_date.specs.declared.error.ParseError.{ParseError}
use Rattle.gix_date.specs.declared.time.Time.{Time}

-- a time stays the same with the copy of a refused text
as-it-is : (t : Time) (text : List ℕ) (uncopied : Result Time ParseError) (r : Result Time Error)
    → uncopied ≡ Ok t → WithCopy text uncopied r → r ≡ Ok t
as-it-is t text uncopied r is h = subst (λ (u : Result Time ParseError). WithCopy text u r) is h

-- the result for a raw text, by the law that its family answers first
raw-result : (rule : OffsetRule) (t : Time) (text : List ℕ) (r : Result Time Error) → ComesFirst rule text
    → ParseOutcome (first_family_by rule text) text None r → raw_time_by rule text ≡ Some t → r ≡ Ok t
raw-result rule t text r law h e =
    let held : Holds rule RawText text = ap (λ (q : Option Time). is_some (option_map Absolute q)) e in
    let first = law.alone RawText (λ q. cc) (λ q. cc) held ∙ ap (option_map Absolute) e in
    let outcome = subst (λ (a : Option FamilyAnswer). ParseNoAllocOutcome a None h.0) first h.1 in
    as-it-is t text h.0 r outcome h.2

-- that by the rule of each of two calls
pub raw_result : (t : Time) (text : List ℕ) (uncopied : Result Time ParseError) (r : Result Time Error) → ComesFirst is_quarter_offset text
    → ParseNoAllocOutcome (first_family_by is_quarter_offset text) None uncopied → WithCopy text uncopied r
    → raw_time_by is_quarter_offset text ≡ Some t → r ≡ Ok t
raw_result t text uncopied r law h copied e = raw-result is_quarter_offset t text r law (uncopied, h, copied) e

pub minute_result : (t : Time) (text : List ℕ) (uncopied : Result Time ParseError) (r : Result Time Error)
    → ComesFirst is_minute_offset text
    → ParseNoAllocOutcome (first_family_by is_minute_offset text) None uncopied → WithCopy text uncopied r
    → raw_time_by is_minute_offset text ≡ Some t → r ≡ Ok t
minute_result t text uncopied r law h copied e = raw-result is_minute_offset t text r law (uncopied, h, copied) e

-- the moment is the one that was handed in
pub resolved_at : (z : Zoned) (text : List ℕ) (r : Result Time Error) → ParseOutcome (first_family text) text (Some z) r
    → (moment : Zoned) × ParseOutcome (first_family text) text (Some moment) r
resolved_at z text r h = (z, h)

-- the clock's instant, and the zone if one was found
pub made_at : (t : Time) (instant : ℤ) (zone : Option TimeZone)
    → t ≡ unwrap_or (option_map (λ z. time_in (plain_zone z) instant) zone) (time_in_utc instant)
    → (instant : ℤ) × (zone : Option TimeZone)
    × (t ≡ unwrap_or (option_map (λ z. time_in (plain_zone z) instant) zone) (time_in_utc instant))
made_at t instant zone e = (instant, zone, e)

-- the guess is the one that `approxidate` gave of the text's bytes
pub guessed : (now : Zoned) (bytes text : List ℕ) (date : Approximate) → bytes ≡ text → ApproximateOutcome now bytes (Ok date)
    → (given : Approximate) × ApproximateOutcome now text (Ok given) × (date.time ≡ given.time)
guessed now bytes text date e h = (date, subst (λ (text : List ℕ). ApproximateOutcome now text (Ok date)) e h, refl)

pub understood : (now : Zoned) (bytes text : List ℕ) (date : Approximate) → bytes ≡ text → ApproximateOutcome now bytes (Ok date)
    → date.understood ≡ true
    → (given : Approximate) × ApproximateOutcome now text (Ok given) × (given.understood ≡ true) × (date.time ≡ given.time)
understood now bytes text date e h known = (date, subst (λ (text : List ℕ). ApproximateOutcome now text (Ok date)) e h, known, refl)

-- what is due of a result that is so many seconds before a time, or has no instant
abbrev pub IsBefore : Time → ℤ → Result Time Error → Type 0
IsBefore t n r = MatchResult r (λ a. a ≡ earlier t n) (λ e. e ≡ Range) × (IsOk r ↔ (is_instant (t.seconds -ℤ n) ≡ true))

-- the fault where there is no such instant
refused : (t : Time) (n : ℤ) (r : Result Time Error) → IsErrAnd r (λ e. e ≡ Range) → (is_instant (t.seconds -ℤ n) ≡ true → ⊥)
    → IsBefore t n r
refused t n (Ok a) range none = absurd range
refused t n (Err e) range none = (range, (λ ok. absurd cc, λ instant. absurd (none instant)))

-- what a call comes to whose text names the time so many seconds before, by the law
seconds-back : (date : RelativeDate) (n : ℤ) (text : List ℕ) (t : Time) (moment : Zoned) (uncopied : Result Time ParseError)
    (r : Result Time Error) → IsMoment t moment → NamesEarlier date t n → RelativeOutcome date (Some moment) uncopied
    → WithCopy text uncopied r → IsBefore t n r
seconds-back date n text t moment (Ok a) r is law named same =
    let h = (law moment is a).0 named in
    let seconds : a.seconds ≡ t.seconds -ℤ n = ap (λ (q : Time). q.seconds) h.0 in
    let told : IsBefore t n (Ok a) = (h.0, (λ ok. subst (λ s. is_instant s ≡ true) seconds h.1, λ instant. refl)) in
    subst (λ (q : Result Time Error). IsBefore t n q) (sym same) told
seconds-back date n text t moment (Err e) r is law (range, none) copied =
    let named = subst (λ (q : ParseError). WithCopy text (Err q) r) range copied in
    refused t n r named (λ instant. none (earlier t n) ((law moment is (earlier t n)).1 (refl, instant)))

-- that of a text whose answer is this date
pub before-is : (date : RelativeDate) (n : ℤ) (text : List ℕ) (t : Time) (moment : Zoned) (r : Result Time Error)
    → first_family text ≡ Some (Relative date) → IsMoment t moment → NamesEarlier date t n
    → ParseOutcome (first_family text) text (Some moment) r → IsBefore t n r
before-is date n text t moment r is at law outcome =
    let comes = subst (λ (a : Option FamilyAnswer). ParseNoAllocOutcome a (Some moment) outcome.0) is outcome.1 in
    seconds-back date n text t moment outcome.0 r at law comes outcome.2
