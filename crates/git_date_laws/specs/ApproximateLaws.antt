-- Laws of dates as people write them.
use Rattle.std.specs.Prelude.{◌≡◌, ◌≤◌, ℕ, ◌*◌, ℤ, ◌+ℤ◌, ◌-ℤ◌, true, false, List, codes, pos, ◌≤ℤ◌, Option, Some, None, Result, Ok}
use Rattle.jiff.specs.Types.{Offset}
use Rattle.jiff.specs.Words.{fixed_zone, offset_at, nanos_of_seconds}
use Rattle.jiff.specs.declared.zoned.Zoned.{Zoned}
use Rattle.gix_date.specs.Relative.Steps.{zone_of}
use Rattle.gix_date.specs.Text.Names.{is_name}
use Rattle.git_date.specs.Approximate.Reading.{ApproximateOutcome, exact_or_guess, guess}
use Rattle.git_date_laws.specs.Laws.{IsFoundAgain}
use Rattle.git_date_laws.specs.Texts.Back.{CountsBack, exactly_back}
use Rattle.git_date.specs.Exact.Zones.{states_of, one_offset}
use Rattle.git_date.specs.Rules.Dates.{now_of}
use Rattle.git_date.specs.Tokens.Numbers.{max_small}
use Rattle.git_date.specs.Exact.Outcome.{DateOutcome}
use Rattle.git_date.specs.Tokens.Strings.{nul_place}
use Rattle.git_date.specs.declared.approximate.Approximate.{Approximate}
use Rattle.git_date.specs.declared.reader.ExactDate.{ExactDate}
use Rattle.git_date.specs.declared.error.DateError.{DateError}

-- where the exact reader reads a text, the approximate one has its answer
abbrev pub HasExactAnswer : Zoned → List ℕ → Type 0
HasExactAnswer moment text =
    (date : ExactDate) (result : Result Approximate DateError) → DateOutcome moment text (Ok date) → ApproximateOutcome moment text result
    → result ≡ Ok (record { time = date.time; understood = true; ignored = date.ignored })

-- in a zone of one offset the answer is one, by a definition that asks no zone
abbrev pub HasOneAnswer : Zoned → List ℕ → Type 0
HasOneAnswer moment text =
    (o : Offset) (exact : Result ExactDate DateError) (result : Result Approximate DateError) → zone_of moment ≡ fixed_zone o
    → DateOutcome moment text exact → ApproximateOutcome moment text result
    → result ≡ exact_or_guess exact (guess (one_offset o.seconds) (now_of moment) text)

-- the offset of the moment's zone at an instant, in seconds since 1970
abbrev pub offset_then : Zoned → ℤ → ℤ
offset_then moment seconds = offset_at (zone_of moment) (nanos_of_seconds seconds)

-- the instant is not before 1970, and is found again from a guess by what the zone's clock shows there
abbrev pub IsFoundThere : Zoned → ℤ → ℤ → Type 0
IsFoundThere moment guess seconds =
    (pos 0 ≤ℤ seconds)
    × IsFoundAgain (states_of (zone_of moment)) guess (seconds +ℤ offset_then moment seconds) (offset_then moment seconds)

-- now is found again
abbrev pub IsFoundNow : Zoned → Type 0
IsFoundNow moment = IsFoundThere moment (pos 0) (now_of moment).seconds

-- so many seconds before now are 32 bits', and both now and then are found again
pub record IsReachedThere (moment : Zoned) (back : ℕ) : Type 0 where
  pub fits : back ≤ max_small
  pub now : IsFoundNow moment
  pub then : IsFoundThere moment (offset_then moment (now_of moment).seconds) ((now_of moment).seconds -ℤ pos back)

-- In every zone `n UNIT ago` is exactly that many seconds before now, at the zone's offset there, and nothing is ignored but
-- what begins at a NUL.
unfoldable pub IsBackInEveryZone : Zoned → List ℕ → Type 0
IsBackInEveryZone moment text =
    (count size : ℕ) (result : Result Approximate DateError) → CountsBack text count size → IsReachedThere moment (count * size)
    → ApproximateOutcome moment text result
    → result ≡ Ok
    (record (exactly_back (now_of moment).seconds (offset_then moment ((now_of moment).seconds -ℤ pos (count * size))) (count * size)) {
      ignored = nul_place text;
    })

-- the moment itself, at its offset
abbrev pub moment_itself : Zoned → Option ℕ → Approximate
moment_itself moment ignored = record {
  time = record { seconds = (now_of moment).seconds; offset = offset_then moment (now_of moment).seconds };
  understood = true;
  ignored = ignored;
}

-- in every zone `now` is now, and so is `0 seconds ago`, which ignores the 0
pub record IsNow (moment : Zoned) : Type 0 where
  pub now : (result : Result Approximate DateError) → ApproximateOutcome moment (codes "now") result
      → result ≡ Ok (moment_itself moment None)
  pub zero : (result : Result Approximate DateError) → ApproximateOutcome moment (codes "0 seconds ago") result
      → result ≡ Ok (moment_itself moment (Some 0))

-- where it is found again
abbrev pub IsNowIfFound : Zoned → Type 0
IsNowIfFound moment = IsFoundNow moment → IsNow moment

-- where nothing is understood, the time is the moment's
abbrev pub IsMomentUnlessUnderstood : Zoned → List ℕ → Type 0
IsMomentUnlessUnderstood moment text =
    (date : Approximate) → IsFoundNow moment → ApproximateOutcome moment text (Ok date) → date.understood ≡ false
    → date.time ≡ record { seconds = (now_of moment).seconds; offset = offset_then moment (now_of moment).seconds }

-- texts that differ in letter case alone have the same answer
abbrev pub HasAnswerInAnyCase : Zoned → List ℕ → Type 0
HasAnswerInAnyCase moment text =
    (other : List ℕ) (result again : Result Approximate DateError) → is_name text other ≡ true → ApproximateOutcome moment text result
    → ApproximateOutcome moment other again → result ≡ again
