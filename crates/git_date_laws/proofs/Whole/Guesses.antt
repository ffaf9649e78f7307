-- What the approximate reader answers.
use Rattle.std.proofs.Common.{◌≡◌, ◌∙◌, nat_lt, ℕ, ℤ, true, List, length, None, Result, Err, ap, arith, sym}
use Rattle.std.proofs.lemmas.Bool.Decides.{nat_tests}
use Rattle.jiff.specs.Words.{plain_zoned, zoned_nanos, IsTimestampNanos}
use Rattle.jiff.specs.declared.zoned.Zoned.{Zoned}
use Rattle.jiff_core.proofs.SignedLemmas.{signed_arith, one_part}
use Rattle.gix_date.proofs.Fields.Instants.{instant_from}
use Rattle.gix_date.specs.Fields.Zoned.{is_instant, whole_seconds}
use Rattle.gix_date.specs.Relative.Steps.{zone_of}
use Rattle.git_date.specs.Approximate.Reading.{approximate, exact_or_guess, guess}
use Rattle.git_date.specs.Exact.Zones.{States, states_of}
use Rattle.git_date.specs.Rules.Dates.{now_of}
use Rattle.git_date.specs.Exact.Outcome.{date_of, DateOutcome}
use Rattle.git_date.specs.Exact.Reading.{said_by}
use Rattle.git_date.specs.Tokens.Strings.{string_len, nul_place}
use Rattle.git_date.specs.Types.Names.{Said}
use Rattle.git_date.proofs.Text.StringEnds.{within}
use Rattle.git_date.specs.declared.approximate.Approximate.{Approximate}
use Rattle.git_date.specs.declared.reader.ExactDate.{ExactDate}
use Rattle.git_date.specs.declared.error.DateError.{DateError}
use Rattle.git_date.specs.declared.error.DateError.TheVariants.{Unreadable}
use Rattle.git_date_laws.proofs.Alike.Texts.{same-case, equal-bytes}
use Rattle.git_date_laws.proofs.Alike.ApproximateTexts.{guess-lower, lower}
use Rattle.git_date_laws.proofs.Back.FixedZones.{fixed-states}
use Rattle.git_date_laws.specs.ApproximateLaws.{HasExactAnswer, HasOneAnswer, HasAnswerInAnyCase}

abbrev exact_of : Zoned → List ℕ → States → Result ExactDate DateError → Result Approximate DateError
exact_of moment text zone exact = exact_or_guess exact (guess zone (now_of moment) text)

pub exact_answers : (moment : Zoned) (text : List ℕ) → HasExactAnswer moment text
exact_answers moment text date result reads h = h ∙ ap (exact_of moment text (states_of (zone_of moment))) (sym reads)

pub one_answers : (moment : Zoned) (text : List ℕ) → HasOneAnswer moment text
one_answers moment text o exact result fixed reads h =
    h ∙ ap (exact_of moment text (states_of (zone_of moment))) (sym reads)
    ∙ ap (λ (zone : States). exact_of moment text zone exact) (ap states_of fixed ∙ fixed-states o)

whole-instant : (n : ℤ) → IsTimestampNanos n → is_instant (whole_seconds n) ≡ true
whole-instant n range = grind (arith, one_part, instant_from, signed_arith)

pub moment-instant : (moment : Zoned) → is_instant (whole_seconds (zoned_nanos moment)) ≡ true
moment-instant moment = whole-instant (zoned_nanos moment) (plain_zoned moment).timestamp.in_range

pub same_in_any_case : (moment : Zoned) (text : List ℕ) → HasAnswerInAnyCase moment text
same_in_any_case moment text other result again same h g =
    let zone = states_of (zone_of moment) in
    h ∙ ap (λ (said : Result Said DateError). exact_of moment text zone (date_of (zone_of moment) said))
    (same-case (now_of moment) text other same)
    ∙ ap (exact_or_guess (date_of (zone_of moment) (said_by (now_of moment) other))) (sym (guess-lower zone (now_of moment) text)
    ∙ ap (guess zone (now_of moment)) (equal-bytes (lower text) (lower other) same) ∙ guess-lower zone (now_of moment) other) ∙ sym g

-- an unreadable text has its guess
pub guessed : (moment : Zoned) (text : List ℕ) → DateOutcome moment text (Err Unreadable)
    → approximate moment text ≡ guess (states_of (zone_of moment)) (now_of moment) text
guessed moment text unreadable = ap (exact_of moment text (states_of (zone_of moment))) (sym unreadable)

pub whole-text : (text : List ℕ) → nul_place text ≡ None → string_len text ≡ length text
unfolding nul_place
whole-text text e = grind (arith, nat_lt, within, nat_tests)
