use Rattle.std.proofs.Common.{◌≡◌, ◌∙◌, ◌-ℤ◌, pos, Option, Some, Result, Ok, Err, MatchResult, refl, subst, sym}
use Rattle.std.proofs.lemmas.Option.{same_Some as same_some}
use Rattle.std.specs.Prelude.{codes}
use Rattle.std.specs.Result.{IsErrAnd}
use Rattle.gix_date.specs.Families.Answer.{FamilyAnswer, Relative}
use Rattle.gix_date.specs.Computing.{computing}
use Rattle.gix_date.specs.Families.Order.{first_family, ParseNoAllocOutcome, WithCopy}
use Rattle.gix_date.specs.Relative.Dates.{RelativeDate, MinusSeconds, RelativeOutcome, relative_date}
use Rattle.gix_date.specs.Relative.Steps.{zone_of}
use Rattle.gix_date.specs.Fields.Zoned.{time_in}
use Rattle.gix_date.specs.declared.error.Error.{Error}
use Rattle.gix_date.specs.declared.error.Error.TheVariants.{Range}
use Rattle.gix_date.specs.declared.error.ParseError.{ParseError}
use Rattle.gix_date.specs.declared.time.Time.{Time}
use Rattle.gix_date_laws.specs.AnyZone.{IsWord, NamesInstant}
use Rattle.jiff.specs.Words.{zoned_nanos, nanos_of_seconds}
use Rattle.jiff.specs.declared.zoned.Zoned.{Zoned}
use Rattle.gix_date_callers.proofs.more_callers.day_before_in_zone.Goals as goal

-- what that text is: it computes
yesterday-is : first_family (codes "yesterday") ≡ Some (Relative (MinusSeconds (pos 86_400)))
unfolding computing
yesterday-is = refl

yesterday-date : relative_date (codes "yesterday") ≡ Some (MinusSeconds (pos 86_400))
unfolding computing
yesterday-date = refl

yesterday-word : IsWord (codes "yesterday") (codes "yesterday")
unfolding computing
yesterday-word = refl

abbrev IsDayBefore : Zoned → Result Time Error → Type 0
IsDayBefore z r = MatchResult r (λ t. t ≡ time_in (zone_of z) (zoned_nanos z -ℤ nanos_of_seconds (pos 86_400))) (λ e. e ≡ Range)

refused : (z : Zoned) (r : Result Time Error) → IsErrAnd r (λ e. e ≡ Range) → IsDayBefore z r
refused z (Ok a) range = absurd range
refused z (Err e) range = range

-- what a call comes to that asks for the day before, by the law
day-back : (z : Zoned) (uncopied : Result Time ParseError) (r : Result Time Error)
    → NamesInstant (codes "yesterday") z (zoned_nanos z -ℤ nanos_of_seconds (pos 86_400))
    → RelativeOutcome (MinusSeconds (pos 86_400)) (Some z) uncopied → WithCopy (codes "yesterday") uncopied r → IsDayBefore z r
day-back z (Ok a) r law named same =
    let date : MinusSeconds (pos 86_400) ≡ law.0 = same_some (MinusSeconds (pos 86_400)) law.0 (sym yesterday-date ∙ law.1) in
    let told = (law.2 a).0 (subst (λ (d : RelativeDate). RelativeOutcome d (Some z) (Ok a)) date named) in
    let is : IsDayBefore z (Ok a) = told.0 in
    subst (IsDayBefore z) (sym same) is
day-back z (Err e) r law (range, none) copied =
    refused z r (subst (λ (q : ParseError). WithCopy (codes "yesterday") (Err q) r) range copied)

pub returns : goal.returns
returns c =
    let z = c.args.moment in
    let outcome = c.parse.ensures.outcome in
    let comes = subst (λ (a : Option FamilyAnswer). ParseNoAllocOutcome a (Some z) outcome.0) yesterday-is outcome.1 in
    day-back z outcome.0 c.parse.result (c.named_instants.ensures.yesterday yesterday-word) comes outcome.2
