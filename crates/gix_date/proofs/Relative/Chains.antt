-- One pair after the other off an instant.
use Rattle.std.proofs.Common.{arith}
use Rattle.std.proofs.Common.{◌≡◌, ◌∙◌, ℕ, ℤ, pos, List, [], ◌∷◌, sym, ap, subst, Option, Some, None, Result, Ok, Err}
use Rattle.std.specs.Prelude.{int_div}
use Rattle.jiff.specs.Types.{TimeZone}
use Rattle.jiff.specs.Words.{plain_zoned, zoned_nanos, offset_at}
use Rattle.jiff.specs.declared.zoned.Zoned.{Zoned}
use Rattle.gix_date.specs.Families.Answer.{FamilyAnswer, Relative}
use Rattle.gix_date.specs.Families.Order.{ParseNoAllocOutcome}
use Rattle.gix_date.specs.declared.error.ParseError.{ParseError}
use Rattle.gix_date.specs.Relative.Dates.{RelativeDate, MinusSeconds, MinusPairs, Reaches, IsNamed, RelativeOutcome}
use Rattle.gix_date.specs.declared.time.Time.{Time}
use Rattle.gix_date.specs.Relative.PairsRead.{pairs_read}
use Rattle.gix_date.specs.Relative.Steps.{PairStep, Resolves, Chain}
use Rattle.gix_date.specs.Relative.Roles.{pairs}
use Rattle.gix_date.specs.declared.parsing.relative.words.TimeUnit.{TimeUnit}
use Rattle.gix_date.specs.declared.parsing.relative.words.TimeUnit.TheVariants.{Seconds, Months}
use Rattle.gix_date.proofs.Relative.RelativeReading.{pairs_are_read}
use Rattle.gix_date.proofs.Relative.Steps.{resolves-once, months-once}

pub pair-once : (tz : TimeZone) (pair : ℤ × TimeUnit) (i a b : ℤ) → PairStep tz pair i a → PairStep tz pair i b → a ≡ b
pair-once tz (n, Seconds size) i a b h g = resolves-once tz _ a b h.1.resolves g.1.resolves
pair-once tz (n, Months size) i a b h g = months-once tz _ i a b h.1 g.1

pub chain-once : (tz : TimeZone) (pairs : List (ℤ × TimeUnit)) (i a b : ℤ) → Chain tz pairs i a → Chain tz pairs i b → a ≡ b
chain-once tz [] i a b h g = h ∙ sym g
chain-once tz (pair ∷ more) i a b h g =
    chain-once tz more g.0 a b (subst (λ (k : ℤ). Chain tz more k a) (pair-once tz pair i h.0 g.0 h.1 g.1) h.2) g.2

-- what is left leads from here to where the whole leads from the start
abbrev pub Left : TimeZone → List (ℤ × TimeUnit) → ℤ → List (ℤ × TimeUnit) → ℤ → Type 0
Left tz left here all start = (j : ℤ) → (Chain tz left here j → Chain tz all start j) × (Chain tz all start j → Chain tz left here j)

pub left-next : (tz : TimeZone) (pair : ℤ × TimeUnit) (left more all : List (ℤ × TimeUnit)) (here next start : ℤ) → left ≡ pair ∷ more
    → PairStep tz pair here next → Left tz left here all start → Left tz more next all start
left-next tz pair left more all here next start e step h = grind (arith, pair-once)

-- what is read leads to what is asked for
pub reaches-is : (tz : TimeZone) (words : List (List ℕ)) (i start j : ℤ) → Resolves tz i start → Chain tz (pairs_read words) start j
    → Reaches (MinusPairs (pairs words)) tz i j
reaches-is tz words i start j h g = (start, h, subst (λ ps. Chain tz ps start j) (sym (pairs_are_read words)) g)

pub reaches-back : (tz : TimeZone) (words : List (List ℕ)) (i start j : ℤ) → Resolves tz i start → Reaches (MinusPairs (pairs words)) tz i j
    → Chain tz (pairs_read words) start j
reaches-back tz words i start j h g =
    let from = subst (λ (k : ℤ). Chain tz (pairs words) k j) (resolves-once tz i g.0 start g.1 h) g.2 in
    subst (λ ps. Chain tz ps start j) (pairs_are_read words) from

reaches-once : (date : RelativeDate) (tz : TimeZone) (i a b : ℤ) → Reaches date tz i a → Reaches date tz i b → a ≡ b
reaches-once (MinusSeconds seconds) tz i a b h g = h.0 ∙ sym g.0
reaches-once (MinusPairs pairs) tz i a b h g =
    chain-once tz pairs g.0 a b (subst (λ (k : ℤ). Chain tz pairs k a) (resolves-once tz i h.0 g.0 h.1 g.1) h.2) g.2

-- two times with the same numbers are one
pub same-time : (a b : Time) → a.seconds ≡ b.seconds → a.offset ≡ b.offset → a ≡ b
same-time a b s o = λ i. record { seconds = s i; offset = o i }

-- a relative date names one time at most
pub named-once : (date : RelativeDate) (moment : Zoned) (a b : Time) → IsNamed date moment a → IsNamed date moment b → a ≡ b
named-once date moment a b h g =
    let tz = (plain_zoned moment).time_zone in
    let same = reaches-once date tz (zoned_nanos moment) h.instant g.instant h.reaches g.reaches in
    same-time a b
    (h.seconds_is ∙ ap (λ (i : ℤ). int_div i (pos 1_000_000_000)) same ∙ sym g.seconds_is)
    (h.offset_is ∙ ap (λ (i : ℤ). offset_at tz i) same ∙ sym g.offset_is)

-- so it comes to one result from each moment, or from none
outcome-once : (date : RelativeDate) (now : Option Zoned) (a b : Result Time ParseError) → RelativeOutcome date now a
    → RelativeOutcome date now b → a ≡ b
outcome-once date None a b h g = h ∙ sym g
outcome-once date (Some moment) (Ok t) (Ok u) h g = ap Ok (named-once date moment t u h g)
outcome-once date (Some moment) (Ok t) (Err e) h g = absurd (g.1 t h)
outcome-once date (Some moment) (Err e) (Ok u) h g = absurd (h.1 u g)
outcome-once date (Some moment) (Err e) (Err f) h g = ap Err (h.0 ∙ sym g.0)

-- and so does each call
pub one-outcome : (answer : Option FamilyAnswer) (now : Option Zoned) (a b : Result Time ParseError)
    → ParseNoAllocOutcome answer now a → ParseNoAllocOutcome answer now b → a ≡ b
one-outcome (Some (Relative date)) now a b h g = outcome-once date now a b h g
one-outcome answer now a b h g = h ∙ sym g
