-- What pairs of counts and units come to in a zone that keeps one offset.
use Rattle.std.specs.Prelude.{◌≡◌, ◌↔◌, ℤ, pos, ◌+ℤ◌, ◌-ℤ◌, ◌*ℤ◌, ◌≤ℤ◌, FitsSigned, List, [], ◌∷◌, map, true}
use Rattle.std.specs.Int.{w64}
use Rattle.std.specs.List.{All}
use Rattle.std.specs.List.Sorted.{IsPermutation}
use Rattle.jiff.specs.Words.{nanos_of_seconds, zoned_nanos, IsTimestampNanos}
use Rattle.jiff.specs.declared.zoned.Zoned.{Zoned}
use Rattle.gix_date.specs.Relative.Dates.{RelativeDate, MinusPairs, Reaches, IsNamed}
use Rattle.gix_date.specs.Relative.Steps.{zone_of}
use Rattle.gix_date.specs.Fields.Zoned.{IsMoment, is_instant, time_in}
use Rattle.gix_date.specs.declared.parsing.relative.words.TimeUnit.TheVariants.{Seconds, Months}
use Rattle.gix_date.specs.declared.time.Time.{Time}

-- a pair of count and unit, neither negative
abbrev pub IsNonnegativePair : ℤ × ℤ → Type 0
IsNonnegativePair (count, unit) = (pos 0 ≤ℤ count) × (pos 0 ≤ℤ unit)

-- the relative date of pairs of seconds
abbrev pub less_seconds : List (ℤ × ℤ) → RelativeDate
less_seconds pairs = MinusPairs (map (λ p. (p.0, Seconds p.1)) pairs)

-- the relative date of pairs of months
abbrev pub less_months : List (ℤ × ℤ) → RelativeDate
less_months pairs = MinusPairs (map (λ p. (p.0, Months p.1)) pairs)

-- count times unit
abbrev pub product : ℤ × ℤ → ℤ
product (count, unit) = count *ℤ unit

-- the sum of counts times units
abbrev pub total : List (ℤ × ℤ) → ℤ
total [] = pos 0
total (pair ∷ more) = product pair +ℤ total more

-- an `i64` holds the product
abbrev pub ProductFits : ℤ × ℤ → Type 0
ProductFits pair = FitsSigned w64 (product pair)

-- the date names this instant from the moment, in nanoseconds
abbrev pub Names : RelativeDate → Zoned → ℤ → Type 0
Names date moment instant = Reaches date (zone_of moment) (zoned_nanos moment) instant

-- both dates name the same instant from the moment, or none
unfoldable pub NamesAlike : Zoned → RelativeDate → RelativeDate → Type 0
NamesAlike moment a b = (instant : ℤ) → Names a moment instant ↔ Names b moment instant

-- the instant is the moment less the pairs: less their sum, and an `i64` holds each product
abbrev pub IsSecondsBefore : List (ℤ × ℤ) → Zoned → ℤ → Type 0
IsSecondsBefore pairs moment instant =
    (instant ≡ zoned_nanos moment -ℤ nanos_of_seconds (total pairs)) × All ProductFits pairs × IsTimestampNanos instant

-- the time so many seconds earlier, with the same offset
abbrev pub earlier : Time → ℤ → Time
earlier t seconds = record { seconds = t.seconds -ℤ seconds; offset = t.offset }

-- the date names the time `seconds` earlier: from each moment of `t`, if that is an instant, and nothing else
abbrev pub NamesEarlier : RelativeDate → Time → ℤ → Type 0
NamesEarlier date t seconds =
    (moment : Zoned) → IsMoment t moment
    → (r : Time) → IsNamed date moment r ↔ ((r ≡ earlier t seconds) × (is_instant r.seconds ≡ true))

-- the date names the instant `seconds` before the moment, if `jiff` has it, and nothing else
abbrev pub NamesBefore : RelativeDate → Zoned → ℤ → Type 0
NamesBefore date moment seconds =
    let instant = zoned_nanos moment -ℤ nanos_of_seconds seconds in
    (t : Time) → IsNamed date moment t ↔ ((t ≡ time_in (zone_of moment) instant) × IsTimestampNanos instant)

-- the pairs of seconds name the moment less their sum, and nothing else
unfoldable pub NamesSum : List (ℤ × ℤ) → Zoned → Type 0
NamesSum pairs moment =
    (instant : ℤ) → Names (less_seconds pairs) moment instant ↔ IsSecondsBefore pairs moment instant

-- pairs of seconds mean the same in any order
unfoldable pub IgnoresOrder : List (ℤ × ℤ) → Zoned → Type 0
IgnoresOrder pairs moment =
    (other : List (ℤ × ℤ)) → IsPermutation pairs other
    → NamesAlike moment (less_seconds pairs) (less_seconds other)
