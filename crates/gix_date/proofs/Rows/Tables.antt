-- Tables that definitions are checked on: a table is one equation, of what is computed and what is due, and holds by `refl`.
use Rattle.std.proofs.Common.{◌≡◌, ℕ, ℤ, List, [], pos, Option, Some, is_some, filter, map}
use Prim.Native.String.{String}
use Rattle.std.specs.Prelude.{codes, neg_ℤ}
use Rattle.gix_date.specs.declared.clock.ClockFields.{ClockFields}
use Rattle.gix_date.specs.declared.clock.DateFields.{DateFields}
use Rattle.gix_date.specs.declared.time.Time.{Time}

-- each row is a text and what is read of it
abbrev pub Reads : {A : Type 0} → (List ℕ → Option A) → List (String × A) → Type 0
Reads f rows = map (λ row. f (codes row.0)) rows ≡ map (λ row. Some row.1) rows

-- nothing is read of these texts
abbrev pub Refuses : {A : Type 0} → (List ℕ → Option A) → List String → Type 0
Refuses f texts = filter (λ text. is_some (f (codes text))) texts ≡ []

-- each of these texts has this value
abbrev pub AllGive : {A : Type 0} → (List ℕ → A) → A → List String → Type 0
AllGive f value texts = map (λ text. f (codes text)) texts ≡ map (λ text. value) texts

-- each row is what is printed and its text
abbrev pub Texts : List (List ℕ × String) → Type 0
Texts rows = map (λ row. row.0) rows ≡ map (λ row. codes row.1) rows

abbrev pub time : ℤ → ℤ → Time
time seconds offset = record { seconds = seconds; offset = offset }

abbrev pub date : ℕ → ℕ → ℕ → DateFields
date y m d = record { year = y; month = m; day = d }

abbrev pub clock : ℕ → ℕ → ℕ → ClockFields
clock h m s = record { hour = h; minute = m; second = s }

-- what `-n` is
abbrev pub minus : ℕ → ℤ
minus n = neg_ℤ (pos n)
