-- Offsets and their numbers, in both directions.
use Rattle.std.proofs.Common.{◌≡◌, ℤ, pos, neg_ℤ, List, [], ◌∷◌, map, refl}
use Rattle.git_date.specs.Exact.Decimals.{offset_to_decimal, offset_from_decimal}

-- a number, and the offset that it says
abbrev rows : List (ℤ × ℤ)
rows =
    (pos 0, pos 0) ∷ (pos 530, pos 19_800) ∷ (neg_ℤ (pos 130), neg_ℤ (pos 5400)) ∷ (neg_ℤ (pos 1), neg_ℤ (pos 60))
    ∷ (pos 10_000, pos 360_000) ∷ (neg_ℤ (pos 9959), neg_ℤ (pos 359_940)) ∷ []

read : map (λ (row : ℤ × ℤ). offset_from_decimal row.0) rows ≡ map (λ (row : ℤ × ℤ). row.1) rows
unfolding offset_from_decimal
read = refl

told : map (λ (row : ℤ × ℤ). offset_to_decimal row.1) rows ≡ map (λ (row : ℤ × ℤ). row.0) rows
unfolding offset_to_decimal
told = refl

-- more minutes than an hour has, and too many hours
more : map offset_from_decimal (pos 60 ∷ neg_ℤ (pos 90) ∷ pos 59_652_315 ∷ []) ≡ pos 3600 ∷ neg_ℤ (pos 5400) ∷ pos 2_147_483_647 ∷ []
unfolding offset_from_decimal
more = refl

-- seconds beyond whole minutes
parts : map offset_to_decimal (pos 59 ∷ neg_ℤ (pos 59) ∷ pos 3661 ∷ []) ≡ pos 0 ∷ pos 0 ∷ pos 101 ∷ []
unfolding offset_to_decimal
parts = refl
