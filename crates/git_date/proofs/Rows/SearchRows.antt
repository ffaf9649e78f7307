-- Git's search in zones that are written out: each row computes.
use Rattle.std.proofs.Common.{◌≡◌, refl, List, [], ◌∷◌, ℕ, ℤ, pos, neg_ℤ, Bool, true, false, cond, int_lt, map, Option, Some, None}
use Rattle.git_date.specs.Exact.Zones.{States, one_offset, nearest, flagged_at, searched, found_offset}
use Rattle.git_date.specs.declared.zones.ZoneState.{ZoneState}

abbrev behind : ℕ → ℤ
behind seconds = neg_ℤ (pos seconds)

abbrev standard : ℤ → ZoneState
standard offset = record { offset = offset; daylight = false }

abbrev summer : ℤ → ZoneState
summer offset = record { offset = offset; daylight = true }

-- each change is an instant, and what the zone says before it
abbrev changing : List (ℤ × ZoneState) → ZoneState → States
changing [] last seconds = Some last
changing (change ∷ changes) last seconds = cond (int_lt seconds change.0) (Some change.1) (changing changes last seconds)

-- New York in 2023
abbrev new_york : States
new_york = changing ((pos 1678604400, standard (behind 18000)) ∷ (pos 1699164000, summer (behind 14400)) ∷ []) (standard (behind 18000))

-- Each row is a clock, the flag that is asked, the guess, and the offset that is found.
abbrev Row : Type 0
Row = ℕ × Option Bool × ℤ × Option ℤ

abbrev Finds : States → List Row → Type 0
Finds zone rows =
    map (λ (row : Row). found_offset zone (record { clock = pos row.0; daylight = row.1 }) row.2) rows ≡ map (λ (row : Row). row.3) rows

-- 2023-03-12 02:30, which is skipped, and 2023-11-05 01:30, which is shown twice
changes :
    Finds new_york
    ((1678588200, None, pos 0, Some (behind 18000))
    ∷ (1678588200, None, behind 14400, Some (behind 18000))
    ∷ (1678588200, Some true, behind 18000, Some (behind 14400))
    ∷ (1678588200, Some false, behind 18000, Some (behind 18000))
    ∷ (1699147800, None, pos 0, Some (behind 14400))
    ∷ (1699147800, None, behind 18000, Some (behind 18000))
    ∷ (1699147800, Some true, pos 0, Some (behind 14400))
    ∷ (1699147800, Some false, behind 18000, Some (behind 18000))
    ∷ (1699147800, Some false, behind 14400, Some (behind 18000))
    ∷ (1699147800, Some true, behind 18000, Some (behind 14400)) ∷ [])
unfolding found_offset searched nearest flagged_at
changes = refl

-- noon in July, with the flag of winter: an hour later than the clock
other_half : Finds new_york
    ((1688212800, Some false, behind 18000, Some (behind 18000)) ∷ (1688212800, Some true, behind 18000, Some (behind 14400)) ∷ [])
unfolding found_offset searched nearest flagged_at
other_half = refl

-- no flag changes: the search stops as soon as it comes back
alike : Finds (changing ((pos 1514764800, standard (pos 0)) ∷ []) (standard (pos 3600)))
    ((1514766600, None, pos 0, Some (pos 0)) ∷ (1514766600, None, pos 3600, Some (pos 3600)) ∷ [])
unfolding found_offset searched nearest flagged_at
alike = refl

-- a zone that never has the flag: an hour off
no_flag : Finds (one_offset (pos 3600))
    ((1688212800, Some true, pos 0, Some (pos 7200)) ∷ (1688212800, Some false, pos 0, Some (pos 3600)) ∷ [])
unfolding found_offset searched nearest flagged_at
no_flag = refl

-- Hour after hour the clock goes back by an hour: Git looks at six instants.
abbrev falling : List (ℤ × ZoneState)
falling =
    (pos 978337800, standard (pos 18000)) ∷ (pos 978341400, standard (pos 14400)) ∷ (pos 978345000, standard (pos 10800)) ∷
    (pos 978348600, standard (pos 7200)) ∷ []

four_hours : Finds (changing falling (standard (pos 3600)))
    ((978350400, None, pos 0, Some (pos 18000)) ∷ (978350400, None, pos 10800, Some (pos 18000)) ∷ [])
unfolding found_offset searched nearest flagged_at
four_hours = refl

five_hours : Finds (changing ((pos 978334200, standard (pos 21600)) ∷ falling) (standard (pos 3600))) ((978350400, None, pos 0, None) ∷ [])
unfolding found_offset searched nearest flagged_at
five_hours = refl

-- of two times with a flag at one distance that before counts
abbrev summers : States
summers = changing ((pos 1000000000, summer (pos 7200)) ∷ (pos 1000600000, standard (pos 0)) ∷ []) (summer (pos 3600))

distances : nearest 0 summers true (pos 1000300000) ∷ nearest 1 summers true (pos 1000300000) ∷ nearest 2 (one_offset (pos 0)) true
    (pos 1000300000) ∷ []
    ≡ None ∷ Some (pos 7200) ∷ None ∷ []
unfolding nearest flagged_at
distances = refl
