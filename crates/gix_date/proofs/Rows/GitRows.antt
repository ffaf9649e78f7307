-- The definitions of Git's forms on worked texts: each row computes.
use Rattle.std.proofs.Common.{◌≡◌, refl, List, [], ◌∷◌, pos, map}
use Prim.Native.String.{String}
use Rattle.std.specs.Prelude.{codes}
use Rattle.gix_date.proofs.Rows.Tables.{Reads, Refuses, date, clock, minus}
use Rattle.gix_date.specs.Computing.{computing}
use Rattle.gix_date.specs.Text.Characters.{dot, minus as dash}
use Rattle.gix_date.specs.Git.ClockCut.{clock_cut}
use Rattle.gix_date.specs.Git.Forms.{git_time, read_marked_date, read_compact_date, git_offset}
use Rattle.gix_date.specs.Git.Clock.{git_clock}

-- The date at the front, and what stands after it.
dates :
    Reads (read_marked_date dot) (("2008.02.14 20", (date 2008 2 14, codes " 20")) ∷ [])
    × Reads (read_marked_date dash) (("0000-12-31T", (date 0 12 31, codes "T")) ∷ [])
    × Reads read_compact_date (("20080214T20", (date 2008 2 14, codes "T20")) ∷ [])
    × Refuses (read_marked_date dash) ("2008-02.14 20" ∷ "-008-02-14 20" ∷ [])
unfolding computing
dates = (refl, refl, refl, refl)

-- each row is a text, and the clock and the offset that it is cut into
abbrev Cuts : List (String × String × String) → Type 0
Cuts rows = map (λ row. clock_cut (codes row.0)) rows ≡ map (λ row. (codes row.1, codes row.2)) rows

cuts :
    Cuts
    (("20:30:45 Z", "20:30:45 ", "Z")  -- at a final `Z`
    ∷ ("20:30:45 -0500", "20:30:45", "-0500")  -- at the last space
    ∷ ("20:30 -0500", "20:30 ", "-0500")  -- at the sign: the space is at place five
    ∷ ("20:30:45.2 days ago", "20:30:45.2 days ago", "")  -- nowhere: no sign is after the last space
    ∷ ("20-30+05", "20-30", "+05")  -- at the last sign
    ∷ ("+5", "+5", "")  -- nowhere: the sign is below place two
    ∷ ("203045", "203045", "") ∷ [])
unfolding computing
cuts = refl

clocks :
    Reads git_clock
    (("20", clock 20 0 0) ∷ ("2030", clock 20 30 0) ∷ ("203045", clock 20 30 45)
    ∷ ("0020:030:45", clock 20 30 45) ∷ ("20:30", clock 20 30 0) ∷ ("20:30:45:99", clock 20 30 45)
    ∷ ("203045.019.x", clock 20 30 45) ∷ [])  -- ends at its first dot
    × Refuses git_clock ("20304" ∷ "20:" ∷ "24:00:00" ∷ [])
unfolding computing
clocks = (refl, refl)

offsets :
    Reads git_offset
    (("", pos 0) ∷ ("Z", pos 0) ∷ ("+05", pos 18000) ∷ ("-0530", minus 19800) ∷ ("-:0:5:0:0", minus 18000)
    ∷ ("-2359", minus 86340) ∷ [])
    × Refuses git_offset ("+053" ∷ "+0560" ∷ "+2400" ∷ "+-530" ∷ [])
unfolding computing
offsets = (refl, refl)

-- what ISO 8601 and its strict form read and no Git form does, and texts that no form reads
no-git-form :
    Refuses git_time
    ("2022-08-18 12:45:06 +080000" ∷ "2022-08-18 12:45:06 +2400" ∷ "2022-8-18 12:45:06 +0800"
    ∷ "2022-08-8 12:45:06 +0800" ∷ "2022-08-18 12:45:60 +0800" ∷ "2022-08-18T12:45:06+08:00:00"
    ∷ "2022-08-18T12:45:60+08:00" ∷ "2022-8-18T12:45:06+08:00" ∷ "2022-08-18T12:45:06+24:00"
    ∷ "2008.02.14T20:30:45" ∷ "2008-02-14t20:30:45"
    ∷ "2008-02-14 20:30 +:05" ∷ "2008-02-14  20:30 +:05" ∷ [])  -- a colon after a sign, behind one space and two
unfolding computing
no-git-form = refl
