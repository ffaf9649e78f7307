-- The definitions of header texts and raw texts on worked texts: each row computes.
use Rattle.std.proofs.Common.{◌≡◌, refl, List, [], ◌∷◌, true, false, pos, map, Some}
use Prim.Native.String.{String}
use Rattle.std.specs.Prelude.{codes}
use Rattle.gix_date.proofs.Rows.Tables.{Reads, Refuses, AllGive, time, minus}
use Rattle.gix_date.specs.declared.time.Time.{Time}
use Rattle.gix_date.specs.Computing.{computing}
use Rattle.gix_date.specs.Header.Text.{header_text}
use Rattle.gix_date.specs.Header.Reading.{header_time}
use Rattle.gix_date.specs.Families.Raw.{is_minute_offset, raw_time, raw_time_by}
use Rattle.gix_date.specs.Header.Canonical.{is_canonical_header}

-- each row is a time and its header text
abbrev Writes : List (Time × String) → Type 0
Writes rows = map (λ row. header_text row.0) rows ≡ map (λ row. Some (codes row.1)) rows

-- odd seconds of an offset are dropped
written :
    Writes
    ((time (minus 9223372036854775808) (minus 359999), "-9223372036854775808 -9959")
    ∷ (time (pos 9223372036854775807) (pos 359999), "9223372036854775807 +9959")
    ∷ (time (pos 0) (minus 30), "0 -0000") ∷ (time (pos 5) (minus 3723), "5 -0102") ∷ [])
unfolding computing
written = refl

read :
    Reads header_time
    (("0 -0000", time (pos 0) (pos 0)) ∷ ("0 +9999", time (pos 0) (pos 362340))
    ∷ ("123abc +0100", time (pos 123) (pos 3600))  -- the digits at the front
    ∷ ("5 +00-1", time (pos 5) (pos 0)) ∷ ("1 +0100 x", time (pos 1) (pos 0))  -- a third word
    ∷ ("7 +010203", time (pos 7) (pos 3723)) ∷ [])
    × (header_time (49 ∷ 0xc2 ∷ 0xa0 ∷ codes "+0100") ≡ Some (time (pos 1) (pos 3600)))  -- U+00A0 is two bytes
    × Refuses header_time ("-1x" ∷ "9223372036854775808" ∷ "1:2 +0100" ∷ "" ∷ [])
unfolding computing
read = (refl, refl, refl)

canonical :
    AllGive is_canonical_header true ("0 +0000" ∷ "-5 -0130" ∷ "-9223372036854775808 -9959" ∷ [])
    × AllGive is_canonical_header false
    ("0 -0000" ∷ "+1 +0000" ∷ "-0 +0000" ∷ "00 +0000" ∷ "0 +0060" ∷ "0 +000000" ∷ "0  +0000" ∷ "0 +0000 "
    ∷ "0 +00000" ∷ " 0 +0000" ∷ "0" ∷ "9223372036854775808 +0000" ∷ [])
unfolding computing
canonical = (refl, refl)

raw :
    Reads raw_time (("\n-0\r\n-0000\n", time (pos 0) (pos 0)) ∷ ("+1234567 -000000", time (pos 1234567) (pos 0)) ∷ [])
    × Refuses raw_time ("123456 -1500" ∷ "1 -+1+0+0" ∷ "1660797906 +2359" ∷ [])
unfolding computing
raw = (refl, refl)

wide :
    Reads (raw_time_by is_minute_offset)
    (("1660797906 +2359", time (pos 1660797906) (pos 86340)) ∷ ("1660797906 +0007", time (pos 1660797906) (pos 420))
    ∷ ("1660797906 -235900", time (pos 1660797906) (minus 86340))
    ∷ ("-9223372036854775808 +1459", time (minus 9223372036854775808) (pos 53940)) ∷ [])
    × Refuses (raw_time_by is_minute_offset) ("1660797906 +2400" ∷ "5 +2360" ∷ "5 +235901" ∷ "5 +-007" ∷ [])
unfolding computing
wide = (refl, refl)
