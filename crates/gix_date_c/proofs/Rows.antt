-- What calls for many lines leave in arrays of the caller's.
use Rattle.std.proofs.Common.{◌≡◌, ℤ, ℕ, List, [], ◌∷◌, refl, pos, Result, Ok, Err}
use Rattle.gix_date_c.specs.Lines.Columns.{Columns, columns_after, room_of}
use Rattle.gix_date_c.specs.declared.values.status.Status.{Status}
use Rattle.gix_date_c.specs.declared.values.status.Status.TheVariants.{NotText}
use Rattle.gix_date_c.specs.declared.values.time.CTime.{CTime}

abbrev columns : List ℤ → List ℤ → List ℕ → Columns
columns seconds offsets statuses = record { seconds = seconds; offsets = offsets; statuses = statuses }

abbrev time : ℤ → ℤ → Result CTime Status
time seconds offset = Ok (record { seconds = seconds; offset = offset })

-- a time, then a refusal, and a cell of no line
a-time-and-a-refusal : columns_after (time (pos 5) (pos 60) ∷ Err NotText ∷ [])
    (columns (pos 7 ∷ pos 7 ∷ pos 7 ∷ []) (pos 8 ∷ pos 8 ∷ pos 8 ∷ []) (9 ∷ 9 ∷ 9 ∷ []))
    ≡ columns (pos 5 ∷ pos 7 ∷ pos 7 ∷ []) (pos 60 ∷ pos 8 ∷ pos 8 ∷ []) (0 ∷ 1 ∷ 9 ∷ [])
a-time-and-a-refusal = refl

no-answer : columns_after [] (columns (pos 7 ∷ []) (pos 8 ∷ []) (9 ∷ [])) ≡ columns (pos 7 ∷ []) (pos 8 ∷ []) (9 ∷ [])
no-answer = refl

-- the shortest array counts
room-of-the-shortest : room_of (columns (pos 7 ∷ pos 7 ∷ []) (pos 8 ∷ []) (9 ∷ 9 ∷ 9 ∷ [])) ≡ 1
room-of-the-shortest = refl
