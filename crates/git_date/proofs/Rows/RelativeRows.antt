-- What `relative` shows and how it is read, on worked times: each row computes. The moment is 2009-08-30 19:20:00 in UTC.
use Rattle.std.proofs.Common.{◌≡◌, refl, ◌-◌, List, [], ◌∷◌, ℕ, ℤ, pos, map, Option, Some, None, Result, Ok, Err}
use Prim.Native.String.{String}
use Rattle.std.specs.Fmt.{digits}
use Rattle.std.specs.Prelude.{codes}
use Rattle.git_date.specs.Approximate.Reading.{guess}
use Rattle.git_date.specs.Approximate.Computing.{approximating}
use Rattle.git_date.specs.Exact.Computing.{computing}
use Rattle.git_date.specs.Exact.Zones.{one_offset}
use Rattle.git_date.specs.Show.Ages.{age_between, age_of, age_of_days, relative_text}
use Rattle.git_date.specs.declared.approximate.Approximate.{Approximate}
use Rattle.git_date.specs.declared.error.DateError.{DateError}
use Rattle.git_date.proofs.Rows.RowMoment.{row_now}

-- how many seconds ago, what is shown, and the seconds that are read
record Row : Type 0 where
  ago : ℕ
  text : String
  read : ℕ

abbrev row : ℕ → String → ℕ → Row
row ago text read = record { ago = ago; text = text; read = read }

abbrev rows : List Row
rows =
    row 1 "1 second ago" 1_251_659_999 ∷ row 89 "89 seconds ago" 1_251_659_911 ∷ row 90 "2 minutes ago" 1_251_659_880
    ∷ row 5370 "2 hours ago" 1_251_652_800 ∷ row 127_770 "2 days ago" 1_251_487_200
    ∷ row 1_510_170 "3 weeks ago" 1_249_845_600 ∷ row 27_170_970 "11 months ago" 1_222_802_400
    ∷ row 31_536_000 "1 year ago" 1_220_124_000 ∷ row 35_424_000 "1 year, 1 month ago" 1_217_445_600
    ∷ row 129_600_000 "4 years, 1 month ago" 1_122_751_200 ∷ row 173_404_800 "6 years ago" 1_062_271_200 ∷ []

shown_rows : map (λ (row : Row). relative_text (pos 1_251_660_000) (pos (1_251_660_000 - row.ago))) rows
    ≡ map (λ (row : Row). codes row.text) rows
unfolding digits relative_text age_between age_of age_of_days
shown_rows = refl

abbrev seconds_of : Result Approximate DateError → Option ℤ
seconds_of (Ok date) = Some date.time.seconds
seconds_of (Err e) = None

read_rows : map (λ (row : Row). seconds_of (guess (one_offset (pos 0)) row_now (codes row.text))) rows
    ≡ map (λ (row : Row). Some (pos row.read)) rows
unfolding computing approximating
read_rows = refl
