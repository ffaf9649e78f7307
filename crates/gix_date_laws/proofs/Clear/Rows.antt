-- Texts that are not careful, one for each rule of the grammar, and one that is; and numbers of seconds at the bounds.
use Rattle.std.proofs.Common.{◌≡◌, ◌∙◌, ℕ, pos, List, ◌∷◌, ◌++◌, refl, sym, Some, None}
use Rattle.std.specs.Prelude.{codes}
use Rattle.gix_date.specs.Computing.{computing}
use Rattle.gix_date.specs.Careful.Dates.{day_named, first_day, is_in_years_if_number, is_large_if_number, is_number, names_its_day}
use Rattle.gix_date.specs.Careful.Dates.{unzoned_day}
use Rattle.gix_date.specs.Careful.Grammar.{IsCarefulText}
use Rattle.gix_date.specs.Careful.Outcome.{AfterYear9999, First, Reading, careful_reading, default_options}
use Rattle.gix_date.specs.Careful.Texts.{is_clear_at, unclear_place}
use Rattle.gix_date.specs.Families.Answer.{Absolute}
use Rattle.gix_date.specs.Families.Epoch.{utc_time}
use Rattle.gix_date_laws.proofs.Clear.Grammar.{careful-spelled}

abbrev IsNotCareful : List ℕ → Type 0
IsNotCareful text = IsCarefulText text → ⊥

no-text : (text : List ℕ) (place : ℕ) → unclear_place text ≡ Some place → IsNotCareful text
no-text text place e h = let bad : None ≡ Some place = sym ((careful-spelled text).1 h) ∙ e in cc

unit-after-unit : IsNotCareful (codes "2 weeks days ago")
unfolding computing unclear_place is_clear_at
unit-after-unit = no-text (codes "2 weeks days ago") 8 refl

and-before-unit : IsNotCareful (codes "2 days and weeks ago")
unfolding computing unclear_place is_clear_at
and-before-unit = no-text (codes "2 days and weeks ago") 11 refl

and-at-end : IsNotCareful (codes "2 days ago and")
unfolding computing unclear_place is_clear_at
and-at-end = no-text (codes "2 days ago and") 11 refl

control-between : IsNotCareful (codes "2 days" ++ (11 ∷ codes "ago"))
unfolding computing unclear_place is_clear_at
control-between = no-text (codes "2 days" ++ (11 ∷ codes "ago")) 6 refl

seven-counts : IsCarefulText (codes "seven days ago")
unfolding computing unclear_place is_clear_at
seven-counts = (careful-spelled (codes "seven days ago")).0 refl

abbrev Reads : List ℕ → Reading → Type 0
Reads text reading = careful_reading default_options text ≡ reading

abbrev seconds_read : ℕ → Reading
seconds_read seconds = First (Some (Absolute (utc_time (pos seconds))))

numbers :
    Reads (codes "1704450600000") AfterYear9999
    × Reads (codes "20240105103000 +0200") AfterYear9999
    × Reads (codes "253402300799") (seconds_read 253402300799)
    × Reads (codes "253402300800") AfterYear9999
    × Reads (codes "@253402300800") (seconds_read 253402300800)
unfolding computing careful_reading unclear_place is_clear_at unzoned_day names_its_day first_day day_named is_in_years_if_number
    is_large_if_number is_number
numbers = (refl, refl, refl, refl, refl)
