-- The table of the named formats, by names and by numbers.
use Rattle.std.proofs.Common.{◌≡◌, ◌∙◌, ℕ, List, [], ◌∷◌, length, map, refl, sym, ap, Option, Some, None, Bor, option_map, get_or, arith}
use Rattle.std.proofs.Common.{true}
use Rattle.std.specs.Prelude.{nat_lt, slice_get}
use Rattle.std.proofs.lemmas.Bool.Decides.{nat_tests}
use Rattle.std.proofs.lemmas.Option.{slice_get-map, slice_get-get_or}
use Rattle.gix_date.specs.Text.Names.{name_row, value_named}
use Rattle.gix_date.specs.Printing.NamedFormats.{Printed, format_named, format_numbered, format_row, named_formats, printed_by}
use Rattle.gix_date.specs.declared.time.format.Format.{Format}
use Rattle.gix_date.proofs.Text.LongNames.{seen_by}

seen-rows : (rows : List (Bor (List ℕ) × Format))
    → map (λ (row : List ℕ × Format). (row.0, printed_by row.1)) (map name_row rows) ≡ map format_row rows
seen-rows [] = refl
seen-rows (row ∷ rows) = ap (λ rest. format_row row ∷ rest) (seen-rows rows)

pub by_name : (rows : List (Bor (List ℕ) × Format)) (name : List ℕ) → map format_row rows ≡ named_formats
    → option_map printed_by (value_named (map name_row rows) name) ≡ format_named name
by_name rows name e =
    sym (seen_by printed_by (map name_row rows) name) ∙ ap (λ (all : List (List ℕ × Printed)). value_named all name) (seen-rows rows ∙ e)

pub named_is : (rows : List (Bor (List ℕ) × Format)) (name : List ℕ) (found : Option Format) → map format_row rows ≡ named_formats
    → found ≡ value_named (map name_row rows) name → option_map printed_by found ≡ format_named name
named_is rows name found e f = ap (option_map printed_by) f ∙ by_name rows name e

pub by_number : (rows : List (Bor (List ℕ) × Format)) (number : ℕ) (row : Option (Bor (List ℕ) × Format))
    → map format_row rows ≡ named_formats
    → slice_get rows number ≡ row → option_map (λ (row : Bor (List ℕ) × Format). printed_by row.1) row ≡ format_numbered number
by_number rows number row e place =
    seen row ∙ ap (option_map (λ (row : List ℕ × Printed). row.1))
    (sym (slice_get-map format_row rows number ∙ ap (option_map format_row) place)
    ∙ ap (λ (all : List (List ℕ × Printed)). slice_get all number) e)
  where
    seen : (row : Option (Bor (List ℕ) × Format))
        → option_map (λ (row : Bor (List ℕ) × Format). printed_by row.1) row
        ≡ option_map (λ (row : List ℕ × Printed). row.1) (option_map format_row row)
    seen None = refl
    seen (Some row) = refl

-- the row at a place, and none past the last
pub at_place : (rows : List (Bor (List ℕ) × Format)) (number : ℕ) (row default : Bor (List ℕ) × Format)
    → map format_row rows ≡ named_formats
    → true ≡ nat_lt number (length rows) → row ≡ get_or rows number default → Some (printed_by row.1) ≡ format_numbered number
at_place rows number row default e within is =
    by_number rows number (Some row) e (slice_get-get_or rows number default (grind (arith, nat_tests, within)) ∙ ap Some (sym is))
