-- The ways in which Git shows dates, by Git's names.
use Rattle.std.specs.Prelude.{◌≡◌, List, ℕ, [], ◌∷◌, ◌++◌, Bool, true, false, map, codes, if◌then◌else◌, Option, Some, None, option_map}
use Rattle.std.specs.Prelude.{Result, Ok, Err}
use Rattle.std.specs.Borrow.{Bor}
use Rattle.std.specs.List.{find}
use Rattle.std.specs.Str.{bytes_eq}
use Rattle.git_date.specs.declared.mode.DateKind.{DateKind}
use Rattle.git_date.specs.declared.mode.DateKind.TheVariants.{Relative, Iso8601Strict, Iso8601, Rfc2822, Short, Default, Human, Raw, Unix}
use Rattle.git_date.specs.declared.mode.DateMode.{DateMode}
use Rattle.git_date.specs.declared.mode.UnknownMode.{UnknownMode}

-- each kind by its names, of which three have a short one
abbrev pub kind_rows : List (List ℕ × DateKind)
kind_rows =
    (codes "relative", Relative) ∷ (codes "iso8601-strict", Iso8601Strict) ∷ (codes "iso-strict", Iso8601Strict)
    ∷ (codes "iso8601", Iso8601) ∷ (codes "iso", Iso8601) ∷ (codes "rfc2822", Rfc2822) ∷ (codes "rfc", Rfc2822)
    ∷ (codes "short", Short) ∷ (codes "default", Default) ∷ (codes "human", Human) ∷ (codes "raw", Raw)
    ∷ (codes "unix", Unix) ∷ []

-- a kind by the time's own clock, and by that of the zone
abbrev pub own : DateKind → DateMode
own kind = record { kind = kind; local = false }

abbrev pub in_zone : DateKind → DateMode
in_zone kind = record { kind = kind; local = true }

-- all names: those of the kinds, alone and before `-local`, and `local`, which is `default-local`
abbrev pub mode_rows : List (List ℕ × DateMode)
mode_rows =
    map (λ row. (row.0, own row.1)) kind_rows ++ map (λ row. (row.0 ++ codes "-local", in_zone row.1)) kind_rows
    ++ (codes "local", in_zone Default) ∷ []

-- the mode that a text names, in small letters alone
unfoldable pub mode_named : List ℕ → Option DateMode
mode_named text = option_map (λ row. row.1) (find (λ row. bytes_eq text row.0) mode_rows)

-- a row of the code's table, and the mode that it holds
abbrev pub row_mode : Bor (List ℕ) × DateKind × Bool → DateMode
row_mode row = record { kind = row.1; local = row.2 }

abbrev pub mode_row : Bor (List ℕ) × DateKind × Bool → List ℕ × DateMode
mode_row row = (row.0.now, row_mode row)

-- the mode beside the first of these names that a text is
unfoldable pub mode_held : List ℕ → List (Bor (List ℕ) × DateKind × Bool) → Option DateMode
mode_held text rows = option_map row_mode (find (λ row. bytes_eq text row.0.now) rows)

-- the long name of a kind
abbrev pub kind_name : DateKind → List ℕ
kind_name Relative = codes "relative"
kind_name Iso8601Strict = codes "iso8601-strict"
kind_name Iso8601 = codes "iso8601"
kind_name Rfc2822 = codes "rfc2822"
kind_name Short = codes "short"
kind_name Default = codes "default"
kind_name Human = codes "human"
kind_name Raw = codes "raw"
kind_name Unix = codes "unix"

-- the name that a mode shows
abbrev pub mode_name : DateMode → List ℕ
mode_name mode = kind_name mode.kind ++ (if mode.local then codes "-local" else [])

-- the result of reading a mode's name: the mode, or `UnknownMode`
abbrev pub NamesMode : List ℕ → Result DateMode UnknownMode → Type 0
NamesMode text (Ok mode) = mode_named text ≡ Some mode
NamesMode text (Err e) = mode_named text ≡ None
