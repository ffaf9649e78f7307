-- Words that name a day of the week, and those that name a zone, by their beginnings.
use Rattle.std.specs.Prelude.{◌≡◌, ◌-◌, map, ℕ, ◌*◌, ◌==◌, Bool, false, not, ◌&&◌, ◌||◌, List, take, drop, [], ◌∷◌, ℤ, pos, neg_ℤ, codes}
use Rattle.std.specs.Prelude.{Option, option_map, is_some}
use Rattle.std.specs.Borrow.{Bor}
use Rattle.std.specs.List.{find, list_all}
use Rattle.std.specs.Char.{to_ascii_lowercase}
use Rattle.gix_date.specs.Text.Names.{is_name}
use Rattle.gix_date.specs.Text.LongNames.{is_short, weekday_of_word}

-- a word names a day of the week
unfoldable pub is_weekday : List ℕ → Bool
is_weekday word = is_some (weekday_of_word word)

-- a zone's name: the whole, or at least three letters of it
abbrev pub is_zone_name : List ℕ → List ℕ → Bool
is_zone_name word name = is_name word name || is_short word name

-- hours ahead of UTC
abbrev pub ahead : ℕ → ℤ
ahead hours = pos (60 * hours)

abbrev pub behind : ℕ → ℤ
behind hours = neg_ℤ (pos (60 * hours))

-- The zones that Git knows, by their first letters, and their offsets in minutes. Of those that fit the first counts.
abbrev pub zone_rows : List (List ℕ × ℤ)
zone_rows =
    (codes "AST", behind 3) ∷ (codes "ADT", behind 2) ∷ (codes "BST", ahead 1) ∷ (codes "CAT", behind 10)
    ∷ (codes "CST", behind 6) ∷ (codes "CDT", behind 5) ∷ (codes "CET", ahead 1) ∷ (codes "CEST", ahead 2)
    ∷ (codes "CCT", ahead 8) ∷ (codes "EST", behind 5) ∷ (codes "EDT", behind 4) ∷ (codes "EET", ahead 2)
    ∷ (codes "EEST", ahead 3) ∷ (codes "EAST", ahead 10) ∷ (codes "EADT", ahead 11) ∷ (codes "FWT", ahead 1)
    ∷ (codes "FST", ahead 2) ∷ (codes "GMT", pos 0) ∷ (codes "GST", ahead 10) ∷ (codes "HST", behind 10)
    ∷ (codes "HDT", behind 9) ∷ (codes "IDLW", behind 12) ∷ (codes "IDLE", ahead 12) ∷ (codes "JST", ahead 9)
    ∷ (codes "MST", behind 7) ∷ (codes "MDT", behind 6) ∷ (codes "MET", ahead 1) ∷ (codes "MEWT", ahead 1)
    ∷ (codes "MEST", ahead 2) ∷ (codes "MESZ", ahead 2) ∷ (codes "NT", behind 11) ∷ (codes "NZT", ahead 12)
    ∷ (codes "NZST", ahead 12) ∷ (codes "NZDT", ahead 13) ∷ (codes "PST", behind 8) ∷ (codes "PDT", behind 7)
    ∷ (codes "UTC", pos 0) ∷ (codes "WAT", behind 1) ∷ (codes "WET", pos 0) ∷ (codes "WAST", ahead 7)
    ∷ (codes "WADT", ahead 8) ∷ (codes "YST", behind 9) ∷ (codes "YDT", behind 8) ∷ (codes "Z", pos 0) ∷ []

-- what stands beside the first name between two places that a word tells
unfoldable pub zone_held : List ℕ → List (Bor (List ℕ) × ℤ) → ℕ → ℕ → Option ℤ
zone_held word rows first end = option_map (λ row. row.1) (find (λ row. is_zone_name word row.0.now) (take (end - first) (drop first rows)))

-- these rows are the zones, behind references
unfoldable pub AreZones : List (Bor (List ℕ) × ℤ) → Type 0
AreZones rows = map (λ row. (row.0.now, row.1)) rows ≡ zone_rows

-- a name begins with a small letter, in any letter case
abbrev pub has_initial : ℕ → List ℕ → Bool
has_initial letter [] = false
has_initial letter (c ∷ name) = letter == to_ascii_lowercase c

-- the zones whose names begin with a small letter stand from one place on, and before another
unfoldable pub stand_between : ℕ → ℕ → ℕ → Bool
stand_between letter first end =
    list_all (λ row. not (has_initial letter row.0)) (take first zone_rows)
    && list_all (λ row. not (has_initial letter row.0)) (drop end zone_rows)

-- the offset of the first zone that a word tells
unfoldable pub zone_named : List ℕ → Option ℤ
zone_named word = option_map (λ row. row.1) (find (λ row. is_zone_name word row.0) zone_rows)
