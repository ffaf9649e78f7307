-- White space, and the words that stand between it.
use Rattle.std.specs.Prelude.{◌≡◌, ℕ, Bool, List, [], ◌∷◌, true, false, filter, map, encode_utf8_all, Option, Some, None, option_map}
use Rattle.std.specs.Prelude.{option_copied}
use Rattle.std.specs.Char.{is_whitespace, char_set_contains}
use Rattle.std.specs.List.{slice_split}
use Rattle.std.specs.Str.{chars}
use Rattle.std.specs.Borrow.{Bor}

-- the characters that Unicode calls White_Space
abbrev pub white_space : List ℕ
white_space = 0x09 ∷ 0x0a ∷ 0x0b ∷ 0x0c ∷ 0x0d ∷ 0x20 ∷ 0x85 ∷ 0xa0 ∷ 0x1680
    ∷ 0x2000 ∷ 0x2001 ∷ 0x2002 ∷ 0x2003 ∷ 0x2004 ∷ 0x2005 ∷ 0x2006 ∷ 0x2007 ∷ 0x2008 ∷ 0x2009 ∷ 0x200a
    ∷ 0x2028 ∷ 0x2029 ∷ 0x202f ∷ 0x205f ∷ 0x3000 ∷ []

-- the standard library's white space is Unicode's: `white_space`
abbrev pub StdWhiteSpaceIsUnicodes : Type 0
StdWhiteSpaceIsUnicodes = (c : ℕ) → is_whitespace c ≡ char_set_contains white_space c

-- a list with an element
abbrev pub is_nonempty : List ℕ → Bool
is_nonempty [] = false
is_nonempty (x ∷ xs) = true

-- the longest runs of characters with no white space
abbrev pub runs : List ℕ → List (List ℕ)
runs cs = filter is_nonempty (slice_split is_whitespace cs)

-- the words of a text
unfoldable pub space_words : List ℕ → List (List ℕ)
space_words text = map encode_utf8_all (runs (chars text))

-- the first word, and the second where the two are all
abbrev pub first_words : List (List ℕ) → Option (List ℕ × Option (List ℕ))
first_words [] = None
first_words (first ∷ []) = Some (first, None)
first_words (first ∷ second ∷ []) = Some (first, Some second)
first_words (first ∷ second ∷ third ∷ more) = Some (first, None)

-- what a reader of these words gave, with the words as texts
abbrev pub words_view : Option (Bor (List ℕ) × Option (Bor (List ℕ))) → Option (List ℕ × Option (List ℕ))
words_view result = option_map (λ found. (found.0.now, option_copied found.1)) result
