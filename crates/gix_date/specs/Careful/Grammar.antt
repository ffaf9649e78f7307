-- Careful texts, as facts of their words and of what stands between these: `count unit (and? count unit)* ago`.
use Rattle.std.specs.Prelude.{◌≡◌, ◌⊎◌, ℕ, ℤ, pos, true, List, [], ◌∷◌, ◌++◌, map, codes, Some, FitsSigned}
use Rattle.std.specs.Char.{is_ascii_alphanumeric, is_ascii_digit}
use Rattle.std.specs.Int.{w64}
use Rattle.std.specs.List.{list_all}
use Rattle.gix_date.specs.Fields.FieldTexts.{AreDigits}
use Rattle.gix_date.specs.Relative.Words.{unit_names}
use Rattle.gix_date.specs.Text.Characters.{comma, dot, minus, underscore, space, small_s, letter_s}
use Rattle.gix_date.specs.Text.Names.{is_name, named_in}
use Rattle.gix_date.specs.declared.parsing.relative.words.TimeUnit.{TimeUnit}

-- `,`, `.`, `_` or white space of ASCII: a space, a tab, a line feed, a form feed or a carriage return
abbrev pub IsSeparator : ℕ → Type 0
IsSeparator b =
    (b ≡ comma) ⊎ (b ≡ dot) ⊎ (b ≡ underscore) ⊎ (b ≡ space) ⊎ (b ≡ 9) ⊎ (b ≡ 10) ⊎ (b ≡ 12) ⊎ (b ≡ 13)

-- separators alone, or nothing
abbrev pub AreSeparators : List ℕ → Type 0
AreSeparators [] = Unit {0}
AreSeparators (b ∷ rest) = IsSeparator b × AreSeparators rest

-- what stands after a word: nothing, or a separator or `-`, and then separators
abbrev pub IsWordGap : List ℕ → Type 0
IsWordGap [] = Unit {0}
IsWordGap (b ∷ rest) = (IsSeparator b ⊎ (b ≡ minus)) × AreSeparators rest

-- letters and digits of ASCII, at least one
abbrev pub IsWord : List ℕ → Type 0
IsWord [] = ⊥
IsWord (b ∷ rest) = list_all is_ascii_alphanumeric (b ∷ rest) ≡ true

-- a word, and what stands after it
abbrev pub WordPiece : Type 0
WordPiece = List ℕ × List ℕ

-- words with gaps after them: only the last may have none
abbrev pub AreSeparated : List WordPiece → Type 0
AreSeparated [] = Unit {0}
AreSeparated ((word, gap) ∷ pieces) = IsWord word × IsWordGap gap × ((gap ≡ []) → pieces ≡ []) × AreSeparated pieces

-- the pieces one after the other
abbrev pub joined_pieces : List WordPiece → List ℕ
joined_pieces [] = []
joined_pieces ((word, gap) ∷ pieces) = word ++ (gap ++ joined_pieces pieces)

abbrev pub words_of : List WordPiece → List (List ℕ)
words_of pieces = map (λ piece. piece.0) pieces

-- the numbers that words name
abbrev pub number_words : List (List ℕ × ℤ)
number_words =
    (codes "one", pos 1) ∷ (codes "two", pos 2) ∷ (codes "three", pos 3) ∷ (codes "four", pos 4) ∷ (codes "five", pos 5)
    ∷ (codes "six", pos 6) ∷ (codes "seven", pos 7) ∷ (codes "eight", pos 8) ∷ (codes "nine", pos 9)
    ∷ (codes "ten", pos 10) ∷ []

-- a count: digits whose number an `i64` holds, or `one` to `ten` in any letter case
abbrev pub IsPlainCount : List ℕ → ℤ → Type 0
IsPlainCount word n =
    ((number : ℕ) × AreDigits word number × (n ≡ pos number) × FitsSigned w64 n) ⊎ (named_in number_words word ≡ Some n)

-- the name of a unit, in any letter case, alone or with one `s` or `S` after it
abbrev pub IsUnitName : List ℕ → TimeUnit → Type 0
IsUnitName word unit =
    (named_in unit_names word ≡ Some unit)
    ⊎ ((name : List ℕ) × (s : ℕ) × (word ≡ name ++ (s ∷ [])) × ((s ≡ small_s) ⊎ (s ≡ letter_s)) × (named_in unit_names name ≡ Some unit))

-- a count and a unit
abbrev pub IsCountAndUnit : List ℕ → List ℕ → ℤ × TimeUnit → Type 0
IsCountAndUnit count unit pair = IsPlainCount count pair.0 × IsUnitName unit pair.1

-- what follows a pair, with these pairs: `(and? count unit)* ago`
abbrev pub GoesOn : List (ℤ × TimeUnit) → List (List ℕ) → Type 0
GoesOn [] words = (word : List ℕ) × (words ≡ word ∷ []) × (is_name word (codes "ago") ≡ true)
GoesOn (pair ∷ pairs) words =
    (count : List ℕ) × (unit : List ℕ) × (rest : List (List ℕ))
    × ((words ≡ count ∷ unit ∷ rest)
    ⊎ ((word : List ℕ) × (words ≡ word ∷ count ∷ unit ∷ rest) × (is_name word (codes "and") ≡ true)))
    × IsCountAndUnit count unit pair × GoesOn pairs rest

-- `count unit (and? count unit)* ago`, with these pairs
abbrev pub ArePairsAgo : List (ℤ × TimeUnit) → List (List ℕ) → Type 0
ArePairsAgo [] words = ⊥
ArePairsAgo (pair ∷ pairs) words =
    (count : List ℕ) × (unit : List ℕ) × (rest : List (List ℕ)) × (words ≡ count ∷ unit ∷ rest)
    × IsCountAndUnit count unit pair × GoesOn pairs rest

-- a careful text of these pairs: separators, and then words with gaps after them
pub record IsCarefulOf (text : List ℕ) (pairs : List (ℤ × TimeUnit)) : Type 0 where
  pub front : List ℕ
  pub pieces : List WordPiece
  pub whole : text ≡ front ++ joined_pieces pieces
  pub separated : AreSeparators front
  pub apart : AreSeparated pieces
  pub words : ArePairsAgo pairs (words_of pieces)

-- a careful text
abbrev pub IsCarefulText : List ℕ → Type 0
IsCarefulText text = (pairs : List (ℤ × TimeUnit)) × IsCarefulOf text pairs

-- digits of ASCII, at least one
abbrev pub AreSomeDigits : List ℕ → Type 0
AreSomeDigits [] = ⊥
AreSomeDigits (c ∷ rest) = list_all is_ascii_digit (c ∷ rest) ≡ true
