-- The shapes of texts, and the families that can hold a text of each.
use Rattle.std.specs.Prelude.{◌≡◌, ℕ, Bool, false, ◌&&◌, ◌||◌, List, [], ◌∷◌, map, ◌==◌, if◌then◌else◌, Option, is_some}
use Rattle.std.specs.Char.{is_ascii_digit, is_ascii_alphabetic}
use Rattle.gix_date.specs.Families.Answer.{FamilyAnswer}
use Rattle.gix_date.specs.Text.Characters.{at_sign, comma, minus, dot, space, letter_t}
use Rattle.gix_date.specs.Families.Order.{Family, AtText, Short, Rfc2822, Iso8601, Iso8601Strict, Gitoxide, Default, BareEpoch, GitForm}
use Rattle.gix_date.specs.Families.Order.{RelativeText, RawText, family_answer, first_answer_of, first_family_by}
use Rattle.gix_date.specs.Text.Numbers.{int_value}
use Rattle.gix_date.specs.Families.Raw.{OffsetRule}
use Rattle.gix_date.specs.declared.parsing.shape.Shape.{Shape}
use Rattle.gix_date.specs.declared.parsing.shape.Shape.TheVariants.{AtSign, Rfc2822Day, NamedDay, Word, DashedDay, GitDay, Count}
use Rattle.gix_date.specs.declared.parsing.shape.Shape.TheVariants.{WholeNumber, Other}

-- the text begins with `@`
unfoldable pub begins_with_at : List ℕ → Bool
begins_with_at [] = false
begins_with_at (c ∷ rest) = c == at_sign

-- both characters are digits
abbrev pub are_two_digits : ℕ → ℕ → Bool
are_two_digits a b = is_ascii_digit a && is_ascii_digit b

-- all four characters are digits
abbrev pub are_four_digits : ℕ → ℕ → ℕ → ℕ → Bool
are_four_digits a b c d = are_two_digits a b && are_two_digits c d

-- the text begins with four digits and `-`
unfoldable pub begins_with_year : List ℕ → Bool
begins_with_year (a ∷ b ∷ c ∷ d ∷ mark ∷ rest) = are_four_digits a b c d && mark == minus
begins_with_year _ = false

-- the text begins with four digits, `-`, two digits and `-`
unfoldable pub begins_with_dashed_day : List ℕ → Bool
begins_with_dashed_day (y0 ∷ y1 ∷ y2 ∷ y3 ∷ first ∷ m0 ∷ m1 ∷ second ∷ rest) =
    are_four_digits y0 y1 y2 y3 && first == minus && are_two_digits m0 m1 && second == minus
begins_with_dashed_day _ = false

-- the text begins with four digits, `.`, two digits and `.`
unfoldable pub begins_with_dotted_day : List ℕ → Bool
begins_with_dotted_day (y0 ∷ y1 ∷ y2 ∷ y3 ∷ first ∷ m0 ∷ m1 ∷ second ∷ rest) =
    are_four_digits y0 y1 y2 y3 && first == dot && are_two_digits m0 m1 && second == dot
begins_with_dotted_day _ = false

-- the text begins with eight digits and `T`
unfoldable pub begins_with_compact_day : List ℕ → Bool
begins_with_compact_day (y0 ∷ y1 ∷ y2 ∷ y3 ∷ m0 ∷ m1 ∷ d0 ∷ d1 ∷ mark ∷ rest) =
    are_four_digits y0 y1 y2 y3 && are_four_digits m0 m1 d0 d1 && mark == letter_t
begins_with_compact_day _ = false

-- the text begins with an ASCII letter
unfoldable pub begins_with_letter : List ℕ → Bool
begins_with_letter [] = false
begins_with_letter (c ∷ rest) = is_ascii_alphabetic c

-- the text has three bytes or more, and begins with one or two digits and a space
unfoldable pub begins_with_count : List ℕ → Bool
begins_with_count (a ∷ b ∷ c ∷ rest) = is_ascii_digit a && (b == space || is_ascii_digit b && c == space)
begins_with_count _ = false

-- the shape of a text that begins with a letter, by its fourth byte
unfoldable pub letter_shape : List ℕ → Shape
letter_shape (_ ∷ _ ∷ _ ∷ fourth ∷ rest) =
    if fourth == comma then Rfc2822Day else if fourth == space then NamedDay else Word
letter_shape _ = Word

-- the shape of a text: the first that fits
unfoldable pub shape_of : List ℕ → Shape
shape_of text =
    if begins_with_at text then AtSign
    else if begins_with_letter text then letter_shape text
    else if begins_with_year text then DashedDay
    else if begins_with_dotted_day text || begins_with_compact_day text then GitDay
    else if begins_with_count text then Count
    else if is_some (int_value text) then WholeNumber
    else Other

-- the families that a shape can have: those that can hold a text of this shape, in their order
abbrev pub shape_families : Shape → List Family
shape_families AtSign = AtText ∷ RelativeText ∷ []
shape_families Rfc2822Day = Rfc2822 ∷ RelativeText ∷ []
shape_families NamedDay = Gitoxide ∷ Default ∷ RelativeText ∷ []
shape_families Word = RelativeText ∷ []
shape_families DashedDay = Short ∷ Iso8601 ∷ Iso8601Strict ∷ GitForm ∷ RelativeText ∷ []
shape_families GitDay = GitForm ∷ RelativeText ∷ []
shape_families Count = Rfc2822 ∷ RelativeText ∷ RawText ∷ []
shape_families WholeNumber = BareEpoch ∷ []
shape_families Other = GitForm ∷ RelativeText ∷ RawText ∷ []

-- the answer of the first of these families that holds the text
abbrev pub first_among : OffsetRule → List Family → List ℕ → Option FamilyAnswer
first_among rule list text = first_answer_of (map (λ family. family_answer rule family text) list)

-- the table of shapes finds the first family: the first family that holds the text is the first of its shape's families
-- that does
abbrev pub IsDispatched : OffsetRule → List ℕ → Type 0
IsDispatched rule text = first_family_by rule text ≡ first_among rule (shape_families (shape_of text)) text

-- the families of a text's row: of the first of seven rows that fits the text, in their order, a coarser table than
-- that of shapes
unfoldable pub row_families : List ℕ → List Family
row_families text =
    if begins_with_at text then AtText ∷ RelativeText ∷ []
    else if is_some (int_value text) then BareEpoch ∷ []
    else if begins_with_dashed_day text then Short ∷ Iso8601 ∷ Iso8601Strict ∷ GitForm ∷ RelativeText ∷ []
    else if begins_with_dotted_day text then GitForm ∷ RelativeText ∷ []
    else if begins_with_compact_day text then GitForm ∷ RelativeText ∷ []
    else if begins_with_letter text then Rfc2822 ∷ Gitoxide ∷ Default ∷ RelativeText ∷ []
    else Short ∷ Rfc2822 ∷ Iso8601 ∷ Iso8601Strict ∷ GitForm ∷ RelativeText ∷ RawText ∷ []

-- the table of rows finds the first family: the first family that holds the text is the first of its row's families
-- that does
abbrev pub IsInItsRow : OffsetRule → List ℕ → Type 0
IsInItsRow rule text = first_family_by rule text ≡ first_among rule (row_families text) text
