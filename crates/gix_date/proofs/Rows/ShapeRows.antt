-- For each family of a shape, a text of that shape that no other family of the shape holds. So no family of a shape can
-- be left out. After them texts on both sides of each test, and their shapes.
use Rattle.std.proofs.Common.{◌≡◌, refl, true, Bool, List, ℕ, [], ◌∷◌, filter, None}
use Rattle.std.specs.List.{list_any}
use Rattle.std.specs.Prelude.{◌==◌, codes, not}
use Rattle.gix_date.specs.Computing.{computing}
use Rattle.gix_date.specs.Families.Order.{Family, AtText, Short, Rfc2822, Iso8601, Iso8601Strict, Gitoxide, Default, BareEpoch, GitForm}
use Rattle.gix_date.specs.Families.Order.{RelativeText, RawText}
use Rattle.gix_date.specs.Families.Laws.{Holds}
use Rattle.gix_date.specs.Families.Raw.{is_quarter_offset}
use Rattle.gix_date.specs.Families.Shapes.{begins_with_at, begins_with_letter, begins_with_year, begins_with_dashed_day}
use Rattle.gix_date.specs.Families.Shapes.{begins_with_dotted_day, begins_with_compact_day, begins_with_count, letter_shape, shape_of}
use Rattle.gix_date.specs.Families.Shapes.{shape_families, first_among, row_families}
use Rattle.gix_date.specs.declared.parsing.shape.Shape.{Shape}
use Rattle.gix_date.specs.declared.parsing.shape.Shape.TheVariants.{AtSign, Rfc2822Day, NamedDay, Word, DashedDay, GitDay, Count}
use Rattle.gix_date.specs.declared.parsing.shape.Shape.TheVariants.{WholeNumber, Other}
use Rattle.gix_date.proofs.Families.Exclusive.{place}
use Rattle.gix_date.proofs.Rows.Tables.{AllGive}

-- the definitions that a row computes
pub shaping : Type 0
unfolding computing shape_of letter_shape row_families begins_with_at begins_with_letter begins_with_year begins_with_dashed_day
    begins_with_dotted_day begins_with_compact_day begins_with_count
shaping = Unit {0}

-- the family is one of the shape's
abbrev is_tried : Shape → Family → Bool
is_tried shape family = list_any (λ other. place other == place family) (shape_families shape)

-- the families of a shape without this one
abbrev others : Shape → Family → List Family
others shape family = filter (λ other. not (place other == place family)) (shape_families shape)

-- a text of this shape that the family holds, and no other family of the shape
pub record Witness (shape : Shape) (family : Family) : Type 0 where
  pub text : List ℕ
  pub has_shape : shape_of text ≡ shape
  pub is_held : Holds is_quarter_offset family text
  pub is_needed : first_among is_quarter_offset (others shape family) text ≡ None

pub each-is-needed : (shape : Shape) (family : Family) → is_tried shape family ≡ true → Witness shape family
unfolding shaping
each-is-needed AtSign AtText h = record { text = codes "@5"; has_shape = refl; is_held = refl; is_needed = refl }
each-is-needed AtSign RelativeText h = record { text = codes "@5 days ago"; has_shape = refl; is_held = refl; is_needed = refl }
each-is-needed Rfc2822Day Rfc2822 h =
    record { text = codes "Thu, 18 Aug 2022 12:45:06 +0800"; has_shape = refl; is_held = refl; is_needed = refl }
each-is-needed Rfc2822Day RelativeText h = record { text = codes "two, days ago"; has_shape = refl; is_held = refl; is_needed = refl }
each-is-needed NamedDay Gitoxide h =
    record { text = codes "Thu Aug 18 2022 12:45:06 +0800"; has_shape = refl; is_held = refl; is_needed = refl }
each-is-needed NamedDay Default h =
    record { text = codes "Thu Aug 18 12:45:06 2022 +0800"; has_shape = refl; is_held = refl; is_needed = refl }
each-is-needed NamedDay RelativeText h = record { text = codes "two days ago"; has_shape = refl; is_held = refl; is_needed = refl }
each-is-needed Word RelativeText h = record { text = codes "last week"; has_shape = refl; is_held = refl; is_needed = refl }
each-is-needed DashedDay Short h = record { text = codes "2018-1-2"; has_shape = refl; is_held = refl; is_needed = refl }
each-is-needed DashedDay Iso8601 h = record { text = codes "2022-08-18 12:45:60 +0000"; has_shape = refl; is_held = refl; is_needed = refl }
each-is-needed DashedDay Iso8601Strict h =
    record { text = codes "2022-08-18T12:45:60+00:00"; has_shape = refl; is_held = refl; is_needed = refl }
each-is-needed DashedDay GitForm h = record { text = codes "2008-02-14 20:30:45 Z"; has_shape = refl; is_held = refl; is_needed = refl }
each-is-needed DashedDay RelativeText h =
    record { text = codes "2018-12-24 5 days ago"; has_shape = refl; is_held = refl; is_needed = refl }
each-is-needed GitDay GitForm h = record { text = codes "2008.02.14 20:30:45 -0500"; has_shape = refl; is_held = refl; is_needed = refl }
each-is-needed GitDay RelativeText h = record { text = codes "20080214T20 2 days ago"; has_shape = refl; is_held = refl; is_needed = refl }
each-is-needed Count Rfc2822 h = record { text = codes "18 Aug 2022 12:45:06 +0800"; has_shape = refl; is_held = refl; is_needed = refl }
each-is-needed Count RelativeText h = record { text = codes "2 weeks ago"; has_shape = refl; is_held = refl; is_needed = refl }
each-is-needed Count RawText h = record { text = codes "5 -0130"; has_shape = refl; is_held = refl; is_needed = refl }
each-is-needed WholeNumber BareEpoch h = record { text = codes "100000000"; has_shape = refl; is_held = refl; is_needed = refl }
each-is-needed Other GitForm h = record { text = codes " 2008-02-14 20:30:45 Z"; has_shape = refl; is_held = refl; is_needed = refl }
each-is-needed Other RelativeText h = record { text = codes "3.days.ago"; has_shape = refl; is_held = refl; is_needed = refl }
each-is-needed Other RawText h = record { text = codes "100 -0130"; has_shape = refl; is_held = refl; is_needed = refl }
each-is-needed shape family h = absurd cc

-- Each test, on both sides.
shapes :
    AllGive shape_of AtSign ("@" ∷ "@2018-12-24" ∷ [])
    × AllGive shape_of WholeNumber ("5" ∷ "+5" ∷ "-05" ∷ "9223372036854775807" ∷ "-9223372036854775808" ∷ "2018" ∷ [])
    × AllGive shape_of DashedDay ("2018-" ∷ "0999-99-9T" ∷ "9000-1-2" ∷ [])
    × AllGive shape_of GitDay ("2018.12." ∷ "9000.00. " ∷ "20080214T" ∷ "09999999Tx" ∷ [])
    × AllGive shape_of Count ("2 w" ∷ "12 w" ∷ "0  " ∷ "12 " ∷ [])
    × AllGive shape_of Word ("A" ∷ "Z" ∷ "a" ∷ "z2018-12-24" ∷ "Thu" ∷ "Thu+" ∷ "Thu-" ∷ "Thu!" ∷ [])
    × AllGive shape_of Rfc2822Day ("Thu," ∷ "z12," ∷ [])
    × AllGive shape_of NamedDay ("Thu " ∷ "one week ago" ∷ [])
unfolding shaping
shapes = (refl, refl, refl, refl, refl, refl, refl, refl)

-- nearly whole numbers, dashed days and Git's days with a digit or the mark missing at each place, counts, and words
other-shapes :
    AllGive shape_of Other
    ("9223372036854775808" ∷ "-9223372036854775809" ∷ "+" ∷ "+-5" ∷ "5-" ∷ " 5" ∷ "5 "
    ∷ ":018-12-24" ∷ "2/18-12-24" ∷ "20:8-12-24" ∷ "201/-12-24" ∷ "2018 12-24" ∷ "2018,12-24" ∷ "2018/12/24"
    ∷ "2018.12" ∷ ":018.12.24" ∷ "2/18.12.24" ∷ "20:8.12.24" ∷ "201/.12.24" ∷ "2018 12.24" ∷ "2018.:2.24"
    ∷ "2018.1/.24" ∷ "2018.12 24" ∷ "2018.12-24"
    ∷ ":0080214T" ∷ "2/080214T" ∷ "20:80214T" ∷ "200/0214T" ∷ "2008:214T" ∷ "20080/14T" ∷ "200802:4T" ∷ "2008021/T"
    ∷ "20080214t" ∷ "20080214 T" ∷ "2008021T"
    ∷ "2 " ∷ "/ w" ∷ ": w" ∷ "1/ w" ∷ "1: w" ∷ "2w " ∷ "12/w" ∷ "12!w" ∷ "123 w" ∷ " 2 w"
    ∷ "" ∷ "[" ∷ "`" ∷ "{" ∷ " a" ∷ ",a" ∷ [])
unfolding shaping
other-shapes = refl

-- the families of the last row
last-row : List Family
last-row = Short ∷ Rfc2822 ∷ Iso8601 ∷ Iso8601Strict ∷ GitForm ∷ RelativeText ∷ RawText ∷ []

-- The seven rows: a text of each, and the families that it has. Other texts of the last row nearly are of one before it.
each-row :
    AllGive row_families (AtText ∷ RelativeText ∷ []) ("@5 days ago" ∷ [])
    × AllGive row_families (BareEpoch ∷ []) ("100000000" ∷ [])
    × AllGive row_families (Short ∷ Iso8601 ∷ Iso8601Strict ∷ GitForm ∷ RelativeText ∷ []) ("2018-12-24" ∷ [])
    × AllGive row_families (GitForm ∷ RelativeText ∷ []) ("2008.02.14 20:30:45 -0500" ∷ "20080214T20" ∷ [])
    × AllGive row_families (Rfc2822 ∷ Gitoxide ∷ Default ∷ RelativeText ∷ []) ("last week" ∷ [])
    × AllGive row_families last-row
    ("18 Aug 2022 12:45:06 +0800" ∷ "" ∷ " @5" ∷ "5 " ∷ "2018-1-2" ∷ "2018.1.2" ∷ "2018-12" ∷ "20181224 " ∷ [])
unfolding shaping last-row
each-row = (refl, refl, refl, refl, refl, refl)
