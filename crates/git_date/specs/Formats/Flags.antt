-- Flags and widths of directives, and how texts are filled.
use Rattle.std.specs.Prelude.{ℕ, ◌-◌, ◌==◌, Bool, true, false, ◌||◌, List, ◌++◌, length, replicate, if◌then◌else◌}
use Rattle.std.specs.List.{fold, list_any}
use Rattle.gix_date.specs.Text.Characters.{space, minus, underscore, digit_zero}
use Rattle.git_date.specs.declared.format.flags.Flags.{Flags}
use Rattle.git_date.specs.declared.format.flags.Pad.{Pad}
use Rattle.git_date.specs.declared.format.flags.Pad.TheVariants.{Unsaid, Bare, Spaces, Zeros}
use Rattle.git_date.specs.declared.format.flags.TheConstants.{MAX_WIDTH}

-- the greatest width, 255
abbrev pub max_width : ℕ
max_width = MAX_WIDTH

-- `^`, `#`
abbrev pub caret : ℕ
caret = 94

abbrev pub hash : ℕ
hash = 35

-- a flag that says what fills
abbrev pub is_pad : ℕ → Bool
is_pad c = c == underscore || c == minus || c == digit_zero

abbrev pub is_flag : ℕ → Bool
is_flag c = is_pad c || c == caret || c == hash

-- what fills after one flag more
abbrev pub pad_after : Pad → ℕ → Pad
pad_after pad c =
    if c == minus then Bare else (if c == underscore then Spaces else (if c == digit_zero then Zeros else pad))

-- what the last of such flags says
abbrev pub pad_of : List ℕ → Pad
pad_of marks = fold pad_after Unsaid marks

abbrev pub has_flag : List ℕ → ℕ → Bool
has_flag marks flag = list_any (λ mark. mark == flag) marks

-- the flags of marks, with a width
abbrev pub flags_of : List ℕ → ℕ → Flags
flags_of marks width = record { pad = pad_of marks; upper = has_flag marks caret; swap = has_flag marks hash; width = width }

-- what a composite is made of has no flags, and the composite's `^` makes it upper
abbrev pub inner_flags : Flags → Flags
inner_flags flags = record { pad = Unsaid; upper = flags.upper; swap = false; width = 0 }

-- names and composites are filled with zeros if the pad is `0`
abbrev pub fill_of : Pad → Bool
fill_of Zeros = true
fill_of _ = false

-- a text, filled on the left to a width with zeros or spaces
abbrev pub filled : Bool → ℕ → List ℕ → List ℕ
filled zeros width text = replicate (width - length text) (if zeros then digit_zero else space) ++ text
