-- Texts of at most 255 bytes, by one walk over a format.
use Rattle.std.specs.Prelude.{◌≡◌, ℕ, ◌<◌, List, [], ◌++◌, length, Bool, true, false, ◌||◌, if◌then◌else◌, Option, Some, None, option_map}
use Rattle.std.specs.Prelude.{◌∷◌, Result, Ok, Err, decimal}
use Rattle.std.specs.Char.{is_ascii_digit}
use Rattle.gix_date.specs.Fields.FieldTexts.{clock_text, four_digits}
use Rattle.gix_date.specs.Fields.Layout.{LocalTime}
use Rattle.gix_date.specs.Text.Characters.{space}
use Rattle.gix_date.specs.Text.Names.{day_name, month_name}
use Rattle.git_date.specs.declared.format.error.FormatFault.{FormatFault}
use Rattle.git_date.specs.Formats.Flags.{filled, is_flag}
use Rattle.git_date.specs.Formats.Format.{piece_text}
use Rattle.git_date.specs.Formats.Pieces.{Made, Piece, Begun, made_by, next_piece}
use Rattle.git_date.specs.Formats.Shown.{Shown}

-- what is shown by what a percent sign begins, if that is no fault
abbrev pub made_text : Shown → Result Made FormatFault → Option (List ℕ)
made_text shown (Ok m) = Some (piece_text shown (Begun m))
made_text shown (Err e) = None

-- what a letter shows that follows its percent sign
abbrev pub letter_text : Shown → ℕ → Option (List ℕ)
letter_text shown letter = if is_flag letter || is_ascii_digit letter then None else made_text shown (made_by 0 [] [] letter)

-- what `%c` shows of a clock, in a year of four digits
unfoldable pub date_and_clock_text : LocalTime → List ℕ
date_and_clock_text t =
    day_name t.weekday ++ (space ∷ (month_name t.date.month ++ (space ∷ (filled false 2 (decimal t.date.day)
    ++ (space ∷ (clock_text t.clock ++ (space ∷ four_digits t.date.year)))))))

-- A try to append what a letter shows: it is appended, or nothing is.
abbrev pub PushesLetter : Option (List ℕ) → List ℕ → List ℕ → Bool → Type 0
PushesLetter text old new true = option_map (λ shown. old ++ shown) text ≡ Some new
PushesLetter text old new false = new ≡ old

-- the text of the first piece is appended, and this is left
pub record Passes (shown : Shown) (text rest old new : List ℕ) : Type 0 where
  pub piece : Piece
  pub first : Ok (piece, rest) ≡ next_piece text
  pub shorter : length rest < length text
  pub said : new ≡ old ++ piece_text shown piece
