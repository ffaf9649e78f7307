-- What is said beside a date.
use Rattle.std.specs.Prelude.{ℕ, ◌+◌, ◌==◌, ◌||◌, if◌then◌else◌, Bool, true, false, List, [], ◌∷◌, ◌++◌, take, drop, Option, Some, None}
use Rattle.std.specs.Prelude.{option_map, codes}
use Rattle.std.specs.Borrow.{Bor}
use Rattle.std.specs.Char.{is_ascii_alphanumeric}
use Rattle.std.specs.Fmt.{decimal}
use Rattle.std.specs.List.{prefix_len}
use Rattle.gix_date.specs.Text.Characters.{minus, plus}
use Rattle.streams.specs.Lines.{with_newline}
use Rattle.git_date.specs.declared.approximate.Approximate.{Approximate}
use Rattle.git_date_tool.specs.declared.answers.warnings.Numbered.{Numbered}
use Rattle.git_date_tool.specs.declared.answers.warnings.Numbered.TheVariants.{Line, Text}
use Rattle.git_date_tool.specs.declared.answers.warnings.Warning.{Warning}

-- whether anything was understood, and what was ignored: its place and its word
pub record Told : Type 0 where
  pub understood : Bool
  pub ignored : Option (ℕ × List ℕ)

-- how many bytes the word in front has: letters and digits, perhaps after a sign
abbrev pub word_len : List ℕ → ℕ
word_len [] = 0
word_len (b ∷ bs) =
    if b == plus || b == minus then 1 + prefix_len is_ascii_alphanumeric bs else prefix_len is_ascii_alphanumeric (b ∷ bs)

-- the word from a place on
abbrev pub word_at : List ℕ → ℕ → List ℕ
word_at text place = take (word_len (drop place text)) (drop place text)

-- what is said of what was found in a text
abbrev pub warning_of : List ℕ → Approximate → Told
warning_of text found =
    record { understood = found.understood; ignored = option_map (λ place. (place, word_at text place)) found.ignored }

-- what the code has of a word that was ignored: its place and its bytes
abbrev pub ignored_view : ℕ × Bor (List ℕ) → ℕ × List ℕ
ignored_view both = (both.0, both.1.now)

-- a warning of the code
abbrev pub warning_view : Warning → Told
warning_view w = record { understood = w.understood; ignored = option_map ignored_view w.ignored }

-- how it begins
abbrev pub ignored_front : Bool → List ℕ
ignored_front true = codes ": ignored from byte "
ignored_front false = codes ": nothing understood; ignored from byte "

-- what a warning says after the text's number, by whether anything was understood and what was ignored
abbrev pub words_by : Bool → Option (ℕ × List ℕ) → Option (List ℕ)
words_by understood (Some both) = Some (ignored_front understood ++ (decimal both.0 ++ (codes ": " ++ both.1)))
words_by true None = None
words_by false None = Some (codes ": nothing understood")

-- what a warning says after the text's number, if there is something to say
abbrev pub warning_words : Told → Option (List ℕ)
warning_words told = words_by told.understood told.ignored

-- what a text is called before its number
abbrev pub called : Numbered → List ℕ
called Line = codes "git_date: line "
called Text = codes "git_date: text "

-- what is said of the text with this number, in one line, if something is
abbrev pub warning_line : Numbered → ℕ → Option (List ℕ) → Option (List ℕ)
warning_line numbered number words =
    option_map (λ (words : List ℕ). with_newline (called numbered ++ (decimal number ++ words))) words
