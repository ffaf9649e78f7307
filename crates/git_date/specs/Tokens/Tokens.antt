-- The tokens of a text: the longest runs of letters, those of digits, and single marks.
use Rattle.std.specs.Prelude.{ℕ, zero, suc, Result, Ok, Bool, false, List, [], ◌∷◌, ◌++◌, length, ◌==◌, if◌then◌else◌}
use Rattle.std.specs.Char.{is_ascii_alphabetic, is_ascii_digit}
use Rattle.gix_date.specs.Text.Characters.{newline}
use Rattle.git_date.specs.declared.tokens.Token.{Token as Slice}
use Rattle.git_date.specs.declared.tokens.Token.TheVariants as slice

pub data Token : Type 0 where
  Letters : List ℕ → Token
  Digits : List ℕ → Token
  Mark : ℕ → Token

-- the text of a token
abbrev pub token_text : Token → List ℕ
token_text (Letters run) = run
token_text (Digits run) = run
token_text (Mark byte) = byte ∷ []

-- a letter, a digit before the tokens of what follows it
abbrev pub letter_before : ℕ → List Token → List Token
letter_before c (Letters run ∷ more) = Letters (c ∷ run) ∷ more
letter_before c more = Letters (c ∷ []) ∷ more

abbrev pub digit_before : ℕ → List Token → List Token
digit_before c (Digits run ∷ more) = Digits (c ∷ run) ∷ more
digit_before c more = Digits (c ∷ []) ∷ more

-- a byte before the tokens of what follows it
abbrev pub byte_before : ℕ → List Token → List Token
byte_before c more =
    if is_ascii_alphabetic c then letter_before c more
    else (if is_ascii_digit c then digit_before c more else Mark c ∷ more)

-- the tokens of a text
unfoldable pub tokens : List ℕ → List Token
tokens [] = []
tokens (c ∷ text) = byte_before c (tokens text)

-- the texts of tokens, one after the other
abbrev pub texts : List Token → List ℕ
texts [] = []
texts (t ∷ more) = token_text t ++ texts more

-- how many bytes these tokens have: those of a text that are left from where they stand
abbrev pub bytes_left : List Token → ℕ
bytes_left ts = length (texts ts)

-- a line feed that no rule takes ends the reading
abbrev pub is_end : Token → Bool
is_end (Mark byte) = byte == newline
is_end _ = false

-- what a slice of the code says
abbrev pub token_of : Slice → Token
token_of (slice.Letters run) = Letters run.now
token_of (slice.Digits run) = Digits run.now
token_of (slice.Mark byte) = Mark byte

-- So many steps over tokens, or as many as there are: each makes something of a token, takes what it needs of the next, and goes
-- on, or does not.
unfoldable pub walked : {S E : Type 0} → (S → Token → List Token → (S → List Token → Result S E) → Result S E) → ℕ → S → List Token
    → Result S E
walked step n s [] = Ok s
walked step zero s (t ∷ more) = Ok s
walked step (suc n) s (t ∷ more) = step s t more (λ next rest. walked step n next rest)
