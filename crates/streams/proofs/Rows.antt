-- Inputs that are split into lines: `5` and `6`, with newlines between and after them.
use Rattle.std.proofs.Common.{◌≡◌, ◌≢◌, [], ◌∷◌, ◌++◌, refl, inl, inr, arith, Some, None, codes}
use Rattle.std.proofs.lemmas.List.Elements.{All-cons, All-nil}
use Rattle.gix_date.specs.Text.Characters.{newline}
use Rattle.streams.specs.Lines.{IsFirstLine, IsLine, Splits, last_line}

empty : IsLine []
empty = All-nil (λ b. b ≢ newline)

five : IsLine (codes "5")
five = All-cons (λ b. b ≢ newline) 53 [] (λ e. omega (arith, e)) empty

six : IsLine (codes "6")
six = All-cons (λ b. b ≢ newline) 54 [] (λ e. omega (arith, e)) empty

-- `5`, and a carriage return, which ends no line
five-return : IsLine (53 ∷ 13 ∷ [])
five-return =
    All-cons (λ b. b ≢ newline) 53 (13 ∷ []) (λ e. omega (arith, e)) (All-cons (λ b. b ≢ newline) 13 [] (λ e. omega (arith, e)) empty)

two-ended : Splits (codes "5" ++ newline ∷ codes "6" ++ newline ∷ []) (codes "5" ∷ codes "6" ∷ []) []
two-ended = record {
  whole = refl;
  each =
      All-cons IsLine (codes "5") (codes "6" ∷ []) five (All-cons IsLine (codes "6") [] six (All-nil IsLine));
  rest_is_line = empty;
}

one-open : Splits (codes "5" ++ newline ∷ codes "6") (codes "5" ∷ []) (codes "6")
one-open = record { whole = refl; each = All-cons IsLine (codes "5") [] five (All-nil IsLine); rest_is_line = six }

returned : Splits (53 ∷ 13 ∷ newline ∷ []) ((53 ∷ 13 ∷ []) ∷ []) []
returned = record { whole = refl; each = All-cons IsLine (53 ∷ 13 ∷ []) [] five-return (All-nil IsLine); rest_is_line = empty }

-- an empty line
one-newline : Splits (newline ∷ []) ([] ∷ []) []
one-newline = record { whole = refl; each = All-cons IsLine [] [] empty (All-nil IsLine); rest_is_line = empty }

-- a rest is a last line where it has a byte
last-six : last_line (codes "6") ≡ codes "6" ∷ []
last-six = refl

none-last : last_line [] ≡ []
none-last = refl

first-ended : IsFirstLine (codes "5" ++ newline ∷ codes "6") (Some (codes "5", codes "6"))
first-ended = (five, inl refl)

first-open : IsFirstLine (codes "6") (Some (codes "6", []))
first-open = (six, inr (refl, refl, λ none. cc))

no-first : IsFirstLine [] None
no-first = refl
