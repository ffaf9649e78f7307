-- What a word says.
use Rattle.std.specs.Prelude.{ℕ, ◌+◌, ◌%◌, Bool, List, [], ◌∷◌, ℤ, codes, if◌then◌else◌, Option, Some, None, option_map, unwrap_or}
use Rattle.std.specs.List.{list_any}
use Rattle.std.specs.Option.{option_or}
use Rattle.gix_date.specs.Text.Names.{is_name}
use Rattle.git_date.specs.Tokens.Names.{is_weekday, zone_named}
use Rattle.gix_date.specs.Text.LongNames.{month_of_word}
use Rattle.git_date.specs.Tokens.Tokens.{Token, Letters, Digits}
use Rattle.git_date.specs.declared.fields.Fields.{Fields}

-- `PM`: an hour of the second half of the day; an unknown hour becomes 11
abbrev pub afternoon : Fields → Fields
afternoon f = record f { hour = Some (unwrap_or (option_map (λ h. h % 12 + 12) f.hour) 11) }

-- `AM`: an hour of the first half; an unknown hour stays unknown
abbrev pub morning : Fields → Fields
morning f = record f { hour = option_map (λ h. h % 12) f.hour }

-- a zone's name: its offset, unless one is known
abbrev pub with_zone : Fields → ℤ → Fields
with_zone f minutes = record f { offset = option_or f.offset (Some minutes) }

-- words that people write and that say nothing
abbrev pub filler_words : List (List ℕ)
filler_words = codes "ago" ∷ codes "at" ∷ codes "on" ∷ codes "of" ∷ codes "the" ∷ codes "and" ∷ []

-- the word is one of these, in any letter case
abbrev pub is_any_of : List (List ℕ) → List ℕ → Bool
is_any_of names word = list_any (is_name word) names

abbrev pub is_filler : List ℕ → Bool
is_filler word = is_any_of filler_words word

-- `PM`, `AM`, or a filler
abbrev pub half_or_filler : Fields → List ℕ → Option Fields
half_or_filler f word =
    if is_name word (codes "PM") then Some (afternoon f)
    else (if is_name word (codes "AM") then Some (morning f) else (if is_filler word then Some f else None))

-- What a word says: a month, a day of the week, which says nothing, a zone, or one of these; `None` if it is unknown.
unfoldable pub with_word : Fields → List ℕ → Option Fields
with_word f word =
    let zone_or_half = option_or (option_map (with_zone f) (zone_named word)) (half_or_filler f word) in
    option_or (option_map (λ month. record f { month = Some month }) (month_of_word word))
    (if is_weekday word then Some f else zone_or_half)

-- letters: no word that has a digit is known
unfoldable pub letters_rule : Fields → List ℕ → List Token → Option Fields
letters_rule f run (Digits after ∷ more) = None
letters_rule f run more = with_word f run

-- the endings of `1st`, `2nd`, `3rd` and `4th`
abbrev pub ending_words : List (List ℕ)
ending_words = codes "st" ∷ codes "nd" ∷ codes "rd" ∷ codes "th" ∷ []

abbrev pub is_ending : List ℕ → Bool
is_ending word = is_any_of ending_words word

-- What stands after a number without its ending, or without a `T` between it and other digits: neither says anything.
unfoldable pub without_ending : List Token → List Token
without_ending (Letters run ∷ Digits after ∷ more) =
    if is_name run (codes "T") then Digits after ∷ more else Letters run ∷ Digits after ∷ more
without_ending (Letters run ∷ more) = if is_ending run then more else Letters run ∷ more
without_ending more = more
