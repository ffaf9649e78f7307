-- Where a text may end, so that a line feed after it ends the reading.
use Rattle.std.specs.Prelude.{◌≡◌, Bool, true, false, ◌&&◌, ◌||◌, List, [], ◌∷◌, length, ◌==◌}
use Rattle.gix_date.specs.Text.Characters.{space, colon, at_sign}
use Rattle.git_date.specs.Rules.Offsets.{is_white, is_sign}
use Rattle.git_date.specs.Tokens.Tokens.{Token, Digits, Mark}

-- white space alone
unfoldable pub are_white : List Token → Bool
are_white [] = true
are_white (t ∷ more) = is_white t && are_white more

-- a sign, two digits, a colon and white space: the minutes of the offset may follow, also in the next line
abbrev pub awaits_minutes : List Token → Bool
awaits_minutes (Mark sign ∷ Digits run ∷ Mark byte ∷ more) =
    is_sign sign && length run == 2 && byte == colon && are_white more
awaits_minutes _ = false

-- `@`, seconds, a space, a sign and white space: the offset may follow
abbrev pub awaits_offset : List Token → Bool
awaits_offset (Mark at ∷ Digits run ∷ Mark gap ∷ Mark sign ∷ more) =
    at == at_sign && gap == space && is_sign sign && are_white more
awaits_offset _ = false

-- the tokens end so that minutes may follow
unfoldable pub end_before_minutes : List Token → Bool
end_before_minutes [] = false
end_before_minutes (t ∷ more) = awaits_minutes (t ∷ more) || end_before_minutes more

-- no offset goes on after the tokens
abbrev pub AreComplete : List Token → Type 0
AreComplete ts = (end_before_minutes ts ≡ false) × (awaits_offset ts ≡ false)
