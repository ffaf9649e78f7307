-- The lines of a commit's or tag's header that name somebody.
use Rattle.std.specs.Prelude.{ℕ, Bool, nat_lt, List, [], ◌∷◌, length, take, drop, reverse, Option, Some, None, option_map, if◌then◌else◌}
use Rattle.std.specs.Prelude.{codes, take_while}
use Rattle.std.specs.List.{find, slice_split}
use Rattle.std.specs.Option.{option_or}
use Rattle.std.specs.Str.{bytes_eq}
use Rattle.gix_signature.specs.Ident.Bytes.{is_newline}
use Rattle.gix_signature.specs.declared.object.Role.{Role}
use Rattle.gix_signature.specs.declared.object.Role.TheVariants.{Author, Committer, Tagger}

-- a line has a byte
abbrev pub is_filled : List ℕ → Bool
is_filled line = nat_lt 0 (length line)

-- the lines of an object's own header: those before the first empty line
abbrev pub own_header : List ℕ → List (List ℕ)
own_header contents = take_while is_filled (slice_split is_newline contents)

-- how a line of a header begins that names somebody
abbrev pub role_start : Role → List ℕ
role_start Author = codes "author "
role_start Committer = codes "committer "
role_start Tagger = codes "tagger "

-- a line names somebody in a role
abbrev pub names : Role → List ℕ → Bool
names role line = bytes_eq (take (length (role_start role)) line) (role_start role)

-- what stands after the role of a line
abbrev pub after_role : Role → List ℕ → List ℕ
after_role role line = drop (length (role_start role)) line

-- the identity line of the first line of a header that names somebody in a role
abbrev pub first_named : Role → List ℕ → Option (List ℕ)
first_named role contents = option_map (after_role role) (find (names role) (own_header contents))

-- and of the last
abbrev pub last_named : Role → List ℕ → Option (List ℕ)
last_named role contents = option_map (after_role role) (find (names role) (reverse (own_header contents)))

-- the first so far with one line more, and the last
abbrev pub first_with : Role → Option (List ℕ) → List ℕ → Option (List ℕ)
first_with role found line = if names role line then option_or found (Some (after_role role line)) else found

abbrev pub last_with : Role → Option (List ℕ) → List ℕ → Option (List ℕ)
last_with role found line = if names role line then Some (after_role role line) else found

-- a line of a header and those after it
abbrev pub lines_from : Option (List ℕ × List ℕ) → List (List ℕ)
lines_from (Some cut) = cut.0 ∷ own_header cut.1
lines_from None = []
