-- Objects as `git cat-file --batch` prints them, and the lines of their headers.
use Rattle.std.specs.Prelude.{◌≡◌, ℕ, Bool, true, false, ◌&&◌, ◌||◌, nat_eq, nat_lt, List, [], ◌∷◌, ◌++◌, length, drop, Option, Some, None}
use Rattle.std.specs.Prelude.{Result, Ok, Err, if◌then◌else◌, codes}
use Rattle.std.specs.Char.{is_ascii_digit}
use Rattle.std.specs.List.{after_first, find, flat_map, list_all, starts_with, ends_with}
use Rattle.std.specs.Str.Parse.{digits_value}
use Rattle.gix_date.specs.Text.Characters.{is_space}
use Rattle.streams.specs.Lines.{IsLine, with_newline}
use Rattle.gix_signature.specs.Ident.Times.{held_number}
use Rattle.gix_signature.specs.Objects.{own_header}
use Rattle.git_ident_tool.specs.declared.error.HeaderFault.{HeaderFault}
use Rattle.git_ident_tool.specs.declared.error.HeaderFault.TheVariants.{BadHeader, BadSize, NoObject}
use Rattle.git_ident_tool.specs.declared.header.Header.{Header}
use Rattle.git_ident_tool.specs.declared.header.Kind.{Kind}
use Rattle.git_ident_tool.specs.declared.header.Kind.TheVariants.{Commit, Tag, Tree, Blob}

-- a text begins with these bytes
abbrev pub begins : List ℕ → List ℕ → Bool
begins text front = starts_with nat_eq text front

-- how a header names a kind, with the space after it
abbrev pub kind_start : Kind → List ℕ
kind_start Commit = codes "commit "
kind_start Tag = codes "tag "
kind_start Tree = codes "tree "
kind_start Blob = codes "blob "

-- all kinds
abbrev pub kinds : List Kind
kinds = Commit ∷ Tag ∷ Tree ∷ Blob ∷ []

-- the kind that a text begins with
abbrev pub kind_of : List ℕ → Option Kind
kind_of text = find (λ kind. begins text (kind_start kind)) kinds

-- digits alone, at least one
abbrev pub is_number : List ℕ → Bool
is_number text = nat_lt 0 (length text) && list_all is_ascii_digit text

-- the size that digits write, if 64 bits hold it
abbrev pub size_of : List ℕ → Option ℕ
size_of text = if is_number text then held_number (digits_value 10 text) else None

-- what a header says with a kind and a size
abbrev pub header_with : Kind → Option ℕ → Result Header HeaderFault
header_with kind (Some size) = Ok (record { kind = kind; size = size })
header_with kind None = Err BadSize

-- what stands after an id and a space: a kind, a space and a size
abbrev pub header_after : List ℕ → Option Kind → Result Header HeaderFault
header_after rest (Some kind) = header_with kind (size_of (drop (length (kind_start kind)) rest))
header_after rest None = Err BadHeader

-- what `git cat-file` prints for a name without an object, or with several
abbrev pub is_no_object : List ℕ → Bool
is_no_object header = ends_with nat_eq header (codes " missing") || ends_with nat_eq header (codes " ambiguous")

-- what a header says: its kind and size stand after its first space
unfoldable pub read_header : List ℕ → Result Header HeaderFault
read_header header =
    if is_no_object header then Err NoObject
    else header_after (after_first is_space header) (kind_of (after_first is_space header))

-- an object: the line before its contents, its kind, and its contents
pub record Object : Type 0 where
  pub header : List ℕ
  pub kind : Kind
  pub contents : List ℕ

-- the header says the kind and the length of the contents
pub record IsObject (object : Object) : Type 0 where
  pub is_line : IsLine object.header
  pub says : read_header object.header ≡ Ok (record { kind = object.kind; size = length object.contents })

-- an object in the stream: the header and the contents, a newline after each
abbrev pub object_text : Object → List ℕ
object_text object = with_newline object.header ++ with_newline object.contents

-- a stream of objects
abbrev pub stream_text : List Object → List ℕ
stream_text objects = flat_map object_text objects

-- such an object has a header of its own, whose lines are looked at
abbrev pub has_own_header : Kind → Bool
has_own_header Commit = true
has_own_header Tag = true
has_own_header Tree = false
has_own_header Blob = false

-- the lines of an object that are looked at
abbrev pub lines_of : Kind → List ℕ → List (List ℕ)
lines_of kind contents = if has_own_header kind then own_header contents else []
