-- Identity lines judged, and what is told of them.
use Rattle.std.specs.Prelude.{◌≡◌, ℕ, Bool, true, not, List, [], ◌∷◌, ◌++◌, length, drop, Option, Some, None, Result, Ok, Err}
use Rattle.std.specs.Prelude.{if◌then◌else◌, codes, option_map}
use Rattle.std.specs.List.{find}
use Rattle.std.specs.Option.{is_some, option_map_or}
use Rattle.gix_date.specs.Devices.StreamState.{Takes, TakesProperPrefix}
use Rattle.gix_date.specs.Text.Characters.{newline}
use Rattle.streams.specs.Changes.{Change}
use Rattle.streams.specs.declared.error.ToolError.{ToolError}
use Rattle.streams.specs.declared.error.ToolError.TheVariants as errors
use Rattle.gix_signature.specs.Ident.Fsck.{fsck_of}
use Rattle.gix_signature.specs.Objects.{role_start}
use Rattle.gix_signature.specs.declared.fsck.FsckId.{FsckId}
use Rattle.gix_signature.specs.declared.fsck.FsckId.TheVariants.{NulInHeader, MissingNameBeforeEmail, BadName, MissingEmail}
use Rattle.gix_signature.specs.declared.fsck.FsckId.TheVariants.{MissingSpaceBeforeEmail, BadEmail, MissingSpaceBeforeDate, ZeroPaddedDate}
use Rattle.gix_signature.specs.declared.fsck.FsckId.TheVariants.{BadDateOverflow, BadDate, BadTimezone}
use Rattle.git_ident_tool.specs.Objects.{begins}
use Rattle.gix_signature.specs.declared.object.Role.{Role}
use Rattle.gix_signature.specs.declared.object.Role.TheVariants.{Author, Committer, Tagger}
use Rattle.git_ident_tool.specs.declared.verdicts.Telling.{Telling}
use Rattle.git_ident_tool.specs.declared.verdicts.Telling.TheVariants.{Faults, All}
use Rattle.git_ident_tool.specs.declared.header.Kind.{Kind}
use Rattle.git_ident_tool.specs.declared.header.Kind.TheVariants.{Commit, Tag, Tree, Blob}

-- what a role is called
abbrev pub role_words : Role → List ℕ
role_words Author = codes "author"
role_words Committer = codes "committer"
role_words Tagger = codes "tagger"

-- the roles in the header of such an object
abbrev pub roles_of : Kind → List Role
roles_of Commit = Author ∷ Committer ∷ []
roles_of Tag = Tagger ∷ []
roles_of Tree = []
roles_of Blob = []

-- the role of a line there
abbrev pub role_in : Kind → List ℕ → Option Role
role_in kind line = find (λ role. begins line (role_start role)) (roles_of kind)

-- the message of `git fsck` on an identity line
abbrev pub fault_of : List ℕ → Option FsckId
fault_of text = option_map (λ fault. fault.id) (fsck_of text)

-- what Git calls a message
abbrev pub fsck_words : FsckId → List ℕ
fsck_words NulInHeader = codes "nulInHeader"
fsck_words MissingNameBeforeEmail = codes "missingNameBeforeEmail"
fsck_words BadName = codes "badName"
fsck_words MissingEmail = codes "missingEmail"
fsck_words MissingSpaceBeforeEmail = codes "missingSpaceBeforeEmail"
fsck_words BadEmail = codes "badEmail"
fsck_words MissingSpaceBeforeDate = codes "missingSpaceBeforeDate"
fsck_words ZeroPaddedDate = codes "zeroPaddedDate"
fsck_words BadDateOverflow = codes "badDateOverflow"
fsck_words BadDate = codes "badDate"
fsck_words BadTimezone = codes "badTimezone"

-- what a verdict is called
abbrev pub verdict_words : Option FsckId → List ℕ
verdict_words (Some id) = fsck_words id
verdict_words None = codes "ok"

-- a line with such a verdict is told of
abbrev pub is_told : Telling → Option FsckId → Bool
is_told All fault = true
is_told Faults fault = is_some fault

-- what is told of an identity line: its verdict, and the line
abbrev pub told : Option FsckId → List ℕ → List ℕ
told fault text = verdict_words fault ++ (codes ": " ++ (text ++ newline ∷ []))

-- and of one in an object: before that the object's id, and the role
abbrev pub object_told : List ℕ → Role → Option FsckId → List ℕ → List ℕ
object_told id role fault text = id ++ (codes " " ++ (role_words role ++ (codes " " ++ told fault text)))

-- what is due for a line that stands in no object
abbrev pub text_due : Telling → List ℕ → List ℕ
text_due telling text = if is_told telling (fault_of text) then told (fault_of text) text else []

-- what is due for an identity line in an object, which stands after its role
abbrev pub role_due : Telling → List ℕ → List ℕ → Role → List ℕ
role_due telling id line role =
    let text = drop (length (role_start role)) line in
    if is_told telling (fault_of text) then object_told id role (fault_of text) text else []

-- what is due for a line of an object's header: nothing where it names nobody
abbrev pub line_due : Telling → List ℕ → Kind → List ℕ → List ℕ
line_due telling id kind line = option_map_or (role_due telling id line) (role_in kind line) []

-- `git fsck` says nothing of a line
abbrev pub is_clean : List ℕ → Bool
is_clean text = not (is_some (fault_of text))

-- it says nothing of a line of an object's header
abbrev pub is_clean_in : Kind → List ℕ → Bool
is_clean_in kind line = option_map_or (λ role. is_clean (drop (length (role_start role)) line)) (role_in kind line) true

-- What telling of a line comes to, of which this is due, and which is clean or not. Without memory nothing is written.
abbrev pub Tells : List ℕ → Bool → Change → Result Bool ToolError → Type 0
Tells due clean writing (Ok answer) = Takes writing.old writing.new due × (answer ≡ clean)
Tells due clean writing (Err (errors.Write kind)) = TakesProperPrefix writing.old writing.new due × (writing.new.fault ≡ Some kind)
Tells due clean writing (Err errors.Memory) = writing.new ≡ writing.old
Tells due clean writing (Err _) = ⊥
