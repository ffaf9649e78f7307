-- What Git writes of a name, an email and a time.
use Rattle.std.specs.Prelude.{◌≡◌, ℕ, ◌||◌, ◌==◌, if◌then◌else◌, Bool, true, false, int_lt, List, filter, length, pos, Some, Result, Ok}
use Rattle.std.specs.Prelude.{Err, ok_or, option_map}
use Rattle.std.specs.List.{list_any, list_all}
use Rattle.gix_date.specs.Header.Text.{header_text}
use Rattle.gix_date.specs.Devices.StreamState.{StreamState, Takes, TakesProperPrefix, TakesNothing}
use Rattle.gix_date.specs.declared.time.Time.{Time}
use Rattle.gix_signature.specs.Signature.{Parts, line_of}
use Rattle.gix_signature.specs.Ident.Bytes.{is_nul, is_crud, is_kept}
use Rattle.gix_signature.specs.Ident.Texts.{without_front, without_end}
use Rattle.gix_signature.specs.declared.error.IdentFault.{IdentFault}
use Rattle.gix_signature.specs.declared.error.IdentFault.TheVariants.{NulInPart, EmptyName, OnlyCrud, BeforeEpoch, OffsetTooWide, Write}

-- a name or email without crud at both ends
abbrev pub trimmed : List ℕ → List ℕ
trimmed part = without_end is_crud (without_front is_crud part)

-- a name or email as it is written: without crud at both ends, and then without brackets and line feeds
abbrev pub cleaned : List ℕ → List ℕ
cleaned part = filter is_kept (trimmed part)

-- a name or email as it is put into a sink: as it is, or cleaned
abbrev pub part_put : Bool → List ℕ → List ℕ
part_put true part = part
part_put false part = cleaned part

-- the parts that are put
abbrev pub parts_put : Bool → List ℕ → List ℕ → List ℕ → Parts
parts_put is_whole name email time = record { name = part_put is_whole name; email = part_put is_whole email; time = time }

-- the parts to write
abbrev pub cleaned_parts : List ℕ → List ℕ → List ℕ → Parts
cleaned_parts name email time = record { name = cleaned name; email = cleaned email; time = time }

-- the line of a name and an email that may be written, and of a time from the epoch on
abbrev pub dated_line : List ℕ → List ℕ → Time → Result (List ℕ) IdentFault
dated_line name email t =
    if int_lt t.seconds (pos 0) then Err BeforeEpoch
    else ok_or (option_map (λ time. line_of (cleaned_parts name email time)) (header_text t)) OffsetTooWide

-- The line that Git writes of a name, an email and a time, or a refusal, in this order: of a NUL in the name or email, a name
-- of no bytes, a name of crud alone, seconds below 0, and an offset without header text.
unfoldable pub ident_due : List ℕ → List ℕ → Time → Result (List ℕ) IdentFault
ident_due name email t =
    if list_any is_nul name || list_any is_nul email then Err NulInPart
    else (if length name == 0 then Err EmptyName else (if list_all is_crud name then Err OnlyCrud else dated_line name email t))

-- The result of writing such a line: the writer took all of it, or a proper prefix and has that fault. Without a line its
-- refusal is answered, and the writer took no byte.
abbrev pub WritesIdent : Result (List ℕ) IdentFault → StreamState → StreamState → Result Unit IdentFault → Type 0
WritesIdent (Ok line) old new (Ok _) = Takes old new line
WritesIdent (Ok line) old new (Err (Write kind)) = TakesProperPrefix old new line × (new.fault ≡ Some kind)
WritesIdent (Ok line) old new (Err _) = ⊥
WritesIdent (Err refusal) old new (Ok _) = ⊥
WritesIdent (Err refusal) old new (Err e) = (e ≡ refusal) × TakesNothing old new
