-- Signature lines, as they are cut for C and written.
use Rattle.std.specs.Prelude.{◌≡◌, ℕ, ◌+◌, ◌&&◌, if◌then◌else◌, Bool, List, length, filter, true, false, Result, Ok, Err}
use Rattle.std.specs.Result.{result_map_both}
use Rattle.std.specs.Str.{is_utf8}
use Rattle.gix_date.specs.declared.time.Time.{Time}
use Rattle.gix_signature.specs.Ident.Bytes.{is_kept}
use Rattle.gix_signature.specs.Signature.{Parts, IsCut, HasNoCut, line_of}
use Rattle.gix_signature.specs.Writing.{line_due}
use Rattle.gix_signature.specs.declared.error.SignatureError.{SignatureError}
use Rattle.gix_signature.specs.declared.error.SignatureError.TheVariants as refusals
use Rattle.gix_date_c.specs.Values.Stores.{Stores}
use Rattle.gix_date_c.specs.declared.signature.CSignature.{CSignature}
use Rattle.gix_date_c.specs.declared.signature.Pieces.{Pieces}
use Rattle.gix_date_c.specs.declared.values.status.Status.{Status}
use Rattle.gix_date_c.specs.declared.values.status.Status.TheVariants.{NotText, NoSignature, OffsetTooWide, BadPart, NoRoom}

-- what cutting bytes into the parts of a signature line comes to
abbrev pub IsCutAnswer : List ℕ → Result Parts Status → Type 0
IsCutAnswer line (Ok p) = (is_utf8 line ≡ true) × IsCut line p
IsCutAnswer line (Err NoSignature) = (is_utf8 line ≡ true) × HasNoCut line
IsCutAnswer line (Err NotText) = is_utf8 line ≡ false
IsCutAnswer line (Err _) = ⊥

-- where the parts of a line stand: the name first, the email after ` <`, the time after `> `
abbrev pub spans_of : Parts → CSignature
spans_of p =
    record {
      name = record { start = 0; len = length p.name };
      email = record { start = length p.name + 2; len = length p.email };
      time = record { start = length p.name + 2 + length p.email + 2; len = length p.time };
    }

-- `Stores` of where the parts of a line stand
abbrev pub StoresParts : Result Parts Status → CSignature → CSignature → ℕ → Type 0
StoresParts answer = Stores (result_map_both spans_of (λ status. status) answer)

-- the status of a refusal to write a line; a buffer that is written to has no fault but its end
abbrev pub line_status : SignatureError → Status
line_status refusals.BadPart = BadPart
line_status refusals.OffsetTooWide = OffsetTooWide
line_status (refusals.Write _) = NoRoom

-- the line of a name, an email and a time
abbrev pub line_answer : List ℕ → List ℕ → Time → Result (List ℕ) Status
line_answer name email t =
    if is_utf8 name && is_utf8 email
    then result_map_both (λ line. line) line_status (line_due name email t) else Err NotText

-- what stands of a name or an email in a line: all of it, or the bytes that Git keeps
abbrev pub part_put : Bool → List ℕ → List ℕ
part_put is_whole part = if is_whole then part else filter is_kept part

-- the line of pieces
abbrev pub line_of_pieces : Pieces → List ℕ
line_of_pieces p =
    line_of (record { name = part_put p.is_whole p.name.now; email = part_put p.is_whole p.email.now; time = p.time.now })
