-- Identity lines that are written as they were read.
use Rattle.std.specs.Prelude.{ℕ, Bool, false, ◌&&◌, if◌then◌else◌, List, Result, Ok, Err}
use Rattle.std.specs.Option.{option_map_or}
use Rattle.std.specs.Str.{bytes_eq}
use Rattle.gix_signature.specs.Signature.{is_part, line_of}
use Rattle.gix_signature.specs.Ident.Parts.{DateText, IdentText}
use Rattle.gix_signature.specs.Ident.Times.{git_time, git_time_text}
use Rattle.gix_signature.specs.declared.error.SignatureError.{SignatureError}
use Rattle.gix_signature.specs.declared.error.SignatureError.TheVariants.{BadPart}
use Rattle.gix_signature.specs.declared.ident.GitTime.{GitTime}

-- the line of a name and an email as they are, and of a time as a line has it
abbrev pub line_as_is : List ℕ → List ℕ → GitTime → List ℕ
line_as_is name email t = line_of (record { name = name; email = email; time = git_time_text t })

-- the line to write of these, or `BadPart` if the name or the email may not be a part
abbrev pub as_is_due : List ℕ → List ℕ → GitTime → Result (List ℕ) SignatureError
as_is_due name email t = if is_part name && is_part email then Ok (line_as_is name email t) else Err BadPart

-- the line is what is written of a name, an email and the time of a date, and these may be parts
abbrev pub is_line_of_date : List ℕ → IdentText → DateText → Bool
is_line_of_date line i date = is_part i.name && is_part i.email && bytes_eq line (line_as_is i.name i.email (git_time date))

-- the line is what is written of these parts; without a date none is
abbrev pub is_line_of : List ℕ → IdentText → Bool
is_line_of line i = option_map_or (is_line_of_date line i) i.date false
