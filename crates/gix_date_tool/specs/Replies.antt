-- What is replied to a line.
use Rattle.std.specs.Prelude.{◌≡◌, ◌↔◌, ◌⊎◌, ℕ, Bool, true, false, List, [], ◌∷◌, ◌++◌, Option, IsSome, Result, Ok, Err, codes, pos}
use Rattle.std.specs.Str.Parse.{digits_value}
use Rattle.std.specs.List.{flat_map}
use Rattle.std.specs.Str.{is_utf8}
use Rattle.gix_date.specs.declared.time.Time.{Time}
use Rattle.gix_date.specs.Header.Canonical.{header_kind, is_canonical_header}
use Rattle.gix_date.specs.declared.parsing.headers.HeaderKind.{HeaderKind}
use Rattle.gix_date.specs.declared.parsing.headers.HeaderKind.TheVariants as kinds
use Rattle.gix_date.specs.Text.Characters.{space}
use Rattle.gix_date.specs.Text.Numbers.{decimal_text}
use Rattle.gix_date.specs.Header.Text.{header_text, written_text}
use Rattle.jiff.specs.declared.zoned.Zoned.{Zoned}
use Rattle.gix_date.specs.Families.Answer.{FamilyAnswer}
use Rattle.gix_date.specs.Families.Order.{first_family, ParseNoAllocOutcome}
use Rattle.gix_date.specs.declared.error.ParseError.{ParseError}
use Rattle.gix_date.specs.declared.error.ParseError.TheVariants as errors
use Rattle.gix_date_tool.specs.declared.program.arguments.Mode.{Mode}
use Rattle.gix_date_tool.specs.declared.program.arguments.Mode.TheVariants.{Check, Parse, Sign}
use Rattle.gix_date_tool.specs.declared.runs.replies.Query.{Query}
use Rattle.gix_date_tool.specs.declared.runs.replies.Reply.{Reply}
use Rattle.gix_date_tool.specs.declared.runs.replies.Reply.TheVariants.{NotText, NoTime, Canonical, Read, Parsed, UnknownFormat}
use Rattle.gix_date_tool.specs.declared.runs.replies.Reply.TheVariants.{DateConversion, MissingMoment, OutOfRange, Signed, NoSignature}
use Rattle.streams.specs.Lines.{with_newline}
use Rattle.gix_date_tool.specs.Signed.{IsSigned, IsUnsigned, IsCanonicalLine}

-- the reply to a text by what it is as a header
abbrev pub kind_reply : HeaderKind → Reply
kind_reply kinds.Canonical = Canonical
kind_reply (kinds.Lenient time) = Read time
kind_reply kinds.NoHeader = NoTime

-- the reply of Check to a text: a canonical header, or else what it is read as
abbrev pub check_reply : List ℕ → Reply
check_reply text = kind_reply (header_kind text)

-- the reply of Check to a header of these seconds and the offset `-0000`, which is read as 0
abbrev pub unknown_reply : List ℕ → Reply
unknown_reply seconds = Read (record { seconds = pos (digits_value 10 seconds); offset = pos 0 })

-- the reply to what a call comes to
abbrev pub parse_reply : Result Time ParseError → Reply
parse_reply (Ok t) = Parsed t
parse_reply (Err errors.UnknownFormat) = UnknownFormat
parse_reply (Err errors.DateConversion) = DateConversion
parse_reply (Err errors.MissingNow) = MissingMoment
parse_reply (Err errors.Range) = OutOfRange

-- a time to be written has a header text
abbrev pub IsWritable : Reply → Type 0
IsWritable (Parsed t) = IsSome (header_text t)
IsWritable _ = Unit {0}

-- The reply of Parse, at this moment, to a text that the first family says this of, or that none holds. A time has a
-- header text.
abbrev pub IsParseReply : Option FamilyAnswer → Option Zoned → Reply → Type 0
IsParseReply answer now reply =
    (result : Result Time ParseError) × ParseNoAllocOutcome answer now result × (reply ≡ parse_reply result)
    × IsWritable reply

-- the reply of Sign to a text: the line that is written of its parts, or that there is none
unfoldable pub IsSignReply : List ℕ → Reply → Type 0
IsSignReply text reply =
    ((line : List ℕ) × IsSigned text line × (reply ≡ Signed line)) ⊎ (IsUnsigned text × (reply ≡ NoSignature))

-- the reply to a text in a mode
abbrev pub IsTextReply : Mode → Option Zoned → List ℕ → Reply → Type 0
IsTextReply Check now text reply = reply ≡ check_reply text
IsTextReply Parse now text reply = IsParseReply (first_family text) now reply
IsTextReply Sign now text reply = IsSignReply text reply

-- the reply to a line, which is text or not
abbrev pub IsReplyTo : Bool → Query → List ℕ → Reply → Type 0
IsReplyTo true query line reply = IsTextReply query.mode query.now line reply
IsReplyTo false query line reply = reply ≡ NotText

-- the reply to a line
unfoldable pub IsReply : Query → List ℕ → Reply → Type 0
IsReply query line reply = IsReplyTo (is_utf8 line) query line reply

-- the text of a reply
abbrev pub reply_text : Reply → List ℕ
reply_text NotText = codes "not text"
reply_text NoTime = codes "none"
reply_text Canonical = codes "canonical"
reply_text (Read t) = codes "read " ++ decimal_text t.seconds ++ space ∷ decimal_text t.offset
reply_text (Parsed t) = written_text t
reply_text UnknownFormat = codes "error unknown-format"
reply_text DateConversion = codes "error date-conversion"
reply_text MissingMoment = codes "error missing-moment"
reply_text OutOfRange = codes "error range"
reply_text (Signed line) = line
reply_text NoSignature = codes "none"

-- what is written of a reply: its text, and a newline
abbrev pub reply_line : Reply → List ℕ
reply_line reply = with_newline (reply_text reply)

-- what is written of some replies
abbrev pub reply_lines : List Reply → List ℕ
reply_lines replies = flat_map reply_line replies

-- the replies to some lines, in order
abbrev pub AreReplies : Query → List (List ℕ) → List Reply → Type 0
AreReplies query [] [] = Unit {0}
AreReplies query (line ∷ lines) (reply ∷ replies) = IsReply query line reply × AreReplies query lines replies
AreReplies query _ _ = ⊥

-- what is written of the replies to some lines is such a text
pub record Replied (Is : List ℕ → Type 0) (query : Query) (lines : List (List ℕ)) : Type 0 where
  pub replies : List Reply
  pub each : AreReplies query lines replies
  pub text : Is (reply_lines replies)

-- each line has one reply at most
unfoldable pub RepliesAreUnique : Type 0
RepliesAreUnique =
    (query : Query) (line : List ℕ) (reply other : Reply)
    → IsReply query line reply → IsReply query line other → reply ≡ other

-- in Check a line is replied to by `canonical` exactly where it is a canonical header
unfoldable pub CanonicalLines : List ℕ → Type 0
CanonicalLines line =
    (query : Query) → query.mode ≡ Check → IsReply query line Canonical ↔ (is_canonical_header line ≡ true)

-- in Sign a line is replied to by itself exactly where it is a canonical signature line
unfoldable pub UnchangedLines : List ℕ → Type 0
UnchangedLines line = (query : Query) → query.mode ≡ Sign → IsReply query line (Signed line) ↔ IsCanonicalLine line
