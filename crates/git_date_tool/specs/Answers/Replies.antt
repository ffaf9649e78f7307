-- What a text is answered by.
use Rattle.std.specs.Prelude.{◌≡◌, ℕ, Bool, true, false, not, List, [], ◌∷◌, ◌++◌, Option, Some, None, is_none, Result, Ok, Err}
use Rattle.std.specs.Fmt.{decimal}
use Rattle.gix_date.specs.Text.Characters.{space}
use Rattle.git_date.specs.declared.approximate.Approximate.{Approximate}
use Rattle.git_date_tool.specs.Answers.Readers.{IsRead}
use Rattle.git_date_tool.specs.Answers.Refusals.{is_unclear, refusal_name, refusal_place}
use Rattle.git_date_tool.specs.Answers.Shown.{IsShown, line_text}
use Rattle.git_date_tool.specs.Answers.Warnings.{Told, warning_of, warning_view, warning_words}
use Rattle.git_date_tool.specs.declared.answers.Answer.{Answer}
use Rattle.git_date_tool.specs.declared.answers.Answer.TheVariants.{Date, Refused}
use Rattle.git_date_tool.specs.declared.answers.Query.{Query}
use Rattle.git_date_tool.specs.declared.answers.refusals.Refusal.{Refusal}
use Rattle.git_date_tool.specs.declared.answers.DateLine.{DateLine}

-- the line that answers a text, what a warning beside it says after the text's number, whether the text was read, and whether
-- its reader understood each word of it
pub record Reply : Type 0 where
  pub text : List ℕ
  pub warning : Option (List ℕ)
  pub is_date : Bool
  pub is_clear : Bool

-- how a place is written behind the name of a refusal
abbrev pub place_text : Option ℕ → List ℕ
place_text None = []
place_text (Some place) = space ∷ decimal place

-- what a refusal is called, and its place
abbrev pub refusal_text : Refusal → List ℕ
refusal_text e = refusal_name e ++ place_text (refusal_place e)

-- the reply to a text that is refused
abbrev pub refused : Refusal → Reply
refused e = record { text = refusal_text e; warning = None; is_date = false; is_clear = not (is_unclear e) }

-- the reply to a text that is a date: each word was understood where no warning stands beside it
abbrev pub dated : DateLine → Told → Reply
dated line told = record { text = line_text line; warning = warning_words told; is_date = true; is_clear = is_none (warning_words told) }

-- the reply to a text that was read, by the line that shows its date
abbrev pub line_reply : Result DateLine Refusal → Told → Reply
line_reply (Ok line) told = dated line told
line_reply (Err e) told = refused e

-- the reply to a text in which this was found
abbrev pub IsFoundReply : Query → List ℕ → Result Approximate Refusal → Reply → Type 0
IsFoundReply query text (Ok found) reply =
    (line : Result DateLine Refusal) × IsShown query.shown query.now found.time (Ok line)
    × (reply ≡ line_reply line (warning_of text found))
IsFoundReply query text (Err e) reply = reply ≡ refused e

-- the reply to the bytes of a text
unfoldable pub IsReply : Query → List ℕ → Reply → Type 0
IsReply query text reply =
    (found : Result Approximate Refusal) × IsRead query.reader query.strictness query.now text found
    × IsFoundReply query text found reply

-- what an answer of the code replies
abbrev pub answer_reply : Answer → Reply
answer_reply (Date line warning) = dated line (warning_view warning)
answer_reply (Refused e) = refused e
