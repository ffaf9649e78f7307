-- The reply to a line, by what `parse` answers.
use Rattle.std.proofs.Common.{◌≡◌, ◌∙◌, ℕ, List, Bool, true, false, Option, Ok, sym, ap, refl, inl, inr}
use Rattle.std.specs.Str.{is_utf8}
use Rattle.jiff.specs.declared.zoned.Zoned.{Zoned}
use Rattle.gix_date.proofs.Relative.Chains.{one-outcome}
use Rattle.jiff.specs.Words.{IsOffsetSeconds}
use Rattle.gix_date.proofs.Header.HeaderTexts.{fitting_has_text}
use Rattle.gix_date.specs.Families.Answer.{FamilyAnswer}
use Rattle.gix_date.specs.Families.Order.{first_family, ParseNoAllocOutcome}
use Rattle.gix_date.specs.declared.time.Time.{Time}
use Rattle.gix_date_tool.specs.declared.program.arguments.Mode.{Mode}
use Rattle.gix_date_tool.specs.declared.program.arguments.Mode.TheVariants.{Check, Parse, Sign}
use Rattle.gix_date_tool.specs.declared.runs.replies.Query.{Query}
use Rattle.gix_date_tool.specs.declared.runs.replies.Reply.{Reply}
use Rattle.gix_date_tool.specs.Replies.{IsParseReply, IsReply, IsReplyTo, IsTextReply, IsSignReply, parse_reply, RepliesAreUnique}
use Rattle.gix_date_tool.specs.declared.runs.replies.Reply.TheVariants.{Parsed, Signed}
use Rattle.gix_date_tool.specs.Signed.{IsUnsigned}
use Rattle.gix_date_tool.proofs.Signing.{signed-once}

sign-once : (text : List ℕ) (a b : Reply) → IsSignReply text a → IsSignReply text b → a ≡ b
unfolding IsSignReply IsUnsigned
sign-once text a b (inl h) (inl g) = h.2 ∙ ap Signed (signed-once text h.0 g.0 h.1 g.1) ∙ sym g.2
sign-once text a b (inl h) (inr g) = absurd (g.0 h.0 h.1)
sign-once text a b (inr h) (inl g) = absurd (h.0 g.0 g.1)
sign-once text a b (inr h) (inr g) = h.1 ∙ sym g.1

text-once : (mode : Mode) (now : Option Zoned) (text : List ℕ) (a b : Reply) → IsTextReply mode now text a → IsTextReply mode now text b
    → a ≡ b
text-once Check now text a b h g = h ∙ sym g
text-once Parse now text a b h g = h.2 ∙ ap parse_reply (one-outcome (first_family text) now h.0 g.0 h.1 g.1) ∙ sym g.2
text-once Sign now text a b h g = sign-once text a b h g

line-once : (is_text : Bool) (query : Query) (line : List ℕ) (a b : Reply) → IsReplyTo is_text query line a → IsReplyTo is_text query line b
    → a ≡ b
line-once true query line a b h g = text-once query.mode query.now line a b h g
line-once false query line a b h g = h ∙ sym g

pub reply_once : RepliesAreUnique
unfolding IsReply RepliesAreUnique
reply_once query line a b h g = line-once (is_utf8 line) query line a b h g

-- the reply of a time
pub parsed_is : (family : Option FamilyAnswer) (now : Option Zoned) (t : Time) → ParseNoAllocOutcome family now (Ok t)
    → IsOffsetSeconds t.offset
    → IsParseReply family now (Parsed t)
parsed_is family now t is fits = (Ok t, is, refl, fitting_has_text t fits)
