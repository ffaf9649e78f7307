-- Laws of replying to lines, which a server has to have.
use Rattle.std.proofs.Common.{◌∙◌, ℕ, List, [], ◌∷◌, ◌++◌, refl, sym, subst, Ok, Err}
use Rattle.std.proofs.lemmas.List.Concat.{flat_map-append}
use Rattle.gix_date_tool.specs.declared.runs.replies.Query.{Query}
use Rattle.gix_date_tool.specs.declared.runs.replies.Reply.{Reply}
use Rattle.gix_date_tool.specs.Replies.{AreReplies, Replied, reply_line, reply_lines}
use Rattle.gix_date_tool.specs.Run.{RepliesTo, SendsReplies, output_of}
use Rattle.streams.specs.Outbox.{Output, Puts}
use Rattle.streams.specs.Serving.{Answer, Joins, Stays}
use Rattle.streams.specs.declared.error.ToolError.TheVariants as errors
use Rattle.streams.proofs.Sending.{Puts-nil, PutsProperPrefix-then, Puts-then}

AreReplies-append : (query : Query) (lines more : List (List ℕ)) (replies others : List Reply) → AreReplies query lines replies
    → AreReplies query more others
    → AreReplies query (lines ++ more) (replies ++ others)
AreReplies-append query [] more [] others h k = k
AreReplies-append query [] more (reply ∷ replies) others h k = absurd h
AreReplies-append query (line ∷ lines) more [] others h k = absurd h
AreReplies-append query (line ∷ lines) more (reply ∷ replies) others h k = (h.0, AreReplies-append query lines more replies others h.1 k)

-- one text, and then what sending the next came to
sends-then : {a b : Output} {x : List ℕ} (c : Output) (y : List ℕ) (answer : Answer) → Puts a b x → SendsReplies b c y answer
    → SendsReplies a c (x ++ y) answer
sends-then c y (Ok u) h k = Puts-then h k
sends-then c y (Err (errors.Write kind)) h k = PutsProperPrefix-then h k
sends-then c y (Err (errors.Read kind)) h k = absurd k
sends-then c y (Err errors.Memory) h k = absurd k
sends-then c y (Err errors.LineTooLong) h k = absurd k
sends-then c y (Err errors.TooManyLines) h k = absurd k

-- no line has no reply
-- no line changes nothing
pub no_lines : Stays RepliesTo
no_lines s = (refl, record { replies = []; each = tt; text = Puts-nil (output_of s) })

-- some lines were replied to, and then more
-- some lines, and then more
pub more_lines : Joins RepliesTo
more_lines a b c lines more answer h k' =
    let k : Replied (λ text. SendsReplies (output_of b) (output_of c) text answer) a.server.query more =
    subst (λ query. Replied (λ text. SendsReplies (output_of b) (output_of c) text answer) query more) h.0 k'.1 in (
      k'.0 ∙ h.0,
      record {
        replies = h.1.replies ++ k.replies;
        each = AreReplies-append a.server.query lines more h.1.replies k.replies h.1.each k.each;
        text = subst (λ text. SendsReplies (output_of a) (output_of c) text answer) (sym (flat_map-append reply_line h.1.replies k.replies))
            (sends-then (output_of c) (reply_lines k.replies) answer h.1.text k.text);
      },
    )
