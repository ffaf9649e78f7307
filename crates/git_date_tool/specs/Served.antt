-- Laws of answering lines, which a server has to have.
use Rattle.std.proofs.Common.{◌≡◌, true, false, Bool, ℕ, List, [], ◌∷◌, ◌++◌, ◌&&◌, refl, sym, ap, ◌∙◌, subst, append_assoc, Ok, Err}
use Rattle.std.proofs.lemmas.List.Concat.{flat_map-append}
use Rattle.std.proofs.lemmas.List.Folds.{list_all-append}
use Rattle.std.specs.Option.{option_to_list}
use Rattle.gix_date.specs.Devices.StreamState.{StreamState}
use Rattle.streams.specs.Changes.{change}
use Rattle.streams.specs.Lines.{with_newline}
use Rattle.streams.specs.Serving.{Joins, Service, Stays}
use Rattle.streams.specs.declared.error.ToolError.{ToolError}
use Rattle.streams.specs.declared.error.ToolError.TheVariants as errors
use Rattle.streams.proofs.Sending.{Puts-nil, PutsProperPrefix-then, Puts-then}
use Rattle.git_date_tool.specs.Answers.Replies.{Reply}
use Rattle.git_date_tool.specs.Runs.{Answered, ComesTo, AnswersAll, AnswersTo, AreReplies, CutOff, LacksMemory, SendsReplies, Turn, Warns}
use Rattle.git_date_tool.specs.Runs.{both, first_verdict, next_number, number_after, reply_lines, turn_of, unsent_of, verdict_on}
use Rattle.git_date_tool.specs.declared.answers.Query.{Query}
use Rattle.git_date_tool.specs.declared.runs.Answering.{Answering}
use Rattle.git_date_tool.specs.declared.runs.Verdict.{Verdict}

AreReplies-append : (query : Query) (texts more : List (List ℕ)) (replies others : List Reply) → AreReplies query texts replies
    → AreReplies query more others
    → AreReplies query (texts ++ more) (replies ++ others)
AreReplies-append query [] more [] others h k = k
AreReplies-append query [] more (reply ∷ replies) others h k = absurd h
AreReplies-append query (text ∷ texts) more [] others h k = absurd h
AreReplies-append query (text ∷ texts) more (reply ∷ replies) others h k = (h.0, AreReplies-append query texts more replies others h.1 k)

Warns-append : (query : Query) (number : ℕ) (texts : List (List ℕ)) (replies others : List Reply) (a b c : StreamState)
    → AreReplies query texts replies
    → Warns query number a b replies → Warns query (number_after number texts) b c others → Warns query number a c (replies ++ others)
Warns-append query number [] [] others a b c each h k = subst (λ (s : StreamState). Warns query number s c others) h k
Warns-append query number [] (reply ∷ replies) others a b c each h k = absurd each
Warns-append query number (text ∷ texts) [] others a b c each h k = absurd each
Warns-append query number (text ∷ texts) (reply ∷ replies) others a b c each h k =
    (h.0, h.1, Warns-append query (next_number number) texts replies others h.0 b c each.1 h.2 k)

number_after-append : (number : ℕ) (texts more : List (List ℕ))
    → number_after number (texts ++ more) ≡ number_after (number_after number texts) more
number_after-append number [] more = refl
number_after-append number (text ∷ texts) more = number_after-append (next_number number) texts more

and_true : (a : Bool) → (a && true) ≡ a
and_true true = refl
and_true false = refl

and_assoc : (a b c : Bool) → ((a && b) && c) ≡ (a && (b && c))
and_assoc true b c = refl
and_assoc false b c = refl

both-assoc : (a b c : Verdict) → both (both a b) c ≡ both a (both b c)
both-assoc a b c =
    λ i. record { all_read = and_assoc a.all_read b.all_read c.all_read i; all_clear = and_assoc a.all_clear b.all_clear c.all_clear i }

-- nothing more is known of no text
pub both-first : (verdict : Verdict) → both verdict first_verdict ≡ verdict
both-first verdict = λ i. record { all_read = and_true verdict.all_read i; all_clear = and_true verdict.all_clear i }

verdict-append : (replies others : List Reply) → both (verdict_on replies) (verdict_on others) ≡ verdict_on (replies ++ others)
verdict-append replies others = λ i. record {
  all_read = sym (list_all-append (λ (r : Reply). r.is_date) replies others) i;
  all_clear = sym (list_all-append (λ (r : Reply). r.is_clear) replies others) i;
}

-- some texts were answered, and then more
Answered-append : (turn : Turn) (texts more : List (List ℕ)) (Some More Both : List ℕ → Type 0) (a b c : StreamState) (one two : Verdict)
    → ((x y : List ℕ) → Some x → More y → Both (x ++ y))
    → Answered turn texts Some (change a b) one
    → Answered (record turn { number = number_after turn.number texts }) more More (change b c) two
    → Answered turn (texts ++ more) Both (change a c) (both one two)
Answered-append turn texts more Some More Both a b c one two join h k = record {
  replies = h.replies ++ k.replies;
  each = AreReplies-append turn.query texts more h.replies k.replies h.each k.each;
  wrote = subst Both (sym (flat_map-append (λ (r : Reply). with_newline r.text) h.replies k.replies))
      (join (reply_lines h.replies) (reply_lines k.replies) h.wrote k.wrote);
  warned = Warns-append turn.query turn.number texts h.replies k.replies a b c h.each h.warned k.warned;
  verdict_is = ap (λ v. both v two) h.verdict_is ∙ ap (both (verdict_on h.replies)) k.verdict_is ∙ verdict-append h.replies k.replies;
}

-- some texts were answered, and then the writer refused
CutOff-append : (turn : Turn) (texts more : List (List ℕ)) (Some More Both : List ℕ → Type 0) (a b c : StreamState) (one : Verdict)
    → ((x y : List ℕ) → Some x → More y → Both (x ++ y))
    → Answered turn texts Some (change a b) one
    → CutOff (record turn { number = number_after turn.number texts }) more More (change b c)
    → CutOff turn (texts ++ more) Both (change a c)
CutOff-append turn texts more Some More Both a b c one join h k =
    let last = option_to_list k.last in
    let all = sym (append_assoc h.replies k.replies last) in
    record {
      front = texts ++ k.front;
      beyond = k.beyond;
      whole = ap (λ xs. texts ++ xs) k.whole ∙ sym (append_assoc texts k.front k.beyond);
      replies = h.replies ++ k.replies;
      last = k.last;
      each = subst (AreReplies turn.query (texts ++ k.front)) all
          (AreReplies-append turn.query texts k.front h.replies (k.replies ++ last) h.each k.each);
      wrote = subst (λ replies. Both (reply_lines replies)) all
          (subst Both (sym (flat_map-append (λ (r : Reply). with_newline r.text) h.replies (k.replies ++ last)))
          (join (reply_lines h.replies) (reply_lines (k.replies ++ last)) h.wrote k.wrote));
      warned = Warns-append turn.query turn.number texts h.replies k.replies a b c h.each h.warned k.warned;
    }

-- some texts were answered, and then there was no memory
LacksMemory-append : (turn : Turn) (texts more : List (List ℕ)) (Some More Both : List ℕ → Type 0) (a b c : StreamState) (one : Verdict)
    → ((x y : List ℕ) → Some x → More y → Both (x ++ y))
    → Answered turn texts Some (change a b) one
    → LacksMemory (record turn { number = number_after turn.number texts }) more More (change b c)
    → LacksMemory turn (texts ++ more) Both (change a c)
LacksMemory-append turn texts more Some More Both a b c one join h k = record {
  front = texts ++ k.front;
  text = k.text;
  beyond = k.beyond;
  whole = ap (λ xs. texts ++ xs) k.whole ∙ sym (append_assoc texts k.front (k.text ∷ k.beyond));
  verdict = both one k.verdict;
  before = Answered-append turn texts k.front Some More Both a b c one k.verdict join h k.before;
}

-- some texts were answered, and this came of more
comes-then : (a b c : Service Answering) (lines more : List (List ℕ)) (fault : ToolError) → AnswersAll a b lines
    → ComesTo b c more (Err fault) → ComesTo a c (lines ++ more) (Err fault)
comes-then a b c lines more (errors.Write kind) h k =
    CutOff-append (turn_of a.server) lines more (SendsReplies a b (Ok tt)) (SendsReplies b c (Err (errors.Write kind)))
    (SendsReplies a c (Err (errors.Write kind))) a.told b.told c.told h.verdict (λ x y p q. PutsProperPrefix-then p q) h.answered
    (subst (λ turn. CutOff turn more (SendsReplies b c (Err (errors.Write kind))) (change b.told c.told)) h.turn k)
comes-then a b c lines more errors.Memory h k =
    LacksMemory-append (turn_of a.server) lines more (SendsReplies a b (Ok tt)) (SendsReplies b c (Err errors.Memory))
    (SendsReplies a c (Err errors.Memory)) a.told b.told c.told h.verdict (λ x y p q. (Puts-then p q.0, q.1)) h.answered
    (subst (λ turn. LacksMemory turn more (SendsReplies b c (Err errors.Memory)) (change b.told c.told)) h.turn k)
comes-then a b c lines more (errors.Read kind) h k = absurd k
comes-then a b c lines more errors.LineTooLong h k = absurd k
comes-then a b c lines more errors.TooManyLines h k = absurd k

-- no line changes nothing
pub no_lines : Stays AnswersTo
no_lines s = record {
  verdict = first_verdict;
  answered = record { replies = []; each = tt; wrote = Puts-nil (unsent_of s); warned = refl; verdict_is = refl };
  turn = refl;
  all = sym (both-first s.server.verdict);
}

-- some lines, and then more
pub more_lines : Joins AnswersTo
more_lines a b c lines more (Ok u) h k =
    let after = subst (λ turn. Answered turn more (SendsReplies b c (Ok tt)) (change b.told c.told) k.verdict) h.turn k.answered in
    record {
      verdict = both h.verdict k.verdict;
      answered = Answered-append (turn_of a.server) lines more (SendsReplies a b (Ok tt)) (SendsReplies b c (Ok tt))
          (SendsReplies a c (Ok tt)) a.told b.told c.told h.verdict k.verdict (λ x y p q. Puts-then p q) h.answered after;
      turn = k.turn ∙ ap (λ (turn : Turn). record turn { number = number_after turn.number more }) h.turn
          ∙ ap (λ n. record (turn_of a.server) { number = n }) (sym (number_after-append a.server.number lines more));
      all = k.all ∙ ap (λ v. both v k.verdict) h.all ∙ both-assoc a.server.verdict h.verdict k.verdict;
    }
more_lines a b c lines more (Err fault) h k = comes-then a b c lines more fault h k
