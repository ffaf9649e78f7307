-- A line is replied to by itself in Sign exactly where it is a canonical signature line.
use Rattle.std.proofs.Common.{arith}
use Rattle.std.proofs.Common.{◌≡◌, ◌∙◌, ℕ, List, [], Bool, true, false, Option, Some, None, Ok, refl, sym, ap, subst, inl, inr}
use Rattle.std.specs.Str.{is_utf8}
use Rattle.gix_date.specs.Header.Laws.{ComesBack}
use Rattle.gix_date.specs.Header.Text.{header_text}
use Rattle.gix_date.proofs.Header.HeaderLaws.{canonical_taken, canonical_back, comes_back_canonical}
use Rattle.gix_signature.specs.Signature.{Parts, line_of}
use Rattle.gix_signature.proofs.Cuts.{the_cut}
use Rattle.gix_date_tool.specs.declared.program.arguments.Mode.TheVariants.{Sign}
use Rattle.gix_date_tool.specs.declared.runs.replies.Query.{Query}
use Rattle.gix_date_tool.specs.declared.runs.replies.Reply.{Reply}
use Rattle.gix_date_tool.specs.declared.runs.replies.Reply.TheVariants.{NotText, Signed, NoSignature}
use Rattle.gix_date_tool.specs.Replies.{IsReply, IsReplyTo, IsSignReply, UnchangedLines}
use Rattle.gix_date_tool.specs.Signed.{IsSigned, IsCanonicalLine}
use Rattle.gix_date_tool.proofs.Signing.{due-of, same-line}

-- where a line is due of its own parts, their time comes back
time-back : (line : List ℕ) (s : IsSigned line line) (o : Option (List ℕ)) → header_text s.time ≡ o → ComesBack s.parts.time
time-back line s None e = grind (arith, due-of)
time-back line s (Some x) e =
    let p : Parts = record { name = s.parts.name; email = s.parts.email; time = x } in
    let whole : line ≡ line_of p = same-line line (line_of p) (sym s.due ∙ due-of line s.parts s.time (Some x) s.cut e) in
    let parts : p ≡ s.parts = the_cut line p s.parts whole s.cut in
    record { time = s.time; is_read = s.read; is_written = e ∙ ap (λ (q : Parts). Some q.time) parts }

abbrev line-in : Reply → List ℕ
line-in (Signed line) = line
line-in _ = []

canonical-of : (line : List ℕ) → is_utf8 line ≡ true → IsSignReply line (Signed line) → IsCanonicalLine line
unfolding IsSignReply
canonical-of line u (inl h) =
    let same : line ≡ h.0 = ap line-in h.2 in
    let s : IsSigned line line = subst (IsSigned line) (sym same) h.1 in
    record {
      is_text = u;
      parts = s.parts;
      cut = s.cut;
      canonical =
          comes_back_canonical s.parts.time (time-back line s (header_text s.time) refl);
    }
canonical-of line u (inr h) = let clash : Signed line ≡ NoSignature = h.1 in absurd cc

signed-of : (line : List ℕ) → IsCanonicalLine line → IsSigned line line
signed-of line c =
    let p = c.parts in
    let back : ComesBack p.time = canonical_back p.time (canonical_taken p.time c.canonical) in
    record {
      parts = p;
      time = back.time;
      cut = c.cut;
      read = back.is_read;
      due =
          due-of line p back.time (Some p.time) c.cut back.is_written ∙ ap (λ (l : List ℕ). Ok l) (sym c.cut.whole);
    }

by-text : (query : Query) (line : List ℕ) (is_text : Bool) → query.mode ≡ Sign → is_utf8 line ≡ is_text
    → IsReplyTo is_text query line (Signed line) → IsCanonicalLine line
by-text query line false m u h = let clash : Signed line ≡ NotText = h in absurd cc
by-text query line true m u h = canonical-of line u (rw m at h)

pub unchanged_lines : (line : List ℕ) → UnchangedLines line
unfolding IsReply IsSignReply UnchangedLines
unchanged_lines line query m = grind (arith, by-text, signed-of)
