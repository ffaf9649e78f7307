-- A line is replied to by `canonical` exactly where it is a canonical header.
use Rattle.std.proofs.Common.{◌≡◌, ◌↔◌, ℕ, List, Bool, true, false, Option, Some, None, refl, arith}
use Rattle.std.proofs.lemmas.Str.{is_utf8-from_IsUtf8}
use Rattle.std.specs.Str.{is_utf8}
use Rattle.gix_date.specs.Header.Canonical.{is_canonical_header, kind_of}
use Rattle.gix_date.specs.Header.Reading.{header_time}
use Rattle.gix_date.specs.declared.time.Time.{Time}
use Rattle.gix_date.proofs.Header.HeaderLaws.{canonical-utf8}
use Rattle.gix_date_tool.specs.declared.program.arguments.Mode.{Mode}
use Rattle.gix_date_tool.specs.declared.program.arguments.Mode.TheVariants.{Check}
use Rattle.gix_date_tool.specs.declared.runs.replies.Query.{Query}
use Rattle.gix_date_tool.specs.declared.runs.replies.Reply.TheVariants.{Canonical}
use Rattle.gix_date_tool.specs.Replies.{IsReply, IsReplyTo, CanonicalLines, kind_reply}

-- no other reply is `canonical`
by-test : (test : Bool) (found : Option Time) → Canonical ≡ kind_reply (kind_of test found) → test ≡ true
by-test true found h = refl
by-test false None h = absurd cc
by-test false (Some t) h = absurd cc

by-mode : (mode : Mode) (query : Query) (line : List ℕ) (is_text : Bool) → query.mode ≡ Check → is_utf8 line ≡ is_text
    → IsReplyTo is_text query line Canonical → is_canonical_header line ≡ true
by-mode mode query line false m u h = absurd cc
by-mode mode query line true m u h = by-test (is_canonical_header line) (header_time line) (rw m at h)

pub canonical-line : (line : List ℕ) (query : Query) → query.mode ≡ Check → IsReply query line Canonical ↔ (is_canonical_header line ≡ true)
unfolding IsReply
canonical-line line query m = grind (arith, by-mode, is_utf8-from_IsUtf8, canonical-utf8)

pub canonical_lines : (line : List ℕ) → CanonicalLines line
unfolding CanonicalLines
canonical_lines line query m = canonical-line line query m
