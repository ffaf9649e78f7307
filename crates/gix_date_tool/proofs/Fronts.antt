-- The replies to usual headers in front of some bytes.
use Rattle.std.proofs.Common.{◌≡◌, ℕ, List, [], ◌∷◌, ◌++◌, true, pos, refl, append_assoc, codes, IsAscii, arith, subst, Some, None, Ok, Err}
use Rattle.std.proofs.lemmas.Str.{is_utf8-from_IsUtf8, IsUtf8-from_ascii, IsAscii-append}
use Rattle.std.proofs.lemmas.Str.Ascii.{IsAscii-nil, IsAscii-cons}
use Rattle.std.specs.Borrow.{Bor}
use Rattle.std.specs.Fmt.{digits}
use Rattle.std.specs.declared.io.ErrorKind.{ErrorKind}
use Rattle.gix_date.specs.Devices.StreamState.{StreamState}
use Rattle.gix_date.specs.Text.Numbers.{decimal_text}
use Rattle.gix_date.specs.Header.CanonicalBytes.{are_usual_seconds}
use Rattle.gix_date.proofs.Fast.UnknownOffsets.{unknown-not-canonical, unknown-time, usual-written}
use Rattle.streams.proofs.HeaderLines.{seconds-ascii}
use Rattle.streams.specs.Outbox.{Puts, PutsProperPrefix, output}
use Rattle.streams.specs.Serving.{Answer, Front, Service, service}
use Rattle.streams.specs.Usual.{BeginsWithHeader, BeginsWithUnknown}
use Rattle.streams.specs.declared.error.ToolError.TheVariants as errors
use Rattle.streams.specs.declared.program.Outbox.{Outbox}
use Rattle.gix_date_tool.specs.declared.program.arguments.Mode.TheVariants.{Check}
use Rattle.gix_date_tool.specs.declared.runs.replies.Query.{Query}
use Rattle.gix_date_tool.specs.declared.runs.replies.Reply.TheVariants.{Canonical}
use Rattle.gix_date_tool.specs.declared.runs.serving.Replying.{Replying}
use Rattle.gix_date_tool.specs.Replies.{IsReply, reply_line, unknown_reply}
use Rattle.gix_date_tool.specs.Run.{RepliesTo, RepliesToFront, SendsReplies}
use Rattle.gix_date_tool.proofs.CanonicalLines.{canonical-line}
use Rattle.gix_date_tool.proofs.Serving.{Replied-one}

-- The reply to a header of the offset `-0000`.
unknown-ascii : IsAscii (codes " -0000")
unknown-ascii =
    IsAscii-cons 32 (codes "-0000") (omega arith) (IsAscii-cons 45 (codes "0000") (omega arith) (IsAscii-cons 48 (codes "000") (omega arith)
    (IsAscii-cons 48 (codes "00") (omega arith)
    (IsAscii-cons 48 (codes "0") (omega arith) (IsAscii-cons 48 [] (omega arith) IsAscii-nil)))))

unknown-lines : (query : Query) (ds : List ℕ) → query.mode ≡ Check → are_usual_seconds ds ≡ true
    → IsReply query (ds ++ codes " -0000") (unknown_reply ds)
unfolding IsReply
unknown-lines query ds m h =
    let line = ds ++ codes " -0000" in
    let u = is_utf8-from_IsUtf8 line (IsUtf8-from_ascii line (IsAscii-append ds (codes " -0000") (seconds-ascii ds h) unknown-ascii)) in
    let c = unknown-not-canonical ds h in
    let t = unknown-time ds h in
    rw (u, m, c, t) refl

zero-written : decimal_text (pos 0) ≡ codes "0"
unfolding digits
zero-written = refl

-- the text of such a reply, in its pieces
unknown-text : (ds : List ℕ) → are_usual_seconds ds ≡ true → codes "read " ++ (ds ++ (codes " 0\n" ++ [])) ≡ reply_line (unknown_reply ds)
unknown-text ds h = grind (arith, usual-written, zero-written, append_assoc)

-- the service before and after the reply
abbrev Replies : Replying → Outbox → StreamState → StreamState → StreamState → StreamState → List ℕ → Answer → Type 0
Replies old outbox x y m n line answer =
    RepliesTo (service old x m) (service (record { query = old.query; outbox = outbox }) y n) (line ∷ []) answer

canonical-replies : (old : Replying) (outbox : Outbox) (x y m n : StreamState) (bytes after : List ℕ) (answer : Answer)
    → old.query.mode ≡ Check
    → (h : BeginsWithHeader bytes after) → SendsReplies (output old.outbox x) (output outbox y) (codes "canonical\n") answer
    → (front : Front bytes after) × Replies old outbox x y m n front.line answer
canonical-replies old outbox x y m n bytes after answer mode h sent = (
  record { line = h.line; whole = h.whole; is_line = h.is_line; is_short = omega (arith, h.is_short) },
  (
    refl,
    Replied-one {Is = λ text. SendsReplies (output old.outbox x) (output outbox y) text answer} old.query h.line Canonical
        ((canonical-line h.line old.query mode).1 h.is_canonical) sent,
  ),
)

unknown-replies : (old : Replying) (outbox : Outbox) (x y m n : StreamState) (bytes seconds after : List ℕ) (answer : Answer)
    → old.query.mode ≡ Check
    → (h : BeginsWithUnknown bytes seconds after)
    → SendsReplies (output old.outbox x) (output outbox y) (codes "read " ++ (seconds ++ (codes " 0\n" ++ []))) answer
    → (front : Front bytes after) × Replies old outbox x y m n front.line answer
unknown-replies old outbox x y m n bytes seconds after answer mode h sent = (
  record { line = seconds ++ codes " -0000"; whole = h.whole; is_line = h.is_line; is_short = omega (arith, h.is_short) },
  (
    refl,
    Replied-one {Is = λ text. SendsReplies (output old.outbox x) (output outbox y) text answer} old.query (seconds ++ codes " -0000")
        (unknown_reply seconds)
        (unknown-lines old.query seconds mode h.are_seconds)
        (subst (λ text. SendsReplies (output old.outbox x) (output outbox y) text answer) (unknown-text seconds h.are_seconds) sent),
  ),
)

pub unknown_front : (s : Service Replying) (bytes : List ℕ) → RepliesToFront s s bytes (Ok None)
unfolding RepliesToFront
unknown_front s bytes = refl

pub canonical_served : (old : Replying) (outbox : Outbox) (x y m n : StreamState) (bytes : List ℕ) (after : Bor (List ℕ))
    → old.query.mode ≡ Check
    → BeginsWithHeader bytes after.now → Puts (output old.outbox x) (output outbox y) (codes "canonical\n")
    → RepliesToFront (service old x m) (service (record { query = old.query; outbox = outbox }) y n) bytes (Ok (Some after))
unfolding RepliesToFront
canonical_served old outbox x y m n bytes after mode h sent = canonical-replies old outbox x y m n bytes after.now (Ok tt) mode h sent

pub canonical_unserved : (old : Replying) (outbox : Outbox) (x y m n : StreamState) (bytes after : List ℕ) (kind : ErrorKind)
    → old.query.mode ≡ Check
    → BeginsWithHeader bytes after → PutsProperPrefix (output old.outbox x) (output outbox y) (codes "canonical\n") kind
    → RepliesToFront (service old x m) (service (record { query = old.query; outbox = outbox }) y n) bytes (Err (errors.Write kind))
unfolding RepliesToFront
canonical_unserved old outbox x y m n bytes after kind mode h sent =
    let replies = canonical-replies old outbox x y m n bytes after (Err (errors.Write kind)) mode h sent in
    (after, replies.0, replies.1)

pub unknown_served : (old : Replying) (outbox : Outbox) (x y m n : StreamState) (bytes seconds : List ℕ) (after : Bor (List ℕ))
    → old.query.mode ≡ Check
    → BeginsWithUnknown bytes seconds after.now
    → Puts (output old.outbox x) (output outbox y) (codes "read " ++ (seconds ++ (codes " 0\n" ++ [])))
    → RepliesToFront (service old x m) (service (record { query = old.query; outbox = outbox }) y n) bytes (Ok (Some after))
unfolding RepliesToFront
unknown_served old outbox x y m n bytes seconds after mode h sent =
    unknown-replies old outbox x y m n bytes seconds after.now (Ok tt) mode h sent

pub unknown_unserved : (old : Replying) (outbox : Outbox) (x y m n : StreamState) (bytes seconds after : List ℕ) (kind : ErrorKind)
    → old.query.mode ≡ Check
    → BeginsWithUnknown bytes seconds after
    → PutsProperPrefix (output old.outbox x) (output outbox y) (codes "read " ++ (seconds ++ (codes " 0\n" ++ []))) kind
    → RepliesToFront (service old x m) (service (record { query = old.query; outbox = outbox }) y n) bytes (Err (errors.Write kind))
unfolding RepliesToFront
unknown_unserved old outbox x y m n bytes seconds after kind mode h sent =
    let replies = unknown-replies old outbox x y m n bytes seconds after (Err (errors.Write kind)) mode h sent in
    (after, replies.0, replies.1)
