-- What was sent of the reply to a line.
use Rattle.std.proofs.Common.{◌≡◌, ◌∙◌, ℕ, List, [], ◌∷◌, ◌++◌, Bool, true, false, cond, Some, None, Result, refl, sym, ap}
use Rattle.std.proofs.Common.{subst, append_assoc, arith, lit<}
use Rattle.std.proofs.lemmas.Str.{IsAscii-append, IsUtf8-from_ascii, is_utf8-from_IsUtf8}
use Rattle.std.proofs.lemmas.Str.Ascii.{IsAscii-cons, IsAscii-nil}
use Rattle.std.specs.Str.{IsAscii}
use Rattle.std.specs.Prelude.{IsUtf8, codes, nat_lt, unsigned_abs}
use Rattle.std.specs.declared.io.ErrorKind.{ErrorKind}
use Rattle.gix_date.proofs.Text.Texts.{no_text}
use Rattle.gix_date.specs.Families.Answer.{Absolute}
use Rattle.gix_date.specs.Families.Order.{first_family}
use Rattle.gix_date.specs.Header.Text.{header_text, hundred_hours, written_text}
use Rattle.gix_date.specs.Text.Characters.{newline, space}
use Rattle.gix_date.specs.Text.Numbers.{decimal_text}
use Rattle.gix_date.specs.declared.time.Time.{Time}
use Rattle.jiff.specs.Words.{IsOffsetSeconds}
use Rattle.streams.specs.Outbox.{Output, Sends}
use Rattle.gix_date_tool.specs.declared.program.arguments.Mode.{Mode}
use Rattle.gix_date_tool.specs.declared.program.arguments.Mode.TheVariants.{Check, Parse, Sign}
use Rattle.gix_date_tool.specs.declared.runs.replies.Query.{Query}
use Rattle.gix_date_tool.specs.declared.runs.replies.Reply.{Reply}
use Rattle.gix_date_tool.specs.declared.runs.replies.Reply.TheVariants.{NotText, Read, Parsed, DateConversion}
use Rattle.gix_date_tool.specs.Replies.{IsParseReply, IsReply, IsReplyTo, IsSignReply, IsTextReply, check_reply, reply_line}
use Rattle.gix_date_tool.specs.Run.{SendsReply, SendsSome}
use Rattle.gix_date_tool.proofs.Replying.{parsed_is}
use Rattle.gix_date_tool.proofs.Serving.{Replied-one}

abbrev Sent : Type 0
Sent = Result (Unit {0}) ErrorKind

-- the search for this alone stops short
pub date_sent : (a b : Output) (reply : Reply) (r : Sent) → reply ≡ DateConversion → Sends a b (codes "error date-conversion\n") r
    → Sends a b (reply_line reply) r
date_sent a b reply r is h = subst (λ reply. Sends a b (reply_line reply) r) (sym is) h

-- the text that a time has
held-text : (t : Time) (text : List ℕ) → header_text t ≡ Some text → text ≡ written_text t
unfolding header_text
held-text t text h = by (nat_lt (unsigned_abs t.offset) hundred_hours) h
  where
    by : (b : Bool) → cond b (Some (written_text t)) None ≡ Some text → text ≡ written_text t
    by true e = grind (arith)
    by false e = absurd cc

pub time_sent : (a b : Output) (t : Time) (text : List ℕ) (r : Sent) → header_text t ≡ Some text → Sends a b (text ++ newline ∷ []) r
    → Sends a b (reply_line (Parsed t)) r
time_sent a b t text r is h = subst (λ text. Sends a b (text ++ newline ∷ []) r) (held-text t text is) h

-- a line of ASCII is text
pub line_text : (line text : List ℕ) → line ≡ text → IsAscii text → IsUtf8 (line ++ newline ∷ [])
line_text line text is ascii =
    let whole = IsAscii-append text (newline ∷ []) ascii (IsAscii-cons newline [] (lit< tt) IsAscii-nil) in
    subst (λ (t : List ℕ). IsUtf8 (t ++ newline ∷ [])) (sym is) (IsUtf8-from_ascii (text ++ newline ∷ []) whole)

-- the pieces of a reading, one after the other
abbrev pieces_of : List ℕ → List ℕ → List ℕ
pieces_of seconds offset = codes "read " ++ (seconds ++ (space ∷ (offset ++ newline ∷ [])))

pub reading_sent : (a b : Output) (t : Time) (seconds offset : List ℕ) (r : Sent) → seconds ≡ decimal_text t.seconds
    → offset ≡ decimal_text t.offset
    → Sends a b (pieces_of seconds offset) r → Sends a b (reply_line (Read t)) r
reading_sent a b t seconds offset r s o h =
    subst (λ text. Sends a b text r)
    (ap (λ xs. pieces_of xs offset) s ∙ ap (pieces_of (decimal_text t.seconds)) o
    ∙ ap (λ xs. codes "read " ++ xs) (sym (append_assoc (decimal_text t.seconds) (space ∷ decimal_text t.offset) (newline ∷ [])))) h

-- the reply to a line that is text
text-reply : (query : Query) (mode : Mode) (text line : List ℕ) (reply : Reply) → text ≡ line → query.mode ≡ mode → IsUtf8 line
    → IsTextReply mode query.now text reply → IsReply query line reply
unfolding IsReply
text-reply query mode text line reply same in_mode is_text h =
    let here = subst (λ t. IsTextReply mode query.now t reply) same h in
    let asked_here = subst (λ m. IsTextReply m query.now line reply) (sym in_mode) here in
    subst (λ b. IsReplyTo b query line reply) (sym (is_utf8-from_IsUtf8 line is_text)) asked_here

pub check_sent : (a b : Output) (query : Query) (text line : List ℕ) (reply : Reply) (r : Sent) → text ≡ line → query.mode ≡ Check
    → IsUtf8 line
    → reply ≡ check_reply text → Sends a b (reply_line reply) r → SendsReply a b query line r
unfolding SendsReply
check_sent a b query text line reply r same mode is_text h sent =
    Replied-one {Is = λ text. Sends a b text r} query line reply (text-reply query Check text line reply same mode is_text h) sent

pub parse_sent : (a b : Output) (query : Query) (text line : List ℕ) (r : Sent) → text ≡ line → query.mode ≡ Parse → IsUtf8 line
    → SendsSome (IsParseReply (first_family text) query.now) a b r → SendsReply a b query line r
unfolding SendsReply
parse_sent a b query text line r same mode is_text h =
    Replied-one {Is = λ text. Sends a b text r} query line h.0 (text-reply query Parse text line h.0 same mode is_text h.1) h.2

-- of a usual date
pub usual_sent : (a b : Output) (query : Query) (text line : List ℕ) (t : Time) (r : Sent) → text ≡ line → query.mode ≡ Parse → IsUtf8 line
    → first_family text ≡ Some (Absolute t) → IsOffsetSeconds t.offset → Sends a b (reply_line (Parsed t)) r → SendsReply a b query line r
usual_sent a b query text line t r same mode is_text first fits sent =
    let reply = subst (λ family. IsParseReply family query.now (Parsed t)) (sym first)
    (parsed_is (Some (Absolute t)) query.now t refl fits) in
    parse_sent a b query text line r same mode is_text (Parsed t, reply, sent)

pub sign_sent : (a b : Output) (query : Query) (text line : List ℕ) (r : Sent) → text ≡ line → query.mode ≡ Sign → IsUtf8 line
    → SendsSome (IsSignReply text) a b r → SendsReply a b query line r
unfolding SendsReply
sign_sent a b query text line r same mode is_text h =
    Replied-one {Is = λ text. Sends a b text r} query line h.0 (text-reply query Sign text line h.0 same mode is_text h.1) h.2

-- the reply to a line that is not
pub not_text_sent : (a b : Output) (query : Query) (line : List ℕ) (r : Sent) → (IsUtf8 line → ⊥) → Sends a b (reply_line NotText) r
    → SendsReply a b query line r
unfolding SendsReply IsReply
not_text_sent a b query line r h sent =
    Replied-one {Is = λ text. Sends a b text r} query line NotText (subst (λ b. IsReplyTo b query line NotText) (sym (no_text line h)) refl)
    sent
