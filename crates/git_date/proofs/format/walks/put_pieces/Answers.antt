use Rattle.std.proofs.Common.{◌≡◌, ◌∙◌, ◌+◌, ◌<◌, ℕ, true, List, [], ◌∷◌, ◌++◌, length, take, ap, sym, subst, arith, append-nil}
use Rattle.std.proofs.Common.{length-append, Option, Some, None, Ok, rules}
use Rattle.std.proofs.Math.Seq.{take-append-add}
use Rattle.std.proofs.lemmas.List.{take-append-le}
use Rattle.gix_date.specs.Devices.StreamState.{StreamState, Takes, TakesProperPrefix}
use Rattle.gix_date.proofs.Text.KnownBytes.{Appends-append}
use Rattle.std.specs.Io.KnownBytes.{Appends}
use Rattle.git_date.specs.Formats.Format.{piece_text, pieces_text}
use Rattle.git_date.specs.Formats.Pieces.{Piece, next_piece, is_format, pieces_or_none, piece_of}
use Rattle.git_date.specs.Formats.Shown.{Shown, shown_of}
use Rattle.git_date.proofs.Formats.Walks.{Left, left-next, left-more, texts-append, texts-more, left-all, left-fault, left-end, not-whole}
use Rattle.git_date.proofs.Formats.Walks.{pieces-are, some-left, none-left}
use Rattle.git_date.proofs.format.walks.put_pieces.Goals as goal

-- What a sink takes of the texts of pieces.
appends-nothing : (known : Option (List ℕ)) → Appends known known []
appends-nothing None = tt
appends-nothing (Some xs) = sym (append-nil xs)

-- a sink has taken nothing at first
takes-nothing : (state : StreamState) → Takes state state []
takes-nothing state = appends-nothing state.bytes

-- and then the text of one piece more
takes-more : (shown : Shown) (old mid new : StreamState) (done : List Piece) (piece : Piece) (text : List ℕ) → text ≡ piece_text shown piece
    → Takes old mid (pieces_text shown done) → Takes mid new text → Takes old new (pieces_text shown (done ++ piece ∷ []))
takes-more shown old mid new done piece text is h k =
    subst (Takes old new) (ap (λ (more : List ℕ). pieces_text shown done ++ more) is ∙ sym (texts-more shown done piece))
    (Appends-append old.bytes mid.bytes new.bytes (pieces_text shown done) text h k)

cut_after : (old mid new : StreamState) (xs ys : List ℕ) → Takes old mid xs → TakesProperPrefix mid new ys
    → TakesProperPrefix old new (xs ++ ys)
cut_after old mid new xs ys h k =
    let within = k.1 in (
      length xs + k.0,
      omega (arith, length-append xs ys),
      subst (Takes old new) (sym (take-append-add xs ys k.0)) (Appends-append old.bytes mid.bytes new.bytes xs (take k.0 ys) h k.2),
    )

cut-more : (old new : StreamState) (xs ys : List ℕ) → TakesProperPrefix old new xs → TakesProperPrefix old new (xs ++ ys)
cut-more old new xs ys h =
    let within = h.1 in
    (h.0, omega (arith, length-append xs ys), subst (Takes old new) (sym (take-append-le h.0 xs ys (omega arith))) h.2)

-- a refusal within a piece is one within the whole text
cut-within : (text rest further : List ℕ) (shown : Shown) (old mid new : StreamState) (piece : Piece) (part : List ℕ)
    → (left : Left text rest (λ done. Takes old mid (pieces_text shown done))) → 0 < length rest → Ok (piece, further) ≡ next_piece rest
    → length further < length rest → is_format text ≡ true → part ≡ piece_text shown piece → TakesProperPrefix mid new part
    → TakesProperPrefix old new (pieces_text shown (pieces_or_none text))
cut-within text rest further shown old mid new piece part left h e shorter whole is cut =
    let Cut : List Piece → Type 0 = λ ps. TakesProperPrefix old new (pieces_text shown ps) in
    let next : Left text further Cut =
    left-next text rest further (λ done. Takes old mid (pieces_text shown done)) Cut piece left h e shorter
    (λ done p.
    subst (TakesProperPrefix old new) (ap (λ (more : List ℕ). pieces_text shown done ++ more) is ∙ sym (texts-more shown done piece))
    (cut_after old mid new (pieces_text shown done) part p cut)) in
    let more = left-more text further Cut next whole in
    subst Cut more.1
    (subst (TakesProperPrefix old new) (sym (texts-append shown next.done more.0))
    (cut-more old new (pieces_text shown next.done) (pieces_text shown more.0) next.so_far))

pub pieces-init : goal.pieces-init
pieces-init g c = (search rules, left-all c.args.text.now _ (takes-nothing (g.W.Sink.known c.args.out.now)))

pub unreachable-requires : goal.unreachable-requires
unreachable-requires g c =
    not-whole c.args.text.now c.in_default.field-0 c.requires
    (left-fault c.args.text.now c.pieces.rest.now _ c.in_default.field-0 c.pieces.invariant.1
    (some-left c.pieces.rest.now c.pieces-test.ensures) c.in_default.ensures.value)

pub returns-in_err-put_all-clause-cut : goal.returns-in_err-put_all-clause-cut
returns-in_err-put_all-clause-cut g c =
    let old = g.W.Sink.known c.args.out.now in
    let mid = g.W.Sink.known c.pieces.out in
    let new = g.W.Sink.known c.put_all.new.out in
    let fact : TakesProperPrefix old new (pieces_text (shown_of c.args.shown.now) (pieces_or_none c.args.text.now)) =
    cut-within c.args.text.now c.pieces.rest.now c.in-Ok.left.now (shown_of c.args.shown.now) old mid new (piece_of c.in-Ok.piece)
    c.as_bytes.result.now
    c.pieces.invariant.1 (some-left c.pieces.rest.now c.pieces-test.ensures) c.in-Ok.ensures.value c.in-Ok.ensures.shorter c.requires
    (c.as_bytes.ensures.value ∙ c.as_str.ensures ∙ c.chunk_of.ensures) c.in_err-put_all.ensures.cut in
    search (rules, fact)

pub pieces-preserved : goal.pieces-preserved
pieces-preserved g c =
    let old = g.W.Sink.known c.args.out.now in
    let mid = g.W.Sink.known c.pieces.out in
    let new = g.W.Sink.known c.put_all.new.out in (
      search rules,
      left-next c.args.text.now c.pieces.rest.now c.in-Ok.left.now _ _ (piece_of c.in-Ok.piece) c.pieces.invariant.1
          (some-left c.pieces.rest.now c.pieces-test.ensures) c.in-Ok.ensures.value c.in-Ok.ensures.shorter
          (λ done p.
          takes-more (shown_of c.args.shown.now) old mid new done (piece_of c.in-Ok.piece) c.as_bytes.result.now
          (c.as_bytes.ensures.value ∙ c.as_str.ensures ∙ c.chunk_of.ensures) p c.in_ok-put_all.ensures.ok),
    )

pub returns-clause-ok : goal.returns-clause-ok
returns-clause-ok g c =
    let left = c.pieces.invariant.1 in
    let old = g.W.Sink.known c.args.out.now in
    let new = g.W.Sink.known c.pieces.out in
    let all = pieces-are c.args.text.now left.done
    (left-end c.args.text.now c.pieces.rest.now _ left (none-left c.pieces.rest.now c.pieces-test.ensures)) in
    let P : List Piece → Type 0 = λ ps. Takes old new (pieces_text (shown_of c.args.shown.now) ps) in
    subst P all left.so_far
